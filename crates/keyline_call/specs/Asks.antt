-- Keys of the caller's own, as a text names them.
use Rattle.std.specs.Prelude.{◌≡◌, ℕ, ◌==◌, Bool, false, if◌then◌else◌, List, [], ◌∷◌, Option, Some, None, is_some, option_map}
use Rattle.std.specs.List.{list_any}
use Rattle.line_config.specs.declared.device.Last.TheVariants.{End}
use Rattle.line_config.specs.declared.errors.ReadlineError.{ReadlineError}
use Rattle.line_config.specs.declared.errors.ReadlineError.TheVariants.{Eof}
use Rattle.line_config.specs.declared.settings.EditMode.{EditMode}
use Rattle.line_keys.specs.CustomBindings.{Custom, custom_of, Meaning}
use Rattle.line_keys.specs.KeyFeeds.{Coming, Pressed, Ends, Refused, refusal_of}
use Rattle.line_keys.specs.Events.{normal_event, find, same_event}
use Rattle.line_keys.specs.declared.events.Event.{Event}
use Rattle.line_keys.specs.declared.events.Event.TheVariants.{KeySeq}
use Rattle.line_keys.specs.declared.key.KeyEvent.{KeyEvent}
use Rattle.keyline.specs.Sessions.{coming_from}
use Rattle.keyline_call.specs.declared.asking.Asking.{Asking}

abbrev pub is_zero : ℕ → Bool
is_zero byte = byte == 0

-- a byte at the front of the first row
abbrev pub in_front : ℕ → List (List ℕ) → List (List ℕ)
in_front byte [] = (byte ∷ []) ∷ []
in_front byte (row ∷ rows) = (byte ∷ row) ∷ rows

-- the rows of a text, each ended by a zero; the last may end with the text
abbrev pub rows_of : List ℕ → List (List ℕ)
rows_of [] = []
rows_of (byte ∷ bytes) = if is_zero byte then [] ∷ rows_of bytes else in_front byte (rows_of bytes)

-- no more keys, if this is the end
abbrev pub none_more : ReadlineError → Option (List KeyEvent)
none_more Eof = Some []
none_more why = None

-- the keys that come, if nothing else does up to the end
abbrev pub keys_alone : Coming → Option (List KeyEvent)
keys_alone (Pressed bytes k rest) = option_map (λ keys. k ∷ keys) (keys_alone rest)
keys_alone (Ends bytes last left) = none_more (refusal_of last)
keys_alone (Refused bytes why) = none_more why
keys_alone c = None

-- the keys that send these bytes
abbrev pub keys_in : EditMode → List ℕ → Option (List KeyEvent)
keys_in mode row = keys_alone (coming_from mode row End)

-- a row names its keys as one event, in the normal form of bindings
abbrev pub is_event : Event → Option (List KeyEvent) → Bool
is_event e (Some keys) = same_event (normal_event (KeySeq keys)) e
is_event e None = false

abbrev pub names : EditMode → Event → List ℕ → Bool
names mode e row = is_event e (keys_in mode row)

-- bound are the events that the rows of a text name
pub record AreAsked (mode : EditMode) (text : List ℕ) (bindings : List (Event × Asking)) : Type 0
  where
    pub each : (e : Event) → is_some (find e bindings) ≡ list_any (names mode e) (rows_of text)

-- a line that comes to such a key stops there
abbrev pub stops_at : Asking → Meaning
stops_at asking showing = record { answer = None; takes = false }

abbrev pub custom_by_asking : List (Event × Asking) → Custom
custom_by_asking bindings = custom_of bindings stops_at
