-- A line of the keys so far: its arguments and its result.
use Rattle.std.specs.Prelude.{◌≡◌, ◌⊎◌, ℕ, ◌<◌, Bool, if◌then◌else◌, List, [], Result, IsErrAnd, length, string_bytes}
use Rattle.std.specs.List.{flat_map}
use Rattle.line_config.specs.declared.device.Last.{Last}
use Rattle.line_config.specs.declared.device.Last.TheVariants.{End, Failed}
use Rattle.line_config.specs.declared.errors.ReadlineError.{ReadlineError}
use Rattle.line_config.specs.declared.errors.ReadlineError.TheVariants.{Display, Helper, Memory}
use Rattle.line_config.specs.declared.memory.VecSink.{VecSink}
use Rattle.line_editor.specs.LineRun.{IsOpen}
use Rattle.line_editor.specs.Values.{Value, first_value}
use Rattle.line_keys.specs.KeyFeeds.{answer_map, bytes_to_come}
use Rattle.line_keys.specs.declared.events.Event.{Event}
use Rattle.keyline.specs.Program.{config_of, given_with}
use Rattle.keyline.specs.SessionCalls.{history_loaded_from}
use Rattle.keyline.specs.Events.{Course, bytes_drawn, line_course, line_play_in}
use Rattle.keyline.specs.Sessions.{Given, SessionState, coming_from, setting_in, state_at}
use Rattle.keyline.specs.declared.options.Options.{Options}
use Rattle.keyline_call.specs.Asks.{AreAsked, custom_by_asking}
use Rattle.keyline_call.specs.Meant.{AreMeant, AreValid, settings_by, whole, words_in}
use Rattle.keyline_call.specs.declared.asking.Asking.{Asking}
use Rattle.keyline_call.specs.declared.export.KeylineOptions.{KeylineOptions}
use Rattle.keyline_call.specs.declared.line.Left.{Left}
use Rattle.keyline_call.specs.declared.status.CallStatus.{CallStatus}
use Rattle.keyline_call.specs.declared.status.CallStatus.TheVariants as Refusal

-- what follows the keys: their end, or a failure if more keys may follow
abbrev pub last_of : Bool → Last
last_of ended = if ended then End else Failed

-- memory ran out: for the line, for its display bytes, or for its helper
abbrev pub IsWant : ReadlineError → Type 0
IsWant e = (e ≡ Memory) ⊎ ((e ≡ Display) ⊎ (e ≡ Helper))

-- the value at which it begins
abbrev pub value_first : Given → SessionState → Value
value_first g x = first_value (setting_in g x.history.kept.entries)

-- if memory didn't run out, the result is the line's, and so many bytes are unread after it. A line
-- that isn't accepted is returned as it stands
pub record LeftBy (held : VecSink → List ℕ)
    (line : Course (Result (List ℕ) ReadlineError × SessionState)) (first standing : Value)
    (left : Left) : Type 0 where
  pub outcome_is : answer_map string_bytes left.outcome ≡ line.answer.0
  pub line_is : IsOpen left.outcome first standing left.open_line
  pub drawn : held left.display ≡ flat_map bytes_drawn line.events
  pub ring_is : left.ring ≡ line.answer.1.ring
  pub history_is : left.history ≡ line.answer.1.history
  pub rest_is : left.rest ≡ length (bytes_to_come line.answer.1.coming)

-- the relation of a line. More fuel than the source has bytes is enough
pub record ReadsLine (held : VecSink → List ℕ) (g : Given) (x : SessionState) (bound : ℕ)
    (left : Left) : Type 0 where
  pub goes : (n : ℕ) → bound < n →
      LeftBy held (line_course n g x) (value_first g x) (line_play_in n g x).rest.value left
      ⊎ IsErrAnd left.outcome IsWant

module _ (options : KeylineOptions) (prompt words history kills ends : List ℕ) where
  -- the relation of a line and its arguments: they are valid, and it is the line of these keys,
  -- with these words, this history and these slots
  pub record ReadsKeys (held : VecSink → List ℕ) (keys asks : List ℕ) (left : Left) : Type 0 where
    pub valid : AreValid options prompt words history kills ends
    pub chosen : Options
    pub meant : AreMeant options prompt chosen
    -- those keys stop the line
    pub bindings : List (Event × Asking)
    pub are_asked : AreAsked chosen.mode asks bindings
    pub reads : let config = settings_by options (config_of chosen) in
        ReadsLine held (given_with config (custom_by_asking bindings) chosen (words_in words))
        (state_at valid.ring_is.0 [] (history_loaded_from config (whole history))
        (coming_from chosen.mode keys (last_of options.ended))) (length keys) left

  -- why a line isn't read: an argument is invalid, or all are valid and memory ran out
  abbrev pub IsRefused : CallStatus → Type 0
  IsRefused Refusal.Argument = AreValid options prompt words history kills ends → ⊥
  IsRefused Refusal.Memory = AreValid options prompt words history kills ends
  IsRefused why = ⊥
