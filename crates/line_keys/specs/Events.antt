-- Events: their keys, their normal form, and maps from them to bindings.
use Rattle.std.specs.Prelude.{◌≡◌, ℕ, Bool, false, IsFalse, List, [], ◌∷◌, AllPairs, map, Option, None, option_map, find as first_passing, slice_get, if◌then◌else◌}
use Rattle.std.specs.List.{AllByRecursion, list_any, starts_with}
use Rattle.line_keys.specs.declared.key.KeyEvent.{KeyEvent}
use Rattle.line_keys.specs.declared.events.Event.{Event}
use Rattle.line_keys.specs.declared.events.Event.TheVariants.{KeySeq}
use Rattle.line_keys.specs.contracts.events.EventPartialEq.TheImpl as event_eq
use Rattle.line_keys.specs.Keys.{normal, same_key}

abbrev pub single : KeyEvent → Event
single k = KeySeq (k ∷ [])

abbrev pub key_number : Event → ℕ → Option KeyEvent
key_number (KeySeq keys) i = slice_get keys i
key_number e i = None

abbrev pub normal_event : Event → Event
normal_event (KeySeq keys) = KeySeq (map normal keys)
normal_event e = e

-- the event is a sequence that starts with these keys, or equals them
abbrev pub begins_with : List KeyEvent → Event → Bool
begins_with keys (KeySeq sequence) = starts_with same_key sequence keys
begins_with keys e = false

-- ---- a map, as pairs of event and binding in the order in which they were bound

abbrev pub same_event : Event → Event → Bool
same_event = (event_eq.ghosts).eq

abbrev pub has_event : {H : Type 0} → Event → (Event × H) → Bool
has_event e b = same_event b.0 e

-- the binding of the first entry with this event
abbrev pub find : {H : Type 0} → Event → List (Event × H) → Option H
find e entries = option_map (λ b. b.1) (first_passing (has_event e) entries)

-- some entry's event is a sequence that starts with these keys, or equals them
abbrev pub begins : {H : Type 0} → List KeyEvent → List (Event × H) → Bool
begins keys entries = list_any (λ b. begins_with keys b.0) entries

-- the map with this value, or none, at this event
abbrev pub map_with : {H : Type 0} → Event → Option H → (Event → Option H) → Event → Option H
map_with e value map other = if same_event e other then value else map other

-- it is the normal form of some event
abbrev pub IsNormal : Event → Type 0
IsNormal e = (typed : Event) × (e ≡ normal_event typed)

-- what is true of the bindings of a map: no two have the same event, and each event is normal
pub record IsMap {H : Type 0} (bindings : List (Event × H)) : Type 0 where
  pub distinct : AllPairs (λ a b. IsFalse (same_event a.0 b.0)) bindings
  pub normal : AllByRecursion (λ b. IsNormal b.0) bindings
