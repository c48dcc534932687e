-- Equal keys and equal events have one hash.
use Rattle.std.proofs.Common.{◌≡◌, IsTrue, ap}
use Rattle.line_keys.specs.Keys.{same_key}
use Rattle.line_keys.specs.Events.{same_event}
use Rattle.line_keys.specs.declared.key.KeyEvent.{KeyEvent}
use Rattle.line_keys.specs.declared.events.Event.{Event}
use Rattle.line_keys.specs.contracts.key.KeyEventHash.TheImpl as key_hash
use Rattle.line_keys.specs.contracts.events.EventHash.TheImpl as event_hash
use Rattle.line_keys.proofs.SameEventsLemmas.{same_key-decides, same_event-decides}

pub keys_hash_alike : (a b : KeyEvent) → IsTrue (same_key a b) → (key_hash.ghosts).hash_input a ≡ (key_hash.ghosts).hash_input b
keys_hash_alike a b h = ap (key_hash.ghosts).hash_input ((same_key-decides a b).0 h)

pub events_hash_alike : (a b : Event) → IsTrue (same_event a b) → (event_hash.ghosts).hash_input a ≡ (event_hash.ghosts).hash_input b
events_hash_alike a b h = ap (event_hash.ghosts).hash_input ((same_event-decides a b).0 h)
