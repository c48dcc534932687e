-- The lemmas that each shape of a body goes by.
use Rattle.line_keys.proofs.Asking.{none_asked}
use Rattle.line_keys.proofs.RowActions.{change_first, motion_then}
use Rattle.line_keys.proofs.Equality.{events_hash_alike, keys_hash_alike}
use Rattle.line_keys.proofs.Following.{as_follows, ask_follows, ask_stops, becomes_follows, decides_follow, ends_follow, granted_follows, read_follows, read_stops, silent_follows, then_follows, then_stops, whole_read}
use Rattle.line_keys.proofs.KeyReads.{key_of_press, made_of_read, no_press, not_made}
use Rattle.line_keys.proofs.Places.{entry_at, found_at, found_nowhere}
use Rattle.line_keys.proofs.Remembering.{remember_follows}
use Rattle.line_keys.proofs.SameEventsLemmas.{same_key-decides, same_event-decides}
use Rattle.line_keys.proofs.Turns.{sequence_begun, sequence_unbegun, sequence_unkept}

-- calls that follow a part: its reads and requests, and parts one after the other
pub ruleset calls = (none_asked, key_of_press, no_press, made_of_read, not_made, read_stops, read_follows, ask_stops, ask_follows, becomes_follows, then_stops, then_follows, silent_follows, whole_read, decides_follow, granted_follows, remember_follows, sequence_unbegun, sequence_unkept, sequence_begun, ends_follow, as_follows)

pub ruleset entry = (entry_at, found_at, found_nowhere)

pub ruleset event_equality = (same_event-decides, events_hash_alike)

pub ruleset key_equality = (same_key-decides, keys_hash_alike)

pub ruleset motions = (change_first, motion_then)
