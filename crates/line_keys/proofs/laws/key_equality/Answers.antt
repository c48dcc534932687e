use Rattle.line_keys.proofs.Equality.{keys_hash_alike}
use Rattle.line_keys.proofs.SameEventsLemmas.{same_key-decides}
use Rattle.line_keys.proofs.laws.key_equality.Goals as goal

pub returns : goal.returns
returns c = record { values = same_key-decides; hash = keys_hash_alike }
