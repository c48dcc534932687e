-- The state of a ring after it has lent a text.
use Rattle.std.specs.Prelude.{◌≡◌, ⊤}
use Rattle.std.specs.Borrow.{follows_so, Fml, MutBor}
use mathlib.Core.Option.{none}
use Rattle.line_record.specs.Ring.{Ring}
use Rattle.line_record.specs.contracts.kill_ring.KillRing.{the_row}

abbrev pub ends_as : MutBor Ring → Ring → Fml
ends_as s r = follows_so the_row the_row s.ghost_name none (λ _ _. ⊤) (λ v. v ≡ r)
