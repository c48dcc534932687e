use Rattle.std.proofs.Common.{◌-◌}
use Rattle.line_buffer.proofs.RowWalkLemmas.{WalksUp}
use Rattle.line_buffer.proofs.rows.nth_start_above.Given as goal

abbrev pub invariant-loop : goal.invariant-loop
invariant-loop l = WalksUp l.text l.n l.found (l.n - l.counter) l.start
