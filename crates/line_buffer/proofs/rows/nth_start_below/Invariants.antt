use Rattle.std.proofs.Common.{◌-◌}
use Rattle.line_buffer.proofs.RowWalkLemmas.{WalksDown}
use Rattle.line_buffer.proofs.rows.nth_start_below.Given as goal

abbrev pub invariant-loop : goal.invariant-loop
invariant-loop l = WalksDown l.text l.n l.found (l.n - l.counter) l.start
