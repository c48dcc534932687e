use Rattle.std.proofs.Common.{length}
use Rattle.line_buffer.proofs.ColumnLemmas.{PartsText}
use Rattle.line_buffer.proofs.columns.last_part.Given as goal

abbrev pub invariant-loop-c : goal.invariant-loop-c
invariant-loop-c l = PartsText l.text l.end l.front.rest.now l.next l.flags l.inside

abbrev pub decreases-loop-c : goal.decreases-loop-c
decreases-loop-c l = length l.front.rest.now
