use Rattle.std.proofs.Common.{◌-◌, slice_range}
use Rattle.line_buffer.specs.Indent.{rows_of, row_events}
use Rattle.line_buffer.proofs.RowStepLemmas.{RowsTold}
use Rattle.line_buffer.proofs.gap_buffer.GapBuffer.change_rows.Given as goal

abbrev pub invariant-rows : goal.invariant-rows
invariant-rows g l =
    RowsTold g.C.DeleteListener.takes l.margin l.dedent (row_events l.margin l.dedent l.fn.self.1 (rows_of (slice_range l.fn.self.0.text l.fn.self.1 l.fn.upto))) l.fn.cl l.cl l.fn.self.0 l.self.0 l.self.1 l.last

abbrev pub decreases-rows : goal.decreases-rows
decreases-rows g l = l.last - l.self.1
