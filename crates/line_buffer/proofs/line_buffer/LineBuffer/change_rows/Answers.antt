use Rattle.std.proofs.Common.{refl, slice_range}
use Rattle.line_buffer.proofs.LeftLemmas.{edits_refused, stopped_for_memory}
use Rattle.line_buffer.proofs.RowStepLemmas.{row_events-some, row_event_tells}
use Rattle.line_buffer.proofs.line_buffer.LineBuffer.change_rows.Goals as goal

pub returns-in_err-changed : goal.returns-in_err-changed
returns-in_err-changed g c =
    let some = row_events-some c.args.margin.now c.args.dedent c.args.rows.start (slice_range c.args.self.now.text c.args.rows.start c.args.rows.end) in
    edits_refused _ _ c.from_residual.ensures.1 (stopped_for_memory _ _ _ some.0 _ _ _ _ some.1 (row_event_tells c.args.margin.now c.args.dedent c.args.rows.start _) refl)
