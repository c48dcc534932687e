use Rattle.std.proofs.Common.{refl, rules}
use Rattle.line_buffer.proofs.LeftLemmas.{edits_refused, stopped_for_memory, stopped_as}
use Rattle.line_buffer.proofs.RowStepLemmas.{indent_events-some}
use Rattle.line_buffer.proofs.line_buffer.LineBuffer.indent.Goals as goal

pub returns-in_err-margin : goal.returns-in_err-margin
returns-in_err-margin g c =
    let some = indent_events-some c.args.movement.now c.args.amount c.args.dedent c.args.self.now in
    edits_refused _ _ c.from_residual.ensures.1 (stopped_for_memory _ _ _ some.never some.first _ _ _ some.events some.tells refl)

pub returns-in_err-change_rows : goal.returns-in_err-change_rows
returns-in_err-change_rows g c = edits_refused _ _ c.from_residual-in_err-change_rows.ensures.1 (stopped_as (search rules) refl c.in_err-change_rows.ensures.left)
