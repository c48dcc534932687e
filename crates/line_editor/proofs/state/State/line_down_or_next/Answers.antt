use Rattle.line_editor.proofs.RowLemmas.{down_cut}
use Rattle.line_editor.proofs.state.State.line_down_or_next.Goals as goal

pub returns-in_err-edit_move_line_down : goal.returns-in_err-edit_move_line_down
returns-in_err-edit_move_line_down g c = record { does = down_cut c.args.n _ _ _ _ c.from_residual.ensures.1 c.in_err-edit_move_line_down.ensures.does }
