use Rattle.line_editor.proofs.RowLemmas.{up_cut}
use Rattle.line_editor.proofs.state.State.line_up_or_previous.Goals as goal

pub returns-in_err-edit_move_line_up : goal.returns-in_err-edit_move_line_up
returns-in_err-edit_move_line_up g c = record { does = up_cut c.args.n _ _ _ _ c.from_residual.ensures.1 c.in_err-edit_move_line_up.ensures.does }
