use Rattle.line_keys.specs.declared.command.CmdKind.TheVariants.{ForcedRefresh}
use Rattle.line_editor.specs.Drawing.{cursor_end_effect}
use Rattle.line_editor.specs.Moving.{move_buffer_end}
use Rattle.line_editor.proofs.DoesLemmas.{does_both, renders_cut_by}
use Rattle.line_editor.proofs.state.State.submit.Goals as goal

pub returns-in_err-edit_move_buffer_end : goal.returns-in_err-edit_move_buffer_end
returns-in_err-edit_move_buffer_end g c = renders_cut_by (move_buffer_end ForcedRefresh) cursor_end_effect _ _ _ _ c.from_residual.ensures.1 c.in_err-edit_move_buffer_end.ensures

pub returns : goal.returns
returns g c = record {
  does = does_both (move_buffer_end ForcedRefresh) cursor_end_effect _ _ _ _ _ c.in_ok-edit_move_buffer_end.ensures.does c.move_cursor_to_end.ensures.does;
  fault = c.move_cursor_to_end.ensures.fault;
}
