use Rattle.line_editor.specs.Drawing.{refresh_effect}
use Rattle.line_editor.proofs.DoesLemmas.{does_both, does_cut_by}
use Rattle.line_editor.proofs.state.State.clear_and_draw.Goals as goal
use Rattle.line_editor.specs.Redraws.Redraw.{Cleared}
use Rattle.line_editor.specs.Values.{draw_effect}

pub returns-in_err-clear_screen : goal.returns-in_err-clear_screen
returns-in_err-clear_screen g c = record { does = does_cut_by (draw_effect Cleared) refresh_effect _ _ _ _ c.from_residual.ensures.1 c.in_err-clear_screen.ensures.does }

pub returns : goal.returns
returns g c = record { does = does_both (draw_effect Cleared) refresh_effect _ _ _ _ _ c.in_ok-clear_screen.ensures.does c.refresh.ensures.does }
