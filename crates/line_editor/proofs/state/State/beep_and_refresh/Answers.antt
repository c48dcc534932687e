use Rattle.line_editor.specs.Drawing.{beep_effect, refresh_effect}
use Rattle.line_editor.proofs.DoesLemmas.{does_both, does_cut_by}
use Rattle.line_editor.proofs.state.State.beep_and_refresh.Goals as goal

pub returns-in_err-beep : goal.returns-in_err-beep
returns-in_err-beep g c = record { does = does_cut_by beep_effect refresh_effect _ _ _ _ c.from_residual.ensures.1 c.in_err-beep.ensures.does }

pub returns : goal.returns
returns g c = record { does = does_both beep_effect refresh_effect _ _ _ _ _ c.in_ok-beep.ensures.does c.refresh.ensures.does }
