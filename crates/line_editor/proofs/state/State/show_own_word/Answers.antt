use Rattle.line_editor.specs.Drawing.{beep_effect, refresh_effect}
use Rattle.line_editor.proofs.DoesLemmas.{does_both, does_cut_by}
use Rattle.line_editor.proofs.state.State.show_own_word.Goals as goal

pub returns-in_err-refresh : goal.returns-in_err-refresh
returns-in_err-refresh g c = does_cut_by refresh_effect beep_effect _ _ _ _ c.from_residual.ensures.1 c.in_err-refresh.ensures.does

pub returns : goal.returns
returns g c = does_both refresh_effect beep_effect _ _ _ _ _ c.in_ok-refresh.ensures.does c.beep.ensures.does
