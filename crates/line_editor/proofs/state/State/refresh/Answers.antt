use Rattle.line_editor.specs.Drawing.{ask_anew_effect, draw_effect_since}
use Rattle.line_editor.proofs.DoesLemmas.{does_both, does_cut_by}
use Rattle.line_editor.proofs.state.State.refresh.Goals as goal
use Rattle.std.specs.Prelude.{None}

pub returns-in_err-ask_anew : goal.returns-in_err-ask_anew
returns-in_err-ask_anew g c = record { does = does_cut_by ask_anew_effect (draw_effect_since None) _ _ _ _ c.from_residual.ensures.1 c.in_err-ask_anew.ensures.does }

pub returns : goal.returns
returns g c = record { does = does_both ask_anew_effect (draw_effect_since None) _ _ _ _ _ c.in_ok-ask_anew.ensures.does c.repaint.ensures.does }
