use Rattle.line_editor.proofs.HelpedLemmas.{anew_made, anew_refused}
use Rattle.line_editor.proofs.state.State.ask_anew.Goals as goal

pub returns-in_err-hint : goal.returns-in_err-hint
returns-in_err-hint g c = record { does = anew_refused _ _ _ _ c.from_residual.ensures.1 c.in_err-hint.ensures.does }

pub returns : goal.returns
returns g c = record { does = anew_made _ _ _ _ _ c.in_ok-hint.ensures.does c.mark.ensures.value c.mark.ensures.out c.mark.ensures.layout c.mark.ensures.stays }
