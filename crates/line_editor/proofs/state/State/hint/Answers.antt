use Rattle.line_editor.proofs.HelpedLemmas.{hint_refused}
use Rattle.line_editor.proofs.state.State.hint.Goals as goal

pub returns-in_err-self-clause-does : goal.returns-in_err-self-clause-does
returns-in_err-self-clause-does g c = hint_refused _ _ _ c.from_residual.ensures.1 c.in_err-self.ensures.helps.fault
