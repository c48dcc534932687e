use Rattle.std.proofs.Common.{refl, rules}
use Rattle.line_editor.proofs.HelpedLemmas.{judging_refused}
use Rattle.line_editor.proofs.state.State.open_and_ask.Goals as goal

pub returns-in_err-found-clause-does : goal.returns-in_err-found-clause-does
returns-in_err-found-clause-does g c = judging_refused _ _ _ _ c.from_residual-in_err-found.ensures.1 c.in_err-found.ensures.helps.fault (search rules) refl
    (assumption)
