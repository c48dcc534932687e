use Rattle.line_editor.specs.Accepting.{bare, validate}
use Rattle.line_editor.proofs.DoesLemmas.{does_both_by, does_cut_by}
use Rattle.line_editor.proofs.state.State.accept.Goals as goal

pub returns-in_err-bare_line-clause-does : goal.returns-in_err-bare_line-clause-does
returns-in_err-bare_line-clause-does g c = does_cut_by bare validate _ _ _ _ c.from_residual.ensures.1 c.in_err-bare_line.ensures.does

pub returns-in_err-found-clause-does : goal.returns-in_err-found-clause-does
returns-in_err-found-clause-does g c = does_both_by bare validate _ _ _ _ _ _ c.from_residual-in_err-found.ensures.1 c.in_ok-bare_line.ensures.does c.in_err-found.ensures.does
