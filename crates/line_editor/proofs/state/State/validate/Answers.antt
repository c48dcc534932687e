use Rattle.std.proofs.Common.{not, ap, ◌∙◌}
use Rattle.line_editor.proofs.HelpedLemmas.{validate_unasked, validate_untold, validate_made}
use Rattle.line_editor.proofs.state.State.validate.Goals as goal

pub returns-in_err-found-clause-does : goal.returns-in_err-found-clause-does
returns-in_err-found-clause-does g c = validate_unasked _ _ _ _ (c.is_none.ensures ∙ ap not c.if-is_none.false) c.from_residual.ensures.1 c.in_err-found.ensures.does

pub returns-in_err-close_and_tell-clause-does : goal.returns-in_err-close_and_tell-clause-does
returns-in_err-close_and_tell-clause-does g c =
    validate_untold c.in_ok-found.found _ _ _ _ _ _ (c.is_none.ensures ∙ ap not c.if-is_none.false) c.from_residual-in_err-close_and_tell.ensures.1 c.in_ok-found.ensures.verdict c.in_ok-found.ensures.does c.in_err-close_and_tell.ensures.does

pub returns-clause-does : goal.returns-clause-does
returns-clause-does g c = validate_made c.in_ok-found.found _ _ _ _ _ _ (c.is_none.ensures ∙ ap not c.if-is_none.false) c.in_ok-found.ensures.verdict c.in_ok-found.ensures.does c.in_ok-close_and_tell.ensures.does
