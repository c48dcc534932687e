use Rattle.std.specs.Prelude.{Some, None, option_copied}
use Rattle.std.proofs.Common.{not, sym, ap, ◌∙◌}
use Rattle.line_editor.proofs.CompleteLemmas.{complete_refused, complete_made}
use Rattle.line_editor.proofs.state.State.complete.Goals as goal

pub returns-in_err-start : goal.returns-in_err-start
returns-in_err-start g c = record { does = complete_refused _ _ _ (c.is_none.ensures ∙ ap not c.if-is_none.false) c.from_residual.ensures.1 c.in_err-start.ensures.helps.fault }

pub returns-in-Some : goal.returns-in-Some
returns-in-Some g c = record {
  does = complete_made c.in_ok-start.start c.in_ok-start.candidates.items (Some c.in-Some.text.now) _ _ _ (c.is_none.ensures ∙ ap not c.if-is_none.false) c.in_ok-start.ensures.found
      (rw c.deref.ensures.value at (sym c.elected.ensures.value ∙ ap option_copied c.in-Some.is)) c.in_ok-start.ensures.helps.works c.complete_word.ensures.does;
}

pub returns : goal.returns
returns g c = record {
  does = complete_made c.in_ok-start.start c.in_ok-start.candidates.items None _ _ _ (c.is_none.ensures ∙ ap not c.if-is_none.false) c.in_ok-start.ensures.found
      (rw c.deref.ensures.value at (sym c.elected.ensures.value ∙ ap option_copied c.in-None.is)) c.in_ok-start.ensures.helps.works c.beep.ensures.does;
}
