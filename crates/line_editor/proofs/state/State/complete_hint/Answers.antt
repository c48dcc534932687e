use Rattle.std.proofs.Common.{refl, sym, ap, ◌∙◌}
use Rattle.std.specs.Prelude.{option_copied, not}
use Rattle.line_editor.proofs.HintLemmas.{at_end, hint_unput, hint_taken, hint_refused}
use Rattle.line_editor.proofs.state.State.complete_hint.Goals as goal
use Rattle.line_editor.proofs.DoesLemmas.{stays_by}

pub returns-in_err-put : goal.returns-in_err-put
returns-in_err-put g c = record {
  does = hint_refused c.in-Some.hint _ _ _ _ _ _ c.from_residual.ensures.1 c.in-Some.is (sym c.completion.ensures ∙ ap option_copied c.in-Some-completion.is) (at_end c.args.self.now _ c.move_end.ensures.line) c.in_err-put.ensures.writes c.in_err-put.ensures.refused refl refl
      (assumption);
}

pub returns-then-is_none : goal.returns-then-is_none
returns-then-is_none g c = record {
  does = hint_unput c.in-Some.hint _ _ _ _ _ _ _ c.in-Some.is (sym c.completion.ensures ∙ ap option_copied c.in-Some-completion.is) (at_end c.args.self.now _ c.move_end.ensures.line) c.in_ok-put.ensures.writes (c.is_none.ensures ∙ ap not c.if-is_none.true) refl refl
      (stays_by refl refl refl refl refl refl) c.beep_and_refresh-then-is_none.ensures.does;
}

pub returns : goal.returns
returns g c = record {
  does = hint_taken c.in-Some.hint _ _ _ _ _ _ _ c.in-Some.is (sym c.completion.ensures ∙ ap option_copied c.in-Some-completion.is) (at_end c.args.self.now _ c.move_end.ensures.line) c.in_ok-put.ensures.writes (c.is_none.ensures ∙ ap not c.if-is_none.false) refl refl
      (stays_by refl refl refl refl refl refl) c.refresh.ensures.does;
}
