use Rattle.std.proofs.Common.{◌≡◌, ◌&&◌, false, sym, ap, ◌∙◌, true}
use Rattle.std.proofs.Math.Bool.{and-false}
use Rattle.std.proofs.lemmas.Bool.{and_from, and_parts}
use Rattle.line_editor.specs.Drawing.{ask_anew_effect}
use Rattle.line_editor.specs.Inserting.{is_bare}
use Rattle.line_editor.specs.Transforms.{has_letters, show_rewritten_effect}
use Rattle.line_editor.specs.States.{value_of}
use Rattle.line_editor.proofs.DoesLemmas.{does_cut_by}
use Rattle.line_editor.proofs.HelpedLemmas.{rewritten_made}
use Rattle.line_editor.proofs.state.State.refresh_over.Goals as goal
use Rattle.line_editor.proofs.state.State.refresh_over.Goals.{else-over-via-then-over+else-has_letters, else-over-via-else-over}

pub returns-in_err-ask_anew : goal.returns-in_err-ask_anew
returns-in_err-ask_anew g c = record { does = does_cut_by ask_anew_effect (show_rewritten_effect c.args.over c.args.from c.args.upto) _ _ _ _ c.from_residual.ensures.1 c.in_err-ask_anew.ensures.does }

pub returns-then-has_letters : goal.returns-then-has_letters
returns-then-has_letters g c = record {
  does = rewritten_made c.args.over c.args.from c.args.upto true _ _ _ _ _ (and_from _ _ c.if-over.true (sym c.has_letters.ensures ∙ c.if-has_letters.true)) c.in_ok-ask_anew.ensures.does c.show_rewritten.ensures.does;
}

pub returns-else-over : goal.returns-else-over
returns-else-over g c =
    let m = c.ask_anew.new.self in
    let over = c.args.over in
    let has = has_letters c.args.from c.args.upto (value_of m) in
    let none : (over && has) ≡ false = elim c.else-over.branch [
      | else-over-via-then-over+else-has_letters w ↦ ap (λ b. over && b) (sym w.has_letters.ensures ∙ w.if-has_letters.false) ∙ and-false over
      | else-over-via-else-over w ↦ ap (λ b. b && has) w.if-over.false
    ] in
    record { does = rewritten_made over c.args.from c.args.upto false _ _ _ _ _ none c.in_ok-ask_anew.ensures.does c.repaint.ensures.does }

pub show_rewritten-requires-clause-bare : goal.show_rewritten-requires-clause-bare
show_rewritten-requires-clause-bare g c =
    let v = value_of c.ask_anew.new.self in
    (and_parts (is_bare v) _ (sym c.has_letters.ensures ∙ c.if-has_letters.true)).0
