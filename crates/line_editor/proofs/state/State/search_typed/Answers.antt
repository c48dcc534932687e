use Rattle.std.specs.Prelude.{Some, string_bytes}
use Rattle.std.proofs.Common.{inl, inr, ap, ◌∙◌, rules}
use Rattle.line_editor.specs.Modal.{Modal, modal_of}
use Rattle.line_editor.specs.Searching.{look, modal_with_char}
use Rattle.line_editor.proofs.MeetLemmas.{unmade, typed_shown}
use Rattle.line_editor.proofs.state.State.search_typed.Goals as goal

pub returns-in_err-type_in-clause-does : goal.returns-in_err-type_in-clause-does
returns-in_err-type_in-clause-does g c =
    let q = modal_of c.args.modal.now in
    unmade (look q.dir (Some q.at) (modal_with_char c.args.c q)) _ _ (search rules)

pub returns-clause-does : goal.returns-clause-does
returns-clause-does g c =
    typed_shown c.args.c (modal_of c.args.modal.now) (modal_of c.type_in.new.self) _ _ _ c.in_ok-type_in.ensures.ok c.look.ensures.does

pub returns-in_err-type_in-clause-query : goal.returns-in_err-type_in-clause-query
returns-in_err-type_in-clause-query g c = inl c.in_err-type_in.ensures.same

pub returns-clause-query : goal.returns-clause-query
returns-clause-query g c = inr (ap string_bytes c.look.ensures.query ∙ ap (λ (q : Modal). q.query) c.in_ok-type_in.ensures.ok)
