use Rattle.std.proofs.Common.{refl, sym, ap, ◌∙◌}
use Rattle.std.specs.Prelude.{is_some, not}
use Rattle.line_edits.specs.Edits.{char_steps}
use Rattle.line_editor.specs.Drawing.{since}
use Rattle.line_editor.specs.Inserting.{insertion_way, show_inserted_effect, insert_char}
use Rattle.line_editor.specs.States.{value_of, setting_of}
use Rattle.line_editor.specs.RenderCalls.{known_within}
use Rattle.line_editor.proofs.EditLemmas.{char_put, char_put_by, nothing_typed, edit_then, edit_refused}
use Rattle.line_editor.proofs.KnownLemmas.{typed_known}
use Rattle.line_editor.proofs.state.State.insert_noted.Goals as goal
use Rattle.line_editor.proofs.DoesLemmas.{stays_by}

pub invariant_of-self-2 : goal.invariant_of-self-2
invariant_of-self-2 g c =
    let s = c.args.self.now in
    record {
      is_known = typed_known (g.Out.Renderer.canvas.ruler s.out).measure s.layout.prompt_size c.args.ch c.args.n s.recorded.line _ s.known _
          c.in_ok-inserted.ensures.writes.writes.line (c.known_within-known.ensures ∙ ap (λ place. known_within place s.known) c.pos-pos.ensures.value) s.is_known;
    }

pub returns-in_err-inserted : goal.returns-in_err-inserted
returns-in_err-inserted g c =
    let s = c.args.self.now in
    let shown = show_inserted_effect c.args.ch (insertion_way (setting_of s) c.args.ch c.args.n (value_of s)) (since (setting_of s) s.recorded.line.place (value_of s)) in
    record {
      does = edit_refused (insert_char c.args.ch c.args.n) shown (char_steps c.args.ch c.args.n) (value_of s) s _ _ _ _ c.from_residual.ensures.1
          (char_put c.args.ch c.args.n (setting_of s) (value_of s) c.in_err-inserted.ensures.refused) refl c.in_err-inserted.ensures.writes refl refl
          (assumption);
    }

pub returns-then-is_none : goal.returns-then-is_none
returns-then-is_none g c = record {
  does = nothing_typed c.args.ch c.args.n c.args.self.now _ _ _ (c.is_none.ensures ∙ ap not c.if-is_none.true) c.in_ok-inserted.ensures.writes refl refl
      (assumption);
}

pub returns : goal.returns
returns g c =
    let s = c.args.self.now in
    record {
      does = edit_then (insert_char c.args.ch c.args.n)
          (show_inserted_effect c.args.ch c.insertion_way-way.result c.since-since.result) (char_steps c.args.ch c.args.n) (value_of s) s _ _ _ _ _ _
          (char_put_by c.args.ch c.args.n c.insertion_way-way.result c.since-since.result (setting_of s) (value_of s)
          (ap is_some (sym c.in_ok-inserted.ensures.writes.writes.answers) ∙ c.is_none.ensures ∙ ap not c.if-is_none.false) c.insertion_way-way.ensures
          (c.since-since.ensures ∙ ap (λ place. since (setting_of s) place (value_of s)) c.pos-pos.ensures.value))
          refl c.in_ok-inserted.ensures.writes refl refl (stays_by refl refl refl refl refl refl) c.show_inserted.ensures.does;
    }
