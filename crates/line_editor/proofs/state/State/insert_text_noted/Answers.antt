use Rattle.std.proofs.Common.{refl, sym, ap, subst, ◌∙◌}
use Rattle.line_edits.specs.Edits.{text_steps}
use Rattle.line_editor.specs.Drawing.{since, refresh_effect_since}
use Rattle.line_editor.specs.Inserting.{insert_text}
use Rattle.line_editor.specs.States.{value_of, setting_of}
use Rattle.line_editor.proofs.EditLemmas.{edit_then, edit_refused, text_put, text_put_by}
use Rattle.line_buffer.specs.Line.{Line}
use Rattle.line_editor.specs.RenderCalls.{known_within}
use Rattle.line_editor.proofs.KnownLemmas.{Begins, left_known, text_begins}
use Rattle.line_editor.proofs.state.State.insert_text_noted.Goals as goal
use Rattle.line_editor.proofs.DoesLemmas.{stays_by}

pub invariant_of-self-2 : goal.invariant_of-self-2
invariant_of-self-2 g c =
    let s = c.args.self.now in
    let l = s.recorded.line in
    record {
      is_known = left_known (g.Out.Renderer.canvas.ruler s.out).measure s.layout.prompt_size l.place l.text _ s.known _
          (λ k near low. subst (λ (x : Line). Begins k l.text x.text) (sym c.in_ok-insert_text.ensures.writes.line) (text_begins c.args.text.now k l near low))
          (c.known_within-known.ensures ∙ ap (λ place. known_within place s.known) c.pos-pos.ensures.value) s.is_known;
    }

pub returns-in_err-insert_text : goal.returns-in_err-insert_text
returns-in_err-insert_text g c =
    let s = c.args.self.now in
    record {
      does = edit_refused (insert_text c.args.text.now) (refresh_effect_since (since (setting_of s) s.recorded.line.place (value_of s))) (text_steps c.args.text.now)
          (value_of s) s _ _ _ _ c.from_residual.ensures.1 (text_put c.args.text.now (setting_of s) (value_of s)
          (sym c.is_empty.ensures ∙ c.if-is_empty.false)) refl c.in_err-insert_text.ensures refl refl (assumption);
    }

pub returns : goal.returns
returns g c =
    let s = c.args.self.now in
    record {
      does = edit_then (insert_text c.args.text.now) (refresh_effect_since c.since-since.result) (text_steps c.args.text.now) (value_of s) s _ _ _ _ _ _
          (text_put_by c.args.text.now c.since-since.result (setting_of s) (value_of s) (sym c.is_empty.ensures ∙ c.if-is_empty.false)
          (c.since-since.ensures ∙ ap (λ place. since (setting_of s) place (value_of s)) c.pos-pos.ensures.value)) refl c.in_ok-insert_text.ensures refl refl
          (stays_by refl refl refl refl refl refl) c.refresh_since.ensures.does;
    }
