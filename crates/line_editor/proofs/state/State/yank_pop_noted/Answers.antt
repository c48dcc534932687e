use Rattle.std.proofs.Common.{◌-◌, refl, sym, ap, subst, ◌∙◌}
use Rattle.line_edits.specs.Edits.{pop_group}
use Rattle.line_editor.specs.Drawing.{since, refresh_effect_since}
use Rattle.line_editor.specs.States.{value_of, setting_of}
use Rattle.line_editor.specs.Yanking.{pop_text}
use Rattle.line_editor.proofs.EditLemmas.{text_popped, edit_then, edit_refused}
use Rattle.line_buffer.specs.Line.{Line}
use Rattle.line_editor.specs.RenderCalls.{known_within}
use Rattle.line_editor.proofs.KnownLemmas.{Begins, left_known, pop_begins}
use Rattle.line_editor.proofs.state.State.yank_pop_noted.Goals as goal
use Rattle.line_editor.proofs.DoesLemmas.{stays_by}

pub invariant_of-self-2 : goal.invariant_of-self-2
invariant_of-self-2 g c =
    let s = c.args.self.now in
    let l = s.recorded.line in
    record {
      is_known = left_known (g.Out.Renderer.canvas.ruler s.out).measure s.layout.prompt_size (l.place - c.args.yank_size) l.text _ s.known _
          (λ k near low. subst (λ (x : Line). Begins k l.text x.text) (sym c.in_ok-yank_pop.ensures.writes.line) (pop_begins c.args.yank_size c.args.text.now k l near low))
          (c.known_within-known.ensures ∙ ap (λ place. known_within (place - c.args.yank_size) s.known) c.pos.ensures.value) s.is_known;
    }

pub returns-in_err-yank_pop : goal.returns-in_err-yank_pop
returns-in_err-yank_pop g c =
    let s = c.args.self.now in
    let edit = pop_group c.args.yank_size c.args.text.now in
    record {
      does = edit_refused (pop_text c.args.yank_size c.args.text.now) (refresh_effect_since c.since-since.result) edit (value_of s) s
          _ _ _ _ c.from_residual.ensures.1 (text_popped c.args.yank_size c.args.text.now c.since-since.result (setting_of s) (value_of s)
          (sym c.can_take_before.ensures.value ∙ c.if-not-can_take_before.false)
          (c.since-since.ensures ∙ ap (λ place. since (setting_of s) (place - c.args.yank_size) (value_of s)) c.pos.ensures.value)) refl
          c.in_err-yank_pop.ensures refl refl (assumption);
    }

pub returns : goal.returns
returns g c =
    let s = c.args.self.now in
    let edit = pop_group c.args.yank_size c.args.text.now in
    record {
      does = edit_then (pop_text c.args.yank_size c.args.text.now) (refresh_effect_since c.since-since.result) edit (value_of s) s _ _ _ _ _ _
          (text_popped c.args.yank_size c.args.text.now c.since-since.result (setting_of s) (value_of s)
          (sym c.can_take_before.ensures.value ∙ c.if-not-can_take_before.false)
          (c.since-since.ensures ∙ ap (λ place. since (setting_of s) (place - c.args.yank_size) (value_of s)) c.pos.ensures.value)) refl
          c.in_ok-yank_pop.ensures refl refl (stays_by refl refl refl refl refl refl) c.refresh_since.ensures.does;
    }
