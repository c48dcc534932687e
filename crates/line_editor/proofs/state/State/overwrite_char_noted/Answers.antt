use Rattle.std.proofs.Common.{refl, sym, ap, subst, ◌∙◌}
use Rattle.std.specs.Prelude.{is_some}
use Rattle.line_buffer.specs.Clusters.{place_forward}
use Rattle.line_edits.specs.Edits.{overwrite_steps}
use Rattle.line_edits.specs.WriteSteps.{line_and_record_in}
use Rattle.line_editor.specs.Drawing.{since, refresh_effect_since, effect_if}
use Rattle.line_editor.specs.Inserting.{clusters_replaced}
use Rattle.line_editor.specs.States.{value_of, setting_of}
use Rattle.line_editor.proofs.EditLemmas.{overwrites_if, edit_then, edit_refused, drawn_since_if, undrawn_if}
use Rattle.line_buffer.specs.Line.{Line}
use Rattle.line_editor.specs.RenderCalls.{known_within}
use Rattle.line_editor.proofs.KnownLemmas.{Begins, left_known, over_begins}
use Rattle.line_editor.proofs.state.State.overwrite_char_noted.Goals as goal
use Rattle.line_editor.proofs.DoesLemmas.{stays_by}

pub invariant_of-self-2 : goal.invariant_of-self-2
invariant_of-self-2 g c =
    let s = c.args.self.now in
    let l = s.recorded.line in
    record {
      is_known = left_known (g.Out.Renderer.canvas.ruler s.out).measure s.layout.prompt_size l.place l.text _ s.known _
          (λ k near low. subst (λ (x : Line). Begins k l.text x.text) (sym c.in_ok-written.ensures.writes.line) (over_begins c.args.ch (place_forward 1 l) k (line_and_record_in s.recorded) near low))
          (c.known_within-known.ensures ∙ ap (λ place. known_within place s.known) c.pos-pos.ensures.value) s.is_known;
    }

pub returns-in_err-written : goal.returns-in_err-written
returns-in_err-written g c =
    let s = c.args.self.now in
    record {
      does = edit_refused (clusters_replaced 1 (overwrite_steps c.args.ch)) (effect_if (is_some (place_forward 1 s.recorded.line)) (refresh_effect_since (since (setting_of s) s.recorded.line.place (value_of s)))) (overwrite_steps c.args.ch) (value_of s) s _ _ _ _ c.from_residual.ensures.1 refl refl c.in_err-written.ensures refl refl (assumption);
    }

pub returns-then-written : goal.returns-then-written
returns-then-written g c =
    let s = c.args.self.now in
    record {
      does = edit_then (clusters_replaced 1 (overwrite_steps c.args.ch)) (effect_if (is_some (place_forward 1 s.recorded.line)) (refresh_effect_since (since (setting_of s) s.recorded.line.place (value_of s)))) (overwrite_steps c.args.ch) (value_of s) s _ _ _ _ _ _ refl refl c.in_ok-written.ensures refl refl (stays_by refl refl refl refl refl refl)
          (drawn_since_if c.since-since.result (since (setting_of s) s.recorded.line.place (value_of s)) (is_some (place_forward 1 s.recorded.line)) _ _ _ (c.since-since.ensures ∙ ap (λ place. since (setting_of s) place (value_of s)) c.pos-pos.ensures.value) (overwrites_if c.args.ch s.recorded.line _ c.in_ok-written.ensures.writes.answers ∙ c.if-written.true) c.refresh_since.ensures.does);
    }

pub returns-else-written : goal.returns-else-written
returns-else-written g c =
    let s = c.args.self.now in
    record {
      does = edit_then (clusters_replaced 1 (overwrite_steps c.args.ch)) (effect_if (is_some (place_forward 1 s.recorded.line)) (refresh_effect_since (since (setting_of s) s.recorded.line.place (value_of s)))) (overwrite_steps c.args.ch) (value_of s) s _ _ _ _ _ _ refl refl c.in_ok-written.ensures refl refl (stays_by refl refl refl refl refl refl)
          (undrawn_if (refresh_effect_since (since (setting_of s) s.recorded.line.place (value_of s))) (is_some (place_forward 1 s.recorded.line)) _ _ (overwrites_if c.args.ch s.recorded.line _ c.in_ok-written.ensures.writes.answers ∙ c.if-written.false));
    }
