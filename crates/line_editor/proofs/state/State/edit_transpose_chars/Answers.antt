use Rattle.std.proofs.Common.{◌≡◌, ◌-◌, refl, sym, ap, ◌∙◌, subst, arith}
use Rattle.std.specs.Str.{IsCharBoundary}
use Rattle.line_buffer.specs.Transpositions.{transposes_chars}
use Rattle.line_edits.specs.Edits.{transpose_chars_group}
use Rattle.line_editor.specs.Drawing.{effect_if}
use Rattle.line_editor.specs.Transforms.{refresh_over_effect, transpose_chars_effect}
use Rattle.line_editor.specs.States.{value_of, setting_of}
use Rattle.line_editor.proofs.EditLemmas.{chars_over, edit_then, edit_refused, drawn_if, undrawn_if}
use Rattle.line_editor.proofs.TransposedLemmas.{pair_boundary, pair_known, pair_over}
use Rattle.line_editor.proofs.state.State.edit_transpose_chars.Goals as goal
use Rattle.line_editor.proofs.DoesLemmas.{stays_by}

pub known_over-known-requires : goal.known_over-known-requires
known_over-known-requires g c =
    let s = c.args.self.now in
    let l = s.recorded.line in
    let end = c.pair_end-end.result in
    let from = c.saturating_sub-from.result in
    let from_is : from ≡ end - 2 = omega arith in
    let pair = pair_over c.may_be_rewritten-over.result from end (setting_of s) (value_of s) c.pair_end-end.ensures from_is c.may_be_rewritten-over.ensures in
    record { boundary = λ over. subst (IsCharBoundary l.text) (sym (from_is ∙ ap (λ n. n - 2) c.pair_end-end.ensures)) (pair_boundary l (pair over)) }

pub invariant_of-self-2 : goal.invariant_of-self-2
invariant_of-self-2 g c =
    let s = c.args.self.now in
    let l = s.recorded.line in
    let over = c.may_be_rewritten-over.result in
    let end = c.pair_end-end.result in
    let from = c.saturating_sub-from.result in
    let from_is : from ≡ end - 2 = omega arith in
    record {
      is_known = pair_known (g.Out.Renderer.canvas.ruler s.out).measure s.layout.prompt_size l _ over from _ c.in_ok-done.ensures.writes.line
          (pair_over over from end (setting_of s) (value_of s) c.pair_end-end.ensures from_is c.may_be_rewritten-over.ensures)
          (from_is ∙ ap (λ n. n - 2) c.pair_end-end.ensures) c.known_over-known.ensures;
    }

pub returns-in_err-done : goal.returns-in_err-done
returns-in_err-done g c =
    let s = c.args.self.now in
    let over = c.may_be_rewritten-over.result in
    let from = c.saturating_sub-from.result in
    let end = c.pair_end-end.result in
    record {
      does = edit_refused transpose_chars_effect (effect_if (transposes_chars s.recorded.line) (refresh_over_effect over from end)) transpose_chars_group (value_of s) s _ _ _ _ c.from_residual.ensures.1
          (chars_over over from end (setting_of s) (value_of s) c.pair_end-end.ensures (omega arith) c.may_be_rewritten-over.ensures)
          refl c.in_err-done.ensures refl refl (assumption);
    }

pub returns-then-done : goal.returns-then-done
returns-then-done g c =
    let s = c.args.self.now in
    let over = c.may_be_rewritten-over.result in
    let from = c.saturating_sub-from.result in
    let end = c.pair_end-end.result in
    record {
      does = edit_then transpose_chars_effect (effect_if (transposes_chars s.recorded.line) (refresh_over_effect over from end)) transpose_chars_group (value_of s) s _ _ _ _ _ _
          (chars_over over from end (setting_of s) (value_of s) c.pair_end-end.ensures (omega arith) c.may_be_rewritten-over.ensures)
          refl c.in_ok-done.ensures refl refl (stays_by refl refl refl refl refl refl)
          (drawn_if (refresh_over_effect over from end) (transposes_chars s.recorded.line) _ _ _ (sym c.in_ok-done.ensures.writes.answers ∙ c.if-done.true) c.refresh_over.ensures.does);
    }

pub returns-else-done : goal.returns-else-done
returns-else-done g c =
    let s = c.args.self.now in
    let over = c.may_be_rewritten-over.result in
    let from = c.saturating_sub-from.result in
    let end = c.pair_end-end.result in
    record {
      does = edit_then transpose_chars_effect (effect_if (transposes_chars s.recorded.line) (refresh_over_effect over from end)) transpose_chars_group (value_of s) s _ _ _ _ _ _
          (chars_over over from end (setting_of s) (value_of s) c.pair_end-end.ensures (omega arith) c.may_be_rewritten-over.ensures)
          refl c.in_ok-done.ensures refl refl (stays_by refl refl refl refl refl refl)
          (undrawn_if (refresh_over_effect over from end) (transposes_chars s.recorded.line) _ _ (sym c.in_ok-done.ensures.writes.answers ∙ c.if-done.false));
    }
