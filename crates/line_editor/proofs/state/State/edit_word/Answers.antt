use Rattle.std.proofs.Common.{refl, sym, ◌∙◌}
use Rattle.line_buffer.specs.LetterCase.{edit_word as recased_in}
use Rattle.line_edits.specs.Edits.{word_group}
use Rattle.line_editor.specs.Drawing.{refresh_effect, effect_if}
use Rattle.line_editor.specs.Transforms.{edit_word_effect}
use Rattle.line_editor.specs.States.{value_of}
use Rattle.line_editor.proofs.EditLemmas.{edit_then, edit_refused, drawn_if, undrawn_if}
use Rattle.line_editor.proofs.state.State.edit_word.Goals as goal
use Rattle.line_editor.proofs.DoesLemmas.{stays_by}

pub returns-in_err-done : goal.returns-in_err-done
returns-in_err-done g c =
    let s = c.args.self.now in
    record {
      does = edit_refused (edit_word_effect c.args.action) (effect_if (recased_in c.args.action s.recorded.line).answer refresh_effect) (word_group c.args.action) (value_of s) s _ _ _ _ c.from_residual.ensures.1 refl refl c.in_err-done.ensures refl refl (assumption);
    }

pub returns-then-done : goal.returns-then-done
returns-then-done g c =
    let s = c.args.self.now in
    record {
      does = edit_then (edit_word_effect c.args.action) (effect_if (recased_in c.args.action s.recorded.line).answer refresh_effect) (word_group c.args.action) (value_of s) s _ _ _ _ _ _ refl refl c.in_ok-done.ensures refl refl (stays_by refl refl refl refl refl refl)
          (drawn_if refresh_effect (recased_in c.args.action s.recorded.line).answer _ _ _ (sym c.in_ok-done.ensures.writes.answers ∙ c.if-done.true) c.refresh.ensures.does);
    }

pub returns-else-done : goal.returns-else-done
returns-else-done g c =
    let s = c.args.self.now in
    record {
      does = edit_then (edit_word_effect c.args.action) (effect_if (recased_in c.args.action s.recorded.line).answer refresh_effect) (word_group c.args.action) (value_of s) s _ _ _ _ _ _ refl refl c.in_ok-done.ensures refl refl (stays_by refl refl refl refl refl refl)
          (undrawn_if refresh_effect (recased_in c.args.action s.recorded.line).answer _ _ (sym c.in_ok-done.ensures.writes.answers ∙ c.if-done.false));
    }
