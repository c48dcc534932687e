use Rattle.std.proofs.Common.{refl, sym, ◌∙◌}
use Rattle.line_editor.proofs.UndoLemmas.{unmade_does, undo_refused}
use Rattle.line_editor.proofs.state.State.edit_undo.Goals as goal

pub returns-else-undone : goal.returns-else-undone
returns-else-undone g c =
    let writes = c.in_ok-undone.ensures.writes in
    record { does = unmade_does c.args.n _ _ _ (sym writes.answers ∙ c.if-undone.false) writes.line writes.held refl refl refl (assumption) }

pub returns-in_err-undone : goal.returns-in_err-undone
returns-in_err-undone g c = record { does = undo_refused c.args.n _ _ _ c.from_residual.ensures.1 c.in_err-undone.ensures.left refl refl (assumption) }
