use Rattle.std.proofs.Common.{◌<◌, length, subst, arith}
use Rattle.line_record.specs.Items.{nearest_changes}
use Rattle.line_record.proofs.UndoLemmas.{some_ahead}
use Rattle.line_record.proofs.changeset.Changeset.redo_next.Goals as goal

pub redo_apart-requires-clause-some : goal.redo_apart-requires-clause-some
redo_apart-requires-clause-some c =
    subst (λ s. 0 < length (nearest_changes s.undone)) c.self.view_is
    (some_ahead c.self.inside.steps c.self.inside.done c.saturating_add.result (omega (arith, c.saturating_add.ensures))
    (omega (arith, c.if-is_long.true, c.change_count-is_long.ensures)))
