use Rattle.std.proofs.Common.{subst}
use Rattle.line_record.specs.Items.{CutUndo, last_changes}
use Rattle.line_record.proofs.UndoLemmas.{UndoneAs, undone_as}
use Rattle.line_record.proofs.changeset.Changeset.undo.Goals as goal

pub returns-in-Ok : goal.returns-in-Ok
returns-in-Ok c =
    let u = subst (λ n. UndoneAs n c.args.self.now c.undo_last.new.self c.args.line.now c.undo_last.new.line c.in-Ok.undone) c.max.ensures
    (undone_as c.max.result _ _ _ _ _ c.in-Ok.ensures c.requires c.as_str-text.ensures.utf8) in
    record { answer = u.0; line = u.1.line_is; held = u.1.held_is; ahead = u.1.ahead_is; stand = u.1.stand; refused = tt; part = tt }

pub returns-in-Err-clause-part : goal.returns-in-Err-clause-part
returns-in-Err-clause-part c =
    subst (λ n. CutUndo (last_changes n c.args.self.now.done) c.args.line.now c.undo_last.new.line) c.max.ensures c.in-Err.ensures.back.part
