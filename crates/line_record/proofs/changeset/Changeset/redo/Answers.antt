use Rattle.std.proofs.Common.{rules}
use Rattle.line_record.proofs.UndoLemmas.{redone_as}
use Rattle.line_record.proofs.changeset.Changeset.redo.Goals as goal

pub returns-in-Ok : goal.returns-in-Ok
returns-in-Ok c =
    let r = redone_as c.args.self.now c.redo_next.new.self c.args.line.now c.redo_next.new.line c.in-Ok.ensures.items c.in-Ok.ensures.anew.line c.requires
    c.as_str-text.ensures.utf8 in
    record { answer = search rules; line = r.line_is; held = r.held_is; ahead = r.ahead_is; stand = r.stand; refused = tt; part = tt }
