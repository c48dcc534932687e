use Rattle.line_buffer.specs.Event.{InsertStr}
use Rattle.line_buffer.proofs.InsertionLemmas.{told_where_room}
use Rattle.line_buffer.proofs.LeftLemmas.{edits_refused, stopped_first}
use Rattle.line_buffer.proofs.line_buffer.LineBuffer.insert_where_room.Goals as goal

pub returns-in_err-at_end : goal.returns-in_err-at_end
returns-in_err-at_end g c =
    edits_refused _ _ c.from_residual.ensures.1
    (stopped_first _ _ _ _ _ _ _ _ _ (told_where_room (InsertStr c.args.self.now.place c.args.text.now) c.args.text.now c.args.self.now c.if-not-has_room.ensures) tt c.in_err-at_end.ensures.edits.refused c.in_err-at_end.ensures.edits.kept)
