use Rattle.line_buffer.proofs.InsertionLemmas.{told_of_one}
use Rattle.line_buffer.proofs.LeftLemmas.{edits_refused, stopped_first}
use Rattle.line_buffer.proofs.line_buffer.LineBuffer.insert.Goals as goal

pub returns-in_err-insert_char : goal.returns-in_err-insert_char
returns-in_err-insert_char g c =
    edits_refused _ _ c.from_residual.ensures.1 (stopped_first _ _ _ _ _ _ _ _ _ (told_of_one c.args.ch c.args.n _ c.args.self.now c.if-n-ne1.false c.len_utf8.ensures.len c.if-not-has_room.ensures) tt c.in_err-insert_char.ensures.refused c.in_err-insert_char.ensures.kept)
