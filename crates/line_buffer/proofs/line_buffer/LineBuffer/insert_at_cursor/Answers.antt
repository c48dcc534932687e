use Rattle.std.proofs.Common.{◌+◌, length, sym, subst, IsCharBoundary}
use Rattle.line_buffer.proofs.CutLemmas.{start_replaced, end_replaced}
use Rattle.line_buffer.proofs.line_buffer.LineBuffer.insert_at_cursor.Goals as goal

pub insert_str-requires-clause-cursor : goal.insert_str-requires-clause-cursor
insert_str-requires-clause-cursor g c = rw c.pos-at.ensures.value (start_replaced _ _ _ _ c.as_str-text.ensures.utf8 c.utf8.text c.pos-at.ensures.boundary c.pos-at.ensures.boundary)

pub set_pos-requires : goal.set_pos-requires
set_pos-requires g c =
    let here = subst (IsCharBoundary c.args.self.now.text) (sym c.pos-at.ensures.value) c.pos-at.ensures.boundary in
    subst (λ l. IsCharBoundary l.text (c.pos-at.result + length c.args.text.now)) (sym c.in_ok-at_end.ensures.edits.line)
    (end_replaced c.args.self.now.text c.pos-at.result c.pos-at.result c.args.text.now c.as_str-text.ensures.utf8 here here)
