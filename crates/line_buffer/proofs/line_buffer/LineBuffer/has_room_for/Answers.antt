use Rattle.std.proofs.Common.{ap, ◌∙◌, arith}
use Rattle.line_buffer.specs.Insertions.{has_room}
use Rattle.line_buffer.proofs.InsertionLemmas.{too_long, copies_length}
use Rattle.line_buffer.proofs.line_buffer.LineBuffer.has_room_for.Goals as goal

pub returns-in-Some : goal.returns-in-Some
returns-in-Some c = c.has_room.ensures ∙ ap (λ k. has_room k c.args.self.now) (c.in-Some.ensures.1 ∙ copies_length _ _ _ c.from.ensures)

pub returns-in-None : goal.returns-in-None
returns-in-None c =
    ap (λ l. l.growth) c.self.view_is
    ∙ too_long c.args.self.now _ _ (let limit = ap (λ l. l.limit) c.self.view_is in omega (arith, limit)) c.in-None.ensures (copies_length c.args.text.now c.args.n _ c.from.ensures)
