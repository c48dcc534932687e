-- The cell, and then the character.
use Rattle.line_screen.proofs.Sendings.{sent_then, sent_cut}
use Rattle.line_screen.proofs.drawing.shifted.put_in.Goals as goal

pub returns-then-inserting : goal.returns-then-inserting
returns-then-inserting g c = rw c.if-inserting.true c.send.ensures

pub returns-in_err-send : goal.returns-in_err-send
returns-in_err-send g c = rw c.if-inserting.false (sent_cut _ _ c.in_err-send.ensures c.from_residual.ensures.1)

pub returns : goal.returns
returns g c = rw c.if-inserting.false (sent_then c.in_ok-send.ensures c.send-3.ensures)
