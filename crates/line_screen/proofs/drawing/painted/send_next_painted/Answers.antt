-- The step to the next row, and the row.
use Rattle.line_screen.proofs.Sendings.{sent_to_cut}
use Rattle.line_screen.proofs.drawing.painted.send_next_painted.Goals as goal

pub returns-in_err-send : goal.returns-in_err-send
returns-in_err-send g c = rw c.if-is_first.false (sent_to_cut _ _ c.in_err-send.ensures c.from_residual.ensures.1)
