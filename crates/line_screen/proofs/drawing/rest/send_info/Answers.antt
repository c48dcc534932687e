-- The part and the end.
use Rattle.line_screen.proofs.Sendings.{fence_of, sent_then, sent_cut}
use Rattle.line_screen.proofs.drawing.rest.send_info.Goals as goal

pub returns-in_err-send_part : goal.returns-in_err-send_part
returns-in_err-send_part g c = rw (fence_of c.args.info.now.text.now _ c.if-is_empty.ensures)
    (sent_cut _ _ c.in_err-send_part.ensures.sends c.from_residual.ensures.1)

pub returns : goal.returns
returns g c = rw (fence_of c.args.info.now.text.now _ c.if-is_empty.ensures) (sent_then c.in_ok-send_part.ensures.sends c.send.ensures)
