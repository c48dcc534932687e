use Rattle.std.proofs.Common.{append_assoc}
use Rattle.line_screen.proofs.Sendings.{sent_then, sent_cut}
use Rattle.line_screen.proofs.drawing.painted.send_framed.Goals as goal

pub returns-in_err-send_style : goal.returns-in_err-send_style
returns-in_err-send_style g c = rw append_assoc (sent_cut _ _ c.in_err-send_style.ensures c.from_residual.ensures.1)

pub returns-in_err-send : goal.returns-in_err-send
returns-in_err-send g c = rw append_assoc (sent_then c.in_ok-send_style.ensures (sent_cut _ _ c.in_err-send.ensures c.from_residual-in_err-send.ensures.1))

pub returns : goal.returns
returns g c = rw append_assoc (sent_then c.in_ok-send_style.ensures (sent_then c.in_ok-send.ensures c.send-2.ensures))
