-- Numbers one after the other.
use Rattle.line_screen.proofs.Sendings.{sent_then, sent_cut}
use Rattle.line_screen.proofs.drawing.styles.send_rgb.Goals as goal

pub returns-in_err-send_number : goal.returns-in_err-send_number
returns-in_err-send_number g c = sent_cut _ _ c.in_err-send_number.ensures c.from_residual.ensures.1

pub returns-in_err-send_number-2 : goal.returns-in_err-send_number-2
returns-in_err-send_number-2 g c = sent_then c.in_ok-send_number.ensures
    (sent_cut _ _ c.in_err-send_number-2.ensures c.from_residual-in_err-send_number-2.ensures.1)

pub returns-in_err-send_number-3 : goal.returns-in_err-send_number-3
returns-in_err-send_number-3 g c =
    sent_then c.in_ok-send_number.ensures
    (sent_then c.in_ok-send_number-2.ensures (sent_cut _ _ c.in_err-send_number-3.ensures c.from_residual-in_err-send_number-3.ensures.1))

pub returns-in_err-send_number-4 : goal.returns-in_err-send_number-4
returns-in_err-send_number-4 g c =
    sent_then c.in_ok-send_number.ensures (sent_then c.in_ok-send_number-2.ensures (sent_then c.in_ok-send_number-3.ensures
    (sent_cut _ _ c.in_err-send_number-4.ensures c.from_residual-in_err-send_number-4.ensures.1)))

pub returns : goal.returns
returns g c =
    sent_then c.in_ok-send_number.ensures (sent_then c.in_ok-send_number-2.ensures (sent_then c.in_ok-send_number-3.ensures
    (sent_then c.in_ok-send_number-4.ensures c.send_number-5.ensures)))
