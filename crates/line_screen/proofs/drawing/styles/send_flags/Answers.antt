use Rattle.line_screen.proofs.Sendings.{sent_then, sent_cut}
use Rattle.line_screen.proofs.drawing.styles.send_flags.Goals as goal

pub returns-in_err-send_flag : goal.returns-in_err-send_flag
returns-in_err-send_flag g c = sent_cut _ _ c.in_err-send_flag.ensures c.from_residual.ensures.1

pub returns-in_err-send_flag-2 : goal.returns-in_err-send_flag-2
returns-in_err-send_flag-2 g c = sent_then c.in_ok-send_flag.ensures (sent_cut _ _ c.in_err-send_flag-2.ensures c.from_residual-in_err-send_flag-2.ensures.1)

pub returns-in_err-send_flag-3 : goal.returns-in_err-send_flag-3
returns-in_err-send_flag-3 g c =
    sent_then c.in_ok-send_flag.ensures
    (sent_then c.in_ok-send_flag-2.ensures (sent_cut _ _ c.in_err-send_flag-3.ensures c.from_residual-in_err-send_flag-3.ensures.1))

pub returns-in_err-send_flag-4 : goal.returns-in_err-send_flag-4
returns-in_err-send_flag-4 g c =
    sent_then c.in_ok-send_flag.ensures (sent_then c.in_ok-send_flag-2.ensures (sent_then c.in_ok-send_flag-3.ensures
    (sent_cut _ _ c.in_err-send_flag-4.ensures c.from_residual-in_err-send_flag-4.ensures.1)))

pub returns : goal.returns
returns g c =
    sent_then c.in_ok-send_flag.ensures (sent_then c.in_ok-send_flag-2.ensures (sent_then c.in_ok-send_flag-3.ensures
    (sent_then c.in_ok-send_flag-4.ensures c.send_flag-5.ensures)))
