use Rattle.line_screen.proofs.Sendings.{sent_then, sent_cut}
use Rattle.line_screen.proofs.drawing.styles.send_framed_letter.Goals as goal

pub returns-in_err-send_style : goal.returns-in_err-send_style
returns-in_err-send_style g c = sent_cut _ _ c.in_err-send_style.ensures c.from_residual.ensures.1

pub returns : goal.returns
returns g c = sent_then c.in_ok-send_style.ensures c.send.ensures
