-- Flags, and the two colours.
use Rattle.line_screen.proofs.Sendings.{sent_then, sent_cut}
use Rattle.line_screen.proofs.drawing.styles.send_numbers.Goals as goal

pub returns-in_err-send_flags : goal.returns-in_err-send_flags
returns-in_err-send_flags g c = sent_cut _ _ c.in_err-send_flags.ensures c.from_residual.ensures.1

pub returns-in_err-send_colour : goal.returns-in_err-send_colour
returns-in_err-send_colour g c = sent_then c.in_ok-send_flags.ensures (sent_cut _ _ c.in_err-send_colour.ensures c.from_residual-in_err-send_colour.ensures.1)

pub returns : goal.returns
returns g c = sent_then c.in_ok-send_flags.ensures (sent_then c.in_ok-send_colour.ensures c.send_colour-2.ensures)
