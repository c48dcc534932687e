-- The rest, and then what stands after it.
use Rattle.line_screen.proofs.Sendings.{sent_then, sent_cut}
use Rattle.line_screen.proofs.drawing.rest.send_rest.Goals as goal

pub returns-in_err-end : goal.returns-in_err-end
returns-in_err-end g c = sent_cut _ _ c.in_err-end.ensures.sends c.from_residual.ensures.1

pub returns : goal.returns
returns g c = sent_then c.in_ok-end.ensures.sends (rw c.in_ok-end.ensures.next at c.send_info.ensures)
