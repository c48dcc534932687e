-- The letters, and the end of their style.
use Rattle.line_screen.proofs.Sendings.{sends_answer, sent_to_then, sent_to_cut, sent_to_failed}
use Rattle.line_screen.proofs.drawing.painted.send_shades_end.Goals as goal

pub returns-in_err-end : goal.returns-in_err-end
returns-in_err-end g c = sent_to_cut _ _ c.in_err-end.ensures.sends c.from_residual.ensures.1

pub returns-in_err-send : goal.returns-in_err-send
returns-in_err-send g c = sent_to_then c.in_ok-end.ensures.sends (sent_to_failed _ c.in_err-send.ensures c.from_residual-in_err-send.ensures.1)

pub returns : goal.returns
returns g c =
    let end = c.in_ok-end.ensures in
    sent_to_then end.sends (record { sends = sends_answer c.in_ok-send.ensures; next = end.next; inside = end.inside })
