-- The rest, and then the way to the cursor, passed on.
use Rattle.line_screen.proofs.Sendings.{sent_then, sent_cut, sent_failed, sent_flushed}
use Rattle.line_screen.proofs.drawing.rest.draw_rest.Goals as goal

pub returns-in_err-draw_at-clause-sends : goal.returns-in_err-draw_at-clause-sends
returns-in_err-draw_at-clause-sends g c = sent_cut _ _ c.in_err-draw_at.ensures c.from_residual.ensures.1

pub returns-in_err-send_move-clause-sends : goal.returns-in_err-send_move-clause-sends
returns-in_err-send_move-clause-sends g c =
    sent_then c.in_ok-draw_at.ensures (sent_failed _ c.in_err-send_move.ensures c.from_residual-in_err-send_move.ensures.1)

pub returns-clause-sends : goal.returns-clause-sends
returns-clause-sends g c = sent_then c.in_ok-draw_at.ensures (sent_flushed c.in_ok-send_move.ensures c.flush.ensures.sends)
