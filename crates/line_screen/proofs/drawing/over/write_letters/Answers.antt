-- The way there, the letters, and then the way to the cursor.
use Rattle.line_screen.proofs.Sendings.{sent_then, sent_cut, sent_failed, sent_flushed}
use Rattle.line_screen.proofs.drawing.over.write_letters.Goals as goal

pub returns-in_err-send_short_move-clause-sends : goal.returns-in_err-send_short_move-clause-sends
returns-in_err-send_short_move-clause-sends g c = sent_cut _ _ c.in_err-send_short_move.ensures c.from_residual.ensures.1

pub returns-in_err-send-clause-sends : goal.returns-in_err-send-clause-sends
returns-in_err-send-clause-sends g c = sent_then c.in_ok-send_short_move.ensures (sent_cut _ _ c.in_err-send.ensures c.from_residual-in_err-send.ensures.1)

pub returns-in_err-send_short_move-2-clause-sends : goal.returns-in_err-send_short_move-2-clause-sends
returns-in_err-send_short_move-2-clause-sends g c =
    sent_then c.in_ok-send_short_move.ensures
    (sent_then c.in_ok-send.ensures (sent_failed _ c.in_err-send_short_move-2.ensures c.from_residual-in_err-send_short_move-2.ensures.1))

pub returns-clause-sends : goal.returns-clause-sends
returns-clause-sends g c =
    sent_then c.in_ok-send_short_move.ensures (sent_then c.in_ok-send.ensures (sent_flushed c.in_ok-send_short_move-2.ensures c.flush.ensures.sends))
