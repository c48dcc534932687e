-- The character, and then the way back.
use Rattle.line_screen.proofs.Sendings.{sent_then, sent_cut, sent_failed, sent_flushed}
use Rattle.line_screen.proofs.drawing.shifted.put_before.Goals as goal

pub returns-in_err-send_before-clause-sends : goal.returns-in_err-send_before-clause-sends
returns-in_err-send_before-clause-sends g c = sent_cut _ _ c.in_err-send_before.ensures c.from_residual.ensures.1

pub returns-in_err-send_move-clause-sends : goal.returns-in_err-send_move-clause-sends
returns-in_err-send_move-clause-sends g c =
    sent_then c.in_ok-send_before.ensures
    (sent_failed _ (rw c.place_after_insertion.ensures at c.in_err-send_move.ensures) c.from_residual-in_err-send_move.ensures.1)

pub returns-clause-sends : goal.returns-clause-sends
returns-clause-sends g c =
    sent_then c.in_ok-send_before.ensures (sent_flushed (rw c.place_after_insertion.ensures at c.in_ok-send_move.ensures) c.flush.ensures.sends)
