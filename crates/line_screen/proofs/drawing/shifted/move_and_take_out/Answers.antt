-- The way there, the cells, and then the way back.
use Rattle.line_screen.proofs.Sendings.{sent_then, sent_cut, sent_failed, sent_flushed}
use Rattle.line_screen.proofs.drawing.shifted.move_and_take_out.Goals as goal

pub returns-in_err-send_move-clause-sends : goal.returns-in_err-send_move-clause-sends
returns-in_err-send_move-clause-sends g c = sent_cut _ _ c.in_err-send_move.ensures c.from_residual.ensures.1

pub returns-in_err-pull_back-clause-sends : goal.returns-in_err-pull_back-clause-sends
returns-in_err-pull_back-clause-sends g c =
    sent_then c.in_ok-send_move.ensures (sent_cut _ _ c.in_err-pull_back.ensures c.from_residual-in_err-pull_back.ensures.1)

pub returns-in_err-send_move-2-clause-sends : goal.returns-in_err-send_move-2-clause-sends
returns-in_err-send_move-2-clause-sends g c =
    sent_then c.in_ok-send_move.ensures (sent_then c.in_ok-pull_back.ensures
    (sent_failed _ (rw c.place_after_deletion.ensures at c.in_err-send_move-2.ensures) c.from_residual-in_err-send_move-2.ensures.1))

pub returns-clause-sends : goal.returns-clause-sends
returns-clause-sends g c =
    sent_then c.in_ok-send_move.ensures (sent_then c.in_ok-pull_back.ensures
    (sent_flushed (rw c.place_after_deletion.ensures at c.in_ok-send_move-2.ensures) c.flush.ensures.sends))
