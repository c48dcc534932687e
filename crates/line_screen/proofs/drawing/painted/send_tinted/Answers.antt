-- Space for a cluster, the cluster with its style, and the end of a full row.
use Rattle.std.proofs.Common.{append_assoc}
use Rattle.line_screen.proofs.Sendings.{sent_to_then, sent_to_cut}
use Rattle.line_screen.proofs.drawing.painted.send_tinted.Goals as goal

pub returns-in_err-start : goal.returns-in_err-start
returns-in_err-start g c = rw append_assoc (sent_to_cut _ _ c.in_err-start.ensures.sends c.from_residual.ensures.1)

pub returns-in_err-send_framed : goal.returns-in_err-send_framed
returns-in_err-send_framed g c =
    rw append_assoc (sent_to_then c.in_ok-start.ensures.sends
    (sent_to_cut _ _ (rw c.as_bytes.ensures.value at c.in_err-send_framed.ensures) c.from_residual-in_err-send_framed.ensures.1))

pub returns : goal.returns
returns g c =
    let start = c.in_ok-start.ensures in
    rw append_assoc (sent_to_then start.sends
    (sent_to_then (rw c.as_bytes.ensures.value at c.in_ok-send_framed.ensures) (rw start.next at c.leave_full.ensures)))
