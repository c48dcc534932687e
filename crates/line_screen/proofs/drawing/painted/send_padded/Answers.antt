-- The blanks of a tab with their style, and the end of a full row.
use Rattle.line_screen.proofs.Sendings.{sent_to_then, sent_to_cut}
use Rattle.line_screen.proofs.drawing.painted.send_padded.Goals as goal

pub returns-in_err-send_framed : goal.returns-in_err-send_framed
returns-in_err-send_framed g c =
    sent_to_cut _ _ (rw (c.blanks.ensures, c.tab_columns-width.ensures.width) at c.in_err-send_framed.ensures) c.from_residual.ensures.1

pub returns : goal.returns
returns g c =
    let width = c.tab_columns-width.ensures.width in
    sent_to_then (rw (c.blanks.ensures, width) at c.in_ok-send_framed.ensures) (rw width at c.leave_full.ensures)
