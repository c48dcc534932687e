-- Blanks, and the end of a full row.
use Rattle.std.proofs.Common.{◌∙◌, ap}
use Rattle.line_screen.specs.Drawing.{blanks}
use Rattle.line_screen.proofs.Sendings.{sends_as, sent_to_then, sent_to_cut}
use Rattle.line_screen.proofs.drawing.text.send_tab.Goals as goal

pub returns-in_err-send : goal.returns-in_err-send
returns-in_err-send g c =
    sent_to_cut _ _ (sends_as (c.blanks.ensures ∙ ap blanks c.tab_columns-width.ensures.width) c.in_err-send.ensures) c.from_residual.ensures.1

pub returns : goal.returns
returns g c =
    let width = c.tab_columns-width.ensures.width in
    sent_to_then (sends_as (c.blanks.ensures ∙ ap blanks width) c.in_ok-send.ensures) (rw width at c.leave_full.ensures)
