-- The way there, the erasure, and then the rest.
use Rattle.std.proofs.Common.{◌≡◌, ◌∙◌, sym, ap, if◌then◌else◌}
use Rattle.std.proofs.lemmas.Bool.{lt-ltb, le-ltb}
use Rattle.line_screen.specs.Drawing.{next_row}
use Rattle.line_screen.specs.Measure.{in_row}
use Rattle.line_screen.proofs.Sendings.{sent_then, sent_cut}
use Rattle.line_screen.proofs.drawing.rest.draw_at.Goals as goal
use Rattle.line_screen.proofs.drawing.rest.draw_at.Goals.{then-at-grid, else-at-grid}

pub returns-in_err-send_move : goal.returns-in_err-send_move
returns-in_err-send_move g c = sent_cut _ _ c.in_err-send_move.ensures c.from_residual.ensures.1

pub returns-in_err-send : goal.returns-in_err-send
returns-in_err-send g c = sent_then c.in_ok-send_move.ensures (sent_cut _ _ c.in_err-send.ensures c.from_residual-in_err-send.ensures.1)

pub returns : goal.returns
returns g c =
    let columns = c.args.grid.now.columns in
    let at = c.args.at in
    let col_is : c.if-at-grid.col ≡ (in_row columns at).col =
    elim c.if-at-grid.branch [
      | then-at-grid w ↦ w.col-is ∙ ap (λ b. (if b then at else next_row at).col) (sym (lt-ltb at.col columns w.if-at-grid.true))
      | else-at-grid w ↦ w.col-is ∙ ap (λ b. (if b then at else next_row at).col) (sym (le-ltb at.col columns w.if-at-grid.false))
    ] in
    sent_then c.in_ok-send_move.ensures (sent_then c.in_ok-send.ensures (rw col_is at c.send_rest.ensures))
