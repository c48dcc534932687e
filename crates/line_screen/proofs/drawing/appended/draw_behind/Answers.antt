-- The text from the place's column on, passed on.
use Rattle.std.proofs.Common.{◌≡◌, ◌∙◌, sym, ap, if◌then◌else◌}
use Rattle.std.proofs.lemmas.Bool.{lt-ltb, le-ltb}
use Rattle.line_screen.specs.Drawing.{next_row}
use Rattle.line_screen.specs.Measure.{in_row}
use Rattle.line_screen.proofs.Sendings.{sent_flushed, sent_failed}
use Rattle.line_screen.proofs.drawing.appended.draw_behind.Goals as goal
use Rattle.line_screen.proofs.drawing.appended.draw_behind.Goals.{then-at-grid-3, else-at-grid-3}

pub returns-in_err-flush-clause-sends : goal.returns-in_err-flush-clause-sends
returns-in_err-flush-clause-sends g c =
    let columns = c.args.grid.columns in
    let at = c.args.at in
    let col_is : c.if-at-grid-3.col ≡ (in_row columns at).col =
    elim c.if-at-grid-3.branch [
      | then-at-grid-3 w ↦ w.col-is ∙ ap (λ b. (if b then at else next_row at).col) (sym (lt-ltb at.col columns w.if-at-grid-3.true))
      | else-at-grid-3 w ↦ w.col-is ∙ ap (λ b. (if b then at else next_row at).col) (sym (le-ltb at.col columns w.if-at-grid-3.false))
    ] in
    sent_flushed (rw col_is at c.in_ok-send_text.ensures.sends) (sent_failed _ c.in_err-flush.ensures.sends c.from_residual-in_err-flush.ensures.1)
