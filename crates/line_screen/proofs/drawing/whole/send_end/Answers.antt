-- The part and the end, or two ends.
use Rattle.line_screen.specs.Colours.{brush_spans}
use Rattle.line_screen.specs.Measure.{widths_by}
use Rattle.line_screen.proofs.PaintCode.{no_text}
use Rattle.line_screen.proofs.Sendings.{sent_then, sent_cut}
use Rattle.line_screen.proofs.drawing.whole.send_end.Goals as goal

pub returns-then-is_empty : goal.returns-then-is_empty
returns-then-is_empty g c =
    let wide = widths_by c.args.grid.now.mode c.args.grid.now.tab c.args.grid.now.columns in
    rw (no_text wide (brush_spans g.H.Highlighter.marks c.args.info.now) c.args.info.now.text.now c.if-is_empty.ensures) c.send.ensures

pub returns-in_err-send_part : goal.returns-in_err-send_part
returns-in_err-send_part g c = sent_cut _ _ c.in_err-send_part.ensures.sends c.from_residual.ensures.1

pub returns : goal.returns
returns g c = sent_then c.in_ok-send_part.ensures.sends c.send-2.ensures
