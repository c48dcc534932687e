-- A text without spans, or row by row.
use Rattle.line_screen.specs.Colours.{brush_paints}
use Rattle.line_screen.specs.Drawing.{text_items}
use Rattle.line_screen.specs.Measure.{widths_by}
use Rattle.line_screen.proofs.PaintRuns.{sends_items}
use Rattle.line_screen.proofs.PaintCode.{all_spans, no_spans, bare_text, all_left}
use Rattle.line_screen.proofs.drawing.painted.send_other.Goals as goal

pub returns-in-None : goal.returns-in-None
returns-in-None g c =
    let wide = widths_by c.args.grid.mode c.args.grid.tab c.args.grid.columns in
    let text = c.args.brush.now.text.now in
    let paints = brush_paints g.H.Highlighter.marks c.args.brush.now in
    rw (← bare_text wide (all_spans paints) text (no_spans paints c.first.result c.first.ensures c.in-None.ensures))
    (sends_items (text_items wide text) c.args.start c.send_rows.ensures)

pub returns-in-Some : goal.returns-in-Some
returns-in-Some g c =
    rw (all_left (brush_paints g.H.Highlighter.marks c.args.brush.now) c.all.result c.all.ensures.first c.all.ensures.mark) at c.send_painted_rows.ensures
