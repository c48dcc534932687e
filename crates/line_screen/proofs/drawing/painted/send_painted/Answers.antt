-- Letters that don't fill their row, and other letters.
use Rattle.std.proofs.Common.{arith}
use Rattle.line_screen.specs.Colours.{brush_paints, brush_spans}
use Rattle.line_screen.specs.Measure.{widths_by}
use Rattle.line_screen.proofs.PaintCode.{letters_sent, row_sent}
use Rattle.line_screen.proofs.WithinLemmas.{sends_within, cut_within}
use Rattle.line_screen.proofs.drawing.painted.send_painted.Goals as goal

pub returns : goal.returns
returns g c =
    let wide = widths_by c.args.grid.now.mode c.args.grid.now.tab c.args.grid.now.columns in
    let paints = brush_paints g.H.Highlighter.marks c.args.brush.now in
    let letters = letters_sent wide paints c.all.result c.as_bytes-letters.result.now c.args.brush.now.text.now
    c.all.ensures.first c.all.ensures.mark c.as_bytes-letters.ensures.value c.if-not-is_printable_text.ensures in
    rw letters at c.send_spans.ensures

pub returns-in_err-send_within : goal.returns-in_err-send_within
returns-in_err-send_within g c =
    let wide = widths_by c.args.grid.now.mode c.args.grid.now.tab c.args.grid.now.columns in
    let spans = brush_spans g.H.Highlighter.marks c.args.brush.now in
    let letters = c.as_bytes-letters.result.now in
    rw (← row_sent wide spans letters c.args.brush.now.text.now c.as_bytes-letters.ensures.value c.if-not-is_printable_text.ensures)
    (cut_within c.args.grid.now.columns _ spans letters c.args.start
    (omega (arith, c.if-letters-from.true, c.from.ensures, c.requires.inside)) c.in_err-send_within.ensures c.from_residual.ensures.1)

pub returns-then-letters-from : goal.returns-then-letters-from
returns-then-letters-from g c =
    let wide = widths_by c.args.grid.now.mode c.args.grid.now.tab c.args.grid.now.columns in
    let spans = brush_spans g.H.Highlighter.marks c.args.brush.now in
    let letters = c.as_bytes-letters.result.now in
    rw (← row_sent wide spans letters c.args.brush.now.text.now c.as_bytes-letters.ensures.value c.if-not-is_printable_text.ensures)
    (sends_within c.args.grid.now.columns spans letters c.args.start
    (omega (arith, c.if-letters-from.true, c.from.ensures, c.requires.inside)) c.in_ok-send_within.ensures)
