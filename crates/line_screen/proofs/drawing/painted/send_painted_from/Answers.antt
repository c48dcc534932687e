-- A text's end without a highlighter, or row by row.
use Rattle.std.proofs.Common.{◌≡◌, [], map, drop, sym, ap}
use Rattle.std.specs.Prelude.{option_map, option_copied}
use Rattle.std.specs.Option.{option_map_or}
use Rattle.line_help.specs.Paints.{Marks, first_mark}
use Rattle.line_screen.specs.Colours.{skip, span_of, brush_spans, brush_paints}
use Rattle.line_screen.specs.Drawing.{text_items}
use Rattle.line_screen.specs.Measure.{widths_by}
use Rattle.line_screen.proofs.PaintRuns.{sends_items}
use Rattle.line_screen.proofs.PaintCode.{bare_text, all_left}
use Rattle.line_screen.proofs.drawing.painted.send_painted_from.Goals as goal

pub returns-in-None : goal.returns-in-None
returns-in-None g c =
    let wide = widths_by c.args.grid.now.mode c.args.grid.now.tab c.args.grid.now.columns in
    let brush = c.args.brush.now in
    let rest = drop c.args.from brush.text.now in
    let spans = skip c.args.from (brush_spans g.H.Highlighter.marks brush) in
    let none : [] ≡ spans =
    sym (ap (λ h. skip c.args.from (map span_of (option_map_or (λ (m : Marks). m.paints brush.part brush.text.now first_mark) (option_map g.H.Highlighter.marks (option_copied h)) []))) c.in-None.is) in
    rw (← bare_text wide spans rest none) (sends_items (text_items wide rest) c.args.start (rw c.range_from-rest.ensures.value at c.send_text.ensures))

pub returns-in-Some : goal.returns-in-Some
returns-in-Some g c =
    let all = all_left (brush_paints g.H.Highlighter.marks c.args.brush.now) c.all.result c.all.ensures.first c.all.ensures.mark in
    rw (c.range_from-rest.ensures.value, c.skip-spans.ensures, all) at c.send_painted_rows.ensures
