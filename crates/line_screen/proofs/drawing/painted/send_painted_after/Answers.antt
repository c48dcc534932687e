-- Letters, and the cluster after them.
use Rattle.std.proofs.Common.{length, refl, sym, ap, ◌∙◌}
use Rattle.line_screen.specs.Colours.{painted_letters, painted_item, first_style, spans_in, brush_paints, skip}
use Rattle.line_screen.specs.Drawing.{drawn_item}
use Rattle.line_screen.specs.Measure.{widths_by}
use Rattle.line_screen.proofs.PaintRuns.{of_painted}
use Rattle.line_screen.proofs.Runs.{so_far_start, so_far_on, so_far_cut, so_far_then}
use Rattle.line_screen.proofs.drawing.painted.send_painted_after.Goals as goal

pub returns-in_err-col : goal.returns-in_err-col
returns-in_err-col g c =
    let spans = spans_in (brush_paints g.H.Highlighter.marks c.args.brush.now) c.args.spans in
    let letters = c.args.letters.now in
    let item = drawn_item (widths_by c.args.grid.mode c.args.grid.tab c.args.grid.columns) c.args.cluster.now in
    so_far_cut _ (painted_letters spans letters) (painted_item (first_style (skip (length letters) spans)) item)
    (so_far_start {p = of_painted c.args.grid.columns} c.requires.inside) refl c.in_err-col.ensures c.from_residual.ensures.1

pub returns : goal.returns
returns g c =
    let spans = spans_in (brush_paints g.H.Highlighter.marks c.args.brush.now) c.args.spans in
    let item = drawn_item (widths_by c.args.grid.mode c.args.grid.tab c.args.grid.columns) c.args.cluster.now in
    so_far_then
    (so_far_on (painted_letters spans c.args.letters.now) (so_far_start {p = of_painted c.args.grid.columns} c.requires.inside) refl c.in_ok-col.ensures)
    (ap (λ s. painted_item s item) (sym (c.style-style.ensures ∙ ap first_style c.skip.ensures))) c.send_painted_cluster.ensures
