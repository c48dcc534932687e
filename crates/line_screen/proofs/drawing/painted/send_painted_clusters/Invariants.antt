use Rattle.std.proofs.Common.{[], true}
use Rattle.unicode_segmentation.specs.Grapheme.{graphemes}
use Rattle.unicode_segmentation.specs.Iter.{graphemes_left}
use Rattle.line_screen.specs.Colours.{painted_clusters, spans_in, brush_paints}
use Rattle.line_screen.specs.Measure.{widths_by}
use Rattle.line_screen.proofs.PaintCode.{RowSoFar}
use Rattle.line_screen.proofs.PaintRuns.{of_painted}
use Rattle.line_screen.proofs.Runs.{SoFar}
use Rattle.line_screen.proofs.drawing.painted.send_painted_clusters.Given as goal

abbrev pub invariant-loop-cluster : goal.invariant-loop-cluster
invariant-loop-cluster g l =
    let wide = widths_by l.fn.grid.mode l.fn.grid.tab l.fn.grid.columns in
    let paints = brush_paints g.H.Highlighter.marks l.fn.brush in
    RowSoFar l.rest l.tail (graphemes_left l.cluster-iterator) (λ letters.
    SoFar (of_painted l.fn.grid.columns) g.D.Sink.held g.D.Sink.has_failed l.fn.grid.columns l.fn.start
    (painted_clusters wide (spans_in paints l.fn.spans) [] (graphemes true l.fn.row))
    (painted_clusters wide (spans_in paints l.left) letters (graphemes_left l.cluster-iterator)) l.fn.sink l.sink l.col)
