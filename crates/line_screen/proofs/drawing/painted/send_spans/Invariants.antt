use Rattle.std.proofs.Common.{length}
use Rattle.line_screen.specs.Colours.{painted_letters, spans_in, brush_paints}
use Rattle.line_screen.proofs.PaintRuns.{of_painted}
use Rattle.line_screen.proofs.Runs.{SoFar}
use Rattle.line_screen.proofs.drawing.painted.send_spans.Given as goal

abbrev pub invariant-loop-rest : goal.invariant-loop-rest
invariant-loop-rest g l =
    SoFar (of_painted l.fn.grid.columns) g.D.Sink.held g.D.Sink.has_failed l.fn.grid.columns l.fn.start (painted_letters (spans_in (brush_paints g.H.Highlighter.marks l.fn.brush) l.fn.spans) l.fn.letters) (painted_letters (spans_in (brush_paints g.H.Highlighter.marks l.fn.brush) l.left) l.rest) l.fn.sink l.sink l.col

abbrev pub decreases-loop-rest : goal.decreases-loop-rest
decreases-loop-rest g l = length (spans_in (brush_paints g.H.Highlighter.marks l.fn.brush) l.left)
