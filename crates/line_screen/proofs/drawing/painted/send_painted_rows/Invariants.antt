use Rattle.std.proofs.Common.{length}
use Rattle.line_screen.specs.Colours.{painted_text, spans_in, brush_paints}
use Rattle.line_screen.specs.Measure.{widths_by}
use Rattle.line_screen.proofs.PaintRuns.{of_painted}
use Rattle.line_screen.proofs.Runs.{SoFar}
use Rattle.line_screen.proofs.PaintCode.{painted_from}
use Rattle.line_screen.proofs.drawing.painted.send_painted_rows.Given as goal

abbrev pub invariant-loop-row : goal.invariant-loop-row
invariant-loop-row g l =
    SoFar (of_painted l.fn.grid.columns) g.D.Sink.held g.D.Sink.has_failed l.fn.grid.columns l.fn.start
    (painted_text (widths_by l.fn.grid.mode l.fn.grid.tab l.fn.grid.columns) (spans_in (brush_paints g.H.Highlighter.marks l.fn.brush) l.fn.spans) l.fn.text)
    (painted_from (widths_by l.fn.grid.mode l.fn.grid.tab l.fn.grid.columns) l.fn.text l.is_first (spans_in (brush_paints g.H.Highlighter.marks l.fn.brush) l.left) (length l.yielded)) l.fn.sink l.sink l.col
