use Rattle.std.proofs.Common.{length}
use Rattle.line_screen.specs.Drawing.{text_items}
use Rattle.line_screen.specs.Measure.{widths_by}
use Rattle.line_screen.proofs.Runs.{SoFar, of_items}
use Rattle.line_screen.proofs.RowsLeft.{left_from}
use Rattle.line_screen.proofs.drawing.text.send_rows.Given as goal

abbrev pub invariant-loop-row : goal.invariant-loop-row
invariant-loop-row g l =
    SoFar (of_items l.fn.grid.columns) g.D.Sink.held g.D.Sink.has_failed l.fn.grid.columns l.fn.start
    (text_items (widths_by l.fn.grid.mode l.fn.grid.tab l.fn.grid.columns) l.fn.text)
    (left_from (widths_by l.fn.grid.mode l.fn.grid.tab l.fn.grid.columns) l.fn.text l.is_first (length l.yielded)) l.fn.sink l.sink l.col
