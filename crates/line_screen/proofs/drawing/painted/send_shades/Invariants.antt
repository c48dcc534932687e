use Rattle.std.proofs.Common.{map, length}
use Rattle.line_screen.specs.Styles.{numbers}
use Rattle.line_screen.specs.Colours.PaintedItem.{Shaded}
use Rattle.line_screen.proofs.PaintRuns.{of_painted}
use Rattle.line_screen.proofs.Runs.{SoFar}
use Rattle.line_screen.proofs.drawing.painted.send_shades.Given as goal

abbrev pub invariant-loop-rest : goal.invariant-loop-rest
invariant-loop-rest g l =
    SoFar (of_painted l.fn.grid.columns) g.D.Sink.held g.D.Sink.has_failed l.fn.grid.columns l.fn.start (map (Shaded (numbers l.fn.style)) l.fn.letters) (map (Shaded (numbers l.fn.style)) l.rest) l.fn.sink l.sink l.col

abbrev pub decreases-loop-rest : goal.decreases-loop-rest
decreases-loop-rest g l = length l.rest
