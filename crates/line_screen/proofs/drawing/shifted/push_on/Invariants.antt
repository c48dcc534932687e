use Rattle.std.proofs.Common.{length}
use Rattle.line_config.proofs.Taking.{Underway}
use Rattle.line_screen.specs.Drawing.{pushed_on}
use Rattle.line_screen.proofs.drawing.shifted.push_on.Given as goal

abbrev pub invariant-loop-rest : goal.invariant-loop-rest
invariant-loop-rest g l =
    Underway g.D.Sink.held g.D.Sink.has_failed (pushed_on l.fn.inserting l.fn.columns 0 l.fn.letters) (pushed_on l.fn.inserting l.fn.columns 0 l.rest) l.fn.sink l.sink

abbrev pub decreases-loop-rest : goal.decreases-loop-rest
decreases-loop-rest g l = length l.rest
