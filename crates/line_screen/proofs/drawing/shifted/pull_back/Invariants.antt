use Rattle.std.proofs.Common.{◌+◌, ◌≤◌, length}
use Rattle.line_config.proofs.Taking.{Underway}
use Rattle.line_screen.proofs.drawing.shifted.pull_back.Given as goal
use Rattle.line_screen.proofs.Parts.{deletion_bytes}

abbrev pub invariant-loop-rest : goal.invariant-loop-rest
invariant-loop-rest g l = record {
  sending : Underway g.D.Sink.held g.D.Sink.has_failed (deletion_bytes l.fn.columns l.fn.count l.fn.col l.fn.letters)
      (deletion_bytes l.fn.columns l.fn.count l.start l.rest) l.fn.sink l.sink;
  room : l.start + l.fn.count ≤ l.fn.columns;
}

abbrev pub decreases-loop-rest : goal.decreases-loop-rest
decreases-loop-rest g l = length l.rest
