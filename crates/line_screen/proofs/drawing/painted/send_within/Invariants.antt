use Rattle.std.proofs.Common.{map, length}
use Rattle.line_config.proofs.Taking.{Underway}
use Rattle.line_screen.specs.Colours.{spans_within, brush_paints, brush_spans, span_of}
use Rattle.line_screen.proofs.drawing.painted.send_within.Given as goal

abbrev pub invariant-loop-rest : goal.invariant-loop-rest
invariant-loop-rest g l =
    Underway g.D.Sink.held g.D.Sink.has_failed (spans_within (brush_spans g.H.Highlighter.marks l.fn.brush) l.fn.letters) (spans_within (map span_of (brush_paints g.H.Highlighter.marks l.fn.brush l.mark)) l.rest) l.fn.sink l.sink

abbrev pub decreases-loop-rest : goal.decreases-loop-rest
decreases-loop-rest g l = length (map span_of (brush_paints g.H.Highlighter.marks l.fn.brush l.mark))
