use Rattle.std.proofs.Common.{◌≡◌, length}
use Rattle.line_screen.specs.Colours.{skip, spans_in, brush_paints}
use Rattle.line_screen.proofs.drawing.painted.Spans.skip.Given as goal

abbrev pub invariant-loop-span : goal.invariant-loop-span
invariant-loop-span g l = skip l.count (spans_in (brush_paints g.H.Highlighter.marks l.fn.brush) l.left) ≡ skip l.fn.count (spans_in (brush_paints g.H.Highlighter.marks l.fn.brush) l.fn.self)

abbrev pub decreases-loop-span : goal.decreases-loop-span
decreases-loop-span g l = length (spans_in (brush_paints g.H.Highlighter.marks l.fn.brush) l.left)
