use Rattle.std.proofs.Common.{◌≡◌, length}
use Rattle.line_screen.specs.Colours.{first_style, spans_in, brush_paints}
use Rattle.line_screen.proofs.drawing.painted.Spans.style.Given as goal

abbrev pub invariant-loop-span : goal.invariant-loop-span
invariant-loop-span g l = first_style (spans_in (brush_paints g.H.Highlighter.marks l.fn.brush) l.left) ≡ first_style (spans_in (brush_paints g.H.Highlighter.marks l.fn.brush) l.fn.self)

abbrev pub decreases-loop-span : goal.decreases-loop-span
decreases-loop-span g l = length (spans_in (brush_paints g.H.Highlighter.marks l.fn.brush) l.left)
