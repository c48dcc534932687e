use Rattle.line_screen.specs.Colours.{brush_paints}
use Rattle.line_screen.proofs.PaintCode.{asked}
use Rattle.line_screen.proofs.drawing.painted.Spans.next.Goals as goal

pub returns-in-None : goal.returns-in-None
returns-in-None g c = asked (brush_paints g.H.Highlighter.marks c.args.brush.now) c.args.self c.next.result c.in-None.is c.next.ensures
