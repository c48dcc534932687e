use Rattle.line_screen.proofs.PlainDrawing.{plain_drawings}
use Rattle.line_screen.proofs.laws.plain_drawing.Goals as goal

pub returns : goal.returns
returns c = plain_drawings
