-- With an old drawing, and without.
use Rattle.line_screen.proofs.drawing.whole.paint.Goals as goal

pub returns-in-Some-clause-sends : goal.returns-in-Some-clause-sends
returns-in-Some-clause-sends g c = rw c.in-Some.is c.draw_over.ensures.sends

pub returns-in-None-clause-sends : goal.returns-in-None-clause-sends
returns-in-None-clause-sends g c = rw c.in-None.is c.draw_new.ensures.sends
