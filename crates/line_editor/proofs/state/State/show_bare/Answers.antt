use Rattle.line_editor.proofs.DrawnLemmas.{bared_drawn}
use Rattle.line_editor.proofs.state.State.show_bare.Goals as goal

pub returns : goal.returns
returns g c = record { does = bared_drawn _ _ _ c.if-self.false c.draw_with.ensures.does; fault = c.draw_with.ensures.fault }
