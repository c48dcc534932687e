use Rattle.keyline_call.proofs.LastLemmas.{last_drawings_show}
use Rattle.keyline_call.proofs.laws.last_drawing.Goals as goal

pub returns : goal.returns
returns c = last_drawings_show _
