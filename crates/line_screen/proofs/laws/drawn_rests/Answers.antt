use Rattle.line_screen.proofs.ShortLemmas.{drawing_rest_leads}
use Rattle.line_screen.proofs.laws.drawn_rests.Goals as goal

pub returns : goal.returns
returns c = drawing_rest_leads
