use Rattle.line_screen.proofs.ShortLemmas.{writing_over_leads}
use Rattle.line_screen.proofs.laws.row_rewritings.Goals as goal

pub returns : goal.returns
returns c = writing_over_leads
