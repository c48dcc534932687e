use Rattle.line_screen.proofs.ShortLemmas.{putting_in_leads}
use Rattle.line_screen.proofs.laws.row_insertions.Goals as goal

pub returns : goal.returns
returns c = putting_in_leads
