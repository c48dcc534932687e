use Rattle.line_screen.proofs.ShortLemmas.{taking_out_leads}
use Rattle.line_screen.proofs.laws.row_kills.Goals as goal

pub returns : goal.returns
returns c = taking_out_leads
