use Rattle.line_help.proofs.NearestLemmas.{closing_law}
use Rattle.line_help.proofs.laws.closing_is_matched.Goals as goal

pub returns : goal.returns
returns c = closing_law
