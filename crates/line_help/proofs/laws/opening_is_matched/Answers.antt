use Rattle.line_help.proofs.NearestLemmas.{opening_law}
use Rattle.line_help.proofs.laws.opening_is_matched.Goals as goal

pub returns : goal.returns
returns c = opening_law
