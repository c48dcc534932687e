use Rattle.line_help.proofs.FoundLemmas.{nearest_is_found}
use Rattle.line_help.proofs.laws.nearest_is_found.Goals as goal

pub returns : goal.returns
returns c = nearest_is_found
