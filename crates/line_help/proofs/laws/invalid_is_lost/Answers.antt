use Rattle.line_help.proofs.BalanceLemmas.{invalid_law}
use Rattle.line_help.proofs.laws.invalid_is_lost.Goals as goal

pub returns : goal.returns
returns c = invalid_law
