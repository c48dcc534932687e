use Rattle.line_help.proofs.BalanceLemmas.{valid_law}
use Rattle.line_help.proofs.laws.valid_is_balanced.Goals as goal

pub returns : goal.returns
returns c = valid_law
