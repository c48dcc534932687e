use Rattle.line_help.proofs.BalanceLemmas.{incomplete_law}
use Rattle.line_help.proofs.laws.incomplete_is_begun.Goals as goal

pub returns : goal.returns
returns c = incomplete_law
