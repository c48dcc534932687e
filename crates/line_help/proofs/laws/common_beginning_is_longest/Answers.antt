use Rattle.line_help.proofs.CompletionLawLemmas.{common_beginning_is_longest_holds}
use Rattle.line_help.proofs.laws.common_beginning_is_longest.Goals as goal

pub returns : goal.returns
returns c = common_beginning_is_longest_holds
