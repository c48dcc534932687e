use Rattle.line_help.proofs.CompletionLawLemmas.{escapes_come_back_holds}
use Rattle.line_help.proofs.laws.escapes_come_back.Goals as goal

pub returns : goal.returns
returns c = escapes_come_back_holds
