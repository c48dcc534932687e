use Rattle.line_help.proofs.MessageLemmas.{message_law}
use Rattle.line_help.proofs.laws.message_names.Goals as goal

pub returns : goal.returns
returns c = message_law
