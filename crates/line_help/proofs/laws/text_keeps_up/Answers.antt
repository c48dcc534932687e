use Rattle.line_help.proofs.CourseLemmas.{text_keeps_up_holds}
use Rattle.line_help.proofs.laws.text_keeps_up.Goals as goal

pub returns : goal.returns
returns c = text_keeps_up_holds
