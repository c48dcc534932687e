use Rattle.line_help.proofs.ReloadLemmas.{reload_appended_holds}
use Rattle.line_help.proofs.laws.reload_appended.Goals as goal

pub returns : goal.returns
returns c = reload_appended_holds
