use Rattle.line_help.proofs.ReloadLemmas.{reload_holds}
use Rattle.line_help.proofs.laws.reload.Goals as goal

pub returns : goal.returns
returns c = reload_holds
