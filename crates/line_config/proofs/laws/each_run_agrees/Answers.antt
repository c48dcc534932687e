use Rattle.line_config.proofs.ForetoldLemmas.{agrees_with_itself}
use Rattle.line_config.proofs.laws.each_run_agrees.Goals as goal

pub returns : goal.returns
returns c = agrees_with_itself
