use Rattle.std.proofs.Common.{sym, subst}
use Rattle.line_config.specs.declared.config.Config.{Config}
use Rattle.keyline.specs.Program.{IsByEnvironment, has_text}
use Rattle.keyline.proofs.EnvironmentLemmas.{coloured_or_not}
use Rattle.keyline.proofs.program.by_environment.Goals as goal

pub returns : goal.returns
returns c = subst (λ (x : Config). IsByEnvironment c.args.config x) (sym c.coloured_by.ensures) (coloured_or_not (has_text c.var.result) c.args.config)
