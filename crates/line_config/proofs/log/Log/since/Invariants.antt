use Rattle.std.specs.Prelude.{[]}
use Rattle.line_config.proofs.log.Log.since.Given as goal

abbrev pub ghost-noted : goal.ghost-noted
ghost-noted g a = (g.before, [])
