use Rattle.std.specs.Prelude.{[]}
use Rattle.keyline_files.proofs.log.Log.new.Given as goal

abbrev pub ghost-noted : goal.ghost-noted
ghost-noted a = []
