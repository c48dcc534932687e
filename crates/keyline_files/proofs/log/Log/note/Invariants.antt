use Rattle.std.specs.Prelude.{◌∷◌}
use Rattle.keyline_files.specs.FileCalls.{Did}
use Rattle.keyline_files.proofs.log.Log.note.Given as goal

abbrev pub ghost-noted : goal.ghost-noted
ghost-noted a =
    let log = a._by.now.0.now in let what = a._by.now.1.now in let bytes = a._by.now.2.now in let answer = a._by.now.3.now in
    Did what bytes answer ∷ log.calls
