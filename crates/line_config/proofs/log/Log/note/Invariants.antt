use Rattle.std.specs.Prelude.{◌∷◌, ◌++◌}
use Rattle.line_config.specs.DeviceCalls.{bytes_moved, moves}
use Rattle.line_config.proofs.log.Log.note.Given as goal

abbrev pub ghost-noted : goal.ghost-noted
ghost-noted a =
    let log = a._by.now.0.now in let answer = a._by.now.1.now in let bytes = a._by.now.2.now in
    (log.bytes ++ bytes_moved answer bytes, moves answer bytes ∷ log.calls)
