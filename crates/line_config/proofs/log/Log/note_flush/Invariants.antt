use Rattle.std.specs.Prelude.{◌∷◌}
use Rattle.line_config.specs.DeviceCalls.{flushes}
use Rattle.line_config.proofs.log.Log.note_flush.Given as goal

abbrev pub ghost-noted : goal.ghost-noted
ghost-noted a = (a._by.now.0.now.bytes, flushes a._by.now.1.now ∷ a._by.now.0.now.calls)
