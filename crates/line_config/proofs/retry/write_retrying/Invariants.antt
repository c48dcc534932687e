-- What was interrupted has written nothing.
use Rattle.std.proofs.Common.{◌≡◌}
use Rattle.line_config.specs.DeviceCalls.{again, move_interrupted}
use Rattle.line_config.specs.Parts.{Notes, calls_of, took}
use Rattle.line_config.proofs.retry.write_retrying.Given as goal

abbrev pub invariant-loop-tried : goal.invariant-loop-tried
invariant-loop-tried g l = (took l.writer ≡ took l.fn.writer) × Notes g.W.Write.contents l.fn.writer l.writer
    × (calls_of l.writer ≡ again l._tried move_interrupted (calls_of l.fn.writer))
