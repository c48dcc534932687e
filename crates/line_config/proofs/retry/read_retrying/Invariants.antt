-- What was interrupted has read nothing.
use Rattle.std.proofs.Common.{◌≡◌}
use Rattle.std.specs.Io.KnownBytes.{Keeps}
use Rattle.line_config.specs.DeviceCalls.{again, move_interrupted}
use Rattle.line_config.specs.Parts.{calls_of, inner_of, took}
use Rattle.line_config.proofs.retry.read_retrying.Given as goal

abbrev pub invariant-loop-tried : goal.invariant-loop-tried
invariant-loop-tried g l =
    Keeps (g.R.Read.remaining (inner_of l.fn.reader)) (g.R.Read.remaining (inner_of l.reader))
    × (took l.reader ≡ took l.fn.reader)
    × (calls_of l.reader ≡ again l._tried move_interrupted (calls_of l.fn.reader))
