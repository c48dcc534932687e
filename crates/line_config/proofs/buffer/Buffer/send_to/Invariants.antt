-- What was sent and what is still held are together what was there at first.
use Rattle.std.proofs.Common.{◌-◌, ◌≡◌, ◌++◌}
use Rattle.line_config.specs.Parts.{bytes_in, Notes, took}
use Rattle.line_config.proofs.buffer.Buffer.send_to.Given as goal

abbrev pub invariant-loop-self : goal.invariant-loop-self
invariant-loop-self g l =
    (took l.writer ++ bytes_in l.self ≡ took l.fn.writer ++ bytes_in l.fn.self)
    × Notes g.W.Write.contents l.fn.writer l.writer

abbrev pub decreases-loop-self : goal.decreases-loop-self
decreases-loop-self g l = l.self.end - l.self.start
