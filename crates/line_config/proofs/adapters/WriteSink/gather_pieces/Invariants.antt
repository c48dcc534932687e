-- A prefix of the bytes was taken, and the rest of them is still to be. The space there was is
-- still there, except for them; so if all of them fit, none was sent.
use Rattle.std.proofs.Common.{◌≡◌, ◌≤◌, ◌+◌, ◌++◌, List, ℕ, length}
use Rattle.line_config.specs.Adapters.{bytes_taken}
use Rattle.line_config.specs.Parts.{room_in, Notes}
use Rattle.line_config.proofs.adapters.WriteSink.gather_pieces.Given as goal

abbrev pub invariant-loop-rest : goal.invariant-loop-rest
invariant-loop-rest g l =
    (done : List ℕ) × (l.bytes ≡ done ++ l.rest) × (bytes_taken l.self ≡ bytes_taken l.fn.self ++ done)
    × Notes g.W.Write.contents l.fn.self.writer l.self.writer
    × (room_in l.fn.self.unsent ≤ room_in l.self.unsent + length done)
    × (length l.bytes ≤ room_in l.fn.self.unsent → l.self.writer ≡ l.fn.self.writer)

abbrev pub decreases-loop-rest : goal.decreases-loop-rest
decreases-loop-rest g l = length l.rest
