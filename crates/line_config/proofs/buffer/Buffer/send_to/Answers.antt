-- What one write takes goes from the front of what is held.
use Rattle.std.proofs.Common.{◌≤◌, ◌+◌, ℕ, arith, length, take-append-drop, append_assoc}
use Rattle.std.proofs.lemmas.List.{length-take, length-drop}
use Rattle.line_config.specs.Parts.{bytes_in}
use Rattle.line_config.proofs.BufferLemmas.{slice_range-later}
use Rattle.line_config.proofs.NotesLemmas.{notes_then}
use Rattle.line_config.proofs.TryLemmas.{ends_tries, write_fails}
use Rattle.line_config.proofs.Taking.{on_err}
use Rattle.line_config.specs.DeviceCalls.{IsWriteFailure}
use Rattle.line_config.proofs.buffer.Buffer.send_to.Goals as goal

pub loop-self-preserved : goal.loop-self-preserved
loop-self-preserved g c =
    let w = c.loop-self.self in
    let n = c.in_ok-count.count in
    let all = bytes_in w in
    let bound : n ≤ length all = rw (← c.as_slice.ensures) c.in_ok-count.ensures.bound in
    let inside : w.start + n ≤ w.end = omega (arith, bound, length-take {A = ℕ}, length-drop {A = ℕ}) in
    let sent = rw c.as_slice.ensures at c.in_ok-count.ensures.bytes in (
      rw (slice_range-later w.bytes w.start w.end n inside, sent, append_assoc, take-append-drop) c.loop-self.invariant.0,
      notes_then _ _ _ _ c.loop-self.invariant.1 c.in_ok-count.ensures.writer,
    )

pub returns-in_err-count-clause-cause : goal.returns-in_err-count-clause-cause
returns-in_err-count-clause-cause g c =
    on_err c.from_residual.result
    (ends_tries _ _ _ _ _ IsWriteFailure c.loop-self.invariant.1.calls c.write_retrying.ensures.tries
    (write_fails _ c.write_retrying.result _ c.in_err-count.was))
