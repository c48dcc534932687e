-- The bytes gathered in one turn go from the front of the rest to the end of what was taken.
use Rattle.std.proofs.Common.{◌≡◌, ◌<◌, ◌+◌, ◌++◌, ◌∙◌, ℕ, List, sym, ap, arith, length, length-append, take, drop, take-append-drop, append_assoc}
use Rattle.std.proofs.lemmas.List.{take_rest, length-take-le}
use Rattle.std.proofs.lemmas.Grind.{common_steps}
use Rattle.line_config.proofs.NotesLemmas.{notes_then}
use Rattle.line_config.proofs.TryLemmas.{ends_since}
use Rattle.line_config.proofs.Taking.{on_err}
use Rattle.line_config.specs.DeviceCalls.{IsWriteFailure}
use Rattle.line_config.proofs.adapters.WriteSink.gather_pieces.Goals as goal

pub loop-rest-preserved : goal.loop-rest-preserved
loop-rest-preserved g c =
    let so_far = c.loop-rest.invariant in
    let n = c.in_ok-count.count in
    let rest = c.loop-rest.rest.now in
    let parts : so_far.0 ++ rest ≡ so_far.0 ++ take n rest ++ drop n rest =
    ap (λ (t : List ℕ). so_far.0 ++ t) (sym (take-append-drop n rest)) ∙ sym (append_assoc so_far.0 (take n rest) (drop n rest)) in
    let front : length (take n rest) ≡ n = length-take-le n rest c.in_ok-count.ensures.bound in
    let room = c.in_ok-count.ensures.room in
    let some : 0 < length rest = grind (arith, common_steps) in
    let whole : length c.args.bytes.now ≡ length so_far.0 + length rest = ap length so_far.1 ∙ length-append so_far.0 rest in
    rw (take_rest rest n) (
      so_far.0 ++ take n rest,
      so_far.1 ∙ parts,
      c.in_ok-count.ensures.ok ∙ ap (λ (t : List ℕ). t ++ take n rest) so_far.2 ∙ append_assoc _ so_far.0 (take n rest),
      notes_then _ _ _ _ so_far.3 c.in_ok-count.ensures.writer,
      omega (arith, so_far.4, room, front, length-append so_far.0 (take n rest)),
      λ fits. c.in_ok-count.ensures.waiting (omega (arith, so_far.4, whole, some, fits)) ∙ so_far.5 fits,
    )

pub returns-in_err-count-clause-cause : goal.returns-in_err-count-clause-cause
returns-in_err-count-clause-cause g c =
    on_err c.from_residual.result (ends_since IsWriteFailure _ _ _ c.loop-rest.invariant.3.calls c.in_err-count.ensures.cause)

pub returns-in_err-count-clause-writer : goal.returns-in_err-count-clause-writer
returns-in_err-count-clause-writer g c = notes_then _ _ _ _ c.loop-rest.invariant.3 c.gather.ensures.writer
