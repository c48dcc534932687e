-- A write is repeated if it was interrupted, and only then.
use Rattle.std.proofs.Common.{◌≡◌, ◌^◌, ◌-◌, ◌∙◌, refl, arith}
use Rattle.line_config.specs.DeviceCalls.{move_interrupted}
use Rattle.line_config.proofs.NotesLemmas.{notes_none, notes_same, notes_then, notes_written}
use Rattle.line_config.proofs.TryLemmas.{again_none, again_more, interrupted_move, tries_out}
use Rattle.line_config.proofs.retry.write_retrying.Goals as goal

pub loop-tried-init : goal.loop-tried-init
loop-tried-init g c = (refl, notes_same _ _, again_none move_interrupted _)

pub loop-tried-preserved : goal.loop-tried-preserved
loop-tried-preserved g c =
    let so_far = c.loop-tried.invariant in
    let kind = c.was_interrupted.ensures.0 c.if-was_interrupted.true in
    let same = interrupted_move c.write.result c.in-Err.e c.args.bytes.now c.in-Err.is kind in (
      c.in-Err.ensures.bytes ∙ so_far.0,
      notes_then _ _ _ _ so_far.1 (notes_none _ _ _ _ c.in-Err.ensures.bytes c.in-Err.ensures.writer c.write.ensures.noted),
      again_more c.loop-tried._tried move_interrupted _ _ _ _ so_far.2 c.write.ensures.noted same,
    )

pub returns-clause-tries : goal.returns-clause-tries
returns-clause-tries g c =
    let all : c.loop-tried._tried ≡ 2 ^ 64 - 1 = omega (arith, c.loop-tried-test.false, c.loop-tried.auto._tried-end) in
    tries_out move_interrupted _ c.loop-tried._tried _ _ c.loop-tried.invariant.2 all tt

pub returns-in-Ok-eq0-clause-writer : goal.returns-in-Ok-eq0-clause-writer
returns-in-Ok-eq0-clause-writer g c =
    notes_then _ _ _ _ c.loop-tried.invariant.1
    (notes_written _ _ _ c.write.result _ _ _ c.in-Ok-eq0.is c.write.ensures.bytes c.write.ensures.writer c.write.ensures.noted)

pub returns-in-Ok-clause-writer : goal.returns-in-Ok-clause-writer
returns-in-Ok-clause-writer g c =
    notes_then _ _ _ _ c.loop-tried.invariant.1
    (notes_written _ _ _ c.write.result _ _ _ c.in-Ok.is c.write.ensures.bytes c.write.ensures.writer c.write.ensures.noted)

pub returns-in-Err-2-clause-writer : goal.returns-in-Err-2-clause-writer
returns-in-Err-2-clause-writer g c =
    notes_then _ _ _ _ c.loop-tried.invariant.1 (notes_none _ _ _ _ c.in-Err.ensures.bytes c.in-Err.ensures.writer c.write.ensures.noted)
