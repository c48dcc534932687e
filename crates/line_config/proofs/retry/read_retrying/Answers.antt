-- A read is repeated if it was interrupted, and only then.
use Rattle.std.proofs.Common.{◌≡◌, ◌^◌, ◌-◌, ◌∙◌, refl, arith}
use Rattle.line_config.specs.DeviceCalls.{move_interrupted}
use Rattle.line_config.specs.Parts.{took}
use Rattle.line_config.proofs.KnownLemmas.{keeps_same, keeps_then}
use Rattle.line_config.proofs.TryLemmas.{again_none, again_more, interrupted_move, moved_none, tries_out}
use Rattle.line_config.proofs.retry.read_retrying.Goals as goal

pub loop-tried-init : goal.loop-tried-init
loop-tried-init g c = (keeps_same _, refl, again_none move_interrupted _)

pub loop-tried-preserved : goal.loop-tried-preserved
loop-tried-preserved g c =
    let so_far = c.loop-tried.invariant in
    let kind = c.was_interrupted.ensures.0 c.if-was_interrupted.true in
    let same = interrupted_move c.read.result c.in-Err.e c.read.new.buf c.in-Err.is kind in (
      keeps_then _ _ _ so_far.0 (c.in-Err.ensures.bytes),
      moved_none c.read.result c.in-Err.e c.read.new.buf _ _ c.in-Err.is c.read.ensures.took ∙ so_far.1,
      again_more c.loop-tried._tried move_interrupted _ _ _ _ so_far.2 c.read.ensures.noted same,
    )

pub returns-clause-tries : goal.returns-clause-tries
returns-clause-tries g c =
    let all : c.loop-tried._tried ≡ 2 ^ 64 - 1 = omega (arith, c.loop-tried-test.false, c.loop-tried.auto._tried-end) in
    tries_out move_interrupted _ c.loop-tried._tried _ _ c.loop-tried.invariant.2 all tt
