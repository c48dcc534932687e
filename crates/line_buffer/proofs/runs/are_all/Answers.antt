use Rattle.std.proofs.Common.{◌+◌, sym, ◌∙◌, arith}
use Rattle.line_buffer.proofs.RunLemmas.{part_passed, part_failed, part_is_rest}
use Rattle.line_buffer.proofs.runs.are_all.Goals as goal

pub returns-then-not-test_all : goal.returns-then-not-test_all
returns-then-not-test_all g c =
    sym (part_failed g.C.ByteClass.class c.args.bytes.now c.loop-start.start (c.loop-start.start + 256) (omega arith) (sym c.if-not-test_all.ensures)) ∙ c.loop-start.invariant.rest

pub loop-start-preserved : goal.loop-start-preserved
loop-start-preserved g c = record {
  bound = omega (arith, c.loop-start.invariant.bound, c.loop-start-test.true);
  rest = part_passed g.C.ByteClass.class c.args.bytes.now c.loop-start.start (c.loop-start.start + 256) (omega arith) (sym c.if-not-test_all.ensures) ∙ c.loop-start.invariant.rest;
}

pub returns : goal.returns
returns g c = c.test_all-2.ensures ∙ part_is_rest g.C.ByteClass.class c.args.bytes.now c.loop-start.start ∙ c.loop-start.invariant.rest

pub loop-start-smaller : goal.loop-start-smaller
loop-start-smaller g c = omega (arith, c.loop-start.invariant.bound, c.loop-start-test.true)
