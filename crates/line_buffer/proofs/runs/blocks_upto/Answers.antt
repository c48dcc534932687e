use Rattle.std.proofs.Common.{◌+◌, sym, arith}
use Rattle.line_buffer.proofs.RunLemmas.{block_before}
use Rattle.line_buffer.proofs.runs.blocks_upto.Goals as goal

pub loop-end-preserved : goal.loop-end-preserved
loop-end-preserved g c = record {
  bound = omega (arith, c.loop-end.invariant.bound, c.loop-end-test.true);
  run = block_before g.C.ByteClass.class c.args.bytes.now c.loop-end.end (c.loop-end.end + 32) (omega arith) (sym c.if-test_all.ensures) c.loop-end.invariant.run;
}
