use Rattle.std.proofs.Common.{◌-◌, sym, arith}
use Rattle.line_buffer.proofs.RunLemmas.{block_more}
use Rattle.line_buffer.proofs.runs.blocks_from.Goals as goal

pub loop-start-preserved : goal.loop-start-preserved
loop-start-preserved g c = record {
  bound = omega (arith, c.loop-start.invariant.bound);
  run = block_more g.C.ByteClass.class c.args.bytes.now (c.loop-start.start - 32) c.loop-start.start (omega arith) (sym c.if-test_all.ensures) c.loop-start.invariant.run;
}
