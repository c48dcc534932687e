use Rattle.std.proofs.Common.{◌-◌, sym, arith}
use Rattle.std.proofs.lemmas.List.{length-take}
use Rattle.line_buffer.proofs.RunLemmas.{byte_more, blocks_more}
use Rattle.line_buffer.proofs.runs.run_from.Goals as goal

pub loop-start-preserved-then-bytes-start-eq-NEAR :
    goal.loop-start-preserved-then-bytes-start-eq-NEAR
loop-start-preserved-then-bytes-start-eq-NEAR g c = record {
  bound = omega (arith, c.blocks_from-start.ensures.bound, length-take (c.loop-start.start - 1) c.args.bytes.now);
  run = blocks_more g.C.ByteClass.class c.args.bytes.now c.blocks_from-start.result (c.loop-start.start - 1)
      (omega (arith, c.blocks_from-start.ensures.bound, length-take (c.loop-start.start - 1) c.args.bytes.now))
      c.blocks_from-start.ensures.run
      (byte_more g.C.ByteClass.class c.args.bytes.now c.loop-start.start c.loop-start-test.true c.loop-start.invariant.bound (sym c.if-has.ensures) c.loop-start.invariant.run);
}
