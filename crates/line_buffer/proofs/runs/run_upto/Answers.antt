use Rattle.std.proofs.Common.{◌+◌, ◌-◌, drop, take, length, ap, sym, ◌∙◌, arith}
use Rattle.std.specs.List.{list_all}
use Rattle.std.proofs.lemmas.List.{length-take, take-take}
use Rattle.line_buffer.proofs.RunLemmas.{byte_before, blocks_before}
use Rattle.line_buffer.proofs.runs.run_upto.Goals as goal

pub loop-end-preserved-then-end-eq-NEAR : goal.loop-end-preserved-then-end-eq-NEAR
loop-end-preserved-then-end-eq-NEAR g c = record {
  bound = omega (arith, c.blocks_upto-end.ensures.bound, c.if-end-eq-NEAR.true, c.loop-end-test.true, length-take (length c.args.bytes.now - 16) (drop 16 c.args.bytes.now));
  run = blocks_before g.C.ByteClass.class c.args.bytes.now (c.loop-end.end + 1) c.blocks_upto-end.result
      (ap (λ n. list_all g.C.ByteClass.class (take c.blocks_upto-end.result (drop n c.args.bytes.now))) c.if-end-eq-NEAR.true
      ∙ ap (list_all g.C.ByteClass.class)
      (sym (take-take c.blocks_upto-end.result (length c.args.bytes.now - 16) (drop 16 c.args.bytes.now)
      (omega (arith, c.blocks_upto-end.ensures.bound, length-take (length c.args.bytes.now - 16) (drop 16 c.args.bytes.now)))))
      ∙ c.blocks_upto-end.ensures.run)
      (byte_before g.C.ByteClass.class c.args.bytes.now c.loop-end.end c.loop-end-test.true (sym c.if-has.ensures) c.loop-end.invariant.run);
}
