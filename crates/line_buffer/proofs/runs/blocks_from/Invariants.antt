use Rattle.std.proofs.Common.{◌≡◌, ◌≤◌, length, drop, true}
use Rattle.std.specs.List.{list_all}
use Rattle.line_buffer.proofs.runs.blocks_from.Given as goal

abbrev pub invariant-loop-start : goal.invariant-loop-start
invariant-loop-start g l = record {
  bound : l.start ≤ length l.bytes;
  run : list_all g.C.ByteClass.class (drop l.start l.bytes) ≡ true;
}

abbrev pub decreases-loop-start : goal.decreases-loop-start
decreases-loop-start g l = l.start
