use Rattle.std.proofs.Common.{◌≡◌, ◌-◌, ◌≤◌, length, drop}
use Rattle.std.specs.List.{list_all}
use Rattle.line_buffer.proofs.runs.are_all.Given as goal

abbrev pub invariant-loop-start : goal.invariant-loop-start
invariant-loop-start g l = record {
  bound : l.start ≤ length l.bytes;
  rest : list_all g.C.ByteClass.class (drop l.start l.bytes) ≡ list_all g.C.ByteClass.class l.bytes;
}

abbrev pub decreases-loop-start : goal.decreases-loop-start
decreases-loop-start g l = length l.bytes - l.start
