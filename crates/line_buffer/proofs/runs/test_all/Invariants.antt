use Rattle.std.proofs.Common.{◌≡◌, take}
use Rattle.std.specs.List.{list_all}
use Rattle.line_buffer.proofs.runs.test_all.Given as goal

abbrev pub invariant-loop-byte : goal.invariant-loop-byte
invariant-loop-byte g l = l.all ≡ list_all g.C.ByteClass.class (take l.byte-index l.bytes)
