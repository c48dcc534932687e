use Rattle.std.specs.Str.Iter.{char_indices_rest, char_indices_offset}
use Rattle.line_buffer.proofs.IndentLemmas.{Walks}
use Rattle.line_buffer.proofs.indentation.leading_len.Given as goal

abbrev pub invariant-loop-i : goal.invariant-loop-i
invariant-loop-i l = Walks l.row l.count (char_indices_offset l.i-iterator) (char_indices_rest l.i-iterator) l.missing
