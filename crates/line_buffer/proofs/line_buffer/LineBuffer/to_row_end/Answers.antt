use Rattle.std.proofs.Common.{arith, rules}
use Rattle.line_buffer.proofs.RangeLemmas.{after_row}
use Rattle.line_buffer.proofs.line_buffer.LineBuffer.to_row_end.Goals as goal

pub returns-then-end-len : goal.returns-then-end-len
returns-then-end-len c = record {
  value = search rules;
  span = record {
    order = omega arith;
    start = c.requires.boundary;
    end = after_row _ _ _ c.row_end-end.ensures.value c.as_str-text.ensures.utf8 (omega arith) (omega arith);
  };
}
