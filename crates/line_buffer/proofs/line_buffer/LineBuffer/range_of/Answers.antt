use Rattle.std.proofs.lemmas.Str.{IsCharBoundary-start}
use Rattle.line_buffer.proofs.line_buffer.LineBuffer.range_of.Goals as goal

pub around-requires-in-WholeBuffer-2-clause-start : goal.around-requires-in-WholeBuffer-2-clause-start
around-requires-in-WholeBuffer-2-clause-start c = IsCharBoundary-start _ c.as_str-text.ensures.utf8

pub back_to-requires-in-BeginningOfBuffer-2-clause-boundary : goal.back_to-requires-in-BeginningOfBuffer-2-clause-boundary
back_to-requires-in-BeginningOfBuffer-2-clause-boundary c = IsCharBoundary-start _ c.as_str-text.ensures.utf8
