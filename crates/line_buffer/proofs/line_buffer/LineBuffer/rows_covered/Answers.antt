use Rattle.std.proofs.lemmas.Str.{IsCharBoundary-start}
use Rattle.line_buffer.proofs.line_buffer.LineBuffer.rows_covered.Goals as goal

pub returns-in-WholeBuffer-clause-start : goal.returns-in-WholeBuffer-clause-start
returns-in-WholeBuffer-clause-start c = IsCharBoundary-start _ c.as_str-text.ensures.utf8

pub returns-in-BeginningOfBuffer-clause-start : goal.returns-in-BeginningOfBuffer-clause-start
returns-in-BeginningOfBuffer-clause-start c = IsCharBoundary-start _ c.as_str-text.ensures.utf8
