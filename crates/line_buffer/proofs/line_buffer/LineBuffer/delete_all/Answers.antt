use Rattle.std.proofs.lemmas.Str.{IsCharBoundary-start}
use Rattle.line_buffer.proofs.line_buffer.LineBuffer.delete_all.Goals as goal

pub delete_range-requires-clause-start : goal.delete_range-requires-clause-start
delete_range-requires-clause-start g c = IsCharBoundary-start _ c.as_str-text.ensures.utf8
