use Rattle.std.proofs.lemmas.Str.{IsCharBoundary-start}
use Rattle.line_record.proofs.gap_line.GapLine.write.Goals as goal

pub replace-requires-clause-start : goal.replace-requires-clause-start
replace-requires-clause-start c = IsCharBoundary-start c.args.line.now.text c.as_str-end.ensures.utf8
