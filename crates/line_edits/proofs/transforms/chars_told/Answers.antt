use Rattle.line_edits.proofs.StepLemmas.{told_rewrites, stopped_rewrites}
use Rattle.line_edits.proofs.transforms.chars_told.Goals as goal

pub returns : goal.returns
returns c = told_rewrites _ c.as_str-text.ensures.utf8 c.requires c.in_ok-transpose_chars.ensures.edits.answer c.in_ok-transpose_chars.ensures.edits.line c.in_ok-transpose_chars.ensures.edits.told

pub returns-in_err-transpose_chars : goal.returns-in_err-transpose_chars
returns-in_err-transpose_chars c = stopped_rewrites _ c.from_residual.result c.from_residual.ensures.1 c.as_str-text.ensures.utf8 c.requires c.in_err-transpose_chars.ensures.edits.left
