use Rattle.std.proofs.Common.{refl}
use Rattle.line_edits.proofs.StepLemmas.{told_rewrites, stopped_rewrites}
use Rattle.line_edits.proofs.transforms.rows_told.Goals as goal

pub returns : goal.returns
returns c = told_rewrites _ c.as_str-text.ensures.utf8 c.requires refl c.in_ok-indent.ensures.line c.in_ok-indent.ensures.told

pub returns-in_err-indent : goal.returns-in_err-indent
returns-in_err-indent c = stopped_rewrites _ c.from_residual.result c.from_residual.ensures.1 c.as_str-text.ensures.utf8 c.requires c.in_err-indent.ensures.left
