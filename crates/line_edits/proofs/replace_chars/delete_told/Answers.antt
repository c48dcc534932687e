use Rattle.std.proofs.Common.{refl}
use Rattle.line_edits.proofs.StepLemmas.{told_rewrites, stopped_rewrites}
use Rattle.line_edits.proofs.replace_chars.delete_told.Goals as goal

pub returns : goal.returns
returns c = told_rewrites _ c.as_str-text.ensures.utf8 c.requires refl c.in_ok-delete.ensures.edits.line c.in_ok-delete.ensures.edits.told

pub returns-in_err-delete : goal.returns-in_err-delete
returns-in_err-delete c = stopped_rewrites _ c.from_residual.result c.from_residual.ensures.1 c.as_str-text.ensures.utf8 c.requires c.in_err-delete.ensures.edits.left
