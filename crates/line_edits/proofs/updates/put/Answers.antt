use Rattle.std.proofs.Common.{refl}
use Rattle.line_edits.proofs.StepLemmas.{told_rewrites, stopped_rewrites}
use Rattle.line_edits.proofs.updates.put.Goals as goal

pub returns : goal.returns
returns c = told_rewrites _ c.as_str-text.ensures.utf8 c.requires.stand refl c.in_ok-update.ensures.line c.in_ok-update.ensures.told

pub returns-in_err-update : goal.returns-in_err-update
returns-in_err-update c = stopped_rewrites _ c.from_residual.result c.from_residual.ensures.1 c.as_str-text.ensures.utf8 c.requires.stand c.in_err-update.ensures.left
