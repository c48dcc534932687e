use Rattle.line_edits.proofs.StepLemmas.{told_rewrites, stopped_rewrites}
use Rattle.line_edits.proofs.transforms.word_told.Goals as goal

pub returns : goal.returns
returns c = told_rewrites _ c.as_str-text.ensures.utf8 c.requires c.in_ok-edit_word.ensures.answer c.in_ok-edit_word.ensures.line c.in_ok-edit_word.ensures.told

pub returns-in_err-edit_word : goal.returns-in_err-edit_word
returns-in_err-edit_word c = stopped_rewrites _ c.from_residual.result c.from_residual.ensures.1 c.as_str-text.ensures.utf8 c.requires c.in_err-edit_word.ensures.left
