use Rattle.line_buffer.specs.Transpositions.{words_around}
use Rattle.line_edits.proofs.StepLemmas.{told_rewrites, stopped_rewrites, behind_move}
use Rattle.line_edits.proofs.transforms.words_told.Goals as goal

pub returns : goal.returns
returns c =
    let l = c.args.line.now in
    behind_move l (words_around c.args.n l).first.1 _
    (told_rewrites _ c.as_str-text.ensures.utf8 c.requires c.in_ok-transpose_words.ensures.answer c.in_ok-transpose_words.ensures.line c.in_ok-transpose_words.ensures.told)

pub returns-in_err-transpose_words : goal.returns-in_err-transpose_words
returns-in_err-transpose_words c =
    let l = c.args.line.now in
    behind_move l (words_around c.args.n l).first.1 c.from_residual.result
    (stopped_rewrites _ c.from_residual.result c.from_residual.ensures.1 c.as_str-text.ensures.utf8 c.requires c.in_err-transpose_words.ensures.left)
