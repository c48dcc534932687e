use Rattle.line_edits.specs.Edits.{transpose_words_steps}
use Rattle.line_edits.proofs.StepLemmas.{stopped_in_group}
use Rattle.line_edits.proofs.transforms.words_in_group.Goals as goal

pub returns-in_err-done : goal.returns-in_err-done
returns-in_err-done c =
    let l = c.args.line.now in
    stopped_in_group (transpose_words_steps c.args.n l) l c.args.changes.now c.in_ok-begin.ensures.value
    _ c.from_residual-in_err-done.result c.from_residual-in_err-done.ensures.1 c.words_told.ensures.writes.stand c.in_err-done.ensures.left
