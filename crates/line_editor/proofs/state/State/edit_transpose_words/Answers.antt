use Rattle.std.proofs.Common.{refl}
use Rattle.line_edits.specs.Edits.{transpose_words_group}
use Rattle.line_editor.specs.Transforms.{transpose_words_effect}
use Rattle.line_editor.specs.States.{value_of}
use Rattle.line_editor.proofs.EditLemmas.{edit_refused, words_drawn}
use Rattle.line_editor.proofs.state.State.edit_transpose_words.Goals as goal

pub returns-in_err-done : goal.returns-in_err-done
returns-in_err-done g c =
    let s = c.args.self.now in
    record {
      does = edit_refused (transpose_words_effect c.args.n) (words_drawn c.args.n (value_of s))
          (transpose_words_group c.args.n) (value_of s) s _ _ _ _ c.from_residual.ensures.1 refl refl c.in_err-done.ensures refl refl (assumption);
    }
