use Rattle.std.proofs.Common.{refl}
use Rattle.line_editor.proofs.CompleteLemmas.{updating_cut}
use Rattle.line_editor.proofs.state.State.update_word.Goals as goal

pub returns-in-Err : goal.returns-in-Err
returns-in-Err g c = record {
  does = rw c.error_of.ensures (updating_cut _ _ _ _ _ _ c.in-Some.is (rw c.in-Err.is at c.update.ensures.refused) refl (assumption) refl);
}
