use Rattle.line_buffer.specs.declared.types.At.TheVariants.{Start}
use Rattle.line_buffer.specs.declared.types.Word.TheVariants.{Big}
use Rattle.line_editor.specs.Moving.{move_home, move_to_next_word}
use Rattle.line_editor.proofs.DoesLemmas.{does_both, does_cut_by}
use Rattle.line_editor.proofs.state.State.edit_move_home_and_on.Goals as goal

pub returns-in_err-edit_move_home : goal.returns-in_err-edit_move_home
returns-in_err-edit_move_home g c = record { does = does_cut_by move_home (move_to_next_word Start Big 1) _ _ _ _ c.from_residual.ensures.1 c.in_err-edit_move_home.ensures.does }

pub returns : goal.returns
returns g c = record { does = does_both move_home (move_to_next_word Start Big 1) _ _ _ _ _ c.in_ok-edit_move_home.ensures.does c.edit_move_to_next_word.ensures.does }
