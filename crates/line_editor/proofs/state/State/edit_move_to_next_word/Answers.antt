use Rattle.std.proofs.Common.{refl}
use Rattle.line_keys.specs.declared.command.CmdKind.TheVariants.{MoveCursor}
use Rattle.line_editor.proofs.MarkLemmas.{follows_found}
use Rattle.line_editor.proofs.state.State.edit_move_to_next_word.Goals as goal
use Rattle.line_editor.proofs.DoesLemmas.{stays_by}

pub returns : goal.returns
returns g c =
    let moved = c.move_to_next_word-moved.ensures in
    record {
      does = follows_found MoveCursor _ _ _ _ _ _ _ moved.answer moved.line refl refl (stays_by refl refl refl refl refl refl) refl c.follow.ensures.does;
      fault = c.follow.ensures.fault;
    }
