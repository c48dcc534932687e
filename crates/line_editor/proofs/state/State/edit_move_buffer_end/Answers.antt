use Rattle.std.proofs.Common.{refl}
use Rattle.line_editor.proofs.MarkLemmas.{follows_from}
use Rattle.line_editor.proofs.state.State.edit_move_buffer_end.Goals as goal
use Rattle.line_editor.proofs.DoesLemmas.{stays_by}

pub returns : goal.returns
returns g c =
    let moved = c.move_buffer_end-moved.ensures in
    record {
      does = follows_from c.args.kind _ _ _ _ _ _ _ moved.answer moved.line refl refl (stays_by refl refl refl refl refl refl) refl c.follow.ensures.does;
      fault = c.follow.ensures.fault;
    }
