use Rattle.std.proofs.Common.{rules, refl}
use Rattle.line_editor.proofs.MeetLemmas.{back_refused}
use Rattle.line_editor.proofs.state.State.take_hit_back.Goals as goal

pub returns-in_err-undo : goal.returns-in_err-undo
returns-in_err-undo g c = record {
  does = back_refused c.args.put _ _ _ (search rules) c.from_residual.ensures.1 c.in_err-undo.ensures.left refl refl (assumption);
}
