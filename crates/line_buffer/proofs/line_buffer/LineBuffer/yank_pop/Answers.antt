use Rattle.std.proofs.Common.{refl, inr, sym, ◌-◌, arith}
use Rattle.line_buffer.proofs.LeftLemmas.{edits_refused, stopped_first, stopped_after_one, carried_deletion}
use Rattle.line_buffer.proofs.line_buffer.LineBuffer.yank_pop.Goals as goal

pub returns-in_err-delete_before : goal.returns-in_err-delete_before
returns-in_err-delete_before g c =
    edits_refused _ _ c.from_residual.ensures.1 (stopped_first _ _ _ _ _ _ _ _ _ refl tt (inr c.in_err-delete_before.ensures.refused) c.in_err-delete_before.ensures.kept)

pub returns-in_err-answer : goal.returns-in_err-answer
returns-in_err-answer g c =
    let l = c.args.self.now in
    edits_refused _ _ c.from_residual-in_err-answer.ensures.1 (stopped_after_one _ c.in_ok-delete_before.ensures.told (rw c.in_ok-delete_before.ensures.line at c.in_ok-delete_before.ensures.replays)
    (sym (carried_deletion l (l.place - c.args.yank_size) (omega arith) c.pos-place.ensures.boundary.0))
    (rw c.in_ok-delete_before.ensures.line at c.in_err-answer.ensures.left))
