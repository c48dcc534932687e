use Rattle.std.proofs.Common.{◌-◌, ◌<◌, length, subst, ap, ◌∙◌, arith}
use Rattle.line_record.specs.Items.{last_changes}
use Rattle.line_record.proofs.UndoLemmas.{last_changes_of}
use Rattle.line_record.proofs.changeset.Changeset.undo_last.Goals as goal

pub undo_apart-requires-clause-some : goal.undo_apart-requires-clause-some
undo_apart-requires-clause-some c =
    let first = c.saturating_sub-first.ensures ∙ ap (λ n. c.self.inside.done - n) c.from.ensures in
    let is = last_changes_of c.self.inside.steps c.self.inside.done c.args.n c.saturating_sub-first.result c.self.invariant.inside first in
    subst (λ s. 0 < length (last_changes c.args.n s.done)) c.self.view_is (omega (arith, c.if-is_long.true, c.change_count-is_long.ensures, ap length is))
