use Rattle.std.proofs.Common.{ap, sym, ◌∙◌, length}
use Rattle.line_record.proofs.StoredLemmas.{length-done_held}
use Rattle.line_record.proofs.DoneLemmas.{count_done}
use Rattle.line_record.proofs.changeset.Changeset.begin.Goals as goal

pub returns-clause-answer : goal.returns-clause-answer
returns-clause-answer c = λ text.
    sym (count_done c.self.inside.steps c.self.inside.done c.self.invariant.inside) ∙ ap (λ s. length s.done) c.self.view_is ∙ sym (length-done_held c.args.self.now.done text)
