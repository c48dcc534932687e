use Rattle.std.proofs.Common.{take, sym, ap, subst, ◌∙◌, List}
use Rattle.line_record.specs.Items.{Item}
use Rattle.line_record.specs.Log.{IsRecord, record_of}
use Rattle.line_record.proofs.StoredLemmas.{truncated_held, truncated_stand}
use Rattle.line_record.proofs.DoneLemmas.{kept_first}
use Rattle.line_record.proofs.changeset.Changeset.truncate.Goals as goal

pub invariant_of-self : goal.invariant_of-self
invariant_of-self c =
    subst (λ (xs : List Item). IsRecord xs c.min-kept.result c.mark_within-self-inside.result) (sym c.truncate.ensures)
    (subst (λ m. IsRecord (take c.min-kept.result c.self.inside.steps) c.min-kept.result m) (sym c.mark_within-self-inside.ensures)
    (kept_first c.self.inside.steps c.self.inside.done c.args.n c.min-kept.result c.self.inside.mark c.args.self.now c.self.view_is c.min-kept.ensures c.self.invariant).is)

pub returns-clause-value : goal.returns-clause-value
returns-clause-value c =
    ap (λ (xs : List Item). record_of xs c.min-kept.result) c.truncate.ensures
    ∙ (kept_first c.self.inside.steps c.self.inside.done c.args.n c.min-kept.result c.self.inside.mark c.args.self.now c.self.view_is c.min-kept.ensures c.self.invariant).value

pub returns-clause-held : goal.returns-clause-held
returns-clause-held c = λ text. truncated_held c.args.n c.args.self.now text _ (returns-clause-value c)

pub returns-clause-stand : goal.returns-clause-stand
returns-clause-stand c = λ text stand. truncated_stand c.args.n c.args.self.now text _ (returns-clause-value c) stand
