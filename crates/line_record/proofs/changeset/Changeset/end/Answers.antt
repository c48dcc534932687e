use Rattle.std.proofs.Common.{sym, refl}
use Rattle.line_record.proofs.DoneLemmas.{all_marked}
use Rattle.line_record.proofs.changeset.Changeset.end.Goals as goal

pub invariant_of-self : goal.invariant_of-self
invariant_of-self c = all_marked c.close-closed.new.steps c.len-self-inside.result _ _ c.len-self-inside.ensures refl (sym c.close-closed.ensures.unmarked)
