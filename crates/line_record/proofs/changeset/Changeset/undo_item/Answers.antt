use Rattle.std.proofs.Common.{◌≡◌, suc, subst, sym, arith}
use Rattle.line_record.specs.Log.{IsRecord}
use Rattle.line_record.proofs.DoneLemmas.{undone_marked}
use Rattle.line_record.proofs.changeset.Changeset.undo_item.Goals as goal

pub invariant_of-self : goal.invariant_of-self
invariant_of-self g c =
    let is : c.self.inside.done ≡ suc c.in-Some.last = omega (arith, c.in-Some.ensures) in
    subst (λ m. IsRecord c.self.inside.steps c.in-Some.last m) (sym c.mark_within-self-inside.ensures)
    (undone_marked c.self.inside.steps c.self.inside.done c.in-Some.last c.self.inside.mark is c.self.invariant)
