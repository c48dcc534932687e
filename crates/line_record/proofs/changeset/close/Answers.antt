use Rattle.std.proofs.Common.{◌∙◌, sym, ap, subst, Option, ℕ, reverse}
use Rattle.line_record.specs.Log.{IsRecord, oldest_mark}
use Rattle.line_record.proofs.DoneLemmas.{closed_marks, no_marks, mark_below}
use Rattle.line_record.proofs.changeset.close.Goals as goal

pub close-requires-clause-order : goal.close-requires-clause-order
close-requires-clause-order c =
    mark_below c.args.steps.now c.args.done c.in-Some.mark (subst (λ (m : Option ℕ). IsRecord c.args.steps.now c.args.done m) c.in-Some.is (record { inside = c.requires.inside; marked = c.requires.marked }))

pub returns-in-Some : goal.returns-in-Some
returns-in-Some c =
    let h = subst (λ (m : Option ℕ). IsRecord c.args.steps.now c.args.done m) c.in-Some.is (record { inside = c.requires.inside; marked = c.requires.marked }) in
    let closed = closed_marks c.args.steps.now c.close.new.self c.args.done c.in-Some.mark c.close.result h c.close.ensures.answer c.close.ensures.items in
    record { ended = closed.0; unmarked = closed.1 }

pub returns-in-None : goal.returns-in-None
returns-in-None c =
    let h = subst (λ (m : Option ℕ). IsRecord c.args.steps.now c.args.done m) c.in-None.is (record { inside = c.requires.inside; marked = c.requires.marked }) in
    record {
      ended = no_marks c.args.steps.now c.truncate.new.self c.args.done h c.truncate.ensures;
      unmarked = ap (λ xs. oldest_mark (reverse xs)) c.truncate.ensures ∙ sym h.marked;
    }
