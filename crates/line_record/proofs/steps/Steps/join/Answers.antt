use Rattle.std.proofs.Common.{sym, ap, subst, ◌∙◌, refl, is_some, Option, List}
use Rattle.line_record.specs.Change.{Change}
use Rattle.line_record.specs.Items.{Item}
use Rattle.line_record.specs.Log.{JoinedIn, items_in, event_of}
use Rattle.line_record.proofs.StepsLemmas.{step_at, joins_none, left_alone, joined_on, JoinedOn, lone_inside}
use Rattle.line_record.proofs.steps.Steps.join.Goals as goal

pub is_lone-requires : goal.is_lone-requires
is_lone-requires c = (step_at c.self.inside.log c.self.inside.steps.items c.args.self.now c.args.index c.index.result.now c.self.invariant c.self.view_is c.requires c.index.ensures).order

pub join-requires : goal.join-requires
join-requires c =
    lone_inside c.self.inside.log c.self.inside.steps.items c.args.self.now c.args.index c.index.result.now
    (step_at c.self.inside.log c.self.inside.steps.items c.args.self.now c.args.index c.index.result.now c.self.invariant c.self.view_is c.requires c.index.ensures) (sym c.is_lone.ensures ∙ c.if-not-is_lone.false)

pub returns-then-not-is_lone : goal.returns-then-not-is_lone
returns-then-not-is_lone c =
    let h = step_at c.self.inside.log c.self.inside.steps.items c.args.self.now c.args.index c.index.result.now c.self.invariant c.self.view_is c.requires
    c.index.ensures in
    let none = joins_none (event_of c.args.report) c.self.inside.log c.self.inside.steps.items c.args.self.now c.args.index c.index.result.now h c.requires
    (sym c.is_lone.ensures ∙ c.if-not-is_lone.true) in
    record { answer = sym (ap is_some none); value = subst (λ (o : Option (List Item)). JoinedIn o c.args.self.now c.args.self.now) (sym none) refl; kept = tt }

pub returns-then-not-branch : goal.returns-then-not-branch
returns-then-not-branch c =
    let h = step_at c.self.inside.log c.self.inside.steps.items c.args.self.now c.args.index c.index.result.now c.self.invariant c.self.view_is c.requires
    c.index.ensures in
    let l = left_alone (event_of c.args.report) c.self.inside.log c.join.new.self c.self.inside.steps.items c.args.self.now c.args.index c.index.result.now h
    c.requires
    (sym c.is_lone.ensures ∙ c.if-not-is_lone.false) (sym c.if-not-branch.true ∙ c.in_ok-join.ensures.answer) c.in_ok-join.ensures.value in
    record {
      answer = sym (ap is_some l.1);
      value = subst (λ (o : Option (List Item)). JoinedIn o c.args.self.now (items_in c.join.new.self c.self.inside.steps.items)) (sym l.1)
          (ap (λ (es : List Change). items_in es c.self.inside.steps.items) l.0 ∙ c.self.view_is);
      kept = tt;
    }

joined : (c : goal.After-truncate) → JoinedOn (event_of c.args.report) c.self.inside.log c.join.new.self c.self.inside.steps.items c.truncate.new.self.items c.args.self.now c.args.index
joined c =
    let h = step_at c.self.inside.log c.self.inside.steps.items c.args.self.now c.args.index c.index.result.now c.self.invariant c.self.view_is c.requires
    c.index.ensures in
    joined_on (event_of c.args.report) c.self.inside.log c.join.new.self c.self.inside.steps.items c.truncate.new.self.items c.args.self.now c.args.index c.index.result.now c.self.invariant c.self.view_is
    h c.index.ensures c.requires (sym c.is_lone.ensures ∙ c.if-not-is_lone.false)
    (sym c.if-not-branch.false ∙ c.in_ok-join.ensures.answer) c.in_ok-join.ensures.value c.truncate.ensures.items

pub invariant_of-self-2 : goal.invariant_of-self-2
invariant_of-self-2 c = (joined c).are

pub returns : goal.returns
returns c = record {
  answer = sym (ap is_some (joined c).joined);
  value = subst (λ (o : Option (List Item)). JoinedIn o c.args.self.now (items_in c.join.new.self c.truncate.new.self.items)) (sym (joined c).joined) refl;
  kept = tt;
}
