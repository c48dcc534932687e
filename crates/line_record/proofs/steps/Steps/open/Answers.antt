use Rattle.std.proofs.Common.{take, ap, ◌∙◌, ◌++◌, ◌∷◌, [], false}
use Rattle.line_record.specs.Items.Item.{Open}
use Rattle.line_record.specs.Log.{items_in}
use Rattle.line_record.specs.declared.steps.Step.{Step}
use Rattle.line_record.proofs.StepsLemmas.{mark_pushed, StepsAre}
use Rattle.line_record.proofs.SpanLemmas.{place_is}
use Rattle.line_record.proofs.steps.Steps.open.Goals as goal

pushed : (c : goal.In_ok-push) → StepsAre c.truncate.new.self c.push.new.self.items (take c.args.n (items_in c.self.inside.log c.self.inside.steps.items) ++ (Open ∷ []))
pushed c =
    let is = place_is (λ (s : Step). s.first) c.self.inside.log _ c.self.inside.steps.items c.args.n _ _ c.place-end.ensures (c.deref.ensures.value ∙ c.reserve.ensures.items) c.len.ensures in
    let s : Step = record { closed = false; first = c.place-end.result; last = c.place-end.result } in
    mark_pushed c.self.inside.log c.truncate.new.self c.self.inside.steps.items c.push.new.self.items c.args.n _ c.self.invariant is c.truncate.ensures
    (c.in_ok-push.ensures.items ∙ ap (λ ss. ss ++ (s ∷ [])) (c.truncate-2.ensures.items ∙ ap (take c.args.n) c.reserve.ensures.items))

pub invariant_of-self-2 : goal.invariant_of-self-2
invariant_of-self-2 c = (pushed c).are

pub returns-clause-ok : goal.returns-clause-ok
returns-clause-ok c = (pushed c).items ∙ ap (λ xs. take c.args.n xs ++ (Open ∷ [])) c.self.view_is
