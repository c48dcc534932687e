use Rattle.std.proofs.Common.{take, ap, ◌∙◌}
use Rattle.line_record.specs.declared.steps.Step.{Step}
use Rattle.line_record.proofs.StepsLemmas.{steps_cut}
use Rattle.line_record.proofs.SpanLemmas.{place_is}
use Rattle.line_record.proofs.steps.Steps.truncate.Goals as goal

pub invariant_of-self : goal.invariant_of-self
invariant_of-self c =
    let is = place_is (λ (s : Step). s.first) c.self.inside.log _ c.self.inside.steps.items c.args.n _ _ c.place-end.ensures c.deref.ensures.value c.len.ensures in
    (steps_cut c.self.inside.log _ c.self.inside.steps.items c.args.n _ c.self.invariant is _ c.truncate.ensures c.truncate-2.ensures.items).are

pub returns : goal.returns
returns c =
    let is = place_is (λ (s : Step). s.first) c.self.inside.log _ c.self.inside.steps.items c.args.n _ _ c.place-end.ensures c.deref.ensures.value c.len.ensures in
    (steps_cut c.self.inside.log _ c.self.inside.steps.items c.args.n _ c.self.invariant is _ c.truncate.ensures c.truncate-2.ensures.items).items ∙ ap (take c.args.n) c.self.view_is
