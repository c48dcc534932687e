use Rattle.std.proofs.Common.{[], sym, ◌∙◌, arith}
use Rattle.line_record.specs.Change.Change.{Inserted}
use Rattle.line_record.proofs.StepsLemmas.{step_at, step_inserted, less}
use Rattle.line_record.proofs.steps.Steps.inserted.Goals as goal

pub overflow_sub-step : goal.overflow_sub-step
overflow_sub-step c =
    let h = (step_at c.self.inside.log c.self.inside.steps.items c.args.self.now c.args.index c.index-step.result.now c.self.invariant c.self.view_is c.requires c.index-step.ensures) in
    omega (arith, less c.index-step.result.now.first c.index-step.result.now.last h.order c.if-step.false)

pub inserted-requires : goal.inserted-requires
inserted-requires c =
    let h = (step_at c.self.inside.log c.self.inside.steps.items c.args.self.now c.args.index c.index-step.result.now c.self.invariant c.self.view_is c.requires c.index-step.ensures) in
    omega (arith, less c.index-step.result.now.first c.index-step.result.now.last h.order c.if-step.false, h.inside)

pub returns : goal.returns
returns c =
    let h = (step_at c.self.inside.log c.self.inside.steps.items c.args.self.now c.args.index c.index-step.result.now c.self.invariant c.self.view_is c.requires c.index-step.ensures) in
    c.inserted.ensures (Inserted 0 []) ∙ sym (step_inserted c.self.inside.log c.self.inside.steps.items c.args.self.now c.args.index c.index-step.result.now (Inserted 0 []) h
    (less c.index-step.result.now.first c.index-step.result.now.last h.order c.if-step.false))
