use Rattle.line_record.proofs.StepsLemmas.{step_at, marks}
use Rattle.line_record.proofs.steps.Steps.is_mark.Goals as goal

pub returns : goal.returns
returns c =
    marks c.self.inside.log c.self.inside.steps.items c.args.self.now c.args.index c.index-step.result.now
    (step_at c.self.inside.log c.self.inside.steps.items c.args.self.now c.args.index c.index-step.result.now c.self.invariant c.self.view_is c.requires c.index-step.ensures)
