use Rattle.std.proofs.Common.{List, sym, subst}
use Rattle.line_record.specs.Change.{Change, AllStandIn}
use Rattle.line_record.specs.Items.{TakesBack}
use Rattle.line_record.proofs.StepsLemmas.{step_at}
use Rattle.line_record.proofs.steps.Steps.take_back.Goals as goal

pub take_back-requires : goal.take_back-requires
take_back-requires g c =
    let h = step_at c.self.inside.log c.self.inside.steps.items c.args.self.now c.args.index c.index-step.result.now c.self.invariant c.self.view_is
    c.requires.inside c.index-step.ensures in
    let stand = subst (λ (es : List Change). AllStandIn es (g.L.EditedLine.value c.args.line.now).text) h.changes c.requires.stand in
    record { order = h.order; inside = h.inside; stand = stand }

pub returns : goal.returns
returns g c = subst (λ (es : List Change). TakesBack es (g.L.EditedLine.value c.args.line.now) (g.L.EditedLine.value c.take_back.new.line) c.take_back.result)
    (sym (step_at c.self.inside.log c.self.inside.steps.items c.args.self.now c.args.index c.index-step.result.now c.self.invariant c.self.view_is c.requires.inside c.index-step.ensures).changes) c.take_back.ensures
