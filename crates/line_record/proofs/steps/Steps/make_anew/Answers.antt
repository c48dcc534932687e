use Rattle.std.proofs.Common.{List, sym, subst}
use Rattle.line_record.specs.Change.{Change, AllFitIn}
use Rattle.line_record.specs.Items.{MakesAnew}
use Rattle.line_record.proofs.StepsLemmas.{step_at}
use Rattle.line_record.proofs.steps.Steps.make_anew.Goals as goal

pub make_anew-requires : goal.make_anew-requires
make_anew-requires g c =
    let h = step_at c.self.inside.log c.self.inside.steps.items c.args.self.now c.args.index c.index-step.result.now c.self.invariant c.self.view_is
    c.requires.inside c.index-step.ensures in
    let fit = subst (λ (es : List Change). AllFitIn es (g.L.EditedLine.value c.args.line.now).text) h.changes c.requires.fit in
    record { order = h.order; inside = h.inside; fit = fit }

pub returns : goal.returns
returns g c = subst (λ (es : List Change). MakesAnew es (g.L.EditedLine.value c.args.line.now) (g.L.EditedLine.value c.make_anew.new.line) c.make_anew.result)
    (sym (step_at c.self.inside.log c.self.inside.steps.items c.args.self.now c.args.index c.index-step.result.now c.self.invariant c.self.view_is c.requires.inside c.index-step.ensures).changes) c.make_anew.ensures
