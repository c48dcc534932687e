use Rattle.std.proofs.Common.{◌≡◌, ◌-◌, ◌≤◌, min, length, take, drop, ap, ◌∙◌}
use Rattle.line_record.specs.Items.{changes_of_all}
use Rattle.line_record.proofs.StepsLemmas.{changes_counted}
use Rattle.line_record.proofs.steps.Steps.change_count.Goals as goal

counted : (c : goal.After-index-2) → (c.index-2.result.now.first ≤ c.index.result.now.last)
    × (c.index.result.now.last - c.index-2.result.now.first ≡ length (changes_of_all (drop c.args.first (take c.args.end c.args.self.now))))
counted c =
    changes_counted c.self.inside.log c.self.inside.steps.items c.args.self.now c.args.first c.args.end c.min-end.result c.index-2.result.now c.index.result.now c.self.invariant c.self.view_is
    (c.min-end.ensures ∙ ap (min c.args.end) c.len.ensures) c.if-first-end.false c.index-2.ensures c.index.ensures

pub overflow_sub-result : goal.overflow_sub-result
overflow_sub-result c = (counted c).0

pub returns : goal.returns
returns c = (counted c).1
