use Rattle.std.proofs.Common.{true, false}
use Rattle.line_record.proofs.StepsLemmas.{closed_from, group_gone, group_pushed_on, Grouped}
use Rattle.line_record.proofs.steps.Steps.close.Goals as goal

gone : (c : goal.After-truncate-then-first-last) → Grouped false c.truncate.new.self c.truncate-then-first-last.new.self.items c.args.self.now c.args.n
    c.args.index
gone c =
    let h = closed_from c.self.inside.log c.self.inside.steps.items c.args.self.now c.args.n c.args.index c.index.result.now c.index-2.result.now
    c.self.invariant c.self.view_is
    c.requires.order c.requires.inside c.index.ensures c.index-2.ensures in
    group_gone c.self.inside.log c.truncate.new.self c.self.inside.steps.items c.truncate-then-first-last.new.self.items c.args.self.now c.args.n c.args.index _
    _ c.self.invariant
    c.self.view_is h c.if-first-last.true c.truncate.ensures c.truncate-then-first-last.ensures.items

pub invariant_of-self : goal.invariant_of-self
invariant_of-self c = (gone c).are

pub returns-then-first-last : goal.returns-then-first-last
returns-then-first-last c = record { answer = (gone c).answer; items = (gone c).grouped }

pushed : (c : goal.After-truncate-2) → Grouped true c.truncate.new.self c.truncate-2.new.self.items c.args.self.now c.args.n c.args.index
pushed c =
    let h = closed_from c.self.inside.log c.self.inside.steps.items c.args.self.now c.args.n c.args.index c.index.result.now c.index-2.result.now
    c.self.invariant c.self.view_is
    c.requires.order c.requires.inside c.index.ensures c.index-2.ensures in
    group_pushed_on c.self.inside.log c.truncate.new.self c.self.inside.steps.items c.truncate-2.new.self.items c.args.self.now c.args.n c.args.index _ _
    c.self.invariant
    c.self.view_is h c.if-first-last.false c.truncate.ensures c.truncate-2.ensures.items

pub invariant_of-self-2 : goal.invariant_of-self-2
invariant_of-self-2 c = (pushed c).are

pub returns : goal.returns
returns c = record { answer = (pushed c).answer; items = (pushed c).grouped }
