use Rattle.std.proofs.Common.{inl}
use Rattle.keyline_call.proofs.export.answer.Goals as goal

pub returns-clause-answers : goal.returns-clause-answers
returns-clause-answers c = inl (record { left = c.in_ok-left.left; reads = c.in_ok-left.ensures; gives = c.give.ensures.gives })
