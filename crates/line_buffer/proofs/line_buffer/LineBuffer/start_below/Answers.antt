use Rattle.std.proofs.Common.{ap, ◌∙◌, drop}
use Rattle.line_buffer.proofs.RowWalkLemmas.{below_from_rest}
use Rattle.line_buffer.proofs.line_buffer.LineBuffer.start_below.Goals as goal

pub returns-in-Some-clause-value : goal.returns-in-Some-clause-value
returns-in-Some-clause-value c =
    below_from_rest _ _ c.self.view_is c.range_from.result.now c.args.n _ (c.range_from.ensures.value ∙ ap (drop c.self.inside.pos) c.deref.ensures) c.in-Some.ensures.value

pub returns-in-None-clause-value : goal.returns-in-None-clause-value
returns-in-None-clause-value c =
    below_from_rest _ _ c.self.view_is c.range_from.result.now c.args.n _ (c.range_from.ensures.value ∙ ap (drop c.self.inside.pos) c.deref.ensures) c.in-None.ensures.value
