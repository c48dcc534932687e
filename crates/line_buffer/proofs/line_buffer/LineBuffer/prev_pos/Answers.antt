use Rattle.std.proofs.Common.{ap, ◌∙◌, take}
use Rattle.line_buffer.proofs.PartLemmas.{backward_from_cluster, slice_range-front}
use Rattle.line_buffer.proofs.line_buffer.LineBuffer.prev_pos.Goals as goal

pub returns-in-Some-clause-value : goal.returns-in-Some-clause-value
returns-in-Some-clause-value c =
    backward_from_cluster _ _ c.self.view_is c.range.result.now c.args.n _ (c.range.ensures.value ∙ slice_range-front _ _ ∙ ap (take c.self.inside.pos) c.deref.ensures) c.in-Some.ensures.value

pub returns-in-None-clause-value : goal.returns-in-None-clause-value
returns-in-None-clause-value c =
    backward_from_cluster _ _ c.self.view_is c.range.result.now c.args.n _ (c.range.ensures.value ∙ slice_range-front _ _ ∙ ap (take c.self.inside.pos) c.deref.ensures) c.in-None.ensures.value
