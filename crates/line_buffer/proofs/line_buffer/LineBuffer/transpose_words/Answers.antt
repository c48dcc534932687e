use Rattle.std.proofs.Common.{rules}
use Rattle.line_buffer.proofs.LeftLemmas.{edits_refused, stopped_as}
use Rattle.line_buffer.proofs.line_buffer.LineBuffer.transpose_words.Goals as goal

pub returns-in_err-swap : goal.returns-in_err-swap
returns-in_err-swap g c = edits_refused _ _ c.from_residual.ensures.1 (stopped_as (search rules) (search rules) c.in_err-swap.ensures.left)
