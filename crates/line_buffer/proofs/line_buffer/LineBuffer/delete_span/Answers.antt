use Rattle.std.proofs.Common.{length, ap, arith}
use Rattle.line_buffer.specs.Range.{deletion_events}
use Rattle.line_buffer.proofs.LeftLemmas.{cuts_refused, stopped_first}
use Rattle.line_buffer.proofs.line_buffer.LineBuffer.delete_span.Goals as goal

pub returns-in_err-delete_directed : goal.returns-in_err-delete_directed
returns-in_err-delete_directed g c =
    let kept = c.in_err-delete_directed.ensures.kept in
    cuts_refused _ _ c.from_residual.ensures.1 (stopped_first _ _ _ _ _ _ _ _ _ (ap (λ s. deletion_events s c.args.self.now) c.in-Some.is) tt c.in_err-delete_directed.ensures.refused kept)
    (omega (arith, ap (λ l. length l.text) kept))
