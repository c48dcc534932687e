use Rattle.std.proofs.Common.{refl, sym, ap, ◌∙◌, arith}
use Rattle.line_buffer.specs.Range.{deletion_events}
use Rattle.line_buffer.proofs.LeftLemmas.{cuts_refused_seen, stopped_for_memory, stopped_wanting, stopped_as}
use Rattle.line_buffer.proofs.RangeLemmas.{some_span}
use Rattle.line_buffer.proofs.line_buffer.LineBuffer.delete.Goals as goal

pub returns-in_err-text : goal.returns-in_err-text
returns-in_err-text g c =
    let span = some_span _ c.in_err-text.ensures.some in
    cuts_refused_seen _ _ _ c.from_residual.ensures.1
    (stopped_for_memory _ _ _ _ _ _ _ _ (ap (λ o. deletion_events o c.args.self.now) (sym c.range_of-span.ensures.value ∙ span.1)) tt refl) (omega arith)

pub returns-in_err-delete_span : goal.returns-in_err-delete_span
returns-in_err-delete_span g c =
    cuts_refused_seen _ _ _ c.from_residual-in_err-delete_span.ensures.1
    (stopped_wanting (stopped_as (ap (λ o. deletion_events o c.args.self.now) c.range_of-span.ensures.value) refl c.in_err-delete_span.ensures.edits.left)) c.in_err-delete_span.ensures.shrinks
