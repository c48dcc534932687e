use Rattle.std.proofs.Common.{◌∙◌, ◌+◌, ◌==◌, ◌&&◌, sym, ap, refl, get_or, drop, ne_eqb}
use Rattle.line_help.specs.Quotes.{escapes_at}
use Rattle.std.proofs.lemmas.Bool.{and_right}
use Rattle.std.proofs.lemmas.List.{drop_more}
use Rattle.line_help.proofs.QuoteLemmas.{backslash_read, byte_read}
use Rattle.line_help.proofs.completion.quotes.find_unclosed_quote.Goals as goal
use Rattle.line_help.proofs.completion.quotes.find_unclosed_quote.Goals.{then-escapes, else-escapes+then-byte-eq92+then-escapes_at, else-escapes+else-byte-eq92, else-byte-eq92-via-then-byte-eq92+else-escapes_at, else-byte-eq92-via-else-byte-eq92}

pub loop-place-preserved : goal.loop-place-preserved
loop-place-preserved c =
    let here = drop_more c.as_bytes-bytes.result.now c.loop-place.place 0 c.loop-place-test.true in
    let rest = drop (c.loop-place.place + 1) c.as_bytes-bytes.result.now in
    let byte = get_or c.as_bytes-bytes.result.now c.loop-place.place 0 in
    elim c.if-escapes.branch [
      | then-escapes w ↦ c.loop-place.invariant ∙ rw (w.within-is, w.escapes-is, w.if-escapes.true, here) refl
      | else-escapes+then-byte-eq92+then-escapes_at w ↦
          c.loop-place.invariant
          ∙ rw (w.within-is, w.escapes-is, w.if-escapes.false, here, w.if-byte-eq92.true)
          (backslash_read c.loop-place.within _ rest (sym w.escapes_at.ensures ∙ w.if-escapes_at.true))
      | else-escapes+else-byte-eq92 w ↦
          c.loop-place.invariant
          ∙ rw (w.within-is, w.quote_after-within.ensures, w.escapes-is, w.if-escapes.false, here)
          (byte_read c.loop-place.within _ byte rest (elim w.else-byte-eq92.branch [
            | else-byte-eq92-via-then-byte-eq92+else-escapes_at w' ↦
                and_right (byte == 92) (escapes_at c.loop-place.within) (sym w'.escapes_at.ensures ∙ w'.if-escapes_at.false)
            | else-byte-eq92-via-else-byte-eq92 w' ↦ ap (λ b. b && escapes_at c.loop-place.within) (ne_eqb byte 92 w'.if-byte-eq92.false)
          ]))
    ]
