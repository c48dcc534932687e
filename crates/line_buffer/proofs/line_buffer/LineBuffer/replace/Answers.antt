use Rattle.std.proofs.Common.{rules, ◌+◌, length, sym, ap, ◌∙◌, subst, IsCharBoundary}
use Rattle.std.specs.List.{replace_range}
use Rattle.std.proofs.lemmas.Str.{IsUtf8-string_bytes}
use Rattle.line_buffer.proofs.CutLemmas.{end_replaced, no_want}
use Rattle.line_buffer.proofs.GapLemmas.{swaps_replacement}
use Rattle.line_buffer.proofs.line_buffer.LineBuffer.replace.Goals as goal

pub returns : goal.returns
returns g c = record {
  told = search rules;
  replays = swaps_replacement _ _ _ _ _ c.requires.order c.requires.start c.requires.end c.utf8.text
      (c.in_ok-replace_range.ensures.bytes ∙ ap (λ t. replace_range t c.args.range.start c.args.range.end c.args.text.now) (c.in_ok-reserve.ensures.bytes ∙ ap (λ l. l.text) c.self.view_is));
  line = search rules;
  refused = tt;
  kept = tt;
}

pub invariant_of-self : goal.invariant_of-self
invariant_of-self g c = subst (λ t. IsCharBoundary t c.self.inside.pos) (sym c.in_err-reserve.ensures.bytes) c.self.invariant

pub invariant_of-self-in_err-replace : goal.invariant_of-self-in_err-replace
invariant_of-self-in_err-replace g c = subst (λ t. IsCharBoundary t c.self.inside.pos) (sym c.in_ok-reserve.ensures.bytes) c.self.invariant

-- the reserved memory is enough
pub invariant_of-self-in_err-replace_range : goal.invariant_of-self-in_err-replace_range
invariant_of-self-in_err-replace_range g c = absurd (no_want c.in_err-replace_range.ensures.full c.in_ok-reserve.ensures.ok)

pub returns-in_err-replace_range : goal.returns-in_err-replace_range
returns-in_err-replace_range g c = absurd (no_want c.in_err-replace_range.ensures.full c.in_ok-reserve.ensures.ok)

pub invariant_of-self-2 : goal.invariant_of-self-2
invariant_of-self-2 g c =
    subst (λ t. IsCharBoundary t (c.args.range.start + length c.args.text.now)) (sym c.in_ok-replace_range.ensures.bytes)
    (subst (λ t. IsCharBoundary (replace_range t c.args.range.start c.args.range.end c.args.text.now) (c.args.range.start + length c.args.text.now)) (sym c.in_ok-reserve.ensures.bytes)
    (end_replaced c.self.inside.buf.bytes.items c.args.range.start c.args.range.end c.args.text.now (IsUtf8-string_bytes c.self.inside.buf)
    (subst (λ l. IsCharBoundary l.text c.args.range.start) (sym c.self.view_is) c.requires.start) (subst (λ l. IsCharBoundary l.text c.args.range.end) (sym c.self.view_is) c.requires.end)))
