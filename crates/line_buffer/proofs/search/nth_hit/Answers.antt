use Rattle.std.proofs.Common.{sym, ◌∙◌, arith}
use Rattle.std.specs.Str.Iter.{char_indices_offset}
use Rattle.std.proofs.lemmas.Str.{IsUtf8-past_char}
use Rattle.line_buffer.proofs.HitLemmas.{hit-missed, hit-made, hits-none, part-of_hit, first-read}
use Rattle.line_buffer.proofs.search.nth_hit.Goals as goal
use Rattle.line_buffer.proofs.ChainLemmas.{search_ended, search_spent}

pub loop-i-preserved : goal.loop-i-preserved
loop-i-preserved c = record {
  utf8 = IsUtf8-past_char _ _ c.in-Some.next c.loop-i.invariant.utf8 c.in-Some.ensures.steps.1;
  found = hit-missed _ _ _ _ _ _ (first-read _ _ _ c.args.c _ _ c.in-Some.next c.loop-i.invariant.utf8 c.in-Some.ensures.steps) c.loop-i.missing c.loop-i.invariant.found (sym c.is_same.ensures.value ∙ c.if-is_same.false);
}

pub loop-i-preserved-then-is_same : goal.loop-i-preserved-then-is_same
loop-i-preserved-then-is_same c = record {
  utf8 = IsUtf8-past_char _ _ c.in-Some.next c.loop-i.invariant.utf8 c.in-Some.ensures.steps.1;
  found = hit-made _ _ _ _ _ _ (first-read _ _ _ c.args.c _ _ c.in-Some.next c.loop-i.invariant.utf8 c.in-Some.ensures.steps) c.loop-i.missing c.loop-i.invariant.found (sym c.is_same.ensures.value ∙ c.if-is_same.true) (omega (arith, c.if-missing-eq0.false));
}

pub returns-in-None-clause-value : goal.returns-in-None-clause-value
returns-in-None-clause-value c = search_ended _ _ _ c.loop-i.missing c.loop-i.invariant.found (hits-none (char_indices_offset c.loop-i.i-iterator) c.args.c _ c.in-None.ensures.steps.0)

pub returns-in-None-clause-part : goal.returns-in-None-clause-part
returns-in-None-clause-part c = part-of_hit c.args.c c.args.text.now c.args.n c.loop-i.found c.utf8.text (returns-in-None-clause-value c)

pub returns-then-missing-eq0-clause-part : goal.returns-then-missing-eq0-clause-part
returns-then-missing-eq0-clause-part c = part-of_hit c.args.c c.args.text.now c.args.n c.loop-i.found c.utf8.text (search_spent _ _ _ c.loop-i.missing c.loop-i.invariant.found c.if-missing-eq0.true)
