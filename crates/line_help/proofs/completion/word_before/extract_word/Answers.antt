use Rattle.std.proofs.Common.{◌≡◌, ◌∙◌, ◌-◌, ℕ, List, sym, ap, subst, refl, length, take, arith}
use Rattle.line_help.specs.Completion.{word_start}
use Rattle.std.specs.Prelude.{encode_utf8, IsCharBoundary, slice_range}
use Rattle.std.proofs.lemmas.Str.{IsCharBoundary-start}
use Rattle.line_help.proofs.WordBeforeLemmas.{plain_back, escaped_back, break_back, nothing_left, shorter, front_step, cut_here}
use Rattle.line_help.proofs.completion.word_before.extract_word.Goals as goal

up_to : (n : ℕ) (xs : List ℕ) → slice_range xs 0 n ≡ take n xs
up_to n xs = let zero : n - 0 ≡ n = omega arith in ap (λ m. take m xs) zero

pub loop-before-smaller-in-Some-strip_escape : goal.loop-before-smaller-in-Some-strip_escape
loop-before-smaller-in-Some-strip_escape g c =
    let d = c.in-Some-strip_escape.ensures in
    let one = shorter c.loop-before.rest.now c.in-Some.before.now c.in-Some.c c.in-Some.ensures.last in
    let two = shorter c.in-Some.before.now c.in-Some-strip_escape.front.now d.0 d.1 in
    omega (arith, one, two)

pub loop-before-preserved-in-Some-strip_escape : goal.loop-before-preserved-in-Some-strip_escape
loop-before-preserved-in-Some-strip_escape g c =
    let last = c.in-Some.ensures in
    let d = c.in-Some-strip_escape.ensures in
    let front = front_step c.range-text.result.now c.loop-before.rest.now c.in-Some.before.now (encode_utf8 c.in-Some.c) c.loop-before.invariant.front last.last in
    record {
      is_text = d.2;
      front = front_step c.range-text.result.now c.in-Some.before.now c.in-Some-strip_escape.front.now (encode_utf8 d.0) front d.1;
      same = refl;
      start = λ breaks tells.
          let breaks_here = sym (tells c.in-Some.c c.is_break_char.result last.scalar c.is_break_char.ensures) ∙ c.if-is_break_char.true in
          c.loop-before.invariant.start breaks tells
          ∙ escaped_back c.args.esc_char breaks c.loop-before.rest.now c.in-Some.before.now c.in-Some-strip_escape.front.now c.in-Some.c d.0
          last.last d.1 last.utf8 d.2 last.scalar d.3 breaks_here d.4;
    }

pub range_from-requires : goal.range_from-requires
range_from-requires g c = λ _. cut_here c.range-text.result.now c.loop-before.rest.now c.range-text.utf8 c.loop-before.invariant.is_text c.loop-before.invariant.front

pub returns-in-None-clause-start : goal.returns-in-None-clause-start
returns-in-None-clause-start g c breaks tells =
    let last = c.in-Some.ensures in
    let breaks_here = sym (tells c.in-Some.c c.is_break_char.result last.scalar c.is_break_char.ensures) ∙ c.if-is_break_char.true in
    sym (c.loop-before.invariant.start breaks tells
    ∙ break_back c.args.esc_char breaks c.loop-before.rest.now c.in-Some.before.now c.in-Some.c last.last last.utf8 last.scalar breaks_here c.in-None.ensures)
    ∙ ap (word_start c.args.esc_char breaks) (c.range-text.ensures.value ∙ up_to c.args.pos c.args.line.now)

pub returns-in-None-clause-boundary : goal.returns-in-None-clause-boundary
returns-in-None-clause-boundary g c =
    subst (λ text. IsCharBoundary text (length c.loop-before.rest.now)) (c.range-text.ensures.value ∙ up_to c.args.pos c.args.line.now)
    (cut_here c.range-text.result.now c.loop-before.rest.now c.range-text.utf8 c.loop-before.invariant.is_text c.loop-before.invariant.front)

pub loop-before-smaller : goal.loop-before-smaller
loop-before-smaller g c = shorter c.loop-before.rest.now c.in-Some.before.now c.in-Some.c c.in-Some.ensures.last

pub loop-before-preserved : goal.loop-before-preserved
loop-before-preserved g c =
    let last = c.in-Some.ensures in
    record {
      is_text = last.utf8;
      front = front_step c.range-text.result.now c.loop-before.rest.now c.in-Some.before.now (encode_utf8 c.in-Some.c) c.loop-before.invariant.front last.last;
      same = refl;
      start = λ breaks tells.
          let no_break = sym (tells c.in-Some.c c.is_break_char.result last.scalar c.is_break_char.ensures) ∙ c.if-is_break_char.false in
          c.loop-before.invariant.start breaks tells
          ∙ plain_back c.args.esc_char breaks c.loop-before.rest.now c.in-Some.before.now c.in-Some.c last.last last.utf8 last.scalar no_break;
    }

pub returns-clause-start : goal.returns-clause-start
returns-clause-start g c breaks tells =
    sym (c.loop-before.invariant.start breaks tells ∙ nothing_left c.args.esc_char breaks c.loop-before.rest.now c.in_default.ensures.last)
    ∙ ap (word_start c.args.esc_char breaks) (c.range-text.ensures.value ∙ up_to c.args.pos c.args.line.now)

pub returns-clause-boundary : goal.returns-clause-boundary
returns-clause-boundary g c = subst (λ text. IsCharBoundary text 0) (c.range-text.ensures.value ∙ up_to c.args.pos c.args.line.now) (IsCharBoundary-start c.range-text.result.now c.range-text.utf8)
