use Rattle.std.proofs.Common.{arith, sym, ◌∙◌}
use Rattle.line_help.specs.Brackets.{is_bracket}
use Rattle.line_help.proofs.LaneLemmas.{first_later, first_here}
use Rattle.line_help.proofs.ValidationLemmas.{bracket_next, bracket_within}
use Rattle.line_help.proofs.helpers.bracket_validator.next_bracket.Goals as goal

pub loop-place-preserved : goal.loop-place-preserved
loop-place-preserved c = record {
  bound = omega (arith, c.loop-place-test.true, c.lanes_before_bracket-count.ensures.bound);
  same = first_later is_bracket c.args.bytes.now c.args.from c.loop-place.place 16 _ (omega (arith, c.loop-place.invariant.bound, c.loop-place-test.true)) c.lanes_before_bracket-count.ensures.count
      (omega (arith, c.if-count-lt-LANES.false)) c.loop-place.invariant.same;
}

pub returns-then-count-lt-LANES : goal.returns-then-count-lt-LANES
returns-then-count-lt-LANES c =
    let place = first_here is_bracket c.args.bytes.now c.args.from c.loop-place.place 16 _ (omega (arith, c.loop-place.invariant.bound, c.loop-place-test.true))
    c.lanes_before_bracket-count.ensures.count c.if-count-lt-LANES.true c.loop-place.invariant.same in
    record {
      place = place;
      bound = omega (arith, c.loop-place-test.true, c.loop-place.invariant.bound, c.if-count-lt-LANES.true);
      skips = bracket_next c.args.bytes.now c.args.from _ place;
    }

pub returns-clause-bound : goal.returns-clause-bound
returns-clause-bound c = bracket_within c.args.bytes.now c.loop-place.place _ c.loop-place.invariant.bound c.bracket_in_rest.ensures

pub returns-clause-skips : goal.returns-clause-skips
returns-clause-skips c = bracket_next c.args.bytes.now c.args.from _ (c.bracket_in_rest.ensures ∙ sym c.loop-place.invariant.same)
