use Rattle.std.proofs.Common.{arith, rules, SFits, w16}
use Rattle.std.proofs.lemmas.Int.{to_z-of_z}
use Rattle.line_keys.proofs.Asking.{one_more}
use Rattle.line_keys.proofs.Turns.{count_unprompted, count_unasked, count_stops, count_goes_on, count_ends, count_undrawn}
use Rattle.line_keys.proofs.Following.{raised_follows}
use Rattle.line_keys.proofs.keymap.InputState.digit_argument.Goals as goal

pub returns-in_err-prompt-clause-phrase : goal.returns-in_err-prompt-clause-phrase
returns-in_err-prompt-clause-phrase g c =
    raised_follows c.from_residual.ensures.1 ((rw (to_z-of_z w16 c.args.begun c.ranges.begun) at c.loop-prompt.invariant.0) _ _ _ (count_unprompted _ _ c.in_err-prompt.ensures))

pub returns-in_err-refresh_prompt_and_line-clause-phrase : goal.returns-in_err-refresh_prompt_and_line-clause-phrase
returns-in_err-refresh_prompt_and_line-clause-phrase g c =
    raised_follows c.from_residual-in_err-refresh_prompt_and_line.ensures.1 ((rw (to_z-of_z w16 c.args.begun c.ranges.begun) at c.loop-prompt.invariant.0) _ _ _ (count_unasked _ _
    (rw (c.as_str.ensures.value, c.in_ok-prompt.ensures) at c.in_err-refresh_prompt_and_line.ensures)))

pub returns-in_err-key : goal.returns-in_err-key
returns-in_err-key g c = record {
  phrase = raised_follows c.from_residual-in_err-key.ensures.1 ((rw (to_z-of_z w16 c.args.begun c.ranges.begun) at c.loop-prompt.invariant.0) _ _ _ (count_stops _ _
      (rw (c.as_str.ensures.value, c.in_ok-prompt.ensures) at c.in_ok-refresh_prompt_and_line.ensures) c.in_err-key.ensures.reads));
  asks = one_more _ _ _ _ _ c.loop-prompt.invariant.1 (grind arith);
}

pub returns-in_err-refresh_line-in-None : goal.returns-in_err-refresh_line-in-None
returns-in_err-refresh_line-in-None g c = record {
  phrase = raised_follows c.from_residual-in_err-refresh_line-in-None.ensures.1 ((rw (to_z-of_z w16 c.args.begun c.ranges.begun) at c.loop-prompt.invariant.0) _ _ _ (count_undrawn _ _
      (rw (c.as_str.ensures.value, c.in_ok-prompt.ensures) at c.in_ok-refresh_prompt_and_line.ensures) c.in_ok-key.ensures.reads c.in-None.ensures c.in_err-refresh_line-in-None.ensures));
  asks = one_more _ _ _ _ _ c.loop-prompt.invariant.1 (grind arith);
}

pub returns-in-None : goal.returns-in-None
returns-in-None g c = record {
  phrase = (rw (to_z-of_z w16 c.args.begun c.ranges.begun) at c.loop-prompt.invariant.0) _ _ _ (count_ends _ _
      (rw (c.as_str.ensures.value, c.in_ok-prompt.ensures) at c.in_ok-refresh_prompt_and_line.ensures) c.in_ok-key.ensures.reads c.in-None.ensures c.in_ok-refresh_line-in-None.ensures);
  asks = one_more _ _ _ _ _ c.loop-prompt.invariant.1 (grind arith);
}

pub loop-prompt-preserved : goal.loop-prompt-preserved
loop-prompt-preserved g c = (
  λ wrt rdr result follows.
      let fits : SFits w16 c.in-Some.more = search rules in
      c.loop-prompt.invariant.0 _ _ _ (count_goes_on _ _
      (rw (c.as_str.ensures.value, c.in_ok-prompt.ensures) at c.in_ok-refresh_prompt_and_line.ensures) c.in_ok-key.ensures.reads c.in-Some.ensures (rw (to_z-of_z w16 c.in-Some.more fits) at follows)),
  one_more _ _ _ _ _ c.loop-prompt.invariant.1 (grind arith),
)
