use Rattle.std.proofs.Common.{rules, refl}
use Rattle.line_keys.proofs.Asking.{one_more}
use Rattle.line_keys.proofs.Turns.{sequence_over, sequence_stops, sequence_no_memory, sequence_refused, sequence_bound, sequence_on}
use Rattle.line_keys.proofs.Following.{raised_follows}
use Rattle.line_keys.proofs.keymap.InputState.custom_seq_binding.Goals as goal

pub returns-in_err-key : goal.returns-in_err-key
returns-in_err-key g c = record {
  phrase = raised_follows c.from_residual-in_err-key.ensures.1 (c.loop-alloc.invariant.0 _ _ (sequence_stops _ _ (search rules) c.in_err-key.ensures.reads));
  asks = one_more _ _ _ _ _ c.loop-alloc.invariant.1 c.in_err-key.ensures.asks;
}

pub returns-in_err-push-2 : goal.returns-in_err-push-2
returns-in_err-push-2 g c = record {
  phrase = raised_follows c.from_residual-in_err-push-2.ensures.1
      (c.loop-alloc.invariant.0 _ _ (sequence_no_memory _ _ (search rules) c.in_ok-key.ensures.reads refl));
  asks = one_more _ _ _ _ _ c.loop-alloc.invariant.1 c.in_ok-key.ensures.asks;
}

pub returns-in_err-cmd : goal.returns-in_err-cmd
returns-in_err-cmd g c = record {
  phrase = raised_follows c.from_residual-in_err-cmd.ensures.1 (c.loop-alloc.invariant.0 _ _ (sequence_refused _ _ (search rules) c.in_ok-key.ensures.reads
      (rw (c.as_slice-in-loop-alloc.ensures.value, c.in_ok-push-2.ensures.items) at c.in_err-cmd.ensures)));
  asks = one_more _ _ _ _ _ c.loop-alloc.invariant.1 c.in_ok-key.ensures.asks;
}

pub returns-in-Some : goal.returns-in-Some
returns-in-Some g c = record {
  phrase = c.loop-alloc.invariant.0 _ _ (sequence_bound _ _ (search rules) c.in_ok-key.ensures.reads
      (rw (c.as_slice-in-loop-alloc.ensures.value, c.in_ok-push-2.ensures.items, c.in-Some.is) at c.in_ok-cmd.ensures));
  asks = one_more _ _ _ _ _ c.loop-alloc.invariant.1 c.in_ok-key.ensures.asks;
}

pub returns : goal.returns
returns g c = record { phrase = c.loop-alloc.invariant.0 _ _ (sequence_over _ _ (search rules) (search rules)); asks = c.loop-alloc.invariant.1 }

pub loop-alloc-preserved : goal.loop-alloc-preserved
loop-alloc-preserved g c = (
  λ rdr result follows.
      c.loop-alloc.invariant.0 _ _ (sequence_on _ _ (search rules) c.in_ok-key.ensures.reads
      (rw (c.as_slice-in-loop-alloc.ensures.value, c.in_ok-push-2.ensures.items, c.in_default.is) at c.in_ok-cmd.ensures)
      (rw c.in_ok-push-2.ensures.items at follows)),
  one_more _ _ _ _ _ c.loop-alloc.invariant.1 c.in_ok-key.ensures.asks,
)
