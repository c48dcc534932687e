use Rattle.std.proofs.Common.{◌≡◌, false, arith, refl}
use Rattle.line_keys.specs.Keys.{same_key}
use Rattle.line_keys.proofs.Asking.{keys_asked, keys_then, first_asked, first_then}
use Rattle.line_keys.proofs.Following.{then_stops, then_follows, silent_follows, ends_follow, raised_follows, read_stops, read_follows}
use Rattle.line_keys.proofs.keymap.InputState.vi_cmd_motion.Goals as goal

pub returns : goal.returns
returns g c =
    let other : same_key c.in_ok-key.key c.args.operator ≡ false = grind arith in
    record {
      motion = read_follows _ c.in_ok-key.ensures.reads
          (rw other (then_follows _ _ _ _ _ _ _ _ _ _ _ _ _ _ _ c.in_ok-second.ensures.phrase (silent_follows (rw c.multiplied.ensures at c.motion_by.ensures.motion))));
      asks = first_then _ _ _ _ _ c.in_ok-key.ensures.asks (keys_then _ _ _ _ _ c.in_ok-second.ensures.asks (keys_asked _ _ _ _ c.motion_by.ensures.asks));
      bindings = c.motion_by.ensures.bindings;
    }

pub returns-in_err-key : goal.returns-in_err-key
returns-in_err-key g c = record {
  motion = raised_follows c.from_residual.ensures.1 (read_stops _ c.in_err-key.ensures.reads);
  asks = first_asked _ _ _ _ c.in_err-key.ensures.asks;
  bindings = refl;
}

pub returns-then-eq : goal.returns-then-eq
returns-then-eq g c = record {
  motion = read_follows _ c.in_ok-key.ensures.reads (ends_follow _ _ _ _ _ _ _ (grind arith));
  asks = first_asked _ _ _ _ c.in_ok-key.ensures.asks;
  bindings = refl;
}

pub returns-in_err-second : goal.returns-in_err-second
returns-in_err-second g c =
    let other : same_key c.in_ok-key.key c.args.operator ≡ false = grind arith in
    record {
      motion = raised_follows c.from_residual-in_err-second.ensures.1 (read_follows _ c.in_ok-key.ensures.reads (rw other (then_stops _ _ _ _ _ _ _ _ _ _ _ c.in_err-second.ensures.phrase)));
      asks = first_then _ _ _ _ _ c.in_ok-key.ensures.asks (keys_asked _ _ _ _ c.in_err-second.ensures.asks);
      bindings = refl;
    }
