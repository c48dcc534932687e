use Rattle.line_keys.specs.Vi.{vi_command}
use Rattle.line_keys.proofs.Asking.{keys_asked, keys_then}
use Rattle.line_keys.proofs.Following.{then_follows, then_stops, raised_follows}
use Rattle.std.proofs.Common.{refl}
use Rattle.line_keys.proofs.keymap.InputState.vi_command.Goals as goal

pub returns : goal.returns
unfolding vi_command
returns g c = record {
  phrase = then_follows _ _ _ _ _ _ _ _ _ _ _ _ _ _ _ c.in_ok-count.ensures.phrase c.vi_counted.ensures.phrase;
  asks = keys_then _ _ _ _ _ c.in_ok-count.ensures.asks c.vi_counted.ensures.asks;
  bindings = c.vi_counted.ensures.bindings;
}

pub returns-in_err-count : goal.returns-in_err-count
unfolding vi_command
returns-in_err-count g c = record {
  phrase = raised_follows c.from_residual.ensures.1 (then_stops _ _ _ _ _ _ _ _ _ _ _ c.in_err-count.ensures.phrase);
  asks = keys_asked _ _ _ _ c.in_err-count.ensures.asks;
  bindings = refl;
}
