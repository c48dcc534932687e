use Rattle.line_keys.proofs.Following.{then_follows, then_stops, raised_follows}
use Rattle.line_keys.proofs.Remembering.{remember_follows}
use Rattle.std.proofs.Common.{◌∙◌}
use Rattle.line_keys.proofs.keymap.InputState.vi_typed.Goals as goal

pub returns : goal.returns
returns g c = record {
  phrase = then_follows _ _ _ _ _ _ _ _ _ _ _ _ _ _ _ c.in_ok-cmd.ensures.phrase (remember_follows _ _ _ c.typed_by.ensures.remembers);
  asks = c.in_ok-cmd.ensures.asks;
  bindings = c.typed_by.ensures.bindings ∙ c.in_ok-cmd.ensures.bindings;
}

pub returns-in_err-cmd : goal.returns-in_err-cmd
returns-in_err-cmd g c = record {
  phrase = raised_follows c.from_residual.ensures.1 (then_stops _ _ _ _ _ _ _ _ _ _ _ c.in_err-cmd.ensures.phrase);
  asks = c.in_err-cmd.ensures.asks;
  bindings = c.in_err-cmd.ensures.bindings;
}
