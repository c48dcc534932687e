use Rattle.std.proofs.Common.{ap, sym, ◌∙◌}
use Rattle.line_keys.specs.declared.command.Cmd.{Cmd}
use Rattle.line_keys.specs.InputStates.{input_of}
use Rattle.line_keys.specs.Vi.{changes}
use Rattle.line_keys.specs.PhraseScripts.{answer_part}
use Rattle.line_keys.proofs.Asking.{begun_asked}
use Rattle.line_keys.proofs.Following.{becomes_follows, then_follows, then_stops, ends_follow, raised_follows}
use Rattle.line_keys.proofs.Remembering.{entered_mode}
use Rattle.line_keys.proofs.keymap.InputState.vi_operation.Goals as goal

pub returns : goal.returns
returns g c = record {
  phrase = becomes_follows (entered_mode (changes c.args.operator) (input_of c.args.self.now))
      (then_follows _ _ _ _ _ _ _ _ _ _ _ _ _ _ _ (rw (c.enter.ensures.input, c.enter.ensures.bindings) at c.in_ok-motion.ensures.motion)
      (ends_follow _ _ _ _ _ _ _ (ap (λ (y : Cmd). answer_part y) (sym c.command.ensures))));
  asks = begun_asked _ _ _ _ c.in_ok-motion.ensures.asks;
  bindings = c.in_ok-motion.ensures.bindings ∙ c.enter.ensures.bindings;
}

pub returns-in_err-motion : goal.returns-in_err-motion
returns-in_err-motion g c = record {
  phrase = raised_follows c.from_residual.ensures.1 (becomes_follows (entered_mode (changes c.args.operator) (input_of c.args.self.now))
      (then_stops _ _ _ _ _ _ _ _ _ _ _ (rw (c.enter.ensures.input, c.enter.ensures.bindings) at c.in_err-motion.ensures.motion)));
  asks = begun_asked _ _ _ _ c.in_err-motion.ensures.asks;
  bindings = c.in_err-motion.ensures.bindings ∙ c.enter.ensures.bindings;
}
