use Rattle.std.proofs.Common.{refl}
use Rattle.line_keys.specs.InputStates.{situation_in}
use Rattle.line_keys.proofs.Following.{decides_follow, ends_follow, granted_follows, key_stops, raised_follows}
use Rattle.line_keys.proofs.Asking.{none_asked}
use Rattle.line_keys.proofs.keymap.InputState.emacs_decided.Goals as goal

pub returns-in_err-cmd-clause-phrase : goal.returns-in_err-cmd-clause-phrase
returns-in_err-cmd-clause-phrase g c =
    let s = situation_in c.args.self.now g.D.Decides.decides (g.W.Refresher.display.shown c.args.wrt.now) c.new-count.result.n c.new-count.result.positive in
    rw (← c.new-count.ensures.n, ← c.new-count.ensures.positive) (raised_follows c.from_residual.ensures.1 (key_stops s c.args.key _ c.in_err-cmd.ensures))

pub returns-in_err-cmd-clause-asks : goal.returns-in_err-cmd-clause-asks
returns-in_err-cmd-clause-asks g c = none_asked _ _ _

pub returns-in-Some-term_binding : goal.returns-in-Some-term_binding
returns-in-Some-term_binding g c = record {
  phrase = rw (← c.new-count.ensures.n, ← c.new-count.ensures.positive, ← c.in-Some-term_binding.ensures)
      (decides_follow _ (rw c.in-None.is at c.in_ok-cmd.ensures) (ends_follow _ _ _ _ _ _ _ refl));
  asks = none_asked _ _ _;
}

pub returns-in-None-term_binding : goal.returns-in-None-term_binding
returns-in-None-term_binding g c = record {
  phrase = rw (← c.new-count.ensures.n, ← c.new-count.ensures.positive, ← c.in-None-term_binding.ensures)
      (decides_follow _ (rw (c.in-None.is) at c.in_ok-cmd.ensures) c.emacs_command.ensures.phrase);
  asks = c.emacs_command.ensures.asks;
}

pub returns-in-Some : goal.returns-in-Some
returns-in-Some g c = record {
  phrase = rw (← c.new-count.ensures.n, ← c.new-count.ensures.positive)
      (decides_follow _ (rw c.in-Some.is at c.in_ok-cmd.ensures) (granted_follows _ _ c.made_anew.ensures));
  asks = none_asked _ _ _;
}
