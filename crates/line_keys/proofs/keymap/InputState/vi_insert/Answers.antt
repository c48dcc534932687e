use Rattle.std.proofs.Common.{refl}
use Rattle.std.specs.Prelude.{true}
use Rattle.line_keys.specs.InputStates.{situation_in}
use Rattle.line_keys.specs.Vi.{vi_insert}
use Rattle.line_keys.proofs.Following.{decides_follow, ends_follow, granted_follows, key_stops, raised_follows}
use Rattle.line_keys.proofs.Asking.{none_asked}
use Rattle.line_keys.proofs.keymap.InputState.vi_insert.Goals as goal

pub returns-in_err-cmd : goal.returns-in_err-cmd
unfolding vi_insert
returns-in_err-cmd g c =
    let s = situation_in c.args.self.now g.D.Decides.decides (g.W.Refresher.display.shown c.args.wrt.now) 0 true in
    record { phrase = raised_follows c.from_residual.ensures.1 (key_stops s c.args.key _ c.in_err-cmd.ensures); asks = none_asked _ _ _; bindings = refl }

pub returns-in-Some : goal.returns-in-Some
unfolding vi_insert
returns-in-Some g c = record {
  phrase = decides_follow _ (rw c.in-Some.is at c.in_ok-cmd.ensures) (granted_follows _ _ c.made_anew.ensures);
  asks = none_asked _ _ _;
  bindings = refl;
}

pub returns-in-Some-term_binding : goal.returns-in-Some-term_binding
unfolding vi_insert
returns-in-Some-term_binding g c = record {
  phrase = rw (← c.in-Some-term_binding.ensures)
      (decides_follow _ (rw c.in-None.is at c.in_ok-cmd.ensures) (ends_follow _ _ _ _ _ _ _ refl));
  asks = none_asked _ _ _;
  bindings = refl;
}

pub returns-in-None-term_binding : goal.returns-in-None-term_binding
unfolding vi_insert
returns-in-None-term_binding g c = record {
  phrase = rw (← c.in-None-term_binding.ensures)
      (decides_follow _ (rw c.in-None.is at c.in_ok-cmd.ensures) c.vi_typed.ensures.phrase);
  asks = c.vi_typed.ensures.asks;
  bindings = c.vi_typed.ensures.bindings;
}
