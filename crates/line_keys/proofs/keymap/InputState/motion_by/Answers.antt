use Rattle.std.proofs.Common.{arith, refl}
use Rattle.line_keys.proofs.Asking.{one_asked, none_asked}
use Rattle.line_keys.proofs.Following.{ends_follow}
use Rattle.line_keys.proofs.keymap.InputState.motion_by.Goals as goal

pub returns-in-Some-Go : goal.returns-in-Some-Go
returns-in-Some-Go g c = record { motion = ends_follow _ _ _ _ _ _ _ (grind arith); asks = none_asked _ _ _; bindings = refl }

pub returns-in-Some-Again : goal.returns-in-Some-Again
returns-in-Some-Again g c = record { motion = ends_follow _ _ _ _ _ _ _ (grind arith); asks = none_asked _ _ _; bindings = refl }

pub returns-in-Some-Back : goal.returns-in-Some-Back
returns-in-Some-Back g c = record { motion = ends_follow _ _ _ _ _ _ _ (grind arith); asks = none_asked _ _ _; bindings = refl }

pub returns-in-None : goal.returns-in-None
returns-in-None g c = record { motion = ends_follow _ _ _ _ _ _ _ (grind arith); asks = none_asked _ _ _; bindings = refl }

pub returns-in-Some-Seek-clause-asks : goal.returns-in-Some-Seek-clause-asks
returns-in-Some-Seek-clause-asks g c = one_asked _ _ _ _ c.vi_char_search.ensures.asks

pub returns-in-Some-Seek-clause-bindings : goal.returns-in-Some-Seek-clause-bindings
returns-in-Some-Seek-clause-bindings g c = c.vi_char_search.ensures.bindings
