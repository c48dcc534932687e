use Rattle.std.proofs.Common.{refl}
use Rattle.line_keys.proofs.Asking.{none_asked}
use Rattle.line_keys.proofs.Following.{ends_follow}
use Rattle.line_keys.proofs.keymap.InputState.counted_key.Goals as goal

pub returns-in-Some-clause-asks : goal.returns-in-Some-clause-asks
returns-in-Some-clause-asks g c = c.digit_argument.ensures.asks

pub returns-in-None : goal.returns-in-None
returns-in-None g c = record { phrase = rw (← c.begun_by.ensures, c.in-None.is) (ends_follow _ _ _ _ _ _ _ refl); asks = none_asked _ _ _ }
