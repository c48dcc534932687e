use Rattle.std.proofs.Common.{arith}
use Rattle.line_keys.proofs.Asking.{key_asked, none_asked}
use Rattle.line_keys.proofs.Following.{as_follows, whole_read, ends_follow}
use Rattle.line_keys.proofs.keymap.InputState.emacs_command.Goals as goal

pub returns-in-Some-Give : goal.returns-in-Some-Give
returns-in-Some-Give g c = record { phrase = ends_follow _ _ _ _ _ _ _ (grind arith); asks = none_asked _ _ _ }

pub returns-in-Some-Seek-clause-phrase : goal.returns-in-Some-Seek-clause-phrase
returns-in-Some-Seek-clause-phrase g c = as_follows _ _ _ _ _ _ _ _ _ _ _ (whole_read _ c.char_search.ensures.reads) (grind arith)

pub returns-in-Some-Seek-clause-asks : goal.returns-in-Some-Seek-clause-asks
returns-in-Some-Seek-clause-asks g c = key_asked _ _ _ _ c.char_search.ensures.asks

pub returns-in-None : goal.returns-in-None
returns-in-None g c = record { phrase = rw (← c.emacs_action.ensures, c.in-None.is) c.common.ensures.phrase; asks = c.common.ensures.asks }

pub returns-in-Some-LeadOn-clause-asks : goal.returns-in-Some-LeadOn-clause-asks
returns-in-Some-LeadOn-clause-asks g c = c.ctrl_x.ensures.asks
