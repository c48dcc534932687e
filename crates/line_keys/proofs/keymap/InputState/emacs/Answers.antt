use Rattle.line_keys.proofs.Asking.{keys_asked, keys_then}
use Rattle.line_keys.proofs.Following.{then_follows, then_stops, raised_follows}
use Rattle.line_keys.proofs.keymap.InputState.emacs.Goals as goal

pub returns-clause-phrase : goal.returns-clause-phrase
returns-clause-phrase g c = then_follows _ _ _ _ _ _ _ _ _ _ _ _ _ _ _ c.in_ok-count.ensures.phrase c.emacs_decided.ensures.phrase

pub returns-clause-asks : goal.returns-clause-asks
returns-clause-asks g c = keys_then _ _ _ _ _ c.in_ok-count.ensures.asks c.emacs_decided.ensures.asks

pub returns-in_err-count : goal.returns-in_err-count
returns-in_err-count g c = record {
  phrase = raised_follows c.from_residual.ensures.1 (then_stops _ _ _ _ _ _ _ _ _ _ _ c.in_err-count.ensures.phrase);
  asks = keys_asked _ _ _ _ c.in_err-count.ensures.asks;
}
