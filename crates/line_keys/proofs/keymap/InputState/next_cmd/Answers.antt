use Rattle.line_keys.proofs.Asking.{first_asked, first_then}
use Rattle.line_keys.proofs.Following.{raised_follows, read_stops, read_follows}
use Rattle.line_keys.proofs.keymap.InputState.next_cmd.Goals as goal

pub returns-in_err-key-clause-phrase : goal.returns-in_err-key-clause-phrase
returns-in_err-key-clause-phrase g c =
    raised_follows c.from_residual.ensures.1 (read_stops _ c.in_err-key.ensures.reads)

pub returns-clause-phrase : goal.returns-clause-phrase
returns-clause-phrase g c =
    read_follows _ c.in_ok-key.ensures.reads c.begun.ensures.phrase

pub returns-in_err-key-clause-asks : goal.returns-in_err-key-clause-asks
returns-in_err-key-clause-asks g c = first_asked _ _ _ _ (rw c.single_esc_abort-single_esc_abort.ensures at c.in_err-key.ensures.asks)

pub returns-clause-asks : goal.returns-clause-asks
returns-clause-asks g c = rw c.single_esc_abort-single_esc_abort.ensures at (first_then _ _ _ _ _ c.in_ok-key.ensures.asks c.begun.ensures.asks)
