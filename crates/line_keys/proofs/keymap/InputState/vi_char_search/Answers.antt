use Rattle.std.proofs.Common.{arith, refl}
use Rattle.line_keys.proofs.Following.{as_follows, becomes_follows, ends_follow, raised_follows, read_stops, read_follows}
use Rattle.line_keys.proofs.keymap.InputState.vi_char_search.Goals as goal

pub returns-in_err-key-clause-sought : goal.returns-in_err-key-clause-sought
returns-in_err-key-clause-sought g c =
    raised_follows c.from_residual.ensures.1 (read_stops _ c.in_err-key.ensures.reads)

pub returns-in_default-clause-sought : goal.returns-in_default-clause-sought
returns-in_default-clause-sought g c =
    read_follows _ c.in_ok-key.ensures.reads (ends_follow _ _ _ _ _ _ _ (grind arith))

pub returns-clause-sought : goal.returns-clause-sought
returns-clause-sought g c =
    read_follows _ c.in_ok-key.ensures.reads (as_follows _ _ _ _ _ _ _ _ _ _ _ (becomes_follows refl (ends_follow _ _ _ _ _ _ _ refl)) (grind arith))
