use Rattle.std.proofs.Common.{arith, refl}
use Rattle.line_keys.specs.declared.command.Cmd.TheVariants.{Insert}
use Rattle.line_keys.specs.PhraseScripts.{answer_part}
use Rattle.line_keys.proofs.Asking.{text_asked}
use Rattle.line_keys.proofs.Following.{as_follows, ends_follow, silent_follows, raised_follows, read_stops, read_follows}
use Rattle.line_keys.specs.KeyFeeds.{Paste}
use Rattle.line_keys.proofs.keymap.InputState.common.Goals as goal

pub returns-in-Some-Give-clause-phrase : goal.returns-in-Some-Give-clause-phrase
returns-in-Some-Give-clause-phrase g c = ends_follow _ _ _ _ _ _ _ (grind arith)

pub returns-in_err-text-in-Some-Paste : goal.returns-in_err-text-in-Some-Paste
returns-in_err-text-in-Some-Paste g c = record {
  phrase = raised_follows c.from_residual.ensures.1 (as_follows _ _ _ _ _ _ _ _ _ _ _ (read_stops {item = Paste} (λ text. answer_part (Insert 1 text)) c.in_err-text-in-Some-Paste.ensures.reads) (grind arith));
  asks = text_asked _ _ _ c.in_err-text-in-Some-Paste.ensures.asks;
}

pub returns-in_ok-text-in-Some-Paste : goal.returns-in_ok-text-in-Some-Paste
returns-in_ok-text-in-Some-Paste g c = record {
  phrase = as_follows _ _ _ _ _ _ _ _ _ _ _ (read_follows {item = Paste} (λ text. answer_part (Insert 1 text)) c.in_ok-text-in-Some-Paste.ensures.reads (ends_follow _ _ _ _ _ _ _ refl)) (grind arith);
  asks = text_asked _ _ _ c.in_ok-text-in-Some-Paste.ensures.asks;
}

pub returns-in-Some-Quote-clause-phrase : goal.returns-in-Some-Quote-clause-phrase
returns-in-Some-Quote-clause-phrase g c =
    as_follows _ _ _ _ _ _ _ _ _ _ _ (silent_follows c.quoting.ensures.phrase) (grind arith)
