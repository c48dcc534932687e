use Rattle.std.proofs.Common.{ap, sym}
use Rattle.line_keys.specs.declared.command.Cmd.{Cmd}
use Rattle.line_keys.specs.PhraseScripts.{answer_part}
use Rattle.line_keys.proofs.Asking.{keys_asked}
use Rattle.line_keys.proofs.Following.{then_follows, ends_follow}
use Rattle.line_keys.proofs.keymap.InputState.sequence.Goals as goal

pub returns : goal.returns
returns g c = record {
  phrase = then_follows _ _ _ _ _ _ _ _ _ _ _ _ _ _ _ c.in_ok-followed.ensures.phrase (ends_follow _ _ _ _ _ _ _ (ap (λ (y : Cmd). answer_part y) (sym c.bound_command.ensures)));
  asks = keys_asked _ _ _ _ c.in_ok-followed.ensures.asks;
}

pub returns-in_err-followed-clause-asks : goal.returns-in_err-followed-clause-asks
returns-in_err-followed-clause-asks g c = keys_asked _ _ _ _ c.in_err-followed.ensures.asks
