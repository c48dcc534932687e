use Rattle.std.proofs.Common.{◌≡◌, arith, ap, sym, refl, Some, None}
use Rattle.line_keys.specs.declared.command.Cmd.{Cmd}
use Rattle.line_keys.specs.declared.keymap.custom.Followed.TheVariants.{Bound, Unbound}
use Rattle.line_keys.specs.PhraseScripts.{answer_part}
use Rattle.line_keys.proofs.Asking.{keys_asked, key_asked, keys_then}
use Rattle.line_keys.proofs.Following.{then_follows, ends_follow, whole_read}
use Rattle.line_keys.proofs.keymap.InputState.ctrl_x.Goals as goal

pub returns-in-Bound-clause-phrase : goal.returns-in-Bound-clause-phrase
returns-in-Bound-clause-phrase g c =
    let is : c.in_ok-followed.followed ≡ Bound c.in-Bound.cmd = cc in
    then_follows _ _ _ _ _ _ _ _ _ _ _ _ _ _ _ (rw is at c.in_ok-followed.ensures.phrase) (ends_follow _ _ _ _ _ _ _ refl)

pub returns-in-Bound-clause-asks : goal.returns-in-Bound-clause-asks
returns-in-Bound-clause-asks g c = keys_asked _ _ _ _ c.in_ok-followed.ensures.asks

pub returns-in-Unbound-Some-clause-phrase : goal.returns-in-Unbound-Some-clause-phrase
returns-in-Unbound-Some-clause-phrase g c =
    let is : c.in_ok-followed.followed ≡ Unbound (Some c.in-Unbound-Some.second) = grind arith in
    then_follows _ _ _ _ _ _ _ _ _ _ _ _ _ _ _ (rw is at c.in_ok-followed.ensures.phrase) (ends_follow _ _ _ _ _ _ _ (ap (λ (y : Cmd). answer_part y) (sym c.second_command.ensures)))

pub returns-in-Unbound-Some-clause-asks : goal.returns-in-Unbound-Some-clause-asks
returns-in-Unbound-Some-clause-asks g c = keys_asked _ _ _ _ c.in_ok-followed.ensures.asks

pub returns-in-Unbound-None-clause-phrase : goal.returns-in-Unbound-None-clause-phrase
returns-in-Unbound-None-clause-phrase g c =
    let is : c.in_ok-followed.followed ≡ Unbound None = grind arith in
    then_follows _ _ _ _ _ _ _ _ _ _ _ _ _ _ _ (rw is at c.in_ok-followed.ensures.phrase) (whole_read _ c.read_second.ensures.reads)

pub returns-in-Unbound-None-clause-asks : goal.returns-in-Unbound-None-clause-asks
returns-in-Unbound-None-clause-asks g c = keys_then _ _ _ _ _ c.in_ok-followed.ensures.asks (key_asked _ _ _ _ c.read_second.ensures.asks)

pub returns-in_err-followed-clause-asks : goal.returns-in_err-followed-clause-asks
returns-in_err-followed-clause-asks g c = keys_asked _ _ _ _ c.in_err-followed.ensures.asks
