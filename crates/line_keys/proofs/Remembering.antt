-- A change that is remembered, as a part of a phrase.
use Rattle.std.proofs.Common.{◌≡◌, Bool, true, false, refl, sym, ap, true≢false}
use Rattle.std.specs.Prelude.{Result, Ok, Err}
use Rattle.line_config.specs.declared.errors.ReadlineError.{ReadlineError}
use Rattle.line_keys.specs.declared.command.Cmd.{Cmd}
use Rattle.line_keys.specs.CustomBindings.{Custom}
use Rattle.line_keys.specs.Commands.{holds_text}
use Rattle.line_keys.specs.KeyFeeds.{KeyFeed}
use Rattle.line_keys.specs.InputStates.{Follows}
use Rattle.line_keys.specs.PhraseScripts.{Input, answer_part, keep_then}
use Rattle.line_keys.specs.Refreshing.{KnownDisplay}
use Rattle.line_keys.specs.Vi.{Remembers, insert_mode_if, remember_if, with_last}
use Rattle.line_keys.proofs.Following.{ends_follow, needing_follows, becomes_follows, needed_follows}

module _ {S : Type 0} {d : KnownDisplay S} {custom : Custom} {w : S} {f : KeyFeed} where
  at_end : {cmd c : Cmd} {j k : Input} → c ≡ cmd → k ≡ j → Follows d custom (answer_part cmd) w j w k f f (Ok c)
  at_end same kept = rw kept (ends_follow _ _ _ _ _ _ _ (ap (λ (x : Cmd). answer_part x) (sym same)))

  pub remember_follows : (is : Bool) (cmd : Cmd) {i i' : Input} (r : Result Cmd ReadlineError) → Remembers is cmd i i' r → Follows d custom (remember_if is cmd i) w i w i' f f r
  remember_follows true cmd (Ok c) remembers = needing_follows (holds_text cmd) (becomes_follows refl (at_end remembers.ok.0 remembers.ok.1))
  remember_follows true cmd {i = i} (Err e) remembers =
      rw remembers.err.3 (needed_follows (holds_text cmd) (keep_then (with_last cmd i) (answer_part cmd)) remembers.err.0 remembers.err.2)
  remember_follows false cmd (Ok c) remembers = at_end remembers.ok.0 remembers.ok.1
  remember_follows false cmd (Err e) remembers = absurd (true≢false (sym remembers.err.1))

-- Emacs or Vi for good
pub entered_mode : (changes : Bool) (i : Input) → (insert_mode_if changes i).mode ≡ i.mode
entered_mode true i = refl
entered_mode false i = refl
