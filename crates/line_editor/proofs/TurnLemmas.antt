-- A phrase of a line: a change-to begins a group.
use Rattle.std.proofs.Common.{◌≡◌, Bool, true, false, refl, sym, ap, subst, if◌then◌else◌}
use Rattle.std.specs.Prelude.{Result, Ok, Err, IsErrAnd}
use Rattle.line_config.specs.declared.errors.ReadlineError.{ReadlineError}
use Rattle.line_keys.specs.CustomBindings.{Custom}
use Rattle.line_keys.specs.KeyFeeds.{KeyFeed}
use Rattle.line_keys.specs.InputStates.{Follows, phrase}
use Rattle.line_keys.specs.PhraseScripts.{Input, PhrasePart, answer_part, show_then}
use Rattle.line_keys.specs.Refreshing.{KnownDisplay, Draws}
use Rattle.line_keys.specs.Refreshing.Ask.{DoingInsert}
use Rattle.line_keys.specs.declared.command.Cmd.{Cmd}
use Rattle.line_keys.proofs.Following.{then_stops, then_follows, ends_follow, ask_follows, ask_stops, as_follows}
use Rattle.line_editor.specs.NextCommand.{begins_group, with_group_begun, line_phrase}
use Rattle.line_editor.proofs.DoesLemmas.{is_err}

abbrev by_group : Bool → Cmd → PhrasePart Cmd
by_group b cmd = if b then show_then DoingInsert (λ seen. answer_part cmd) else answer_part cmd

module _ {S : Type 0} (d : KnownDisplay S) (custom : Custom) where
  pub phrase_stops : (w w1 : S) (i i1 : Input) (f f1 : KeyFeed) (e : ReadlineError) (r : Result Cmd ReadlineError) → IsErrAnd r (λ x. x ≡ e)
      → Follows d custom (phrase custom i (d.shown w)) w i w1 i1 f f1 (Err e) → Follows d custom (line_phrase custom i (d.shown w)) w i w1 i1 f f1 r
  phrase_stops w w1 i i1 f f1 e r is first = subst (λ (x : Result Cmd ReadlineError). Follows d custom (line_phrase custom i (d.shown w)) w i w1 i1 f f1 x) (sym (is_err e r is))
      (then_stops d custom (phrase custom i (d.shown w)) with_group_begun w w1 i i1 f f1 e first)

  module _ (cmd : Cmd) (w w1 : S) (i i1 : Input) (f f1 : KeyFeed) (first : Follows d custom (phrase custom i (d.shown w)) w i w1 i1 f f1 (Ok cmd)) where
    -- after the phrase
    on : (w2 : S) (r : Result Cmd ReadlineError) → Follows d custom (with_group_begun cmd i1 (d.shown w1)) w1 i1 w2 i1 f1 f1 r
        → Follows d custom (line_phrase custom i (d.shown w)) w i w2 i1 f f1 r
    on w2 r second = then_follows d custom (phrase custom i (d.shown w)) with_group_begun cmd w w1 w2 i i1 i1 f f1 f1 r first second

    pub phrase_goes : begins_group cmd ≡ false → Follows d custom (line_phrase custom i (d.shown w)) w i w1 i1 f f1 (Ok cmd)
    phrase_goes other = on w1 (Ok cmd) (ends_follow d custom (by_group (begins_group cmd) cmd) w1 i1 f1 cmd (ap (λ (b : Bool). by_group b cmd) other))

    pub phrase_begins : {A : Type 0} (u : A) (w2 : S) → begins_group cmd ≡ true → Draws d DoingInsert w1 w2 (Ok u) → Follows d custom (line_phrase custom i (d.shown w)) w i w2 i1 f f1 (Ok cmd)
    phrase_begins u w2 does draws = on w2 (Ok cmd) (as_follows d custom (by_group (begins_group cmd) cmd) (by_group true cmd) w1 w2 i1 i1 f1 f1 (Ok cmd)
        (ask_follows d custom DoingInsert (λ seen. answer_part cmd) u w1 w2 w2 i1 i1 f1 f1 (Ok cmd) draws (ends_follow d custom (answer_part cmd) w2 i1 f1 cmd refl))
        (ap (λ (b : Bool). by_group b cmd) does))

    pub phrase_unbegun : {A : Type 0} (w2 : S) (e : ReadlineError) (r : Result Cmd ReadlineError) → IsErrAnd r (λ x. x ≡ e) → begins_group cmd ≡ true → Draws {A = A} d DoingInsert w1 w2 (Err e)
        → Follows d custom (line_phrase custom i (d.shown w)) w i w2 i1 f f1 r
    phrase_unbegun {A} w2 e r is does draws = subst (λ (x : Result Cmd ReadlineError). Follows d custom (line_phrase custom i (d.shown w)) w i w2 i1 f f1 x) (sym (is_err e r is))
        (on w2 (Err e) (as_follows d custom (by_group (begins_group cmd) cmd) (by_group true cmd) w1 w2 i1 i1 f1 f1 (Err e)
        (ask_stops {A = A} d custom DoingInsert (λ seen. answer_part cmd) w1 w2 i1 f1 e draws)
        (ap (λ (b : Bool). by_group b cmd) does)))
