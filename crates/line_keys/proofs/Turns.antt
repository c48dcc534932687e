-- One turn of a loop that reads: of a count, and of a sequence of keys.
use Rattle.std.proofs.Common.{◌≡◌, ℕ, zero, suc, true, false, List, [], ◌∷◌, ◌++◌, refl, sym, ap, ◌∙◌}
use Rattle.std.specs.Prelude.{ℤ, Option, Some, None, Result, Ok, Err, slice_get}
use Rattle.line_config.specs.declared.errors.ReadlineError.{ReadlineError, TheVariants.Memory}
use Rattle.line_keys.specs.declared.command.Cmd.{Cmd}
use Rattle.line_keys.specs.declared.key.KeyEvent.{KeyEvent}
use Rattle.line_keys.specs.declared.events.Event.TheVariants.{KeySeq}
use Rattle.line_keys.specs.CustomBindings.{Custom, BindingAnswers}
use Rattle.line_keys.specs.Counts.{Counted, rest_of_count, rest_of_count_in, rest_of_count_by, prompt_for}
use Rattle.line_keys.specs.declared.keymap.custom.Followed.{Followed, TheVariants.Bound, TheVariants.Unbound}
use Rattle.line_keys.specs.CustomKeys.{Situation, rest_of_sequence, sequence_upto, key_sequence, sequence_or, sequence_answer, handler_arguments_for}
use Rattle.line_keys.specs.KeyFeeds.{KeyFeed, Key, ReadsBy, key_at}
use Rattle.line_keys.specs.InputStates.{Follows}
use Rattle.line_keys.specs.Refreshing.{Line, Prompted, KnownDisplay, Draws}
use Rattle.line_keys.specs.PhraseScripts.{Input, KeyScript, PhrasePart, Upto, steps, answer_part, show_then, reply_then, memory_then, with_read}
use Rattle.line_keys.proofs.Following.{as_follows, ask_follows, ask_stops, read_follows, read_stops, ends_follow, needing_follows, needed_follows, decided, decides_stop, decides_follow}

-- parts with the same steps, with no read and with more
same_upto : {X : Type 0} (p q : ℕ → KeyScript X) → p zero ≡ q zero → ((n : ℕ) → p (suc n) ≡ q (suc n)) → Upto p ≡ Upto q
same_upto p q first later = λ i. Upto (λ n. by n i)
  where
    by : (n : ℕ) → p n ≡ q n
    by zero = first
    by (suc n) = later n

module _ (on : ℤ → KeyEvent → Option ℤ) (c : ℤ) where
  abbrev counted : KeyEvent → PhrasePart Counted
  counted k = Upto (λ n. rest_of_count_by (λ more. steps (rest_of_count on more) n) c k (on c k))

  abbrev reads_more : PhrasePart Counted
  reads_more = Upto (rest_of_count_in on c)

  counting_reads : reads_more ≡ with_read Key counted
  unfolding rest_of_count with_read
  counting_reads = same_upto _ _ refl (λ n. refl)

  module _ {S : Type 0} {d : KnownDisplay S} {custom : Custom} {i : Input} where
    -- after the memory that the prompt takes
    asked_on : {w w2 : S} {f f2 : KeyFeed} {r : Result Counted ReadlineError} → Follows d custom (show_then (Prompted (prompt_for c)) (λ shown. reads_more)) w i w2 i f f2 r
        → Follows d custom (rest_of_count on c) w i w2 i f f2 r
    unfolding rest_of_count memory_then show_then
    asked_on later = needing_follows true later

    pub count_unprompted : {w : S} {f : KeyFeed} {e : ReadlineError} → e ≡ Memory → Follows d custom (rest_of_count on c) w i w i f f (Err e)
    unfolding rest_of_count memory_then show_then
    count_unprompted is = needed_follows true (show_then (Prompted (prompt_for c)) (λ shown. reads_more)) is refl

    pub count_unasked : {A : Type 0} {w w1 : S} {f : KeyFeed} {e : ReadlineError} → Draws {A = A} d (Prompted (prompt_for c)) w w1 (Err e)
        → Follows d custom (rest_of_count on c) w i w1 i f f (Err e)
    count_unasked refused = asked_on (ask_stops d custom (Prompted (prompt_for c)) (λ shown. reads_more) _ _ _ _ _ refused)

    module _ {A : Type 0} {u : A} {w w1 : S} {f : KeyFeed} (asked : Draws d (Prompted (prompt_for c)) w w1 (Ok u)) where
      reading : {w2 : S} {f2 : KeyFeed} {r : Result Counted ReadlineError} → Follows d custom (with_read Key counted) w1 i w2 i f f2 r
          → Follows d custom (rest_of_count on c) w i w2 i f f2 r
      reading later = asked_on (ask_follows d custom (Prompted (prompt_for c)) (λ shown. reads_more) _ _ _ _ _ _ _ _ _ asked
          (as_follows d custom reads_more (with_read Key counted) _ _ _ _ _ _ _ later counting_reads))

      pub count_stops : {f1 : KeyFeed} {e : ReadlineError} → ReadsBy Key key_at f f1 (Err e) → Follows d custom (rest_of_count on c) w i w1 i f f1 (Err e)
      count_stops read = reading (read_stops {item = Key} counted read)

      module _ {f1 : KeyFeed} {k : KeyEvent} (read : ReadsBy Key key_at f f1 (Ok k)) where
        pub count_goes_on : {w2 : S} {f2 : KeyFeed} {more : ℤ} {r : Result Counted ReadlineError} → Some more ≡ on c k
            → Follows d custom (rest_of_count on more) w1 i w2 i f1 f2 r → Follows d custom (rest_of_count on c) w i w2 i f f2 r
        unfolding rest_of_count
        count_goes_on is later = reading (read_follows {item = Key} counted read (rw (← is) later))

        pub count_ends : {B : Type 0} {v : B} {w2 : S} → None ≡ on c k → Draws d Line w1 w2 (Ok v)
            → Follows d custom (rest_of_count on c) w i w2 i f f1 (Ok (Some c, k))
        unfolding show_then answer_part
        count_ends is drawn = reading (read_follows {item = Key} counted read
            (rw (← is) (ask_follows d custom Line (λ shown. answer_part (Some c, k)) _ _ _ _ _ _ _ _ _ drawn (ends_follow _ _ _ _ _ _ _ refl))))

        pub count_undrawn : {B : Type 0} {w2 : S} {e : ReadlineError} → None ≡ on c k → Draws {A = B} d Line w1 w2 (Err e)
            → Follows d custom (rest_of_count on c) w i w2 i f f1 (Err e)
        unfolding show_then answer_part
        count_undrawn is drawn = reading (read_follows {item = Key} counted read (rw (← is) (ask_stops d custom Line (λ shown. answer_part (Some c, k)) _ _ _ _ _ drawn)))

module _ (s : Situation) (keys : List KeyEvent) where
  abbrev on_next : KeyEvent → Option Cmd → PhrasePart Followed
  on_next k o = Upto (λ n. sequence_or (sequence_upto s (keys ++ k ∷ []) n) o)

  abbrev read_next : KeyEvent → PhrasePart Followed
  read_next k = reply_then (on_next k) (sequence_answer s (keys ++ k ∷ []))

  following_reads : s.custom.begins keys ≡ true → rest_of_sequence s keys ≡ with_read Key read_next
  unfolding rest_of_sequence with_read reply_then
  following_reads begun = same_upto _ _ (rw begun refl) (λ n. rw begun refl)

  abbrev in_vain : List KeyEvent → PhrasePart Followed
  in_vain ks = answer_part (Unbound (slice_get ks 1))

  following_over : s.custom.begins keys ≡ false → rest_of_sequence s keys ≡ in_vain keys
  unfolding rest_of_sequence answer_part
  following_over over = same_upto _ _ (rw over refl) (λ n. rw over refl)

  module _ {S : Type 0} {d : KnownDisplay S} {w : S} {i : Input} {f : KeyFeed} where
    pub sequence_over : {second : Option KeyEvent} → s.custom.begins keys ≡ false → second ≡ slice_get keys 1 → Follows d s.custom (rest_of_sequence s keys) w i w i f f (Ok (Unbound second))
    sequence_over over is = ends_follow _ _ _ _ _ _ _ (following_over over ∙ ap (λ (o : Option KeyEvent). answer_part (Unbound o)) (sym is))

    module _ {f1 : KeyFeed} (begun : s.custom.begins keys ≡ true) where
      pub sequence_stops : {e : ReadlineError} → ReadsBy Key key_at f f1 (Err e) → Follows d s.custom (rest_of_sequence s keys) w i w i f f1 (Err e)
      sequence_stops read = rw (following_reads begun) (read_stops {item = Key} read_next read)

      module _ {k : KeyEvent} (read : ReadsBy Key key_at f f1 (Ok k)) where
        on_read : {f2 : KeyFeed} {r : Result Followed ReadlineError} → Follows d s.custom (read_next k) w i w i f1 f2 r → Follows d s.custom (rest_of_sequence s keys) w i w i f f2 r
        on_read later = rw (following_reads begun) (read_follows {item = Key} read_next read later)

        pub sequence_no_memory : {e : ReadlineError} → e ≡ Memory → Follows d s.custom (rest_of_sequence s keys) w i w i f f1 (Err e)
        unfolding reply_then memory_then
        sequence_no_memory is = on_read (needed_follows true (decided (on_next k) (sequence_answer s (keys ++ k ∷ [])).answer) is refl)

        pub sequence_refused : {e : ReadlineError} → BindingAnswers (sequence_answer s (keys ++ k ∷ [])) (Err e) → Follows d s.custom (rest_of_sequence s keys) w i w i f f1 (Err e)
        sequence_refused decides = on_read (decides_stop (on_next k) (sequence_answer s (keys ++ k ∷ [])) _
            (λ fails. (KeySeq (keys ++ k ∷ []), handler_arguments_for s (KeySeq (keys ++ k ∷ [])), fails)) decides.refusal)

        pub sequence_bound : {cmd : Cmd} → BindingAnswers (sequence_answer s (keys ++ k ∷ [])) (Ok (Some cmd)) → Follows d s.custom (rest_of_sequence s keys) w i w i f f1 (Ok (Bound cmd))
        unfolding answer_part
        sequence_bound decides = on_read (decides_follow (on_next k) decides (ends_follow _ _ _ _ _ _ _ refl))

        pub sequence_on : {f2 : KeyFeed} {r : Result Followed ReadlineError} → BindingAnswers (sequence_answer s (keys ++ k ∷ [])) (Ok None)
            → Follows d s.custom (rest_of_sequence s (keys ++ k ∷ [])) w i w i f1 f2 r → Follows d s.custom (rest_of_sequence s keys) w i w i f f2 r
        unfolding rest_of_sequence
        sequence_on decides later = on_read (decides_follow (on_next k) decides later)

-- ---- the whole sequence, whose keys are kept where a bound one begins so

module _ {S : Type 0} {d : KnownDisplay S} (s : Situation) (k : KeyEvent) {w : S} {i : Input} {f : KeyFeed} where
  pub sequence_unbegun : s.custom.begins (k ∷ []) ≡ false → Follows d s.custom (key_sequence s k) w i w i f f (Ok (Unbound None))
  unfolding key_sequence
  sequence_unbegun over = needing_follows (s.custom.begins (k ∷ [])) (sequence_over s (k ∷ []) over refl)

  pub sequence_unkept : {e : ReadlineError} → s.custom.begins (k ∷ []) ≡ true → e ≡ Memory → Follows d s.custom (key_sequence s k) w i w i f f (Err e)
  unfolding key_sequence
  sequence_unkept begun is = needed_follows (s.custom.begins (k ∷ [])) (rest_of_sequence s (k ∷ [])) is begun

  pub sequence_begun : {f' : KeyFeed} {r : Result Followed ReadlineError} → Follows d s.custom (rest_of_sequence s (k ∷ [])) w i w i f f' r → Follows d s.custom (key_sequence s k) w i w i f f' r
  unfolding key_sequence
  sequence_begun later = needing_follows (s.custom.begins (k ∷ [])) later
