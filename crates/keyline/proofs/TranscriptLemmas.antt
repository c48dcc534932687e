-- A session over memory that its keys ended is the definition's.
use Rattle.std.proofs.Common.{◌≡◌, ℕ, ◌+◌, ◌<◌, Bool, true, false, List, [], ◌∷◌, ◌++◌, Option, length, refl, sym, ap, subst, ◌∙◌, append-nil, arith, flat_map}
use Rattle.line_config.specs.Feed.{AlwaysTold, Feed, fresh_feed}
use Rattle.line_config.specs.declared.config.Config.{Config}
use Rattle.line_config.specs.declared.device.Last.TheVariants.{End}
use Rattle.line_config.specs.declared.errors.ReadlineError.{ReadlineError, TheVariants.Eof}
use Rattle.line_config.specs.Sending.{TakesBytes}
use Rattle.line_help.specs.History.{Filed}
use Rattle.line_help.specs.HistoryText.{text_to_save}
use Rattle.line_keys.specs.CustomBindings.{Custom}
use Rattle.line_keys.specs.KeyFeeds.{Paste, bytes_to_come}
use Rattle.line_screen.specs.ScreenCalls.{screen_of}
use Rattle.line_screen.specs.Reader.{byte_ahead_of, bytes_left_in, source_of}
use Rattle.std.specs.Option.{option_len}
use Rattle.line_screen.specs.Reading.{with_kept}
use Rattle.line_screen.proofs.Outcomes.{unread_in}
use Rattle.keyline.specs.Desks.{GoesShown, desk_feed, session_state_of, work_of}
use Rattle.keyline.specs.SessionEffects.{error_of, KnownDevices, AreDone, CutSessionEvent, SavesIf, WholeOrCut, Went, Work, ending_after}
use Rattle.keyline.specs.SessionCalls.{Opens, RunsSession}
use Rattle.keyline.specs.Program.{EditHelper, edit_helping, given_over, start_by}
use Rattle.keyline.specs.Events.{SessionEvent, Takes, Helped, Draws, Hears, Breaks, Keeps, Writes, bytes_drawn, coming_after_events, lines_kept, lines_written, session}
use Rattle.keyline.specs.Sessions.{Given, SessionState, each, given_of, lines_text, history_with_if}
use Rattle.keyline.specs.Shows.{EachShown}
use Rattle.keyline.specs.Transcripts.{Transcribes, is_cut, word_helper}
use Rattle.keyline.specs.declared.desk.Desk.{Desk}
use Rattle.keyline.specs.declared.ending.Ending.{Ending}
use Rattle.keyline.specs.declared.ending.Ending.TheVariants as how
use Rattle.keyline.specs.declared.over_memory.Transcript.{Transcript}
use Rattle.keyline.specs.declared.session.Ended.{Ended}
use Rattle.keyline.proofs.OpenedLemmas.{given_as, state_first}

-- no fault ends a session so
no_fault : {D L : Type 0} (shown : D → List ℕ) (written_in : L → List ℕ) (adds : Bool) (x y : Work D L) (event : SessionEvent) (ending : Ending)
    → is_cut ending ≡ false → CutSessionEvent shown written_in adds x event (error_of ending) y → ⊥
no_fault shown written_in adds x y Takes how.Memory is h = absurd (cc)
no_fault shown written_in adds x y (Helped fails takes) how.Helper is h = absurd (cc)
no_fault shown written_in adds x y (Helped fails takes) how.Memory is h = absurd (cc)
no_fault shown written_in adds x y (Draws marks redraw (bytes ∷ more)) how.Display is h = absurd (cc)
no_fault shown written_in adds x y (Hears Paste) how.Memory is h = absurd (cc)
no_fault shown written_in adds x y Breaks how.Display is h = absurd (cc)
no_fault shown written_in adds x y (Keeps line) how.Memory is h = absurd (cc)
no_fault shown written_in adds x y (Writes line) how.Lines is h = absurd (cc)
no_fault shown written_in adds x y _ _ is h = absurd h

module _ {D L : Type 0} (shown : D → List ℕ) (written_in : L → List ℕ) (adds : Bool) (ending : Ending) (why answer : ReadlineError) (error_is : error_of ending ≡ why) where
  abbrev FaultIs : ReadlineError → Type 0
  FaultIs e = why ≡ e

  none_left : (others : List SessionEvent) (at new : Work D L) → is_cut ending ≡ false → WholeOrCut shown written_in adds others at new (why ≡ answer) FaultIs
      → (others ≡ []) × (why ≡ answer) × (new ≡ at)
  none_left [] at new uncut (is, same) = (refl, is, same)
  none_left (event ∷ others) at new uncut (e, stopped, is) =
      absurd (no_fault shown written_in adds at new event ending uncut
      (subst (λ why. CutSessionEvent shown written_in adds at event why new) (sym (error_is ∙ is)) stopped))

  -- all events were done
  record AllDone (events done : List SessionEvent) (old new : Work D L) : Type 0 where
    pub answer_is : why ≡ answer
    pub done_is : done ≡ events
    pub are_done : AreDone shown written_in adds events old new

  all_done : (events : List SessionEvent) (old new : Work D L) (w : Went shown written_in adds events old new (why ≡ answer) FaultIs)
      → is_cut ending ≡ false → AllDone events w.done old new
  all_done events old new w uncut =
      let left = none_left w.others w.at new uncut w.stands in
      let done_is : w.done ≡ events = sym (w.split ∙ (ap (λ o. w.done ++ o) left.0 ∙ append-nil w.done)) in
      record { answer_is = left.1; done_is = done_is; are_done = rw (← done_is, left.2) w.are_done }

-- a history that was saved isn't why
when_saved : (why : ReadlineError) → ending_after why true ≡ why
when_saved Eof = refl
when_saved _ = refl

module _ {T : Type 0} (held : T → List ℕ) (failed : T → Bool) (kept history' : Filed) (text text' : T) where
  was_saved : (saved : Bool) → SavesIf held failed true kept history' text text' saved → failed text' ≡ false → (saved ≡ true) × TakesBytes held text text' (text_to_save kept)
  was_saved true saves works = (refl, saves.sends.sent)
  was_saved false saves works = absurd (let broken : failed text' ≡ true = saves.sends.err in cc)

no_byte_kept : (kept bound count : ℕ) → kept ≡ 0 → bound ≡ count + kept → bound ≡ count
no_byte_kept kept bound count none is = omega arith

module _ {F S D L T : Type 0} (text_of : F → Feed) (k : KnownDevices S D L) (held : T → List ℕ) (failed : T → Bool) where
  pub transcribed : (config config' : Config) (words : Option (List (List ℕ))) (helper : Option EditHelper) (custom custom' : Custom) (prompt prompt' : List ℕ) (columns : ℕ) (old keys : List ℕ) (history : F) (source : S)
      (display : D) (lines : L) (text text' : T) (desk : Desk S EditHelper D L) (ended : Ended S D L T) (t : Transcript)
      → Opens text_of k.feed config history helper source columns display lines desk
      → RunsSession k held failed true (given_of config' custom' prompt' (screen_of desk.out) (edit_helping desk.helper)) desk text' ended
      → helper ≡ word_helper words → config' ≡ config → custom' ≡ custom → prompt' ≡ prompt → text' ≡ text
      → AlwaysTold text_of → AlwaysTold k.feed → text_of history ≡ fresh_feed old End → k.feed source ≡ fresh_feed keys End
      → k.shown display ≡ [] → k.written_in lines ≡ [] → held text ≡ []
      → is_cut ended.ending ≡ false → failed ended.text ≡ false
      → t.lines.items ≡ k.written_in ended.lines → t.display.items ≡ k.shown ended.display → t.history.items ≡ held ended.text → t.ending ≡ ended.ending
      → t.unread.items ≡ (with_kept ended.ahead (k.feed ended.source)).coming
      → Transcribes (given_over config custom prompt columns (word_helper words)) (start_by config old keys End) keys t
  transcribed config config' words helper custom custom' prompt prompt' columns old keys history source display lines text text' desk ended t opens runs helper_is config_is custom_is prompt_is text_is
      always told text_of_is source_is none bare blank uncut works lines_are display_is history_is ending_is unread_is =
      let g = given_over config custom prompt columns (word_helper words) in
      let start = start_by config old keys End in
      let end = runs.finishes in
      let why = runs.why in
      let last = runs.last in
      let given_is : given_of config' custom' prompt' (screen_of desk.out) (edit_helping desk.helper) ≡ g =
      given_as _ _ _ _ _ _ _ _ _ _ config_is custom_is prompt_is opens.screen (opens.helper_is ∙ helper_is) in
      let state_is : session_state_of k desk ≡ start =
      state_first text_of k config history helper source columns display lines desk old keys End opens always text_of_is (ap (λ (f : Feed). f.coming) source_is) (ap (λ (f : Feed). f.last) source_is) in
      let bound : (desk_feed k desk).bound ≡ length keys =
      no_byte_kept (option_len (byte_ahead_of desk.reader)) (desk_feed k desk).bound (length keys) (ap option_len opens.kept)
      (ap (λ (s : S). (k.feed s).bound + option_len (byte_ahead_of desk.reader)) opens.source_is ∙ ap (λ (f : Feed). f.bound + option_len (byte_ahead_of desk.reader)) source_is) in
      let taken = was_saved held failed last.history ended.history text' ended.text end.saved end.saves works in
      let saved = taken.0 in
      let error_is : error_of ended.ending ≡ why = end.ending_is ∙ (ap (λ s. ending_after why s) saved ∙ when_saved why) in
      let adds = config.auto_add_history in
      let events : ℕ → List SessionEvent = λ n. (session n g (each g) start).events in
      let answer : ℕ → ReadlineError = λ n. (session n g (each g) start).answer in
      let Shown : Given → SessionState → ℕ → Type 0 = λ g x n. GoesShown k.shown k.written_in g.config.auto_add_history (session n g (each g) x).events (work_of k desk) (work_of k last)
      (why ≡ (session n g (each g) x).answer) (λ e. why ≡ e) in
      let goes : (n : ℕ) → length keys < n → Shown g start n = λ n low.
      subst (λ (x : SessionState). Shown g x n) state_is (subst (λ (g : Given). Shown g (session_state_of k desk) n) given_is
      (runs.takes.goes (told (source_of last.reader)) n (subst (λ b. b < n) (sym bound) low))) in
      let whole : (n : ℕ) (low : length keys < n) → AllDone k.shown k.written_in adds ended.ending why (answer n) error_is (events n) (goes n low).went.done (work_of k desk) (work_of k last) = λ n low.
      all_done k.shown k.written_in adds ended.ending why (answer n) error_is (events n) (work_of k desk) (work_of k last) (goes n low).went uncut in
      record {
        shows = λ n low f rests. subst (λ es. EachShown f es) (whole n low).done_is ((goes n low).shows f rests);
        gives = λ n low.
            let all = whole n low in
            let done = all.are_done in
            let kept_is : last.history ≡ history_with_if adds (flat_map lines_kept (events n)) start.history =
            done.history_is ∙ ap (λ (x : SessionState). history_with_if adds (flat_map lines_kept (events n)) x.history) state_is in
            let rest_is : (desk_feed k last).coming ≡ coming_after_events start.coming (events n) =
            done.left_is ∙ ap (λ (x : SessionState). coming_after_events x.coming (events n)) state_is in
            let left : t.unread.items ≡ bytes_left_in k.feed last.reader =
            unread_is ∙ (ap (λ a. (with_kept a (k.feed ended.source)).coming) end.ahead_is ∙ ap (λ (s : S). (with_kept (byte_ahead_of last.reader) (k.feed s)).coming) end.source_is) in
            record {
              lines_are = lines_are ∙ (ap k.written_in end.lines_are ∙ (done.wrote
                  ∙ ap (λ front. front ++ lines_text (flat_map lines_written (events n))) (ap k.written_in opens.lines_are ∙ bare)));
              display_is = display_is ∙ (ap k.shown end.display_is ∙ (done.drawn
                  ∙ ap (λ front. front ++ flat_map bytes_drawn (events n)) (ap k.shown opens.display_is ∙ none)));
              history_is = history_is ∙ (taken.1
                  ∙ (ap (λ front. front ++ text_to_save last.history) (ap held text_is ∙ blank) ∙ ap text_to_save kept_is));
              ending_is = ap error_of ending_is ∙ (error_is ∙ all.answer_is);
              unread_is = left ∙ (sym (unread_in k.feed last.reader) ∙ ap bytes_to_come rest_is);
            };
      }
