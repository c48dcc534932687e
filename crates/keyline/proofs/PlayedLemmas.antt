-- A session by options, over all that is said of its keys.
use Rattle.std.proofs.Common.{◌≡◌, ℕ, ◌+◌, ◌<◌, ◌^◌, Bool, false, IsTrue, List, [], ◌∷◌, ◌++◌, Option, refl, sym, ap, subst, ◌∙◌, append-nil, arith, IsErr, IsOk, None, OnOk, Result, Ok, Err, is_err, string_bytes}
use Rattle.line_config.specs.Feed.{AlwaysTold, Feed, fresh_feed}
use Rattle.line_config.specs.Adapters.{to_come}
use Rattle.line_config.specs.declared.config.Config.{Config}
use Rattle.line_config.specs.declared.device.Last.{Last, TheVariants.End}
use Rattle.line_config.specs.declared.errors.ReadlineError.{ReadlineError, TheVariants.Display, TheVariants.Helper, TheVariants.Lines, TheVariants.Memory}
use Rattle.line_keys.specs.KeyFeeds.{Paste}
use Rattle.line_screen.specs.Reader.{byte_ahead_of}
use Rattle.std.specs.Option.{option_len}
use Rattle.keyline.specs.Desks.{DeskReason, GoesShown, desk_feed, session_state_of, work_of}
use Rattle.keyline.specs.Events.{SessionEvent, Takes, Helped, Draws, Hears, Breaks, Keeps, Writes, session}
use Rattle.keyline.specs.SessionEffects.{KnownDevices, CutSessionEvent, SessionReason, WholeOrCut, Work, work}
use Rattle.keyline.specs.Program.{EditsBy, edit_helping, given_with, helper_of, nothing_bound, PlaysBytes, start_by}
use Rattle.keyline.specs.SessionCalls.{loads}
use Rattle.line_screen.specs.ScreenCalls.{screen_of}
use Rattle.keyline.specs.Sessions.{Given, SessionState, each, given_of}
use Rattle.keyline.specs.declared.options.Options.{Options}
use Rattle.keyline.specs.declared.session.Ended.{Ended}
use Rattle.keyline.proofs.OpenedLemmas.{given_as, state_first}

below : (most kept bound n : ℕ) → kept ≡ 0 → bound ≡ most + kept → most < n → bound < n
below most kept bound n none is low = omega arith

-- nothing was read, and all that is said of the reader as it was handed in is left
pub fresh_coming : {R : Type 0} (left : R → List ℕ → List ℕ) (keys reader : R) (unread given : List ℕ) (met : Option Last)
    → reader ≡ keys → unread ≡ [] → given ≡ [] → met ≡ None → unread ++ to_come met (left reader given) ≡ left keys []
fresh_coming left keys reader unread given met same none bare unmet = rw (same, none, bare, unmet) refl

-- nothing was written, and nothing waits
pub fresh_sink : (sent unsent had : List ℕ) → sent ≡ had → unsent ≡ [] → sent ++ unsent ≡ had
fresh_sink sent unsent had same none = rw (same, none) (append-nil had)

-- a call that fails where its device has failed, and marks it so
pub fails_still : {A E : Type 0} (result : Result A E) (before after : Bool) → after ≡ is_err result → (IsTrue before → IsErr result) → IsTrue before → IsTrue after
fails_still result before after is for_good failed = is ∙ for_good failed

-- a flush that was answered left its device working
pub handed_on : {A E P : Type 0} (result : Result A E) (failed : Bool) → failed ≡ is_err result → failed ≡ false → OnOk result P → P
handed_on (Ok x) failed is works p = p
handed_on (Err e) failed is works p = absurd (cc)

-- a device that has failed has failed afterwards
reason_still : (g : Given) (source display display' lines lines' : Bool) (why : ReadlineError) → (IsTrue display → IsTrue display') → (IsTrue lines → IsTrue lines')
    → SessionReason g source display lines why → SessionReason g source display' lines' why
reason_still g source display display' lines lines' Display shows writes r = shows r
reason_still g source display display' lines lines' Lines shows writes r = writes r
reason_still g source display display' lines lines' _ shows writes r = r

-- ---- what goes on devices goes on their bytes

module _ {D L : Type 0} (shown : D → List ℕ) (written_in : L → List ℕ) where
  abbrev in_bytes : Work D L → Work (List ℕ) (List ℕ)
  in_bytes x = work (shown x.display) (written_in x.lines) x.history x.coming

  abbrev seen : List ℕ → List ℕ
  seen bytes = bytes

  stopped_in_bytes : (adds : Bool) (x : Work D L) (event : SessionEvent) (why : ReadlineError) (y : Work D L) → CutSessionEvent shown written_in adds x event why y → CutSessionEvent seen seen adds (in_bytes x) event why (in_bytes y)
  stopped_in_bytes adds x Takes Memory y same = ap in_bytes same
  stopped_in_bytes adds x (Helped fails takes) Helper y (h, same) = (h, ap in_bytes same)
  stopped_in_bytes adds x (Helped fails takes) Memory y (h, same) = (h, ap in_bytes same)
  stopped_in_bytes adds x (Draws marks redraw (bytes ∷ more)) Display y (took, same) = (took, ap in_bytes same)
  stopped_in_bytes adds x (Hears Paste) Memory y (left, same) = (left, ap in_bytes same)
  stopped_in_bytes adds x Breaks Display y (took, same) = (took, ap in_bytes same)
  stopped_in_bytes adds x (Keeps line) Memory y (h, same) = (h, ap in_bytes same)
  stopped_in_bytes adds x (Writes line) Lines y (took, same) = (took, ap in_bytes same)
  stopped_in_bytes adds x _ _ y h = absurd h

  stands_in_bytes : (adds : Bool) (others : List SessionEvent) (at new : Work D L) (Whole : Type 0) (Faulted : ReadlineError → Type 0)
      → WholeOrCut shown written_in adds others at new Whole Faulted → WholeOrCut seen seen adds others (in_bytes at) (in_bytes new) Whole Faulted
  stands_in_bytes adds [] at new Whole Faulted h = (h.0, ap in_bytes h.1)
  stands_in_bytes adds (event ∷ others) at new Whole Faulted h = (h.0, stopped_in_bytes adds at event h.0 new h.1, h.2)

  -- what goes on a display and on a sink of lines that have these bytes
  as_bytes : (adds : Bool) (events : List SessionEvent) (old new : Work D L) (Whole : Type 0) (Faulted : ReadlineError → Type 0) (first before drawn wrote : List ℕ)
      → shown old.display ≡ first → drawn ≡ shown new.display → written_in old.lines ≡ before → wrote ≡ written_in new.lines
      → GoesShown shown written_in adds events old new Whole Faulted
      → GoesShown seen seen adds events (work first before old.history old.coming) (work drawn wrote new.history new.coming) Whole Faulted
  as_bytes adds events old new Whole Faulted first before drawn wrote first_is drawn_is before_is wrote_is goes =
      let w = goes.went in
      rw (sym first_is, sym before_is, drawn_is, wrote_is) (record {
        went = record {
          done = w.done;
          others = w.others;
          split = w.split;
          at = in_bytes w.at;
          are_done = record { drawn = w.are_done.drawn; wrote = w.are_done.wrote; history_is = w.are_done.history_is; left_is = w.are_done.left_is; answered = w.are_done.answered };
          stands = stands_in_bytes adds w.others w.at new Whole Faulted w.stands;
        };
        shows = goes.shows;
      })

module _ {F S D L T : Type 0} (text_of : F → Feed) (k : KnownDevices S D L) (held : T → List ℕ) (failed : T → Bool) where
  pub played : (asked : Bool) (config : Config) (options : Options) (words : Option (List (List ℕ))) (drawn wrote old bytes : List ℕ) (last : Last) (history : F) (source : S) (display : D) (lines : L) (text : T)
      (ended : Ended S D L T) (display' : D) (lines' : L)
      → EditsBy text_of k held failed asked config options words history source display lines text ended → AlwaysTold text_of → text_of history ≡ fresh_feed old End
      → (k.feed source).coming ≡ bytes → (k.feed source).last ≡ last → (k.feed source).bound ≡ 2 ^ 63
      → k.shown display ≡ drawn → k.written_in lines ≡ wrote → held text ≡ []
      → k.shown display' ≡ k.shown ended.display → (IsTrue (k.show_failed ended.display) → IsTrue (k.show_failed display'))
      → k.written_in lines' ≡ k.written_in ended.lines → (IsTrue (k.write_failed ended.lines) → IsTrue (k.write_failed lines'))
      → IsTrue (k.feed ended.source).told → PlaysBytes k held failed asked config options words drawn wrote old bytes last (record ended { display = display'; lines = lines' })
  played asked config options words drawn wrote old bytes last history source display lines text ended display' lines' edits always text_is coming_is last_is bound_is had_drawn had_wrote blank drawn_is shows wrote_is writes agrees =
      let desk = edits.desk in
      let opens = edits.opens in
      let left_desk = edits.runs.last in
      let end = edits.runs.finishes in
      let why = edits.runs.why in
      let g = given_with config nothing_bound options words in
      let start = start_by config old bytes last in
      let given_is : given_of config nothing_bound (string_bytes options.prompt) (screen_of desk.out) (edit_helping desk.helper) ≡ g =
      given_as _ _ _ _ _ _ _ _ _ _ refl refl refl opens.screen opens.helper_is in
      let start_is : session_state_of k desk ≡ start =
      state_first text_of k config history (helper_of config options words) source options.columns display lines desk old bytes last opens always text_is coming_is last_is in
      let bound : (desk_feed k desk).bound ≡ 2 ^ 63 + option_len (byte_ahead_of desk.reader) =
      ap (λ (s : S). (k.feed s).bound + option_len (byte_ahead_of desk.reader)) opens.source_is ∙ ap (λ b. b + option_len (byte_ahead_of desk.reader)) bound_is in
      let left = (desk_feed k left_desk).coming in
      record {
        desk = left_desk;
        why = why;
        display = ended.display;
        lines = ended.lines;
        loaded = subst (λ (f : Feed). IsOk (loads config f)) text_is (opens.loaded.whole always);
        goes = λ n low.
            let went = edits.runs.takes.goes (subst (λ (s : S). IsTrue (k.feed s).told) end.source_is agrees) n (below (2 ^ 63) (option_len (byte_ahead_of desk.reader)) (desk_feed k desk).bound n (ap option_len opens.kept) bound low) in
            let G : Given → SessionState → Type 0 = λ g x.
            let lines = session n g (each g) x in
            GoesShown k.shown k.written_in g.config.auto_add_history lines.events (work_of k desk) (work_of k left_desk) (why ≡ lines.answer) (λ e. why ≡ e) in
            let r = subst (λ (x : SessionState). G g x) start_is (subst (λ (g : Given). G g (session_state_of k desk)) given_is went) in
            let lines = session n g (each g) start in
            let H : SessionState → Type 0 = λ x.
            GoesShown (λ (d : List ℕ). d) (λ (l : List ℕ). l) g.config.auto_add_history lines.events (work drawn wrote x.history x.coming)
            (work (k.shown display') (k.written_in lines') left_desk.history left) (why ≡ lines.answer) (λ e. why ≡ e) in
            subst H start_is
            (as_bytes k.shown k.written_in g.config.auto_add_history lines.events (work_of k desk) (work_of k left_desk) (why ≡ lines.answer) (λ e. why ≡ e)
            drawn wrote (k.shown display') (k.written_in lines')
            (ap k.shown opens.display_is ∙ had_drawn) (drawn_is ∙ ap k.shown end.display_is) (ap k.written_in opens.lines_are ∙ had_wrote) (wrote_is ∙ ap k.written_in end.lines_are) r);
        text = text;
        blank = blank;
        finishes = end;
        reason = reason_still g (k.feed ended.source).failed (k.show_failed ended.display) (k.show_failed display') (k.write_failed ended.lines) (k.write_failed lines')
            why shows writes
            (rw (end.source_is, end.display_is, end.lines_are) (subst (λ (g : Given). DeskReason k g left_desk why) given_is edits.runs.takes.reason));
      }
