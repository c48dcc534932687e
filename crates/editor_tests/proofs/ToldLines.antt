-- The lines of a session that ended at the end of its keys, which are known.
use Rattle.std.proofs.Common.{◌≡◌, ℕ, ◌<◌, ◌^◌, Bool, true, false, IsTrue, not, List, [], ◌∷◌, ◌++◌, Option, None, Some, refl, sym, ap, subst, ◌∙◌, append-nil}
use Rattle.std.specs.List.{flat_map}
use Rattle.line_config.specs.Foretold.{is_failed}
use Rattle.line_config.specs.declared.device.Last.{Last}
use Rattle.line_config.specs.declared.device.Last.TheVariants.{End, Failed}
use Rattle.line_config.specs.declared.errors.ReadlineError.{ReadlineError}
use Rattle.line_config.specs.declared.errors.ReadlineError.TheVariants.{Eof, Interrupted, NotUtf8, PasteOutOfPlace, Reader, Display, Lines, HistoryText, Helper, Handler, Memory}
use Rattle.line_keys.specs.KeyFeeds.{Key, Paste}
use Rattle.line_screen.specs.Reader.{coming_in}
use Rattle.keyline.specs.SessionEffects.{error_of}
use Rattle.keyline.specs.Events.{SessionEvent, Begins, Takes, Helped, Draws, Hears, Rests, Breaks, Keeps, Writes, lines_written, session}
use Rattle.keyline.specs.SessionEffects.{KnownDevices, AreDone, CutSessionEvent, WholeOrCut, Went, Work, ending_after, work}
use Rattle.keyline.specs.Program.{PlaysBytes, config_of, given_with, nothing_bound, start_by}
use Rattle.keyline.specs.Sessions.{each, lines_text}
use Rattle.keyline.specs.declared.ending.Ending.{Ending}
use Rattle.keyline.specs.declared.ending.Ending.TheVariants as how
use Rattle.keyline.specs.declared.options.Options.{Options}
use Rattle.keyline.specs.declared.session.Ended.{Ended}

-- only the end of the input ends a session so
eof_alone : (why : ReadlineError) (saved : Bool) → ending_after why saved ≡ Eof → why ≡ Eof
eof_alone Eof saved is = refl
eof_alone Interrupted true is = absurd (cc)
eof_alone Interrupted false is = absurd (cc)
eof_alone NotUtf8 true is = absurd (cc)
eof_alone NotUtf8 false is = absurd (cc)
eof_alone PasteOutOfPlace true is = absurd (cc)
eof_alone PasteOutOfPlace false is = absurd (cc)
eof_alone Reader saved is = absurd (cc)
eof_alone Display saved is = absurd (cc)
eof_alone Lines saved is = absurd (cc)
eof_alone HistoryText saved is = absurd (cc)
eof_alone Helper saved is = absurd (cc)
eof_alone Handler saved is = absurd (cc)
eof_alone Memory saved is = absurd (cc)

pub works_where : (met : Option Last) → is_failed met ≡ false → IsTrue (not (is_failed met))
works_where met is = ap not is

module _ {D L : Type 0} (shown : D → List ℕ) (written_in : L → List ℕ) (adds : Bool) where
  -- and it stops no event
  no_fault : (x y : Work D L) (event : SessionEvent) → CutSessionEvent shown written_in adds x event Eof y → ⊥
  no_fault x y (Begins screen) h = h
  no_fault x y Takes h = h
  no_fault x y (Helped fails takes) h = h
  no_fault x y (Draws marks redraw []) h = h
  no_fault x y (Draws marks redraw (bytes ∷ more)) h = h
  no_fault x y (Hears Key) h = h
  no_fault x y (Hears Paste) h = h
  no_fault x y (Rests marks given prompt text place) h = h
  no_fault x y Breaks h = h
  no_fault x y (Keeps line) h = h
  no_fault x y (Writes line) h = h

  -- so all events were done, and their lines were written
  all_written : (events : List SessionEvent) (old new : Work D L) (why : ReadlineError) (Whole : Type 0) → why ≡ Eof → written_in old.lines ≡ []
      → Went shown written_in adds events old new Whole (λ e. why ≡ e) → written_in new.lines ≡ lines_text (flat_map lines_written events)
  all_written events old new why Whole is bare went = by went.others went.split went.stands
    where
      by : (others : List SessionEvent) → events ≡ went.done ++ others → WholeOrCut shown written_in adds others went.at new Whole (λ e. why ≡ e)
          → written_in new.lines ≡ lines_text (flat_map lines_written events)
      by [] split stands =
          ap (λ (x : Work D L). written_in x.lines) stands.1 ∙ went.are_done.wrote
          ∙ ap (λ front. front ++ lines_text (flat_map lines_written went.done)) bare
          ∙ ap (λ es. lines_text (flat_map lines_written es)) (sym (split ∙ append-nil went.done))
      by (event ∷ others) split stands =
          let Stopped : ReadlineError → Type 0 = λ e. CutSessionEvent shown written_in adds went.at event e new in
          absurd (no_fault went.at new event (subst Stopped (sym stands.2 ∙ is) stands.1))

pub lines_by : {S D L T : Type 0} (known : KnownDevices S D L) (held : T → List ℕ) (failed : T → Bool) (options : Options) (words : Option (List (List ℕ))) (old bytes : List ℕ) (last : Last)
    (ended : Ended S D L T) → PlaysBytes known held failed true (config_of options) options words [] [] old bytes last ended → ended.ending ≡ how.Eof → (n : ℕ) → 2 ^ 63 < n
    → (let g = given_with (config_of options) nothing_bound options words in
    known.written_in ended.lines ≡ lines_text (flat_map lines_written (session n g (each g) (start_by (config_of options) old bytes last)).events))
lines_by known held failed options words old bytes last ended p is n low =
    let g = given_with (config_of options) nothing_bound options words in
    let start = start_by (config_of options) old bytes last in
    let lines = session n g (each g) start in
    let then_left = work (known.shown ended.display) (known.written_in ended.lines) p.desk.history (coming_in known.feed p.desk.reader) in
    all_written (λ (d : List ℕ). d) (λ (l : List ℕ). l) g.config.auto_add_history lines.events (work [] [] start.history start.coming) then_left p.why
    (p.why ≡ lines.answer) (eof_alone p.why p.finishes.saved (sym p.finishes.ending_is ∙ ap error_of is)) refl (p.goes n low).went
