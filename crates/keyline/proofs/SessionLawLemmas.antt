-- What columns matter to, and what a history holds.
use Rattle.std.proofs.Common.{◌≡◌, ℕ, zero, suc, ◌≤◌, Bool, true, false, List, [], ◌∷◌, ◌++◌, length, map, Option, None, Result, Ok, Err, refl, sym, ap, ap₂, ◌∙◌, subst, append_assoc, append-nil, arith, flat_map, ◌+◌, min, if◌then◌else◌}
use Rattle.std.proofs.lemmas.List.{map-append}
use Rattle.line_buffer.specs.declared.layout.Layout.{Layout}
use Rattle.line_buffer.specs.declared.layout.TabStops.{TabStops}
use Rattle.line_config.specs.declared.errors.ReadlineError.{ReadlineError}
use Rattle.line_editor.specs.LineScripts.{LineAsk, LineState, effect_at, left_at, steps_along, played_from, line_script}
use Rattle.line_editor.specs.Redraws.{fresh}
use Rattle.line_editor.specs.LineRun.{first_line_state}
use Rattle.line_editor.specs.EditSteps.{one, calls_of_steps}
use Rattle.line_editor.specs.Values.{EditStep, Setting, shown_marks}
use Rattle.line_editor.specs.Values.EditStep.{Draws as DrawStep, Helped as HelpStep}
use Rattle.line_help.specs.History.{Filed, nothing_filed, ignores_line, history_with_lines, newest, entries_after}
use Rattle.line_help.proofs.NewestLemmas.{all_new, length-newest, newest_behind}
use Rattle.line_screen.specs.ScreenCalls.{Screen, ruler_of}
use Rattle.keyline.specs.Events.{Course, Begins, Takes, Helped, Draws, asks_events, end_events, events_first, course_after_line, line_course, lines_kept, own_events, session, step_events}
use Rattle.keyline.specs.SessionLaws.{at_columns, prompt_column, event_without_columns, ColumnsAreFree, lines_taken, LastAreKept}
use Rattle.keyline.specs.Sessions.{Given, SessionState, each, history_after, setting_in, state_at}

-- ---- columns

module _ (s t : Screen) where
  -- whatever is kept of the drawing
  step_alike : (l m : Layout) (rs : List EditStep) → map event_without_columns (step_events s l rs) ≡ map event_without_columns (step_events t m rs)
  step_alike l m [] = refl
  step_alike l m (DrawStep v marks redraw ∷ rs) = ap (λ events. Draws (shown_marks v marks) redraw [] ∷ events) (step_alike (one (ruler_of s) l (DrawStep v marks redraw)).layout (one (ruler_of t) m (DrawStep v marks redraw)).layout rs)
  step_alike l m (HelpStep v fails takes ∷ rs) = ap (λ events. Helped fails takes ∷ events) (step_alike l m rs)
  step_alike l m (_ ∷ rs) = ap (λ events. Takes ∷ events) (step_alike l m rs)

  asks_alike : (a : Setting) (l m : Layout) (k : LineState) (asks : List LineAsk) → map event_without_columns (asks_events s a l k asks) ≡ map event_without_columns (asks_events t a m k asks)
  asks_alike a l m k [] = refl
  asks_alike a l m k (ask ∷ asks) =
      let rs = (effect_at a k ask).steps in
      let left = left_at a k ask in
      let rest = asks_alike a (calls_of_steps (ruler_of s) l rs).layout (calls_of_steps (ruler_of t) m rs).layout left asks in
      simp map-append (ap₂ (λ first rest. first ++ (map event_without_columns (own_events a k ask) ++ rest)) (step_alike l m rs) rest)

-- where tabs end on its rows
abbrev tabs_of : Given → Option TabStops
tabs_of g = (ruler_of g.screen).tabs

abbrev tabbed : Given → Option ℕ → Given
tabbed g tab = record g { screen = record g.screen { tab = tab } }

setting_at : Given → List (List ℕ) → ℕ → Option TabStops → Setting
setting_at g entries column tabs = record (setting_in g entries) { column = column; tabs = tabs }

-- where no tab is drawn as blanks, none ends anywhere on rows of other columns
untabbed : (g : Given) (columns : ℕ) → g.screen.tab ≡ None → tabs_of (at_columns columns g) ≡ tabs_of g
untabbed g columns none = ap (λ tab. tabs_of (at_columns columns (tabbed g tab))) none ∙ ap (λ tab. tabs_of (tabbed g tab)) (sym none)

-- a line on one screen and on another, by one setting
abbrev course_on : ℕ → Given → SessionState → Screen → Setting → Course (Result (List ℕ) ReadlineError × SessionState)
course_on n g x s a =
    let k = first_line_state a x.ring x.query x.coming in
    let p = played_from a (line_script n g.custom) (first_line_state a x.ring x.query x.coming) in
    record {
      events = Begins s ∷ (asks_events s a (fresh s.mode) k p.asks ++ end_events p.answer);
      answer = (p.answer, state_at p.rest.ring p.rest.modal.query (history_after g.config.auto_add_history p.answer x.history) p.rest.coming);
    }

record Alike {X : Type 0} (c d : Course X) : Type 0 where
  events : map event_without_columns c.events ≡ map event_without_columns d.events
  answer : c.answer ≡ d.answer

lines_alike : (n : ℕ) (g : Given) (x : SessionState) (columns : ℕ) → tabs_of (at_columns columns g) ≡ tabs_of g → prompt_column (at_columns columns g) ≡ prompt_column g → Alike (line_course n (at_columns columns g) x) (line_course n g x)
unfolding setting_at
lines_alike n g x columns t e =
    let other = at_columns columns g in
    let s = other.screen in
    let entries = x.history.kept.entries in
    let a = setting_in g entries in
    let p = played_from a (line_script n g.custom) (first_line_state a x.ring x.query x.coming) in
    let k = first_line_state a x.ring x.query x.coming in
    let same : line_course n other x ≡ course_on n g x s a =
    ap (λ column. course_on n g x s (setting_at g entries column (tabs_of other))) e
    ∙ ap (λ tabs. course_on n g x s (setting_at g entries (prompt_column g) tabs)) t in
    let alike : Alike (course_on n g x s a) (line_course n g x) = record {
      events = simp map-append (ap (λ events. Begins (record s { columns = 0 }) ∷ (events ++ map event_without_columns (end_events p.answer)))
          (asks_alike s g.screen a (fresh s.mode) (fresh g.screen.mode) k p.asks));
      answer = refl;
    } in
    subst (λ c. Alike c (line_course n g x)) (sym same) alike

-- a line, and what comes after it
line_first : (c d : Course (Result (List ℕ) ReadlineError × SessionState)) (f h : SessionState → Course ReadlineError) → Alike c d → ((x : SessionState) → Alike (f x) (h x))
    → Alike (events_first c.events (course_after_line f c.answer)) (events_first d.events (course_after_line h d.answer))
line_first c d f h alike so =
    subst (λ answer. Alike (events_first c.events (course_after_line f c.answer)) (events_first d.events (course_after_line h answer))) alike.answer (by c.answer.0)
  where
    first : (one other : Course ReadlineError) → Alike one other → Alike (events_first c.events one) (events_first d.events other)
    first one other is = record { events = simp map-append (ap₂ (λ first rest. first ++ rest) alike.events is.events); answer = is.answer }

    by : (o : Result (List ℕ) ReadlineError)
        → Alike (events_first c.events (course_after_line f (o, c.answer.1))) (events_first d.events (course_after_line h (o, c.answer.1)))
    by (Ok text) = first (f c.answer.1) (h c.answer.1) (so c.answer.1)
    by (Err e) = first (record { events = []; answer = e }) (record { events = []; answer = e }) (record { events = refl; answer = refl })

sessions_alike : (n : ℕ) (g : Given) (columns : ℕ) → tabs_of (at_columns columns g) ≡ tabs_of g → prompt_column (at_columns columns g) ≡ prompt_column g → (x : SessionState)
    → (let other = at_columns columns g in Alike (session n other (each other) x) (session n g (each g) x))
unfolding session
sessions_alike zero g columns t e x = record { events = refl; answer = refl }
sessions_alike (suc n) g columns t e x =
    let other = at_columns columns g in
    line_first (line_course (suc n) other x) (line_course (suc n) g x) (session n other (each other)) (session n g (each g)) (lines_alike (suc n) g x columns t e) (sessions_alike n g columns t e)

pub columns_are_free : ColumnsAreFree
unfolding setting_at
columns_are_free n g x columns none e =
    let h = sessions_alike n g columns (untabbed g columns none) e x in
    let at : ℕ → Option TabStops → Setting = setting_at g x.history.kept.entries in
    let own = prompt_column g in
    let tabs = tabs_of (at_columns columns g) in
    let t = untabbed g columns none in
    let first : Setting → LineState = λ a. first_line_state a x.ring x.query x.coming in
    let played = λ (a : Setting). played_from a (line_script n g.custom) (first_line_state a x.ring x.query x.coming) in
    let stepped = λ (a : Setting). steps_along a (first a) (played a).asks in (
      h.events,
      h.answer,
      ap (λ column. played (at column tabs)) e ∙ ap (λ tabs. played (at own tabs)) t,
      ap (λ column. stepped (at column tabs)) e ∙ ap (λ tabs. stepped (at own tabs)) t,
    )

-- ---- the history

small_after : (n : ℕ) (entries : List (List ℕ)) → length (newest n entries) ≤ n
small_after n entries = let e = length-newest n entries in omega arith

kept_from : (lines : List (List ℕ)) (filed : Filed) → length filed.kept.entries ≤ filed.kept.settings.max_len
    → (history_with_lines filed lines).kept.entries ≡ newest filed.kept.settings.max_len (filed.kept.entries ++ lines_taken filed lines)
kept_from [] filed few = sym (ap (newest filed.kept.settings.max_len) (append-nil filed.kept.entries) ∙ all_new filed.kept.settings.max_len filed.kept.entries few)
kept_from (line ∷ lines) filed few = by_test (ignores_line filed.kept.settings filed.kept.entries line) (kept_from lines)
  where
    max : ℕ
    max = filed.kept.settings.max_len

    entries : List (List ℕ)
    entries = filed.kept.entries

    next : Bool → Filed
    next b = record {
      kept = record { entries = if b then entries else newest max (entries ++ line ∷ []); settings = filed.kept.settings };
      unsaved = if ignores_line filed.kept.settings entries line then filed.unsaved
          else min (filed.unsaved + 1) (length (entries_after filed.kept.settings entries line));
    }

    by_test : (b : Bool)
        → ((f : Filed) → length f.kept.entries ≤ f.kept.settings.max_len → (history_with_lines f lines).kept.entries ≡ newest f.kept.settings.max_len (f.kept.entries ++ lines_taken f lines))
        → (history_with_lines (next b) lines).kept.entries ≡ newest max (entries ++ (if b then lines_taken (next b) lines else line ∷ lines_taken (next b) lines))
    by_test true rest = rest (next true) few
    by_test false rest =
        rest (next false) (small_after max (entries ++ line ∷ []))
        ∙ newest_behind max (entries ++ line ∷ []) (lines_taken (next false) lines)
        ∙ ap (newest max) (append_assoc entries (line ∷ []) (lines_taken (next false) lines))

pub last_are_kept : LastAreKept
last_are_kept n g at x settings = kept_from (flat_map lines_kept (session n g at x).events) (nothing_filed settings) (omega arith)
