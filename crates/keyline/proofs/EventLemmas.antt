-- What events that were done come to; and a line's asks as events, done and stopped.
use Rattle.std.proofs.Common.{◌≡◌, ℕ, Bool, true, false, List, [], ◌∷◌, ◌++◌, inl, inr, ◌⊎◌, refl, sym, ap, ap₂, ◌∙◌, subst, append-nil, append_assoc, Result, Err}
use Rattle.std.specs.List.{FoldsTo, flat_map}
use Rattle.std.specs.Prelude.{⊤, map}
use Rattle.std.proofs.lemmas.Grind.{flat_map-append}
use Rattle.line_buffer.specs.declared.layout.Layout.{Layout}
use Rattle.script.specs.Scripts.{Goes as GoesOn}
use Rattle.line_config.specs.Sending.{TakesBytes, TakesSome}
use Rattle.line_config.specs.declared.errors.ReadlineError.{ReadlineError, TheVariants.Display, TheVariants.Helper, TheVariants.Memory}
use Rattle.line_config.proofs.Taking.{takes_none, takes_then, some_of_more, some_then}
use Rattle.line_help.specs.History.{Filed, history_with_line, history_with_lines}
use Rattle.line_keys.specs.KeyFeeds.{InputItem, IsReadFault, Paste, behind, Coming, coming_after_error}
use Rattle.line_keys.specs.PhraseScripts.{Reads}
use Rattle.line_editor.specs.RenderCalls.{Call, Canvas, MadeIn, CutCall, CutCalls, Call.Help}
use Rattle.line_editor.specs.LineScripts.{CutLineAsk, Keys, LineAsk, LineScript, LineStage, LineState, Obeys, Stopped, effect_at, left_at, line_world, line_stage, played_from, steps_along}
use Rattle.line_editor.specs.Redraws.{RedrawCalls, calls_of_redraw}
use Rattle.line_editor.specs.States.{reason_of}
use Rattle.line_editor.specs.EditSteps.{calls_of_steps, one, surface, Surface, CutStep, CutHelp, CutEditSteps as StepsStop}
use Rattle.line_editor.specs.Values.{Value, Setting, EditStep, shown_marks}
use Rattle.line_editor.specs.Values.EditStep.{Draws as DrawStep, Helped as HelpStep}
use Rattle.line_editor.proofs.StopsLemmas.{asked_both, folds_apart}
use Rattle.line_editor.proofs.ToldLemmas.{AllDone, StoppedIn, left_along, rest_along, stopped_cause, went}
use Rattle.line_screen.specs.ScreenCalls.{Screen, bytes_of, canvas_of, ruler_of, screen_of, sink_of}
use Rattle.line_screen.specs.declared.renderer.ScreenRenderer.{ScreenRenderer}
use Rattle.line_screen.proofs.CallLemmas.{sent_in_all}
use Rattle.keyline.specs.Events.{SessionEvent, Takes, Helped, Draws, Hears, AllAnswered, asks_events, bytes_drawn, coming_after_events, lines_kept, lines_written, own_events, step_event, step_events}
use Rattle.keyline.specs.SessionEffects.{AreDone, CutSessionEvent, WholeOrCut, Went, Work, work}
use Rattle.keyline.specs.Sessions.{line_text, lines_text, history_with_if}
use Rattle.keyline.proofs.ShowCourse.{all_of_map}

-- ---- events, some after others

pub left_both : (c : Coming) (xs ys : List SessionEvent) → coming_after_events c (xs ++ ys) ≡ coming_after_events (coming_after_events c xs) ys
left_both c [] ys = refl
left_both c (Hears item ∷ xs) ys = left_both (behind item c) xs ys
left_both c (_ ∷ xs) ys = left_both c xs ys

answered_both : (xs ys : List SessionEvent) → AllAnswered xs → AllAnswered ys → AllAnswered (xs ++ ys)
answered_both [] ys h k = k
answered_both (Helped fails takes ∷ xs) ys h k = (h.0, answered_both xs ys h.1 k)
answered_both (_ ∷ xs) ys h k = answered_both xs ys h k

-- ---- the history

filed_both : (h : Filed) (xs ys : List (List ℕ)) → history_with_lines h (xs ++ ys) ≡ history_with_lines (history_with_lines h xs) ys
filed_both h [] ys = refl
filed_both h (x ∷ xs) ys = filed_both (history_with_line h x) xs ys

remembered_both : (adds : Bool) (xs ys : List (List ℕ)) (h : Filed) → history_with_if adds (xs ++ ys) h ≡ history_with_if adds ys (history_with_if adds xs h)
remembered_both true xs ys h = filed_both h xs ys
remembered_both false xs ys h = refl

pub remembered_none : (adds : Bool) (h : Filed) → history_with_if adds [] h ≡ h
remembered_none true h = refl
remembered_none false h = refl

-- ---- what a line's events come to

module _ (s : Screen) where
  abbrev drawn_in : List SessionEvent → List ℕ
  drawn_in events = flat_map bytes_drawn events

  step_bytes : (l : Layout) (rs : List EditStep) → drawn_in (step_events s l rs) ≡ flat_map (bytes_of s) (calls_of_steps (ruler_of s) l rs).calls
  step_bytes l [] = refl
  step_bytes l (DrawStep v marks redraw ∷ rs) =
      let a = calls_of_redraw (ruler_of s) (shown_marks v marks) l redraw in
      simp flat_map-append (ap₂ (λ first rest. first ++ rest) (all_of_map (bytes_of s) a.calls) (step_bytes a.layout rs))
  step_bytes l (_ ∷ rs) = step_bytes l rs

  -- no step keeps, writes or reads anything
  step_quiet : (c : Coming) (l : Layout) (rs : List EditStep)
      → (let events = step_events s l rs in (flat_map lines_kept events ≡ []) × (flat_map lines_written events ≡ []) × (coming_after_events c events ≡ c))
  step_quiet c l [] = (refl, refl, refl)
  step_quiet c l (DrawStep v marks redraw ∷ rs) = step_quiet c (calls_of_redraw (ruler_of s) (shown_marks v marks) l redraw).layout rs
  step_quiet c l (_ ∷ rs) = step_quiet c l rs

  module _ (a : Setting) where
    own_bytes : (k : LineState) (ask : LineAsk) → drawn_in (own_events a k ask) ≡ []
    own_bytes k (Keys (Reads item)) = refl
    own_bytes k _ = refl

    pub asks_bytes : (l : Layout) (k : LineState) (asks : List LineAsk) → drawn_in (asks_events s a l k asks) ≡ flat_map (bytes_of s) (calls_of_steps (ruler_of s) l (steps_along a k asks)).calls
    asks_bytes l k [] = refl
    asks_bytes l k (ask ∷ asks) =
        let rs = (effect_at a k ask).steps in
        let left = left_at a k ask in
        let more = asks_bytes (calls_of_steps (ruler_of s) l rs).layout left asks in
        rw (asked_both (ruler_of s) l rs (steps_along a left asks))
        (simp (flat_map-append, own_bytes) (ap₂ (λ first rest. first ++ rest) (step_bytes l rs) more))

    -- the events of some asks, and of those after them
    pub asks_both : (l : Layout) (k : LineState) (xs ys : List LineAsk)
        → asks_events s a l k (xs ++ ys) ≡ asks_events s a l k xs ++ asks_events s a (calls_of_steps (ruler_of s) l (steps_along a k xs)).layout (left_along a k xs) ys
    asks_both l k [] ys = refl
    asks_both l k (ask ∷ xs) ys =
        let rs = (effect_at a k ask).steps in
        let left = left_at a k ask in
        let m = (calls_of_steps (ruler_of s) l rs).layout in
        rw (asks_both m left xs ys, asked_both (ruler_of s) l rs (steps_along a left xs)) (simp append_assoc)

-- ---- on devices

module _ {D L : Type 0} {shown : D → List ℕ} {written_in : L → List ℕ} {adds : Bool} where
  pub none_done : (s : Work D L) → AreDone shown written_in adds [] s s
  none_done s = record { drawn = takes_none shown s.display s.display refl; wrote = takes_none written_in s.lines s.lines refl; history_is = sym (remembered_none adds s.history); left_is = refl; answered = tt }

  pub done_both : {xs ys : List SessionEvent} {s m t : Work D L} → AreDone shown written_in adds xs s m → AreDone shown written_in adds ys m t → AreDone shown written_in adds (xs ++ ys) s t
  done_both {xs} {ys} {s} {m} {t} d r = record {
    drawn = rw (flat_map-append bytes_drawn xs ys)
        (takes_then shown s.display m.display t.display (flat_map bytes_drawn xs) (flat_map bytes_drawn ys) d.drawn r.drawn);
    wrote = rw (flat_map-append lines_written xs ys, flat_map-append line_text (flat_map lines_written xs) (flat_map lines_written ys))
        (takes_then written_in s.lines m.lines t.lines (lines_text (flat_map lines_written xs)) (lines_text (flat_map lines_written ys)) d.wrote r.wrote);
    history_is = rw (flat_map-append lines_kept xs ys, remembered_both adds (flat_map lines_kept xs) (flat_map lines_kept ys) s.history)
        (r.history_is ∙ ap (history_with_if adds (flat_map lines_kept ys)) d.history_is);
    left_is = r.left_is ∙ (ap (λ here. coming_after_events here ys) d.left_is ∙ sym (left_both s.coming xs ys));
    answered = answered_both xs ys d.answered r.answered;
  }

  -- ---- all that goes, or what a fault stopped

  pub went_whole : {W : Type 0} {F : ReadlineError → Type 0} {events : List SessionEvent} {s t : Work D L} → AreDone shown written_in adds events s t → W → Went shown written_in adds events s t W F
  went_whole {events = events} {t = t} d w = record { done = events; others = []; split = sym (append-nil events); at = t; are_done = d; stands = (w, refl) }

  module _ {F : ReadlineError → Type 0} {s t : Work D L} where
    pub went_stopped : {W : Type 0} {done : List SessionEvent} {at : Work D L} (event : SessionEvent) (others : List SessionEvent) (why : ReadlineError) → AreDone shown written_in adds done s at
        → CutSessionEvent shown written_in adds at event why t → F why → Went shown written_in adds (done ++ (event ∷ others)) s t W F
    went_stopped {done = done} {at = at} event others why d stops f = record { done = done; others = event ∷ others; split = refl; at = at; are_done = d; stands = (why, stops, f) }

    -- it was all of them, or a fault stopped one
    pub went_cases : {W P : Type 0} {events : List SessionEvent} → Went shown written_in adds events s t W F → (AreDone shown written_in adds events s t → W → P) → (Went shown written_in adds events s t ⊥ F → P) → P
    went_cases {W} {P} {events} w whole cut = by w.others w.split w.stands
      where
        by : (others : List SessionEvent) → events ≡ w.done ++ others → WholeOrCut shown written_in adds others w.at t W F → P
        by [] split stands = whole (rw (split, append-nil w.done, stands.1) w.are_done) stands.0
        by (event ∷ others) split stands = cut (record { done = w.done; others = event ∷ others; split = split; at = w.at; are_done = w.are_done; stands = stands })

    -- behind others that were done
    pub went_behind : {W : Type 0} {xs ys : List SessionEvent} {m : Work D L} → AreDone shown written_in adds xs s m → Went shown written_in adds ys m t W F → Went shown written_in adds (xs ++ ys) s t W F
    went_behind {xs = xs} d w = record {
      done = xs ++ w.done;
      others = w.others;
      split = ap (λ zs. xs ++ zs) w.split ∙ sym (append_assoc xs w.done w.others);
      at = w.at;
      are_done = done_both d w.are_done;
      stands = w.stands;
    }

    -- a fault stopped one, so those after it were not done
    pub went_before : {W : Type 0} {xs : List SessionEvent} (ys : List SessionEvent) → Went shown written_in adds xs s t ⊥ F → Went shown written_in adds (xs ++ ys) s t W F
    went_before {W} {xs} ys w = by w.others w.split w.stands
      where
        by : (others : List SessionEvent) → xs ≡ w.done ++ others → WholeOrCut shown written_in adds others w.at t ⊥ F → Went shown written_in adds (xs ++ ys) s t W F
        by [] split stands = absurd (stands.0)
        by (event ∷ others) split stands =
            subst (λ zs. Went shown written_in adds zs s t W F) (sym (ap (λ zs. zs ++ ys) split ∙ append_assoc w.done (event ∷ others) ys))
            (went_stopped event (others ++ ys) stands.0 w.are_done stands.1 stands.2)

    pub went_not_whole : {W : Type 0} {events : List SessionEvent} → Went shown written_in adds events s t ⊥ F → Went shown written_in adds events s t W F
    went_not_whole {W} {events} w = subst (λ zs. Went shown written_in adds zs s t W F) (append-nil events) (went_before [] w)

    -- for another reason
    pub went_so : {G : ReadlineError → Type 0} {events : List SessionEvent} → ((e : ReadlineError) → F e → G e) → Went shown written_in adds events s t ⊥ F → Went shown written_in adds events s t ⊥ G
    went_so {G} so w = record { done = w.done; others = w.others; split = w.split; at = w.at; are_done = w.are_done; stands = by w.others w.stands }
      where
        by : (others : List SessionEvent) → WholeOrCut shown written_in adds others w.at t ⊥ F → WholeOrCut shown written_in adds others w.at t ⊥ G
        by [] stands = absurd (stands.0)
        by (event ∷ others) stands = (stands.0, stands.1, so stands.0 stands.2)

    -- no fault can have stopped one
    pub went_not : {P : Type 0} {events : List SessionEvent} → ((e : ReadlineError) → F e → P) → Went shown written_in adds events s t ⊥ F → P
    went_not {P} never w = by w.others w.stands
      where
        by : (others : List SessionEvent) → WholeOrCut shown written_in adds others w.at t ⊥ F → P
        by [] stands = absurd (stands.0)
        by (event ∷ others) stands = never stands.0 stands.2

module _ {D L : Type 0} (shown : D → List ℕ) (written_in : L → List ℕ) (adds : Bool) where
  abbrev Sums : List SessionEvent → Work D L → Work D L → Type 0
  Sums events old new = AreDone shown written_in adds events old new

  -- a fault stopped one of these
  abbrev pub Broken : List SessionEvent → Work D L → ReadlineError → Work D L → Type 0
  Broken events s why t = Went shown written_in adds events s t ⊥ (λ e. e ≡ why)

  -- ---- a line's calls on a screen; lines and history stay

  module _ (lines : L) (history : Filed) (waits : D → List ℕ) (show_failed : D → Bool) (s : Screen) where
    abbrev canvas : Canvas (ScreenRenderer D)
    canvas = canvas_of shown waits show_failed

    abbrev pub on : ScreenRenderer D → Coming → Work D L
    on out coming = work (sink_of out) lines history coming

    abbrev Drawn : List Call → ScreenRenderer D → ScreenRenderer D → Type 0
    Drawn calls a b = FoldsTo (MadeIn canvas) a calls b

    screen_kept : (calls : List Call) (a b : ScreenRenderer D) → screen_of a ≡ s → Drawn calls a b → screen_of b ≡ s
    screen_kept calls a b is made = (sent_in_all shown waits show_failed calls a b made).screen ∙ is

    calls_sent : (calls : List Call) (a b : ScreenRenderer D) → screen_of a ≡ s → Drawn calls a b → TakesBytes shown (sink_of a) (sink_of b) (flat_map (bytes_of s) calls)
    calls_sent calls a b is made =
        let P : Screen → Type 0 = λ s. TakesBytes shown (sink_of a) (sink_of b) (flat_map (bytes_of s) calls) in
        subst P is (sent_in_all shown waits show_failed calls a b made).takes

    call_breaks : (call : Call) (a b : ScreenRenderer D) → screen_of a ≡ s → CutCall canvas a call b → TakesSome shown (sink_of a) (sink_of b) (bytes_of s call)
    call_breaks (Help fails) a b is h = absurd h
    call_breaks call a b is h = let P : Screen → Type 0 = λ s. TakesSome shown (sink_of a) (sink_of b) (bytes_of s call) in subst P is h.begins

    calls_break : (calls : List Call) (a b : ScreenRenderer D) → screen_of a ≡ s → CutCalls canvas calls a b → TakesSome shown (sink_of a) (sink_of b) (flat_map (bytes_of s) calls)
    unfolding CutCalls
    calls_break [] a b is h = absurd h
    calls_break (call ∷ calls) a b is (inl h) = some_of_more shown (sink_of a) (sink_of b) (bytes_of s call) (flat_map (bytes_of s) calls) (call_breaks call a b is h)
    calls_break (call ∷ calls) a b is (inr (m, made, h)) =
        let took = subst (TakesBytes shown (sink_of a) (sink_of m)) (append-nil (bytes_of s call)) (calls_sent (call ∷ []) a m is (m, made, refl)) in
        some_then shown (sink_of a) (sink_of m) (sink_of b) (bytes_of s call) (flat_map (bytes_of s) calls) took (calls_break calls m b (screen_kept (call ∷ []) a m is (m, made, refl)) h)

    steps_answered : (l : Layout) (rs : List EditStep) (a b : ScreenRenderer D) → Drawn (calls_of_steps (ruler_of s) l rs).calls a b → AllAnswered (step_events s l rs)
    steps_answered l [] a b made = tt
    steps_answered l (DrawStep v marks redraw ∷ rs) a b made =
        let x = calls_of_redraw (ruler_of s) (shown_marks v marks) l redraw in
        let parts = folds_apart (MadeIn canvas) x.calls (calls_of_steps (ruler_of s) x.layout rs).calls a b made in
        steps_answered x.layout rs parts.0 b parts.2
    steps_answered l (HelpStep v fails takes ∷ rs) a b made = (made.1.0, steps_answered l rs made.0 b made.2)
    steps_answered l (_ ∷ rs) a b made = steps_answered l rs a b made

    steps_done : (rs : List EditStep) (c : Coming) (a b : Surface (ScreenRenderer D)) → screen_of a.out ≡ s → Drawn (calls_of_steps (ruler_of s) a.layout rs).calls a.out b.out → Sums (step_events s a.layout rs) (on a.out c) (on b.out c)
    steps_done rs c a b is made =
        let quiet = step_quiet s c a.layout rs in
        record {
          drawn = subst (TakesBytes shown (sink_of a.out) (sink_of b.out)) (sym (step_bytes s a.layout rs)) (calls_sent (calls_of_steps (ruler_of s) a.layout rs).calls a.out b.out is made);
          wrote = subst (λ xs. TakesBytes written_in lines lines (lines_text xs)) (sym quiet.1) (takes_none written_in lines lines refl);
          history_is = sym (remembered_none adds history) ∙ ap (λ xs. history_with_if adds xs history) (sym quiet.0);
          left_is = sym quiet.2;
          answered = steps_answered a.layout rs a.out b.out made;
        }

    -- a step that failed
    step_stopped : (step : EditStep) (c : Coming) (e : ReadlineError) (v : Value) (a b : Surface (ScreenRenderer D)) → screen_of a.out ≡ s → CutStep canvas (ruler_of s) a step e v b
        → CutSessionEvent shown written_in adds (on a.out c) (step_event s a.layout step) e (on b.out c)
    unfolding CutCalls
    step_stopped (DrawStep v marks redraw) c e left a b is h =
        subst (λ why. CutSessionEvent shown written_in adds (on a.out c) (Draws (shown_marks v marks) redraw (map (bytes_of s) (calls_of_redraw (ruler_of s) (shown_marks v marks) a.layout redraw).calls)) why (on b.out c)) (sym h.0)
        (by (calls_of_redraw (ruler_of s) (shown_marks v marks) a.layout redraw).calls h.1)
      where
        by : (calls : List Call) → CutCalls canvas calls a.out b.out → CutSessionEvent shown written_in adds (on a.out c) (Draws (shown_marks v marks) redraw (map (bytes_of s) calls)) Display (on b.out c)
        by [] broken = absurd broken
        by (call ∷ calls) broken =
            (subst (TakesSome shown (sink_of a.out) (sink_of b.out)) (sym (all_of_map (bytes_of s) (call ∷ calls))) (calls_break (call ∷ calls) a.out b.out is broken), refl)
    step_stopped (HelpStep v fails takes) c e left a b is h = by e h.0
      where
        same : on b.out c ≡ on a.out c
        same = ap (λ (x : Surface (ScreenRenderer D)). on x.out c) h.1

        by : (why : ReadlineError) → CutHelp fails takes why → CutSessionEvent shown written_in adds (on a.out c) (Helped fails takes) why (on b.out c)
        by Helper p = (p, same)
        by Memory p = (p, same)
        by _ p = absurd p
    step_stopped _ c e left a b is h =
        subst (λ why. CutSessionEvent shown written_in adds (on a.out c) Takes why (on b.out c)) (sym h.0) (ap (λ (x : Surface (ScreenRenderer D)). on x.out c) h.1)

    steps_stopped : (rs : List EditStep) (c : Coming) (why : ReadlineError) (v : Value) (a b : Surface (ScreenRenderer D)) → screen_of a.out ≡ s
        → StepsStop canvas (ruler_of s) rs a why v b → Broken (step_events s a.layout rs) (on a.out c) why (on b.out c)
    unfolding StepsStop
    steps_stopped [] c why v a b is h = absurd h
    steps_stopped (step ∷ rs) c why v a b is (inl (m, made, h)) =
        let calls = (one (ruler_of s) a.layout step).calls in
        let rest : Broken (step_events s (one (ruler_of s) a.layout step).layout rs) (on m.out c) why (on b.out c) =
        subst (λ l. Broken (step_events s l rs) (on m.out c) why (on b.out c)) made.1 (steps_stopped rs c why v m b (screen_kept calls a.out m.out is made.0) h) in
        went_behind (steps_done (step ∷ []) c a m is (subst (λ calls. Drawn calls a.out m.out) (sym (append-nil calls)) made.0)) rest
    steps_stopped (step ∷ rs) c why v a b is (inr h) =
        went_stopped (step_event s a.layout step) (step_events s (one (ruler_of s) a.layout step).layout rs) why (none_done (on a.out c)) (step_stopped step c why v a b is h) refl

    -- ---- a line's asks

    module _ (a : Setting) where
      abbrev pub at : LineStage (ScreenRenderer D) → Work D L
      at x = on x.drawn.out x.kept.coming

      own_done : (ask : LineAsk) (k : LineState) (out : ScreenRenderer D) → Sums (own_events a k ask) (on out k.coming) (on out (left_at a k ask).coming)
      own_done (Keys (Reads item)) k out = record { drawn = takes_none shown (sink_of out) (sink_of out) refl; wrote = takes_none written_in lines lines refl; history_is = sym (remembered_none adds history); left_is = refl; answered = tt }
      own_done _ k out = record { drawn = takes_none shown (sink_of out) (sink_of out) refl; wrote = takes_none written_in lines lines refl; history_is = sym (remembered_none adds history); left_is = refl; answered = tt }

      asks_done : (asks : List LineAsk) (k : LineState) (l : Layout) (x y : ScreenRenderer D) → screen_of x ≡ s → Drawn (calls_of_steps (ruler_of s) l (steps_along a k asks)).calls x y
          → Sums (asks_events s a l k asks) (on x k.coming) (on y (left_along a k asks).coming)
      asks_done [] k l x y is made = subst (λ y. Sums [] (on x k.coming) (on y k.coming)) made (none_done (on x k.coming))
      asks_done (ask ∷ asks) k l x y is made =
          let rs = (effect_at a k ask).steps in
          let left = left_at a k ask in
          let m = calls_of_steps (ruler_of s) l rs in
          let later = steps_along a left asks in
          let parts = folds_apart (MadeIn canvas) m.calls (calls_of_steps (ruler_of s) m.layout later).calls x y (subst (λ (q : RedrawCalls). Drawn q.calls x y) (asked_both (ruler_of s) l rs later) made) in
          done_both (steps_done rs k.coming (surface x l) (surface parts.0 m.layout) is parts.1)
          (done_both (own_done ask k parts.0) (asks_done asks left m.layout parts.0 y (screen_kept m.calls x parts.0 is parts.1) parts.2))

      leaves_coming : (ask : LineAsk) (k l : LineState) (why : ReadlineError) → CutLineAsk ask k why l → l.coming ≡ k.coming
      leaves_coming (Obeys cmd) k l why h = ap (λ (z : LineState). z.coming) h.0
      leaves_coming _ k l why h = ap (λ (z : LineState). z.coming) h

      ask_stopped : (ask : LineAsk) (asks : List LineAsk) (why : ReadlineError) (x y : LineStage (ScreenRenderer D)) → screen_of x.drawn.out ≡ s → Stopped canvas (ruler_of s) a x ask why y
          → Broken (asks_events s a x.drawn.layout x.kept (ask ∷ asks)) (at x) why (at y)
      ask_stopped ask asks why x y is (inl (stops, leaves)) =
          let rs = (effect_at a x.kept ask).steps in
          let more = own_events a x.kept ask ++ asks_events s a (calls_of_steps (ruler_of s) x.drawn.layout rs).layout (left_at a x.kept ask) asks in
          let events = step_events s x.drawn.layout rs ++ more in
          subst (λ c. Broken events (at x) why (on y.drawn.out c)) (sym (leaves_coming ask x.kept y.kept why leaves))
          (went_before more (steps_stopped rs x.kept.coming why y.kept.value x.drawn y.drawn is stops))
      ask_stopped ask asks why x y is (inr (item, left, reads, unread, same)) =
          subst (λ (q : LineAsk). Broken (asks_events s a x.drawn.layout x.kept (q ∷ asks)) (at x) why (at y)) (sym reads) (unread_by item why left unread same)
        where
          unread_by : (item : InputItem) (why : ReadlineError) (left : List ℕ) → IsReadFault item why → y ≡ line_stage x.drawn (record x.kept { coming = coming_after_error why left })
              → Broken (Hears item ∷ asks_events s a x.drawn.layout (left_at a x.kept (Keys (Reads item))) asks) (at x) why (at y)
          unread_by Paste Memory left unread same =
              went_stopped (Hears Paste) (asks_events s a x.drawn.layout (left_at a x.kept (Keys (Reads Paste))) asks) Memory (none_done (at x)) (left, ap (λ (z : LineStage (ScreenRenderer D)). at z) same) refl
          unread_by _ _ left unread same = absurd unread

      -- ---- a line

      -- all of what is played was done, and the answer is its own
      pub record Whole {X : Type 0} (p : LineScript X) (x y : LineStage (ScreenRenderer D)) (result : Result X ReadlineError) : Type 0 where
        pub answer_is : (played_from a p x.kept).answer ≡ result
        pub rest_is : (played_from a p x.kept).rest ≡ y.kept
        pub are_done : Sums (asks_events s a x.drawn.layout x.kept (played_from a p x.kept).asks) (at x) (at y)

      -- or a fault stopped it
      abbrev pub Cut : {X : Type 0} → LineScript X → LineStage (ScreenRenderer D) → LineStage (ScreenRenderer D) → Result X ReadlineError → Type 0
      Cut p x y result = Went shown written_in adds (asks_events s a x.drawn.layout x.kept (played_from a p x.kept).asks) (at x) (at y) ⊥ (λ e. (result ≡ Err e) × reason_of true ⊤ e)

      pub line_went : {X : Type 0} (p : LineScript X) (x y : LineStage (ScreenRenderer D)) (result : Result X ReadlineError) → screen_of x.drawn.out ≡ s → GoesOn (line_world canvas (ruler_of s) a) p x result y
          → Whole p x y result ⊎ Cut p x y result
      line_went {X} p x y result is goes = by (went canvas (ruler_of s) a p x y result goes)
        where
          by : AllDone canvas (ruler_of s) a (played_from a p x.kept) x y result ⊎ StoppedIn canvas (ruler_of s) a (played_from a p x.kept) x y result → Whole p x y result ⊎ Cut p x y result
          by (inl h) =
              let q = played_from a p x.kept in
              inl (record {
                answer_is = h.answer_is;
                rest_is = h.rest_is;
                are_done = subst (λ (k : LineState). Sums (asks_events s a x.drawn.layout x.kept q.asks) (at x) (on y.drawn.out k.coming)) (rest_along a p x.kept ∙ h.rest_is)
                    (asks_done q.asks x.kept x.drawn.layout x.drawn.out y.drawn.out is h.drawn.0);
              })
          by (inr h) =
              let q = played_from a p x.kept in
              let first = subst (λ (k : LineState). Sums (asks_events s a x.drawn.layout x.kept h.done) (at x) (on h.at.drawn.out k.coming)) (sym h.kept_is)
              (asks_done h.done x.kept x.drawn.layout x.drawn.out h.at.drawn.out is h.drawn.0) in
              let now : screen_of h.at.drawn.out ≡ s = screen_kept (calls_of_steps (ruler_of s) x.drawn.layout (steps_along a x.kept h.done)).calls x.drawn.out h.at.drawn.out is h.drawn.0 in
              let next = ask_stopped h.ask h.others h.fault h.at y now h.stopped in
              let E : Layout → LineState → List SessionEvent = λ l k. asks_events s a l k (h.ask ∷ h.others) in
              let there = (calls_of_steps (ruler_of s) x.drawn.layout (steps_along a x.kept h.done)).layout in
              let placed : Broken (E there (left_along a x.kept h.done)) (at h.at) h.fault (at y) =
              subst (λ k. Broken (E there k) (at h.at) h.fault (at y)) h.kept_is (subst (λ l. Broken (E l h.at.kept) (at h.at) h.fault (at y)) h.drawn.1 next) in
              let mine = asks_events s a x.drawn.layout x.kept h.done in
              let both : Broken (mine ++ E there (left_along a x.kept h.done)) (at x) h.fault (at y) = went_behind first placed in
              let cause = stopped_cause canvas (ruler_of s) a h.ask h.at y h.fault h.stopped in
              let split = ap (asks_events s a x.drawn.layout x.kept) h.first ∙ asks_both s a x.drawn.layout x.kept h.done (h.ask ∷ h.others) in
              inr (went_so (λ e is. (h.result_is ∙ ap (λ e. Err e) (sym is), subst (reason_of true ⊤) (sym is) cause))
              (subst (λ events. Broken events (at x) h.fault (at y)) (sym split) both))
