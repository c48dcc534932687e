-- The display over a session's events, and over a command and a turn.
use Rattle.std.proofs.Common.{◌≡◌, ℕ, zero, suc, ◌≤◌, Bool, true, false, List, [], ◌∷◌, ◌++◌, map, Option, None, Some, Result, Ok, Err, refl, sym, ap, ◌∙◌, subst, append_assoc, append-nil, arith, if◌then◌else◌}
use Rattle.std.specs.List.{concat, filter, flat_map}
use Rattle.std.specs.Prelude.{⊤, ◌+◌, OnOk}
use Rattle.std.proofs.lemmas.Grind.{flat_map-append}
use Rattle.line_buffer.specs.declared.layout.Layout.{Layout}
use Rattle.line_config.specs.declared.errors.ReadlineError.{ReadlineError}
use Rattle.line_editor.specs.RenderCalls.{Marks}
use Rattle.line_editor.specs.Leads.{BeginShows, LeadsAlong, CommandLeads, TurnLeads}
use Rattle.line_editor.specs.LineScripts.{Begins as TurnBegins, Keys, LineAsk, LineState, effect_at, left_at}
use Rattle.line_editor.specs.ModalCommands.{modal_seen, sight_in_mode}
use Rattle.line_editor.specs.Modal.{Modal}
use Rattle.line_editor.specs.Redraws.{calls_of_redraw, fresh}
use Rattle.line_editor.specs.LineRun.{first_line_state, breaks_after}
use Rattle.line_editor.specs.Sights.{Sight, no_sight, sight, sight_all, sight_drawn, sight_with, FitsAll, Turns, sight_of, info_after}
use Rattle.line_editor.specs.EditSteps.{calls_of_steps, one}
use Rattle.line_editor.specs.Values.{EditStep, Setting, Value, shown_marks, Effect}
use Rattle.line_editor.specs.declared.modal_state.Standing.{Standing, TheVariants.Searches}
use Rattle.line_editor.specs.Values.EditStep.{Draws as DrawStep}
use Rattle.line_editor.proofs.LineLeads.{lines_lead, turn_leads}
use Rattle.line_keys.specs.InputStates.{new_input}
use Rattle.line_keys.specs.PhraseScripts.{Reads}
use Rattle.line_screen.specs.ScreenCalls.{Screen, bytes_of, ruler_of, widths}
use Rattle.line_screen.specs.Chain.{Good, Shows, empty_view, finish_of, above}
use Rattle.line_screen.specs.Display.{Display, Placed, at_cursor}
use Rattle.line_screen.specs.Drawing.{row_break, next_row}
use Rattle.line_screen.proofs.LawLemmas.{start_is_empty, shown_is_meant, line_ends_anywhere, ended_line_stays}
use Rattle.keyline.specs.Events.{SessionEvent, Course, Begins, Draws, Rests, Breaks, asks_events, end_events, events_of, course_after_line, line_course, own_events, line_play_in, session, step_events}
use Rattle.keyline.specs.Sessions.{Given, LineGiven, SessionState, for_line, setting_in}
use Rattle.keyline.specs.Shows.{picture, view_in, DisplayHolds, LowAll, kept_by, kept_drawn, kept_after, bytes_for, Face, face, blank, face_with_drawing, face_on_new_row, below, IsAtRest, IsScreen, HasMeaning, MomentShown, EachShown, Lead, sight_behind, CommandsShow, TurnsShow}
use Rattle.keyline.proofs.ShowSteps.{fresh_holds, place_by, step}
use Rattle.line_editor.specs.Commands.{effect}
use Rattle.line_editor.proofs.CommandsLead.{commands_lead}
use Rattle.line_keys.specs.declared.command.Cmd.{Cmd, TheVariants.Interrupt}

pub all_of_map : {A : Type 0} (f : A → List ℕ) (xs : List A) → concat (map f xs) ≡ flat_map f xs
all_of_map f [] = refl
all_of_map f (x ∷ xs) = ap (λ zs. f x ++ zs) (all_of_map f xs)

some_same : {a b : Display} → Some a ≡ Some b → a ≡ b
some_same e = cc

module _ (s : Screen) (low : 2 ≤ s.columns) (high : s.columns ≤ 1000) (own : List ℕ) where
  -- steps one after the other
  pub steps : (bytes : List ℕ) (over : List Placed) (top : ℕ) (l : Layout) (x : Sight) (rs : List EditStep) → DisplayHolds s bytes over top l x → FitsAll own x rs → LowAll s x rs
      → DisplayHolds s (bytes ++ bytes_for s l rs) (kept_after rs over []) (kept_after rs top 0) (calls_of_steps (ruler_of s) l rs).layout (sight_all x rs)
  steps bytes over top l x [] h fits rows = subst (λ b. DisplayHolds s b over top l x) (sym (append-nil bytes)) h
  steps bytes over top l x (r ∷ rs) h fits rows =
      let a = one (ruler_of s) l r in
      let new = flat_map (bytes_of s) a.calls in
      let first = step s low high own bytes over top l x r h fits.0 rows.0 in
      let rest = steps (bytes ++ new) (kept_by r over []) (kept_by r top 0) a.layout (sight x r) rs first fits.1 rows.1 in
      let joined : (bytes ++ new) ++ bytes_for s a.layout rs ≡ bytes ++ bytes_for s l (r ∷ rs) =
      append_assoc bytes new (bytes_for s a.layout rs) ∙ ap (λ b. bytes ++ b) (sym (flat_map-append (bytes_of s) a.calls (calls_of_steps (ruler_of s) a.layout rs).calls)) in
      subst (λ b. DisplayHolds s b (kept_after (r ∷ rs) over []) (kept_after (r ∷ rs) top 0) (calls_of_steps (ruler_of s) l (r ∷ rs)).layout (sight_all x (r ∷ rs))) joined rest

  abbrev Holds : List ℕ → List Placed → ℕ → Sight → Type 0
  Holds bytes over top x = Good s.columns (widths s) bytes over (view_in s top x)

  meant : (bytes : List ℕ) (over : List Placed) (top : ℕ) (x : Sight) → Holds bytes over top x → HasMeaning (face s bytes top over x)
  meant bytes over top x g = let m = shown_is_meant s bytes over (view_in s top x) g in record { display = m.0; means = m.1; over_is = m.3 }

  -- the bytes up to a moment show its value at its top
  moment : (bytes : List ℕ) (over : List Placed) (top : ℕ) (x : Sight) (marks : Option Marks) (given : Bool) (prompt text : List ℕ) (place : ℕ) → Holds bytes over top x → x ≡ sight_with marks given prompt text place x.info
      → MomentShown (face s bytes top over x) marks given prompt text place
  unfolding meant
  moment bytes over top x marks given prompt text place g is =
      let m = shown_is_meant s bytes over (view_in s top x) g in
      let P : Sight → Type 0 = λ y. Shows s.columns (widths s) (picture y) top m.0 in
      record { means = meant bytes over top x g; shows = subst P is (m.4 (place_by s low high x false (ap (λ (y : Sight). y.ended) is))) }

  -- CR LF wherever the cursor stands: every cell stays
  closed : (bytes : List ℕ) (over : List Placed) (top : ℕ) (x : Sight) → Holds bytes over top x → HasMeaning (face_on_new_row (face s bytes top over x))
  closed bytes over top x g =
      let m = shown_is_meant s bytes over (view_in s top x) g in
      let e = line_ends_anywhere s (omega arith) bytes over (view_in s top x) g in
      record { display = at_cursor (next_row e.0.cursor) e.0; means = e.2; over_is = ap (λ (d : Display). filter (above top) d.placed) (some_same (sym e.1 ∙ m.1)) ∙ m.3 }

  -- the next line's top, under all that stands
  next_line : (bytes : List ℕ) (over : List Placed) (top : ℕ) (x : Sight) (g : Holds bytes over top x) → x.ended ≡ true
      → (let f = face_on_new_row (face s bytes top over x) in let m = closed bytes over top x g in IsAtRest (below f m.display))
  unfolding closed
  next_line bytes over top x g ended =
      let next = top + (finish_of s.columns (widths s) (picture x)).row + 1 in
      let e = ended_line_stays s low high bytes over (view_in s top x) (empty_view next) row_break g (record { text_is = refl; place_is = place_by s low high x true ended; view = refl }) in
      let closing = line_ends_anywhere s (omega arith) bytes over (view_in s top x) g in
      record {
        screen = record { least = low; most = high };
        good = subst (λ xs. Good s.columns (widths s) (bytes ++ row_break) xs (empty_view next)) (ap (λ (d : Display). d.placed) (some_same (sym e.1 ∙ closing.1))) e.2;
        nothing = refl;
      }

  -- ---- an edit's steps

  steps_shown : (later : List SessionEvent) (rs : List EditStep) (bytes : List ℕ) (over : List Placed) (top : ℕ) (l : Layout) (x : Sight) → DisplayHolds s bytes over top l x → FitsAll own x rs
      → ((bytes : List ℕ) (over : List Placed) (top : ℕ) → DisplayHolds s bytes over top (calls_of_steps (ruler_of s) l rs).layout (sight_all x rs) → EachShown (face s bytes top over (sight_all x rs)) later)
      → EachShown (face s bytes top over x) (step_events s l rs ++ later)
  steps_shown later [] bytes over top l x h fits next = next bytes over top h
  steps_shown later (DrawStep v m redraw ∷ rs) bytes over top l x h fits next = λ rows.
      let a = calls_of_redraw (ruler_of s) (shown_marks v m) l redraw in
      let new = bytes ++ concat (map (bytes_of s) a.calls) in
      let over' = kept_drawn redraw over [] in
      let top' = kept_drawn redraw top 0 in
      let y = sight_drawn x (shown_marks v m) redraw in
      let done : DisplayHolds s new over' top' a.layout y =
      subst (λ sent. DisplayHolds s (bytes ++ sent) over' top' a.layout y) (sym (all_of_map (bytes_of s) a.calls)) (step s low high own bytes over top l x (DrawStep v m redraw) h fits.0 rows) in
      (meant new over' top' y done.good, steps_shown later rs new over' top' a.layout y done fits.1 next)
  steps_shown later (_ ∷ rs) bytes over top l x h fits next = steps_shown later rs bytes over top l x h fits.1 next

-- with other information, the same is to be seen
seen_with : (at : Standing) (m : Modal) (a : Setting) (v : Value) (info : Option (List ℕ)) → (let y = sight_in_mode at m a v None in sight_in_mode at m a v info ≡ sight_with (shown_marks v a.marks) y.given y.prompt y.line y.place info)
seen_with Searches m a v info = refl
seen_with _ m a v info = refl

-- what a session goes on from
abbrev After : Result (List ℕ) ReadlineError → Face → Type 0
After (Ok text) f = IsAtRest f
After (Err e) f = ⊤

module _ (s : Screen) (low : 2 ≤ s.columns) (high : s.columns ≤ 1000) (a : Setting) where
  own_shown : (later : List SessionEvent) (ask : LineAsk) (k : LineState) (bytes : List ℕ) (over : List Placed) (top : ℕ) (x : Sight) → Good s.columns (widths s) bytes over (view_in s top x) → BeginShows a ask k x
      → EachShown (face s bytes top over x) later → EachShown (face s bytes top over x) (own_events a k ask ++ later)
  own_shown later TurnBegins k bytes over top x g leads rest =
      let y = modal_seen k.modal a k.value None in
      (moment s low high a.prompt bytes over top x (shown_marks k.value a.marks) y.given y.prompt y.line y.place g (leads ∙ seen_with k.modal.standing k.modal a k.value x.info), rest)
  own_shown later (Keys (Reads item)) k bytes over top x g leads rest = rest
  own_shown later _ k bytes over top x g leads rest = rest

  -- what follows on the asks
  abbrev Follows : Result (List ℕ) ReadlineError → List SessionEvent → Type 0
  Follows o later = (bytes : List ℕ) (over : List Placed) (top : ℕ) (l : Layout) (x : Sight) → DisplayHolds s bytes over top l x → OnOk o (x.ended ≡ true) → EachShown (face s bytes top over x) later

  asks_shown : (o : Result (List ℕ) ReadlineError) (later : List SessionEvent) → Follows o later → (asks : List LineAsk) (k : LineState) (bytes : List ℕ) (over : List Placed) (top : ℕ) (l : Layout) (x : Sight)
      → DisplayHolds s bytes over top l x → LeadsAlong a o k x asks → EachShown (face s bytes top over x) (asks_events s a l k asks ++ later)
  asks_shown o later next [] k bytes over top l x h leads = next bytes over top l x h leads
  asks_shown o later next (ask ∷ asks) k bytes over top l x h leads =
      let rs = (effect_at a k ask).steps in
      let m = (calls_of_steps (ruler_of s) l rs).layout in
      let y = sight_all x rs in
      let left = left_at a k ask in
      let first = step_events s l rs in
      let more = asks_events s a m left asks in
      let mine = own_events a k ask in
      let E : List SessionEvent → Type 0 = EachShown (face s bytes top over x) in
      subst E (sym (append_assoc first (mine ++ more) later ∙ ap (λ events. first ++ events) (append_assoc mine more later)))
      (steps_shown s low high a.prompt (mine ++ (more ++ later)) rs bytes over top l x h leads.0
      (λ bytes over top h. own_shown (more ++ later) ask k bytes over top y h.good leads.1 (asks_shown o later next asks left bytes over top m y h leads.2)))

  -- ---- its end

  end_shown : (more : List SessionEvent) (o : Result (List ℕ) ReadlineError) → ((f : Face) → After o f → EachShown f more) → Follows o (end_events o ++ more)
  end_shown more (Ok text) next bytes over top l x h ended =
      let m = closed s low high a.prompt bytes over top x h.good in
      (m, next (below (face_on_new_row (face s bytes top over x)) m.display) (next_line s low high a.prompt bytes over top x h.good ended))
  end_shown more (Err e) next bytes over top l x h ended = elim (breaks_after e) as (λ b. EachShown (face s bytes top over x) ((if b then Breaks ∷ [] else []) ++ more)) [
    | true ↦ let m = closed s low high a.prompt bytes over top x h.good in (m, next (below (face_on_new_row (face s bytes top over x)) m.display) tt)
    | false ↦ next (face s bytes top over x) tt
  ]

-- ---- a line, from a display between two lines

-- what follows on its begin
abbrev tail_of : ℕ → Given → SessionState → List SessionEvent
tail_of n g x = let p = line_play_in n g x in events_of g x p.asks ++ end_events p.answer

line_shown : (n : ℕ) (g : Given) (x : SessionState) (more : List SessionEvent)
    → ((f : Face) → After (line_play_in n g x).answer f → EachShown f more)
    → (f : Face) → IsAtRest (record f { screen = g.screen }) → EachShown (record f { screen = g.screen }) (tail_of n g x ++ more)
line_shown n g x more next f rest =
    let s = g.screen in
    let low = rest.screen.least in
    let high = rest.screen.most in
    let a = setting_in g x.history.kept.entries in
    let k = first_line_state a x.ring x.query x.coming in
    let p = line_play_in n g x in
    let lead = lines_lead n a g.custom (new_input g.config) x.ring g.config x.query x.coming in
    let asks = asks_events s a (fresh s.mode) k p.asks in
    let h : DisplayHolds s f.bytes f.over f.top (fresh s.mode) no_sight = fresh_holds s low high f.bytes f.over f.top (fresh s.mode) rest.good in
    subst (λ events. EachShown (record f { screen = s }) events) (sym (append_assoc asks (end_events p.answer) more))
    (subst (λ (y : Sight). EachShown (face s f.bytes f.top f.over y) (asks ++ (end_events p.answer ++ more))) (sym rest.nothing)
    (asks_shown s low high a p.answer (end_events p.answer ++ more) (end_shown s low high a more p.answer next) p.asks k f.bytes f.over f.top (fresh s.mode) no_sight h lead))

-- ---- a session

pub blank_is_at_rest : (s : Screen) → IsScreen s → IsAtRest (blank s)
blank_is_at_rest s is = record { screen = is; good = start_is_empty s is.least is.most; nothing = refl }

course_shown : (n : ℕ) (g : Given) (x : SessionState) (more : List SessionEvent) → ((f : Face) → After (line_play_in n g x).answer f → EachShown f more)
    → (f : Face) → IsAtRest f → EachShown f ((line_course n g x).events ++ more)
course_shown n g x more next f rest =
    let s = g.screen in (
      λ same.
          let path : record f { screen = s } ≡ f = ap (λ s. record f { screen = s }) same in
          let P : Face → Type 0 = λ f. EachShown f (tail_of n g x ++ more) in
          subst P path (line_shown n g x more next f (subst IsAtRest (sym path) rest)),
      λ is. line_shown n g x more next (blank s) (blank_is_at_rest s is),
    )

on_line : (later : SessionState → Course ReadlineError) (y : SessionState) → ((f : Face) → IsAtRest f → EachShown f (later y).events)
    → (o : Result (List ℕ) ReadlineError) (f : Face) → After o f → EachShown f (course_after_line later (o, y)).events
on_line later y so (Ok text) f rest = so f rest
on_line later y so (Err e) f rest = tt

pub sessions_show : (n : ℕ) (g : Given) (at : ℕ → LineGiven) (x : SessionState) (f : Face) → IsAtRest f → EachShown f (session n g at x).events
unfolding session
sessions_show zero g at x f rest = tt
sessions_show (suc n) g at x f rest =
    let rest_of : ℕ → LineGiven = λ line. at (suc line) in
    let first = for_line g (at 0) in
    let line = line_course (suc n) first x in
    let later : SessionState → Course ReadlineError = session n g rest_of in
    let y = line.answer.1 in
    course_shown (suc n) first x (course_after_line later line.answer).events (on_line later y (λ f rest. sessions_show n g rest_of y f rest) line.answer.0) f rest

-- ---- the first of the events

pub first_shown : (done others : List SessionEvent) (f : Face) → EachShown f (done ++ others) → EachShown f done
first_shown [] others f h = tt
first_shown (Begins s ∷ done) others f h = (λ same. first_shown done others f (h.0 same), λ is. first_shown done others (blank s) (h.1 is))
first_shown (Draws marks redraw sent ∷ done) others f h = λ rows. let m = h rows in (m.0, first_shown done others (face_with_drawing f marks redraw sent) m.1)
first_shown (Rests marks given prompt text place ∷ done) others f h = (h.0, first_shown done others f h.1)
first_shown (Breaks ∷ done) others f h = let m = h.0 in (m, first_shown done others (below (face_on_new_row f) m.display) h.1)
first_shown (_ ∷ done) others f h = first_shown done others f h

pub lines_show : (n : ℕ) (g : Given) (x : SessionState) (f : Face) → IsAtRest f → EachShown f (line_course n g x).events
lines_show n g x f rest =
    first_shown (line_course n g x).events [] f (course_shown n g x [] (λ f after. tt) f rest)

-- ---- a command, and a turn

-- steps that lead from one sight to the other
shown_by : (s : Screen) → 2 ≤ s.columns → s.columns ≤ 1000 → (own : List ℕ) (x y : Sight) (xs : List EditStep) → Turns own x xs y → Lead s x xs y
shown_by s low high own x y xs t bytes over top l h rows =
    subst (DisplayHolds s (bytes ++ bytes_for s l xs) (kept_after xs over []) (kept_after xs top 0) (calls_of_steps (ruler_of s) l xs).layout) t.leads
    (steps s low high own bytes over top l x xs h t.fits rows)

command_turns : (cmd : Cmd) (a : Setting) (v : Value) (info : Option (List ℕ)) (e : Effect) → CommandLeads cmd a v e
    → Turns a.prompt (sight_of a v info) e.steps (sight_behind cmd (sight_of a e.value (info_after e.steps info)))
command_turns Interrupt a v info e h = h info
command_turns _ a v info e h = h info

pub commands_show : CommandsShow
commands_show s is m cmd a v info =
    let e : Effect = effect m cmd a v in
    shown_by s is.least is.most a.prompt (sight_of a v info) (sight_behind cmd (sight_of a e.value (info_after e.steps info))) e.steps (command_turns cmd a v info e (commands_lead m cmd a v))

pub turns_show : TurnsShow
turns_show s screen n a custom k info status is =
    let x = modal_seen k.modal a k.value info in
    let t : TurnLeads a x info _ _ _ = turn_leads n a custom k info in
    shown_by s screen.least screen.most a.prompt x _ _ (t.leads status is)
