-- Lines and sessions by two amounts of fuel above the keys and pastes to come are one.
use Rattle.std.proofs.Common.{ℕ, zero, suc, ◌<◌, Bool, true, false, List, refl, ap, arith, ◌≡◌, ◌≤◌, ◌∷◌, ◌++◌, sym, ◌∙◌, Result, Ok, Err}
use Rattle.script.specs.Scripts.{Ends, Asks, then}
use Rattle.line_editor.specs.LineScripts.{TurnStart, turn_start, Keys, LineAsk, LineScript, script_of_keys, line_script, meet_script, turn_script, line_script_after, turns_script, Begins, Makes, LineAnswer, LineState, answer_at, left_at, played_from}
use Rattle.line_editor.specs.NextCommand.{with_group_begun}
use Rattle.line_editor.specs.declared.commands.Status.{Status, TheVariants.Proceed, TheVariants.Submit}
use Rattle.line_keys.specs.CustomBindings.{Custom}
use Rattle.line_keys.specs.KeyFeeds.{Key, InputItem, InputOf, Paste, behind, item_at, Coming, Pressed, Pasted, CutOff, Ends as Ended, Refused, coming_after_error, refusal_of}
use Rattle.line_keys.specs.InputStates.{phrase_from}
use Rattle.line_keys.specs.PhraseScripts.{Reads, KeyScript, after, and_then, steps, with_read, Input}
use Rattle.line_keys.specs.declared.command.Cmd.{Cmd}
use Rattle.line_keys.specs.declared.key.KeyEvent.{KeyEvent}
use Rattle.script.specs.Played.{Played, play_with_first_ask, play_after_answer}
use Rattle.line_config.specs.declared.errors.ReadlineError.{ReadlineError, TheVariants.Eof}
use Rattle.line_editor.specs.LineRun.{first_line_state}
use Rattle.line_editor.specs.Values.{Setting, then_do, memory_effect}
use Rattle.keyline.specs.Events.{Begins as LineBegins, Course, end_events, events_first, events_of, course_after_line, line_course, line_play_in, session}
use Rattle.keyline.specs.Sessions.{Given, LineGiven, SessionState, for_line, history_after, setting_in, state_at}
use Rattle.keyline.specs.SessionLaws.{keys_and_pastes}
use Rattle.line_editor.proofs.ToldLemmas.{PlayedOf, played_each}
use Rattle.keyline.proofs.PhraseFuel.{Alike, Next, Plays, after_alike, alike_itself, is_key_read, next_map, next_read, s_phrase_from, s_with_group, then_alike}
use Rattle.line_keys.specs.Refreshing.{Shown}
use Rattle.line_editor.specs.Drawing.{refresh_effect}

abbrev is_line_read : LineAsk → Bool
is_line_read (Keys ask) = is_key_read ask
is_line_read ask = false

keyed_alike : {X : Type 0} (k : ℕ) (s t : KeyScript X) → Plays k s t → Alike is_line_read k (script_of_keys s) (script_of_keys t)
keyed_alike k (Ends x) t is = ap script_of_keys is
keyed_alike {X} k (Asks ask f) t (g, is, h) = (
  (λ x. script_of_keys (g x)),
  ap script_of_keys is,
  λ x. next_map (is_key_read ask) k _ _ (λ j low a. keyed_alike j (f x) (g x) a) (h x),
)

-- ---- turns

abbrev TurnsAlike : Custom → ℕ → ℕ → Type 0
TurnsAlike custom n m = (k : ℕ) → k < n → k < m → Alike is_line_read k (turns_script n custom) (turns_script m custom)

turned : (s t : LineScript (List ℕ)) (k : ℕ) → Alike is_line_read k s t → (status : Status) → Alike is_line_read k (line_script_after s status) (line_script_after t status)
turned s t k h Proceed = h
turned s t k h Submit = alike_itself is_line_read k (line_script_after t Submit)

-- what follows a turn's first key
abbrev keys_after : ℕ → Custom → TurnStart → KeyEvent → KeyScript Cmd
keys_after n custom at key = after (λ x i seen. steps (with_group_begun x i seen) (suc n)) at.input at.shown (steps (phrase_from at.input.mode custom at.input at.shown key) n)

abbrev turn_after : ℕ → Custom → TurnStart → KeyEvent → LineScript (List ℕ)
turn_after n custom at key = then (then (script_of_keys (keys_after n custom at key)) meet_script) (line_script_after (turns_script n custom))

key_then : (custom : Custom) (n m : ℕ) → TurnsAlike custom n m → (at : TurnStart) (key : KeyEvent) (j : ℕ) → j < n → j < m → Alike is_line_read j (turn_after n custom at key) (turn_after m custom at key)
key_then custom n m h at key j low low' =
    let first : ℕ → KeyScript Cmd = λ n. steps (phrase_from at.input.mode custom at.input at.shown key) n in
    let group : ℕ → Cmd → Input → Shown → KeyScript Cmd = λ n x i seen. steps (with_group_begun x i seen) (suc n) in
    let one : ℕ → LineScript Cmd = λ n. script_of_keys (keys_after n custom at key) in
    then_alike is_line_read j (then (one n) meet_script) (then (one m) meet_script) (line_script_after (turns_script n custom)) (line_script_after (turns_script m custom))
    (then_alike is_line_read j (one n) (one m) meet_script meet_script
    (keyed_alike j (keys_after n custom at key) (keys_after m custom at key) (after_alike j (group n) (group m) at.input at.shown (first n) (first m)
    ((s_phrase_from at.input.mode custom at.input at.shown key).plays j n m low low')
    (λ i less x input seen. (s_with_group x input seen).plays i (suc n) (suc m) (omega arith) (omega arith))))
    (λ i less cmd. alike_itself is_line_read i (meet_script cmd)))
    (λ i less status. turned (turns_script n custom) (turns_script m custom) i (h i (omega arith) (omega arith)) status)

turns_alike : (custom : Custom) (n m : ℕ) → TurnsAlike custom n m
unfolding turns_script turn_script and_then with_read
turns_alike custom (suc n) (suc m) k low low' =
    let later = λ (at : TurnStart) (key : KeyEvent).
    next_read (λ j. Alike is_line_read j (turn_after n custom at key) (turn_after m custom at key)) k n m low low' (key_then custom n m (turns_alike custom n m) at key) in
    ((λ at. Asks (Keys (Reads Key)) (turn_after m custom at)), refl, λ at. (turn_after m custom at, refl, later at))
turns_alike custom _ _ k low low' = absurd (omega arith)

line_alike : (custom : Custom) (n m k : ℕ) → k < n → k < m → Alike is_line_read k (line_script n custom) (line_script m custom)
unfolding line_script
line_alike custom n m k low low' = ((λ v. turns_script m custom), refl, λ v. turns_alike custom n m k low low')

-- ---- what a read leaves

read_falls : (item : InputItem) (c : Coming) (x : InputOf item) → item_at item c ≡ Ok x → suc (keys_and_pastes (behind item c)) ≤ keys_and_pastes c
read_falls Key (Pressed bytes k rest) x is = omega arith
read_falls Paste (Pasted bytes text rest) x is = omega arith
read_falls _ _ x is = absurd (cc)

none_by : (e : ReadlineError) (left : List ℕ) → keys_and_pastes (coming_after_error e left) ≡ 0
none_by Eof left = refl
none_by _ left = refl

read_stays : (item : InputItem) (c : Coming) → keys_and_pastes (behind item c) ≤ keys_and_pastes c
read_stays Key (Ended bytes last left) = let none = none_by (refusal_of last) left in omega arith
read_stays Paste (CutOff bytes last left) = let none = none_by (refusal_of last) left in omega arith
read_stays item (Refused bytes why) = let none = none_by why bytes in omega arith
read_stays _ _ = omega arith

module _ (s : Setting) where
  left_le : (c : LineState) (ask : LineAsk) → keys_and_pastes (left_at s c ask).coming ≤ keys_and_pastes c.coming
  left_le c (Keys (Reads item)) = read_stays item c.coming
  left_le c _ = omega arith

  falls : (c : LineState) (ask : LineAsk) (x : LineAnswer ask) → answer_at s c ask ≡ Ok x → is_line_read ask ≡ true
      → suc (keys_and_pastes (left_at s c ask).coming) ≤ keys_and_pastes c.coming
  falls c (Keys (Reads item)) x is reads = read_falls item c.coming x is
  falls c _ x is reads = absurd (cc)

  -- ---- alike scripts come to the same

  step : (b : Bool) (k left : ℕ) (P : ℕ → Type 0) (Q : Type 0) → (b ≡ true → suc left ≤ k) → left ≤ k → ((j : ℕ) → left ≤ j → P j → Q) → Next b k P → Q
  step true zero left P Q less stays h p = absurd (let low = less refl in omega arith)
  step true (suc j) left P Q less stays h p = h j (let low = less refl in omega arith) p
  step false k left P Q less stays h p = h k stays p

  on_answer : {X : Type 0} (ask : LineAsk) (f g : LineAnswer ask → LineScript X) (after : LineState) (r : Result (LineAnswer ask) ReadlineError)
      → ((x : LineAnswer ask) → r ≡ Ok x → played_from s (f x) after ≡ played_from s (g x) after)
      → play_after_answer (λ x. played_from s (f x) after) ask after r ≡ play_after_answer (λ x. played_from s (g x) after) ask after r
  on_answer ask f g after (Ok x) h = ap (play_with_first_ask ask) (h x refl)
  on_answer ask f g after (Err e) h = refl

  played_alike : {X : Type 0} (k : ℕ) (p q : LineScript X) → Alike is_line_read k p q → (c : LineState) → keys_and_pastes c.coming ≤ k → played_from s p c ≡ played_from s q c
  played_alike {X} k (Ends x) q is c low = ap (λ (u : LineScript X). played_from s u c) (sym is)
  played_alike {X} k (Asks ask f) q (g, is, h) c low =
      on_answer ask f g (left_at s c ask) (answer_at s c ask)
      (λ x ok. step (is_line_read ask) k (keys_and_pastes (left_at s c ask).coming) (λ j. Alike is_line_read j (f x) (g x)) (played_from s (f x) (left_at s c ask) ≡ played_from s (g x) (left_at s c ask))
      (λ reads. let less = falls c ask x ok reads in omega arith) (let stays = left_le c ask in omega arith)
      (λ j below a. played_alike j (f x) (g x) a (left_at s c ask) below) (h x))
      ∙ ap (λ (u : LineScript X). played_from s u c) (sym is)

  -- ---- an accepted line has read a key

  rest_stays : {X : Type 0} (p : LineScript X) (c : LineState) → keys_and_pastes (played_from s p c).rest.coming ≤ keys_and_pastes c.coming
  rest_stays (Ends x) c = omega arith
  rest_stays {X} (Asks ask f) c =
      let left = left_at s c ask in
      let low = left_le c ask in
      played_each (λ (p : PlayedOf s X). keys_and_pastes p.rest.coming ≤ keys_and_pastes c.coming) (λ x. played_from s (f x) left) ask left (λ x. (let more = rest_stays (f x) left in omega arith)) (λ e. low) (answer_at s c ask)

  first_key : (f : KeyEvent → LineScript (List ℕ)) (c : LineState) (r : Result KeyEvent ReadlineError) → item_at Key c.coming ≡ r → (text : List ℕ)
      → (let left = left_at s c (Keys (Reads Key)) in let p = play_after_answer (λ x. played_from s (f x) left) (Keys (Reads Key)) left r in p.answer ≡ Ok text → suc (keys_and_pastes p.rest.coming) ≤ keys_and_pastes c.coming)
  first_key f c (Ok k) is text ok =
      let less = read_falls Key c.coming k is in let stays = rest_stays (f k) (left_at s c (Keys (Reads Key))) in omega arith
  first_key f c (Err e) is text ok = absurd (cc)

  line_falls : (n : ℕ) (custom : Custom) (c : LineState) (text : List ℕ) → (played_from s (line_script (suc n) custom) c).answer ≡ Ok text
      → suc (keys_and_pastes (played_from s (line_script (suc n) custom) c).rest.coming) ≤ keys_and_pastes c.coming
  unfolding line_script turns_script turn_script and_then with_read
  line_falls n custom c text ok =
      let drawn = left_at s c (Makes (then_do memory_effect refresh_effect)) in
      first_key (turn_after n custom (turn_start drawn)) (left_at s drawn Begins) (item_at Key c.coming) refl text ok

-- ---- sessions

abbrev course_by : Given → SessionState → Played LineAsk LineState ReadlineError (List ℕ) → Course (Result (List ℕ) ReadlineError × SessionState)
course_by g x p = record {
  events = LineBegins g.screen ∷ (events_of g x p.asks ++ end_events p.answer);
  answer = (p.answer, state_at p.rest.ring p.rest.modal.query (history_after g.config.auto_add_history p.answer x.history) p.rest.coming);
}

line_is : (n m : ℕ) (g : Given) (x : SessionState) → keys_and_pastes x.coming < n → keys_and_pastes x.coming < m → line_course n g x ≡ line_course m g x
line_is n m g x low low' =
    let s = setting_in g x.history.kept.entries in
    let c = first_line_state s x.ring x.query x.coming in
    ap (course_by g x)
    (played_alike s (keys_and_pastes x.coming) (line_script n g.custom) (line_script m g.custom) (line_alike g.custom n m (keys_and_pastes x.coming) low low') c (omega arith))

going_same : (a b : SessionState → Course ReadlineError) (r : Result (List ℕ) ReadlineError) (y : SessionState) → ((text : List ℕ) → r ≡ Ok text → a y ≡ b y) → course_after_line a (r, y) ≡ course_after_line b (r, y)
going_same a b (Ok text) y h = h text refl
going_same a b (Err e) y h = refl

pub session_is : (n m : ℕ) (g : Given) (at : ℕ → LineGiven) (x : SessionState) → keys_and_pastes x.coming < n → keys_and_pastes x.coming < m → session n g at x ≡ session m g at x
unfolding session
session_is (suc n) (suc m) g at x low low' =
    let here = for_line g (at 0) in
    let p = line_play_in (suc n) here x in
    let line = course_by here x p in
    let s = setting_in here x.history.kept.entries in
    let others = λ (line : ℕ). at (suc line) in
    ap (events_first line.events)
    (going_same (session n g others) (session m g others) p.answer (state_at p.rest.ring p.rest.modal.query (history_after here.config.auto_add_history p.answer x.history) p.rest.coming)
    (λ text ok. let less = line_falls s n here.custom (first_line_state s x.ring x.query x.coming) text ok in
    session_is n m g others (state_at p.rest.ring p.rest.modal.query (history_after here.config.auto_add_history p.answer x.history) p.rest.coming) (omega arith) (omega arith)))
    ∙ ap (λ (line : Course (Result (List ℕ) ReadlineError × SessionState)). events_first line.events (course_after_line (session m g others) line.answer)) (line_is (suc n) (suc m) here x low low')
session_is _ _ g at x low low' = absurd (omega arith)
