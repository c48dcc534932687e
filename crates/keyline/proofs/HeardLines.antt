-- Lines and sessions over what opens more: the same, or cut at a read after which nothing is done.
use Rattle.std.proofs.Common.{◌≡◌, ◌⊎◌, inl, inr, ℕ, zero, suc, false, List, [], ◌∷◌, ◌++◌, refl, sym, ap, ◌∙◌, subst, append-nil, append_assoc, Result, Ok, Err, OnOk, IfErr, if◌then◌else◌}
use Rattle.line_buffer.specs.declared.layout.Layout.{Layout}
use Rattle.line_config.specs.declared.errors.ReadlineError.{ReadlineError}
use Rattle.line_config.specs.declared.device.Last.TheVariants.{Failed as SourceFailed}
use Rattle.line_keys.specs.KeyFeeds.LastItem.{End as EndItem}
use Rattle.line_keys.specs.KeyFeeds.{InputItem, InputOf, Key, Paste, behind, item_at, Coming, Pressed, Pasted, CutOff, Ends as NoMore, Refused}
use Rattle.script.specs.Played.{Played, play_with_first_ask, play_after_answer}
use Rattle.script.specs.Scripts.{Ends, Asks}
use Rattle.line_keys.specs.PhraseScripts.{Reads}
use Rattle.line_editor.specs.LineRun.{breaks_after}
use Rattle.line_editor.specs.LineScripts.{Keys, LineState, LineAsk, LineScript, answer_at, effect_at, left_at, line_script, played_from, steps_along}
use Rattle.line_editor.specs.Redraws.{fresh}
use Rattle.line_editor.specs.EditSteps.{calls_of_steps}
use Rattle.line_editor.specs.Values.{Setting}
use Rattle.line_editor.proofs.ToldLemmas.{left_along, played_each}
use Rattle.line_screen.specs.ScreenCalls.{Screen, ruler_of}
use Rattle.keyline.specs.Events.{Begins, Breaks, Course, Hears, asks_events, end_events, course_after_line, line_course, own_events, first_in, line_play_in, session, step_events}
use Rattle.keyline.specs.SessionLaws.{EventsBegin}
use Rattle.keyline.specs.Sessions.{Given, SessionState, coming_from, setting_in, state_at, LineGiven, for_line}
use Rattle.keyline.proofs.EventLemmas.{asks_both}
use Rattle.keyline.proofs.HeardBytes.{NeverEnds, Opens, bytes_open}

-- the one is a prefix of the other
abbrev IsBeginning : {A : Type 0} → List A → List A → Type 0
IsBeginning {A} xs ys = (later : List A) × (ys ≡ xs ++ later)

-- ---- a read that fails

refused_unbroken : (item : InputItem) (h : Coming) → NeverEnds h → IfErr (item_at item h) (λ e. breaks_after e ≡ false)
refused_unbroken Key (Pressed bytes k rest) never = tt
refused_unbroken Key (NoMore bytes EndItem left) never = absurd never
refused_unbroken Paste (Pasted bytes text rest) never = tt
refused_unbroken Paste (CutOff bytes EndItem left) never = absurd never
refused_unbroken item (Refused bytes why) never = absurd never
refused_unbroken _ _ never = refl

-- what is read of the one is read of the other
read_alike : (item : InputItem) (h c : Coming) → Opens h c → OnOk (item_at item h) ((item_at item h ≡ item_at item c) × Opens (behind item h) (behind item c))
read_alike Key (Pressed bytes k rest) (Pressed others next left) on = (ap Ok on.0.0, (on.0.1, on.1))
read_alike Key (Pressed bytes k rest) _ on = absurd (on.0)
read_alike Paste (Pasted bytes text rest) (Pasted others next left) on = (ap Ok on.0.0, (on.0.1, on.1))
read_alike Paste (Pasted bytes text rest) _ on = absurd (on.0)
read_alike _ _ c on = tt

-- ---- a script

abbrev Play : Type 0 → Type 0
Play X = Played LineAsk LineState ReadlineError X

-- it goes alike, or a read cuts the first
record Same {X : Type 0} (p q : Play X) : Type 0 where
  answer : p.answer ≡ q.answer
  asks : p.asks ≡ q.asks
  ring : p.rest.ring ≡ q.rest.ring
  modal : p.rest.modal ≡ q.rest.modal
  rest : Opens p.rest.coming q.rest.coming

record Ended {X : Type 0} (p q : Play X) : Type 0 where
  why : ReadlineError
  answer : p.answer ≡ Err why
  unbroken : breaks_after why ≡ false
  later : List LineAsk
  begins : q.asks ≡ p.asks ++ later

abbrev Goes : {X : Type 0} → Play X → Play X → Type 0
Goes p q = Same p q ⊎ Ended p q

goes_first : {X : Type 0} (ask : LineAsk) (p q : Play X) → Goes p q → Goes (play_with_first_ask ask p) (play_with_first_ask ask q)
goes_first ask p q (inl same) = inl (record { answer = same.answer; asks = ap (λ asks. ask ∷ asks) same.asks; ring = same.ring; modal = same.modal; rest = same.rest })
goes_first ask p q (inr cut) = inr (record { why = cut.why; answer = cut.answer; unbroken = cut.unbroken; later = cut.later; begins = ap (λ asks. ask ∷ asks) cut.begins })

abbrev over : LineState → Coming → LineState
over k c = record k { coming = c }

-- an ask that reads nothing
unheard : {B X : Type 0} (ask : LineAsk) (next : B → Coming → Play X) (k : LineState) (h c : Coming) → Opens h c → ((x : B) → Goes (next x h) (next x c))
    → (r : Result B ReadlineError) → Goes (play_after_answer (λ x. next x h) ask (over k h) r) (play_after_answer (λ x. next x c) ask (over k c) r)
unheard ask next k h c on so (Ok x) = goes_first ask (next x h) (next x c) (so x)
unheard ask next k h c on so (Err e) = inl (record { answer = refl; asks = refl; ring = refl; modal = refl; rest = on })

module _ (s : Setting) where
  module _ {X : Type 0} (item : InputItem) (t : InputOf item → LineScript X) (k : LineState) (h c : Coming)
      (later : (x : InputOf item) → Opens (behind item h) (behind item c) → Goes (played_from s (t x) (over k (behind item h))) (played_from s (t x) (over k (behind item c)))) where
    abbrev led : Coming → Result (InputOf item) ReadlineError → Play X
    led c r = let rest = over k (behind item c) in play_after_answer (λ x. played_from s (t x) rest) (Keys (Reads item)) rest r

    read_goes : (r q : Result (InputOf item) ReadlineError) → OnOk r ((r ≡ q) × Opens (behind item h) (behind item c)) → IfErr r (λ e. breaks_after e ≡ false) → Goes (led h r) (led c q)
    read_goes (Ok x) q alike unbroken =
        subst (λ y. Goes (led h (Ok x)) (led c y)) alike.0
        (goes_first (Keys (Reads item)) (played_from s (t x) (over k (behind item h))) (played_from s (t x) (over k (behind item c))) (later x alike.1))
    read_goes (Err e) q alike unbroken =
        let rest = over k (behind item c) in
        let first = played_each (λ (p : Play X). IsBeginning (Keys (Reads item) ∷ []) p.asks) (λ x. played_from s (t x) rest) (Keys (Reads item)) rest (λ x. (_, refl)) (λ e. ([], refl)) q in
        inr (record { why = e; answer = refl; unbroken = unbroken; later = first.0; begins = first.1 })

  goes : {X : Type 0} (p : LineScript X) (k : LineState) (h c : Coming) → Opens h c → Goes (played_from s p (over k h)) (played_from s p (over k c))
  goes (Ends x) k h c on = inl (record { answer = refl; asks = refl; ring = refl; modal = refl; rest = on })
  goes (Asks (Keys (Reads item)) t) k h c on =
      read_goes item t k h c (λ x next. goes (t x) k (behind item h) (behind item c) next) (item_at item h) (item_at item c) (read_alike item h c on) (refused_unbroken item h on.1)
  goes (Asks ask t) k h c on =
      let rest = left_at s k ask in
      unheard ask (λ x c. played_from s (t x) (over rest c)) rest h c on (λ x. goes (t x) rest h c on) (answer_at s k ask)

-- ---- events

events_unheard : (s : Screen) (a : Setting) (l : Layout) (k : LineState) (h c : Coming) (asks : List LineAsk)
    → asks_events s a l (over k h) asks ≡ asks_events s a l (over k c) asks
events_unheard s a l k h c [] = refl
events_unheard s a l k h c (Keys (Reads item) ∷ asks) =
    ap (λ events. Hears item ∷ events) (events_unheard s a l k (behind item h) (behind item c) asks)
events_unheard s a l k h c (ask ∷ asks) =
    let steps = (effect_at a k ask).steps in
    ap (λ events. step_events s l steps ++ (own_events a k ask ++ events)) (events_unheard s a (calls_of_steps (ruler_of s) l steps).layout (left_at a k ask) h c asks)

-- what ends, and what goes on further
further : {A : Type 0} (xs ys zs : List A) → IsBeginning xs ys → IsBeginning (xs ++ []) (ys ++ zs)
further xs ys zs begins = (begins.0 ++ zs, ap (λ r. r ++ zs) begins.1 ∙ append_assoc xs begins.0 zs ∙ ap (λ r. r ++ (begins.0 ++ zs)) (sym (append-nil xs)))

behind_both : {A : Type 0} (xs ys zs : List A) → IsBeginning ys zs → IsBeginning (xs ++ ys) (xs ++ zs)
behind_both xs ys zs begins = (begins.0, ap (λ r. xs ++ r) begins.1 ∙ sym (append_assoc xs ys begins.0))

-- ---- a line

module _ (n : ℕ) (g : Given) (x : SessionState) (h : Coming) (on : Opens h x.coming) where
  abbrev one : Course (Result (List ℕ) ReadlineError × SessionState)
  one = line_course n g (record x { coming = h })

  abbrev other : Course (Result (List ℕ) ReadlineError × SessionState)
  other = line_course n g x

  record SameLine : Type 0 where
    events : one.events ≡ other.events
    answer : one.answer ≡ (other.answer.0, record other.answer.1 { coming = one.answer.1.coming })
    rest : Opens one.answer.1.coming other.answer.1.coming

  record StoppedLine : Type 0 where
    why : ReadlineError
    outcome : one.answer.0 ≡ Err why
    begins : IsBeginning one.events other.events

  -- a line that is cut gets no new row
  line_goes : SameLine ⊎ StoppedLine
  line_goes =
      let s = g.screen in
      let a = setting_in g x.history.kept.entries in
      let l = fresh s.mode in
      let k = first_in g x in
      let p = line_play_in n g (record x { coming = h }) in
      let q = line_play_in n g x in
      let mine = asks_events s a l k p.asks in
      let heard : one.events ≡ Begins s ∷ (mine ++ end_events p.answer) = ap (λ events. Begins s ∷ (events ++ end_events p.answer)) (events_unheard s a l k h x.coming p.asks) in
      elim (goes a (line_script n g.custom) k h x.coming on) [
        | inl same ↦ inl (record { events = heard ∙ rw (same.asks, same.answer) refl; answer = rw (same.answer, same.ring, same.modal) refl; rest = same.rest })
        | inr cut ↦
            let more = asks_events s a (calls_of_steps (ruler_of s) l (steps_along a k p.asks)).layout (left_along a k p.asks) cut.later ++ end_events q.answer in
            let fewer : one.events ≡ Begins s ∷ mine =
            heard ∙ ap (λ events. Begins s ∷ (mine ++ events)) (ap end_events cut.answer ∙ ap (λ b. if b then Breaks ∷ [] else []) cut.unbroken) ∙ ap (λ events. Begins s ∷ events) (append-nil mine) in
            let all : other.events ≡ (Begins s ∷ mine) ++ more =
            rw (cut.begins, asks_both s a l k p.asks cut.later) (ap (λ events. Begins s ∷ events) (append_assoc mine _ (end_events q.answer))) in
            inr (record { why = cut.why; outcome = cut.answer; begins = (more, all ∙ ap (λ events. events ++ more) (sym fewer)) })
      ]

-- ---- a session

on_line : (next : SessionState → Course ReadlineError) → ((x : SessionState) (c : Coming) → Opens c x.coming → IsBeginning (next (record x { coming = c })).events (next x).events)
    → (o : Result (List ℕ) ReadlineError) (x : SessionState) (c : Coming) → Opens c x.coming → IsBeginning (course_after_line next (o, record x { coming = c })).events (course_after_line next (o, x)).events
on_line next so (Ok text) x c on = so x c on
on_line next so (Err e) x c on = ([], refl)

session_begins : (n : ℕ) (g : Given) (at : ℕ → LineGiven) (x : SessionState) (h : Coming) → Opens h x.coming → IsBeginning (session n g at (record x { coming = h })).events (session n g at x).events
unfolding session
session_begins zero g at x h on = ([], refl)
session_begins (suc n) g at x h on =
    let next : SessionState → Course ReadlineError = session n g (λ line. at (suc line)) in
    let fewer = line_course (suc n) (for_line g (at 0)) (record x { coming = h }) in
    let all = line_course (suc n) (for_line g (at 0)) x in
    let others = (course_after_line next all.answer).events in
    let so = λ (x : SessionState) (c : Coming) (on : Opens c x.coming). session_begins n g (λ line. at (suc line)) x c on in
    elim (line_goes (suc n) (for_line g (at 0)) x h on) [
      | inl same ↦
          subst (λ events. IsBeginning (events ++ (course_after_line next fewer.answer).events) (all.events ++ others)) (sym same.events)
          (subst (λ answer. IsBeginning (all.events ++ (course_after_line next answer).events) (all.events ++ others)) (sym same.answer)
          (behind_both all.events (course_after_line next (all.answer.0, record all.answer.1 { coming = fewer.answer.1.coming })).events others (on_line next so all.answer.0 all.answer.1 fewer.answer.1.coming same.rest)))
      | inr cut ↦
          subst (λ o. IsBeginning (fewer.events ++ (course_after_line next (o, fewer.answer.1)).events) (all.events ++ others)) (sym cut.outcome) (further fewer.events all.events others cut.begins)
    ]

-- ---- the laws

pub lines_begin : (n : ℕ) (g : Given) → EventsBegin (λ x. (line_course n g x).events)
lines_begin n g ring query history mode bytes more last =
    elim (line_goes n g (state_at ring query history (coming_from mode (bytes ++ more) last)) (coming_from mode bytes SourceFailed) (bytes_open mode bytes more last)) [
      | inl same ↦ ([], sym same.events ∙ sym (append-nil _))
      | inr cut ↦ cut.begins
    ]

pub sessions_begin : (n : ℕ) (g : Given) (at : ℕ → LineGiven) → EventsBegin (λ x. (session n g at x).events)
sessions_begin n g at ring query history mode bytes more last =
    session_begins n g at (state_at ring query history (coming_from mode (bytes ++ more) last)) (coming_from mode bytes SourceFailed) (bytes_open mode bytes more last)
