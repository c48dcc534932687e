-- What a line's script comes to: where no fault comes it is the line that is meant, and a fault stops a beginning of it.
use Rattle.std.proofs.Common.{◌≡◌, ◌⊎◌, inl, inr, Bool, true, List, [], ◌∷◌, ◌++◌, refl, sym, ap, subst, ◌∙◌, append_assoc, append-nil}
use Rattle.std.specs.Prelude.{⊤, Result, Ok, Err}
use Rattle.std.specs.List.{FoldsTo}
use Rattle.line_buffer.specs.declared.layout.Layout.{Layout}
use Rattle.script.specs.Played.{Plan, Played, play_with_first_ask, play_after_answer, play_of}
use Rattle.script.specs.Scripts.{Script, Ends, Asks, Goes, then}
use Rattle.line_config.specs.declared.errors.ReadlineError.{ReadlineError, TheVariants.Display, TheVariants.Helper, TheVariants.Memory}
use Rattle.line_keys.specs.KeyFeeds.{InputItem, Paste, IsReadFault}
use Rattle.line_keys.specs.PhraseScripts.{steps}
use Rattle.line_editor.specs.RenderCalls.{Canvas, Ruler, MadeIn}
use Rattle.line_editor.specs.LineScripts.{LineAsk, LineAnswer, LineScript, LineState, effect_at, answer_at, left_at, line_plan, steps_along, played_from, LineStage, Stopped, line_world}
use Rattle.line_editor.specs.Redraws.{RedrawCalls}
use Rattle.line_editor.specs.States.{reason_of}
use Rattle.line_editor.specs.EditSteps.{calls_of_steps, Surface, CutHelp, CutStep, CutEditSteps, CallsMade}
use Rattle.line_editor.specs.Values.{Value, Setting, EditStep, EditStep.Draws, EditStep.Helped}
use Rattle.line_editor.proofs.StopsLemmas.{asked_both, folds_both}

-- by the answer to a request, and by its error
pub played_each : {A B C E X : Type 0} (P : Played A C E X → Type 0) (next : B → Played A C E X) (ask : A) (c : C) → ((x : B) → P (play_with_first_ask ask (next x)))
    → ((e : E) → P (record { answer = Err e; asks = ask ∷ []; rest = c })) → (r : Result B E) → P (play_after_answer next ask c r)
played_each P next ask c answers stops (Ok x) = answers x
played_each P next ask c answers stops (Err e) = stops e

-- ---- one script played after another

module _ {A C E X Y : Type 0} where
  abbrev pub joined_on : (X → C → Played A C E Y) → List A → C → Result X E → Played A C E Y
  joined_on next asks c (Ok x) = record (next x c) { asks = asks ++ (next x c).asks }
  joined_on next asks c (Err e) = record { answer = Err e; asks = asks; rest = c }

  abbrev pub joined : (X → C → Played A C E Y) → Played A C E X → Played A C E Y
  joined next p = joined_on next p.asks p.rest p.answer

  joined_first : (next : X → C → Played A C E Y) (ask : A) (asks : List A) (c : C) (r : Result X E) → joined_on next (ask ∷ asks) c r ≡ play_with_first_ask ask (joined_on next asks c r)
  joined_first next ask asks c (Ok x) = refl
  joined_first next ask asks c (Err e) = refl

module _ {A : Type 0} {R : A → Type 0} {C E X Y : Type 0} (plan : Plan A R C E) (next : X → Script A R Y) where
  abbrev pub follows : X → C → Played A C E Y
  follows x c = play_of plan (next x) c

  on_answer : (ask : A) (later : R ask → Script A R X) (c : C) → ((x : R ask) → play_of plan (then (later x) next) c ≡ joined follows (play_of plan (later x) c))
      → (r : Result (R ask) E) → play_after_answer (λ x. play_of plan (then (later x) next) c) ask c r ≡ joined follows (play_after_answer (λ x. play_of plan (later x) c) ask c r)
  on_answer ask later c same (Ok x) =
      let p = play_of plan (later x) c in ap (play_with_first_ask ask) (same x) ∙ sym (joined_first follows ask p.asks p.rest p.answer)
  on_answer ask later c same (Err e) = refl

  pub played_then : (p : Script A R X) (c : C) → play_of plan (then p next) c ≡ joined follows (play_of plan p c)
  played_then (Ends x) c = refl
  played_then (Asks ask later) c = let rest = plan.left c ask in on_answer ask later rest (λ x. played_then (later x) rest) (plan.answer c ask)

-- ---- what asks come to

module _ (a : Setting) where
  abbrev pub left_along : LineState → List LineAsk → LineState
  left_along k [] = k
  left_along k (ask ∷ asks) = left_along (left_at a k ask) asks

  pub steps_both : (k : LineState) (xs ys : List LineAsk) → steps_along a k (xs ++ ys) ≡ steps_along a k xs ++ steps_along a (left_along k xs) ys
  steps_both k [] ys = refl
  steps_both k (x ∷ xs) ys = ap (λ zs. (effect_at a k x).steps ++ zs) (steps_both (left_at a k x) xs ys) ∙ sym (append_assoc (effect_at a k x).steps (steps_along a (left_at a k x) xs) _)

  abbrev pub PlayedOf : Type 0 → Type 0
  PlayedOf X = Played LineAsk LineState ReadlineError X

  pub rest_along : {X : Type 0} (script : LineScript X) (k : LineState) → (let p = played_from a script k in left_along k p.asks ≡ p.rest)
  rest_along (Ends x) k = refl
  rest_along {X} (Asks ask later) k =
      let left = left_at a k ask in
      played_each (λ (p : PlayedOf X). left_along k p.asks ≡ p.rest) (λ x. played_from a (later x) left) ask left (λ x. rest_along (later x) left) (λ e. refl) (answer_at a k ask)

-- ---- what goes is all of it, or a fault stopped a beginning of it

module _ {R : Type 0} (canvas : Canvas R) (u : Ruler) where
  pub drawn_both : (xs ys : List EditStep) (a b c : Surface R) → CallsMade canvas (calls_of_steps u a.layout xs) a b → CallsMade canvas (calls_of_steps u b.layout ys) b c → CallsMade canvas (calls_of_steps u a.layout (xs ++ ys)) a c
  drawn_both xs ys a b c h k =
      let first = calls_of_steps u a.layout xs in
      let Q : RedrawCalls → Type 0 = λ q. FoldsTo (MadeIn canvas) a.out q.calls c.out × (c.layout ≡ q.layout) in
      subst Q (sym (asked_both u a.layout xs ys))
      (let at : Layout → Type 0 = λ l. FoldsTo (MadeIn canvas) b.out (calls_of_steps u l ys).calls c.out × (c.layout ≡ (calls_of_steps u l ys).layout) in
      let on = subst at h.1 k in
      (folds_both (MadeIn canvas) first.calls (calls_of_steps u first.layout ys).calls a.out b.out c.out h.0 on.0, on.1))

module _ {R : Type 0} (canvas : Canvas R) (u : Ruler) (a : Setting) where
  -- all that is played was done, and the answer is its own
  pub record AllDone {X : Type 0} (p : PlayedOf a X) (x y : LineStage R) (result : Result X ReadlineError) : Type 0 where
    pub answer_is : p.answer ≡ result
    pub rest_is : p.rest ≡ y.kept
    pub drawn : CallsMade canvas (calls_of_steps u x.drawn.layout (steps_along a x.kept p.asks)) x.drawn y.drawn

  -- the first asks of it were answered, and a fault stopped the next one
  pub record StoppedIn {X : Type 0} (p : PlayedOf a X) (x y : LineStage R) (result : Result X ReadlineError) : Type 0 where
    pub done : List LineAsk
    pub ask : LineAsk
    pub others : List LineAsk
    pub first : p.asks ≡ done ++ (ask ∷ others)
    pub at : LineStage R
    pub kept_is : at.kept ≡ left_along a x.kept done
    pub drawn : CallsMade canvas (calls_of_steps u x.drawn.layout (steps_along a x.kept done)) x.drawn at.drawn
    pub fault : ReadlineError
    pub result_is : result ≡ Err fault
    pub stopped : Stopped canvas u a at ask fault y

  abbrev pub Went : {X : Type 0} → PlayedOf a X → LineStage R → LineStage R → Result X ReadlineError → Type 0
  Went p x y result = AllDone p x y result ⊎ StoppedIn p x y result

  some_follow : {B X : Type 0} (next : B → PlayedOf a X) (ask : LineAsk) (c : LineState) (r : Result B ReadlineError) → (others : List LineAsk) × ((play_after_answer next ask c r).asks ≡ ask ∷ others)
  some_follow next ask c (Ok x) = ((next x).asks, refl)
  some_follow next ask c (Err e) = ([], refl)

  module _ {X : Type 0} (ask : LineAsk) (x v y : LineStage R) (result : Result X ReadlineError) (p : PlayedOf a X) where
    -- after an ask that was answered
    went_on : (kept_is : v.kept ≡ left_at a x.kept ask) → CallsMade canvas (calls_of_steps u x.drawn.layout (effect_at a x.kept ask).steps) x.drawn v.drawn → Went p v y result → Went (play_with_first_ask ask p) x y result
    went_on kept_is drawn (inl h) = inl (record {
      answer_is = h.answer_is;
      rest_is = h.rest_is;
      drawn = drawn_both canvas u (effect_at a x.kept ask).steps _ x.drawn v.drawn y.drawn drawn (subst (λ k. CallsMade canvas (calls_of_steps u v.drawn.layout (steps_along a k p.asks)) v.drawn y.drawn) kept_is h.drawn);
    })
    went_on kept_is drawn (inr h) = inr (record {
      done = ask ∷ h.done;
      ask = h.ask;
      others = h.others;
      first = ap (λ (asks : List LineAsk). ask ∷ asks) h.first;
      at = h.at;
      kept_is = h.kept_is ∙ ap (λ k. left_along a k h.done) kept_is;
      drawn = drawn_both canvas u (effect_at a x.kept ask).steps _ x.drawn v.drawn h.at.drawn drawn (subst (λ k. CallsMade canvas (calls_of_steps u v.drawn.layout (steps_along a k h.done)) v.drawn h.at.drawn) kept_is h.drawn);
      fault = h.fault;
      result_is = h.result_is;
      stopped = h.stopped;
    })

  pub went : {X : Type 0} (p : LineScript X) (x y : LineStage R) (result : Result X ReadlineError) → Goes (line_world canvas u a) p x result y → Went (play_of (line_plan a) p x.kept) x y result
  went (Ends z) x y result (is, same) =
      inl (record { answer_is = sym is; rest_is = ap (λ s. s.kept) (sym same); drawn = (ap (λ s. s.drawn.out) (sym same), ap (λ s. s.drawn.layout) same) })
  went {X} (Asks ask later) x y result (inl (z, v, (is, kept_is, drawn), goes)) =
      let left = left_at a x.kept ask in
      let next : LineAnswer ask → PlayedOf a X = λ z. play_of (line_plan a) (later z) left in
      subst (λ p. Went p x y result) (ap (λ k. play_with_first_ask ask (play_of (line_plan a) (later z) k)) kept_is ∙ ap (λ q. play_after_answer next ask left q) (sym is))
      (went_on ask x v y result (play_of (line_plan a) (later z) v.kept) kept_is drawn (went (later z) v y result goes))
  went {X} (Asks ask later) x y result (inr (e, inl (is, kept_is, drawn), result_is)) =
      let left = left_at a x.kept ask in
      let next : LineAnswer ask → PlayedOf a X = λ z. play_of (line_plan a) (later z) left in
      subst (λ p. Went p x y result) (ap (λ q. play_after_answer next ask left q) (sym is))
      (inl (record {
        answer_is = sym result_is;
        rest_is = sym kept_is;
        drawn = subst (λ steps. CallsMade canvas (calls_of_steps u x.drawn.layout steps) x.drawn y.drawn) (sym (append-nil (effect_at a x.kept ask).steps)) drawn;
      }))
  went {X} (Asks ask later) x y result (inr (e, inr stopped, is)) =
      let left = left_at a x.kept ask in
      let follow = some_follow (λ z. play_of (line_plan a) (later z) left) ask left (answer_at a x.kept ask) in
      inr (record {
        done = [];
        ask = ask;
        others = follow.0;
        first = follow.1;
        at = x;
        kept_is = refl;
        drawn = (refl, refl);
        fault = e;
        result_is = is;
        stopped = stopped;
      })

-- ---- a line

module _ {R : Type 0} (canvas : Canvas R) (r : Ruler) where
  unhelped_cause : (fails takes : Bool) (e : ReadlineError) → CutHelp fails takes e → reason_of true ⊤ e
  unhelped_cause fails takes Helper h = tt
  unhelped_cause fails takes Memory h = tt
  unhelped_cause fails takes _ h = absurd h

  caused_by : (e f : ReadlineError) → e ≡ f → reason_of true ⊤ f → reason_of true ⊤ e
  caused_by e f is why = subst (reason_of true ⊤) (sym is) why

  step_cause : (step : EditStep) (e : ReadlineError) (left : Value) (x y : Surface R) → CutStep canvas r x step e left y → reason_of true ⊤ e
  step_cause (Draws v marks redraw) e left x y h = caused_by e Display h.0 refl
  step_cause (Helped v fails takes) e left x y h = unhelped_cause fails takes e h.0
  step_cause step e left x y h = caused_by e Memory h.0 tt

  steps_cause : (steps : List EditStep) (e : ReadlineError) (v : Value) (x y : Surface R) → CutEditSteps canvas r steps x e v y → reason_of true ⊤ e
  unfolding CutEditSteps
  steps_cause [] e v x y h = absurd h
  steps_cause (step ∷ steps) e v x y (inl (between, made, h)) = steps_cause steps e v between y h
  steps_cause (step ∷ steps) e v x y (inr h) = step_cause step e v x y h

  unread_cause : (item : InputItem) (e : ReadlineError) → IsReadFault item e → reason_of true ⊤ e
  unread_cause Paste Memory h = tt
  unread_cause _ _ h = absurd h

  pub stopped_cause : (a : Setting) (ask : LineAsk) (x y : LineStage R) (e : ReadlineError) → Stopped canvas r a x ask e y → reason_of true ⊤ e
  stopped_cause a ask x y e (inl (stops, leaves)) = steps_cause (effect_at a x.kept ask).steps e y.kept.value x.drawn y.drawn stops
  stopped_cause a ask x y e (inr (item, left, is, unread, same)) = unread_cause item e unread
