-- Scripts played on an input, without faults: the answer, or why the input can't give one; the
-- requests in order; and what remains of the input.
use Rattle.std.specs.Prelude.{◌≡◌, List, [], ◌∷◌, ◌++◌, Result, Ok, Err}
use Rattle.script.specs.Scripts.{Script, Ends, Asks, World}

-- what an input answers to each request, or why it can't, and what remains of it
pub record Plan (A : Type 0) (R : A → Type 0) (C E : Type 0) : Type 0 where
  pub answer : C → (ask : A) → Result (R ask) E
  pub left : C → A → C

pub record Played (A C E X : Type 0) : Type 0 where
  pub answer : Result X E
  pub asks : List A
  pub rest : C

abbrev pub play_with_first_ask : {A C E X : Type 0} → A → Played A C E X → Played A C E X
play_with_first_ask ask p = record p { asks = ask ∷ p.asks }

-- a request, then what its answer leads to
abbrev pub play_after_answer : {A B C E X : Type 0} → (B → Played A C E X) → A → C → Result B E
    → Played A C E X
play_after_answer next ask c (Ok x) = play_with_first_ask ask (next x)
play_after_answer next ask c (Err e) = record { answer = Err e; asks = ask ∷ []; rest = c }

abbrev pub play_of : {A : Type 0} {R : A → Type 0} {C E X : Type 0} → Plan A R C E → Script A R X
    → C → Played A C E X
play_of plan (Ends answer) c = record { answer = Ok answer; asks = []; rest = c }
play_of plan (Asks ask later) c =
    let left = plan.left c ask in
    play_after_answer (λ x. play_of plan (later x) left) ask left (plan.answer c ask)

-- a world that answers as its input says, and leaves what remains of that
pub record Plays {A : Type 0} {R : A → Type 0} {S C E F : Type 0} (plan : Plan A R C E)
    (coming : S → C) (w : World A R S F) : Type 0 where
  pub answers : (s t : S) (ask : A) (x : R ask) → w.made s ask x t
      → plan.answer (coming s) ask ≡ Ok x
  pub leaves : (s t : S) (ask : A) (x : R ask) → w.made s ask x t
      → coming t ≡ plan.left (coming s) ask

-- these requests were answered, in order
abbrev pub Made : {A : Type 0} {R : A → Type 0} {S E : Type 0} → World A R S E → List A → S → S
    → Type 0
Made w [] s t = t ≡ s
Made {A} {R} {S} w (ask ∷ asks) s t =
    (x : R ask) × (u : S) × w.made s ask x u × Made w asks u t

-- all requests of the script on the input were answered, and this is its answer
pub record Whole {A : Type 0} {R : A → Type 0} {S C E F X : Type 0} (coming : S → C)
    (w : World A R S F) (p : Played A C E X) (answer : X) (s t : S) : Type 0 where
  pub answer_is : p.answer ≡ Ok answer
  pub rest_is : coming t ≡ p.rest
  pub made : Made w p.asks s t

-- the first requests were answered, and the next one was cut by this fault
pub record Cut {A : Type 0} {R : A → Type 0} {S C E F X : Type 0} (w : World A R S F)
    (p : Played A C E X) (fault : F) (s t : S) : Type 0 where
  pub done : List A
  pub ask : A
  pub others : List A
  pub at : S
  pub first : p.asks ≡ done ++ (ask ∷ others)
  pub made : Made w done s at
  pub cut : w.cut at ask fault t
