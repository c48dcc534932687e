-- Scripts: requests in order, each depending on the answers before it; and where a fault cuts them.
use Rattle.std.specs.Prelude.{◌≡◌, ◌⊎◌, Result, Ok, Err}

-- an answer, or a request and what follows for each answer to it
pub data Script (A : Type 0) (R : A → Type 0) (X : Type 0) : Type 0 where
  Ends : (answer : X) → Script A R X
  Asks : (ask : A) → (later : R ask → Script A R X) → Script A R X

-- the effect of requests on a state: one that is answered, and one that a fault cuts
pub record World (A : Type 0) (R : A → Type 0) (S E : Type 0) : Type 1 where
  pub made : S → (ask : A) → R ask → S → Type 0
  pub cut : S → A → E → S → Type 0

-- requests made in order, to the answer or to the request that a fault cut
abbrev pub Goes : {A : Type 0} {R : A → Type 0} {S E X : Type 0} → World A R S E → Script A R X
    → S → Result X E → S → Type 0
Goes w (Ends answer) s r t = (r ≡ Ok answer) × (t ≡ s)
Goes {A} {R} {S} {E} w (Asks ask later) s r t =
    ((x : R ask) × (u : S) × w.made s ask x u × Goes w (later x) u r t)
    ⊎ ((e : E) × w.cut s ask e t × (r ≡ Err e))

-- one script, then what its answer leads to
abbrev pub then : {A : Type 0} {R : A → Type 0} {X Y : Type 0} → Script A R X
    → (X → Script A R Y) → Script A R Y
then (Ends answer) next = next answer
then (Asks ask later) next = Asks ask (λ x. then (later x) next)
