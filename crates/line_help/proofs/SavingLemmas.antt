-- A text that is sent piece by piece, one for each member of a list.
use Rattle.std.proofs.Common.{◌≡◌, ℕ, ◌+◌, ◌<◌, ◌≤◌, Bool, List, length, drop, get_or, subst}
use Rattle.std.proofs.lemmas.List.{drop_more, drop_all}
use Rattle.std.specs.List.{flat_map}
use Rattle.line_config.specs.Sending.{TakesBytes, TakesSome}
use Rattle.line_config.proofs.Taking.{Underway, underway_on, underway_some, underway_end}

module _ {D A : Type 0} (held : D → List ℕ) (failed : D → Bool) (f : A → List ℕ) (xs : List A) (all : List ℕ) where
  abbrev pub From : ℕ → D → D → Type 0
  From i old new = Underway held failed all (flat_map f (drop i xs)) old new

  -- the piece of a place was sent
  pub piece_sent : (i : ℕ) (d : A) {a b c : D} → i < length xs → From i a b → TakesBytes held b c (f (get_or xs i d)) → failed c ≡ failed b → From (i + 1) a c
  piece_sent i d {a = a} {b = b} l u took works =
      underway_on held failed all (f (get_or xs i d)) (flat_map f (drop (i + 1) xs))
      (subst (λ ys. Underway held failed all (flat_map f ys) a b) (drop_more xs i d l) u) took works

  -- it failed
  pub piece_refused : (i : ℕ) (d : A) {a b c : D} → i < length xs → From i a b → TakesSome held b c (f (get_or xs i d)) → TakesSome held a c all
  piece_refused i d {a = a} {b = b} l u some =
      underway_some held failed all (f (get_or xs i d)) (flat_map f (drop (i + 1) xs))
      (subst (λ ys. Underway held failed all (flat_map f ys) a b) (drop_more xs i d l) u) some

  -- all pieces were sent
  pub pieces_sent : (i : ℕ) {a b : D} → length xs ≤ i → From i a b → TakesBytes held a b all
  pieces_sent i {a = a} {b = b} l u = underway_end held failed all (subst (λ ys. Underway held failed all (flat_map f ys) a b) (drop_all i xs l) u)
