-- Where `--extended` stands among words.
use Rattle.std.proofs.Common.{◌≡◌, ◌∙◌, ℕ, zero, suc, ◌+◌, ◌-◌, ◌++◌, ◌<◌, nat_lt, Bool, true, false, List, [], ◌∷◌, ap, ap₂, refl, sym, Option, None, Some, cond, length, map, take, drop, arith, if◌then◌else◌, ◌||◌, bytes_eq, codes, get_or, not, option_map, position, remove}
use Rattle.std.specs.List.{position_or_len}
use Rattle.std.proofs.lemmas.Bool.Decides.{nat_tests}
use Rattle.std.proofs.lemmas.List.{drop-map, take-map, take_rest}
use Rattle.std.proofs.lemmas.List.Quantifiers.{position-Some}
use Rattle.clap.specs.Words.{Text}
use Rattle.keyline.specs.Options.{decides, place_of_extended}

passes : (a b : Bool) (x y z : Option ℕ) → (a || b) ≡ false → (if a then x else if b then y else z) ≡ z
passes a b x y z doesnt = grind arith

stops : (a b : Bool) (z : Option ℕ) → (a || b) ≡ true → (if a then Some 0 else if b then None else z) ≡ (if a then Some 0 else None)
stops a b z does = grind arith

later : (a : Bool) (i : ℕ) → option_map suc (if a then Some i else None) ≡ (if a then Some (suc i) else None)
later a i = grind arith

skips : (b : Bool) (n l : ℕ) → nat_lt (cond (not b) (1 + n) 0) (suc l) ≡ false → (b ≡ false) × (nat_lt n l ≡ false)
skips b n l low = grind (arith, nat_tests)

is_none_at : (b : Bool) (i : ℕ) → cond b (Some i) None ≡ None → b ≡ false
is_none_at b i is = grind arith

-- the words behind one that doesn't decide
behind : (word : Text) (words : List Text) → decides word ≡ false → place_of_extended (word ∷ words) ≡ option_map suc (place_of_extended words)
behind word words doesnt = passes (bytes_eq word (codes "--extended")) (bytes_eq word (codes "--")) (Some 0) None (option_map suc (place_of_extended words)) doesnt

module _ {A : Type 0} (text : A → Text) where
  at_first : (xs : List A) (i : ℕ) (d : A) → i < length xs → decides (text (get_or xs i d)) ≡ true → ((k : ℕ) → k < i → decides (text (get_or xs k d)) ≡ false)
      → place_of_extended (map text xs) ≡ (if bytes_eq (text (get_or xs i d)) (codes "--extended") then Some i else None)
  at_first [] i d low does before = absurd (omega arith)
  at_first (x ∷ xs) zero d low does before =
      stops (bytes_eq (text x) (codes "--extended")) (bytes_eq (text x) (codes "--")) (option_map suc (place_of_extended (map text xs))) does
  at_first (x ∷ xs) (suc i) d low does before =
      behind (text x) (map text xs) (before 0 (omega arith))
      ∙ (ap (option_map suc) (at_first xs i d (omega arith) does (λ k l. before (suc k) (omega arith)))
      ∙ later (bytes_eq (text (get_or xs i d)) (codes "--extended")) i)

  -- the first word that decides is the flag, or none is
  pub at_place : (xs : List A) (i : ℕ) (d : A) → position (λ x. decides (text x)) xs ≡ Some i
      → place_of_extended (map text xs) ≡ (if bytes_eq (text (get_or xs i d)) (codes "--extended") then Some i else None)
  at_place xs i d found = let p = position-Some (λ x. decides (text x)) xs i d found in at_first xs i d p.0 p.1 p.2

  nowhere_by : (xs : List A) → nat_lt (position_or_len (λ x. decides (text x)) xs) (length xs) ≡ false → place_of_extended (map text xs) ≡ None
  nowhere_by [] low = refl
  nowhere_by (x ∷ xs) low =
      let both = skips (decides (text x)) (position_or_len (λ x. decides (text x)) xs) (length xs) low in
      behind (text x) (map text xs) both.0 ∙ ap (option_map suc) (nowhere_by xs both.1)

  pub nowhere : (xs : List A) → position (λ x. decides (text x)) xs ≡ None → place_of_extended (map text xs) ≡ None
  nowhere xs none = nowhere_by xs (is_none_at (nat_lt (position_or_len (λ x. decides (text x)) xs) (length xs)) (position_or_len (λ x. decides (text x)) xs) none)

  pub is_flag : (xs : List A) (i : ℕ) (x : A) (word : Text) (b : Bool) → Some i ≡ position (λ x. decides (text x)) xs → get_or xs i x ≡ x → word ≡ text x
      → b ≡ bytes_eq word (codes "--extended") → (if b then Some i else None) ≡ place_of_extended (map text xs)
  is_flag xs i x word b found at same does = sym (at_place xs i x (sym found)
      ∙ (ap (λ (y : A). if bytes_eq (text y) (codes "--extended") then Some i else None) at
      ∙ (ap (λ w. if bytes_eq w (codes "--extended") then Some i else None) (sym same) ∙ ap (λ b. if b then Some i else None) (sym does))))

  -- the words before a place and those after it
  pub removed : (xs : List A) (i : ℕ) (none first all : List Text) → none ≡ [] → first ≡ none ++ map text (take i xs)
      → all ≡ first ++ map text (take (length xs - (i + 1)) (drop (i + 1) xs)) → all ≡ remove (map text xs) i
  removed xs i none first all none_is first_is all_is =
      let next : i + 1 ≡ suc i = omega arith in
      all_is ∙ ap₂ (λ (a b : List Text). a ++ b)
      (first_is ∙ (ap (λ (n : List Text). n ++ map text (take i xs)) none_is ∙ sym (take-map text i xs)))
      (ap (map text) (take_rest xs (i + 1)) ∙ (sym (drop-map text (i + 1) xs) ∙ ap (λ n. drop n (map text xs)) next))
