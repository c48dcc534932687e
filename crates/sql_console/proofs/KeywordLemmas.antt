-- A binary search among words in the order of the alphabet finds a word, if one of them is the same.
use Rattle.std.proofs.Common.{◌≡◌, ℕ, zero, suc, ◌+◌, true, not, List, [], ◌∷◌, length, get_or, Result, Ok, Err, is_ok, Ordering, Less, Equal, Greater, is_lt, is_eq, sym, ap, ◌∙◌, ⊎_elim, arith}
use Rattle.std.specs.Cmp.Lexicographic.{texts_ties}
use Rattle.std.specs.List.{list_any}
use Rattle.std.specs.List.Sorted.{IsBinarySearchResult, IsSearchInRange, IsSortedBy}
use Rattle.std.specs.Str.{str_eq_ignore_ascii_case, str_to_ascii_lowercase}
use Rattle.std.proofs.lemmas.Bool.{and_parts, cases_lt, not-true}
use Rattle.std.proofs.lemmas.Cmp.{nat_list_cmp_total}
use Rattle.std.proofs.lemmas.List.Folds.{list_any_at, list_any_none}
use Rattle.std.proofs.lemmas.List.Sorted.{searchable_from_sorted}
use Rattle.sql_console.specs.Tokens.{alphabet, is_alphabetical}

module _ {X : Type 0} where
  sorted : (xs : List X) (word_of : X → List ℕ) → is_alphabetical word_of xs ≡ true → IsSortedBy (λ a b. is_lt (alphabet (word_of a) (word_of b))) xs
  sorted [] word_of h k d low more = absurd (omega arith)
  sorted (x ∷ []) word_of h k d low more = absurd (omega arith)
  sorted (x ∷ y ∷ xs) word_of h zero d low more =
      not-true (is_lt (alphabet (word_of y) (word_of x))) (and_parts (not (is_lt (alphabet (word_of y) (word_of x)))) (is_alphabetical word_of (y ∷ xs)) h).0
  sorted (x ∷ y ∷ xs) word_of h (suc k) d low more =
      let next : suc k + 1 ≡ suc (k + 1) = omega arith in
      let rest = (and_parts (not (is_lt (alphabet (word_of y) (word_of x)))) (is_alphabetical word_of (y ∷ xs)) h).1 in
      ap (λ n. is_lt (alphabet (word_of (get_or (x ∷ y ∷ xs) n d)) (word_of (get_or (y ∷ xs) k d)))) next ∙ sorted (y ∷ xs) word_of rest k d (omega arith) (omega arith)

same : (a b : List ℕ) (o : Ordering) → alphabet a b ≡ o → str_eq_ignore_ascii_case a b ≡ is_eq o
same a b o h = texts_ties (str_to_ascii_lowercase a) (str_to_ascii_lowercase b) ∙ ap is_eq h

module _ {X : Type 0} where
  pub found : (xs : List X) (word_of : X → List ℕ) (word : List ℕ) (r : Result ℕ ℕ) → is_alphabetical word_of xs ≡ true → IsSearchInRange r (length xs)
      → IsBinarySearchResult (λ x. alphabet (word_of x) word) xs r → is_ok r ≡ list_any (λ x. str_eq_ignore_ascii_case (word_of x) word) xs
  found [] word_of word (Ok at) h within equal = absurd (omega arith)
  found (x ∷ xs) word_of word (Ok at) h within equal =
      sym (list_any_at (λ y. str_eq_ignore_ascii_case (word_of y) word) (x ∷ xs) at x within (same (word_of (get_or (x ∷ xs) at x)) word Equal (equal x)))
  found xs word_of word (Err at) h within parted =
      let rises = searchable_from_sorted nat_list_cmp_total (λ x. str_to_ascii_lowercase (word_of x)) xs (str_to_ascii_lowercase word) (sorted xs word_of h) in
      let parts = parted rises in
      sym (list_any_none (λ y. str_eq_ignore_ascii_case (word_of y) word) xs (λ k d below.
      ⊎_elim (λ before. same (word_of (get_or xs k d)) word Less (parts.0 k d (omega arith) before))
      (λ after. same (word_of (get_or xs k d)) word Greater (parts.1 k d after below)) (cases_lt k at)))
