-- Runs of bytes, longer by a byte, a block or several blocks.
use Rattle.std.proofs.Common.{◌≡◌, ℕ, ◌+◌, ◌-◌, ◌<◌, ◌≤◌, Bool, true, false, ◌&&◌, List, length, take, drop, get_or, sym, ap, ◌∙◌, arith, slice_range}
use Rattle.std.specs.List.{list_all}
use Rattle.std.proofs.lemmas.Bool.{and_from}
use Rattle.std.proofs.lemmas.List.{drop-take, drop_more, length-drop, take_all}
use Rattle.std.proofs.lemmas.List.Folds.{drop_split, list_all-append, list_all_more}
use Rattle.unicode_segmentation.proofs.TextLemmas.{take_split}

-- a part of the bytes behind a place, and what follows it
part_of_rest : (p : ℕ → Bool) (xs : List ℕ) (i j : ℕ) → i ≤ j → list_all p (drop i xs) ≡ (list_all p (slice_range xs i j) && list_all p (drop j xs))
part_of_rest p xs i j le = ap (list_all p) (drop_split xs i j le) ∙ list_all-append p (slice_range xs i j) (drop j xs)

pub block_more : (p : ℕ → Bool) (xs : List ℕ) (i j : ℕ) → i ≤ j → list_all p (slice_range xs i j) ≡ true → list_all p (drop j xs) ≡ true → list_all p (drop i xs) ≡ true
block_more p xs i j le h k = part_of_rest p xs i j le ∙ and_from _ _ h k

pub block_before : (p : ℕ → Bool) (xs : List ℕ) (i j : ℕ) → i ≤ j → list_all p (slice_range xs i j) ≡ true → list_all p (take i xs) ≡ true → list_all p (take j xs) ≡ true
block_before p xs i j le h k = ap (list_all p) (take_split xs i j le) ∙ list_all-append p (take i xs) (slice_range xs i j) ∙ and_from _ _ k h

pub byte_more : (p : ℕ → Bool) (xs : List ℕ) (i : ℕ) → 0 < i → i ≤ length xs → p (get_or xs (i - 1) 0) ≡ true → list_all p (drop i xs) ≡ true → list_all p (drop (i - 1) xs) ≡ true
byte_more p xs i l m h k =
    let same : i - 1 + 1 ≡ i = omega (arith, l) in
    ap (list_all p) (drop_more xs (i - 1) 0 (omega (arith, l, m))) ∙ and_from _ _ h (ap (λ n. list_all p (drop n xs)) same ∙ k)

pub byte_before : (p : ℕ → Bool) (xs : List ℕ) (i : ℕ) → i < length xs → p (get_or xs i 0) ≡ true → list_all p (take i xs) ≡ true → list_all p (take (i + 1) xs) ≡ true
byte_before p xs i l h k = list_all_more p xs i 0 l ∙ and_from _ _ k h

pub blocks_more : (p : ℕ → Bool) (xs : List ℕ) (i j : ℕ) → i ≤ j → list_all p (drop i (take j xs)) ≡ true → list_all p (drop j xs) ≡ true → list_all p (drop i xs) ≡ true
blocks_more p xs i j le h k =
    let same : i + (j - i) ≡ j = omega (arith, le) in
    block_more p xs i j le (ap (list_all p) (sym (drop-take i (j - i) xs) ∙ ap (λ n. drop i (take n xs)) same) ∙ h) k

pub blocks_before : (p : ℕ → Bool) (xs : List ℕ) (i n : ℕ) → list_all p (take n (drop i xs)) ≡ true → list_all p (take i xs) ≡ true → list_all p (take (i + n) xs) ≡ true
blocks_before p xs i n h k =
    let long : i + n - i ≡ n = omega arith in
    block_before p xs i (i + n) (omega arith) (ap (λ m. list_all p (take m (drop i xs))) long ∙ h) k

pub part_passed : (p : ℕ → Bool) (xs : List ℕ) (i j : ℕ) → i ≤ j → list_all p (slice_range xs i j) ≡ true → list_all p (drop j xs) ≡ list_all p (drop i xs)
part_passed p xs i j le h = sym (part_of_rest p xs i j le ∙ ap (λ b. b && list_all p (drop j xs)) h)

pub part_failed : (p : ℕ → Bool) (xs : List ℕ) (i j : ℕ) → i ≤ j → list_all p (slice_range xs i j) ≡ false → list_all p (drop i xs) ≡ false
part_failed p xs i j le h = part_of_rest p xs i j le ∙ ap (λ b. b && list_all p (drop j xs)) h

-- the bytes behind a place, as a part up to their end
pub part_is_rest : (p : ℕ → Bool) (xs : List ℕ) (i : ℕ) → list_all p (slice_range xs i (length xs)) ≡ list_all p (drop i xs)
part_is_rest p xs i = ap (list_all p) (take_all (length xs - i) (drop i xs) (omega (arith, length-drop i xs)))
