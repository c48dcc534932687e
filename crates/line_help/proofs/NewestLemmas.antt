-- The newest of a list of entries.
use Rattle.std.proofs.Common.{◌≡◌, ℕ, ◌+◌, ◌-◌, ◌≤◌, List, [], ◌∷◌, ◌++◌, length, drop, refl, sym, ◌∙◌, ap, arith}
use Rattle.std.proofs.Math.Seq.{drop-length}
use Rattle.std.proofs.lemmas.List.{length-append, length-drop, drop-drop, drop-append-le, drop_at}
use Rattle.line_help.specs.History.{newest}

pub all_new : (n : ℕ) (xs : List (List ℕ)) → length xs ≤ n → newest n xs ≡ xs
all_new n xs few = let e : length xs - n ≡ 0 = omega arith in ap (λ k. drop k xs) e

pub none_new : (xs : List (List ℕ)) → newest 0 xs ≡ []
none_new xs = let e : length xs - 0 ≡ length xs = omega arith in ap (λ k. drop k xs) e ∙ drop-length xs

pub length-newest : (n : ℕ) (xs : List (List ℕ)) → length (newest n xs) ≡ length xs - (length xs - n)
length-newest n xs = length-drop (length xs - n) xs

-- what was dropped before the newest doesn't matter
pub newest_of_rest : (n k : ℕ) (xs : List (List ℕ)) → k ≤ length xs - n → newest n (drop k xs) ≡ newest n xs
newest_of_rest n k xs few =
    let l = length-drop k xs in
    let e : k + (length (drop k xs) - n) ≡ length xs - n = omega arith in
    drop-drop (length (drop k xs) - n) k xs ∙ ap (λ i. drop i xs) e

pub newest_twice : (n m : ℕ) (xs : List (List ℕ)) → n ≤ m → newest n (newest m xs) ≡ newest n xs
newest_twice n m xs le = newest_of_rest n (length xs - m) xs (omega arith)

-- nor does what goes before an addition
pub newest_behind : (n : ℕ) (xs ys : List (List ℕ)) → newest n (newest n xs ++ ys) ≡ newest n (xs ++ ys)
newest_behind n xs ys =
    let l = length-append xs ys in
    ap (λ zs. newest n zs) (sym (drop-append-le (length xs - n) xs ys (omega arith))) ∙ newest_of_rest n (length xs - n) (xs ++ ys) (omega arith)

pub newest_with : (n : ℕ) (xs : List (List ℕ)) (x : List ℕ) → newest (n + 1) (xs ++ x ∷ []) ≡ newest n xs ++ x ∷ []
newest_with n xs x =
    let l = length-append xs (x ∷ []) in
    let e : length (xs ++ x ∷ []) - (n + 1) ≡ length xs - n = omega arith in
    ap (λ k. drop k (xs ++ x ∷ [])) e ∙ drop-append-le (length xs - n) xs (x ∷ []) (omega arith)

pub newest_all_behind : (n : ℕ) (xs ys : List (List ℕ)) → length ys ≡ n → newest n (xs ++ ys) ≡ ys
newest_all_behind n xs ys e =
    let l = length-append xs ys in
    let f : length (xs ++ ys) - n ≡ length xs = omega arith in
    ap (λ k. drop k (xs ++ ys)) f ∙ drop_at xs ys (length xs) refl
