-- From the mask of some bytes that are tested at once to the place of the first one that passes a test.
use Rattle.std.proofs.Common.{◌≡◌, ℕ, ◌+◌, ◌%◌, ◌^◌, ◌<◌, ◌≤◌, eqb, ◌==◌, if◌then◌else◌, Bool, true, false, not, List, [], ◌∷◌, map, length, take, drop, get_or, Fits, w8, w64, refl, sym, ap, ap₂, ◌∙◌, subst, arith}
use Rattle.std.specs.Int.{trailing_zeros}
use Rattle.std.specs.List.{position_or_len}
use Rattle.std.proofs.lemmas.Bool.{agree_below, agree_below_at, cond-true, cond-false, eq-eqb, ne_eqb}
use Rattle.std.proofs.lemmas.List.{length-map, length-take-le, length-drop, drop-drop, take-append-drop}
use Rattle.std.proofs.lemmas.List.Folds.{prefix_len-append}
use Rattle.std.proofs.lemmas.List.Sums.{prefix_len-le-length}
use Rattle.std.proofs.lemmas.Simd.{map-map, zip2-map, mask_l-mod, length-chunk, chunk-fits, first_set_mask_l}
use lib.Lanes.{chunk, zip2, mask_l, top, Each1}

-- an operation on two vectors that were computed lane by lane from v
pub both : (h : ℕ → ℕ → ℕ) (f g : ℕ → ℕ) (v : List ℕ) {a b : List ℕ} → a ≡ map f v → b ≡ map g v → zip2 h a b ≡ map (λ x. h (f x) (g x)) v
both h f g v e k = ap₂ (zip2 h) e k ∙ zip2-map h f g v

module _ (p : ℕ → Bool) (f : ℕ → ℕ) (same : agree_below (λ x. top 7 (f x)) p 256 ≡ true) where
  each_tested : (v : List ℕ) → Each1 (Fits w8) v → map (λ x. top 7 (f x)) v ≡ map p v
  each_tested [] fits = refl
  each_tested (x ∷ xs) fits = ap₂ (λ a b. a ∷ b) (agree_below_at (λ y. top 7 (f y)) p 256 x same fits.0.fits) (each_tested xs fits.1)

  module _ (d : List ℕ) (i n r : ℕ) (z : List ℕ) (room : i + n ≤ length d) (few : n ≤ 64) (fits : (k : ℕ) → Fits w8 (get_or d k 0)) (lanes : z ≡ map f (chunk i n d)) where
    mask_is : mask_l (map (top 7) z) % 2 ^ 64 ≡ mask_l (map p (chunk i n d))
    mask_is =
        ap (λ l. mask_l l % 2 ^ 64) (ap (map (top 7)) lanes ∙ map-map (top 7) f (chunk i n d) ∙ each_tested (chunk i n d) (chunk-fits w8 i n d fits))
        ∙ mask_l-mod (map p (chunk i n d)) 64 (omega (arith, length-map (chunk i n d) p, length-chunk i n d room))

    -- the lowest bit is that of the first byte that passes
    pub first_found : (r ≡ (if mask_l (map (top 7) z) % 2 ^ 64 == 0 then n else trailing_zeros w64 (mask_l (map (top 7) z) % 2 ^ 64))) → r ≡ position_or_len p (take n (drop i d))
    first_found is = is ∙ ap (λ m. if m == 0 then n else trailing_zeros w64 m) mask_is ∙ first_set_mask_l p (chunk i n d) n (length-chunk i n d room) few

-- ---- the first that passes, some bytes after the others
module _ (p : ℕ → Bool) (text : List ℕ) where
  split : (place n : ℕ) → place + n ≤ length text → position_or_len p (drop place text)
      ≡ (if eqb (position_or_len p (take n (drop place text))) n then n + position_or_len p (drop (place + n) text) else position_or_len p (take n (drop place text)))
  split place n room =
      let xs = drop place text in
      let long : length (take n xs) ≡ n = length-take-le n xs (omega (arith, length-drop place text)) in
      ap (position_or_len p) (sym (take-append-drop n xs)) ∙ prefix_len-append (λ x. not (p x)) (take n xs) (drop n xs)
      ∙ ap (λ k. if eqb (position_or_len p (take n xs)) k then k + position_or_len p (drop n xs) else position_or_len p (take n xs)) long
      ∙ ap (λ ys. if eqb (position_or_len p (take n xs)) n then n + position_or_len p ys else position_or_len p (take n xs)) (drop-drop n place text)

  pub found_within : (place n : ℕ) → place + n ≤ length text → position_or_len p (take n (drop place text)) ≤ n
  found_within place n room =
      omega (arith, prefix_len-le-length (λ x. not (p x)) (take n (drop place text)), length-take-le n (drop place text) (omega (arith, length-drop place text)))

  -- it isn't among those that were tested
  pub first_later : (from place n count : ℕ) → place + n ≤ length text → count ≡ position_or_len p (take n (drop place text)) → n ≤ count
      → from + position_or_len p (drop from text) ≡ place + position_or_len p (drop place text)
      → from + position_or_len p (drop from text) ≡ place + count + position_or_len p (drop (place + count) text)
  first_later from place n count room is all so_far =
      let long : length (take n (drop place text)) ≡ n = length-take-le n (drop place text) (omega (arith, length-drop place text)) in
      let whole : count ≡ n = omega (arith, is, long, prefix_len-le-length (λ x. not (p x)) (take n (drop place text))) in
      let later : position_or_len p (drop place text) ≡ n + position_or_len p (drop (place + n) text) = split place n room ∙ cond-true _ _ _ (eq-eqb _ _ (sym is ∙ whole)) in
      subst (λ k. from + position_or_len p (drop from text) ≡ place + k + position_or_len p (drop (place + k) text)) (sym whole) (omega (arith, so_far, later))

  -- it is
  pub first_here : (from place n count : ℕ) → place + n ≤ length text → count ≡ position_or_len p (take n (drop place text)) → count < n
      → from + position_or_len p (drop from text) ≡ place + position_or_len p (drop place text) → place + count ≡ from + position_or_len p (drop from text)
  first_here from place n count room is short so_far =
      let m = position_or_len p (take n (drop place text)) in
      let other : eqb m n ≡ false = ne_eqb m n (λ e. omega (arith, is, e, short)) in
      let here : position_or_len p (drop place text) ≡ count = split place n room ∙ cond-false _ _ _ other ∙ sym is in
      omega (arith, so_far, here)
