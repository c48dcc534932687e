-- Places between characters, before and after a part of a text was exchanged.
use Rattle.std.proofs.Common.{◌≡◌, ℕ, ◌+◌, ◌-◌, ◌<◌, ◌≤◌, List, ◌++◌, length, take, drop, refl, sym, ap, ◌∙◌, subst, arith, append_assoc, length-append, IsUtf8, IsCharBoundary, slice_range}
use Rattle.std.specs.List.{replace_range}
use Rattle.std.proofs.lemmas.List.{length-take-le, length-drop, take-append-drop, take-take, drop-drop}
use Rattle.std.proofs.Math.Seq.{drop-append-add}
use Rattle.std.proofs.lemmas.Slice.{between_is}
use Rattle.std.proofs.lemmas.Str.{IsCharBoundary-at_seam, IsUtf8-drop, IsUtf8-between, IsUtf8-append}

-- a place is a boundary where what follows it is a text
pub at_seam : (bs xs ys : List ℕ) (n : ℕ) → bs ≡ xs ++ ys → length xs ≡ n → IsUtf8 ys → IsCharBoundary bs n
at_seam bs xs ys n e l u = subst (IsCharBoundary bs) l (IsCharBoundary-at_seam bs xs ys e u)

-- reserved memory is enough
pub no_want : {room size : ℕ} → room < size → size ≤ room → ⊥
no_want lt le = omega arith

module _ (text : List ℕ) (from upto : ℕ) (added : List ℕ) where
  pub length-replace_range : from ≤ upto → upto ≤ length text → length (replace_range text from upto added) + (upto - from) ≡ length text + length added
  length-replace_range le fits =
      omega (arith, length-append (take from text ++ added) (drop upto text), length-append (take from text) added, length-take-le from text (omega arith), length-drop upto text)

  -- the place where the new text starts
  pub start_replaced : IsUtf8 text → IsUtf8 added → IsCharBoundary text from → IsCharBoundary text upto → IsCharBoundary (replace_range text from upto added) from
  start_replaced u v b e =
      at_seam _ (take from text) (added ++ drop upto text) from (append_assoc (take from text) added (drop upto text)) (length-take-le from text b.0)
      (IsUtf8-append _ _ v (IsUtf8-drop text upto u e))

  -- and the one where it ends
  pub end_replaced : IsUtf8 text → IsCharBoundary text from → IsCharBoundary text upto → IsCharBoundary (replace_range text from upto added) (from + length added)
  end_replaced u b e =
      at_seam _ (take from text ++ added) (drop upto text) (from + length added) refl (length-append (take from text) added ∙ ap (λ n. n + length added) (length-take-le from text b.0))
      (IsUtf8-drop text upto u e)

  -- what lies after it
  pub drop_replaced : (i j k : ℕ) → i ≡ (from + length added) + k → j ≡ upto + k → from ≤ length text → drop i (replace_range text from upto added) ≡ drop j text
  drop_replaced i j k is js le =
      ap (λ n. drop n (replace_range text from upto added)) (is ∙ ap (λ n. n + k) (sym long)) ∙ drop-append-add (take from text ++ added) (drop upto text) k
      ∙ drop-drop k upto text ∙ ap (λ n. drop n text) (sym js)
    where
      long : length (take from text ++ added) ≡ from + length added
      long = length-append (take from text) added ∙ ap (λ n. n + length added) (length-take-le from text le)

  -- a place before it
  pub before_replaced : (at : ℕ) → at ≤ from → IsUtf8 text → IsUtf8 added → IsCharBoundary text at → IsCharBoundary text from → IsCharBoundary text upto
      → IsCharBoundary (replace_range text from upto added) at
  before_replaced at le u v a b e =
      at_seam _ (take at text) ((slice_range text at from ++ added) ++ drop upto text) at parts (length-take-le at text a.0)
      (IsUtf8-append _ _ (IsUtf8-append _ _ (IsUtf8-between text at from u le a b) v) (IsUtf8-drop text upto u e))
    where
      front : take from text ≡ take at text ++ slice_range text at from
      front =
          sym (take-append-drop at (take from text)) ∙ ap (λ xs. xs ++ drop at (take from text)) (take-take at from text le)
          ∙ ap (λ xs. take at text ++ xs) (sym (between_is text at from))

      parts : replace_range text from upto added ≡ take at text ++ ((slice_range text at from ++ added) ++ drop upto text)
      parts = ap (λ xs. (xs ++ added) ++ drop upto text) front ∙ simp append_assoc
