-- A text at the seam of its two parts: a text put in there, and a part taken out from there on.
use Rattle.std.proofs.Common.{◌≡◌, ℕ, ◌+◌, ◌-◌, ◌<◌, ◌≤◌, Bool, List, [], ◌++◌, length, take, drop, min, refl, sym, ap, ap₂, ◌∙◌, subst, arith, add-zero, IsUtf8, IsCharBoundary, slice_range}
use Rattle.std.specs.List.{replace_range, insert_slice}
use Rattle.std.proofs.lemmas.Bool.Decides.{nat_tests}
use Rattle.std.proofs.lemmas.List.{append-nil, length-append}
use Rattle.std.proofs.lemmas.List.Edits.{length-between}
use Rattle.std.proofs.Math.Seq.{take-append_seam, drop-append_seam, drop-append-add}
use Rattle.line_buffer.specs.declared.types.Direction.TheVariants.{Forward}
use Rattle.line_buffer.specs.Line.{Line}
use Rattle.line_buffer.specs.Event.{Swaps, deletion, place_after_event, line_after_event, InsertStr}

pub insert_at_seam : (xs ys zs : List ℕ) → (xs ++ zs) ++ ys ≡ insert_slice (xs ++ ys) (length xs) zs
insert_at_seam xs ys zs =
    sym (ap (λ l. (l ++ zs) ++ drop (length xs) (xs ++ ys)) (take-append_seam xs ys) ∙ ap (λ l. (xs ++ zs) ++ l) (drop-append_seam xs ys))

pub drop_past_seam : (xs ys : List ℕ) (n : ℕ) → length xs ≤ n → drop n (xs ++ ys) ≡ drop (n - length xs) ys
drop_past_seam xs ys n le = ap (λ k. drop k (xs ++ ys)) (let k : n ≡ length xs + (n - length xs) = omega arith in k) ∙ drop-append-add xs ys (n - length xs)

pub remove_at_seam : (xs ys : List ℕ) (n : ℕ) → length xs ≤ n → xs ++ drop (n - length xs) ys ≡ replace_range (xs ++ ys) (length xs) n []
remove_at_seam xs ys n le =
    sym (ap (λ l. l ++ drop n (xs ++ ys)) (append-nil (take (length xs) (xs ++ ys)) ∙ take-append_seam xs ys) ∙ ap (λ l. xs ++ l) (drop_past_seam xs ys n le))

-- a text in place of a part
pub swaps_replacement : (from upto : ℕ) (added before after : List ℕ) → from ≤ upto → IsCharBoundary before from → IsCharBoundary before upto → IsUtf8 added → after ≡ replace_range before from upto added
    → Swaps from (slice_range before from upto) added before after
swaps_replacement from upto added before after le b e u is = record {
  stands = record {
    start = b;
    end = subst (IsCharBoundary before) (sym end) e;
    bytes = ap (slice_range before from) end;
    utf8 = u;
  };
  becomes = is ∙ ap (λ n. replace_range before from n added) (sym end);
}
  where
    end : from + length (slice_range before from upto) ≡ upto
    end = omega (arith, length-between before from upto e.0, le)

-- a part taken out
pub swaps_deletion : (from upto : ℕ) (before after : List ℕ) → from ≤ upto → IsCharBoundary before from → IsCharBoundary before upto → after ≡ replace_range before from upto []
    → Swaps from (slice_range before from upto) [] before after
swaps_deletion from upto before after le b e is = swaps_replacement from upto [] before after le b e ([], (refl, refl)) is

-- ---- a line with a gap, and what an event makes of it

-- the line, and the place of the gap
abbrev pub gapped : List ℕ → ℕ → Bool → ℕ → ℕ → Line × ℕ
gapped text place growth limit gap = (record { text = text; place = place; growth = growth; limit = limit }, gap)

-- a text was put in before the gap
pub gap_inserted : (before after text new : List ℕ) (pos place limit : ℕ) (growth : Bool) → new ≡ before ++ text → place ≡ place_after_event (InsertStr (length before) text) pos
    → gapped (new ++ after) place growth limit (length new)
    ≡ (line_after_event (InsertStr (length before) text) (gapped (before ++ after) pos growth limit (length before)).0, length before + length text)
gap_inserted before after text new pos place limit growth done at =
    ap₂ (λ t p. gapped t p growth limit (length new)) whole at
    ∙ ap (gapped (replace_range (before ++ after) (length before) (length before + 0) text) (place_after_event (InsertStr (length before) text) pos) growth limit) (ap length done ∙ length-append before text)
  where
    whole : new ++ after ≡ replace_range (before ++ after) (length before) (length before + 0) text
    whole =
        ap (λ t. t ++ after) done ∙ insert_at_seam before after text
        ∙ ap (λ n. replace_range (before ++ after) (length before) n text) (sym (add-zero (length before)))

pub place_moved : (at pos : ℕ) (text : List ℕ) → at ≤ pos → pos + length text ≡ place_after_event (InsertStr at text) pos
place_moved at pos text le = grind (arith, nat_tests)

pub place_kept : (at pos : ℕ) (text : List ℕ) → pos < at → pos ≡ place_after_event (InsertStr at text) pos
place_kept at pos text lt = grind (arith, nat_tests)

-- a part was taken out behind the gap
pub gap_removed : (before after rest : List ℕ) (upto pos place limit : ℕ) (growth : Bool) → length before ≤ upto → upto ≤ length (before ++ after) → rest ≡ drop (upto - length before) after
    → place ≡ pos - min (upto - length before) (pos - length before)
    → gapped (before ++ rest) place growth limit (length before)
    ≡ (line_after_event (deletion (length before) upto Forward (before ++ after)) (gapped (before ++ after) pos growth limit (length before)).0, length before)
gap_removed before after rest upto pos place limit growth le within left at =
    ap₂ (λ t p. gapped t p growth limit (length before)) whole (at ∙ ap (λ n. pos - min n (pos - length before)) (sym size))
  where
    size : length (slice_range (before ++ after) (length before) upto) ≡ upto - length before
    size = omega (arith, length-between (before ++ after) (length before) upto within, le)

    end : upto ≡ length before + length (slice_range (before ++ after) (length before) upto)
    end = omega (arith, size, le)

    whole : before ++ rest ≡ replace_range (before ++ after) (length before) (length before + length (slice_range (before ++ after) (length before) upto)) []
    whole = ap (λ t. before ++ t) left ∙ remove_at_seam before after upto le ∙ ap (λ n. replace_range (before ++ after) (length before) n []) end
