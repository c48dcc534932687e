-- Where a row starts and ends, and that both lie between characters.
use Rattle.std.proofs.Common.{◌≡◌, ℕ, ◌+◌, ◌-◌, ◌<◌, ◌⊎◌, inl, inr, List, length, get_or, take, drop, sym, ◌∙◌, subst, arith, IsUtf8, IsCharBoundary}
use Rattle.std.specs.List.{prefix_len}
use Rattle.std.proofs.lemmas.Bool.{cases_lt}
use Rattle.std.proofs.lemmas.List.{get_or-take, get_or-drop, length-drop, length-take-le}
use Rattle.std.proofs.lemmas.List.Sums.{prefix_len_stops, prefix_len-le-length}
use Rattle.std.proofs.lemmas.Str.{IsCharBoundary-before_ascii, IsCharBoundary-end}
use Rattle.line_buffer.specs.Rows.{row_start, row_end, is_in_row}
use Rattle.line_buffer.proofs.RowStartLemmas.{is_newline, opens_from, behind_newline}

-- the bytes of a row are all there are, or a newline follows
pub prefix_len-stops : (xs : List ℕ) → (prefix_len is_in_row xs ≡ length xs) ⊎ ((prefix_len is_in_row xs < length xs) × (get_or xs (prefix_len is_in_row xs) 0 ≡ 10))
prefix_len-stops xs = elim (cases_lt (prefix_len is_in_row xs) (length xs)) [
  | inl l ↦ inr (l, is_newline _ (prefix_len_stops is_in_row xs 0 l))
  | inr e ↦ inl (omega (arith, e, prefix_len-le-length is_in_row xs))
]

pub row_end-boundary : (text : List ℕ) (at : ℕ) → IsCharBoundary text at → IsCharBoundary text (row_end text at)
row_end-boundary text at b = elim (prefix_len-stops (drop at text)) [
  | inl e ↦ subst (IsCharBoundary text) (let k : length text ≡ at + prefix_len is_in_row (drop at text) = omega (arith, e, length-drop at text, b.0) in k) (IsCharBoundary-end text)
  | inr h ↦ IsCharBoundary-before_ascii text (row_end text at) (omega (arith, h.0, length-drop at text)) (omega (arith, sym (get_or-drop at text (prefix_len is_in_row (drop at text)) 0) ∙ h.1))
]

pub row_start-boundary : (text : List ℕ) (at : ℕ) → IsUtf8 text → IsCharBoundary text at → IsCharBoundary text (row_start text at)
row_start-boundary text at u b =
    let last = opens_from (take at text) (row_start text at) (omega (arith, length-take-le at text b.0)) in
    behind_newline text (row_start text at) u
    (λ l. (omega (arith, l, b.0), sym (get_or-take at text (row_start text at - 1) 0 (omega (arith, l))) ∙ last.newline l))
