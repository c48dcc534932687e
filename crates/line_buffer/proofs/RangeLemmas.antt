-- The newline at the end of a row, and a part that is there.
use Rattle.std.proofs.Common.{◌≡◌, ℕ, ◌+◌, ◌<◌, ◌≤◌, List, length, get_or, drop, refl, sym, ◌∙◌, inl, inr, arith, true, is_some, Option, None, Some, IsUtf8, IsCharBoundary}
use Rattle.line_buffer.specs.declared.range.TextSpan.{TextSpan}
use Rattle.std.specs.List.{prefix_len}
use Rattle.std.proofs.lemmas.List.{get_or-drop, length-drop}
use Rattle.std.proofs.lemmas.Str.{IsCharBoundary-after_ascii}
use Rattle.line_buffer.specs.Rows.{row_end, is_in_row}
use Rattle.line_buffer.proofs.RowLemmas.{prefix_len-stops}

-- the place after it is one between characters
pub after_row : (text : List ℕ) (at end : ℕ) → end ≡ row_end text at → IsUtf8 text → at ≤ length text → end < length text → IsCharBoundary text (end + 1)
after_row text at end is u le more = elim (prefix_len-stops (drop at text)) [
  | inl e ↦ absurd (omega (arith, is, e, length-drop at text))
  | inr h ↦ IsCharBoundary-after_ascii text end u more (let here : get_or text end 0 ≡ 10 = rw is (sym (get_or-drop at text (prefix_len is_in_row (drop at text)) 0) ∙ h.1) in omega (arith, here))
]

pub some_span : (o : Option TextSpan) → is_some o ≡ true → (span : TextSpan) × (o ≡ Some span)
some_span None e = absurd (cc)
some_span (Some span) e = (span, refl)
