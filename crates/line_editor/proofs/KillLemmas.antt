-- A kill that leaves a plain text with the cursor at its end took the end of the text, whatever was killed.
use Rattle.std.proofs.Common.{◌≡◌, ℕ, zero, suc, ◌+◌, ◌==◌, ◌-◌, ◌<◌, ◌≤◌, nat_le, nat_lt, Bool, true, false, List, [], ◌∷◌, ◌++◌, take, drop, length, length-append, take_all, get_or, Option, Some, None, IfSome, refl, sym, ap, ◌∙◌, subst, append_assoc, append-nil, arith, ◌⊎◌, inl, inr, if◌then◌else◌}
use Rattle.std.specs.Prelude.{option_map, encode_utf8, unwrap_or}
use Rattle.std.specs.List.{replace_range}
use Rattle.std.proofs.lemmas.Bool.{and_parts}
use Rattle.std.proofs.lemmas.Bool.Decides.{nat_tests}
use Rattle.std.proofs.lemmas.List.{drop_all, length-drop, length-take}
use Rattle.std.proofs.lemmas.List.Folds.{list_all-append}
use Rattle.std.proofs.lemmas.Str.{IsUtf8-from_ascii}
use Rattle.line_buffer.specs.Clusters.{cluster_ends, nth_or_last, place_forward}
use Rattle.line_buffer.specs.Line.{Line, text_after}
use Rattle.line_buffer.specs.Range.{IsSpanOf, up_to_cursor, from_cursor, around_cursor, to_row_end, from_row_start, search_range, range_of}
use Rattle.line_buffer.specs.Rows.{behind_newlines, row_close, row_start, row_end}
use Rattle.line_buffer.specs.declared.range.TextSpan.{TextSpan}
use Rattle.line_buffer.specs.declared.types.CharSearch.{CharSearch}
use Rattle.line_buffer.specs.declared.types.CharSearch.TheVariants.{Forward as Onto, ForwardBefore, Backward as BackOnto, BackwardAfter}
use Rattle.line_buffer.specs.declared.types.Direction.TheVariants.{Forward}
use Rattle.line_buffer.specs.declared.types.Movement.{Movement}
use Rattle.line_buffer.specs.declared.types.Movement.TheVariants.{WholeLine, BeginningOfLine, EndOfLine, BackwardWord, ForwardWord, ViCharSearch, ViFirstPrint, BackwardChar, ForwardChar, LineUp, LineDown, WholeBuffer, BeginningOfBuffer, EndOfBuffer}
use Rattle.line_buffer.proofs.RowStartLemmas.{behind-nil}
use Rattle.line_buffer.proofs.SpanLemmas as spans
use Rattle.line_buffer.specs.Printable.{is_plain, is_plain_byte}

-- it begins inside the text, or goes up to its end
abbrev pub Low : List ℕ → ℕ → ℕ → Type 0
Low text from upto = (from ≤ length text) ⊎ (length text ≤ upto)

-- ---- a cut

nothing_in : (xs : List ℕ) → length xs ≡ 0 → xs ≡ []
nothing_in [] h = refl
nothing_in (x ∷ xs) h = absurd (omega arith)

pub cut_short : (text : List ℕ) (from upto : ℕ) → from ≤ length text → from ≡ length (take from text ++ drop upto text) → take from text ++ drop upto text ≡ take from text
cut_short text from upto inside end =
    let count = length-append (take from text) (drop upto text) in
    let left = length-drop upto text in
    let size = length-take from text in
    let none : length (drop upto text) ≡ 0 = omega arith in
    ap (λ xs. take from text ++ xs) (nothing_in (drop upto text) none) ∙ append-nil (take from text)

-- a text that ends before the cut begins
cut_long : (text : List ℕ) (from upto : ℕ) → length text < from → from ≡ length (take from text ++ drop upto text) → length text ≤ upto → ⊥
cut_long text from upto far end all =
    let count = length-append (take from text) (drop upto text) in
    let left = length-drop upto text in
    let size = length-take from text in
    absurd (omega arith)

cut_by : (text : List ℕ) (from upto : ℕ) (b : Bool) → nat_le from (length text) ≡ b → from ≡ length (take from text ++ drop upto text) → is_plain (take from text ++ drop upto text) ≡ true
    → (is_plain text ≡ true → Low text from upto) → take from text ++ drop upto text ≡ take from text
cut_by text from upto true e end plain low = cut_short text from upto (grind (arith, nat_tests, e)) end
cut_by text from upto false e end plain low =
    let far : length text < from = grind (arith, nat_tests, e) in
    let parts = and_parts (is_plain (take from text)) (is_plain (drop upto text)) (sym (list_all-append is_plain_byte (take from text) (drop upto text)) ∙ plain) in
    absurd (none far (low (ap is_plain (sym (take_all from text (omega (arith, far)))) ∙ parts.0)))
  where
    none : length text < from → Low text from upto → ⊥
    none far (inl h) = absurd (omega (arith, far, h))
    none far (inr h) = cut_long text from upto far end h

pub cut_text : (text : List ℕ) (from upto : ℕ) → from ≡ length (replace_range text from upto []) → is_plain (replace_range text from upto []) ≡ true
    → (is_plain text ≡ true → Low text from upto) → replace_range text from upto [] ≡ take from text
cut_text text from upto end plain low =
    let whole : replace_range text from upto [] ≡ take from text ++ drop upto text = append_assoc (take from text) [] (drop upto text) in
    whole ∙ cut_by text from upto (nat_le from (length text)) refl (end ∙ ap length whole) (ap is_plain (sym whole) ∙ plain) low

-- ---- what a movement names, with the cursor after the text

abbrev IsLow : Line → Option TextSpan → Type 0
IsLow l o = IfSome o (λ span. Low l.text span.from span.upto)

found_low : (l : Line) (o : Option ℕ) (make : ℕ → TextSpan) → ((i : ℕ) → length l.text ≤ (make i).upto) → IsLow l (option_map make o)
found_low l None make h = tt
found_low l (Some i) make h = inr (h i)

behind_low : (l : Line) (o : Option ℕ) (inner : ℕ → ℕ) (make : ℕ → TextSpan) → ((i : ℕ) → length l.text ≤ (make (inner i)).upto) → IsLow l (option_map make (option_map inner o))
behind_low l None inner make h = tt
behind_low l (Some i) inner make h = inr (h i)

rows_low : (l : Line) (o : Option ℕ) (make : ℕ → ℕ × ℕ) → ((i : ℕ) → length l.text ≤ (make i).1) → IsLow l (option_map (λ (r : ℕ × ℕ). around_cursor r.0 r.1 l) (option_map make o))
rows_low l None make h = tt
rows_low l (Some i) make h = inr (h i)

module _ (l : Line) (far : length l.text < l.place) where
  row_end_far : (from : ℕ) → IsLow l (to_row_end from l)
  row_end_far from = by_tests (nat_lt from (row_end l.text l.place)) (nat_lt (row_end l.text l.place) (length l.text))
    where
      by_tests : (x y : Bool) → IsLow l (if x then Some (record { from = from; upto = row_end l.text l.place; direction = Forward }) else (if y then Some (record { from = from; upto = row_end l.text l.place + 1; direction = Forward }) else None))
      by_tests true y = inr (omega (arith, far))
      by_tests false true = inr (omega (arith, far))
      by_tests false false = tt

  row_start_far : IsLow l (from_row_start l)
  row_start_far = by_tests (nat_lt (row_start l.text l.place) l.place) (nat_lt 0 l.place)
    where
      by_tests : (x y : Bool) → IsLow l (if x then Some (up_to_cursor (row_start l.text l.place) l) else (if y then Some (up_to_cursor (l.place - 1) l) else None))
      by_tests true y = inr (omega (arith, far))
      by_tests false true = inr (omega (arith, far))
      by_tests false false = tt

  past_far : length l.text ≤ unwrap_or (place_forward 1 l) l.place
  past_far = by_found (nth_or_last 1 (cluster_ends (text_after l)))
    where
      by_found : (o : Option ℕ) → length l.text ≤ unwrap_or (option_map (λ e. l.place + e) o) l.place
      by_found None = omega (arith, far)
      by_found (Some e) = omega (arith, far)

  search_far : (n : ℕ) (to : CharSearch) → IsLow l (search_range to n l)
  search_far n (Onto c) = behind_low l _ (λ i. unwrap_or (place_forward 1 l) l.place + i) (λ i. from_cursor (i + length (encode_utf8 c)) l) (λ i. omega (arith, past_far))
  search_far n (ForwardBefore c) = behind_low l _ (λ i. unwrap_or (place_forward 1 l) l.place + i) (λ i. from_cursor i l) (λ i. omega (arith, past_far))
  search_far n (BackOnto c) = found_low l _ (λ i. up_to_cursor i l) (λ i. omega (arith, far))
  search_far n (BackwardAfter c) = found_low l _ (λ i. up_to_cursor (i + length (encode_utf8 c)) l) (λ i. omega (arith, far))

  unless_far : (t : Bool) (span : TextSpan) → length l.text ≤ span.upto → IsLow l (if t then None else Some span)
  unless_far true span h = tt
  unless_far false span h = inr h

  -- no row is below
  down_far : (n : ℕ) → IsLow l (range_of (LineDown n) l)
  down_far n =
      let none : behind_newlines l.place (text_after l) ≡ [] = ap (behind_newlines l.place) (drop_all l.place l.text (omega (arith, far))) ∙ behind-nil l.place in
      subst (λ xs. IsLow l (option_map (λ (r : ℕ × ℕ). around_cursor r.0 r.1 l) (option_map (λ start. (row_start l.text l.place, row_close l.text start)) (nth_or_last n xs)))) (sym none) (no_row n)
    where
      no_row : (n : ℕ) → IsLow l (option_map (λ (r : ℕ × ℕ). around_cursor r.0 r.1 l) (option_map (λ start. (row_start l.text l.place, row_close l.text start)) (nth_or_last n [])))
      no_row zero = tt
      no_row (suc n) = tt

  range_far : (m : Movement) → IsLow l (range_of m l)
  range_far WholeLine = row_end_far (row_start l.text l.place)
  range_far BeginningOfLine = row_start_far
  range_far EndOfLine = row_end_far l.place
  range_far (BackwardWord n word) = found_low l _ (λ i. up_to_cursor i l) (λ i. omega (arith, far))
  range_far (ForwardWord n at word) = behind_low l _ (λ i. l.place + i) (λ i. from_cursor i l) (λ i. omega (arith, far))
  range_far (ViCharSearch n to) = search_far n to
  range_far ViFirstPrint = tt
  range_far (BackwardChar n) = found_low l _ (λ i. up_to_cursor i l) (λ i. omega (arith, far))
  range_far (ForwardChar n) = behind_low l _ (λ e. l.place + e) (λ i. from_cursor i l) (λ i. omega (arith, far))
  range_far (LineUp n) = rows_low l _ (λ start. (start, row_close l.text l.place)) (λ i. omega (arith, far))
  range_far (LineDown n) = down_far n
  range_far WholeBuffer = unless_far (length l.text == 0) _ (omega arith)
  range_far BeginningOfBuffer = unless_far (l.place == 0) _ (omega (arith, far))
  range_far EndOfBuffer = unless_far (l.place == length l.text) _ (omega arith)

-- ---- and inside a plain text

byte_low : (c : ℕ) → is_plain_byte c ≡ true → c < 128
byte_low c h = grind (arith, nat_tests, h)

pub plain_low : (text : List ℕ) → is_plain text ≡ true → (i : ℕ) → get_or text i 0 < 128
plain_low [] h zero = omega arith
plain_low [] h (suc i) = omega arith
plain_low (x ∷ text) h zero = byte_low x (and_parts (is_plain_byte x) (is_plain text) h).0
plain_low (x ∷ text) h (suc i) = plain_low text (and_parts (is_plain_byte x) (is_plain text) h).1 i

spans_low : (text : List ℕ) (o : Option TextSpan) → IfSome o (IsSpanOf text) → IfSome o (λ span. Low text span.from span.upto)
spans_low text None h = tt
spans_low text (Some span) h = let b = h.start in inl b.0

range_by : (l : Line) → is_plain l.text ≡ true → (m : Movement) (b : Bool) → nat_le l.place (length l.text) ≡ b → IsLow l (range_of m l)
range_by l plain m true e =
    let low = plain_low l.text plain in
    spans_low l.text (range_of m l) (spans.range_spans l (IsUtf8-from_ascii l.text low) (grind (arith, nat_tests, e), λ inside high. let k = low l.place in absurd (omega (arith, k, high))) m)
range_by l plain m false e = range_far l (grind (arith, nat_tests, e)) m

pub range_low : (l : Line) → is_plain l.text ≡ true → (m : Movement) → IsLow l (range_of m l)
range_low l plain m = range_by l plain m (nat_le l.place (length l.text)) refl
