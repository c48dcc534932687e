-- The row of a place, between newlines; where rows start; and the ranges of rows that a movement up
-- or down names. Such a range includes the newline that ends it.
use Rattle.std.specs.Prelude.{◌≡◌, ℕ, ◌+◌, ◌-◌, ◌==◌, Bool, not, List, take, drop, IsCharBoundary, ◌≤◌, min, ◌∷◌, length, map, reverse, filter, Option, option_map, IfSome}
use Rattle.std.specs.List.{prefix_len, suffix_len, enumerate_from}
use Rattle.line_buffer.specs.Line.{Line, text_before, text_after}
use Rattle.line_buffer.specs.Clusters.{nth_or_last}

abbrev pub is_in_row : ℕ → Bool
is_in_row byte = not (byte == 10)

-- back from the place up to a newline
abbrev pub row_start : List ℕ → ℕ → ℕ
row_start text at = at - suffix_len is_in_row (take at text)

-- on from the place up to a newline
abbrev pub row_end : List ℕ → ℕ → ℕ
row_end text at = at + prefix_len is_in_row (drop at text)

-- the requested place, which is a character boundary of the text
pub record FindsPlace (asked : ℕ) (text : List ℕ) (found : ℕ) : Type 0 where
  pub value : found ≡ asked
  pub boundary : IsCharBoundary text found

-- the places after the newlines of a text that begins at the given place
unfoldable pub behind_newlines : ℕ → List ℕ → List ℕ
behind_newlines from text = map (λ x. x.0 + 1) (filter (λ x. x.1 == 10) (enumerate_from from text))

-- a row starts where the text does, and after each newline
abbrev pub row_starts : List ℕ → List ℕ
row_starts text = 0 ∷ behind_newlines 0 text

-- where the rows above the cursor's row start, the nearest first
abbrev pub starts_above : Line → List ℕ
starts_above l = drop 1 (reverse (row_starts (text_before l)))

-- where the rows below it start
abbrev pub starts_below : Line → List ℕ
starts_below l = behind_newlines l.place (text_after l)

-- the end of a place's row, after its newline if it has one
abbrev pub row_close : List ℕ → ℕ → ℕ
row_close text at = min (row_end text at + 1) (length text)

-- from the start of the n-th row above, else of the first one, to the end of the cursor's row
abbrev pub rows_up : ℕ → Line → Option (ℕ × ℕ)
rows_up n l =
    option_map (λ start. (start, row_close l.text l.place)) (nth_or_last n (starts_above l))

-- from the start of the cursor's row to the end of the n-th row below, the last if there are fewer
abbrev pub rows_down : ℕ → Line → Option (ℕ × ℕ)
rows_down n l =
    option_map (λ start. (row_start l.text l.place, row_close l.text start))
    (nth_or_last n (starts_below l))

-- the requested range of rows, on character boundaries of the text
pub record FindsRows (asked : Option (ℕ × ℕ)) (text : List ℕ) (found : Option (ℕ × ℕ)) : Type 0
  where
    pub value : found ≡ asked
    pub order : IfSome found (λ r. r.0 ≤ r.1)
    pub start : IfSome found (λ r. IsCharBoundary text r.0)
    pub end : IfSome found (λ r. IsCharBoundary text r.1)
