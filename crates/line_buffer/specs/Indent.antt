-- Indents and dedents of rows with spaces.
use Rattle.std.specs.Prelude.{⊤, ℕ, ◌+◌, ◌-◌, ◌==◌, Bool, true, if◌then◌else◌, List, [], ◌∷◌, length, take, take_while, slice_range, chars, encode_utf8_all, unwrap_or}
use Rattle.std.specs.List.{slice_split, repeat}
use Rattle.std.specs.Char.{is_whitespace}
use Rattle.line_buffer.specs.declared.types.Direction.TheVariants.{Forward}
use Rattle.line_buffer.specs.declared.types.Movement.{Movement}
use Rattle.line_buffer.specs.declared.types.Movement.TheVariants.{BackwardWord, ForwardWord, LineUp, LineDown, WholeBuffer, BeginningOfBuffer, EndOfBuffer}
use Rattle.line_buffer.specs.Clusters.{nth_or_last}
use Rattle.line_buffer.specs.Edit.{Edit}
use Rattle.line_buffer.specs.Event.{ChangeEvent, Delete, line_after_events, InsertStr}
use Rattle.line_buffer.specs.Line.{Line}
use Rattle.line_buffer.specs.Rows.{row_start, row_end, starts_above, starts_below}
use Rattle.line_buffer.specs.Words.{prev_word, next_word}

-- a place in the first row and a place in the last row that a movement covers
abbrev pub rows_covered : Movement → Line → ℕ × ℕ
rows_covered (BackwardWord n word) l = (unwrap_or (prev_word word n l) l.place, l.place)
rows_covered (ForwardWord n at word) l = (l.place, unwrap_or (next_word at word n l) l.place)
rows_covered (LineUp n) l = (unwrap_or (nth_or_last n (starts_above l)) l.place, l.place)
rows_covered (LineDown n) l = (l.place, unwrap_or (nth_or_last n (starts_below l)) l.place)
rows_covered WholeBuffer l = (0, length l.text)
rows_covered BeginningOfBuffer l = (0, l.place)
rows_covered EndOfBuffer l = (l.place, length l.text)
rows_covered movement l = (l.place, l.place)

-- the rows of a text, without their newlines
abbrev pub rows_of : List ℕ → List (List ℕ)
rows_of text = slice_split (λ byte. byte == 10) text

-- the whitespace at the front of a row, at most `count` characters of it
abbrev pub front_whitespace : ℕ → List ℕ → List ℕ
front_whitespace count row = encode_utf8_all (take count (take_while is_whitespace (chars row)))

-- the event of the row that starts at a place: it gets the margin, or loses at most as many
-- characters
abbrev pub row_event : List ℕ → Bool → ℕ → List ℕ → ChangeEvent
row_event margin dedent at row =
    if dedent then Delete at (front_whitespace (length margin) row) Forward else InsertStr at margin

-- how long the row is afterwards
abbrev pub row_len : List ℕ → Bool → List ℕ → ℕ
row_len margin dedent row =
    if dedent then length row - length (front_whitespace (length margin) row)
    else length row + length margin

-- one event for each row, the first row first, which starts at the given place
unfoldable pub row_events : List ℕ → Bool → ℕ → List (List ℕ) → List ChangeEvent
row_events margin dedent at [] = []
row_events margin dedent at (row ∷ rows) =
    row_event margin dedent at row
    ∷ row_events margin dedent (at + row_len margin dedent row + 1) rows

-- the rows between two places, indented or dedented
abbrev pub change_rows : List ℕ → Bool → ℕ → ℕ → Line → Edit ⊤
change_rows margin dedent from upto l =
    let events = row_events margin dedent from (rows_of (slice_range l.text from upto)) in
    record { answer = tt; events = events; line = line_after_events events l }

abbrev pub spaces : ℕ → List ℕ
spaces amount = repeat amount (32 ∷ [])

abbrev pub indent : Movement → ℕ → Bool → Line → Edit Bool
indent movement amount dedent l =
    let first = row_start l.text (rows_covered movement l).0 in
    let last = row_end l.text (rows_covered movement l).1 in
    let changed = change_rows (spaces amount) dedent first last l in
    record { answer = true; events = changed.events; line = changed.line }
