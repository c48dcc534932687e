-- Laws of the edits.
use Rattle.std.specs.Prelude.{◌≡◌, ◌≤◌, ℕ, Bool, true, false, IsTrue, IsUtf8, All, List, [], ◌∷◌, ◌++◌, length, drop, map, if◌then◌else◌, is_some, option_map, option_to_list}
use Rattle.std.specs.List.{join_with_byte}
use Rattle.line_buffer.specs.declared.types.Movement.{Movement}
use Rattle.line_buffer.specs.declared.types.Movement.TheVariants.{WholeLine, BeginningOfLine, EndOfLine}
use Rattle.line_buffer.specs.Event.{ChangeEvent, Delete, text_after_events}
use Rattle.line_buffer.specs.Indent.{front_whitespace, row_events}
use Rattle.line_buffer.specs.Insertions.{text_that_fits}
use Rattle.line_buffer.specs.Line.{Line}
use Rattle.line_buffer.specs.Range.{range_of, copied_range, span_text, kill_events}

-- neither a row nor an end of a row: there a kill takes the newline and a copy doesn't
abbrev pub leaves_rows_whole : Movement → Bool
leaves_rows_whole WholeLine = false
leaves_rows_whole BeginningOfLine = false
leaves_rows_whole EndOfLine = false
leaves_rows_whole movement = true

-- the texts of the events that delete
abbrev pub deleted_texts : List ChangeEvent → List (List ℕ)
deleted_texts [] = []
deleted_texts (Delete at text direction ∷ es) = text ∷ deleted_texts es
deleted_texts (e ∷ es) = deleted_texts es

-- by such a movement a kill deletes something if and only if a copy returns a text, and the event
-- has that text
abbrev pub KillsWhatIsCopied : Type 0
KillsWhatIsCopied =
    (movement : Movement) (l : Line) → IsTrue (leaves_rows_whole movement) →
    let copied = option_map (λ span. span_text span l) (copied_range movement l) in
    (is_some (range_of movement l) ≡ is_some copied)
    × (deleted_texts (kill_events movement l) ≡ option_to_list copied)

-- the longest prefix of a text, in whole characters, that is no longer than a limit
pub record IsLongestThatFits (text kept : List ℕ) (limit : ℕ) : Type 0 where
  pub rest : List ℕ
  pub begins : text ≡ kept ++ rest
  pub whole : IsUtf8 kept
  pub fits : length kept ≤ limit
  pub longest : (other more : List ℕ) → text ≡ other ++ more → IsUtf8 other → length other ≤ limit
      → length other ≤ length kept

-- a line that can't grow keeps that prefix of a new text
abbrev pub KeepsTheLongestThatFits : Type 0
KeepsTheLongestThatFits =
    (text : List ℕ) (l : Line) → IsUtf8 text → l.growth ≡ false
    → IsLongestThatFits text (text_that_fits text l) l.limit

-- the margin before a row, or the row without as much whitespace at its front
abbrev pub row_after_indent : List ℕ → Bool → List ℕ → List ℕ
row_after_indent margin dedent row =
    if dedent then drop (length (front_whitespace (length margin) row)) row else margin ++ row

-- the events of rows in a text give each its margin, or remove it, and change nothing around them
abbrev pub RowsGetTheirMargin : Type 0
RowsGetTheirMargin =
    (margin : List ℕ) (dedent : Bool) (before after : List ℕ) (rows : List (List ℕ))
    → All IsUtf8 rows
    → text_after_events (row_events margin dedent (length before) rows)
    (before ++ (join_with_byte 10 rows ++ after))
    ≡ before ++ (join_with_byte 10 (map (row_after_indent margin dedent) rows) ++ after)
