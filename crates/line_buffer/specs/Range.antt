-- The range of the text that a movement names, and the line without it.
use Rattle.std.specs.Prelude.{◌≡◌, ℕ, ◌+◌, ◌-◌, ◌≤◌, ◌==◌, nat_lt, Bool, true, false, if◌then◌else◌, List, [], ◌∷◌, ◌++◌, length, slice_range, Option, None, Some, is_some, option_map, encode_utf8, IfSome, IsCharBoundary}
use Rattle.line_buffer.specs.declared.range.TextSpan.{TextSpan}
use Rattle.line_buffer.specs.declared.types.CharSearch.{CharSearch}
use Rattle.line_buffer.specs.declared.types.CharSearch.TheVariants.{Forward as Onto, ForwardBefore, Backward as BackOnto, BackwardAfter}
use Rattle.line_buffer.specs.declared.types.Direction.TheVariants.{Forward, Backward}
use Rattle.line_buffer.specs.declared.types.Movement.{Movement}
use Rattle.line_buffer.specs.declared.types.Movement.TheVariants.{WholeLine, BeginningOfLine, EndOfLine, BackwardWord, ForwardWord, ViCharSearch, ViFirstPrint, BackwardChar, ForwardChar, LineUp, LineDown, WholeBuffer, BeginningOfBuffer, EndOfBuffer}
use Rattle.line_buffer.specs.Clusters.{place_forward, place_backward}
use Rattle.line_buffer.specs.Edit.{Edit}
use Rattle.line_buffer.specs.Event.{ChangeEvent, StartKilling, StopKilling, deletion}
use Rattle.line_buffer.specs.Hits.{hit}
use Rattle.line_buffer.specs.Line.{Line, without_range}
use Rattle.line_buffer.specs.Rows.{row_start, row_end, rows_up, rows_down}
use Rattle.line_buffer.specs.Words.{prev_word, next_word}

-- a range of a text on character boundaries
pub record IsSpanOf (text : List ℕ) (span : TextSpan) : Type 0 where
  pub order : span.from ≤ span.upto
  pub start : IsCharBoundary text span.from
  pub end : IsCharBoundary text span.upto

-- the requested span, which is a range of the text
pub record FindsSpan (asked : Option TextSpan) (text : List ℕ)
    (found : Option TextSpan) : Type 0 where
  pub value : found ≡ asked
  pub span : IfSome found (IsSpanOf text)

-- from an earlier place to the cursor, and from the cursor to a later place
abbrev pub up_to_cursor : ℕ → Line → TextSpan
up_to_cursor from l = record { from = from; upto = l.place; direction = Backward }

abbrev pub from_cursor : ℕ → Line → TextSpan
from_cursor upto l = record { from = l.place; upto = upto; direction = Forward }

-- a range that may lie on both sides of the cursor is backward if it ends there
abbrev pub around_cursor : ℕ → ℕ → Line → TextSpan
around_cursor from upto l =
    record { from = from; upto = upto; direction = if upto == l.place then Backward else Forward }

-- from a place in the cursor's row to the row's end; at that end the newline, if there is one
abbrev pub to_row_end : ℕ → Line → Option TextSpan
to_row_end from l =
    let upto = row_end l.text l.place in
    if nat_lt from upto then Some (record { from = from; upto = upto; direction = Forward })
    else (if nat_lt upto (length l.text)
    then Some (record { from = from; upto = upto + 1; direction = Forward }) else None)

-- from the row's start to the cursor; at that start the newline before it, if there is one
abbrev pub from_row_start : Line → Option TextSpan
from_row_start l =
    let from = row_start l.text l.place in
    if nat_lt from l.place then Some (up_to_cursor from l)
    else (if nat_lt 0 l.place then Some (up_to_cursor (l.place - 1) l) else None)

-- up to the character that is found, including it or not
abbrev pub search_range : CharSearch → ℕ → Line → Option TextSpan
search_range (Onto c) n l =
    option_map (λ i. from_cursor (i + length (encode_utf8 c)) l) (hit (Onto c) n l)
search_range (ForwardBefore c) n l = option_map (λ i. from_cursor i l) (hit (ForwardBefore c) n l)
search_range (BackOnto c) n l = option_map (λ i. up_to_cursor i l) (hit (BackOnto c) n l)
search_range (BackwardAfter c) n l =
    option_map (λ i. up_to_cursor (i + length (encode_utf8 c)) l) (hit (BackwardAfter c) n l)

abbrev pub range_of : Movement → Line → Option TextSpan
range_of WholeLine l = to_row_end (row_start l.text l.place) l
range_of BeginningOfLine l = from_row_start l
range_of EndOfLine l = to_row_end l.place l
range_of (BackwardWord n word) l = option_map (λ i. up_to_cursor i l) (prev_word word n l)
range_of (ForwardWord n at word) l = option_map (λ i. from_cursor i l) (next_word at word n l)
range_of (ViCharSearch n search) l = search_range search n l
range_of ViFirstPrint l = None
range_of (BackwardChar n) l = option_map (λ i. up_to_cursor i l) (place_backward n l)
range_of (ForwardChar n) l = option_map (λ i. from_cursor i l) (place_forward n l)
range_of (LineUp n) l = option_map (λ r. around_cursor r.0 r.1 l) (rows_up n l)
range_of (LineDown n) l = option_map (λ r. around_cursor r.0 r.1 l) (rows_down n l)
range_of WholeBuffer l =
    if length l.text == 0 then None else Some (around_cursor 0 (length l.text) l)
range_of BeginningOfBuffer l = if l.place == 0 then None else Some (up_to_cursor 0 l)
range_of EndOfBuffer l =
    if l.place == length l.text then None else Some (from_cursor (length l.text) l)

-- the range that is copied: the same, except for the newlines at the ends of a row
abbrev pub copied_range : Movement → Line → Option TextSpan
copied_range WholeLine l =
    if row_start l.text l.place == row_end l.text l.place then None else range_of WholeLine l
copied_range BeginningOfLine l =
    if row_start l.text l.place == l.place then None else from_row_start l
copied_range EndOfLine l = if l.place == row_end l.text l.place then None else to_row_end l.place l
copied_range movement l = range_of movement l

abbrev pub span_text : TextSpan → Line → List ℕ
span_text span l = slice_range l.text span.from span.upto

-- the events of the deletion of a range, if there is one
abbrev pub deletion_events : Option TextSpan → Line → List ChangeEvent
deletion_events None l = []
deletion_events (Some span) l = deletion span.from span.upto span.direction l.text ∷ []

-- the line afterwards
abbrev pub deletion_line : Option TextSpan → Line → Line
deletion_line None l = l
deletion_line (Some span) l = without_range span.from span.upto l

abbrev pub deletion_of : Option TextSpan → Line → Edit Bool
deletion_of span l =
    record { answer = is_some span; events = deletion_events span l; line = deletion_line span l }

abbrev pub deletion_by : Movement → Line → Edit Bool
deletion_by movement l = deletion_of (range_of movement l) l

-- n clusters after the cursor, which are the answer
abbrev pub delete : ℕ → Line → Edit (Option (List ℕ))
delete n l =
    let span = range_of (ForwardChar n) l in
    record {
      answer = option_map (λ s. span_text s l) span;
      events = deletion_events span l;
      line = deletion_line span l;
    }

abbrev pub goes_by_clusters : Movement → Bool
goes_by_clusters (BackwardChar n) = true
goes_by_clusters (ForwardChar n) = true
goes_by_clusters movement = false

-- a kill is reported as one, even if it deletes nothing; by clusters it is reported as a deletion
abbrev pub kill_events : Movement → Line → List ChangeEvent
kill_events movement l =
    let events = deletion_events (range_of movement l) l in
    if goes_by_clusters movement then events else StartKilling ∷ (events ++ (StopKilling ∷ []))

-- the event that ends a kill, even one that fails
abbrev pub kill_closing : Movement → List ChangeEvent
kill_closing movement = if goes_by_clusters movement then [] else StopKilling ∷ []

abbrev pub kill : Movement → Line → Edit Bool
kill movement l = record (deletion_by movement l) { events = kill_events movement l }
