-- Parts of the definitions, as the lemmas name them.
use Rattle.std.proofs.Common.{ℕ, ◌+◌, ◌-◌, ◌==◌, nat_lt, nat_le, Bool, true, false, ◌&&◌, List, [], ◌∷◌, ◌++◌, length, drop, codes, Option, Some, Result, if◌then◌else◌}
use Rattle.std.specs.List.{flat_map}
use Rattle.std.specs.Option.{option_map_or}
use Rattle.line_buffer.specs.declared.layout.Position.{Position}
use Rattle.line_config.specs.declared.device.Last.{Last}
use Rattle.line_config.specs.declared.errors.ReadlineError.{ReadlineError}
use Rattle.line_config.specs.declared.settings.EditMode.{EditMode}
use Rattle.line_keys.specs.declared.key.KeyCode.{KeyCode}
use Rattle.line_keys.specs.declared.key.KeyEvent.{KeyEvent}
use Rattle.line_keys.specs.declared.flags.Modifiers.{Modifiers}
use Rattle.line_keys.specs.KeyFeeds.{key_at, paste_at, refusal_of}
use Rattle.line_keys.specs.Keys.{key_with}
use Rattle.line_screen.specs.Colours.{SgrSpan, Styles, PaintedItem, items_without_style, painted_letters, painted_item, painted_row, first_style, skip, style_bytes, bytes_of_painted_texts, painted_bytes}
use Rattle.line_screen.specs.Colours.PaintedItem.{Bare}
use Rattle.line_screen.specs.Display.{Display, cluster_placed_at, placed_in, right}
use Rattle.line_screen.specs.Drawing.{DrawnItem, Widths, drawn_item, row_break, no_style, move_bytes, col_move, take_cells_out, pulled_back, clearing_bytes, shown_text}
use Rattle.line_screen.specs.Drawing.DrawnItem.{NewRow}
use Rattle.line_screen.specs.Input.{Stop, AtEnd, chars_of, item_of}
use Rattle.line_screen.specs.KeyGrammar.{Readings, readings, in_escape, in_sequence, in_paste, coming_of}
use Rattle.line_screen.specs.Reading.{is_lasting}
use Rattle.line_screen.specs.Sequences.{unknown_key}
use Rattle.script.specs.Scripts.{World}

-- ---- what is read

abbrev pub stop_refusal : Stop → ReadlineError
stop_refusal stop = refusal_of (item_of stop)

abbrev pub is_end : Stop → Bool
is_end AtEnd = true
is_end stop = false

abbrev pub key_answer : Readings → Result KeyEvent ReadlineError
key_answer r = key_at (coming_of [] r)

abbrev pub text_answer : Readings → Result (List ℕ) ReadlineError
text_answer r = paste_at (coming_of [] r)

abbrev pub escape_from : EditMode → List ℕ → Last → Readings
escape_from mode bytes last = let chars = chars_of bytes last in in_escape mode bytes chars (readings mode chars)

abbrev pub sequence_from : EditMode → List ℕ → List ℕ → Last → Readings
sequence_from mode text bytes last = in_sequence mode text (chars_of bytes last)

abbrev pub text_from : EditMode → List ℕ → Last → Readings
text_from mode bytes last = in_paste mode [] false 0 (chars_of bytes last)

abbrev pub lasting_error : ReadlineError → Option ReadlineError → Option ReadlineError
lasting_error why before = if is_lasting why then Some why else before

-- ---- keys

abbrev pub key_found : Option KeyCode → Modifiers → KeyEvent
key_found code modifiers = option_map_or (λ c. key_with c modifiers) code unknown_key

abbrev pub number_sequence_with : List ℕ → ℕ → List ℕ
number_sequence_with number digit = codes "[" ++ (number ++ 0x3B ∷ digit ∷ codes "~")

abbrev pub letter_sequence_with : List ℕ → ℕ → List ℕ
letter_sequence_with letter digit = codes "[1;" ++ digit ∷ letter

-- ---- the display

abbrev pub put_down : ℕ → List ℕ → Display → Display
put_down width run d =
    let new = cluster_placed_at d.pen run width d.cursor in
    record d { placed = placed_in d.cursor new d.placed; cursor = right width d.cursor }

-- ---- drawings

abbrev pub cluster_in_fence : List ℕ → List ℕ
cluster_in_fence bytes = no_style ++ bytes ++ no_style

abbrev pub open_cell : List ℕ
open_cell = 0x1B ∷ codes "[@"

abbrev pub begin_inserting : List ℕ
begin_inserting = 0x1B ∷ codes "[4h"

abbrev pub end_inserting : List ℕ
end_inserting = 0x1B ∷ codes "[4l"

abbrev pub begins_two_rows : ℕ → ℕ → List ℕ → Bool
begins_two_rows columns col rest = nat_le (columns + columns) (col + length rest)

abbrev pub is_step_back : Position → Position → Bool
is_step_back old new = (old.row == new.row) && (nat_lt new.col old.col && nat_le old.col (new.col + 4))

abbrev pub deletion_bytes : ℕ → ℕ → ℕ → List ℕ → List ℕ
deletion_bytes columns count col rest = pulled_back columns count col col rest

abbrev pub refilled : ℕ → ℕ → ℕ → List ℕ → List ℕ
refilled columns count start row =
    let kept = columns - start - count in
    if nat_le (length row) kept then []
    else take_cells_out count ++ (col_move start (columns - count) ++ drop kept row)

abbrev pub full_drawing : ℕ → Widths → ℕ → List ℕ → List ℕ → List ℕ → Position → Position → List ℕ
full_drawing columns wide row prompt line info finish cursor = clearing_bytes row ++ (shown_text columns wide prompt line info ++ move_bytes finish cursor)

-- ---- drawings with styles

abbrev pub all_unpainted : List PaintedItem → List DrawnItem
all_unpainted xs = flat_map items_without_style xs

abbrev pub items_painted_after : Widths → List SgrSpan → List ℕ → List ℕ → List PaintedItem
items_painted_after wide spans letters cluster =
    painted_letters spans letters ++ painted_item (first_style (skip (length letters) spans)) (drawn_item wide cluster)

abbrev pub next_painted : Widths → Bool → List SgrSpan → List ℕ → List PaintedItem
next_painted wide is_first spans row = if is_first then painted_row wide spans row else Bare NewRow ∷ painted_row wide (skip 1 spans) row

abbrev pub spans_behind : Bool → List SgrSpan → List ℕ → List SgrSpan
spans_behind is_first spans row = skip (length row) (if is_first then spans else skip 1 spans)

abbrev pub shaded_break : List ℕ → Bool → List ℕ
shaded_break style b = if b then no_style ++ row_break ++ style_bytes style else []

abbrev pub painted_drawing : ℕ → Widths → Styles → List ℕ → List ℕ → List ℕ → Position → Position → List ℕ
painted_drawing columns wide styles prompt line info finish cursor = bytes_of_painted_texts columns wide styles prompt line info ++ move_bytes finish cursor

abbrev pub painted_full_drawing : ℕ → Widths → Styles → ℕ → List ℕ → List ℕ → List ℕ → Position → Position → List ℕ
painted_full_drawing columns wide styles row prompt line info finish cursor = painted_bytes columns wide styles (Some row) prompt line info finish cursor

-- ---- calls

-- a world in which this holds at each request, and after it
abbrev pub world_holding : {A : Type 0} {R : A → Type 0} {S E : Type 0} → (S → Type 0) → World A R S E → World A R S E
world_holding Holds w = record {
  made = λ x ask a y. Holds x × w.made x ask a y × Holds y;
  cut = λ x ask e y. Holds x × w.cut x ask e y × Holds y;
}
