-- Motions of the cursor.
use Rattle.std.specs.Prelude.{ℕ, ◌==◌, not, Bool, if◌then◌else◌, length, Option, is_some}
use Rattle.line_buffer.specs.Clusters.{place_forward, place_backward}
use Rattle.line_buffer.specs.Columns.{line_up, line_down}
use Rattle.line_buffer.specs.Hits.{search_place}
use Rattle.line_buffer.specs.Line.{Line, with_cursor_at}
use Rattle.line_buffer.specs.Rows.{row_start, row_end}
use Rattle.line_buffer.specs.Words.{prev_word, next_word}
use Rattle.line_buffer.specs.declared.types.At.{At}
use Rattle.line_buffer.specs.declared.types.At.TheVariants.{Start}
use Rattle.line_buffer.specs.declared.types.CharSearch.{CharSearch}
use Rattle.line_buffer.specs.declared.types.Movement.{Movement}
use Rattle.line_buffer.specs.declared.types.Movement.TheVariants.{WholeLine, BeginningOfLine, EndOfLine, BackwardWord, ForwardWord, ViCharSearch, ViFirstPrint, BackwardChar, ForwardChar, LineUp, LineDown, WholeBuffer, BeginningOfBuffer, EndOfBuffer}
use Rattle.line_buffer.specs.declared.types.Word.{Word}
use Rattle.line_buffer.specs.declared.types.Word.TheVariants.{Big}
use Rattle.line_help.specs.History.{begins_with_space}
use Rattle.line_keys.specs.declared.command.CmdKind.{CmdKind}
use Rattle.line_keys.specs.declared.command.CmdKind.TheVariants.{MoveCursor}
use Rattle.line_editor.specs.Drawing.{cursor_moved}
use Rattle.line_editor.specs.Values.{Transition, no_effect, then_do, at_line}

-- if it moves, the display's cursor follows
abbrev pub cursor_moved_if : CmdKind → Bool → Line → Transition
cursor_moved_if kind moves line s v =
    if moves then cursor_moved kind s (at_line line v) else no_effect s v

abbrev pub to_found : Option ℕ → Transition
to_found found s v = cursor_moved_if MoveCursor (is_some found) (with_cursor_at found v.line) s v

abbrev pub to_place : CmdKind → ℕ → Transition
to_place kind place s v =
    cursor_moved_if kind (not (place == v.line.place)) (record v.line { place = place }) s v

abbrev pub move_to_next_word : At → Word → ℕ → Transition
move_to_next_word at word n s v = to_found (next_word at word n v.line) s v

abbrev pub move_home : Transition
move_home s v = to_place MoveCursor (row_start v.line.text v.line.place) s v

abbrev pub move_buffer_end : CmdKind → Transition
move_buffer_end kind s v = to_place kind (length v.line.text) s v

-- to the row's start, and if the text begins with whitespace from there to the next word
abbrev pub move_to_first_print : Transition
move_to_first_print s v =
    if begins_with_space v.line.text then then_do move_home (move_to_next_word Start Big 1) s v
    else move_home s v

abbrev pub move_by : Movement → Transition
move_by BeginningOfLine s v = move_home s v
move_by EndOfLine s v = to_place MoveCursor (row_end v.line.text v.line.place) s v
move_by (BackwardWord n word) s v = to_found (prev_word word n v.line) s v
move_by (ForwardWord n at word) s v = move_to_next_word at word n s v
move_by (ViCharSearch n search) s v = to_found (search_place search n v.line) s v
move_by ViFirstPrint s v = move_to_first_print s v
move_by (BackwardChar n) s v = to_found (place_backward n v.line) s v
move_by (ForwardChar n) s v = to_found (place_forward n v.line) s v
move_by (LineUp n) s v = to_found (line_up s.mode s.tabs s.column n v.line) s v
move_by (LineDown n) s v = to_found (line_down s.mode s.tabs s.column n v.line) s v
move_by BeginningOfBuffer s v = to_place MoveCursor 0 s v
move_by EndOfBuffer s v = move_buffer_end MoveCursor s v
move_by whole s v = no_effect s v
