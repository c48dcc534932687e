-- Kills, and copies into the ring.
use Rattle.std.specs.Prelude.{ℕ, ◌-◌, ◌&&◌, ◌==◌, nat_lt, if◌then◌else◌, Bool, List, length, take, drop, Option, Some, None, is_some, chars, encode_utf8}
use Rattle.std.specs.List.{list_all, last_or}
use Rattle.std.specs.Option.{option_map_or}
use Rattle.std.specs.Str.{is_utf8}
use Rattle.line_buffer.specs.Line.{Line}
use Rattle.line_buffer.specs.Range.{range_of, copied_range}
use Rattle.line_buffer.specs.declared.types.Movement.{Movement}
use Rattle.line_edits.specs.Edits.{kill_steps, by}
use Rattle.line_buffer.specs.Printable.{is_printable, is_plain, at_plain_end}
use Rattle.line_editor.specs.Characters.{stands_apart}
use Rattle.line_editor.specs.Drawing.{Since, since, redraw_since, ask_anew_effect, effect_if}
use Rattle.line_editor.specs.Inserting.{is_bare, has_printable_rest, way_if_bare, insert_text}
use Rattle.line_editor.specs.Redraws.{Redraw}
use Rattle.line_editor.specs.Redraws.Redraw.{Taken, Erased, TakenOut}
use Rattle.line_editor.specs.Values.{Value, Setting, Transition, no_effect, memory_effect, then_do, draw_effect, value_with_edit, edit_effect}
use Rattle.line_editor.specs.declared.way.Way.{Way}
use Rattle.line_editor.specs.declared.way.Way.TheVariants.{AtEnd, Back, Inside, Whole}

-- whether erasing the rest of the row may show a kill: printable characters of a bare line
abbrev pub may_be_taken : List ℕ → Value → Bool
may_be_taken killed v = is_bare v && list_all is_printable killed

-- whether moving the rest of the line may show it: printable characters, deleted from a bare and
-- plain line, if lines may be drawn in part
abbrev pub may_be_taken_out : Bool → List ℕ → Value → Bool
may_be_taken_out partial killed v =
    partial && (is_bare v && (is_plain v.line.text && list_all is_printable killed))

-- what is gone from a line, at the cursor that is left
abbrev pub text_gone : Line → Line → List ℕ
text_gone before l = take (length before.text - length l.text) (drop l.place before.text)

-- some text is gone, and some is left after the cursor: printable characters
abbrev pub is_cut_inside : Line → Line → Bool
is_cut_inside before l = nat_lt (length l.text) (length before.text)
    && (nat_lt l.place (length l.text) && has_printable_rest l)

-- the last character of a bare line, if lines may be drawn in part
abbrev pub last_of_bare : Bool → Value → Option ℕ
last_of_bare partial v =
    if partial && (is_bare v && is_utf8 v.line.text) then last_or None (chars v.line.text) else None

-- whether erasing the cells of the line's last character may show it: the `count` bytes that are
-- gone from its end are this character, which is apart from what is left
abbrev pub way_erased : ℕ → Line → Option ℕ → Way
way_erased count l None = Whole
way_erased count l (Some c) =
    if (l.place == length l.text) && ((count == length (encode_utf8 c)) && stands_apart l.text c)
    then Back c else Whole

-- from the line before to this one: at the end of a plain line, before the end of what is left, or
-- at the end by one character
abbrev pub kill_way : Setting → Value → Line → Way
kill_way s before l =
    if may_be_taken (drop (length l.text) before.line.text) before && at_plain_end l.text l.place
    then AtEnd
    else if may_be_taken_out s.config.partial_redraw (text_gone before.line l) before
    && is_cut_inside before.line l then Inside
    else way_erased (length before.line.text - length l.text) l
    (last_of_bare s.config.partial_redraw before)

-- the drawing after a deletion of `count` bytes, before which the line may stay up to a place
abbrev pub taken_redraw : Way → ℕ → Option Since → Setting → Value → Redraw
taken_redraw AtEnd count from s v =
    Taken s.prompt count s.config.partial_redraw v.line.text v.line.place
taken_redraw Inside count from s v = TakenOut s.prompt count v.line.text v.line.place
taken_redraw (Back c) count from s v = Erased s.prompt c v.line.text v.line.place
taken_redraw way count from s v = redraw_since from s v

-- with a new hint
abbrev pub show_killed_effect : ℕ → Way → Option Since → Transition
show_killed_effect count way from = then_do ask_anew_effect
    (λ s v. draw_effect (taken_redraw (way_if_bare way v) count from s v) s v)

-- the same for a deletion from a value, which leaves the cursor where it was
abbrev pub show_taken : Value → Transition
show_taken before s v =
    show_killed_effect (length before.line.text - length v.line.text) (kill_way s before v.line)
    (since s v.line.place before) s v

abbrev pub kill_effect : Movement → Transition
kill_effect movement s v =
    if is_some (range_of movement v.line)
    then then_do (edit_effect (kill_steps movement)) (show_taken v) s v
    else no_effect s (value_with_edit (by (kill_steps movement)) v)

-- killed, and a text inserted there
abbrev pub replace : Movement → Option (List ℕ) → Transition
replace movement text = then_do (kill_effect movement) (option_map_or insert_text text no_effect)

-- a copy takes memory; nothing is drawn
abbrev pub copy_effect : Movement → Transition
copy_effect movement s v = effect_if (is_some (copied_range movement v.line)) memory_effect s v
