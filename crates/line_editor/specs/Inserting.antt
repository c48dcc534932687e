-- Insertions of characters and texts, and clusters replaced by characters.
use Rattle.std.specs.Prelude.{ℕ, ◌==◌, ◌&&◌, nat_lt, not, Bool, if◌then◌else◌, List, drop, length, Option, is_some}
use Rattle.std.specs.List.{list_all}
use Rattle.line_buffer.specs.Clusters.{place_forward}
use Rattle.line_buffer.specs.Insertions.{insert as insertion}
use Rattle.line_buffer.specs.Line.{Line}
use Rattle.line_edits.specs.Edits.{char_steps, text_steps, by}
use Rattle.line_buffer.specs.Printable.{is_printable, is_plain, is_typed_at_end}
use Rattle.line_editor.specs.Characters.{stands_apart}
use Rattle.line_editor.specs.Drawing.{Since, since, redraw_since, ask_anew_effect, refresh_effect_since, effect_if}
use Rattle.line_editor.specs.Redraws.{Redraw}
use Rattle.line_editor.specs.Redraws.Redraw.{Typed, Appended, PutIn}
use Rattle.line_editor.specs.Values.{Value, Setting, Transition, no_effect, then_do, draw_effect, value_with_edit, edit_effect}
use Rattle.line_editor.specs.declared.way.Way.{Way}
use Rattle.line_editor.specs.declared.way.Way.TheVariants.{AtEnd, Alone, Inside, Whole}
use Rattle.line_edits.specs.WriteSteps.{WriteSteps}

-- neither a hint nor a highlighted character
abbrev pub is_bare : Value → Bool
is_bare v = not (is_some v.hint) && not v.marked

-- whether a character's byte alone may show it: a single printable character, typed at the end of a
-- line that is bare and plain, or has tabs if these are drawn
abbrev pub may_be_typed : Bool → ℕ → ℕ → Value → Bool
may_be_typed tabs c n v = (n == 1) && (is_bare v && is_typed_at_end tabs c v.line.text v.line.place)

-- whether its own drawing alone may show it: a single character, typed apart from a bare line at
-- whose end the cursor is, if lines may be drawn in part
abbrev pub may_be_appended : Bool → ℕ → ℕ → Value → Bool
may_be_appended partial c n v =
    partial && ((n == 1) && (is_bare v && ((v.line.place == length v.line.text)
    && stands_apart v.line.text c)))

-- the text after the cursor is printable characters
abbrev pub has_printable_rest : Line → Bool
has_printable_rest l = list_all is_printable (drop l.place l.text)

-- whether moving the rest of the line may show it: a single printable character, put before the end
-- of a line that is bare and plain, in its last row, if lines may be drawn in part
abbrev pub may_be_put_in : Bool → ℕ → ℕ → Value → Bool
may_be_put_in partial c n v = partial && ((n == 1) && (is_bare v && (is_printable c
    && (nat_lt v.line.place (length v.line.text)
    && (is_plain v.line.text && has_printable_rest v.line)))))

abbrev pub insertion_way : Setting → ℕ → ℕ → Value → Way
insertion_way s c n v =
    if may_be_appended s.config.partial_redraw c n v then Alone
    else if may_be_typed (is_some s.tabs) c n v then AtEnd
    else if may_be_put_in s.config.partial_redraw c n v then Inside else Whole

-- the way in a line that is still bare, or not
abbrev pub way_if_bare : Way → Value → Way
way_if_bare way v = if is_bare v then way else Whole

-- the drawing of an inserted character, before which the line may stay up to a place
abbrev pub put_redraw : Way → ℕ → Option Since → Setting → Value → Redraw
put_redraw AtEnd c from s v = Typed s.prompt c v.line.text v.line.place
put_redraw Alone c from s v = Appended s.prompt c v.line.text v.line.place
put_redraw Inside c from s v = PutIn s.prompt c v.line.text v.line.place
put_redraw way c from s v = redraw_since from s v

-- with a new hint
abbrev pub show_inserted_effect : ℕ → Way → Option Since → Transition
show_inserted_effect c way from = then_do ask_anew_effect
    (λ s v. draw_effect (put_redraw (way_if_bare way v) c from s v) s v)

abbrev pub insert_char : ℕ → ℕ → Transition
insert_char c n s v =
    if is_some (insertion c n v.line).answer
    then then_do (edit_effect (char_steps c n))
    (show_inserted_effect c (insertion_way s c n v) (since s v.line.place v)) s v
    else no_effect s (value_with_edit (by (char_steps c n)) v)

-- a text inserted at the cursor, which stays before it
abbrev pub insert_text : List ℕ → Transition
insert_text text s v =
    if length text == 0 then no_effect s v
    else then_do (edit_effect (text_steps text)) (refresh_effect_since (since s v.line.place v)) s v

-- an edit that replaces `n` clusters, drawn if there are so many after the cursor
abbrev pub clusters_replaced : {A : Type 0} → ℕ → (Line → WriteSteps A) → Transition
clusters_replaced n edit s v = then_do (edit_effect edit)
    (effect_if (is_some (place_forward n v.line))
    (refresh_effect_since (since s v.line.place v))) s v
