-- Texts yanked from the ring, and replaced.
use Rattle.std.specs.Prelude.{ℕ, ◌-◌, ◌||◌, Bool, true, false, if◌then◌else◌, List, Option, Some, None, is_some}
use Rattle.line_buffer.specs.Clusters.{place_forward, place_backward}
use Rattle.line_buffer.specs.Insertions.{yank as yanked_in, can_take_before}
use Rattle.line_buffer.specs.Line.{Line, with_cursor_at}
use Rattle.line_buffer.specs.declared.types.Anchor.{Anchor}
use Rattle.line_buffer.specs.declared.types.Anchor.TheVariants.{After, Before}
use Rattle.line_edits.specs.Edits.{yank_steps, pop_group, by}
use Rattle.line_editor.specs.Drawing.{since, refresh_effect_since, effect_if}
use Rattle.line_editor.specs.Values.{Value, Transition, no_effect, then_do, value_with_edit, edit_effect, at_line}

-- after the cluster at the cursor
abbrev pub line_at_anchor : Anchor → Line → Line
line_at_anchor After l = with_cursor_at (place_forward 1 l) l
line_at_anchor Before l = l

abbrev pub steps_over : Anchor → Line → Bool
steps_over After l = is_some (place_forward 1 l)
steps_over Before l = false

-- in Vi's command mode the cursor is on the last cluster
abbrev pub behind_yank : Bool → Line → Line
behind_yank true l = with_cursor_at (place_backward 1 l) l
behind_yank false l = l

abbrev pub value_after_yank : Bool → List ℕ → ℕ → Value → Value
value_after_yank vi text n v =
    let w = value_with_edit (by (yank_steps text n)) v in
    if is_some (yanked_in text n v.line).answer then at_line (behind_yank vi w.line) w else w

abbrev pub yank_effect : Bool → List ℕ → ℕ → Transition
yank_effect vi text n s v =
    record (edit_effect (yank_steps text n) s v) { value = value_after_yank vi text n v }

abbrev pub yank_text : Bool → List ℕ → Anchor → ℕ → Transition
yank_text vi text anchor n s v =
    let before = at_line (line_at_anchor anchor v.line) v in
    if is_some (yanked_in text n before.line).answer || steps_over anchor v.line
    then then_do (yank_effect vi text n)
    (refresh_effect_since (since s before.line.place v)) s before
    else no_effect s (value_after_yank vi text n before)

-- if so many bytes precede the cursor, from a character boundary on; the line stays up to them
abbrev pub pop_text : ℕ → List ℕ → Transition
pop_text size text s v = effect_if (can_take_before size v.line)
    (then_do (edit_effect (pop_group size text))
    (refresh_effect_since (since s (v.line.place - size) v))) s v

-- ---- the ring's text

abbrev pub yank_lent : Bool → Anchor → ℕ → Option (List ℕ) → Transition
yank_lent vi anchor n None = no_effect
yank_lent vi anchor n (Some text) = yank_text vi text anchor n

abbrev pub pop_lent : Option (ℕ × List ℕ) → Transition
pop_lent None = no_effect
pop_lent (Some lent) = pop_text lent.0 lent.1
