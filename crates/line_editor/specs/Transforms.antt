-- Characters replaced by as many others, transpositions, changes of case, indentation, and undo.
use Rattle.std.specs.Prelude.{ℕ, ◌+◌, ◌-◌, ◌==◌, ◌||◌, not, nat_lt, max, Bool, length, drop, if◌then◌else◌, [], ◌∷◌, ◌&&◌, nat_le, slice_range}
use Rattle.line_buffer.specs.LetterCase.{edit_word}
use Rattle.line_buffer.specs.Line.{Line}
use Rattle.line_buffer.specs.Transpositions.{transposes_chars, transposes_words}
use Rattle.line_buffer.specs.declared.types.Movement.{Movement}
use Rattle.line_buffer.specs.declared.types.WordAction.{WordAction}
use Rattle.line_record.specs.Held.{has_step}
use Rattle.line_edits.specs.Edits.{transpose_chars_group, transpose_words_group, word_group, indent_steps, after_undo, by}
use Rattle.line_editor.specs.Drawing.{refresh_effect, effect_if, redraw_of, ask_anew_effect}
use Rattle.line_editor.specs.Values.{Transition, then_do, value_with_edit, edit_effect, Value, Setting, draw_effect}
use Rattle.line_editor.specs.Values.EditStep.{TakesBack}
use Rattle.std.specs.List.{list_all}
use Rattle.line_buffer.specs.Printable.{is_printable, is_plain}
use Rattle.line_editor.specs.Inserting.{is_bare}
use Rattle.line_editor.specs.Redraws.Redraw.{Rewritten}

-- printable characters stand from one place up to another, in a line that is bare and plain
abbrev pub has_letters : ℕ → ℕ → Value → Bool
has_letters from upto v = is_bare v && (is_plain v.line.text && (nat_le upto (length v.line.text)
    && list_all is_printable (slice_range v.line.text from upto)))

-- whether other letters written over them may show a change, if lines may be drawn in part
abbrev pub may_be_rewritten : Setting → ℕ → ℕ → Value → Bool
may_be_rewritten s from upto v = s.config.partial_redraw && has_letters from upto v

-- the drawing after such a change
abbrev pub show_rewritten_effect : Bool → ℕ → ℕ → Transition
show_rewritten_effect over from upto s v = draw_effect (if over && has_letters from upto v
    then Rewritten s.prompt from upto v.line.text v.line.place else redraw_of s v) s v

-- with a new hint
abbrev pub refresh_over_effect : Bool → ℕ → ℕ → Transition
refresh_over_effect over from upto = then_do ask_anew_effect (show_rewritten_effect over from upto)

-- behind the two clusters to transpose, if each has one byte
abbrev pub pair_end : Line → ℕ
pair_end l = if nat_lt l.place (length l.text) then l.place + 1 else l.place

abbrev pub transpose_chars_effect : Transition
transpose_chars_effect s v =
    let end = pair_end v.line in
    let over = may_be_rewritten s (end - 2) end v in
    then_do (edit_effect transpose_chars_group)
    (effect_if (transposes_chars v.line) (refresh_over_effect over (end - 2) end)) s v

-- even if only the cursor moved
abbrev pub transpose_words_effect : ℕ → Transition
transpose_words_effect n s v =
    let w = value_with_edit (by (transpose_words_group n)) v in
    then_do (edit_effect (transpose_words_group n))
    (effect_if (transposes_words n v.line || not (w.line.place == v.line.place)) refresh_effect) s v

abbrev pub edit_word_effect : WordAction → Transition
edit_word_effect action s v = then_do (edit_effect (word_group action))
    (effect_if (edit_word action v.line).answer refresh_effect) s v

abbrev pub indent_effect : Movement → ℕ → Bool → Transition
indent_effect movement amount dedent =
    then_do (edit_effect (indent_steps movement amount dedent)) refresh_effect

abbrev pub indent_by_setting : Movement → Bool → Transition
indent_by_setting movement dedent s v = indent_effect movement s.config.indent_size dedent s v

abbrev pub undo_effect : ℕ → Transition
undo_effect n s v = record
    { value = value_with_edit (after_undo n) v; steps = TakesBack v (max n 1) ∷ [] }

-- if no undone item is a step, the marks leave the line, and nothing is drawn
abbrev pub undo : ℕ → Transition
undo n s v =
    if has_step (max n 1) v.held then then_do (undo_effect n) refresh_effect s v
    else record
    { value = record v { held = drop (max n 1) v.held }; steps = TakesBack v (max n 1) ∷ [] }
