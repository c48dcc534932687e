-- How lines are accepted.
use Rattle.std.specs.Prelude.{◌&&◌, ◌||◌, not, Bool, true, if◌then◌else◌, None, is_some, unwrap_or, chars}
use Rattle.std.specs.Char.{is_whitespace}
use Rattle.std.specs.List.{list_all}
use Rattle.std.specs.Option.{option_map_or}
use Rattle.line_buffer.specs.Line.{Line, text_after}
use Rattle.line_help.specs.Validation.{is_valid, has_message}
use Rattle.line_help.specs.declared.helpers.validate.ValidationResult.{ValidationResult}
use Rattle.line_help.specs.declared.helpers.validate.ValidationResult.TheVariants.{Incomplete, Invalid, Valid}
use Rattle.line_keys.specs.declared.command.CmdKind.TheVariants.{ForcedRefresh, Other}
use Rattle.line_record.specs.Held.{closes}
use Rattle.line_editor.specs.Drawing.{message_effect, cursor_end_effect, effect_if}
use Rattle.line_editor.specs.Inserting.{insert_char}
use Rattle.line_editor.specs.Moving.{move_buffer_end}
use Rattle.line_editor.specs.Redraws.Redraw.{Drawn, Bared}
use Rattle.line_editor.specs.Values.{Value, Setting, Transition, no_effect, then_do, draw_effect, open_group, close_groups, verdict_reply, help_steps, without_hint, with_mark}

-- ---- before a line is accepted: no hint, no highlighted character, no count's prompt

abbrev pub bare : Transition
bare s v = let w = with_mark ForcedRefresh s (without_hint v) in
    draw_effect (if is_some v.hint || (v.marked || w.marked)
    then Drawn s.prompt true v.line.text v.line.place None
    else Bared s.prompt v.line.text v.line.place) s w

-- ---- the helper's verdict

-- without a verdict the line is incomplete; without a helper it is valid
abbrev pub verdict : Setting → Value → ValidationResult
verdict s v =
    option_map_or (λ reply. unwrap_or reply.answer Incomplete) (verdict_reply s v) (Valid None)

abbrev pub verdict_told : ValidationResult → Bool → Transition
verdict_told Incomplete draws = no_effect
verdict_told (Invalid text) draws = effect_if (draws || is_some text) (message_effect text Other)
verdict_told (Valid text) draws =
    effect_if (draws || is_some text) (message_effect text ForcedRefresh)

-- shown after the groups have been closed
abbrev pub verdict_effect : ValidationResult → Transition
verdict_effect found s v =
    then_do close_groups (verdict_told found (closes v.held || is_some v.hint)) s v

-- a group is opened, and the helper is called
abbrev pub group_and_verdict_effect : Transition
group_and_verdict_effect = then_do open_group
    (λ s v. record { value = v; steps = help_steps v (verdict_reply s v) })

-- the groups are closed as well; without a helper nothing is done
abbrev pub validate : Transition
validate s v = effect_if (is_some s.hooks)
    (then_do group_and_verdict_effect (verdict_effect (verdict s v))) s v

-- ---- the commands

abbrev pub newline : Transition
newline = then_do bare (insert_char 10 1)

abbrev pub accept : Transition
accept = then_do bare validate

-- a valid line is accepted, except that text after the cursor may forbid it
abbrev pub accepts : Bool → ValidationResult → Line → Bool
accepts middle found l =
    is_valid found && (middle || list_all is_whitespace (chars (text_after l)))

-- a line that isn't accepted gets a newline, unless a message is shown
abbrev pub newline_if : Bool → ValidationResult → Transition
newline_if accepted found = effect_if
    (not accepted && (is_valid found || not (has_message found))) (insert_char 10 1)

abbrev pub accept_or_insert : Bool → Transition
accept_or_insert middle s v = let found = verdict s v in
    then_do accept (newline_if (accepts middle found v.line) found) s v

-- an accepted line: the cursor at the text's end, then the display's cursor behind the drawing
abbrev pub submit_effect : Transition
submit_effect = then_do (move_buffer_end ForcedRefresh) cursor_end_effect
