-- The drawings of a value.
use Rattle.std.specs.Prelude.{◌≡◌, ℕ, ◌&&◌, ◌||◌, Bool, true, false, if◌then◌else◌, List, [], Option, None, Some, option_copied, is_some, option_and_then}
use Rattle.std.specs.Borrow.{Bor}
use Rattle.line_help.specs.declared.helpers.style.Span.{Span}
use Rattle.line_help.specs.declared.helpers.style.Style.{Style}
use Rattle.line_keys.specs.declared.command.CmdKind.{CmdKind}
use Rattle.line_keys.specs.declared.command.CmdKind.TheVariants.{Other}
use Rattle.line_editor.specs.Characters.{begins_apart_at}
use Rattle.line_editor.specs.Redraws.{Redraw}
use Rattle.line_editor.specs.Redraws.Redraw.{Drawn, DrawnFrom, Moved, ToEnd, Beeped, Cleared}
use Rattle.line_editor.specs.SharedStyles.{told_styles, noted_styles, same_style}
use Rattle.line_editor.specs.Sights.{drawn_spans}
use Rattle.line_editor.specs.Values.{Value, Setting, Transition, no_effect, then_do, draw_effect, shown_marks, hint_reply, help_steps, with_hint, without_hint, with_mark, shown_hint, open_group, close_groups}
use Rattle.line_keys.specs.Refreshing.{Shown, Ask}
use Rattle.line_keys.specs.Refreshing.Ask.{Line, Message, Prompted, DoingInsert, DoneInserting}
use Rattle.line_record.specs.Held.{last_inserted}
use Rattle.std.specs.List.{common_prefix_len}

-- the line with its hint after the session's own prompt
abbrev pub redraw_of : Setting → Value → Redraw
redraw_of s v = Drawn s.prompt true v.line.text v.line.place (shown_hint v)

-- the spans of the line, if it is drawn with styles
abbrev pub line_spans : Setting → Value → List Span
line_spans s v =
    (drawn_spans (shown_marks v s.marks) true s.prompt v.line.text v.line.place []).line

-- whether these are noted of it, for the styles before a place
abbrev pub AreNoted : Setting → ℕ → Value → Option (Bor (List Span)) → Type 0
AreNoted s from v noted =
    noted_styles from (option_copied noted) ≡ told_styles from (line_spans s v)

-- the place up to which a change leaves the line, and the styles of the bytes before it, as far as
-- they are told
pub record Since : Type 0 where
  pub from : ℕ
  pub styles : List Style

-- that place, if no cluster lies over it in the line before the change
abbrev pub since : Setting → ℕ → Value → Option Since
since s from v = if s.config.partial_redraw && begins_apart_at v.line.text from
    then Some (record { from = from; styles = told_styles from (line_spans s v) }) else None

-- the place up to which the line surely keeps its styles, too
abbrev pub kept_upto : Since → Setting → Value → ℕ
kept_upto before s v =
    common_prefix_len same_style before.styles (told_styles before.from (line_spans s v))

-- the line with its hint, drawn from there on, if no cluster of it lies over either place
abbrev pub redraw_since : Option Since → Setting → Value → Redraw
redraw_since None s v = redraw_of s v
redraw_since (Some before) s v =
    let kept = kept_upto before s v in
    if begins_apart_at v.line.text before.from && begins_apart_at v.line.text kept
    then DrawnFrom s.prompt kept v.line.text v.line.place (shown_hint v) else redraw_of s v

abbrev pub draw_effect_since : Option Since → Transition
draw_effect_since from s v = draw_effect (redraw_since from s v) s v

-- drawn after a prompt, with the current hint
abbrev pub draw_effect_behind : List ℕ → Bool → Transition
draw_effect_behind prompt given s v =
    draw_effect (Drawn prompt given v.line.text v.line.place (shown_hint v)) s v

-- drawn with other information in place of the hint
abbrev pub draw_effect_with : Option (List ℕ) → Transition
draw_effect_with info s v = draw_effect (Drawn s.prompt true v.line.text v.line.place info) s v

-- the helper called for a hint; nothing is drawn
abbrev pub hint_asked : Transition
hint_asked s v = record { value = with_hint s v; steps = help_steps v (hint_reply s v) }

-- and for highlighted characters
abbrev pub ask_anew_effect : Transition
ask_anew_effect s v = record (hint_asked s v) { value = with_mark Other s (with_hint s v) }

-- then the line is drawn, after a change that leaves it up to a place, if one is known
abbrev pub refresh_effect_since : Option Since → Transition
refresh_effect_since from = then_do ask_anew_effect (draw_effect_since from)

abbrev pub refresh_effect : Transition
refresh_effect = refresh_effect_since None

-- the same after another prompt
abbrev pub refresh_effect_behind : List ℕ → Transition
refresh_effect_behind prompt = then_do ask_anew_effect (draw_effect_behind prompt false)

-- an effect if a test holds, and none otherwise
abbrev pub effect_if : Bool → Transition → Transition
effect_if holds edit s v = if holds then edit s v else no_effect s v

-- a message, if there is one, in place of the hint
abbrev pub message_effect : Option (List ℕ) → CmdKind → Transition
message_effect text kind s v = draw_effect_with text s (with_mark kind s (without_hint v))

-- the cursor moved; the line is drawn, without hint or message, if a character was or is marked
abbrev pub cursor_moved : CmdKind → Transition
cursor_moved kind s v = draw_effect (if v.marked || (with_mark kind s v).marked
    then Drawn s.prompt true v.line.text v.line.place None else Moved v.line.text v.line.place) s
    (with_mark kind s v)

abbrev pub cursor_end_effect : Transition
cursor_end_effect = draw_effect ToEnd

abbrev pub beep_effect : Transition
beep_effect = draw_effect Beeped

abbrev pub clear_and_draw_effect : Transition
clear_and_draw_effect = then_do (draw_effect Cleared) refresh_effect

-- ---- the value as the key tables see it, and the effect of their calls on it

abbrev pub shown_in : Value → Shown
shown_in v = record {
  line = v.line.text;
  place = v.line.place;
  hinted = is_some v.hint;
  completion = option_and_then (λ h. h.completion) v.hint;
  last_insert = last_inserted v.held;
}

-- the effect of a phrase's call
abbrev pub ask_effect : Ask → Transition
ask_effect Line = refresh_effect
ask_effect (Prompted prompt) = refresh_effect_behind prompt
ask_effect (Message text kind) = message_effect text kind
ask_effect DoingInsert = open_group
ask_effect DoneInserting = close_groups
