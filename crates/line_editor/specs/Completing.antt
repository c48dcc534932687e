-- Completion: the word before the cursor replaced by the common prefix of its candidates; and a
-- hint accepted.
use Rattle.std.specs.Prelude.{◌≡◌, ◌⊎◌, ⊤, ℕ, Bool, ◌-◌, ◌==◌, ◌&&◌, ◌||◌, not, nat_le, nat_lt, if◌then◌else◌, List, [], ◌∷◌, map, length, Option, Some, None, is_some, unwrap_or, option_and_then}
use Rattle.line_buffer.specs.Insertions.{is_inside_char, yank as yanked_in}
use Rattle.line_buffer.specs.Line.{Line, with_replacement}
use Rattle.line_buffer.specs.Event.{replacement}
use Rattle.line_config.specs.declared.errors.HookFault.{HookFault}
use Rattle.line_config.specs.declared.errors.HookFault.TheVariants.{Memory}
use Rattle.line_edits.specs.WriteSteps.{Written, after_edit, group_opened, group_closed}
use Rattle.line_help.specs.Completion.{longest_common_prefix, Offered, Completion, nothing_offered}
use Rattle.line_keys.specs.Replies.{Reply, IsFaultOf}
use Rattle.line_editor.specs.Drawing.{beep_effect, refresh_effect, effect_if}
use Rattle.line_editor.specs.Values.EditStep.{Takes}
use Rattle.line_editor.specs.Values.{Value, EditStep, Transition, then_do, value_with_edit, help_steps, completion_reply, update_reply, no_effect, edit_effect, at_line}
use Rattle.std.specs.Option.{option_map_or}
use Rattle.line_buffer.specs.Rows.{row_end}
use Rattle.line_edits.specs.Edits.{yank_steps, by}

-- candidates for the word from a start on, by what each offers
abbrev pub completion_from : {C : Type 0} → (C → Offered) → ℕ → List C → Completion
completion_from offers start candidates =
    record { start = start; candidates = map offers candidates }

-- ---- the text that replaces the word

-- a start that is no character boundary at or before the cursor begins no word
abbrev pub begins_word : ℕ → Line → Bool
begins_word start l = nat_le start l.place && not (is_inside_char l.text start)

-- the common prefix, if it is longer than the word or there is only one candidate
abbrev pub common_text_among : ℕ → List (List ℕ) → Option (List ℕ)
common_text_among len texts = option_and_then
    (λ text. if length texts == 1 || nat_lt len (length text) then Some text else None)
    (longest_common_prefix texts)

abbrev pub common_text : Completion → Line → Option (List ℕ)
common_text found l =
    if begins_word found.start l
    then common_text_among (l.place - found.start) (map (λ o. o.replacement) found.candidates)
    else None

-- ---- the command

-- the text from a start to the cursor replaced
abbrev pub word_put : ℕ → List ℕ → Written → Written
word_put start text w = after_edit (replacement start w.line.place text w.line.text ∷ [])
    (with_replacement start w.line.place text w.line) w

abbrev pub word_replaced : ℕ → List ℕ → Written → Written
word_replaced start text w = group_closed (word_put start text (group_opened w))

-- a failed replacement: if the mark found no memory, all is as it was; otherwise the mark is set,
-- and the completer failed
abbrev pub CutWord : Reply ⊤ → Written → Written → HookFault → Type 0
CutWord reply old new fault =
    ((fault ≡ Memory) × (new ≡ old)) ⊎ (IsFaultOf reply fault × (new ≡ group_opened old))

-- a mark is set, which takes memory, and the helper is called for the replacement
abbrev pub updates : Option (Reply ⊤) → Value → List EditStep
updates None v = []
updates (Some reply) v = Takes v ∷ help_steps (value_with_edit group_opened v) (Some reply)

-- by the helper, undone as one
abbrev pub word_updated : ℕ → List ℕ → Transition
word_updated start text s v = record {
  value = value_with_edit (word_replaced start text) v;
  steps = updates (update_reply start text s v) v;
}

abbrev pub word_completed : ℕ → List ℕ → Transition
word_completed start text = then_do (word_updated start text) refresh_effect

-- a completion that adds nothing beeps
abbrev pub complete_effect : Completion → Transition
complete_effect found s v =
    option_map_or (word_completed found.start) (common_text found v.line) beep_effect s v

-- the helper's candidates; none if it fails
abbrev pub candidates_given : Option (Reply Completion) → Completion
candidates_given None = nothing_offered
candidates_given (Some reply) = unwrap_or reply.answer nothing_offered

-- the helper is called for them
abbrev pub candidates_asked : Transition
candidates_asked s v = record { value = v; steps = help_steps v (completion_reply s v) }

-- without a helper nothing is done
abbrev pub complete : Transition
complete s v = effect_if (is_some s.hooks)
    (then_do candidates_asked (complete_effect (candidates_given (completion_reply s v)))) s v

-- ---- a hint accepted

-- at the row's end
abbrev pub at_row_end : Value → Value
at_row_end v = at_line (record v.line { place = row_end v.line.text v.line.place }) v

-- a hint that adds nothing beeps
abbrev pub complete_hint_effect : Option (List ℕ) → Transition
complete_hint_effect None s v = then_do beep_effect refresh_effect s v
complete_hint_effect (Some text) s v =
    if is_some (yanked_in text 1 v.line).answer
    then then_do (edit_effect (yank_steps text 1)) refresh_effect s v
    else then_do beep_effect refresh_effect s (value_with_edit (by (yank_steps text 1)) v)

abbrev pub complete_hint : Transition
complete_hint s v =
    option_map_or (λ h. complete_hint_effect h.completion s (at_row_end v)) v.hint (no_effect s v)
