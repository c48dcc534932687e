-- What Tab makes of a line: its only candidate, one of several in turn, or a list of them.
use Rattle.std.specs.Prelude.{ℕ, ◌+◌, ◌-◌, ◌==◌, ◌&&◌, nat_lt, min, Bool, if◌then◌else◌, List, [], ◌∷◌, ◌++◌, flat_map, take, length, codes, decimal, slice_get, is_some, Option, Some, None, option_and_then}
use Rattle.line_buffer.specs.Line.{Line}
use Rattle.line_config.specs.declared.settings.CompletionType.{CompletionType}
use Rattle.line_config.specs.declared.settings.CompletionType.TheVariants as completion_type
use Rattle.line_help.specs.Completion.{Offered, Completion, unless_empty}
use Rattle.line_help.specs.declared.history.search.SearchDirection.{SearchDirection}
use Rattle.line_help.specs.declared.history.search.SearchDirection.TheVariants.{Forward, Reverse}
use Rattle.line_keys.specs.declared.command.Cmd.{Cmd}
use Rattle.line_keys.specs.declared.command.CmdKind.TheVariants.{Other}
use Rattle.line_editor.specs.Completing.{begins_word, common_text, word_completed, candidates_given, candidates_asked}
use Rattle.line_editor.specs.Drawing.{beep_effect, refresh_effect, message_effect}
use Rattle.line_editor.specs.Modal.{Modal, modal_at_rest, Meeting, pass_meeting, takes}
use Rattle.line_editor.specs.Searching.{hit_undo_effect, place_effect}
use Rattle.line_editor.specs.Values.{Value, Setting, Transition, memory_effect, then_do, close_groups, completion_reply}
use Rattle.line_editor.specs.declared.modal_state.Standing.TheVariants.{Tabbed, Lists, Cycles}
use Rattle.std.specs.Option.{option_map_or}

-- ---- a single candidate: with what ends it, if it is a whole word

abbrev pub only_text : List Offered → Option (List ℕ)
only_text (o ∷ []) = Some o.alone
only_text candidates = None

abbrev pub only_put : Completion → Line → Option (List ℕ)
only_put found l = if begins_word found.start l then only_text found.candidates else None

-- ---- a list of candidates: each on a row of its own, at most so many, and how many more there are

abbrev pub rows_of : List Offered → List ℕ
rows_of candidates = flat_map (λ o. 10 ∷ o.display) candidates

abbrev pub more_row : ℕ → ℕ → List ℕ
more_row limit count =
    if nat_lt limit count then codes "\n(" ++ (decimal (count - limit) ++ codes " more)") else []

abbrev pub list_text : ℕ → List Offered → List ℕ
list_text limit candidates = rows_of (take limit candidates) ++ more_row limit (length candidates)

-- drawn below the line in place of the hint, which takes memory
abbrev pub list_shown : ℕ → List Offered → Transition
list_shown limit candidates = then_do memory_effect
    (message_effect (Some (list_text limit candidates)) Other)

-- the common prefix, if it adds something. Otherwise they are listed, or it beeps
abbrev pub list_effect : Bool → ℕ → Completion → Transition
list_effect lists limit found s v =
    option_map_or (word_completed found.start) (common_text found v.line)
    (if lists then list_shown limit found.candidates else beep_effect) s v

-- ---- candidates in turn

-- after the last one, and before the first, comes the word as it was
abbrev pub cycle_at : SearchDirection → ℕ → ℕ → ℕ
cycle_at Forward at count = if nat_lt at count then at + 1 else 0
cycle_at Reverse at count = if at == 0 then count else min at count - 1

-- an empty candidate isn't put
abbrev pub candidate_at : ℕ → Completion → Line → Option (List ℕ)
candidate_at at found l = if begins_word found.start l
    then option_and_then (λ o. unless_empty o.replacement) (slice_get found.candidates at) else None

-- put in place of the word; or the word as it was, and a beep
abbrev pub turn_effect : ℕ → Completion → Transition
turn_effect at found s v = option_map_or (word_completed found.start)
    (candidate_at at found v.line) (then_do refresh_effect beep_effect) s v

abbrev pub modal_after_turn : ℕ → Completion → Line → Modal → Modal
modal_after_turn at found l x = record x { candidate = at; put = is_some (candidate_at at found l) }

-- the first one of several
abbrev pub cycle_begun : Completion → Transition
cycle_begun found = then_do close_groups (turn_effect 0 found)

abbrev pub cycle_first : Completion → Line → Modal → Modal
cycle_first found l x = record (modal_after_turn 0 found l x) { standing = Cycles; place = l.place }

-- what was put is undone, and the cursor is where it was
abbrev pub cycle_back : Modal → Transition
cycle_back x = then_do (hit_undo_effect x.put) (place_effect x.place)

-- the helper is asked anew for that line, and the next candidate is put
abbrev pub ask_and_turn_effect : SearchDirection → Modal → Transition
ask_and_turn_effect dir x s v = let found = candidates_given (completion_reply s v) in
    let at = cycle_at dir x.candidate (length found.candidates) in
    then_do candidates_asked (turn_effect at found) s v

abbrev pub cycle_effect : SearchDirection → Modal → Transition
cycle_effect dir x = then_do (cycle_back x) (ask_and_turn_effect dir x)

abbrev pub modal_after_ask : SearchDirection → Modal → Setting → Value → Modal
modal_after_ask dir x s v = let found = candidates_given (completion_reply s v) in
    modal_after_turn (cycle_at dir x.candidate (length found.candidates)) found v.line x

-- ---- what it makes of a command

-- several candidates for a word, by the setting; `lists`: they may be listed now
abbrev pub several : CompletionType → Bool → Modal → Completion → Transition
several completion_type.Circular lists x found = cycle_begun found
several completion_type.List lists x found = list_effect lists x.limit found

abbrev pub several_modal : CompletionType → Bool → Completion → Line → Modal → Modal
several_modal completion_type.Circular lists found l x = cycle_first found l x
several_modal completion_type.List lists found l x = record x {
  standing = option_map_or (λ text. Tabbed) (common_text found l) (if lists then Lists else Tabbed);
}

abbrev pub is_ambiguous : Completion → Line → Bool
is_ambiguous found l = nat_lt 1 (length found.candidates) && begins_word found.start l

abbrev pub offer_effect : Bool → Modal → Completion → Transition
offer_effect lists x found s v =
    if is_ambiguous found v.line then several x.completion_type lists x found s v
    else option_map_or (word_completed found.start) (only_put found v.line) beep_effect s v

abbrev pub modal_after_offer : Bool → Completion → Line → Modal → Modal
modal_after_offer lists found l x =
    if is_ambiguous found l then several_modal x.completion_type lists found l x
    else modal_at_rest x

-- without a helper a completion does nothing, as ever
abbrev pub tab : Bool → Modal → Cmd → Setting → Value → Meeting
tab lists x cmd s v =
    let found = candidates_given (completion_reply s v) in
    if is_some s.hooks
    then takes (then_do candidates_asked (offer_effect lists x found))
    (modal_after_offer lists found v.line x) s v
    else pass_meeting x cmd v

abbrev pub cycle : SearchDirection → Modal → Cmd → Setting → Value → Meeting
cycle dir x cmd s v =
    if is_some s.hooks
    then takes (cycle_effect dir x) (modal_after_ask dir x s (cycle_back x s v).value) s v
    else pass_meeting x cmd v
