-- The history: entries in place of the line, and the line that was saved for them.
use Rattle.std.specs.Prelude.{ℕ, ◌+◌, ◌-◌, ◌==◌, Bool, true, false, if◌then◌else◌, List, [], ◌∷◌, take, length, Option, Some, None}
use Rattle.line_edits.specs.Edits.{update_steps, update_group}
use Rattle.line_help.specs.Search.{Hit, entry_at, search_hit}
use Rattle.line_help.specs.declared.history.search.SearchDirection.{SearchDirection}
use Rattle.line_help.specs.declared.history.search.SearchDirection.TheVariants.{Forward, Reverse}
use Rattle.line_editor.specs.Drawing.{refresh_effect, beep_effect, effect_if}
use Rattle.line_editor.specs.Values.{Value, Transition, no_effect, then_do, edit_effect}
use Rattle.line_editor.specs.Values.EditStep.{Takes}
use Rattle.std.specs.Option.{option_map_or}

-- the line saved, to come back to it
abbrev pub with_saved_line : Value → Value
with_saved_line v = record v { saved = record { text = v.line.text; place = v.line.place } }

abbrev pub save_effect : Transition
save_effect s v = record { value = with_saved_line v; steps = Takes v ∷ [] }

abbrev pub at_place : ℕ → Value → Value
at_place place v = record v { history = place }

-- the line is saved when it leaves the history's end
abbrev pub leave_effect : Transition
leave_effect s v = effect_if (v.history == length s.entries) save_effect s v

-- an entry in place of the line, the cursor at a place of it
abbrev pub entry_shown : ℕ → List ℕ → ℕ → Transition
entry_shown index entry place s v =
    then_do (edit_effect (update_group entry place)) refresh_effect s (at_place index v)

-- the cursor at its end
abbrev pub recall : ℕ → Option Hit → Transition
recall index None s v = no_effect s v
recall index (Some hit) s v = entry_shown index hit.entry (length hit.entry) s v

-- the saved line restored
abbrev pub come_back_effect : Transition
come_back_effect s v = then_do (edit_effect (update_steps v.saved.text v.saved.place))
    refresh_effect s (at_place (length s.entries) v)

-- an entry before the current one
abbrev pub recall_earlier_effect : ℕ → Transition
recall_earlier_effect index s v = then_do leave_effect (recall index (entry_at index s.entries)) s v

-- to the previous entry or to the next one, and to the first one or to the line
abbrev pub history_step : Bool → Transition
history_step true s v =
    if v.history == 0 then no_effect s v else recall_earlier_effect (v.history - 1) s v
history_step false s v = if v.history == length s.entries then no_effect s v
    else if v.history + 1 == length s.entries then come_back_effect s v
    else recall (v.history + 1) (entry_at (v.history + 1) s.entries) s v

abbrev pub history_end : Bool → Transition
history_end true s v = if v.history == 0 then no_effect s v else recall_earlier_effect 0 s v
history_end false s v =
    if v.history == length s.entries then no_effect s v else come_back_effect s v

-- ---- entries that begin with the text before the cursor

-- the place moves even if nothing is found
abbrev pub search_from : SearchDirection → ℕ → Transition
search_from dir place s v = option_map_or (λ hit. entry_shown hit.idx hit.entry hit.pos)
    (search_hit true (take v.line.place v.line.text) place dir s.entries) beep_effect s
    (at_place place v)

abbrev pub history_search : SearchDirection → Transition
history_search Reverse s v =
    if v.history == 0 then beep_effect s v else search_from Reverse (v.history - 1) s v
history_search Forward s v =
    if v.history == length s.entries then beep_effect s v else search_from Forward
    (v.history + 1) s v
