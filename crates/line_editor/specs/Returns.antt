-- Leaving the history's end and coming back to it; and the undo of all changes of a line.
use Rattle.std.specs.Prelude.{◌≡◌, ⊤, ◌<◌, ◌≤◌, Bool, true, false, List, [], ◌∷◌, length, fold, ℕ, if◌then◌else◌, ◌≢◌, All}
use Rattle.line_help.specs.Completion.{Completion}
use Rattle.line_help.specs.declared.history.search.SearchDirection.{SearchDirection}
use Rattle.line_keys.specs.Refreshing.{Ask}
use Rattle.line_keys.specs.declared.command.Cmd.{Cmd}
use Rattle.line_keys.specs.declared.command.Cmd.TheVariants.{Abort, BeginningOfHistory, Complete, HistorySearchBackward, HistorySearchForward, PreviousHistory, Undo}
use Rattle.line_record.specs.Held.{record_after_close}
use Rattle.line_editor.specs.Drawing.{ask_effect}
use Rattle.line_editor.specs.Candidates.{cycle_begun, cycle_first, cycle}
use Rattle.line_editor.specs.Commands.{Means, effect}
use Rattle.line_editor.specs.ModalCommands.{meeting_effect, meeting_in_search}
use Rattle.line_editor.specs.Modal.{Modal, Meeting, takes}
use Rattle.line_editor.specs.Searching.{modal_at_search_start, begin_search, give_up_effect, is_place}
use Rattle.line_editor.specs.Values.{Value, Setting}
use Rattle.line_editor.specs.Leads.{Reaches, Sound}
use Rattle.line_editor.specs.declared.modal_state.Act.{Act}
use Rattle.line_editor.specs.declared.modal_state.Act.TheVariants.{Leaves, Ends}

-- what changes a line's value: a command, a call of the key tables, or a command before it is done
pub data ValueStep : Type 0 where
  Done : (means : Means) (cmd : Cmd) → ValueStep
  Asked : (ask : Ask) → ValueStep
  Met : (modal : Modal) (cmd : Cmd) → ValueStep

abbrev pub value_after : Setting → Value → ValueStep → Value
value_after s v (Done means cmd) = (effect means cmd s v).value
value_after s v (Asked ask) = (ask_effect ask s v).value
value_after s v (Met modal cmd) = (meeting_effect modal cmd s v).value

-- a search moves the place and saves no line
abbrev pub searches : ValueStep → Bool
searches (Done means HistorySearchBackward) = true
searches (Done means HistorySearchForward) = true
searches step = false

-- this holds of each step and the value at which it begins
abbrev pub AtEachStep : (ValueStep → Value → Type 0) → Setting → List ValueStep → Value → Type 0
AtEachStep holds s [] v = ⊤
AtEachStep holds s (step ∷ steps) v = holds step v × AtEachStep holds s steps (value_after s v step)

-- if a line that may grow leaves the history's end, by one entry or to the first, and comes back to
-- it by steps that begin away from it, without a search, then line and cursor are as they were
abbrev pub ComesBack : Type 0
ComesBack = (s : Setting) (m : Means) (one : Bool) (steps : List ValueStep) (v : Value)
    → v.history ≡ length s.entries → v.line.place ≤ length v.line.text → v.line.growth ≡ true
    → let left = (effect m (if one then PreviousHistory else BeginningOfHistory) s v).value in
    AtEachStep (λ step w. (w.history < length s.entries) × (searches step ≡ false)) s steps left
    → let back = fold (value_after s) left steps in
    back.history ≡ length s.entries
    → (back.line.text ≡ v.line.text) × (back.line.place ≡ v.line.place)

-- an undo by as many items as the record has, or more, restores the text that the record reaches
abbrev pub UndoReaches : Type 0
UndoReaches = (s : Setting) (m : Means) (v : Value) (n : ℕ) (first : List ℕ)
    → Reaches first v.held v.line.text → length v.held ≤ n
    → (effect m (Undo n) s v).value.line.text ≡ first

-- whatever changes a line after its record was empty, by steps that begin on a UTF-8 text with the
-- cursor at a character boundary: an undo by as many items as are held, or more, restores the text
-- of that time. For a new line it is empty
abbrev pub UndoesAll : Type 0
UndoesAll = (s : Setting) (steps : List ValueStep) (v : Value) (m : Means) (n : ℕ)
    → v.held ≡ [] → AtEachStep (λ step. Sound) s steps v
    → let done = fold (value_after s) v steps in
    length done.held ≤ n
    → (effect m (Undo n) s done).value.line.text ≡ v.line.text

-- a search that is given up after any acts that neither leave nor end it leaves line, cursor and
-- record as they were, except the groups that its begin closed
abbrev pub GivesBack : Type 0
GivesBack = (s : Setting) (dir : SearchDirection) (q : Modal) (v : Value) (acts : List Act)
    → v.line.growth ≡ true → is_place v.line.place v.line ≡ true
    → All (λ act. (act ≢ Leaves) × (act ≢ Ends)) acts
    → let first = takes (begin_search dir q)
    (modal_at_search_start dir (length s.entries) v q) s v in
    let x = fold (λ (m : Meeting) act. meeting_in_search act m.modal Abort s m.effect.value) first
    acts in
    let back = (give_up_effect x.modal s x.effect.value).value in
    (back.line ≡ v.line) × (back.held ≡ record_after_close v.held)

-- candidates that are given up after any number of them, in either direction, leave line, cursor
-- and record as they were, except the groups that the begin closed
abbrev pub GivesWordBack : Type 0
GivesWordBack =
    (s : Setting) (found : Completion) (q : Modal) (v : Value) (dirs : List SearchDirection)
    → is_place v.line.place v.line ≡ true
    → let first = takes (cycle_begun found) (cycle_first found v.line q) s v in
    let x = fold (λ (m : Meeting) dir. cycle dir m.modal Complete s m.effect.value) first dirs in
    let back = (give_up_effect x.modal s x.effect.value).value in
    (back.line ≡ v.line) × (back.held ≡ record_after_close v.held)
