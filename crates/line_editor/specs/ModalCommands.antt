-- What becomes of a command before it is done, by what stands, and what is to be seen then.
use Rattle.std.specs.Prelude.{◌≡◌, ℕ, ◌==◌, ◌&&◌, true, false, List, length, Option, ◌+◌, ◌-◌, not, Bool, if◌then◌else◌, take, None, is_some}
use Rattle.line_help.specs.declared.history.search.SearchDirection.TheVariants.{Forward, Reverse}
use Rattle.line_keys.specs.declared.command.Cmd.{Cmd}
use Rattle.line_editor.specs.Candidates.{tab, cycle}
use Rattle.line_editor.specs.Drawing.{refresh_effect, beep_effect}
use Rattle.line_editor.specs.Modal.{Modal, modal_at_rest, Meeting, pass_meeting, takes, goes, wish_of}
use Rattle.line_editor.specs.Searching.{search_prompt, give_up_effect, looks_typed, looks_erased, act_of, hit_again, search_again_meeting, looks, onward, modal_with_query, begin_search, modal_at_search_start}
use Rattle.line_editor.specs.Sights.{Sight, sight_of, sight_with}
use Rattle.line_editor.specs.Values.{Value, Setting, Transition, then_do, shown_marks, no_effect}
use Rattle.line_editor.specs.declared.modal_state.Act.{Act}
use Rattle.line_editor.specs.declared.modal_state.Act.TheVariants.{Types, Erases, Goes, Leaves, Ends}
use Rattle.line_editor.specs.declared.modal_state.Standing.{Standing}
use Rattle.line_editor.specs.declared.modal_state.Standing.TheVariants.{Off, Rests, Prefixes, Searches, Tabbed, Lists, Cycles}
use Rattle.line_editor.specs.declared.modal_state.Wish.{Wish}
use Rattle.line_editor.specs.declared.modal_state.Wish.TheVariants.{Search, Up, Down, Tab, TabBack, Leave, Again}
use Rattle.std.specs.List.{list_any}
use Rattle.line_buffer.specs.Line.{Line}
use Rattle.line_help.specs.Search.{Hit, search_hit}
use Rattle.line_keys.specs.declared.command.Cmd.TheVariants.{EndOfHistory, HistorySearchBackward, HistorySearchForward}
use Rattle.line_editor.specs.History.{leave_effect}

-- ---- Up and Down through the entries that begin with the line

-- one row that isn't empty, with the cursor at its end
abbrev pub is_prefix : Line → Bool
is_prefix l = not (length l.text == 0)
    && ((l.place == length l.text) && not (list_any (λ b. b == 10) l.text))

-- no entry is shown in place of the line
abbrev pub is_own : Setting → Value → Bool
is_own s v = v.history == length s.entries

-- the nearest entries before and after the current one that begin with the text before the cursor
abbrev pub earlier : Setting → Value → Option Hit
earlier s v = if v.history == 0 then None
    else search_hit true (take v.line.place v.line.text) (v.history - 1) Reverse s.entries

abbrev pub later : Setting → Value → Option Hit
later s v = if v.history == length s.entries then None
    else search_hit true (take v.line.place v.line.text) (v.history + 1) Forward s.entries

-- up to the earlier entry; the line is saved, to come back to it. Without one a beep
abbrev pub rises : Modal → Setting → Value → Meeting
rises x s v =
    if is_some (earlier s v)
    then goes leave_effect (record x { standing = Prefixes }) HistorySearchBackward s v
    else takes beep_effect x s v

-- down to the later entry; without one to the line itself
abbrev pub falls : Modal → Setting → Value → Meeting
falls x s v = if is_some (later s v) then goes no_effect x HistorySearchForward s v
    else goes no_effect (modal_at_rest x) EndOfHistory s v

-- ---- what stands between the commands

-- what may begin
abbrev pub meeting_at_rest : Wish → Modal → Cmd → Setting → Value → Meeting
meeting_at_rest (Search dir) x cmd s v =
    if length s.entries == 0 then pass_meeting x cmd v
    else takes (begin_search dir x) (modal_at_search_start dir (length s.entries) v x) s v
meeting_at_rest Up x cmd s v =
    if is_own s v && is_prefix v.line then rises x s v else pass_meeting x cmd v
meeting_at_rest Tab x cmd s v = tab x.lists_at_once x cmd s v
meeting_at_rest (Again way) x cmd s v = search_again_meeting (hit_again way x s v) x s v
meeting_at_rest wish x cmd s v = pass_meeting x cmd v

-- an edit, and then what is made of the command
abbrev pub then_meets : Transition → (Setting → Value → Meeting) → Setting → Value → Meeting
then_meets first met s v = let m = met s (first s v).value in
    goes (then_do first (λ a w. (met a w).effect)) m.modal m.next s v

-- the line is drawn anew behind its own prompt, and the command is met as at rest
abbrev pub meeting_anew : Wish → Modal → Cmd → Setting → Value → Meeting
meeting_anew wish x cmd s v = then_meets refresh_effect
    (meeting_at_rest wish (modal_at_rest x) cmd) s v

-- what goes on: among the entries that begin with the line; after a Tab, where a second one may
-- list the candidates; in a list, which goes with the next key; or at a candidate, from which it
-- goes to the next one, the one before, or the line as it was
abbrev pub meeting_on : Standing → Wish → Modal → Cmd → Setting → Value → Meeting
meeting_on Prefixes Up x cmd s v = rises x s v
meeting_on Prefixes Down x cmd s v = falls x s v
meeting_on Tabbed Tab x cmd s v = tab true x cmd s v
meeting_on Lists Tab x cmd s v = tab true x cmd s v
meeting_on Lists wish x cmd s v = meeting_anew wish x cmd s v
meeting_on Cycles Tab x cmd s v = cycle Forward x cmd s v
meeting_on Cycles TabBack x cmd s v = cycle Reverse x cmd s v
meeting_on Cycles Leave x cmd s v = takes (give_up_effect x) (modal_at_rest x) s v
meeting_on standing wish x cmd s v = meeting_at_rest wish (modal_at_rest x) cmd s v

-- what a search that stands makes of it
abbrev pub meeting_in_search : Act → Modal → Cmd → Setting → Value → Meeting
meeting_in_search (Types c) x cmd s v = looks_typed c x s v
meeting_in_search Erases x cmd s v = looks_erased x s v
meeting_in_search (Goes dir) x cmd s v =
    looks dir (onward x.at dir x (length s.entries)) (modal_with_query x.query x) s v
meeting_in_search Leaves x cmd s v = takes (give_up_effect x) (modal_at_rest x) s v
meeting_in_search Ends x cmd s v = meeting_anew (wish_of cmd) x cmd s v

abbrev pub meeting_in : Standing → Modal → Cmd → Setting → Value → Meeting
meeting_in Off x cmd s v = pass_meeting x cmd v
meeting_in Rests x cmd s v = meeting_at_rest (wish_of cmd) x cmd s v
meeting_in Searches x cmd s v = meeting_in_search (act_of cmd) x cmd s v
meeting_in standing x cmd s v = meeting_on standing (wish_of cmd) x cmd s v

abbrev pub meeting : Modal → Cmd → Setting → Value → Meeting
meeting x cmd s v = meeting_in x.standing x cmd s v

abbrev pub meeting_effect : Modal → Cmd → Transition
meeting_effect x cmd s v = (meeting x cmd s v).effect

-- what is to be seen of a value behind another prompt than the session's
abbrev pub sight_behind : List ℕ → Setting → Value → Option (List ℕ) → Sight
sight_behind prompt s v info =
    sight_with (shown_marks v s.marks) false prompt v.line.text v.line.place info

-- a search shows its prompt in place of the line's
abbrev pub sight_in_mode : Standing → Modal → Setting → Value → Option (List ℕ) → Sight
sight_in_mode Searches x s v info = sight_behind (search_prompt x) s v info
sight_in_mode standing x s v info = sight_of s v info

abbrev pub modal_seen : Modal → Setting → Value → Option (List ℕ) → Sight
modal_seen x s v info = sight_in_mode x.standing x s v info

-- with the setting off each command is done as it comes
abbrev pub OffPasses : Type 0
OffPasses = (x : Modal) (cmd : Cmd) (s : Setting) (v : Value) → x.standing ≡ Off
    → meeting x cmd s v ≡ pass_meeting x cmd v
