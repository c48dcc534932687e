-- A search of the history that stands between the commands of a line.
use Rattle.std.specs.Prelude.{ℕ, zero, suc, ◌+◌, ◌-◌, ◌==◌, ◌&&◌, not, nat_le, nat_lt, min, Bool, true, false, if◌then◌else◌, List, [], ◌++◌, take, length, codes, encode_utf8, Option, None, Some}
use Rattle.line_buffer.specs.Hits.{last_char}
use Rattle.line_buffer.specs.Insertions.{is_inside_char}
use Rattle.line_buffer.specs.Line.{Line}
use Rattle.line_buffer.specs.declared.types.Movement.TheVariants.{BackwardChar}
use Rattle.line_edits.specs.Edits.{update_group}
use Rattle.line_help.specs.Search.{Hit, search_hit}
use Rattle.line_help.specs.declared.history.search.SearchDirection.{SearchDirection}
use Rattle.line_help.specs.declared.history.search.SearchDirection.TheVariants.{Forward, Reverse}
use Rattle.line_keys.specs.declared.command.SearchAgain.{SearchAgain}
use Rattle.line_keys.specs.declared.command.SearchAgain.TheVariants.{Same, Opposite}
use Rattle.line_keys.specs.declared.command.Cmd.{Cmd}
use Rattle.line_keys.specs.declared.command.Cmd.TheVariants.{Abort, ForwardSearchHistory, Kill, ReverseSearchHistory, SelfInsert}
use Rattle.line_editor.specs.Drawing.{beep_effect, refresh_effect, refresh_effect_behind}
use Rattle.line_editor.specs.Modal.{Modal, Meeting, takes}
use Rattle.line_editor.specs.Transforms.{undo_effect}
use Rattle.line_editor.specs.Values.{Value, Setting, Transition, no_effect, memory_effect, then_do, edit_effect, close_groups, at_line}
use Rattle.line_editor.specs.declared.modal_state.Act.{Act}
use Rattle.line_editor.specs.declared.modal_state.Act.TheVariants.{Types, Erases, Goes, Leaves, Ends}
use Rattle.line_editor.specs.declared.modal_state.Standing.TheVariants.{Searches}

-- ---- the query

abbrev pub query_in : Modal → List ℕ
query_in x = if x.fresh then [] else x.query

abbrev pub modal_with_query : List ℕ → Modal → Modal
modal_with_query query x = record x { query = query; fresh = false }

-- without its last character; it is looked for from where the search began
abbrev pub modal_after_erase : Modal → Modal
modal_after_erase x = let query = query_in x in
    record (modal_with_query (take (last_char query) query) x) { at = x.start }

-- ---- the prompt

abbrev pub heading : SearchDirection → Bool → List ℕ
heading Reverse false = codes "(reverse-i-search)`"
heading Reverse true = codes "(failed reverse-i-search)`"
heading Forward false = codes "(i-search)`"
heading Forward true = codes "(failed i-search)`"

abbrev pub search_prompt : Modal → List ℕ
search_prompt x = heading x.dir x.fails ++ (query_in x ++ codes "': ")

-- ---- what a command is to a search

abbrev pub act_of : Cmd → Act
act_of (SelfInsert n c) = Types c
act_of (Kill (BackwardChar n)) = Erases
act_of ReverseSearchHistory = Goes Reverse
act_of ForwardSearchHistory = Goes Forward
act_of Abort = Leaves
act_of cmd = Ends

-- ---- where it goes

-- the entry after one, in a direction
abbrev pub next_at : SearchDirection → ℕ → ℕ → Option ℕ
next_at Reverse zero count = None
next_at Reverse (suc at) count = Some at
next_at Forward at count = if nat_lt (at + 1) count then Some (at + 1) else None

-- where the query is looked for once more; the last search's first of all at an entry that is given
abbrev pub onward : ℕ → SearchDirection → Modal → ℕ → Option ℕ
onward first dir x count = if x.fresh then Some first else next_at dir x.at count

abbrev pub search_for : List ℕ → SearchDirection → Option ℕ → List (List ℕ) → Option Hit
search_for query dir None entries = None
search_for query dir (Some from) entries = search_hit false query from dir entries

-- the search after it; an empty query is not looked for, and doesn't fail
abbrev pub modal_after_look : SearchDirection → Option Hit → Modal → Modal
modal_after_look dir None x = record x
    { dir = dir; fresh = false; fails = not (length x.query == 0) }
modal_after_look dir (Some hit) x =
    record x { dir = dir; fresh = false; fails = false; put = true; at = hit.idx }

-- ---- what it makes of the line

-- the entry that stands in place of the line is undone
abbrev pub hit_undo_effect : Bool → Transition
hit_undo_effect true = undo_effect 1
hit_undo_effect false = no_effect

-- another one is put there, undone as one with those before it
abbrev pub put_hit_effect : Bool → Option Hit → Transition
put_hit_effect put None = no_effect
put_hit_effect put (Some hit) =
    then_do (hit_undo_effect put) (edit_effect (update_group hit.entry hit.pos))

-- drawn after the search's prompt, which takes memory
abbrev pub search_drawn : Modal → Transition
search_drawn x = then_do memory_effect (refresh_effect_behind (search_prompt x))

abbrev pub look : SearchDirection → Option ℕ → Modal → Transition
look dir from x s v = let hit = search_for x.query dir from s.entries in
    then_do (put_hit_effect x.put hit) (search_drawn (modal_after_look dir hit x)) s v

-- the line and its cursor as they were before the search
abbrev pub is_place : ℕ → Line → Bool
is_place place l = nat_le place (length l.text) && not (is_inside_char l.text place)

abbrev pub line_at_place : ℕ → Line → Line
line_at_place place l = if is_place place l then record l { place = place } else l

abbrev pub place_effect : ℕ → Transition
place_effect place s v = record { value = at_line (line_at_place place v.line) v; steps = [] }

abbrev pub give_up_effect : Modal → Transition
give_up_effect x = then_do (hit_undo_effect x.put) (then_do (place_effect x.place) refresh_effect)

-- from the entry that is shown on, or from the last one
abbrev pub modal_at_search_start : SearchDirection → ℕ → Value → Modal → Modal
modal_at_search_start dir count v x = record x {
  standing = Searches;
  fresh = true;
  dir = dir;
  fails = false;
  put = false;
  start = min v.history (count - 1);
  at = min v.history (count - 1);
  place = v.line.place;
}

abbrev pub begin_search : SearchDirection → Modal → Transition
begin_search dir x s v =
    then_do close_groups (search_drawn (modal_at_search_start dir (length s.entries) v x)) s v

-- ---- the last query once more, without a prompt

abbrev pub dir_again : SearchAgain → SearchDirection → SearchDirection
dir_again Same dir = dir
dir_again Opposite Forward = Reverse
dir_again Opposite Reverse = Forward

-- from the entry after the one that was found last; in a line without a search from the entry that
-- is shown, or from the last one
abbrev pub hit_again : SearchAgain → Modal → Setting → Value → Option Hit
hit_again way x s v =
    let dir = dir_again way x.dir in
    let count = length s.entries in
    search_for x.query dir (onward (min v.history (count - 1)) dir x count) s.entries

-- it replaces the line, undone as one
abbrev pub search_again_meeting : Option Hit → Modal → Setting → Value → Meeting
search_again_meeting None x s v = takes beep_effect x s v
search_again_meeting (Some hit) x s v = takes
    (then_do close_groups (then_do (edit_effect (update_group hit.entry hit.pos)) refresh_effect))
    (record x { fresh = false; at = hit.idx }) s v

-- ---- what it makes of a command

abbrev pub looks : SearchDirection → Option ℕ → Modal → Setting → Value → Meeting
looks dir from x s v =
    takes (look dir from x) (modal_after_look dir (search_for x.query dir from s.entries) x) s v

-- a character that is typed takes memory
abbrev pub modal_with_char : ℕ → Modal → Modal
modal_with_char c x = modal_with_query (query_in x ++ encode_utf8 c) x

abbrev pub looks_typed : ℕ → Modal → Setting → Value → Meeting
looks_typed c x s v = let y = modal_with_char c x in
    takes (then_do memory_effect (look x.dir (Some x.at) y))
    (looks x.dir (Some x.at) y s v).modal s v

-- if the query is empty, the line is shown as it was before the search
abbrev pub modal_with_empty_query : Modal → Modal
modal_with_empty_query x = record x { fails = false; put = false }

abbrev pub looks_again : Bool → Modal → Setting → Value → Meeting
looks_again true x s v = let y = modal_with_empty_query x in
    takes (then_do (hit_undo_effect x.put) (then_do (place_effect x.place) (search_drawn y))) y s v
looks_again false x s v = looks x.dir (Some x.start) x s v

abbrev pub looks_erased : Modal → Setting → Value → Meeting
looks_erased x s v = looks_again (length (modal_after_erase x).query == 0) (modal_after_erase x) s v
