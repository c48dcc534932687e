-- What stands between the commands of a line, and what it makes of one before it is done.
use Rattle.std.specs.Prelude.{ℕ, Bool, true, false, List, [], string_bytes, if◌then◌else◌}
use Rattle.line_config.specs.declared.config.Config.{Config}
use Rattle.line_config.specs.declared.settings.CompletionType.{CompletionType}
use Rattle.line_help.specs.declared.history.search.SearchDirection.{SearchDirection}
use Rattle.line_help.specs.declared.history.search.SearchDirection.TheVariants.{Forward, Reverse}
use Rattle.line_keys.specs.declared.command.Cmd.{Cmd}
use Rattle.line_keys.specs.declared.command.Cmd.TheVariants.{Abort, Complete, CompleteBackward, EndOfHistory, ForwardSearchHistory, HistorySearchBackward, HistorySearchForward, LineDownOrNextHistory, LineUpOrPreviousHistory, ReverseSearchHistory, SearchAgain, Unknown}
use Rattle.line_editor.specs.Values.{Value, Setting, Effect, Transition}
use Rattle.line_editor.specs.declared.modal_state.ModalState.{ModalState}
use Rattle.line_editor.specs.declared.modal_state.Next.{Next}
use Rattle.line_editor.specs.declared.modal_state.Next.TheVariants.{Nothing, Same, Earlier, Later, Own}
use Rattle.line_editor.specs.declared.modal_state.Standing.{Standing}
use Rattle.line_editor.specs.declared.modal_state.Standing.TheVariants.{Off, Rests}
use Rattle.line_editor.specs.declared.modal_state.Wish.{Wish}
use Rattle.line_editor.specs.declared.modal_state.Wish.TheVariants.{Search, Up, Down, Tab, TabBack, Leave, Again, Other}

pub record Modal : Type 0 where
  -- what becomes of several candidates, whether the first Tab lists them, and how many at most
  pub completion_type : CompletionType
  pub lists_at_once : Bool
  pub limit : ℕ
  pub standing : Standing
  -- the text of a search; if `fresh`, it is the last search's, and nothing was typed yet
  pub query : List ℕ
  pub fresh : Bool
  pub dir : SearchDirection
  -- nothing was found for the query
  pub fails : Bool
  -- an entry is shown in place of the line, or a candidate in place of the word
  pub put : Bool
  -- the entry at which it began, and the current one
  pub start : ℕ
  pub at : ℕ
  -- the current candidate
  pub candidate : ℕ
  -- the cursor's place before it
  pub place : ℕ

abbrev pub modal_of : ModalState → Modal
modal_of x = record {
  completion_type = x.completion_type;
  lists_at_once = x.lists_at_once;
  limit = x.limit;
  standing = x.standing;
  query = string_bytes x.query;
  fresh = x.fresh;
  dir = x.dir;
  fails = x.fails;
  put = x.put;
  start = x.start;
  at = x.at;
  candidate = x.candidate;
  place = x.place;
}

-- as a line begins: nothing stands, and the query is the last search's
abbrev pub modal_first : Config → List ℕ → Modal
modal_first config query = record {
  completion_type = config.completion_type;
  lists_at_once = config.completion_show_all_if_ambiguous;
  limit = config.completion_prompt_limit;
  standing = if config.modal_commands then Rests else Off;
  query = query;
  fresh = true;
  dir = Reverse;
  fails = false;
  put = false;
  start = 0;
  at = 0;
  candidate = 0;
  place = 0;
}

abbrev pub modal_at_rest : Modal → Modal
modal_at_rest x = record x { standing = Rests }

-- nothing stands, so a command is done as it comes unless it begins something
abbrev pub is_at_rest : Standing → Bool
is_at_rest Off = true
is_at_rest Rests = true
is_at_rest standing = false

-- ---- a command before it is done

-- what is made before it is done, what stands then, and which command is done: none, if what stands
-- took it
pub record Meeting : Type 0 where
  pub effect : Effect
  pub modal : Modal
  pub next : Cmd

abbrev pub pass_meeting : Modal → Cmd → Value → Meeting
pass_meeting x cmd v = record { effect = record { value = v; steps = [] }; modal = x; next = cmd }

abbrev pub takes : Transition → Modal → Setting → Value → Meeting
takes edit y s v = record { effect = edit s v; modal = y; next = Unknown }

-- another command is done in its place
abbrev pub goes : Transition → Modal → Cmd → Setting → Value → Meeting
goes edit y next s v = record { effect = edit s v; modal = y; next = next }

-- ---- what a command is between commands

abbrev pub wish_of : Cmd → Wish
wish_of ReverseSearchHistory = Search Reverse
wish_of ForwardSearchHistory = Search Forward
wish_of (LineUpOrPreviousHistory n) = Up
wish_of (LineDownOrNextHistory n) = Down
wish_of Complete = Tab
wish_of CompleteBackward = TabBack
wish_of Abort = Leave
wish_of (SearchAgain way) = Again way
wish_of cmd = Other

abbrev pub next_of : Cmd → Next → Cmd
next_of cmd Nothing = Unknown
next_of cmd Same = cmd
next_of cmd Earlier = HistorySearchBackward
next_of cmd Later = HistorySearchForward
next_of cmd Own = EndOfHistory
