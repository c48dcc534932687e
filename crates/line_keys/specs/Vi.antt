-- The keys of Vi mode.
use Rattle.std.specs.Prelude.{◌≡◌, IsTrue, IfOk, IfErr, ℕ, Bool, true, false, not, ◌&&◌, if◌then◌else◌, [], ◌∷◌, Option, Some, None, unwrap_or, option_map, Result}
use Rattle.std.specs.Option.{option_map_or}
use Rattle.line_buffer.specs.declared.types.Movement.{Movement}
use Rattle.line_config.specs.declared.errors.ReadlineError.{ReadlineError}
use Rattle.line_config.specs.declared.errors.ReadlineError.TheVariants.{Memory}
use Rattle.line_keys.specs.declared.command.Cmd.{Cmd}
use Rattle.line_keys.specs.declared.command.Cmd.TheVariants.{Dedent, Indent, Kill, Move, Noop, Overwrite, Replace, ReplaceChar, SelfInsert, Unknown, ViYankTo}
use Rattle.line_keys.specs.declared.command.InputMode.{InputMode}
use Rattle.line_keys.specs.declared.command.InputMode.TheVariants.{Command, Insert, Replace as Overwriting}
use Rattle.line_keys.specs.declared.key.KeyCode.TheVariants.{Char, Esc}
use Rattle.line_keys.specs.declared.key.KeyEvent.{KeyEvent}
use Rattle.line_keys.specs.declared.keymap.vi.table.ViAction.{ViAction}
use Rattle.line_keys.specs.declared.keymap.vi.table.ViAction.TheVariants as action
use Rattle.line_keys.specs.declared.keymap.vi.table.InsertAction.{InsertAction}
use Rattle.line_keys.specs.declared.keymap.vi.table.InsertAction.TheVariants as inserting
use Rattle.line_keys.specs.declared.keymap.vi.table.Operator.{Operator}
use Rattle.line_keys.specs.declared.keymap.vi.table.Operator.TheVariants as operators
use Rattle.line_keys.specs.CustomBindings.{Custom}
use Rattle.line_keys.specs.Commands.{holds_text, flags_of}
use Rattle.line_keys.specs.Common.{common, decision_of}
use Rattle.line_keys.specs.Counts.{Counted, count_and_key, how_often, typed_count}
use Rattle.line_keys.specs.CustomKeys.{Situation, situation}
use Rattle.line_keys.specs.Keys.{key_with, none}
use Rattle.line_keys.specs.PhraseScripts.{Input, PhrasePart, takes_commands, answer_part, anew_or, show_then, keep_then, from_key, memory_then, and_then}
use Rattle.line_keys.specs.Refreshing.{Shown, DoingInsert, DoneInserting}
use Rattle.line_keys.specs.Tables.{always, by_count, key_named, each_char, look}
use Rattle.line_keys.specs.ViMotions.{opposite, search_movement, search_of_next_key, vi_motion}
use Rattle.line_keys.specs.ViTables.{action_of, insert_action}

-- ---- the modes and the last change

abbrev pub in_mode : InputMode → Input → Input
in_mode mode input = record input { input_mode = mode }

abbrev pub with_last : Cmd → Input → Input
with_last cmd input = record input { last = cmd }

-- a copy of a command is remembered
abbrev pub remember_if : Bool → Cmd → Input → PhrasePart Cmd
remember_if true cmd input =
    memory_then (holds_text cmd) (keep_then (with_last cmd input) (answer_part cmd))
remember_if false cmd input = answer_part cmd

-- a call that remembers a command, or does nothing
pub record Remembers (is : Bool) (cmd : Cmd) (input input' : Input)
    (result : Result Cmd ReadlineError) : Type 0 where
  pub ok : IfOk result (λ c. (c ≡ cmd) × (input' ≡ (if is then with_last cmd input else input)))
  pub err : IfErr result
      (λ e. (e ≡ Memory) × IsTrue is × IsTrue (holds_text cmd) × (input' ≡ input))

-- in command mode each change is remembered as the last one
abbrev pub change_part : Cmd → Input → Shown → PhrasePart Cmd
change_part cmd input shown = remember_if (flags_of cmd).is_change cmd input

-- a typed character continues the last command: typed ones, or the change that they replace
abbrev pub goes_on : Cmd → Cmd → Bool
goes_on (SelfInsert n c) (SelfInsert m d) = true
goes_on (SelfInsert n c) (Replace m text) = true
goes_on cmd last = false

-- in insert mode too, except for characters that continue the last one
abbrev pub is_new : Cmd → Input → Bool
is_new cmd input = (flags_of cmd).is_change && not (goes_on cmd input.last)

abbrev pub insert_part : Cmd → Input → Shown → PhrasePart Cmd
insert_part cmd input shown = remember_if (is_new cmd input) cmd input

-- ---- command mode

-- a change switches to insert mode before its motion is read
abbrev pub changes : Operator → Bool
changes operators.Change = true
changes other = false

abbrev pub command_of : Operator → Movement → Cmd
command_of operators.Change = λ m. Replace m None
command_of operators.Delete = Kill
command_of operators.Yank = ViYankTo
command_of operators.Dedent = Dedent
command_of operators.Indent = Indent

abbrev pub insert_mode_if : Bool → Input → Input
insert_mode_if changing input = if changing then in_mode Insert input else input

abbrev pub operation : Situation → KeyEvent → (Movement → Cmd) → Input → PhrasePart Cmd
operation s k operator input = and_then input s.shown (vi_motion k s.n input s.shown)
    (λ m input shown. answer_part (option_map_or operator m Unknown))

-- the command of the key after `r`, whose character replaces those under the cursor
abbrev pub key_replacement : ℕ → KeyEvent → Cmd
key_replacement n k = unwrap_or (look n true k (
    each_char none (λ c. by_count (λ n. ReplaceChar n c))
    ∷ key_named Esc none (always Noop)
    ∷ [])) Unknown

-- a key without a row is common to both modes
abbrev pub command_done : Option ℕ → Situation → KeyEvent → Option ViAction → PhrasePart Cmd
command_done new s k (Some (action.Give cmd)) = answer_part cmd
command_done new s k (Some (action.Insert cmd)) =
    keep_then (in_mode Insert s.input) (show_then DoingInsert (λ shown. answer_part cmd))
command_done new s k (Some (action.Turn mode cmd)) =
    keep_then (in_mode mode s.input) (answer_part cmd)
command_done new s k (Some (action.Operate o)) = let input = insert_mode_if (changes o) s.input in
    keep_then input (operation s k (command_of o) input)
command_done new s k (Some (action.Search way)) =
    and_then s.input s.shown (search_of_next_key way s.n s.input)
    (λ m input shown. answer_part (option_map_or Move m Unknown))
command_done new s k (Some action.Again) =
    answer_part (option_map_or Move (search_movement s.n s.input.search) Noop)
command_done new s k (Some action.Back) =
    answer_part (option_map_or Move (search_movement s.n (option_map opposite s.input.search)) Noop)
command_done new s k (Some action.Repeat) = anew_or Noop new s.shown s.input.last
command_done new s k (Some action.Replace) = from_key (key_replacement s.n)
command_done new s k None = common s k

unfoldable pub command_table : Option ℕ → Situation → KeyEvent → PhrasePart Cmd
command_table new s k = command_done new s k (action_of s.input.modal_commands s.n k)

-- the key after a count; a bound command gets the count if one was typed
unfoldable pub vi_counted : Custom → Counted → Input → Shown → PhrasePart Cmd
vi_counted custom f input shown =
    let new = typed_count f.0 in let s = situation custom input shown (how_often f.0) true in
    decision_of new s f.1 (and_then input shown (command_table new s f.1) change_part)

unfoldable pub vi_command : Custom → KeyEvent → Input → Shown → PhrasePart Cmd
vi_command custom k input shown =
    and_then input shown (count_and_key input.mode k) (vi_counted custom)

-- ---- insert mode

abbrev pub char_command : InputMode → ℕ → Cmd
char_command Overwriting c = Overwrite c
char_command mode c = SelfInsert 1 c

-- inserting ends: what follows is shown to command mode
abbrev pub command_mode_then : Input → (Input → Shown → PhrasePart Cmd) → PhrasePart Cmd
command_mode_then input next =
    keep_then (in_mode Command input) (show_then DoneInserting (next (in_mode Command input)))

abbrev pub insert_done : Custom → Input → Shown → KeyEvent → Option InsertAction → PhrasePart Cmd
insert_done custom input shown k (Some (inserting.Give cmd)) = answer_part cmd
insert_done custom input shown k (Some (inserting.Typed c)) =
    answer_part (char_command input.input_mode c)
insert_done custom input shown k (Some (inserting.Leave cmd)) =
    command_mode_then input (λ input shown. answer_part cmd)
insert_done custom input shown k (Some (inserting.Command c)) =
    command_mode_then input (vi_command custom (key_with (Char c) none))
insert_done custom input shown k None = common (situation custom input shown 1 true) k

unfoldable pub insert_table : Custom → Input → Shown → KeyEvent → PhrasePart Cmd
insert_table custom input shown k =
    insert_done custom input shown k (insert_action input.modal_commands shown k)

-- a handler isn't shown a count
unfoldable pub vi_insert : Custom → KeyEvent → Input → Shown → PhrasePart Cmd
vi_insert custom k input shown = decision_of None (situation custom input shown 0 true) k
    (and_then input shown (insert_table custom input shown k) insert_part)

abbrev pub vi_phrase : Custom → Input → Shown → KeyEvent → PhrasePart Cmd
vi_phrase custom input shown k =
    if takes_commands input.input_mode then vi_command custom k input shown
    else vi_insert custom k input shown
