-- The effect of each command on the editor's value and on the ring, and how it ends.
use Rattle.std.specs.Prelude.{◌≡◌, ◌⊎◌, ℕ, ◌==◌, Bool, true, false, if◌then◌else◌, Result, Ok, Err, slice_get, length, is_some}
use Rattle.line_buffer.specs.Columns.{line_up, line_down}
use Rattle.line_buffer.specs.declared.types.Anchor.TheVariants.{Before}
use Rattle.line_buffer.specs.declared.types.WordAction.TheVariants.{Capitalize, Lowercase, Uppercase}
use Rattle.line_config.specs.declared.errors.ReadlineError.{ReadlineError}
use Rattle.line_config.specs.declared.errors.ReadlineError.TheVariants.{Interrupted, Eof, Memory}
use Rattle.line_config.specs.declared.settings.EditMode.{EditMode}
use Rattle.line_help.specs.declared.history.search.SearchDirection.TheVariants.{Forward, Reverse}
use Rattle.line_keys.specs.PhraseScripts.{Input, is_emacs, is_vi_command}
use Rattle.line_keys.specs.declared.command.Cmd.{Cmd}
use Rattle.line_keys.specs.declared.command.Cmd.TheVariants.{AcceptLine, BeginningOfHistory, CapitalizeWord, ClearScreen, Complete, CompleteHint, Dedent, DowncaseWord, EndOfFile, EndOfHistory, HistorySearchBackward, HistorySearchForward, Indent, Insert, Interrupt, Kill, Move, NextHistory, Repaint, Overwrite, PreviousHistory, ReplaceChar, Replace, SelfInsert, TransposeChars, TransposeWords, Undo, UpcaseWord, ViYankTo, Yank, YankPop, LineUpOrPreviousHistory, LineDownOrNextHistory, Newline, AcceptOrInsertLine}
use Rattle.line_keys.specs.declared.command.InputMode.{InputMode}
use Rattle.line_record.specs.Ring.{Ring, ring_after_yank, ring_after_turn, yank_exchange, ring_all, ring_with_kill}
use Rattle.line_edits.specs.Edits.{ring_without_kill, replace_group_if_any, overwrite_steps}
use Rattle.line_editor.specs.Accepting.{bare, newline, accept, accepts, accept_or_insert, verdict}
use Rattle.line_editor.specs.Completing.{complete, complete_hint}
use Rattle.line_editor.specs.Drawing.{refresh_effect, clear_and_draw_effect, cursor_end_effect}
use Rattle.line_editor.specs.Inserting.{insert_char, clusters_replaced}
use Rattle.line_editor.specs.Killing.{kill_effect, replace, copy_effect}
use Rattle.line_editor.specs.Moving.{move_by}
use Rattle.line_editor.specs.History.{history_step, history_end, history_search}
use Rattle.line_editor.specs.Transforms.{transpose_chars_effect, transpose_words_effect, edit_word_effect, indent_by_setting, undo}
use Rattle.line_editor.specs.Values.{Value, Setting, Transition, no_effect}
use Rattle.line_editor.specs.Yanking.{yank_text, yank_lent, pop_lent}
use Rattle.line_editor.specs.declared.commands.Status.{Status}
use Rattle.line_editor.specs.declared.commands.Status.TheVariants.{Proceed, Submit}
use Rattle.std.specs.Option.{option_map_or}
use Rattle.line_buffer.specs.Range.{copied_range, span_text, kill_events}
use Rattle.line_buffer.specs.declared.types.Mode.TheVariants.{Append}
use Rattle.line_buffer.specs.declared.types.Movement.TheVariants.{LineUp, LineDown}

-- what a command uses beside the state
pub record Means : Type 0 where
  pub mode : EditMode
  pub input_mode : InputMode
  pub ring : Ring

abbrev pub means_of : Input → Ring → Means
means_of input r = record { mode = input.mode; input_mode = input.input_mode; ring = r }

abbrev pub in_vi_command : Means → Bool
in_vi_command m = is_vi_command m.mode m.input_mode

-- up or down by rows; in the first row and in the last one, through the history
abbrev pub line_up_or_previous : ℕ → Transition
line_up_or_previous n s v =
    if is_some (line_up s.mode s.tabs s.column n v.line) then move_by (LineUp n) s v
    else history_step true s v

abbrev pub line_down_or_next : ℕ → Transition
line_down_or_next n s v =
    if is_some (line_down s.mode s.tabs s.column n v.line) then move_by (LineDown n) s v
    else history_step false s v

abbrev pub effect : Means → Cmd → Transition
effect m (SelfInsert n c) = insert_char c n
effect m Newline = newline
effect m (Insert n text) = yank_text (in_vi_command m) text Before n
effect m (Yank n anchor) =
    yank_lent (in_vi_command m) anchor n (slice_get m.ring.slots m.ring.place)
effect m YankPop = pop_lent (yank_exchange m.ring)
effect m (Move movement) = move_by movement
effect m (Kill movement) = kill_effect movement
effect m (Replace movement text) = replace movement text
effect m (ReplaceChar n c) = clusters_replaced n (replace_group_if_any c n)
effect m (Overwrite c) = clusters_replaced 1 (overwrite_steps c)
effect m EndOfFile = bare
effect m ClearScreen = clear_and_draw_effect
effect m Repaint = refresh_effect
effect m PreviousHistory = history_step true
effect m NextHistory = history_step false
effect m BeginningOfHistory = history_end true
effect m EndOfHistory = history_end false
effect m (LineUpOrPreviousHistory n) = line_up_or_previous n
effect m (LineDownOrNextHistory n) = line_down_or_next n
effect m HistorySearchBackward = history_search Reverse
effect m HistorySearchForward = history_search Forward
effect m TransposeChars = transpose_chars_effect
effect m (TransposeWords n) = transpose_words_effect n
effect m CapitalizeWord = edit_word_effect Capitalize
effect m DowncaseWord = edit_word_effect Lowercase
effect m UpcaseWord = edit_word_effect Uppercase
effect m (Undo n) = undo n
effect m (Indent movement) = indent_by_setting movement false
effect m (Dedent movement) = indent_by_setting movement true
effect m Complete = complete
effect m CompleteHint = complete_hint
effect m AcceptLine = accept
effect m (AcceptOrInsertLine middle) = accept_or_insert middle
effect m Interrupt = cursor_end_effect
effect m (ViYankTo movement) = copy_effect movement
effect m cmd = no_effect

abbrev pub ring_after_command : Cmd → Value → Ring → Ring
ring_after_command (Kill movement) v r = ring_all (kill_events movement v.line) r
ring_after_command (Replace movement text) v r = ring_all (kill_events movement v.line) r
ring_after_command (ViYankTo movement) v r = option_map_or
    (λ span. ring_with_kill (span_text span v.line) Append r) (copied_range movement v.line) r
ring_after_command (Yank n anchor) v r = ring_after_yank r
ring_after_command YankPop v r = ring_after_turn r
ring_after_command cmd v r = r

-- the same if the ring finds no memory for a text
abbrev pub ring_without_text : Cmd → Value → Ring → Ring
ring_without_text (Kill movement) v r = ring_without_kill movement r
ring_without_text (Replace movement text) v r = ring_without_kill movement r
ring_without_text (ViYankTo movement) v r = r
ring_without_text cmd v r = ring_after_command cmd v r

-- a failed command leaves the ring that it makes or, if memory ran out, the one without its text
abbrev pub CutRing : Cmd → Value → Ring → Ring → ReadlineError → Type 0
CutRing cmd v old new e = (new ≡ ring_after_command cmd v old)
    ⊎ ((e ≡ Memory) × (new ≡ ring_without_text cmd v old))

-- an empty line ends the session; in Vi mode any other line is accepted
abbrev pub end_of_file : Bool → Value → Result Status ReadlineError
end_of_file emacs v =
    if length v.line.text == 0 then Err Eof else if emacs then Ok Proceed else Ok Submit

abbrev pub outcome : Means → Cmd → Setting → Value → Result Status ReadlineError
outcome m EndOfFile s v = end_of_file (is_emacs m.mode) v
outcome m AcceptLine s v = Ok Submit
outcome m (AcceptOrInsertLine middle) s v =
    if accepts middle (verdict s v) v.line then Ok Submit else Ok Proceed
outcome m Interrupt s v = Err Interrupted
outcome m cmd s v = Ok Proceed
