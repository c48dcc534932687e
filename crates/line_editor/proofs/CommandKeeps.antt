-- What the edits of commands keep is kept by each command that shows no other entry of the history.
use Rattle.std.proofs.Common.{◌≡◌, ℕ, ◌==◌, ◌||◌, not, Bool, true, false, List, length, Option, Some, None, is_some, slice_get, if◌then◌else◌}
use Rattle.line_buffer.specs.Columns.{line_up, line_down}
use Rattle.line_buffer.specs.Insertions.{can_take_before, insert as insertion, yank as yanked_in}
use Rattle.line_buffer.specs.Clusters.{place_forward, place_backward}
use Rattle.line_buffer.specs.LetterCase.{edit_word as recased_in}
use Rattle.line_buffer.specs.Range.{range_of, copied_range}
use Rattle.line_buffer.specs.declared.types.Anchor.{Anchor, TheVariants.After, TheVariants.Before}
use Rattle.line_buffer.specs.declared.types.Movement.{Movement}
use Rattle.line_buffer.specs.declared.types.Movement.TheVariants.{BeginningOfLine, EndOfLine, BackwardWord, ForwardWord, ViCharSearch, ViFirstPrint, BackwardChar, ForwardChar, LineUp, LineDown, BeginningOfBuffer, EndOfBuffer}
use Rattle.line_buffer.specs.Hits.{search_place}
use Rattle.line_buffer.specs.Rows.{row_start, row_end}
use Rattle.line_buffer.specs.Words.{prev_word, next_word}
use Rattle.line_buffer.specs.declared.types.At.TheVariants.{Start}
use Rattle.line_buffer.specs.declared.types.Word.TheVariants.{Big}
use Rattle.line_buffer.specs.declared.types.WordAction.{WordAction, TheVariants.Capitalize, TheVariants.Lowercase, TheVariants.Uppercase}
use Rattle.line_edits.specs.WriteSteps.{effect_of_steps, with_answer, no_steps, group_opened, group_closed}
use Rattle.line_edits.specs.Edits.{replace_group, by, yank_steps, text_steps, overwrite_steps, transpose_chars_group, transpose_words_group, word_group, char_steps, pop_group, kill_steps, indent_steps}
use Rattle.line_help.specs.Hints.{Hinted}
use Rattle.line_help.specs.History.{begins_with_space}
use Rattle.line_help.specs.declared.helpers.validate.ValidationResult.{ValidationResult, TheVariants.Incomplete, TheVariants.Invalid, TheVariants.Valid}
use Rattle.line_keys.specs.declared.command.Cmd.{Cmd}
use Rattle.line_keys.specs.declared.command.Cmd.TheVariants.{AcceptLine, BeginningOfHistory, CapitalizeWord, Complete, CompleteHint, Dedent, DowncaseWord, EndOfHistory, HistorySearchBackward, HistorySearchForward, Indent, Insert, Kill, Move, NextHistory, Overwrite, PreviousHistory, ReplaceChar, Replace, SelfInsert, TransposeChars, TransposeWords, Undo, UpcaseWord, ViYankTo, Yank, YankPop, LineUpOrPreviousHistory, LineDownOrNextHistory, Newline, AcceptOrInsertLine}
use Rattle.line_keys.specs.declared.command.CmdKind.{CmdKind, TheVariants.MoveCursor}
use Rattle.line_record.specs.Held.{closes}
use Rattle.line_record.specs.Ring.{yank_exchange}
use Rattle.line_editor.specs.Accepting.{verdict_told, verdict, bare, accept}
use Rattle.line_editor.specs.Commands.{Means, in_vi_command, effect}
use Rattle.line_editor.specs.Completing.{at_row_end, complete_hint_effect}
use Rattle.line_editor.specs.Inserting.{insert_char, insert_text}
use Rattle.line_editor.specs.Killing.{kill_effect}
use Rattle.line_editor.specs.Moving.{to_found, to_place, move_home, move_to_next_word, move_to_first_print, move_by}
use Rattle.line_editor.specs.Transforms.{edit_word_effect, undo}
use Rattle.line_editor.specs.Values.{Value, Setting, Effect, then_do, value_with_edit, line_and_record_of, at_line, no_effect}
use Rattle.line_editor.specs.Yanking.{line_at_anchor, steps_over, behind_yank, value_after_yank, yank_text, yank_lent, pop_lent}
use Rattle.line_editor.proofs.MeetKeeps.{Fact, KeptByEdits, complete_keeps, Holds}
use Rattle.std.specs.Option.{option_map_or}
use Rattle.std.proofs.lemmas.Bool.{cond_both}

-- the edits of commands keep a fact, if the line is `sound` where an edit asks for that
pub record KeptByCommands (fact : Fact) (sound : Value → Type 0) (s : Setting) : Type 0 where
  pub typed : (c n : ℕ) (v : Value) → Holds fact v → Holds fact (value_with_edit (by (char_steps c n)) v)
  pub inserted : (text : List ℕ) (v : Value) → Holds fact v → Holds fact (value_with_edit (by (text_steps text)) v)
  pub yanked : (text : List ℕ) (n : ℕ) (v : Value) → Holds fact v → Holds fact (value_with_edit (by (yank_steps text n)) v)
  pub popped : (size : ℕ) (text : List ℕ) (v : Value) → sound v → Holds fact v → Holds fact (value_with_edit (by (pop_group size text)) v)
  pub killed : (m : Movement) (v : Value) → sound v → Holds fact v → Holds fact (value_with_edit (by (kill_steps m)) v)
  pub replaced : (c n : ℕ) (v : Value) → sound v → Holds fact v → Holds fact (value_with_edit (by (replace_group c n)) v)
  pub overwritten : (c : ℕ) (v : Value) → sound v → Holds fact v → Holds fact (value_with_edit (by (overwrite_steps c)) v)
  pub transposed : (v : Value) → sound v → Holds fact v → Holds fact (value_with_edit (by transpose_chars_group) v)
  pub swapped : (n : ℕ) (v : Value) → sound v → Holds fact v → Holds fact (value_with_edit (by (transpose_words_group n)) v)
  pub recased : (action : WordAction) (v : Value) → sound v → Holds fact v → Holds fact (value_with_edit (by (word_group action)) v)
  pub indented : (m : Movement) (amount : ℕ) (dedent : Bool) (v : Value) → Holds fact v → Holds fact (value_with_edit (by (indent_steps m amount dedent)) v)
  pub grouped : (v : Value) → Holds fact v → Holds fact (value_with_edit group_closed (value_with_edit group_opened v))
  pub undone : (n : ℕ) (v : Value) → Holds fact v → Holds fact (undo n s v).value

-- the commands that show another entry
abbrev pub recalls : Cmd → Bool
recalls PreviousHistory = true
recalls NextHistory = true
recalls BeginningOfHistory = true
recalls EndOfHistory = true
recalls HistorySearchBackward = true
recalls HistorySearchForward = true
recalls (LineUpOrPreviousHistory n) = true
recalls (LineDownOrNextHistory n) = true
recalls cmd = false

pub either_holds : (fact : Fact) (b : Bool) (e f : Effect) → Holds fact e.value → Holds fact f.value → Holds fact (if b then e else f).value
either_holds fact b e f h k = cond_both b e f (λ (x : Effect). Holds fact x.value) (λ t. h) (λ t. k)

pub found_holds : (fact : Fact) (o : Option ℕ) (s : Setting) (v : Value) → Holds fact v → Holds fact (to_found o s v).value
found_holds fact o s v h = either_holds fact (is_some o) _ _ h h

module _ (fact : Fact) (sound : Value → Type 0) (s : Setting) (edits : KeptByEdits fact s) (k : KeptByCommands fact sound s) where
  typing : (c n : ℕ) (v : Value) → Holds fact v → Holds fact (insert_char c n s v).value
  typing c n v h = let typed = k.typed c n v h in either_holds fact (is_some (insertion c n v.line).answer) _ _ typed typed

  -- ---- the cursor

  placed_at : (kind : CmdKind) (place : ℕ) (v : Value) → Holds fact v → Holds fact (to_place kind place s v).value
  placed_at kind place v h = either_holds fact (not (place == v.line.place)) _ _ h h

  home : (v : Value) → Holds fact v → Holds fact (move_home s v).value
  home v h = placed_at MoveCursor (row_start v.line.text v.line.place) v h

  first_print : (v : Value) → Holds fact v → Holds fact (move_to_first_print s v).value
  first_print v h =
      let w = (move_home s v).value in
      either_holds fact (begins_with_space v.line.text) (then_do move_home (move_to_next_word Start Big 1) s v) (move_home s v)
      (found_holds fact (next_word Start Big 1 w.line) s w (home v h)) (home v h)

  motion : (m : Movement) (v : Value) → Holds fact v → Holds fact (move_by m s v).value
  motion BeginningOfLine v h = home v h
  motion EndOfLine v h = placed_at MoveCursor (row_end v.line.text v.line.place) v h
  motion (BackwardWord n word) v h = found_holds fact (prev_word word n v.line) s v h
  motion (ForwardWord n at word) v h = found_holds fact (next_word at word n v.line) s v h
  motion (ViCharSearch n search) v h = found_holds fact (search_place search n v.line) s v h
  motion ViFirstPrint v h = first_print v h
  motion (BackwardChar n) v h = found_holds fact (place_backward n v.line) s v h
  motion (ForwardChar n) v h = found_holds fact (place_forward n v.line) s v h
  motion (LineUp n) v h = found_holds fact (line_up s.mode s.tabs s.column n v.line) s v h
  motion (LineDown n) v h = found_holds fact (line_down s.mode s.tabs s.column n v.line) s v h
  motion BeginningOfBuffer v h = placed_at MoveCursor 0 v h
  motion EndOfBuffer v h = placed_at MoveCursor (length v.line.text) v h
  motion m v h = h

  -- ---- texts

  killing : (m : Movement) (v : Value) → sound v → Holds fact v → Holds fact (kill_effect m s v).value
  killing m v ok h = let killed = k.killed m v ok h in either_holds fact (is_some (range_of m v.line)) _ _ killed killed

  text_if : (text : Option (List ℕ)) (v : Value) → Holds fact v → Holds fact (option_map_or insert_text text no_effect s v).value
  text_if None v h = h
  text_if (Some text) v h = either_holds fact (length text == 0) _ _ h (k.inserted text v h)

  anchored : (anchor : Anchor) (v : Value) → Holds fact v → Holds fact (at_line (line_at_anchor anchor v.line) v)
  anchored After v h = h
  anchored Before v h = h

  stepped_back : (vi : Bool) (v : Value) → Holds fact v → Holds fact (at_line (behind_yank vi v.line) v)
  stepped_back true v h = h
  stepped_back false v h = h

  yanking : (vi : Bool) (text : List ℕ) (anchor : Anchor) (n : ℕ) (v : Value) → Holds fact v → Holds fact (yank_text vi text anchor n s v).value
  yanking vi text anchor n v h =
      let before = at_line (line_at_anchor anchor v.line) v in
      let w = value_with_edit (by (yank_steps text n)) before in
      let put : Holds fact w = k.yanked text n before (anchored anchor v h) in
      let left : Holds fact (value_after_yank vi text n before) = cond_both (is_some (yanked_in text n before.line).answer) (at_line (behind_yank vi w.line) w) w (Holds fact) (λ e. stepped_back vi w put) (λ e. put) in
      either_holds fact (is_some (yanked_in text n before.line).answer || steps_over anchor v.line) _ _ left left

  lent : (vi : Bool) (anchor : Anchor) (n : ℕ) (o : Option (List ℕ)) (v : Value) → Holds fact v → Holds fact (yank_lent vi anchor n o s v).value
  lent vi anchor n None v h = h
  lent vi anchor n (Some text) v h = yanking vi text anchor n v h

  popping : (o : Option (ℕ × List ℕ)) (v : Value) → sound v → Holds fact v → Holds fact (pop_lent o s v).value
  popping None v ok h = h
  popping (Some lent) v ok h = either_holds fact (can_take_before lent.0 v.line) _ _ (k.popped lent.0 lent.1 v ok h) h

  replaced_if : (b : Bool) (c n : ℕ) (v : Value) → Holds fact v → Holds fact (value_with_edit (by (replace_group c n)) v)
      → (let w = effect_of_steps (if b then with_answer true (replace_group c n v.line) else no_steps false).steps (line_and_record_of v) in Holds fact (record v { line = w.line; held = w.held }))
  replaced_if true c n v h made = made
  replaced_if false c n v h made = h

  recasing : (action : WordAction) (v : Value) → sound v → Holds fact v → Holds fact (edit_word_effect action s v).value
  recasing action v ok h = let made = k.recased action v ok h in either_holds fact (recased_in action v.line).answer _ _ made made

  -- ---- lines that are to be accepted, and hints

  judged : (found : ValidationResult) (draws : Bool) (v : Value) → Holds fact v → Holds fact (verdict_told found draws s v).value
  judged Incomplete draws v h = h
  judged (Invalid text) draws v h = either_holds fact (draws || is_some text) _ _ h h
  judged (Valid text) draws v h = either_holds fact (draws || is_some text) _ _ h h

  accepted : (v : Value) → Holds fact v → Holds fact (accept s v).value
  accepted v h =
      let u = (bare s v).value in
      let w = value_with_edit group_opened u in
      either_holds fact (is_some s.hooks) _ _ (judged (verdict s u) (closes w.held || is_some w.hint) (value_with_edit group_closed w) (k.grouped u h)) h

  hint_taken : (o : Option (List ℕ)) (v : Value) → Holds fact v → Holds fact (complete_hint_effect o s v).value
  hint_taken None v h = h
  hint_taken (Some text) v h = let put = k.yanked text 1 v h in either_holds fact (is_some (yanked_in text 1 v.line).answer) _ _ put put

  hint_completed : (o : Option Hinted) (v : Value) → Holds fact v → Holds fact (option_map_or (λ (h : Hinted). complete_hint_effect h.completion s (at_row_end v)) o (no_effect s v)).value
  hint_completed None v h = h
  hint_completed (Some hint) v h = hint_taken hint.completion (at_row_end v) h

  -- ---- any command

  pub command_keeps : (m : Means) (cmd : Cmd) (v : Value) → recalls cmd ≡ false → sound v → Holds fact v → Holds fact (effect m cmd s v).value
  command_keeps m AcceptLine v other ok h = accepted v h
  command_keeps m Newline v other ok h = typing 10 1 (bare s v).value h
  command_keeps m (AcceptOrInsertLine middle) v other ok h = let done = accepted v h in either_holds fact _ _ _ (typing 10 1 (accept s v).value done) done
  command_keeps m CapitalizeWord v other ok h = recasing Capitalize v ok h
  command_keeps m DowncaseWord v other ok h = recasing Lowercase v ok h
  command_keeps m UpcaseWord v other ok h = recasing Uppercase v ok h
  command_keeps m Complete v other ok h = complete_keeps fact s edits (is_some s.hooks) v h
  command_keeps m CompleteHint v other ok h = hint_completed v.hint v h
  command_keeps m (Indent movement) v other ok h = k.indented movement s.config.indent_size false v h
  command_keeps m (Dedent movement) v other ok h = k.indented movement s.config.indent_size true v h
  command_keeps m (Insert n text) v other ok h = yanking (in_vi_command m) text Before n v h
  command_keeps m (Yank n anchor) v other ok h = lent (in_vi_command m) anchor n (slice_get m.ring.slots m.ring.place) v h
  command_keeps m YankPop v other ok h = popping (yank_exchange m.ring) v ok h
  command_keeps m (Move movement) v other ok h = motion movement v h
  command_keeps m (Kill movement) v other ok h = killing movement v ok h
  command_keeps m (ViYankTo movement) v other ok h = either_holds fact (is_some (copied_range movement v.line)) _ _ h h
  command_keeps m (Replace movement text) v other ok h = text_if text (kill_effect movement s v).value (killing movement v ok h)
  command_keeps m (ReplaceChar n c) v other ok h = let made = replaced_if (is_some (place_forward n v.line)) c n v h (k.replaced c n v ok h) in either_holds fact _ _ _ made made
  command_keeps m (Overwrite c) v other ok h = let made = k.overwritten c v ok h in either_holds fact _ _ _ made made
  command_keeps m (SelfInsert n c) v other ok h = typing c n v h
  command_keeps m TransposeChars v other ok h = let made = k.transposed v ok h in either_holds fact _ _ _ made made
  command_keeps m (TransposeWords n) v other ok h = let made = k.swapped n v ok h in either_holds fact _ _ _ made made
  command_keeps m (Undo n) v other ok h = k.undone n v h
  command_keeps m cmd v other ok h = first_of (assumption, cc)
