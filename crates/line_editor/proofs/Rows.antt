-- Whole lines, computed from their keys: the calls asked of a display whose characters have one column each, and the outcome.
use Rattle.std.proofs.Common.{◌≡◌, ℕ, ◌+◌, Bool, true, false, List, [], ◌∷◌, length, Some, None, refl}
use Rattle.std.specs.Fmt.{digits}
use Rattle.std.specs.Prelude.{codes, Result, Ok, Err, if◌then◌else◌}
use Rattle.unicode_segmentation.proofs.Computing.{unicode_segmentation}
use Rattle.line_buffer.specs.Columns.{line_up, line_down}
use Rattle.line_buffer.specs.Hits.{chars_placed}
use Rattle.line_buffer.specs.Rows.{behind_newlines}
use Rattle.line_buffer.specs.Transpositions.{after_words, before_words}
use Rattle.line_buffer.specs.declared.layout.GraphemeClusterMode.TheVariants.{Unicode}
use Rattle.line_buffer.specs.declared.layout.Layout.{Layout}
use Rattle.line_buffer.specs.declared.layout.Position.{Position}
use Rattle.line_config.specs.Config.{default_config}
use Rattle.line_config.specs.declared.settings.EditMode.TheVariants.{Emacs}
use Rattle.line_keys.specs.CustomBindings.{Custom}
use Rattle.line_keys.specs.Replies.{gives_at_once}
use Rattle.line_keys.specs.KeyFeeds.{Coming, Pressed, Ends, End}
use Rattle.line_keys.specs.Common.{common_action}
use Rattle.line_keys.specs.Counts.{rest_of_count}
use Rattle.line_keys.specs.CustomKeys.{key_sequence, rest_of_sequence}
use Rattle.line_keys.specs.Emacs.{emacs_action}
use Rattle.line_keys.specs.Events.{begins_with, single, same_event}
use Rattle.line_keys.specs.Keys.{key_with, none, ctrl, alt}
use Rattle.line_keys.specs.PhraseScripts.{Input, answer_part, memory_then, with_read, from_key, show_then, keep_then, reply_then, and_then}
use Rattle.line_keys.specs.declared.command.Cmd.TheVariants.{HistorySearchBackward, Noop}
use Rattle.line_keys.specs.declared.command.InputMode.TheVariants.{Insert as Inserting}
use Rattle.line_keys.specs.declared.key.KeyCode.TheVariants.{Backspace, Char, Down, Enter, Left, Up}
use Rattle.line_keys.specs.declared.key.KeyEvent.{KeyEvent}
use Rattle.line_record.specs.RecordCourse.{record_after_events}
use Rattle.line_record.specs.Ring.{Ring}
use Rattle.line_editor.specs.RenderCalls.{Call, Ruler, Call.Draw, Call.Move, Call.Write, Call.Beep}
use Rattle.line_config.specs.declared.errors.ReadlineError.{ReadlineError, TheVariants.Eof}
use Rattle.line_editor.specs.LineScripts.{line_state, played_from, steps_along, turn_script, turns_script, line_script}
use Rattle.line_editor.specs.Modal.{Modal, modal_first}
use Rattle.line_editor.specs.Redraws.{fresh}
use Rattle.line_editor.specs.EditSteps.{calls_of_steps}
use Rattle.line_editor.specs.Values.{Setting, first_value}

-- ---- a display of eighty columns, and lines after `> `

abbrev plain : Ruler
plain = record {
  measure = λ text at. record { col = at.col + length text; row = at.row };
  columns = 80;
  rows = 24;
  colours = true;
  mode = Unicode;
  tabs = None;
}

abbrev own : List ℕ
own = codes "> "

abbrev with_entries : List (List ℕ) → Setting
with_entries entries = record { prompt = own; column = 2; mode = Unicode; tabs = None; hooks = None; marks = None; entries = entries; config = default_config }

abbrev typed : ℕ → KeyEvent
typed c = key_with (Char c) none

abbrev emacs : Input
emacs = record { mode = Emacs; input_mode = Inserting; last = Noop; search = None; modal_commands = false }

abbrev nothing_bound : Custom
nothing_bound = record { answers = λ e. None; begins = λ keys. false }

-- the input ends after these keys
abbrev pressed : List KeyEvent → Coming
pressed [] = Ends [] End []
pressed (key ∷ more) = Pressed [] key (pressed more)

abbrev at : ℕ → Position
at column = record { col = column; row = 0 }

-- where the prompt, the cursor and the whole drawing end; no hint
abbrev laid : Bool → ℕ → ℕ → ℕ → Layout
laid given prompt cursor finish = record {
  grapheme_cluster_mode = Unicode;
  prompt_size = at prompt;
  default_prompt = given;
  cursor = at cursor;
  end = at finish;
  has_info = false;
  tab_stops = None;
}

-- behind the session's own prompt, the cursor at the end
abbrev own_laid : ℕ → Layout
own_laid finish = laid true 2 finish finish

-- a line drawn so, in the place of another drawing, without highlighter
abbrev draw : List ℕ → Layout → Call
draw line old = Draw own line (length line) None (Some old) (own_laid (2 + length line)) None

-- whatever the ring holds
module _ (r : Ring) where
  -- its calls, and its outcome
  record LineRow : Type 0 where
    calls : List Call
    outcome : Result (List ℕ) ReadlineError

  -- with what stands between commands as it begins
  abbrev line_with : Modal → List (List ℕ) → Custom → List KeyEvent → LineRow
  line_with modal entries custom ks =
      let s = with_entries entries in
      let k = line_state (first_value s) emacs r modal (pressed ks) in
      let p = played_from s (line_script 12 custom) k in
      record { calls = (calls_of_steps plain (fresh Unicode) (steps_along s k p.asks)).calls; outcome = p.answer }

  abbrev line : List (List ℕ) → Custom → List KeyEvent → LineRow
  line entries custom ks = line_with (modal_first default_config []) entries custom ks

  -- ---- a typed, left, enter

  abbrev a_left_enter : LineRow
  a_left_enter = line [] nothing_bound (typed 0x61 ∷ key_with Left none ∷ key_with Enter none ∷ [])

  a_left_enter_calls : a_left_enter.calls ≡ draw [] (fresh Unicode) ∷ Write (codes "a") ∷ Move (at 3) (at 2) ∷ Move (at 2) (at 3) ∷ []
  unfolding unicode_segmentation line_script turns_script turn_script answer_part rest_of_sequence memory_then with_read from_key show_then keep_then reply_then and_then rest_of_count key_sequence emacs_action common_action
  a_left_enter_calls = refl

  a_left_enter_outcome : a_left_enter.outcome ≡ Ok (codes "a")
  unfolding unicode_segmentation line_script turns_script turn_script answer_part rest_of_sequence memory_then with_read from_key show_then keep_then reply_then and_then rest_of_count key_sequence emacs_action common_action
  a_left_enter_outcome = refl

  -- ---- a count of two before x: its prompt, the session's own again, and both characters in one drawing

  abbrev two_x : LineRow
  two_x = line [] nothing_bound (key_with (Char 0x32) alt ∷ typed 0x78 ∷ [])

  two_x_calls : two_x.calls ≡ draw [] (fresh Unicode) ∷ Draw (codes "(arg: 2) ") [] 0 None (Some (own_laid 2)) (laid false 9 9 9) None ∷ draw [] (laid false 9 9 9) ∷ draw (codes "xx") (own_laid 2) ∷ []
  unfolding unicode_segmentation line_script turns_script turn_script answer_part rest_of_sequence memory_then with_read from_key show_then keep_then reply_then and_then rest_of_count key_sequence emacs_action common_action digits
  two_x_calls = refl

  two_x_outcome : two_x.outcome ≡ Err Eof
  unfolding unicode_segmentation line_script turns_script turn_script answer_part rest_of_sequence memory_then with_read from_key show_then keep_then reply_then and_then rest_of_count key_sequence emacs_action common_action digits
  two_x_outcome = refl

  -- ---- a lone word transposed from its start: the cursor goes after it, by a whole drawing

  abbrev lone_word : LineRow
  lone_word = line [] nothing_bound (typed 0x77 ∷ key_with (Char 0x41) ctrl ∷ key_with (Char 0x74) alt ∷ [])

  lone_word_calls : lone_word.calls ≡ draw [] (fresh Unicode) ∷ Write (codes "w") ∷ Move (at 3) (at 2) ∷ draw (codes "w") (laid true 2 2 3) ∷ []
  unfolding unicode_segmentation line_script turns_script turn_script answer_part rest_of_sequence memory_then with_read from_key show_then keep_then reply_then and_then rest_of_count key_sequence emacs_action common_action after_words before_words
  lone_word_calls = refl

  -- ---- a key bound to a search, in an empty history

  abbrev ctrl_o : Custom
  ctrl_o = record {
    answers = λ e. if same_event (single (key_with (Char 0x4F) ctrl)) e then Some (λ s. gives_at_once (Some HistorySearchBackward)) else None;
    begins = λ ks. begins_with ks (single (key_with (Char 0x4F) ctrl));
  }

  search_calls : (line [] ctrl_o (key_with (Char 0x4F) ctrl ∷ [])).calls ≡ draw [] (fresh Unicode) ∷ Beep ∷ []
  unfolding unicode_segmentation line_script turns_script turn_script answer_part rest_of_sequence memory_then with_read from_key show_then keep_then reply_then and_then rest_of_count key_sequence emacs_action common_action
  search_calls = refl

  -- ---- up three times over two entries, and down twice

  abbrev entries : List (List ℕ)
  entries = codes "line0" ∷ codes "line1" ∷ []

  abbrev up : KeyEvent
  up = key_with Up none

  abbrev down : KeyEvent
  down = key_with Down none

  abbrev up_and_down : LineRow
  up_and_down = line entries nothing_bound (typed 0x63 ∷ typed 0x75 ∷ typed 0x72 ∷ up ∷ up ∷ up ∷ down ∷ down ∷ key_with Enter none ∷ [])

  -- the third step up draws nothing
  up_and_down_calls : up_and_down.calls
      ≡ draw [] (fresh Unicode) ∷ Write (codes "c") ∷ Write (codes "u") ∷ Write (codes "r")
      ∷ draw (codes "line1") (own_laid 5) ∷ draw (codes "line0") (own_laid 7) ∷ draw (codes "line1") (own_laid 7) ∷ draw (codes "cur") (own_laid 7) ∷ []
  unfolding unicode_segmentation line_script turns_script turn_script answer_part rest_of_sequence memory_then with_read from_key show_then keep_then reply_then and_then rest_of_count key_sequence emacs_action common_action line_up line_down behind_newlines
  up_and_down_calls = refl

  up_and_down_outcome : up_and_down.outcome ≡ Ok (codes "cur")
  unfolding unicode_segmentation line_script turns_script turn_script answer_part rest_of_sequence memory_then with_read from_key show_then keep_then reply_then and_then rest_of_count key_sequence emacs_action common_action line_up line_down behind_newlines
  up_and_down_outcome = refl

  -- ---- the same entries searched as one types

  abbrev searched_line : List ℕ → List KeyEvent → LineRow
  searched_line query ks = line_with (modal_first (record default_config { modal_commands = true }) query) entries nothing_bound ks

  abbrev ctrl_r : KeyEvent
  ctrl_r = key_with (Char 0x52) ctrl

  abbrev enter : KeyEvent
  enter = key_with Enter none

  -- where a prompt, the cursor and the drawing end, behind a search's prompt
  abbrev search_laid : ℕ → ℕ → ℕ → Layout
  search_laid prompt place finish = laid false prompt (prompt + place) (prompt + finish)

  -- the entry before the last one has a 0
  abbrev zero_found : LineRow
  zero_found = searched_line [] (ctrl_r ∷ typed 0x30 ∷ enter ∷ [])

  zero_found_calls : zero_found.calls
      ≡ draw [] (fresh Unicode)
      ∷ Draw (codes "(reverse-i-search)`': ") [] 0 None (Some (own_laid 2)) (search_laid 22 0 0) None
      ∷ Draw (codes "(reverse-i-search)`0': ") (codes "line0") 4 None (Some (search_laid 22 0 0)) (search_laid 23 4 5) None
      ∷ Draw own (codes "line0") 4 None (Some (search_laid 23 4 5)) (laid true 2 6 7) None
      ∷ Move (at 6) (at 7) ∷ []
  unfolding unicode_segmentation line_script turns_script turn_script answer_part rest_of_sequence memory_then with_read from_key show_then keep_then reply_then and_then rest_of_count key_sequence emacs_action common_action
  zero_found_calls = refl

  zero_found_outcome : zero_found.outcome ≡ Ok (codes "line0")
  unfolding unicode_segmentation line_script turns_script turn_script answer_part rest_of_sequence memory_then with_read from_key show_then keep_then reply_then and_then rest_of_count key_sequence emacs_action common_action
  zero_found_outcome = refl

  -- given up, the line is as it was
  given_up_outcome : (searched_line [] (typed 0x63 ∷ typed 0x75 ∷ key_with Left none ∷ ctrl_r ∷ typed 0x30 ∷ key_with (Char 0x47) ctrl ∷ typed 0x78 ∷ enter ∷ [])).outcome ≡ Ok (codes "cxu")
  unfolding unicode_segmentation line_script turns_script turn_script answer_part rest_of_sequence memory_then with_read from_key show_then keep_then reply_then and_then rest_of_count key_sequence emacs_action common_action record_after_events
  given_up_outcome = refl

  -- an undo takes the search back, whatever entries it went over
  taken_back_outcome : (searched_line [] (typed 0x63 ∷ ctrl_r ∷ typed 0x6C ∷ ctrl_r ∷ key_with (Char 0x5F) ctrl ∷ enter ∷ [])).outcome ≡ Ok (codes "c")
  unfolding unicode_segmentation line_script turns_script turn_script answer_part rest_of_sequence memory_then with_read from_key show_then keep_then reply_then and_then rest_of_count key_sequence emacs_action common_action record_after_events
  taken_back_outcome = refl

  -- an empty query shows the line as it was
  abbrev emptied_query : LineRow
  emptied_query = searched_line [] (typed 0x63 ∷ typed 0x75 ∷ key_with Left none ∷ ctrl_r ∷ typed 0x30 ∷ key_with Backspace none ∷ enter ∷ [])

  emptied_query_calls : emptied_query.calls
      ≡ draw [] (fresh Unicode) ∷ Write (codes "c") ∷ Write (codes "u") ∷ Move (at 4) (at 3)
      ∷ Draw (codes "(reverse-i-search)`': ") (codes "cu") 1 None (Some (laid true 2 3 4)) (search_laid 22 1 2) None
      ∷ Draw (codes "(reverse-i-search)`0': ") (codes "line0") 4 None (Some (search_laid 22 1 2)) (search_laid 23 4 5) None
      ∷ Draw (codes "(reverse-i-search)`': ") (codes "cu") 1 None (Some (search_laid 23 4 5)) (search_laid 22 1 2) None
      ∷ Draw own (codes "cu") 1 None (Some (search_laid 22 1 2)) (laid true 2 3 4) None
      ∷ Move (at 3) (at 4) ∷ []
  unfolding unicode_segmentation line_script turns_script turn_script answer_part rest_of_sequence memory_then with_read from_key show_then keep_then reply_then and_then rest_of_count key_sequence emacs_action common_action record_after_events chars_placed
  emptied_query_calls = refl

  emptied_query_outcome : emptied_query.outcome ≡ Ok (codes "cu")
  unfolding unicode_segmentation line_script turns_script turn_script answer_part rest_of_sequence memory_then with_read from_key show_then keep_then reply_then and_then rest_of_count key_sequence emacs_action common_action record_after_events chars_placed
  emptied_query_outcome = refl

  -- the last query of an earlier line, by the same key twice
  last_query_outcome : (searched_line (codes "0") (ctrl_r ∷ ctrl_r ∷ enter ∷ [])).outcome ≡ Ok (codes "line0")
  unfolding unicode_segmentation line_script turns_script turn_script answer_part rest_of_sequence memory_then with_read from_key show_then keep_then reply_then and_then rest_of_count key_sequence emacs_action common_action
  last_query_outcome = refl

  -- with the setting off the key does nothing
  off_outcome : (line entries nothing_bound (ctrl_r ∷ typed 0x30 ∷ enter ∷ [])).outcome ≡ Ok (codes "0")
  unfolding unicode_segmentation line_script turns_script turn_script answer_part rest_of_sequence memory_then with_read from_key show_then keep_then reply_then and_then rest_of_count key_sequence emacs_action common_action
  off_outcome = refl
