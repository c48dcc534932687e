-- Each step leaves a record that reaches the same text.
use Rattle.std.proofs.Common.{◌≡◌, ℕ, ◌+◌, ◌-◌, ◌≤◌, min, ◌==◌, take, drop, ◌++◌, Bool, true, false, List, [], ◌∷◌, length, Option, Some, None, is_some, refl, sym, ap, ◌∙◌, subst, arith}
use Rattle.std.specs.Prelude.{IsUtf8, IsCharBoundary, IfSome, nat_le, encode_utf8, slice_range, fold}
use Rattle.std.specs.List.{replace_range}
use Rattle.std.proofs.lemmas.Bool.{leb-true, leb-false}
use Rattle.std.proofs.lemmas.List.{drop_all, length-take, length-drop}
use Rattle.line_buffer.specs.Columns.{line_up, line_down}
use Rattle.line_buffer.specs.Insertions.{yank_pop as popped_in, yank as yanked_in}
use Rattle.line_buffer.specs.Clusters.{place_forward}
use Rattle.line_buffer.specs.Line.{with_text_at, with_replacement, Line}
use Rattle.line_buffer.specs.LetterCase.{edit_word as recased_in}
use Rattle.line_buffer.specs.Range.{range_of, deletion_events, deletion_line, kill_events, kill as killed_in}
use Rattle.line_buffer.specs.Event.{InsertStr, replacement, text_after_event, text_after_events}
use Rattle.line_buffer.specs.Transpositions.{transpose_chars as transposed_in, transpose_words as exchanged_in}
use Rattle.line_buffer.specs.declared.types.Movement.TheVariants.{ForwardChar}
use Rattle.line_buffer.proofs.ReplayedLemmas.{replayed_all-one, replayed_insertion, replayed_replacement, yank_pop_replayed, yank_replayed, indent_replayed}
use Rattle.line_buffer.proofs.SpanLemmas.{IsLater, place_forward-later, deletion_replays, kill_replays, transpose_chars_replays}
use Rattle.line_edits.specs.Edits.{clusters_after, by, update_steps, delete_steps, exchange_steps, overwrite_steps, update_group}
use Rattle.line_edits.proofs.StepLemmas.{overwrite_steps_to}
use Rattle.line_help.specs.Search.{Hit}
use Rattle.line_help.specs.declared.history.search.SearchDirection.{SearchDirection, TheVariants.Forward, TheVariants.Reverse}
use Rattle.line_keys.specs.Refreshing.{Ask, Ask.DoingInsert, Ask.DoneInserting}
use Rattle.line_keys.specs.declared.command.Cmd.{Cmd}
use Rattle.line_keys.specs.declared.command.Cmd.TheVariants.{BeginningOfHistory, EndOfHistory, HistorySearchBackward, HistorySearchForward, NextHistory, PreviousHistory, LineUpOrPreviousHistory, LineDownOrNextHistory}
use Rattle.line_editor.specs.Commands.{Means, effect}
use Rattle.line_editor.specs.Completing.{word_put}
use Rattle.line_editor.specs.Leads.{Reaches, Sound}
use Rattle.line_editor.specs.History.{at_place, recall, history_step, history_end, history_search, entry_shown, leave_effect}
use Rattle.line_editor.specs.Returns.{ValueStep, value_after, UndoesAll, AtEachStep, ValueStep.Done, ValueStep.Asked, ValueStep.Met}
use Rattle.line_editor.specs.Values.{Value, Setting, value_with_edit, line_and_record_of}
use Rattle.line_editor.proofs.CommandKeeps.{KeptByCommands, either_holds, found_holds, command_keeps}
use Rattle.line_editor.proofs.MeetKeeps.{Fact, KeptByEdits, meeting_keeps}
use Rattle.line_editor.proofs.ReachLemmas.{undo_reached, ended_reaches, edit_reaches, group_reaches, typing_reaches, updating_reaches}
use Rattle.line_editor.proofs.ReplaysLemmas.{transpose_words_replays, edit_word_replays}
use Rattle.line_editor.proofs.UndoLemmas.{undo_reaches, unmade_reached}
use Rattle.line_edits.specs.WriteSteps.{steps_of_edit, Written, group_opened, group_closed}
use Rattle.std.specs.Option.{option_map_or}
use Rattle.line_editor.specs.Drawing.{beep_effect, ask_effect}
use Rattle.line_buffer.specs.Indent.{indent as indented_in}
use Rattle.line_buffer.specs.Edit.{Edit}

-- ---- edits of a line with its record

module _ (first : List ℕ) (w : Written) (u : IsUtf8 w.line.text) (b : IsCharBoundary w.line.text w.line.place) (r : Reaches first w.held w.line.text) where
  deleting_reaches : (n : ℕ) → Reaches first (by (delete_steps n) w).held (by (delete_steps n) w).line.text
  deleting_reaches n =
      edit_reaches (deletion_events (range_of (ForwardChar n) w.line) w.line) (deletion_line (range_of (ForwardChar n) w.line) w.line) w first (sym (deletion_replays w.line u b (ForwardChar n))) r

  writing_reaches : (c : ℕ) (o : Option ℕ) → IfSome o (IsLater w.line) → Reaches first (by (overwrite_steps_to c o) w).held (by (overwrite_steps_to c o) w).line.text
  writing_reaches c None h = r
  writing_reaches c (Some end) h =
      edit_reaches (replacement w.line.place end (encode_utf8 c) w.line.text ∷ []) (with_replacement w.line.place end (encode_utf8 c) w.line) w first
      (sym (replayed_all-one _ w.line.text ∙ replayed_replacement w.line.text w.line.place end (encode_utf8 c) h.1 h.0.0)) r

  overwriting_reaches : (c : ℕ) → Reaches first (by (overwrite_steps c) w).held (by (overwrite_steps c) w).line.text
  overwriting_reaches c = writing_reaches c (place_forward 1 w.line) (place_forward-later w.line u b 1)

-- a cursor behind the text's end replaces to the end
far_replaced : (text : List ℕ) (from upto : ℕ) (added : List ℕ) → from ≤ upto → text_after_event (replacement from upto added text) text ≡ replace_range text from upto added
far_replaced text from upto added le = by_order (nat_le upto (length text)) refl
  where
    count : length (slice_range text from upto) ≡ min (upto - from) (length text - from)
    count = length-take (upto - from) (drop from text) ∙ ap (min (upto - from)) (length-drop from text)

    by_order : (b : Bool) → nat_le upto (length text) ≡ b → text_after_event (replacement from upto added text) text ≡ replace_range text from upto added
    by_order true h = replayed_replacement text from upto added le (leb-true upto (length text) h)
    by_order false h =
        let far = leb-false upto (length text) h in
        let reach : length text ≤ from + length (slice_range text from upto) = omega (arith, count, le, far) in
        ap (λ rest. (take from text ++ added) ++ rest) (drop_all (from + length (slice_range text from upto)) text reach ∙ sym (drop_all upto text (omega (arith, far))))

replacing_reaches : (start : ℕ) (text : List ℕ) (w : Written) (first : List ℕ) → start ≤ w.line.place → Reaches first w.held w.line.text → Reaches first (word_put start text w).held (word_put start text w).line.text
replacing_reaches start text w first below r =
    edit_reaches (replacement start w.line.place text w.line.text ∷ []) (with_replacement start w.line.place text w.line) w first
    (sym (replayed_all-one _ w.line.text ∙ far_replaced w.line.text start w.line.place text below)) r

-- ---- a record that reaches a text

abbrev Reached : List ℕ → Value → Type 0
Reached first v = Reaches first v.held v.line.text

abbrev reaching : List ℕ → Fact
reaching first = λ text growth held saved history. Reaches first held text

-- ---- the history's commands

recalled_reached : (entry : List ℕ) (place : ℕ) (v : Value) (first : List ℕ) → Reached first v → Reached first (value_with_edit (by (update_group entry place)) v)
recalled_reached entry place v first r = group_reaches (by (update_steps entry place)) (line_and_record_of v) first (λ k. updating_reaches entry place (group_opened (line_and_record_of v)) first k) r

restored_reached : (v : Value) (first : List ℕ) → Reached first v → Reached first (value_with_edit (by (update_steps v.saved.text v.saved.place)) v)
restored_reached v first r = updating_reaches v.saved.text v.saved.place (line_and_record_of v) first r

recall_reached : (place : ℕ) (o : Option Hit) (s : Setting) (v : Value) (first : List ℕ) → Reached first v → Reached first (recall place o s v).value
recall_reached place None s v first r = r
recall_reached place (Some hit) s v first r = recalled_reached hit.entry (length hit.entry) (at_place place v) first r

leaving_reached : (s : Setting) (v : Value) (first : List ℕ) → Reached first v → Reached first (leave_effect s v).value
leaving_reached s v first r = either_holds (reaching first) (v.history == length s.entries) _ _ r r

history_reached : (back : Bool) (s : Setting) (v : Value) (first : List ℕ) → Reached first v → Reached first (history_step back s v).value
history_reached true s v first r = either_holds (reaching first) (v.history == 0) _ _ r (recall_reached (v.history - 1) _ s (leave_effect s v).value first (leaving_reached s v first r))
history_reached false s v first r =
    either_holds (reaching first) (v.history == length s.entries) _ _ r (either_holds (reaching first) (v.history + 1 == length s.entries) _ _ (restored_reached (at_place (length s.entries) v) first r) (recall_reached (v.history + 1) _ s v first r))

ends_reached : (start : Bool) (s : Setting) (v : Value) (first : List ℕ) → Reached first v → Reached first (history_end start s v).value
ends_reached true s v first r = either_holds (reaching first) (v.history == 0) _ _ r (recall_reached 0 _ s (leave_effect s v).value first (leaving_reached s v first r))
ends_reached false s v first r = either_holds (reaching first) (v.history == length s.entries) _ _ r (restored_reached (at_place (length s.entries) v) first r)

hit_reached : (o : Option Hit) (s : Setting) (v : Value) (first : List ℕ) → Reached first v → Reached first (option_map_or (λ (hit : Hit). entry_shown hit.idx hit.entry hit.pos) o beep_effect s v).value
hit_reached None s v first r = r
hit_reached (Some hit) s v first r = recalled_reached hit.entry hit.pos (at_place hit.idx v) first r

search_reached : (dir : SearchDirection) (s : Setting) (v : Value) (first : List ℕ) → Reached first v → Reached first (history_search dir s v).value
search_reached Reverse s v first r = either_holds (reaching first) (v.history == 0) _ _ r (hit_reached _ s (at_place (v.history - 1) v) first r)
search_reached Forward s v first r = either_holds (reaching first) (v.history == length s.entries) _ _ r (hit_reached _ s (at_place (v.history + 1) v) first r)

-- ---- the edits

reach_kept : (first : List ℕ) (s : Setting) → KeptByEdits (reaching first) s
reach_kept first s = record {
  undone = λ v r. undo_reached 1 first v.held v.line r;
  closed = λ v r. ended_reaches first v.held v.line.text r;
  put = λ entry place v r. recalled_reached entry place v first r;
  completed = λ start text v low r. group_reaches (word_put start text) (line_and_record_of v) first (λ k. replacing_reaches start text (group_opened (line_and_record_of v)) first low k) r;
  left = λ v r. leaving_reached s v first r;
}

-- an edit that tells what leads to the text that it leaves, in a group
in_group : {A : Type 0} (first : List ℕ) (edit : Line → Edit A) (v : Value) → text_after_events (edit v.line).events v.line.text ≡ (edit v.line).line.text → Reached first v
    → (let w = group_closed (by (λ l. steps_of_edit (edit l)) (group_opened (line_and_record_of v))) in Reaches first w.held w.line.text)
in_group first edit v is r =
    group_reaches (by (λ l. steps_of_edit (edit l))) (line_and_record_of v) first (λ k. edit_reaches (edit v.line).events (edit v.line).line (group_opened (line_and_record_of v)) first (sym is) k) r

command_reach_kept : (first : List ℕ) (s : Setting) → KeptByCommands (reaching first) Sound s
command_reach_kept first s = record {
  typed = λ c n v r. typing_reaches c n (line_and_record_of v) first r;
  inserted = λ text v r. edit_reaches (InsertStr v.line.place text ∷ []) (with_text_at v.line.place text v.line) (line_and_record_of v) first
      (sym (replayed_all-one _ v.line.text ∙ replayed_insertion v.line.text v.line.place text)) r;
  yanked = λ text n v r. edit_reaches (yanked_in text n v.line).events (yanked_in text n v.line).line (line_and_record_of v) first (sym (yank_replayed text n v.line)) r;
  popped = λ size text v ok r. in_group first (λ l. popped_in size text l) v (yank_pop_replayed size text v.line ok.boundary.0) r;
  killed = λ m v ok r. edit_reaches (kill_events m v.line) (killed_in m v.line).line (line_and_record_of v) first (sym (kill_replays v.line ok.utf8 ok.boundary m)) r;
  replaced = λ c n v ok r.
      let w = line_and_record_of v in
      let count = clusters_after n v.line in
      group_reaches (by (exchange_steps c n count)) w first (λ k. typing_reaches c count (by (delete_steps n) (group_opened w)) first (deleting_reaches first (group_opened w) ok.utf8 ok.boundary k n)) r;
  overwritten = λ c v ok r. overwriting_reaches first (line_and_record_of v) ok.utf8 ok.boundary r c;
  transposed = λ v ok r. in_group first transposed_in v (transpose_chars_replays v.line ok.utf8 ok.boundary) r;
  swapped = λ n v ok r. in_group first (exchanged_in n) v (transpose_words_replays n v.line ok.utf8 ok.boundary) r;
  recased = λ action v ok r. in_group first (recased_in action) v (edit_word_replays action v.line ok.utf8 ok.boundary) r;
  indented = λ m amount dedent v r.
      let made = indented_in m amount dedent v.line in edit_reaches made.events made.line (line_and_record_of v) first (sym (indent_replayed m amount dedent v.line)) r;
  grouped = λ v r. group_reaches (λ w. w) (line_and_record_of v) first (λ k. k) r;
  undone = λ n v r. unmade_reached n s v first r;
}

-- ---- any step

command_reached : (m : Means) (cmd : Cmd) (s : Setting) (v : Value) (first : List ℕ) → Sound v → Reached first v → Reached first (effect m cmd s v).value
command_reached m PreviousHistory s v first ok r = history_reached true s v first r
command_reached m NextHistory s v first ok r = history_reached false s v first r
command_reached m BeginningOfHistory s v first ok r = ends_reached true s v first r
command_reached m EndOfHistory s v first ok r = ends_reached false s v first r
command_reached m HistorySearchBackward s v first ok r = search_reached Reverse s v first r
command_reached m HistorySearchForward s v first ok r = search_reached Forward s v first r
command_reached m (LineUpOrPreviousHistory n) s v first ok r =
    let above = line_up s.mode s.tabs s.column n v.line in
    either_holds (reaching first) (is_some above) _ _ (found_holds (reaching first) above s v r) (history_reached true s v first r)
command_reached m (LineDownOrNextHistory n) s v first ok r =
    let below = line_down s.mode s.tabs s.column n v.line in
    either_holds (reaching first) (is_some below) _ _ (found_holds (reaching first) below s v r) (history_reached false s v first r)
command_reached m cmd s v first ok r = command_keeps (reaching first) Sound s (reach_kept first s) (command_reach_kept first s) m cmd v refl ok r

ask_reached : (ask : Ask) (s : Setting) (v : Value) (first : List ℕ) → Reached first v → Reached first (ask_effect ask s v).value
ask_reached DoingInsert s v first r = (refl, r)
ask_reached DoneInserting s v first r = ended_reaches first v.held v.line.text r
ask_reached ask s v first r = r

one_reached : (step : ValueStep) (s : Setting) (v : Value) (first : List ℕ) → Sound v → Reached first v → Reached first (value_after s v step)
one_reached (Done m cmd) s v first ok r = command_reached m cmd s v first ok r
one_reached (Asked ask) s v first ok r = ask_reached ask s v first r
one_reached (Met q cmd) s v first ok r = meeting_keeps (reaching first) s (reach_kept first s) q cmd v r

all_reached : (steps : List ValueStep) (s : Setting) (v : Value) (first : List ℕ) → AtEachStep (λ step. Sound) s steps v → Reached first v → Reached first (fold (value_after s) v steps)
all_reached [] s v first ok r = r
all_reached (step ∷ steps) s v first ok r = all_reached steps s (value_after s v step) first ok.1 (one_reached step s v first ok.0 r)

pub undo_all : UndoesAll
undo_all s steps v m n none ok enough =
    undo_reaches s m (fold (value_after s) v steps) n v.line.text (all_reached steps s v v.line.text ok (subst (λ held. Reaches v.line.text held v.line.text) (sym none) refl)) enough
