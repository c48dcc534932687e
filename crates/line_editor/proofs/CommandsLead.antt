-- Each command leads from its value to the next.
use Rattle.std.proofs.Common.{◌≡◌, ℕ, ◌+◌, ◌-◌, ◌==◌, ◌≤◌, ◌||◌, arith, not, max, Bool, true, false, List, [], ◌∷◌, ◌++◌, length, Option, Some, None, is_some, slice_get, drop, refl, sym, ap, ◌∙◌, subst, if◌then◌else◌}
use Rattle.std.specs.Prelude.{⊤, ◌&&◌}
use Rattle.std.proofs.lemmas.Bool.{eqb-true, cond-false, not-false}
use Rattle.line_buffer.specs.Clusters.{place_forward}
use Rattle.line_buffer.specs.Columns.{line_up, line_down}
use Rattle.line_buffer.specs.Insertions.{no_insertion, insertion_of, can_take_before, yank as yanked_in}
use Rattle.line_buffer.specs.LetterCase.{word_to_edit, recase}
use Rattle.line_buffer.specs.Line.{Line, with_cursor_at}
use Rattle.line_buffer.specs.Range.{copied_range}
use Rattle.line_buffer.specs.Transpositions.{transposes_words, transpose_words as exchanged_in, swap as swapped_in, words_around, before_transposed}
use Rattle.line_buffer.specs.declared.types.Anchor.{Anchor, TheVariants.After, TheVariants.Before}
use Rattle.line_buffer.specs.declared.types.WordAction.{WordAction, TheVariants.Capitalize, TheVariants.Lowercase, TheVariants.Uppercase}
use Rattle.line_edits.specs.Edits.{yank_steps, pop_group, update_steps, update_group, overwrite_steps, replace_group, replace_group_if_any, indent_steps, transpose_words_group, word_group, after_undo, by}
use Rattle.line_edits.proofs.StepLemmas.{overwrite_steps_to}
use Rattle.line_edits.specs.WriteSteps.{WriteSteps, effect_of_steps, with_answer, no_steps, Written, group_opened, group_closed}
use Rattle.line_help.specs.Hints.{Hinted}
use Rattle.line_keys.specs.Replies.{Reply}
use Rattle.line_help.specs.Search.{Hit, entry_at}
use Rattle.line_help.specs.Validation.{is_valid, has_message}
use Rattle.line_help.specs.declared.history.search.SearchDirection.{SearchDirection, TheVariants.Forward, TheVariants.Reverse}
use Rattle.line_help.specs.declared.helpers.validate.ValidationResult.{ValidationResult, TheVariants.Incomplete, TheVariants.Invalid, TheVariants.Valid}
use Rattle.line_keys.specs.Refreshing.Ask.{Line as LineAsked, Message, Prompted, DoingInsert, DoneInserting}
use Rattle.line_keys.specs.declared.command.Cmd.TheVariants.{AcceptLine, BeginningOfHistory, CapitalizeWord, ClearScreen, Complete, CompleteHint, Dedent, DowncaseWord, EndOfFile, EndOfHistory, HistorySearchBackward, HistorySearchForward, Indent, Insert, Interrupt, Kill, Move, NextHistory, Repaint, Overwrite, PreviousHistory, ReplaceChar, Replace, SelfInsert, TransposeChars, TransposeWords, Undo, UpcaseWord, ViYankTo, Yank, YankPop, LineUpOrPreviousHistory, LineDownOrNextHistory, Newline, AcceptOrInsertLine}
use Rattle.line_keys.specs.declared.command.CmdKind.{CmdKind, TheVariants.ForcedRefresh, TheVariants.Other}
use Rattle.line_record.specs.Held.{has_step, closes}
use Rattle.line_record.specs.Ring.{yank_exchange}
use Rattle.line_editor.specs.Accepting.{bare, verdict, verdict_told, verdict_effect, group_and_verdict_effect, validate, accept, accepts, newline_if, accept_or_insert}
use Rattle.line_editor.specs.Commands.{in_vi_command}
use Rattle.line_editor.specs.Completing.{common_text, word_replaced, updates, complete_effect, candidates_given, candidates_asked, complete, word_completed, at_row_end, complete_hint_effect}
use Rattle.line_editor.specs.Drawing.{since, draw_effect_behind, ask_anew_effect, refresh_effect, refresh_effect_since, cursor_end_effect, effect_if, message_effect, beep_effect, draw_effect_since}
use Rattle.line_editor.specs.Inserting.{insert_char}
use Rattle.line_editor.specs.Leads.{Leads, CommandsLead, SubmittingLeads, AsksLead}
use Rattle.line_editor.specs.Moving.{move_buffer_end}
use Rattle.line_editor.specs.Redraws.Redraw.{Drawn, Bared, Beeped}
use Rattle.line_editor.specs.History.{at_place, leave_effect, recall, recall_earlier_effect, history_step, history_end, history_search, entry_shown}
use Rattle.line_editor.specs.Transforms.{transpose_words_effect, edit_word_effect, undo}
use Rattle.line_editor.specs.Sights.{sight_with, sight_of, ended_sight, Turns, info_after}
use Rattle.line_editor.specs.Values.{Value, Setting, Effect, without_hint, with_mark, help_steps, hint_reply, verdict_reply, completion_reply, update_reply, shown_hint, shown_marks, no_effect, value_with_edit, line_and_record_of, at_line, then_do}
use Rattle.line_editor.specs.Values.EditStep.{Draws}
use Rattle.line_editor.specs.Yanking.{line_at_anchor, steps_over, behind_yank, value_after_yank, yank_text, yank_lent, pop_lent}
use Rattle.line_editor.proofs.KnownLemmas.{Begins, yank_begins, pop_begins, over_begins, replaced_begins}
use Rattle.line_editor.proofs.LeadLemmas.{turns_both, info_both, both_lead, either, help_turns, Alike, alike_sight, or_none, asking_leads, edit_leads, back_leads, take_leads, redraw_leads, redrawn_leads, refresh_leads, refresh_since_leads, redraw_since_leads, refresh_since_if_leads, told_leads, rest_leads, beep_leads, clear_leads, refresh_if_leads, step_leads, motion_leads, none_if, insertion_leads, kill_leads, replace_leads}
use Rattle.line_editor.proofs.RewrittenLeads.{chars_lead}
use Rattle.std.specs.Option.{option_map_or}

found_none : (o : Option ℕ) (l : Line) → is_some o ≡ false → with_cursor_at o l ≡ l
found_none None l h = refl
found_none (Some place) l h = cc

-- ---- yanks

no_yank : (text : List ℕ) (n : ℕ) (l : Line) (b : Bool)
    → (let i = if b then no_insertion l else insertion_of text n l in is_some i.answer ≡ false → i.line ≡ l)
no_yank text n l true h = refl
no_yank text n l false h = none_if _ _ l _ h

not_anchored : (anchor : Anchor) (l : Line) → steps_over anchor l ≡ false → line_at_anchor anchor l ≡ l
not_anchored After l h = found_none (place_forward 1 l) l h
not_anchored Before l h = refl

yank_rests : (vi : Bool) (text : List ℕ) (n : ℕ) (v : Value) → is_some (yanked_in text n v.line).answer ≡ false → Alike v (value_after_yank vi text n v)
yank_rests vi text n v h =
    let w = value_with_edit (by (yank_steps text n)) v in
    let is : value_after_yank vi text n v ≡ w = cond-false (is_some (yanked_in text n v.line).answer) (at_line (behind_yank vi w.line) w) w h in
    subst (Alike v) (sym is) (no_yank text n v.line (length text == 0) h, refl, refl)

-- the cursor may go back behind it
yanked_text : (vi : Bool) (text : List ℕ) (n : ℕ) (v : Value) → (value_after_yank vi text n v).line.text ≡ (yanked_in text n v.line).line.text
yanked_text vi text n v = by_test vi (is_some (yanked_in text n v.line).answer)
  where
    by_test : (vi b : Bool) → (let w = value_with_edit (by (yank_steps text n)) v in (if b then at_line (behind_yank vi w.line) w else w).line.text ≡ (yanked_in text n v.line).line.text)
    by_test true true = refl
    by_test false true = refl
    by_test vi false = refl

yank_leads : (vi : Bool) (text : List ℕ) (anchor : Anchor) (n : ℕ) (s : Setting) (v : Value) → Leads s v (yank_text vi text anchor n s v)
yank_leads vi text anchor n s v =
    let before = at_line (line_at_anchor anchor v.line) v in
    let w = value_after_yank vi text n before in
    let place = before.line.place in
    either s v (is_some (yanked_in text n before.line).answer || steps_over anchor v.line) _ _ (λ e.
    edit_leads (with_answer tt (yank_steps text n before.line)) s v before (refresh_effect_since (since s place v) s w)
    (refresh_since_leads place s v w (λ low. yanked_behind anchor low))) (λ e.
    let parts = or_none _ _ e in
    let rests = yank_rests vi text n before parts.0 in
    rest_leads s v w (rests.0 ∙ not_anchored anchor v.line parts.1, rests.1, rests.2))
  where
    yanked_behind : (anchor : Anchor)
        → (let before : Value = at_line (line_at_anchor anchor v.line) v in before.line.place ≤ length v.line.text → Begins before.line.place v.line.text (value_after_yank vi text n before).line.text)
    yanked_behind After low =
        let before : Value = at_line (line_at_anchor After v.line) v in
        subst (λ xs. Begins before.line.place v.line.text xs) (sym (yanked_text vi text n before)) (yank_begins text n before.line.place before.line (omega arith) low)
    yanked_behind Before low = subst (λ xs. Begins v.line.place v.line.text xs) (sym (yanked_text vi text n v)) (yank_begins text n v.line.place v.line (omega arith) low)

lent_leads : (vi : Bool) (anchor : Anchor) (n : ℕ) (o : Option (List ℕ)) (s : Setting) (v : Value) → Leads s v (yank_lent vi anchor n o s v)
lent_leads vi anchor n None s v = rest_leads s v v (refl, refl, refl)
lent_leads vi anchor n (Some text) s v = yank_leads vi text anchor n s v

pop_leads : (o : Option (ℕ × List ℕ)) (s : Setting) (v : Value) → Leads s v (pop_lent o s v)
pop_leads None s v = rest_leads s v v (refl, refl, refl)
pop_leads (Some lent) s v = either s v (can_take_before lent.0 v.line) _ _ (λ e. redraw_since_leads (pop_group lent.0 lent.1) (v.line.place - lent.0) s v v (pop_begins lent.0 lent.1 (v.line.place - lent.0) v.line (omega arith))) (λ e. rest_leads s v v (refl, refl, refl))

-- ---- words

words_rest : (n : ℕ) (l : Line) → transposes_words n l ≡ false → (exchanged_in n l).line.place ≡ l.place → (exchanged_in n l).line ≡ l
words_rest n l h k =
    let stays : (exchanged_in n l).line ≡ before_transposed n l = cond-false (transposes_words n l) (swapped_in (words_around n l) l).line (before_transposed n l) h in
    stays ∙ ap (λ place. record l { place = place }) (sym (ap (λ (x : Line). x.place) stays) ∙ k)

words_lead : (n : ℕ) (s : Setting) (v : Value) → Leads s v (transpose_words_effect n s v)
words_lead n s v =
    let w = value_with_edit (by (transpose_words_group n)) v in
    refresh_if_leads (transpose_words_group n) s v (transposes_words n v.line || not (w.line.place == v.line.place)) (λ e.
    let parts = or_none (transposes_words n v.line) _ e in
    words_rest n v.line parts.0 (eqb-true w.line.place v.line.place (not-false _ parts.1)))

recase_rests : (action : WordAction) (o : Option (ℕ × ℕ)) (l : Line) → (recase action o l).answer ≡ false → (recase action o l).line ≡ l
recase_rests action None l h = refl
recase_rests action (Some word) l h = cc

word_leads : (action : WordAction) (s : Setting) (v : Value) → Leads s v (edit_word_effect action s v)
word_leads action s v = refresh_if_leads (word_group action) s v (recase action (word_to_edit v.line) v.line).answer (recase_rests action (word_to_edit v.line) v.line)

over_rests : (c : ℕ) (o : Option ℕ) (w : Written) → is_some o ≡ false → (by (overwrite_steps_to c o) w).line ≡ w.line
over_rests c None w h = refl
over_rests c (Some end) w h = cc

-- ---- undo

undo_leads : (n : ℕ) (s : Setting) (v : Value) → Leads s v (undo n s v)
undo_leads n s v = either s v (has_step (max n 1) v.held) _ _ (λ e. back_leads s v v (max n 1) (refresh_effect s (value_with_edit (after_undo n) v)) (refresh_leads s v (value_with_edit (after_undo n) v))) (λ e. let w : Value = record v { held = drop (max n 1) v.held } in back_leads s v v (max n 1) (no_effect s w) (rest_leads s v w (refl, refl, refl)))

-- ---- history

recall_leads : (place : ℕ) (o : Option Hit) (s : Setting) (v w : Value) → Alike v w → Leads s v (recall place o s w)
recall_leads place None s v w h = rest_leads s v w h
recall_leads place (Some hit) s v w h = redraw_leads (update_group hit.entry (length hit.entry)) s v (at_place place w)

leaving_leads : (s : Setting) (v : Value) → Leads s v (leave_effect s v)
leaving_leads s v = either s v (v.history == length s.entries) _ _ (λ e info. record { fits = (tt, tt); leads = refl }) (λ e. rest_leads s v v (refl, refl, refl))

recall_left : (place : ℕ) (s : Setting) (v : Value) → Leads s v (recall_earlier_effect place s v)
recall_left place s v =
    let w = (leave_effect s v).value in
    both_lead s v leave_effect (recall place (entry_at place s.entries)) (leaving_leads s v) (recall_leads place (entry_at place s.entries) s w w (refl, refl, refl))

step_back_leads : (back : Bool) (s : Setting) (v : Value) → Leads s v (history_step back s v)
step_back_leads true s v = either s v (v.history == 0) _ _ (λ e. rest_leads s v v (refl, refl, refl)) (λ e. recall_left (v.history - 1) s v)
step_back_leads false s v =
    either s v (v.history == length s.entries) _ _ (λ e. rest_leads s v v (refl, refl, refl)) (λ e.
    either s v (v.history + 1 == length s.entries) _ _ (λ e. redraw_leads (update_steps v.saved.text v.saved.place) s v (at_place (length s.entries) v)) (λ e. recall_leads (v.history + 1) _ s v v (refl, refl, refl)))

end_leads : (first : Bool) (s : Setting) (v : Value) → Leads s v (history_end first s v)
end_leads true s v = either s v (v.history == 0) _ _ (λ e. rest_leads s v v (refl, refl, refl)) (λ e. recall_left 0 s v)
end_leads false s v =
    either s v (v.history == length s.entries) _ _ (λ e. rest_leads s v v (refl, refl, refl)) (λ e. redraw_leads (update_steps v.saved.text v.saved.place) s v (at_place (length s.entries) v))

found_leads : (o : Option Hit) (s : Setting) (v w : Value) → Alike v w → Leads s v (option_map_or (λ (hit : Hit). entry_shown hit.idx hit.entry hit.pos) o beep_effect s w)
found_leads None s v w h = beep_leads s v w h
found_leads (Some hit) s v w h = redraw_leads (update_group hit.entry hit.pos) s v (at_place hit.idx w)

search_leads : (dir : SearchDirection) (s : Setting) (v : Value) → Leads s v (history_search dir s v)
search_leads Reverse s v = either s v (v.history == 0) _ _ (λ e. beep_leads s v v (refl, refl, refl)) (λ e. found_leads _ s v (at_place (v.history - 1) v) (refl, refl, refl))
search_leads Forward s v = either s v (v.history == length s.entries) _ _ (λ e. beep_leads s v v (refl, refl, refl)) (λ e. found_leads _ s v (at_place (v.history + 1) v) (refl, refl, refl))

-- ---- lines that are to be accepted

bared_by : (s : Setting) (v w : Value) (b : Bool) → (is_some v.hint || (v.marked || w.marked)) ≡ b → w.line ≡ v.line → is_some w.hint ≡ false
    → Leads s v (record { value = w; steps = Draws w s.marks (if b then Drawn s.prompt true w.line.text w.line.place None else Bared s.prompt w.line.text w.line.place) ∷ [] })
bared_by s v w true e h none info = record { fits = ((λ e. refl), tt); leads = refl }
bared_by s v w false e h none info =
    let hint = or_none (is_some v.hint) _ e in
    let marks = or_none v.marked w.marked hint.1 in
    record { fits = (refl, tt); leads = alike_sight s v w info (h, marks.1 ∙ sym marks.0, none ∙ sym hint.0) }

bare_leads : (s : Setting) (v : Value) → Leads s v (bare s v)
bare_leads s v = let w = with_mark ForcedRefresh s (without_hint v) in bared_by s v w (is_some v.hint || (v.marked || w.marked)) refl refl refl

told_if_leads : (draws : Bool) (text : Option (List ℕ)) (kind : CmdKind) (s : Setting) (v w : Value) → Alike v w → Leads s v (effect_if (draws || is_some text) (message_effect text kind) s w)
told_if_leads draws text kind s v w h = either s v (draws || is_some text) _ _ (λ e. told_leads text kind s v w) (λ e. rest_leads s v w h)

verdict_leads : (found : ValidationResult) (draws : Bool) (s : Setting) (v w : Value) → Alike v w → Leads s v (verdict_told found draws s w)
verdict_leads Incomplete draws s v w h = rest_leads s v w h
verdict_leads (Invalid text) draws s v w h = told_if_leads draws text Other s v w h
verdict_leads (Valid text) draws s v w h = told_if_leads draws text ForcedRefresh s v w h

validate_leads : (some : Bool) (s : Setting) (v : Value) → Leads s v (effect_if some (then_do group_and_verdict_effect (verdict_effect (verdict s v))) s v)
validate_leads false s v = rest_leads s v v (refl, refl, refl)
validate_leads true s v =
    let found = verdict s v in
    let w = value_with_edit group_opened v in
    let draws = closes w.held || is_some w.hint in
    both_lead s v group_and_verdict_effect (verdict_effect found) (take_leads s v v (record { value = w; steps = help_steps w (verdict_reply s w) }) (asking_leads w (verdict_reply s w) s v w (refl, refl, refl)))
    (verdict_leads found draws s w (value_with_edit group_closed w) (refl, refl, refl))

accept_leads : (s : Setting) (v : Value) → Leads s v (accept s v)
accept_leads s v = both_lead s v bare validate (bare_leads s v) (validate_leads (is_some s.hooks) s (bare s v).value)

accept_or_insert_leads : (middle : Bool) (s : Setting) (v : Value) → Leads s v (accept_or_insert middle s v)
accept_or_insert_leads middle s v =
    let found = verdict s v in
    let accepted = accepts middle found v.line in
    let w = (accept s v).value in
    both_lead s v accept (newline_if accepted found) (accept_leads s v)
    (either s w (not accepted && (is_valid found || not (has_message found))) _ _ (λ e. insertion_leads 10 1 s w) (λ e. rest_leads s w w (refl, refl, refl)))

-- ---- hints

completion_leads : (o : Option (List ℕ)) (s : Setting) (v w : Value) → Leads s v (complete_hint_effect o s w)
completion_leads None s v w = redrawn_leads Beeped w (hint_reply s w) s v (ask_anew_effect s w).value (λ y. tt)
completion_leads (Some text) s v w =
    let u = value_with_edit (by (yank_steps text 1)) w in
    either s v (is_some (yanked_in text 1 w.line).answer) _ _ (λ e. redraw_leads (yank_steps text 1) s v w) (λ e. redrawn_leads Beeped u (hint_reply s u) s v (ask_anew_effect s u).value (λ y. tt))

hint_leads : (o : Option Hinted) (s : Setting) (v : Value) → Leads s v (option_map_or (λ (h : Hinted). complete_hint_effect h.completion s (at_row_end v)) o (no_effect s v))
hint_leads None s v = rest_leads s v v (refl, refl, refl)
hint_leads (Some hint) s v = completion_leads hint.completion s v (at_row_end v)

-- ---- completion

updating_leads : (reply : Option (Reply ⊤)) (s : Setting) (v : Value) (e : Effect) → Leads s v e → Leads s v (record { value = e.value; steps = updates reply v ++ e.steps })
updating_leads None s v e h = h
updating_leads (Some reply) s v e h = λ info. record { fits = (tt, (tt, (h info).fits)); leads = (h info).leads }

elected_leads : (start : ℕ) (o : Option (List ℕ)) (s : Setting) (v : Value) → Leads s v (option_map_or (word_completed start) o beep_effect s v)
elected_leads start None s v = beep_leads s v v (refl, refl, refl)
elected_leads start (Some text) s v =
    let w = value_with_edit (word_replaced start text) v in
    updating_leads (update_reply start text s v) s v (refresh_effect s w) (refresh_leads s v w)

complete_leads : (s : Setting) (v : Value) → Leads s v (complete s v)
complete_leads s v =
    let found = candidates_given (completion_reply s v) in
    either s v (is_some s.hooks) _ _
    (λ e. both_lead s v candidates_asked (complete_effect found) (asking_leads v (completion_reply s v) s v v (refl, refl, refl)) (elected_leads found.start (common_text found v.line) s v))
    (λ e. rest_leads s v v (refl, refl, refl))

-- ---- the laws

pub commands_lead : CommandsLead
commands_lead m AcceptLine s v = accept_leads s v
commands_lead m BeginningOfHistory s v = end_leads true s v
commands_lead m CapitalizeWord s v = word_leads Capitalize s v
commands_lead m ClearScreen s v = clear_leads s v
commands_lead m Complete s v = complete_leads s v
commands_lead m CompleteHint s v = hint_leads v.hint s v
commands_lead m (Dedent movement) s v = redraw_leads (indent_steps movement s.config.indent_size true) s v v
commands_lead m DowncaseWord s v = word_leads Lowercase s v
commands_lead m EndOfFile s v = bare_leads s v
commands_lead m EndOfHistory s v = end_leads false s v
commands_lead m HistorySearchBackward s v = search_leads Reverse s v
commands_lead m HistorySearchForward s v = search_leads Forward s v
commands_lead m (Indent movement) s v = redraw_leads (indent_steps movement s.config.indent_size false) s v v
commands_lead m (Insert n text) s v = yank_leads (in_vi_command m) text Before n s v
commands_lead m Interrupt s v = λ info. record { fits = (tt, tt); leads = refl }
commands_lead m (Kill movement) s v = kill_leads movement s v
commands_lead m (Move movement) s v = motion_leads movement s v
commands_lead m NextHistory s v = step_back_leads false s v
commands_lead m Repaint s v = refresh_leads s v v
commands_lead m (Overwrite c) s v = refresh_since_if_leads (overwrite_steps c) s v (is_some (place_forward 1 v.line)) (over_rests c (place_forward 1 v.line) (line_and_record_of v))
    (over_begins c (place_forward 1 v.line) v.line.place (line_and_record_of v) (omega arith))
commands_lead m PreviousHistory s v = step_back_leads true s v
commands_lead m (ReplaceChar n c) s v = refresh_since_if_leads (replace_group_if_any c n) s v (is_some (place_forward n v.line))
    (λ e. ap (λ (steps : WriteSteps Bool). (effect_of_steps steps.steps (line_and_record_of v)).line) (cond-false (is_some (place_forward n v.line)) (with_answer true (replace_group c n v.line)) (no_steps false) e))
    (replaced_begins c n v.line.place (line_and_record_of v) (omega arith))
commands_lead m (Replace movement text) s v = replace_leads movement text s v
commands_lead m (SelfInsert n c) s v = insertion_leads c n s v
commands_lead m TransposeChars s v = chars_lead s v
commands_lead m (TransposeWords n) s v = words_lead n s v
commands_lead m (Undo n) s v = undo_leads n s v
commands_lead m UpcaseWord s v = word_leads Uppercase s v
commands_lead m (ViYankTo movement) s v =
    let rests = rest_leads s v v (refl, refl, refl) in either s v (is_some (copied_range movement v.line)) _ _ (λ e. take_leads s v v (no_effect s v) rests) (λ e. rests)
commands_lead m (Yank n anchor) s v = lent_leads (in_vi_command m) anchor n (slice_get m.ring.slots m.ring.place) s v
commands_lead m YankPop s v = pop_leads (yank_exchange m.ring) s v
commands_lead m (LineUpOrPreviousHistory n) s v =
    either s v (is_some (line_up s.mode s.tabs s.column n v.line)) _ _ (λ e. step_leads _ _ _ s v refl) (λ e. step_back_leads true s v)
commands_lead m (LineDownOrNextHistory n) s v =
    either s v (is_some (line_down s.mode s.tabs s.column n v.line)) _ _ (λ e. step_leads _ _ _ s v refl) (λ e. step_back_leads false s v)
commands_lead m Newline s v = both_lead s v bare (insert_char 10 1) (bare_leads s v) (insertion_leads 10 1 s (bare s v).value)
commands_lead m (AcceptOrInsertLine middle) s v = accept_or_insert_leads middle s v
commands_lead m cmd s v = rest_leads s v v (refl, refl, refl)

pub submitting_leads : SubmittingLeads
submitting_leads s v info =
    let e = move_buffer_end ForcedRefresh s v in
    let there = info_after e.steps info in
    let y = sight_of s e.value there in
    let last = (cursor_end_effect s e.value).steps in
    let end : Turns s.prompt y last (ended_sight y) = record { fits = (tt, tt); leads = refl } in
    subst (λ i. Turns s.prompt (sight_of s v info) (e.steps ++ last) (ended_sight (sight_of s e.value i))) (sym (info_both e.steps last info))
    (turns_both s.prompt (sight_of s v info) y (ended_sight y) e.steps last (step_leads ForcedRefresh _ _ s v refl info) end)

pub asks_lead : AsksLead
asks_lead LineAsked s v x =
    let w = (ask_anew_effect s v).value in
    help_turns v (hint_reply s v) s.prompt x (sight_of s w (shown_hint w)) ((draw_effect_since None) s w).steps (record { fits = ((λ e. refl), tt); leads = refl })
asks_lead (Message text kind) s v x = record { fits = ((λ e. refl), tt); leads = refl }
asks_lead (Prompted prompt) s v x =
    let w = (ask_anew_effect s v).value in
    help_turns v (hint_reply s v) s.prompt x (sight_with (shown_marks w s.marks) false prompt w.line.text w.line.place (shown_hint w)) (draw_effect_behind prompt false s w).steps
    (record { fits = ((λ e. cc), tt); leads = refl })
asks_lead DoingInsert s v x = λ r l. refl
asks_lead DoneInserting s v x = λ r l. refl
