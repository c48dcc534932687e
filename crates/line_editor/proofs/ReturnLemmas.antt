-- Coming back to the history's end gives the line that was left there.
use Rattle.std.proofs.Common.{◌≡◌, ℕ, ◌+◌, ◌-◌, ◌==◌, ◌<◌, ◌≤◌, min, max, Bool, true, false, List, [], ◌∷◌, length, Option, Some, None, is_some, refl, sym, ap, ◌∙◌, subst, arith, if◌then◌else◌, ◌≢◌}
use Rattle.std.specs.Prelude.{fold}
use Rattle.std.proofs.lemmas.Bool.{eqb-false, cond-true, cond-false, eq-eqb, ne_eqb, cond_both}
use Rattle.line_buffer.specs.Columns.{line_up, line_down}
use Rattle.line_buffer.specs.Insertions.{text_that_fits, without_before}
use Rattle.line_buffer.specs.Clusters.{place_forward}
use Rattle.line_buffer.specs.Range.{range_of}
use Rattle.line_buffer.specs.declared.types.Movement.TheVariants.{ForwardChar}
use Rattle.line_edits.specs.Edits.{clusters_after, replace_group, by, delete_steps}
use Rattle.line_edits.specs.WriteSteps.{Written, group_opened}
use Rattle.line_help.specs.Search.{Hit}
use Rattle.line_keys.specs.Refreshing.{Ask}
use Rattle.line_keys.specs.Refreshing.Ask.{Line as LineAsked}
use Rattle.line_keys.specs.declared.command.Cmd.{Cmd}
use Rattle.line_keys.specs.declared.command.Cmd.TheVariants.{BeginningOfHistory, EndOfHistory, HistorySearchBackward, HistorySearchForward, NextHistory, PreviousHistory, LineUpOrPreviousHistory, LineDownOrNextHistory}
use Rattle.line_record.specs.Held.{has_step}
use Rattle.line_editor.specs.Drawing.{ask_effect}
use Rattle.line_editor.specs.Commands.{Means, effect}
use Rattle.line_editor.specs.Moving.{to_found}
use Rattle.line_editor.specs.History.{with_saved_line, recall, come_back_effect as back_at_end, history_step, leave_effect, save_effect}
use Rattle.line_editor.specs.Returns.{ValueStep, value_after, searches, ComesBack, AtEachStep, ValueStep.Done, ValueStep.Asked, ValueStep.Met}
use Rattle.line_editor.specs.ModalCommands.{meeting_effect}
use Rattle.line_editor.specs.Values.{Value, Setting, Effect, Saved, line_and_record_of, no_effect}
use Rattle.line_editor.proofs.CommandKeeps.{KeptByCommands, either_holds, found_holds, command_keeps}
use Rattle.line_editor.proofs.MeetKeeps.{Fact, Holds, KeptByEdits, meeting_keeps}
use Rattle.line_editor.proofs.GrowthLemmas.{insert_grows, yank_grows, deletion_grows, over_grows, back_grows, either_line, recase_grows, carried_grows}
use Rattle.std.proofs.lemmas.Bool.Decides.{nat_tests}
use Rattle.line_buffer.specs.Transpositions.{transposes_chars, transposes_words}
use Rattle.line_buffer.specs.LetterCase.{word_to_edit}
use Rattle.line_buffer.specs.Indent.{indent as indented_in}

-- ---- what keeps the place and the saved line, and whether the line may grow

abbrev alike : Value → Fact
alike v = λ text growth held saved history. (saved ≡ v.saved) × (history ≡ v.history) × (growth ≡ v.line.growth)

-- ---- at the history's end the line is the one that was left, away from it that one is saved

abbrev Away : Setting → Value → Type 0
Away s v = v.history < length s.entries

record Held (s : Setting) (text : List ℕ) (place : ℕ) (v : Value) : Type 0 where
  saved : v.history < length s.entries → v.saved ≡ record { text = text; place = place }
  line : v.history ≡ length s.entries → (v.line.text ≡ text) × (v.line.place ≡ place)
  grows : v.line.growth ≡ true

exchange_grows : (c n : ℕ) (v : Value) → (by (replace_group c n) (line_and_record_of v)).line.growth ≡ v.line.growth
exchange_grows c n v =
    let taken : Written = by (delete_steps n) (group_opened (line_and_record_of v)) in
    insert_grows c (clusters_after n v.line) taken.line ∙ deletion_grows (range_of (ForwardChar n) v.line) v.line

keeps_held : (s : Setting) (text : List ℕ) (place : ℕ) (v w : Value) → Held s text place v → Away s v → Holds (alike v) w → Held s text place w
keeps_held s text place v w h away k = record {
  saved = (λ below. k.0 ∙ h.saved away);
  line = (λ there. absurd (omega (arith, sym k.1 ∙ there, away)));
  grows = k.2 ∙ h.grows;
}

-- what is recalled from a place before the end
recall_held : (place : ℕ) (o : Option Hit) (s : Setting) (text : List ℕ) (at : ℕ) (v : Value) → place < length s.entries → Held s text at v → Away s v
    → Held s text at (recall place o s v).value
recall_held place None s text at v below held away = held
recall_held place (Some hit) s text at v below held away = record { saved = (λ h. held.saved away); line = (λ there. absurd (omega (arith, there, below))); grows = held.grows }

-- the saved line, in a line that may grow
back_held : (s : Setting) (text : List ℕ) (at : ℕ) (v : Value) → at ≤ length text → v.saved ≡ record { text = text; place = at } → v.line.growth ≡ true → Held s text at (back_at_end s v).value
back_held s text at v inside saved grows =
    let whole : text_that_fits v.saved.text v.line ≡ v.saved.text = rw grows in
    let within : min at (length text) ≡ at = omega (arith, inside) in
    record {
      saved = (λ h. absurd (omega (arith, h)));
      line = (λ there. (
        whole ∙ ap (λ (x : Saved). x.text) saved,
        ap (λ t. min v.saved.place (length t)) whole ∙ ap (λ (x : Saved). min x.place (length x.text)) saved ∙ within,
      ));
      grows = grows;
    }

either_held : (s : Setting) (text : List ℕ) (at : ℕ) (b : Bool) (e f : Effect) → (b ≡ true → Held s text at e.value) → (b ≡ false → Held s text at f.value) → Held s text at (if b then e else f).value
either_held s text at b e f h k = cond_both b e f (λ (x : Effect). Held s text at x.value) h k

-- ---- the history's commands, away from its end

-- away from the history's end no line is saved
stays_away : (s : Setting) (v : Value) → Away s v → (leave_effect s v).value ≡ v
stays_away s v away = ap (λ (e : Effect). e.value) (cond-false (v.history == length s.entries) (save_effect s v) (no_effect s v) (ne_eqb v.history (length s.entries) (λ there. absurd (omega (arith, there, away)))))

left_held : (place : ℕ) (o : Option Hit) (s : Setting) (text : List ℕ) (at : ℕ) (v : Value) → place < length s.entries → Held s text at v → Away s v
    → Held s text at (recall place o s (leave_effect s v).value).value
left_held place o s text at v below h away =
    subst (λ w. Held s text at (recall place o s w).value) (sym (stays_away s v away))
    (recall_held place o s text at v below h away)

previous_held : (s : Setting) (text : List ℕ) (at : ℕ) (v : Value) → Held s text at v → Away s v → Held s text at (history_step true s v).value
previous_held s text at v h away = either_held s text at (v.history == 0) _ _ (λ e. h) (λ e. left_held (v.history - 1) _ s text at v (omega (arith, away)) h away)

next_held : (s : Setting) (text : List ℕ) (at : ℕ) (v : Value) → at ≤ length text → Held s text at v → Away s v → Held s text at (history_step false s v).value
next_held s text at v inside h away =
    either_held s text at (v.history == length s.entries) _ _ (λ e. h) (λ e.
    either_held s text at (v.history + 1 == length s.entries) _ _ (λ e. back_held s text at v inside (h.saved away) h.grows)
    (λ e. recall_held (v.history + 1) _ s text at v (grind (arith, nat_tests, away, e)) h away))

-- ---- what other commands keep

alike_kept : (s : Setting) (v : Value) → Away s v → KeptByEdits (alike v) s
alike_kept s v away = record {
  undone = λ w h. (h.0, h.1, back_grows 1 w.held w.line ∙ h.2);
  closed = λ w h. h;
  put = λ entry place w h. h;
  completed = λ start text w low h. h;
  left = λ w h. subst (Holds (alike v)) (sym (stays_away s w (subst (λ n. n < length s.entries) (sym h.1) away))) h;
}

command_alike_kept : (s : Setting) (v : Value) → KeptByCommands (alike v) (λ w. Unit {0}) s
command_alike_kept s v = record {
  typed = λ c n w h. (h.0, h.1, insert_grows c n w.line ∙ h.2);
  inserted = λ text w h. h;
  yanked = λ text n w h. (h.0, h.1, yank_grows text n w.line ∙ h.2);
  popped = λ size text w ok h. (h.0, h.1, yank_grows text 1 (without_before size w.line) ∙ h.2);
  killed = λ m w ok h. (h.0, h.1, deletion_grows (range_of m w.line) w.line ∙ h.2);
  replaced = λ c n w ok h. (h.0, h.1, exchange_grows c n w ∙ h.2);
  overwritten = λ c w ok h. (h.0, h.1, over_grows c (place_forward 1 w.line) (line_and_record_of w) ∙ h.2);
  transposed = λ w ok h. (h.0, h.1, either_line w.line.growth (transposes_chars w.line) _ _ refl refl ∙ h.2);
  swapped = λ n w ok h. (h.0, h.1, either_line w.line.growth (transposes_words n w.line) _ _ refl refl ∙ h.2);
  recased = λ action w ok h. (h.0, h.1, recase_grows action (word_to_edit w.line) w.line ∙ h.2);
  indented = λ m amount dedent w h. (h.0, h.1, carried_grows (indented_in m amount dedent w.line).events w.line ∙ h.2);
  grouped = λ w h. h;
  undone = λ n w h. either_holds (alike v) (has_step (max n 1) w.held) _ _ (h.0, h.1, back_grows (max n 1) w.held w.line ∙ h.2) h;
}

-- ---- any step

command_held : (m : Means) (cmd : Cmd) (s : Setting) (text : List ℕ) (at : ℕ) (v : Value) → searches (Done m cmd) ≡ false → at ≤ length text → Held s text at v → Away s v → Held s text at (effect m cmd s v).value
command_held m PreviousHistory s text at v quiet inside h away = previous_held s text at v h away
command_held m BeginningOfHistory s text at v quiet inside h away = either_held s text at (v.history == 0) _ _ (λ e. h) (λ e. left_held 0 _ s text at v (omega (arith, away)) h away)
command_held m NextHistory s text at v quiet inside h away = next_held s text at v inside h away
command_held m EndOfHistory s text at v quiet inside h away =
    either_held s text at (v.history == length s.entries) _ _ (λ e. h) (λ e. back_held s text at v inside (h.saved away) h.grows)
command_held m HistorySearchBackward s text at v quiet inside h away = cc
command_held m HistorySearchForward s text at v quiet inside h away = cc
command_held m (LineUpOrPreviousHistory n) s text at v quiet inside h away =
    either_held s text at (is_some (line_up s.mode s.tabs s.column n v.line)) _ _ (λ e. keeps_held s text at v (to_found (line_up s.mode s.tabs s.column n v.line) s v).value h away (found_holds (alike v) (line_up s.mode s.tabs s.column n v.line) s v (refl, refl, refl))) (λ e. previous_held s text at v h away)
command_held m (LineDownOrNextHistory n) s text at v quiet inside h away =
    either_held s text at (is_some (line_down s.mode s.tabs s.column n v.line)) _ _ (λ e. keeps_held s text at v (to_found (line_down s.mode s.tabs s.column n v.line) s v).value h away (found_holds (alike v) (line_down s.mode s.tabs s.column n v.line) s v (refl, refl, refl))) (λ e. next_held s text at v inside h away)
command_held m cmd s text at v quiet inside h away = keeps_held s text at v (effect m cmd s v).value h away
    (command_keeps (alike v) (λ w. Unit {0}) s (alike_kept s v away) (command_alike_kept s v) m cmd v refl tt (refl, refl, refl))

ask_keeps : (ask : Ask) (s : Setting) (v : Value) → Holds (alike v) (ask_effect ask s v).value
ask_keeps LineAsked s v = (refl, refl, refl)
ask_keeps ask s v = (refl, refl, refl)

step_held : (step : ValueStep) (s : Setting) (text : List ℕ) (at : ℕ) (v : Value) → searches step ≡ false → at ≤ length text → Held s text at v → Away s v → Held s text at (value_after s v step)
step_held (Done m cmd) s text at v quiet inside h away = command_held m cmd s text at v quiet inside h away
step_held (Asked ask) s text at v quiet inside h away = keeps_held s text at v (ask_effect ask s v).value h away (ask_keeps ask s v)
step_held (Met q cmd) s text at v quiet inside h away = keeps_held s text at v (meeting_effect q cmd s v).value h away (meeting_keeps (alike v) s (alike_kept s v away) q cmd v (refl, refl, refl))

all_held : (steps : List ValueStep) (s : Setting) (text : List ℕ) (at : ℕ) (v : Value) → at ≤ length text → Held s text at v → AtEachStep (λ step w. (w.history < length s.entries) × (searches step ≡ false)) s steps v → Held s text at (fold (value_after s) v steps)
all_held [] s text at v inside h stays = h
all_held (step ∷ steps) s text at v inside h stays = all_held steps s text at (value_after s v step) inside (step_held step s text at v stays.0.1 inside h stays.0.0) stays.1

-- ---- leaving

saved_held : (place : ℕ) (o : Option Hit) (s : Setting) (v : Value) → v.history ≡ length s.entries → v.line.growth ≡ true → place < length s.entries
    → Held s v.line.text v.line.place (recall place o s (with_saved_line v)).value
saved_held place None s v there grows below = record { saved = (λ h. absurd (omega (arith, there, h))); line = (λ h. (refl, refl)); grows = grows }
saved_held place (Some hit) s v there grows below = record { saved = (λ h. refl); line = (λ h. absurd (omega (arith, h, below))); grows = grows }

start_held : (s : Setting) (v : Value) → v.history ≡ length s.entries → v.line.growth ≡ true → Held s v.line.text v.line.place v
start_held s v there grows = record { saved = (λ h. absurd (omega (arith, there, h))); line = (λ h. (refl, refl)); grows = grows }

leave_held : (place : ℕ) (o : Option Hit) (s : Setting) (v : Value) → v.history ≡ length s.entries → v.line.growth ≡ true → place < length s.entries
    → Held s v.line.text v.line.place (recall place o s (leave_effect s v).value).value
leave_held place o s v there grows below =
    subst (λ w. Held s v.line.text v.line.place (recall place o s w).value) (sym (ap (λ (e : Effect). e.value) (cond-true (v.history == length s.entries) (save_effect s v) (no_effect s v) (eq-eqb v.history (length s.entries) there)))) (saved_held place o s v there grows below)

by_leaving : (one : Bool) (m : Means) (s : Setting) (v : Value) → v.history ≡ length s.entries → v.line.growth ≡ true → Held s v.line.text v.line.place (effect m (if one then PreviousHistory else BeginningOfHistory) s v).value
by_leaving true m s v there grows = either_held s v.line.text v.line.place (v.history == 0) _ _ (λ e. start_held s v there grows)
    (λ e. leave_held (v.history - 1) _ s v there grows (let some : v.history ≢ 0 = eqb-false v.history 0 e in omega (arith, there, some)))
by_leaving false m s v there grows = either_held s v.line.text v.line.place (v.history == 0) _ _ (λ e. start_held s v there grows)
    (λ e. leave_held 0 _ s v there grows (let some : v.history ≢ 0 = eqb-false v.history 0 e in omega (arith, there, some)))

pub come_back : ComesBack
come_back s m one steps v there inside grows stays back =
    (all_held steps s v.line.text v.line.place (effect m (if one then PreviousHistory else BeginningOfHistory) s v).value inside (by_leaving one m s v there grows) stays).line back
