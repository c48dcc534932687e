-- The steps of each edit of a line and its record, and their effect on both.
use Rattle.std.specs.Prelude.{◌≡◌, ◌⊎◌, ⊤, ℕ, Bool, true, false, max, if◌then◌else◌, List, [], ◌∷◌, take, drop, length, Option, is_some, encode_utf8, Result, OnOk, OnErr}
use Rattle.std.specs.Option.{option_map_or}
use Rattle.unicode_segmentation.specs.Grapheme.{graphemes}
use Rattle.line_buffer.specs.Clusters.{place_forward, place_backward}
use Rattle.line_buffer.specs.Indent.{indent}
use Rattle.line_buffer.specs.Insertions.{update, insert, yank, yank_pop}
use Rattle.line_buffer.specs.LetterCase.{edit_word}
use Rattle.line_buffer.specs.Line.{Line, with_cursor_at, with_text_at, with_replacement, text_after}
use Rattle.line_buffer.specs.Range.{goes_by_clusters, delete, kill, kill_events}
use Rattle.line_buffer.specs.Event.{replacement, InsertStr}
use Rattle.line_buffer.specs.Transpositions.{transpose_chars, transpose_words, before_transposed}
use Rattle.line_buffer.specs.declared.types.Movement.{Movement}
use Rattle.line_buffer.specs.declared.types.WordAction.{WordAction}
use Rattle.line_record.specs.Held.{line_back, has_step, ahead_back}
use Rattle.line_record.specs.Ring.{Ring, ring_all}
use Rattle.line_edits.specs.WriteSteps.{WriteSteps, Tells, Leaves, effect_of_steps, single_step, no_steps, steps_of_edit, in_turn, with_answer, steps_in_group, CutAlong, Written, Writes, line_and_record_in, group_opened}
use Rattle.line_edits.specs.declared.recorded_line.RecordedLine.{RecordedLine}
use Rattle.line_record.specs.Items.{CutUndo, no_items, last_changes, ahead_on}

-- the effect of an edit of the line on line and record
abbrev pub by : {A : Type 0} → (Line → WriteSteps A) → Written → Written
by edit w = effect_of_steps (edit w.line).steps w

-- ---- insertions

abbrev pub char_steps : ℕ → ℕ → Line → WriteSteps (Option Bool)
char_steps c n l = steps_of_edit (insert c n l)

abbrev pub yank_steps : List ℕ → ℕ → Line → WriteSteps (Option Bool)
yank_steps text n l = steps_of_edit (yank text n l)

-- a text inserted at the cursor, which stays before it
abbrev pub text_steps : List ℕ → Line → WriteSteps ⊤
text_steps text l =
    single_step (Tells (InsertStr l.place text ∷ []) (with_text_at l.place text l)) tt

-- the whole text replaced
abbrev pub update_steps : List ℕ → ℕ → Line → WriteSteps ⊤
update_steps text place l = steps_of_edit (update text place l)

abbrev pub update_group : List ℕ → ℕ → Line → WriteSteps ⊤
update_group text place l = steps_in_group (update_steps text place l)

-- a yanked text replaced
abbrev pub pop_group : ℕ → List ℕ → Line → WriteSteps ⊤
pop_group size text l = steps_in_group (with_answer tt (steps_of_edit (yank_pop size text l)))

-- ---- deletions

abbrev pub kill_steps : Movement → Line → WriteSteps Bool
kill_steps movement l = steps_of_edit (kill movement l)

-- the ring if a kill's text finds no memory: no kill is open in it
abbrev pub ring_without_kill : Movement → Ring → Ring
ring_without_kill movement r = if goes_by_clusters movement then r else record r { killing = false }

-- the ring after a failed kill: it has taken the text, or it hasn't
abbrev pub TookOrNot : Movement → Line → Ring → Ring → Type 0
TookOrNot movement l old new =
    (new ≡ ring_all (kill_events movement l) old) ⊎ (new ≡ ring_without_kill movement old)

-- ---- clusters replaced by characters

-- n clusters after the cursor deleted
abbrev pub delete_steps : ℕ → Line → WriteSteps ⊤
delete_steps n l = with_answer tt (steps_of_edit (delete n l))

-- how many of n clusters are after the cursor
abbrev pub clusters_after : ℕ → Line → ℕ
clusters_after n l = length (take n (graphemes true (text_after l)))

-- n clusters replaced by a character each, the cursor on the last one
abbrev pub exchange_steps : ℕ → ℕ → ℕ → Line → WriteSteps ⊤
exchange_steps c n count l =
    let bare : Line = (delete n l).line in
    let typed : Line = (insert c count bare).line in
    in_turn (delete_steps n l) (in_turn (char_steps c count bare)
    (single_step (Leaves (with_cursor_at (place_backward 1 typed) typed)) tt))

abbrev pub replace_group : ℕ → ℕ → Line → WriteSteps ⊤
replace_group c n l = steps_in_group (exchange_steps c n (clusters_after n l) l)

-- nothing is done if there is none
abbrev pub replace_group_if_any : ℕ → ℕ → Line → WriteSteps Bool
replace_group_if_any c n l =
    if is_some (place_forward n l) then with_answer true (replace_group c n l) else no_steps false

-- a character inserted in place of the text up to a place
abbrev pub cover_steps : ℕ → ℕ → Line → WriteSteps ⊤
cover_steps c end l =
    single_step (Tells (replacement l.place end (encode_utf8 c) l.text ∷ [])
    (with_replacement l.place end (encode_utf8 c) l)) tt

-- the cluster at the cursor overwritten, if there is one
abbrev pub overwrite_steps : ℕ → Line → WriteSteps Bool
overwrite_steps c l =
    option_map_or (λ end. with_answer true (cover_steps c end l)) (place_forward 1 l)
    (no_steps false)

-- ---- clusters and words

abbrev pub transpose_chars_group : Line → WriteSteps Bool
transpose_chars_group l = steps_in_group (steps_of_edit (transpose_chars l))

-- the cursor goes behind the earlier word before the words are swapped
abbrev pub transpose_words_steps : ℕ → Line → WriteSteps Bool
transpose_words_steps n l =
    in_turn (single_step (Leaves (before_transposed n l)) (tt {0}))
    (steps_of_edit (transpose_words n l))

abbrev pub transpose_words_group : ℕ → Line → WriteSteps Bool
transpose_words_group n l = steps_in_group (transpose_words_steps n l)

abbrev pub word_group : WordAction → Line → WriteSteps Bool
word_group action l = steps_in_group (steps_of_edit (edit_word action l))

abbrev pub indent_steps : Movement → ℕ → Bool → Line → WriteSteps ⊤
indent_steps movement amount dedent l =
    with_answer tt (steps_of_edit (indent movement amount dedent l))

-- ---- undo

abbrev pub after_undo : ℕ → Written → Written
after_undo n w = record { line = line_back (max n 1) w.held w.line; held = drop (max n 1) w.held }

-- n items are undone, 0 acting as 1, and can be redone; the answer is whether a step was among
-- them. If it fails, the newest of their changes were undone, never the first; the record is empty
pub record Undoes {E : Type 0} (n : ℕ) (before after : RecordedLine) (result : Result Bool E)
    : Type 0 where
  pub writes : Writes (after_undo n) (has_step (max n 1) (line_and_record_in before).held)
      before.line after.line before.changes after.changes result
  pub ahead : OnOk result (ahead_on after.changes after.line.text ≡ ahead_back (max n 1)
      (line_and_record_in before).held before.line.text (ahead_on before.changes before.line.text))
  pub left : OnErr result
      (CutUndo (last_changes (max n 1) before.changes.done) before.line after.line
      × (after.changes ≡ no_items))

-- ---- what a failed edit leaves

-- one change that fails leaves line and record as they were
pub record RefusedChangesLeaveAll : Type 0 where
  pub typed : (c n : ℕ) (w v : Written) → CutAlong (char_steps c n w.line).steps w v → v ≡ w
  pub yanked : (text : List ℕ) (n : ℕ) (w v : Written)
      → CutAlong (yank_steps text n w.line).steps w v → v ≡ w
  pub put : (text : List ℕ) (w v : Written) → CutAlong (text_steps text w.line).steps w v → v ≡ w
  pub put_over : (c end : ℕ) (w v : Written) → CutAlong (cover_steps c end w.line).steps w v → v ≡ w
  pub killed : (movement : Movement) (w v : Written)
      → CutAlong (kill_steps movement w.line).steps w v → v ≡ w

-- a group that fails leaves all as it was, or its mark open: then the edit after the mark failed
abbrev pub RefusedGroupsStayOpen : Type 0
RefusedGroupsStayOpen =
    (steps : WriteSteps Bool) (w v : Written) → CutAlong (steps_in_group steps).steps w v
    → (v ≡ w) ⊎ CutAlong steps.steps (group_opened w) v
