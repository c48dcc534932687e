-- What a failed edit leaves: one of a single change, a kill, and a group.
use Rattle.std.proofs.Common.{◌≡◌, ◌≤◌, ◌⊎◌, inl, inr, List, [], ◌∷◌, ◌++◌, length, refl, ap, ◌∙◌, arith, Bool, true, false, if◌then◌else◌}
use Rattle.line_buffer.specs.Event.{ChangeEvent, line_after_events, ChangeEvent.StartKilling}
use Rattle.line_buffer.specs.Line.{Line}
use Rattle.line_buffer.specs.declared.types.Movement.{Movement}
use Rattle.line_buffer.specs.Range.{range_of, goes_by_clusters, kill_events}
use Rattle.line_buffer.proofs.KeptLemmas.{none_done, kill_cut, insert_few, yank_few}
use Rattle.line_record.specs.RecordCourse.{record_after_events}
use Rattle.line_edits.specs.Edits.{RefusedChangesLeaveAll, RefusedGroupsStayOpen}
use Rattle.line_edits.specs.WriteSteps.{WriteStep, Closes, CutEvents, CutAlong, effect_of_step, Written, after_edit, group_opened}

-- line and record after events
abbrev after_events : List ChangeEvent → Written → Written
after_events events w = after_edit events (line_after_events events w.line) w

followed-none : (w : Written) → after_events [] w ≡ w
unfolding line_after_events record_after_events
followed-none w = refl

followed-mark : (w : Written) → after_events (StartKilling ∷ []) w ≡ w
unfolding line_after_events record_after_events
followed-mark w = refl

-- of one event at most none was made
kept_within : (events : List ChangeEvent) {w v : Written} → length events ≤ 1 → CutEvents events w v → v ≡ w
kept_within events {w} few x = x.left ∙ ap (λ es. after_events es w) (none_done x.done x.never x.refused few x.split) ∙ followed-none w

-- of a kill the mark alone
mark_within : (plain : Bool) (w : Written) → after_events (if plain then [] else StartKilling ∷ []) w ≡ w
mark_within true w = followed-none w
mark_within false w = followed-mark w

kill_within : (movement : Movement) (l : Line) {w v : Written} → CutEvents (kill_events movement l) w v → v ≡ w
kill_within movement l {w} x =
    let cut = kill_cut (goes_by_clusters movement) (range_of movement l) l x.done x.never x.refused x.split x.change in
    x.left ∙ ap (λ es. after_events es w) cut.marks ∙ mark_within (goes_by_clusters movement) w

-- an edit of one step
stopped_step : {events : List ChangeEvent} {w v : Written} → ⊥ ⊎ CutEvents events w v → CutEvents events w v
stopped_step h = elim h [ inl none ↦ absurd none | inr refused ↦ refused ]

pub refused_changes_leave_all : RefusedChangesLeaveAll
refused_changes_leave_all = record {
  typed = λ c n w v h. kept_within _ (insert_few c n w.line) (stopped_step h);
  yanked = λ text n w v h. kept_within _ (yank_few text n w.line) (stopped_step h);
  put = λ text w v h. kept_within _ (omega arith) (stopped_step h);
  put_over = λ c end w v h. kept_within _ (omega arith) (stopped_step h);
  killed = λ movement w v h. kill_within movement w.line (stopped_step h);
}

-- closing marks never fails
unclosed : (steps : List WriteStep) (w v : Written) → CutAlong (steps ++ (Closes ∷ [])) w v → CutAlong steps w v
unclosed [] w v (inl h) = h
unclosed [] w v (inr h) = h
unclosed (step ∷ steps) w v (inl h) = inl (unclosed steps (effect_of_step step w) v h)
unclosed (step ∷ steps) w v (inr h) = inr h

pub refused_groups_stay_open : RefusedGroupsStayOpen
refused_groups_stay_open edit w v h = elim h [
  | inl within ↦ inr (unclosed edit.steps (group_opened w) v within)
  | inr refused ↦ inl refused
]
