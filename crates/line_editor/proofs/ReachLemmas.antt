-- Events, marks and undos leave a record that reaches the same text.
use Rattle.std.proofs.Common.{◌≡◌, ℕ, zero, suc, Bool, true, false, List, [], ◌∷◌, drop, Option, Some, None, refl, sym, subst, if◌then◌else◌}
use Rattle.std.specs.Prelude.{option_map, unwrap_or}
use Rattle.line_buffer.specs.Event.{ChangeEvent, text_after_event, text_after_events}
use Rattle.line_buffer.specs.Insertions.{update as updated_in, insert as insertion}
use Rattle.line_buffer.specs.Line.{Line}
use Rattle.line_buffer.proofs.ReplayedLemmas.{update_replayed, insert_replayed}
use Rattle.line_edits.specs.Edits.{by, char_steps, update_steps}
use Rattle.line_record.specs.Change.{Change}
use Rattle.line_record.specs.Held.{HeldItem, change_of, join_of, step_of, has_mark, closes, group_with_change, record_after_close, line_back, HeldItem.Opened, HeldItem.Stepped}
use Rattle.line_record.specs.RecordCourse.{record_after_events}
use Rattle.line_record.proofs.GroupLaws.{unchanged}
use Rattle.line_editor.specs.Leads.{Reaches}
use Rattle.line_edits.specs.WriteSteps.{Written, after_edit, group_opened, group_closed}
use Rattle.line_record.proofs.StepLemmas.{steps_with_change, steps_with_change_if}

on_reaches : (o : Option Change) (c d : Change) (place : ℕ) (first text after earlier : List ℕ) (held : List HeldItem) → Reaches first held earlier
    → Reaches first (unwrap_or (option_map (λ j. step_of j earlier ∷ held) o) (step_of c text ∷ (Stepped earlier place d true ∷ held))) after
on_reaches (Some g) c d place first text after earlier held r = r
on_reaches None c d place first text after earlier held r = r

step_reaches : (e : ChangeEvent) (c : Change) (first text after : List ℕ) (held : List HeldItem) → Reaches first held text → Reaches first (steps_with_change e c text held) after
step_reaches e c first text after (Stepped earlier place d true ∷ held) r = on_reaches (join_of e d) c d place first text after earlier held r
step_reaches e c first text after held r = r

told_reaches : (e : ChangeEvent) (o : Option Change) (first text : List ℕ) (held : List HeldItem) → change_of e ≡ o → Reaches first held text → Reaches first (steps_with_change_if e o text held) (text_after_event e text)
told_reaches e (Some c) first text held is r = step_reaches e c first text (text_after_event e text) held r
told_reaches e None first text held is r = subst (Reaches first held) (sym (unchanged e text is)) r

-- several events
pub events_reach : (events : List ChangeEvent) (first text : List ℕ) (held : List HeldItem) → Reaches first held text → Reaches first (record_after_events events text held) (text_after_events events text)
unfolding record_after_events text_after_events
events_reach [] first text held r = r
events_reach (e ∷ es) first text held r = events_reach es first (text_after_event e text) _ (told_reaches e (change_of e) first text held refl r)

-- the end of a group
record StepFirst (held : List HeldItem) : Type 0 where
  text : List ℕ
  place : ℕ
  newest : Change
  joinable : Bool
  older : List HeldItem
  are : held ≡ Stepped text place newest joinable ∷ older

step_first : (b : Bool) (text : List ℕ) (place : ℕ) (newest : Change) (joinable : Bool) (held : List HeldItem) → closes held ≡ b → has_mark held ≡ true → (b ≡ true → StepFirst (record_after_close held))
    → StepFirst (record_after_close (Stepped text place newest joinable ∷ held))
step_first true text place newest joinable held is m below =
    let s = below refl in
    record { text = s.text; place = s.place; newest = newest; joinable = false; older = s.older; are = rw (is, s.are) }
step_first false text place newest joinable held is m below =
    record { text = text; place = place; newest = newest; joinable = false; older = record_after_close held; are = rw (is, m) }

closed_first : (held : List HeldItem) → closes held ≡ true → StepFirst (record_after_close held)
closed_first [] h = cc
closed_first (Opened text ∷ held) h = closed_first held h
closed_first (Stepped text place newest joinable ∷ held) h = step_first (closes held) text place newest joinable held refl h (closed_first held)

grouped_reaches : (first earlier text : List ℕ) (newest : Change) (held : List HeldItem) → StepFirst held → Reaches first held earlier → Reaches first (group_with_change newest held) text
grouped_reaches first earlier text newest held s r =
    let k : Reaches first (Stepped s.text s.place s.newest s.joinable ∷ s.older) earlier = subst (λ x. Reaches first x earlier) s.are r in
    let made : Reaches first (Stepped s.text s.place newest false ∷ s.older) text = k in
    subst (λ x. Reaches first (group_with_change newest x) text) (sym s.are) made

step_ended : (a b : Bool) (first text earlier : List ℕ) (place : ℕ) (newest : Change) (joinable : Bool) (held : List HeldItem) → closes held ≡ a
    → Reaches first (record_after_close held) earlier → Reaches first held earlier
    → Reaches first (if a then group_with_change newest (record_after_close held) else if b then Stepped earlier place newest false ∷ record_after_close held else Stepped earlier place newest joinable ∷ held) text
step_ended true b first text earlier place newest joinable held is below whole = grouped_reaches first earlier text newest (record_after_close held) (closed_first held is) below
step_ended false true first text earlier place newest joinable held is below whole = below
step_ended false false first text earlier place newest joinable held is below whole = whole

pub ended_reaches : (first : List ℕ) (held : List HeldItem) (text : List ℕ) → Reaches first held text → Reaches first (record_after_close held) text
ended_reaches first [] text r = r
ended_reaches first (Opened earlier ∷ held) text r = subst (Reaches first (record_after_close held)) (sym r.0) (ended_reaches first held earlier r.1)
ended_reaches first (Stepped earlier place newest joinable ∷ held) text r =
    step_ended (closes held) (has_mark held) first text earlier place newest joinable held refl (ended_reaches first held earlier r) r

pub undo_reached : (n : ℕ) (first : List ℕ) (held : List HeldItem) (l : Line) → Reaches first held l.text → Reaches first (drop n held) (line_back n held l).text
undo_reached zero first held l r = r
undo_reached (suc n) first [] l r = r
undo_reached (suc n) first (Opened earlier ∷ held) l r = undo_reached n first held (record l { text = earlier }) r.1
undo_reached (suc n) first (Stepped earlier place newest joinable ∷ held) l r = undo_reached n first held (record l { text = earlier; place = place }) r

-- ---- edits of a line with its record

pub edit_reaches : (events : List ChangeEvent) (l : Line) (w : Written) (first : List ℕ) → l.text ≡ text_after_events events w.line.text → Reaches first w.held w.line.text
    → Reaches first (after_edit events l w).held (after_edit events l w).line.text
edit_reaches events l w first e r = subst (Reaches first (record_after_events events w.line.text w.held)) (sym e) (events_reach events first w.line.text w.held r)

pub group_reaches : (edit : Written → Written) (w : Written) (first : List ℕ) → (Reaches first (group_opened w).held w.line.text → Reaches first (edit (group_opened w)).held (edit (group_opened w)).line.text)
    → Reaches first w.held w.line.text → Reaches first (group_closed (edit (group_opened w))).held (group_closed (edit (group_opened w))).line.text
group_reaches edit w first h r = ended_reaches first (edit (group_opened w)).held (edit (group_opened w)).line.text (h (refl, r))

pub typing_reaches : (c n : ℕ) (w : Written) (first : List ℕ) → Reaches first w.held w.line.text → Reaches first (by (char_steps c n) w).held (by (char_steps c n) w).line.text
typing_reaches c n w first r = edit_reaches (insertion c n w.line).events (insertion c n w.line).line w first (sym (insert_replayed c n w.line)) r

pub updating_reaches : (text : List ℕ) (place : ℕ) (w : Written) (first : List ℕ) → Reaches first w.held w.line.text → Reaches first (by (update_steps text place) w).held (by (update_steps text place) w).line.text
updating_reaches text place w first r = edit_reaches (updated_in text 0 w.line).events (updated_in text place w.line).line w first (sym (update_replayed text w.line)) r
