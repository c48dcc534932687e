-- A record that is undone altogether gives the text that it began on.
use Rattle.std.proofs.Common.{◌≡◌, ℕ, zero, suc, Bool, true, false, List, [], ◌∷◌, length, drop, refl, sym, ap, subst, ◌∙◌, if◌then◌else◌}
use Rattle.std.specs.Prelude.{slice_get}
use Rattle.line_buffer.specs.Event.{ChangeEvent, text_after_event, ChangeEvent.StartKilling, ChangeEvent.StopKilling}
use Rattle.line_record.specs.Change.{Change}
use Rattle.line_record.specs.Held.{HeldItem, Undone, text_of, change_of, record_after_event, has_mark, closes, group_with_change, record_after_close, text_back, ahead_back, record_ahead}
use Rattle.line_record.specs.Held.HeldItem.{Opened, Stepped}
use Rattle.line_record.specs.Items.{ahead_after}
use Rattle.line_record.specs.RecordCourse.{RecordCall, RecordCourse, new_course, after_call}
use Rattle.line_record.specs.RecordCourse.RecordCall.{Told, Begun, Ended, TakenBack, MadeAnew}
use Rattle.line_record.specs.Laws.{UndoOfAllGivesTheFirstText}
use Rattle.line_record.proofs.GroupLaws.{unchanged}
use Rattle.line_record.proofs.StepLemmas.{recorded_by}
use Rattle.std.proofs.lemmas.List.Folds.{fold_along}
use Rattle.std.specs.Option.{option_map_or}

-- the text before everything
abbrev root : List HeldItem → List ℕ → List ℕ
root held text = text_back (length held) held text

-- a mark stands on the text that it was set at, since no change lies between
abbrev MarkSits : HeldItem → List ℕ → Type 0
MarkSits (Opened earlier) text = text ≡ earlier
MarkSits (Stepped earlier place newest joinable) text = Unit {0}

abbrev MarksSit : List HeldItem → List ℕ → Type 0
MarksSit [] text = Unit {0}
MarksSit (h ∷ held) text = MarkSits h text × MarksSit held (text_of h)

-- what can be redone begins on the current text, one item after the other
abbrev AheadFits : List Undone → List ℕ → Type 0
AheadFits [] text = Unit {0}
AheadFits (u ∷ ahead) text = (text_of u.held ≡ text) × MarkSits u.held u.text × AheadFits ahead u.text

record HeldRooted (first : List ℕ) (held : List HeldItem) (text : List ℕ) : Type 0 where
  begun : root held text ≡ first
  marks : MarksSit held text

record Rooted (first : List ℕ) (held : List HeldItem) (ahead : List Undone) (text : List ℕ) : Type 0 where
  on : HeldRooted first held text
  fits : AheadFits ahead text

-- an event
told_rooted : (e : ChangeEvent) (first text : List ℕ) (held : List HeldItem) → HeldRooted first held text
    → HeldRooted first (record_after_event e text held) (text_after_event e text)
told_rooted e first text held h =
    recorded_by e text (λ x. HeldRooted first x (text_after_event e text)) (change_of e) held refl
    (λ is. subst (HeldRooted first held) (sym (unchanged e text is)) h)
    (λ c. record { begun = h.begun; marks = (tt, h.marks) })
    (λ j d earlier place older is. let k = subst (λ x. HeldRooted first x text) is h in record { begun = k.begun; marks = k.marks })

ahead_told : (e : ChangeEvent) (ahead : List Undone) (text : List ℕ) → AheadFits ahead text → AheadFits (ahead_after ahead e) (text_after_event e text)
ahead_told StartKilling ahead text h = h
ahead_told StopKilling ahead text h = h
ahead_told _ ahead text h = tt

-- the end of a group
record StepFirst (held : List HeldItem) : Type 0 where
  text : List ℕ
  place : ℕ
  newest : Change
  joinable : Bool
  older : List HeldItem
  are : held ≡ Stepped text place newest joinable ∷ older

step_first : (b : Bool) (text : List ℕ) (place : ℕ) (newest : Change) (joinable : Bool) (held : List HeldItem) → closes held ≡ b → has_mark held ≡ true → (b ≡ true → StepFirst (record_after_close held))
    → StepFirst (record_after_close (Stepped text place newest joinable ∷ held))
step_first true text place newest joinable held is m below =
    let s = below refl in
    record { text = s.text; place = s.place; newest = newest; joinable = false; older = s.older; are = rw (is, s.are) }
step_first false text place newest joinable held is m below =
    record { text = text; place = place; newest = newest; joinable = false; older = record_after_close held; are = rw (is, m) }

closed_first : (held : List HeldItem) → closes held ≡ true → StepFirst (record_after_close held)
closed_first [] h = cc
closed_first (Opened text ∷ held) h = closed_first held h
closed_first (Stepped text place newest joinable ∷ held) h = step_first (closes held) text place newest joinable held refl h (closed_first held)

grouped_rooted : (first earlier text : List ℕ) (newest : Change) (held : List HeldItem) → StepFirst held → HeldRooted first held earlier → HeldRooted first (group_with_change newest held) text
grouped_rooted first earlier text newest held s h =
    let k : HeldRooted first (Stepped s.text s.place s.newest s.joinable ∷ s.older) earlier = subst (λ x. HeldRooted first x earlier) s.are h in
    let made : HeldRooted first (Stepped s.text s.place newest false ∷ s.older) text = record { begun = k.begun; marks = (tt, k.marks.1) } in
    subst (λ x. HeldRooted first (group_with_change newest x) text) (sym s.are) made

step_ended : (a b : Bool) (first text earlier : List ℕ) (place : ℕ) (newest : Change) (joinable : Bool) (held : List HeldItem) → closes held ≡ a
    → HeldRooted first (record_after_close held) earlier → HeldRooted first held earlier
    → HeldRooted first (if a then group_with_change newest (record_after_close held) else if b then Stepped earlier place newest false ∷ record_after_close held else Stepped earlier place newest joinable ∷ held) text
step_ended true b first text earlier place newest joinable held is below whole = grouped_rooted first earlier text newest (record_after_close held) (closed_first held is) below
step_ended false true first text earlier place newest joinable held is below whole = record { begun = below.begun; marks = (tt, below.marks) }
step_ended false false first text earlier place newest joinable held is below whole = record { begun = whole.begun; marks = (tt, whole.marks) }

ended_rooted : (first : List ℕ) (held : List HeldItem) (text : List ℕ) → HeldRooted first held text → HeldRooted first (record_after_close held) text
ended_rooted first [] text h = h
ended_rooted first (Opened earlier ∷ held) text h =
    subst (HeldRooted first (record_after_close held)) (sym h.marks.0) (ended_rooted first held earlier (record { begun = h.begun; marks = h.marks.1 }))
ended_rooted first (Stepped earlier place newest joinable ∷ held) text h =
    let whole : HeldRooted first held earlier = record { begun = h.begun; marks = h.marks.1 } in
    step_ended (closes held) (has_mark held) first text earlier place newest joinable held refl (ended_rooted first held earlier whole) whole

-- items undone, and one redone
back_rooted : (n : ℕ) (first : List ℕ) (held : List HeldItem) (ahead : List Undone) (text : List ℕ) → Rooted first held ahead text
    → Rooted first (drop n held) (ahead_back n held text ahead) (text_back n held text)
back_rooted zero first held ahead text r = r
back_rooted (suc n) first [] ahead text r = r
back_rooted (suc n) first (h ∷ held) ahead text r =
    back_rooted n first held (record { held = h; text = text } ∷ ahead) (text_of h)
    (record { on = record { begun = r.on.begun; marks = r.on.marks.1 }; fits = (refl, r.on.marks.0, r.fits) })

call_rooted : (call : RecordCall) (first : List ℕ) (c : RecordCourse) → Rooted first c.held c.ahead c.text
    → Rooted first (after_call c call).held (after_call c call).ahead (after_call c call).text
call_rooted (Told e) first c r = record { on = told_rooted e first c.text c.held r.on; fits = ahead_told e c.ahead c.text r.fits }
call_rooted Begun first c r = record { on = record { begun = r.on.begun; marks = (refl, r.on.marks) }; fits = tt }
call_rooted Ended first c r = record { on = ended_rooted first c.held c.text r.on; fits = tt }
call_rooted (TakenBack n) first c r = back_rooted n first c.held c.ahead c.text r
call_rooted MadeAnew first c r = anew c.ahead r.fits
  where
    anew : (ahead : List Undone) → AheadFits ahead c.text
        → Rooted first (record_ahead ahead c.held) (drop 1 ahead) (option_map_or (λ (u : Undone). u.text) (slice_get ahead 0) c.text)
    anew [] k = record { on = r.on; fits = tt }
    anew (u ∷ ahead) k = record {
      on = record { begun = ap (root c.held) k.0 ∙ r.on.begun; marks = (k.1, subst (MarksSit c.held) (sym k.0) r.on.marks) };
      fits = k.2;
    }

pub undo_of_all_gives_the_first_text : UndoOfAllGivesTheFirstText
undo_of_all_gives_the_first_text calls text =
    let start : Rooted text [] [] text = record { on = record { begun = refl; marks = tt }; fits = tt } in
    (fold_along after_call after_call (λ c _. Rooted text c.held c.ahead c.text) (λ c _ call r. call_rooted call text c r) (new_course text)
    (new_course text) calls start).on.begun
