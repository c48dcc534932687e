-- A group that is undone as one.
use Rattle.std.proofs.Common.{◌≡◌, ℕ, ◌+◌, ◌==◌, Bool, true, false, List, [], ◌∷◌, ◌++◌, length, take, drop, Some, None, not, refl, sym, ap, subst, add-zero, ◌∙◌, eqb-true, arith, if◌then◌else◌}
use Rattle.std.proofs.Math.Bool.{or-true}
use Rattle.std.proofs.lemmas.List.Folds.{list_any-append}
use Rattle.std.specs.List.{AllByRecursion, replace_range, fold}
use Rattle.std.proofs.lemmas.Bool.{and_parts}
use Rattle.std.proofs.lemmas.Bool.Decides.{nat_tests}
use Rattle.std.proofs.lemmas.List.{append-nil, take-append-drop, nil_from_length}
use Rattle.line_buffer.specs.Event.{ChangeEvent, text_after_event}
use Rattle.line_buffer.specs.Event.ChangeEvent.{StartKilling, StopKilling, Delete, InsertChar, InsertStr, Replace}
use Rattle.line_record.specs.Change.{Change, text_with_exchange}
use Rattle.line_record.specs.Held.{HeldItem, change_of, step_of, is_step, record_after_event, has_mark, closes, record_after_close, text_back, HeldItem.Opened, HeldItem.Stepped}
use Rattle.line_record.specs.RecordCourse.{RecordCall, RecordCourse, after_call, RecordCall.Told, RecordCall.Begun}
use Rattle.line_record.specs.Laws.{stays_open, UndoTakesTheGroupBack}
use Rattle.line_record.proofs.RecordLaws.{no_mark}
use Rattle.line_record.proofs.StepLemmas.{recorded_by}

-- the text of the oldest of some steps, or the current one without steps
abbrev text_begun : List HeldItem → List ℕ → List ℕ
text_begun [] text = text
text_begun (Opened earlier ∷ held) text = text_begun held text
text_begun (Stepped earlier place newest joinable ∷ held) text = text_begun held earlier

-- a record inside a group that was begun on a text
record Inside (begun_on : List ℕ) (older held : List HeldItem) (text : List ℕ) : Type 0 where
  newer : List HeldItem
  are : held ≡ newer ++ (Opened begun_on ∷ older)
  begun : text_begun newer text ≡ begun_on

pub none_there : (xs : List ℕ) → (length xs == 0) ≡ true → xs ≡ []
none_there xs h = nil_from_length xs (eqb-true (length xs) 0 h)

pub nothing_put : (text : List ℕ) (at : ℕ) → text_with_exchange at [] [] text ≡ text
nothing_put text at =
    ap (λ x. x ++ drop (at + 0) text) (append-nil (take at text)) ∙ ap (λ k. take at text ++ drop k text) (add-zero at) ∙ take-append-drop at text

none_if : {A : Type 0} (b : Bool) (x : A) → (if b then None else Some x) ≡ None → b ≡ true
none_if b x h = grind (arith, nat_tests)

nothing_swapped : (text : List ℕ) (at : ℕ) (removed added : List ℕ) → removed ≡ [] → added ≡ [] → replace_range text at (at + length removed) added ≡ text
nothing_swapped text at removed added r a =
    ap (λ x. replace_range text at (at + length x) added) r ∙ ap (replace_range text at (at + 0)) a ∙ nothing_put text at

-- an event of no change leaves the text
pub unchanged : (e : ChangeEvent) (text : List ℕ) → change_of e ≡ None → text_after_event e text ≡ text
unchanged StartKilling text h = refl
unchanged StopKilling text h = refl
unchanged (Delete at removed direction) text h = nothing_swapped text at removed [] (none_there removed (none_if _ _ h)) refl
unchanged (InsertChar at c) text h = cc
unchanged (InsertStr at added) text h = nothing_swapped text at [] added refl (none_there added (none_if _ _ h))
unchanged (Replace at removed added) text h =
    let b = and_parts _ _ (none_if _ _ h) in
    nothing_swapped text at removed added (none_there removed b.0) (none_there added b.1)

joined_inside : (j d : Change) (place : ℕ) (begun_on text after earlier : List ℕ) (rest newer older : List HeldItem)
    → Stepped earlier place d true ∷ rest ≡ newer ++ (Opened begun_on ∷ older)
    → text_begun newer text ≡ begun_on → Inside begun_on older (step_of j earlier ∷ rest) after
joined_inside j d place begun_on text after earlier rest (Stepped x p c b ∷ newer) older is h =
    let same : earlier ≡ x = cc in
    record { newer = step_of j earlier ∷ newer; are = cc; begun = ap (text_begun newer) same ∙ h }
joined_inside j d place begun_on text after earlier rest (Opened x ∷ newer) older is h = cc
joined_inside j d place begun_on text after earlier rest [] older is h = cc

told_inside : (e : ChangeEvent) (begun_on text : List ℕ) (held older : List HeldItem) → Inside begun_on older held text
    → Inside begun_on older (record_after_event e text held) (text_after_event e text)
told_inside e begun_on text held older i =
    recorded_by e text (λ x. Inside begun_on older x (text_after_event e text)) (change_of e) held refl
    (λ is. record { newer = i.newer; are = i.are; begun = ap (text_begun i.newer) (unchanged e text is) ∙ i.begun })
    (λ c. record { newer = step_of c text ∷ i.newer; are = ap (λ x. step_of c text ∷ x) i.are; begun = i.begun })
    (λ j d earlier place rest is. joined_inside j d place begun_on text (text_after_event e text) earlier rest i.newer older (sym is ∙ i.are) i.begun)

call_inside : (call : RecordCall) (c : RecordCourse) (begun_on : List ℕ) (older : List HeldItem) → stays_open call ≡ true → Inside begun_on older c.held c.text
    → Inside begun_on older (after_call c call).held (after_call c call).text
call_inside (Told e) c begun_on older s i = told_inside e begun_on c.text c.held older i
call_inside Begun c begun_on older s i = record { newer = Opened c.text ∷ i.newer; are = ap (λ held. Opened c.text ∷ held) i.are; begun = i.begun }
call_inside _ c begun_on older s i = cc

calls_inside : (calls : List RecordCall) (c : RecordCourse) (begun_on : List ℕ) (older : List HeldItem) → AllByRecursion (λ call. stays_open call ≡ true) calls → Inside begun_on older c.held c.text
    → Inside begun_on older (fold after_call c calls).held (fold after_call c calls).text
calls_inside [] c begun_on older s i = i
calls_inside (call ∷ calls) c begun_on older s i = calls_inside calls (after_call c call) begun_on older s.1 (call_inside call c begun_on older s.0 i)

-- closing the group
marked : (newer older : List HeldItem) (begun_on : List ℕ) → has_mark (newer ++ (Opened begun_on ∷ older)) ≡ true
marked newer older begun_on = list_any-append (λ h. not (is_step h)) newer (Opened begun_on ∷ older) ∙ or-true (has_mark newer)

record NoStep (newer older held : List HeldItem) : Type 0 where
  none : record_after_close held ≡ older
  text : (text : List ℕ) → text_begun newer text ≡ text

no_step : (newer older : List HeldItem) (begun_on : List ℕ) → has_mark older ≡ false → closes (newer ++ (Opened begun_on ∷ older)) ≡ false
    → NoStep newer older (newer ++ (Opened begun_on ∷ older))
no_step [] older begun_on m h = record { none = (no_mark older m).0; text = λ text. refl }
no_step (Opened x ∷ newer) older begun_on m h =
    let n = no_step newer older begun_on m h in
    record { none = n.none; text = n.text }
no_step (Stepped x place newest joinable ∷ newer) older begun_on m h =
    let k = marked newer older begun_on in
    cc

record OneStep (text : List ℕ) (older held : List HeldItem) : Type 0 where
  place : ℕ
  newest : Change
  are : record_after_close held ≡ Stepped text place newest false ∷ older

step_closed : (b : Bool) (newer older : List HeldItem) (begun_on x : List ℕ) (place : ℕ) (newest : Change) (joinable : Bool) → has_mark older ≡ false
    → closes (newer ++ (Opened begun_on ∷ older)) ≡ b → (b ≡ true → OneStep (text_begun newer x) older (newer ++ (Opened begun_on ∷ older)))
    → OneStep (text_begun newer x) older (Stepped x place newest joinable ∷ (newer ++ (Opened begun_on ∷ older)))
step_closed true newer older begun_on x place newest joinable m h below =
    let s = below refl in
    record { place = s.place; newest = newest; are = rw (h, s.are) }
step_closed false newer older begun_on x place newest joinable m h below =
    let n = no_step newer older begun_on m h in
    record { place = place; newest = newest; are = rw (h, marked newer older begun_on, n.none, n.text x) }

one_step : (newer older : List HeldItem) (begun_on text : List ℕ) → has_mark older ≡ false → closes (newer ++ (Opened begun_on ∷ older)) ≡ true
    → OneStep (text_begun newer text) older (newer ++ (Opened begun_on ∷ older))
one_step [] older begun_on text m h =
    let k = (no_mark older m).1 in
    cc
one_step (Opened x ∷ newer) older begun_on text m h =
    let s = one_step newer older begun_on text m h in
    record { place = s.place; newest = s.newest; are = s.are }
one_step (Stepped x place newest joinable ∷ newer) older begun_on text m h =
    step_closed (closes (newer ++ (Opened begun_on ∷ older))) newer older begun_on x place newest joinable m refl (λ k. one_step newer older begun_on x m k)

pub undo_takes_the_group_back : UndoTakesTheGroupBack
undo_takes_the_group_back c calls m s h =
    let inside : RecordCourse = fold after_call (after_call c Begun) calls in
    let i = calls_inside calls (after_call c Begun) c.text c.held s (record { newer = []; are = refl; begun = refl }) in
    let g = one_step i.newer c.held c.text inside.text m (subst (λ held. closes held ≡ true) i.are h) in
    let are : record_after_close inside.held ≡ Stepped c.text g.place g.newest false ∷ c.held =
    ap record_after_close i.are ∙ g.are ∙ ap (λ t. Stepped t g.place g.newest false ∷ c.held) i.begun in
    (ap (λ held. text_back 1 held inside.text) are, ap (drop 1) are)
