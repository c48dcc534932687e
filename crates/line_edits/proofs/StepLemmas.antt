-- Edits by their steps: what a call owes that succeeded, or failed.
use Rattle.std.proofs.Common.{◌≡◌, ℕ, Bool, true, false, Option, List, [], ◌∷◌, ◌++◌, refl, ap, ◌∙◌, subst, inl, inr, Result, Ok, Err, IsErrAnd, IsUtf8}
use Rattle.std.proofs.lemmas.Result.{on_err_weaker}
use Rattle.std.specs.Option.{option_map_or}
use Rattle.line_buffer.specs.Edit.{StopsAt}
use Rattle.line_buffer.specs.Event.{ChangeEvent, TellsOfChange, Reports, wants_or, line_after_events}
use Rattle.line_buffer.specs.Line.{Line}
use Rattle.line_buffer.proofs.LeftLemmas.{stopped_first}
use Rattle.line_record.specs.Items.{Items, ItemsStand, RecordsEventIn, record_refuses, record_on}
use Rattle.line_record.specs.RecordCourse.{record_after_events}
use Rattle.line_record.proofs.RunLemmas.{told_stand, told_held, stopped_stand, part_stopped, recorded_all-nil}
use Rattle.line_edits.specs.Edits.{cover_steps}
use Rattle.line_edits.specs.WriteSteps.{WriteStep, Tells, Leaves, Closes, CutEvents, CutAlong, Rewrites, effect_of_steps, no_steps, single_step, in_turn, with_answer, steps_in_group, WriteSteps, effect_of_step, Written, Writes, line_and_record}
use Rattle.line_record.proofs.StepLemmas.{items_with_mark}

-- ---- steps

-- others follow them
pub along_before : (steps more : List WriteStep) (w v : Written) → CutAlong steps w v → CutAlong (steps ++ more) w v
along_before [] more w v h = absurd h
along_before (step ∷ steps) more w v (inl h) = inl (along_before steps more (effect_of_step step w) v h)
along_before (step ∷ steps) more w v (inr h) = inr h

pub along_behind : (steps more : List WriteStep) (w v : Written) → CutAlong more (effect_of_steps steps w) v → CutAlong (steps ++ more) w v
along_behind [] more w v h = h
along_behind (step ∷ steps) more w v h = inl (along_behind steps more (effect_of_step step w) v h)

-- the cluster that ends at a place overwritten
abbrev pub overwrite_steps_to : ℕ → Option ℕ → Line → WriteSteps Bool
overwrite_steps_to c found l = option_map_or (λ end. with_answer true (cover_steps c end l)) found (no_steps false)

-- ---- a call

-- one that failed has made the first steps, and the record stands
pub rewrites_refused : {A E : Type 0} {steps : WriteSteps A} {before after : Line} {old new : Items} (e : E) (result : Result A E)
    → IsErrAnd result (λ x. x ≡ e) → ItemsStand new after.text → CutAlong steps.steps (line_and_record before old) (line_and_record after new) → Rewrites steps before after old new result
rewrites_refused e (Ok a) is stand stops = absurd is
rewrites_refused e (Err x) is stand stops = record { writes = record { answers = tt; line = tt; held = tt; stand = stand }; left = stops }

-- one that was answered is where its edit leads
pub written_is : {A E : Type 0} {edit : Written → Written} {answer : A} {before after : Line} {old new : Items} {a : A} → Writes {A = A} {E = E} edit answer before after old new (Ok a)
    → line_and_record after new ≡ edit (line_and_record before old)
written_is {A} {E} {edit} {answer} {before} {after} {old} {new} h =
    ap (λ l. record { line = l; held = record_on new after.text }) h.line ∙ ap (λ k. record { line = (edit (line_and_record before old)).line; held = k }) h.held

-- the cursor was moved before
pub behind_move : {A E : Type 0} {steps : WriteSteps A} (before : Line) (place : ℕ) {after : Line} {old new : Items} (result : Result A E)
    → Rewrites steps (record before { place = place }) after old new result → Rewrites (in_turn (single_step (Leaves (record before { place = place })) (tt {0})) steps) before after old new result
behind_move before place result h = record {
  writes = record { answers = h.writes.answers; line = h.writes.line; held = h.writes.held; stand = h.writes.stand };
  left = on_err_weaker result (λ h. inl h) h.left;
}

-- ---- events

-- what was told is what the line followed
pub among : {S : Type 0} {takes refuses : S → ChangeEvent → S → Type 0} {closing events : List ChangeEvent} {s t : S} {before after : Line} (old new : Items)
    → (call : StopsAt takes refuses closing events s t before after) → record_on new after.text ≡ record_after_events call.stops.done before.text (record_on old before.text)
    → CutEvents events (line_and_record before old) (line_and_record after new)
among {before = before} {after = after} old new call held = record {
  done = call.stops.done;
  refused = call.stops.refused;
  never = call.stops.never;
  split = call.stops.split;
  change = call.stops.change;
  left = ap (λ l. record { line = l; held = record_on new after.text }) call.line ∙ ap (λ k. record { line = line_after_events call.stops.done before; held = k }) held;
}

pub stopped_among : {events : List ChangeEvent} {before after : Line} {old new : Items} → IsUtf8 before.text → ItemsStand old before.text
    → StopsAt RecordsEventIn (wants_or record_refuses) [] events old new before after → CutEvents events (line_and_record before old) (line_and_record after new)
stopped_among {events} {before} {after} {old} {new} utf8 stand call =
    let p = part_stopped RecordsEventIn (λ x. x) (λ s e t k. k) record_refuses (λ x e y k. k.0) stand utf8 call.stops in
    among old new call (p.0.held ∙ recorded_all-nil _ _ ∙ p.1.held)

-- an answered call told the record the edit's events
pub told_rewrites : {A E : Type 0} {events : List ChangeEvent} {line : Line} {answer : A} {before after : Line} {old new : Items} (a : A) → IsUtf8 before.text → ItemsStand old before.text
    → a ≡ answer → after ≡ line → Reports RecordsEventIn events old new before.text after.text → Rewrites {A = A} {E = E} (single_step (Tells events line) answer) before after old new (Ok a)
told_rewrites a utf8 stand is line told = record {
  writes = record { answers = is; line = line; held = told_held stand utf8 told; stand = told_stand stand utf8 told };
  left = tt;
}

-- a failed one reported the first of them
pub stopped_rewrites : {A E : Type 0} {events : List ChangeEvent} {line : Line} {answer : A} {before after : Line} {old new : Items} (e : E) (result : Result A E)
    → IsErrAnd result (λ x. x ≡ e) → IsUtf8 before.text → ItemsStand old before.text → StopsAt RecordsEventIn (wants_or record_refuses) [] events old new before after
    → Rewrites (single_step (Tells events line) answer) before after old new result
stopped_rewrites e result is utf8 stand call =
    rewrites_refused e result is (stopped_stand stand utf8 call.stops) (inr (stopped_among utf8 stand call))

-- ---- groups

-- the edit failed after the mark
pub stopped_in_group : {A E : Type 0} (steps : WriteSteps A) (line : Line) (old : Items) {mid new : Items} {after : Line} → mid ≡ items_with_mark old → (e : E) (result : Result A E) → IsErrAnd result (λ x. x ≡ e) → ItemsStand new after.text
    → CutAlong steps.steps (line_and_record line mid) (line_and_record after new) → Rewrites (steps_in_group steps) line after old new result
stopped_in_group steps line old {mid} {new} {after} marked e result is stand h =
    rewrites_refused e result is stand (inl (along_before steps.steps (Closes ∷ []) (line_and_record line (items_with_mark old)) (line_and_record after new) (subst (λ items. CutAlong steps.steps (line_and_record line items) (line_and_record after new)) marked h)))

-- ---- one change

-- it failed, and the line stayed
pub unchanged_rewrites : {A E : Type 0} {line : Line} {answer : A} (event : ChangeEvent) {before after : Line} {old new : Items} (e : E) (result : Result A E) → IsErrAnd result (λ x. x ≡ e)
    → TellsOfChange event → IsUtf8 before.text → ItemsStand old before.text → wants_or record_refuses old event new → after ≡ before
    → Rewrites (single_step (Tells (event ∷ []) line) answer) before after old new result
unchanged_rewrites event {before} {after} {old} {new} e result is change utf8 stand refused kept =
    stopped_rewrites e result is utf8 stand (stopped_first RecordsEventIn (wants_or record_refuses) (event ∷ []) [] event old new before after refl change refused kept)
