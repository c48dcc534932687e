-- The texts that a record holds were texts of the line.
use Rattle.std.proofs.Common.{ℕ, zero, suc, Bool, true, false, List, [], ◌∷◌, drop, refl, subst, inl, inr, if◌then◌else◌}
use Rattle.std.specs.Prelude.{slice_get}
use Rattle.line_buffer.specs.Event.{ChangeEvent, text_after_event, ChangeEvent.StartKilling, ChangeEvent.StopKilling}
use Rattle.line_record.specs.Change.{Change}
use Rattle.line_record.specs.Held.{HeldItem, Undone, text_of, record_after_event, change_of, record_after_close, closes, has_mark, group_with_change, text_back, ahead_back, record_ahead}
use Rattle.line_record.specs.Held.HeldItem.{Opened, Stepped}
use Rattle.line_record.specs.Items.{ahead_after}
use Rattle.line_record.specs.RecordCourse.{RecordCall, RecordCourse, new_course, after_call, IsAmong}
use Rattle.line_record.specs.RecordCourse.RecordCall.{Told, Begun, Ended, TakenBack, MadeAnew}
use Rattle.line_record.specs.Laws.{UndoLeavesAnEarlierText}
use Rattle.line_record.proofs.StepLemmas.{recorded_by}
use Rattle.std.specs.List.{fold}
use Rattle.std.proofs.lemmas.List.Folds.{fold_along}
use Rattle.std.specs.Option.{option_map_or}

abbrev HeldSeen : List HeldItem → List (List ℕ) → Type 0
HeldSeen [] seen = Unit {0}
HeldSeen (h ∷ held) seen = IsAmong (text_of h) seen × HeldSeen held seen

abbrev AheadSeen : List Undone → List (List ℕ) → Type 0
AheadSeen [] seen = Unit {0}
AheadSeen (u ∷ ahead) seen = IsAmong u.text seen × IsAmong (text_of u.held) seen × AheadSeen ahead seen

held_more : (held : List HeldItem) (seen : List (List ℕ)) (t : List ℕ) → HeldSeen held seen → HeldSeen held (t ∷ seen)
held_more [] seen t h = tt
held_more (x ∷ held) seen t h = (inr h.0, held_more held seen t h.1)

ahead_more : (ahead : List Undone) (seen : List (List ℕ)) (t : List ℕ) → AheadSeen ahead seen → AheadSeen ahead (t ∷ seen)
ahead_more [] seen t h = tt
ahead_more (u ∷ ahead) seen t h = (inr h.0, inr h.1, ahead_more ahead seen t h.2)

-- a step that is recorded
recorded_seen : (e : ChangeEvent) (text : List ℕ) (held : List HeldItem) (seen : List (List ℕ)) → IsAmong text seen → HeldSeen held seen
    → HeldSeen (record_after_event e text held) seen
recorded_seen e text held seen t h =
    recorded_by e text (λ x. HeldSeen x seen) (change_of e) held refl (λ _. h) (λ c. (t, h)) (λ j d earlier place older is. subst (λ x. HeldSeen x seen) is h)

ahead_after_seen : (e : ChangeEvent) (ahead : List Undone) (seen : List (List ℕ)) → AheadSeen ahead seen → AheadSeen (ahead_after ahead e) seen
ahead_after_seen StartKilling ahead seen h = h
ahead_after_seen StopKilling ahead seen h = h
ahead_after_seen _ ahead seen h = tt

-- a group that is closed
grouped_seen : (c : Change) (held : List HeldItem) (seen : List (List ℕ)) → HeldSeen held seen → HeldSeen (group_with_change c held) seen
grouped_seen c [] seen h = tt
grouped_seen c (Opened text ∷ held) seen h = h
grouped_seen c (Stepped text place newest joinable ∷ held) seen h = h

one_of_three : (P : List HeldItem → Type 0) (a b : Bool) (x y z : List HeldItem) → P x → P y → P z → P (if a then x else if b then y else z)
one_of_three P true b x y z p q r = p
one_of_three P false true x y z p q r = q
one_of_three P false false x y z p q r = r

ended_seen : (held : List HeldItem) (seen : List (List ℕ)) → HeldSeen held seen → HeldSeen (record_after_close held) seen
ended_seen [] seen h = tt
ended_seen (Opened text ∷ held) seen h = ended_seen held seen h.1
ended_seen (Stepped text place newest joinable ∷ held) seen h =
    one_of_three (λ x. HeldSeen x seen) (closes held) (has_mark held) (group_with_change newest (record_after_close held))
    (Stepped text place newest false ∷ record_after_close held) (Stepped text place newest joinable ∷ held)
    (grouped_seen newest (record_after_close held) seen (ended_seen held seen h.1)) (h.0, ended_seen held seen h.1) h

drop_seen : (n : ℕ) (held : List HeldItem) (seen : List (List ℕ)) → HeldSeen held seen → HeldSeen (drop n held) seen
drop_seen zero held seen h = h
drop_seen (suc n) [] seen h = tt
drop_seen (suc n) (x ∷ held) seen h = drop_seen n held seen h.1

text_back_seen : (n : ℕ) (held : List HeldItem) (text : List ℕ) (seen : List (List ℕ)) → IsAmong text seen → HeldSeen held seen → IsAmong (text_back n held text) seen
text_back_seen zero held text seen t h = t
text_back_seen (suc n) [] text seen t h = t
text_back_seen (suc n) (x ∷ held) text seen t h = text_back_seen n held (text_of x) seen h.0 h.1

ahead_back_seen : (n : ℕ) (held : List HeldItem) (text : List ℕ) (ahead : List Undone) (seen : List (List ℕ)) → IsAmong text seen → HeldSeen held seen → AheadSeen ahead seen
    → AheadSeen (ahead_back n held text ahead) seen
ahead_back_seen zero held text ahead seen t h a = a
ahead_back_seen (suc n) [] text ahead seen t h a = a
ahead_back_seen (suc n) (x ∷ held) text ahead seen t h a = ahead_back_seen n held (text_of x) (record { held = x; text = text } ∷ ahead) seen h.0 h.1 (t, h.0, a)

record Seen (c : RecordCourse) : Type 0 where
  text : IsAmong c.text c.seen
  held : HeldSeen c.held c.seen
  ahead : AheadSeen c.ahead c.seen

held_ahead_seen : (ahead : List Undone) (held : List HeldItem) (seen : List (List ℕ)) → AheadSeen ahead seen → HeldSeen held seen → HeldSeen (record_ahead ahead held) seen
held_ahead_seen [] held seen a h = h
held_ahead_seen (u ∷ ahead) held seen a h = (a.1, h)

rest_seen : (ahead : List Undone) (seen : List (List ℕ)) → AheadSeen ahead seen → AheadSeen (drop 1 ahead) seen
rest_seen [] seen a = tt
rest_seen (u ∷ ahead) seen a = a.2

call_seen : (call : RecordCall) (c : RecordCourse) → Seen c → Seen (after_call c call)
call_seen (Told e) c s = record {
  text = inl refl;
  held = held_more (record_after_event e c.text c.held) c.seen (text_after_event e c.text) (recorded_seen e c.text c.held c.seen s.text s.held);
  ahead = ahead_more (ahead_after c.ahead e) c.seen (text_after_event e c.text) (ahead_after_seen e c.ahead c.seen s.ahead);
}
call_seen Begun c s = record { text = s.text; held = (s.text, s.held); ahead = tt }
call_seen Ended c s = record { text = s.text; held = ended_seen c.held c.seen s.held; ahead = tt }
call_seen (TakenBack n) c s =
    let t : List ℕ = text_back n c.held c.text in
    record {
      text = inl refl;
      held = held_more (drop n c.held) c.seen t (drop_seen n c.held c.seen s.held);
      ahead = ahead_more (ahead_back n c.held c.text c.ahead) c.seen t (ahead_back_seen n c.held c.text c.ahead c.seen s.text s.held s.ahead);
    }
call_seen MadeAnew c s =
    let t : List ℕ = option_map_or (λ (u : Undone). u.text) (slice_get c.ahead 0) c.text in
    record {
      text = inl refl;
      held = held_more (record_ahead c.ahead c.held) c.seen t (held_ahead_seen c.ahead c.held c.seen s.ahead s.held);
      ahead = ahead_more (drop 1 c.ahead) c.seen t (rest_seen c.ahead c.seen s.ahead);
    }

pub undo_leaves_an_earlier_text : UndoLeavesAnEarlierText
undo_leaves_an_earlier_text calls text n =
    let start : Seen (new_course text) = record { text = inl refl; held = tt; ahead = tt } in
    let s = fold_along after_call after_call (λ c _. Seen c) (λ c _ call s. call_seen call c s) (new_course text) (new_course text) calls start in
    text_back_seen n (fold after_call (new_course text) calls).held (fold after_call (new_course text) calls).text (fold after_call (new_course text) calls).seen s.text s.held
