-- The record of texts after several events, of the record alone or as a part of a listener.
use Rattle.std.proofs.Common.{◌≡◌, ℕ, List, [], ◌∷◌, refl, sym, ap, subst, ◌∙◌, inl, inr, IsUtf8}
use Rattle.line_buffer.specs.Event.{ChangeEvent, text_after_event, text_after_events, Swaps, Replays, TakesAll, Reports, StopsAmong, wants_or}
use Rattle.line_buffer.specs.Event.ChangeEvent.{StartKilling, StopKilling}
use Rattle.line_record.specs.Held.{HeldItem, record_after_event}
use Rattle.line_record.specs.Items.{Items, ItemsStand, record_on, ahead_on, ahead_after, RecordsEventIn, record_refuses}
use Rattle.line_record.specs.RecordCourse.{record_after_events}
use Rattle.line_buffer.proofs.ReplayedLemmas.{replayed_all-none, replayed_all-first}
use Rattle.line_record.proofs.Exchange.{exchanged}
use Rattle.std.specs.List.{fold}

pub recorded_all-nil : (text : List ℕ) (held : List HeldItem) → record_after_events [] text held ≡ held
unfolding record_after_events
recorded_all-nil text held = refl

pub recorded_all-cons : (e : ChangeEvent) (es : List ChangeEvent) (text : List ℕ) (held : List HeldItem) → record_after_events (e ∷ es) text held ≡ record_after_events es (text_after_event e text) (record_after_event e text held)
unfolding record_after_events
recorded_all-cons e es text held = refl

-- the text that an event leaves
pub replayed_is : (e : ChangeEvent) (before after : List ℕ) → Replays e before after → after ≡ text_after_event e before
replayed_is StartKilling before after r = r
replayed_is StopKilling before after r = r
replayed_is _ before after r = r.becomes

swapped_utf8 : {at : ℕ} {from to before after : List ℕ} → IsUtf8 before → Swaps at from to before after → IsUtf8 after
swapped_utf8 {at} {from} {to} {before} {after} u w =
    subst IsUtf8 (sym w.becomes) (exchanged at from to before w.stands u).utf8

pub replayed_utf8 : (e : ChangeEvent) (before after : List ℕ) → IsUtf8 before → Replays e before after → IsUtf8 after
replayed_utf8 StartKilling before after u r = subst IsUtf8 (sym r) u
replayed_utf8 StopKilling before after u r = subst IsUtf8 (sym r) u
replayed_utf8 _ before after u r = swapped_utf8 u r

-- the record after events, and what can be redone
pub record RecordedAll (events : List ChangeEvent) (s t : Items) (before after : List ℕ) : Type 0 where
  pub stand : ItemsStand t after
  pub held : record_on t after ≡ record_after_events events before (record_on s before)
  pub ahead : ahead_on t after ≡ fold ahead_after (ahead_on s before) events
  pub text : after ≡ text_after_events events before
  pub utf8 : IsUtf8 after

-- a listener of which the record is a part
module _ {S : Type 0} (takes : S → ChangeEvent → S → Type 0) (part : S → Items) (takes_part : (s : S) (e : ChangeEvent) (t : S) → takes s e t → RecordsEventIn (part s) e (part t)) where
  pub all_recorded : (events : List ChangeEvent) (s t : S) (before after : List ℕ) → TakesAll takes s events t → TakesAll (λ a e b. Replays e a b) before events after
      → ItemsStand (part s) before → IsUtf8 before → RecordedAll events (part s) (part t) before after
  all_recorded [] s t before after told replays h u = record {
    stand = subst (λ x. ItemsStand (part x) after) (sym told) (subst (ItemsStand (part s)) (sym replays) h);
    held = ap (λ x. record_on (part x) after) told ∙ ap (record_on (part s)) replays ∙ sym (recorded_all-nil before (record_on (part s) before));
    ahead = ap (λ x. ahead_on (part x) after) told ∙ ap (ahead_on (part s)) replays;
    text = replays ∙ sym (replayed_all-none before);
    utf8 = subst IsUtf8 (sym replays) u;
  }
  all_recorded (e ∷ es) s t before after (v, told, more) (between, replays, later) h u =
      let first = (takes_part s e v told).on before between h u replays in
      let is : between ≡ text_after_event e before = replayed_is e before between replays in
      let rest = all_recorded es v t between after more later first.stand (replayed_utf8 e before between u replays) in
      record {
        stand = rest.stand;
        held = rest.held ∙ ap (record_after_events es between) first.held ∙ ap (λ x. record_after_events es x (record_after_event e before (record_on (part s) before))) is
            ∙ sym (recorded_all-cons e es before (record_on (part s) before));
        ahead = rest.ahead ∙ ap (λ x. fold ahead_after x es) first.ahead;
        text = rest.text ∙ ap (text_after_events es) is ∙ sym (replayed_all-first e es before);
        utf8 = rest.utf8;
      }

  pub part_told : {events : List ChangeEvent} {s t : S} {before after : List ℕ} → ItemsStand (part s) before → IsUtf8 before → Reports takes events s t before after
      → RecordedAll events (part s) (part t) before after
  part_told {events} {s} {t} {before} {after} h u r = all_recorded events s t before after r.told r.replays h u

  -- after a failure the record is that of the events that the line made, and of what closed the call
  pub part_stopped : {closing events : List ChangeEvent} {s t : S} {before after : List ℕ} → (refuses : S → ChangeEvent → S → Type 0) → ((x : S) (e : ChangeEvent) (y : S) → refuses x e y → part y ≡ part x)
      → ItemsStand (part s) before → IsUtf8 before → (p : StopsAmong takes (wants_or refuses) closing events s t before after)
      → RecordedAll closing (part p.between) (part t) after after × RecordedAll p.done (part s) (part p.between) before after
  part_stopped {closing} {events} {s} {t} {before} {after} refuses refuses_part h u p =
      let done = part_told h u p.reported in
      let same : part p.left ≡ part p.between = elim p.stopped [ inl e ↦ ap part e | inr r ↦ refuses_part p.between p.refused p.left r ] in
      let after_all = part_told (subst (λ x. ItemsStand x after) (sym same) done.stand) done.utf8 p.closed in
      (subst (λ x. RecordedAll closing x (part t) after after) same after_all, done)

-- the record alone
pub told_stand : {events : List ChangeEvent} {s t : Items} {before after : List ℕ} → ItemsStand s before → IsUtf8 before → Reports RecordsEventIn events s t before after → ItemsStand t after
told_stand h u r = (part_told RecordsEventIn (λ x. x) (λ s e t k. k) h u r).stand

pub told_held : {events : List ChangeEvent} {s t : Items} {before after : List ℕ} → ItemsStand s before → IsUtf8 before → Reports RecordsEventIn events s t before after
    → record_on t after ≡ record_after_events events before (record_on s before)
told_held h u r = (part_told RecordsEventIn (λ x. x) (λ s e t k. k) h u r).held

pub stopped_stand : {closing events : List ChangeEvent} {s t : Items} {before after : List ℕ} → ItemsStand s before → IsUtf8 before
    → StopsAmong RecordsEventIn (wants_or record_refuses) closing events s t before after → ItemsStand t after
stopped_stand h u p = (part_stopped RecordsEventIn (λ x. x) (λ s e t k. k) record_refuses (λ x e y k. k.0) h u p).0.stand

-- what each event keeps, a run keeps
pub kept_by_all : {S : Type 0} (takes : S → ChangeEvent → S → Type 0) (Kept : S → S → Type 0) → ((s : S) → Kept s s) → ((s t u : S) → Kept s t → Kept t u → Kept s u)
    → ((s : S) (e : ChangeEvent) (t : S) → takes s e t → Kept s t) → (events : List ChangeEvent) (s t : S) → TakesAll takes s events t → Kept s t
kept_by_all takes Kept same chained step [] s t told = subst (Kept s) (sym told) (same s)
kept_by_all takes Kept same chained step (e ∷ es) s t (v, told, more) =
    chained s v t (step s e v told) (kept_by_all takes Kept same chained step es v t more)
