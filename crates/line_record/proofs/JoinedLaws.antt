-- Two listeners, the last of which is a record.
use Rattle.std.proofs.Common.{◌≡◌, List, refl, ap, ◌∙◌, inl, inr, ℕ, IsUtf8}
use Rattle.line_buffer.specs.Event.{ChangeEvent, Reports, StopsAmong}
use Rattle.line_buffer.proofs.ReplayLemmas.{stops_wanting}
use Rattle.line_record.specs.declared.joined.Joined.{Joined}
use Rattle.line_record.specs.Items.{Items, ItemsStand, RecordsEventIn, record_refuses, record_on, ahead_after}
use Rattle.line_record.specs.Together.{SameNames, joined_takes, joined_refuses, RefusalsLeaveNoUnmadeChange}
use Rattle.line_record.specs.RecordCourse.{record_after_events}
use Rattle.line_record.proofs.RunLemmas.{part_told, part_stopped, kept_by_all}
use Rattle.std.specs.List.{fold}

pub refusals_leave_no_unmade_change : {A : Type 0} (first first_refuses : A → ChangeEvent → A → Type 0) → RefusalsLeaveNoUnmadeChange first first_refuses
refusals_leave_no_unmade_change {A} first first_refuses closing events s t before after h u call =
    let part : Joined A Items → Items = λ j. j.second.now in
    let same : (x : Joined A Items) (e : ChangeEvent) (y : Joined A Items) → joined_refuses first first_refuses record_refuses x e y → part y ≡ part x =
    λ x e y r. elim r.1 [ inl k ↦ k.1 | inr k ↦ k.1.0 ] in
    let both = part_stopped (joined_takes first RecordsEventIn) part (λ x e y k. k.1.1) (joined_refuses first first_refuses record_refuses) same h u call in
    record {
      stand = both.0.stand;
      held = both.0.held ∙ ap (record_after_events closing after) both.1.held;
      ahead = both.0.ahead ∙ ap (λ x. fold ahead_after x closing) both.1.ahead;
    }

-- the record's changes stand on the line's text, if both were told, and if one failed
pub joined_stand : {A : Type 0} (first : A → ChangeEvent → A → Type 0) {events : List ChangeEvent} {s t : Joined A Items} {before after : List ℕ} → ItemsStand s.second.now before → IsUtf8 before
    → Reports (joined_takes first RecordsEventIn) events s t before after → ItemsStand t.second.now after
joined_stand {A} first h u r = (part_told (joined_takes first RecordsEventIn) (λ j. j.second.now) (λ x e y k. k.1.1) h u r).stand

-- and the record is that of the line's events
pub joined_held : {A : Type 0} (first : A → ChangeEvent → A → Type 0) {events : List ChangeEvent} {s t : Joined A Items} {before after : List ℕ} → ItemsStand s.second.now before → IsUtf8 before
    → Reports (joined_takes first RecordsEventIn) events s t before after → record_on t.second.now after ≡ record_after_events events before (record_on s.second.now before)
joined_held first h u r = (part_told (joined_takes first RecordsEventIn) (λ j. j.second.now) (λ x e y k. k.1.1) h u r).held

pub joined_stand_refused : {A : Type 0} (first first_refuses : A → ChangeEvent → A → Type 0) {closing events : List ChangeEvent} {s t : Joined A Items} {before after : List ℕ}
    → ItemsStand s.second.now before → IsUtf8 before
    → StopsAmong (joined_takes first RecordsEventIn) (joined_refuses first first_refuses record_refuses) closing events s t before after → ItemsStand t.second.now after
joined_stand_refused first first_refuses {closing} {events} {s} {t} {before} {after} h u call =
    (refusals_leave_no_unmade_change first first_refuses closing events s t before after h u (stops_wanting call)).stand

-- they stay the same two
module _ {A B : Type 0} (first first_refuses : A → ChangeEvent → A → Type 0) (second second_refuses : B → ChangeEvent → B → Type 0) where
  abbrev Same : Joined A B → Joined A B → Type 0
  Same s t = SameNames s.first s.second t.first t.second

  same : (s : Joined A B) → Same s s
  same s = record { first_same = refl; second_same = refl }

  chained : (s t u : Joined A B) → Same s t → Same t u → Same s u
  chained s t u h k = record { first_same = k.first_same ∙ h.first_same; second_same = k.second_same ∙ h.second_same }

  pub joined_names : {events : List ChangeEvent} {s t : Joined A B} {before after : List ℕ} → Reports (joined_takes first second) events s t before after
      → SameNames s.first s.second t.first t.second
  joined_names {events} {s} {t} r = kept_by_all (joined_takes first second) Same same chained (λ x e y k. k.0) events s t r.told

  pub joined_names_refused : {closing events : List ChangeEvent} {s t : Joined A B} {before after : List ℕ}
      → StopsAmong (joined_takes first second) (joined_refuses first first_refuses second_refuses) closing events s t before after → SameNames s.first s.second t.first t.second
  joined_names_refused {closing} {events} {s} {t} call = chained s call.between t (joined_names call.reported) (chained call.between call.left t call.stopped.0 (joined_names call.closed))
