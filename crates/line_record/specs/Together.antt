-- Two listeners that are notified in turn: the effect of an event on both, and of an error of one.
use Rattle.std.specs.Prelude.{◌≡◌, ◌⊎◌, ℕ, List, IsUtf8}
use Rattle.line_buffer.specs.Event.{ChangeEvent, StopsAmong, wants_or}
use Rattle.line_record.specs.declared.joined.Joined.{Joined}
use Rattle.line_record.specs.Items.{Items, ItemsStand, RecordsEventIn, record_refuses, record_on, ahead_on, ahead_after}
use Rattle.line_record.specs.RecordCourse.{record_after_events}
use Rattle.std.specs.Borrow.{MutBor}
use Rattle.std.specs.List.{fold}

pub record SameNames {A B : Type 0} (first : MutBor A) (second : MutBor B) (first_after : MutBor A)
    (second_after : MutBor B) : Type 0 where
  pub first_same : first_after.ghost_name ≡ first.ghost_name
  pub second_same : second_after.ghost_name ≡ second.ghost_name

module _ {A B : Type 0} where
  abbrev pub joined_takes : (A → ChangeEvent → A → Type 0) → (B → ChangeEvent → B → Type 0)
      → Joined A B → ChangeEvent → Joined A B → Type 0
  joined_takes first second s e t = SameNames s.first s.second t.first t.second
      × (first s.first.now e t.first.now × second s.second.now e t.second.now)

  -- the first one fails, and the second isn't notified; or the second one fails
  abbrev pub joined_refuses : (A → ChangeEvent → A → Type 0) → (A → ChangeEvent → A → Type 0)
      → (B → ChangeEvent → B → Type 0) → Joined A B → ChangeEvent → Joined A B → Type 0
  joined_refuses first first_refuses second_refuses s e t =
      SameNames s.first s.second t.first t.second
      × ((first_refuses s.first.now e t.first.now × (t.second.now ≡ s.second.now))
      ⊎ (first s.first.now e t.first.now × second_refuses s.second.now e t.second.now))

-- a failed call of several events, seen from a record that is notified last: it holds exactly the
-- changes that the line made, and what can be redone after them
pub record HoldsWhatWasMade {S : Type 0} {takes refuses : S → ChangeEvent → S
    → Type 0} {closing events : List ChangeEvent} {s t : S} {before after : List ℕ}
    (part : S → Items) (call : StopsAmong takes refuses closing events s t before after) : Type 0
  where
    pub stand : ItemsStand (part t) after
    pub held : record_on (part t) after
        ≡ record_after_events closing after
        (record_after_events call.done before (record_on (part s) before))
    pub ahead : ahead_on (part t) after
        ≡ fold ahead_after (fold ahead_after (ahead_on (part s) before) call.done) closing

abbrev pub RefusalsLeaveNoUnmadeChange : {A : Type 0} → (A → ChangeEvent → A → Type 0)
    → (A → ChangeEvent → A → Type 0) → Type 0
RefusalsLeaveNoUnmadeChange {A} first first_refuses =
    (closing events : List ChangeEvent) (s t : Joined A Items) (before after : List ℕ)
    → ItemsStand s.second.now before → IsUtf8 before
    → (call : StopsAmong (joined_takes first RecordsEventIn)
    (wants_or (joined_refuses first first_refuses record_refuses)) closing events s t before after)
    → HoldsWhatWasMade (λ j. j.second.now) call
