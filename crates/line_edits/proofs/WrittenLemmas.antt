-- One event, seen as one of several; and that something is told where something is put in.
use Rattle.std.proofs.Common.{◌≡◌, ℕ, List, [], ◌∷◌, refl, true, is_some}
use Rattle.line_buffer.specs.Event.{ChangeEvent}
use Rattle.line_buffer.specs.Insertions.{insert as insertion, yank as yanked_in}
use Rattle.line_buffer.specs.Line.{Line}
use Rattle.line_buffer.proofs.InsertionLemmas.{insert_cases, yank_cases}
use Rattle.line_record.specs.Held.{HeldItem, record_after_event}
use Rattle.line_record.specs.RecordCourse.{record_after_events}

pub recorded_one : (e : ChangeEvent) (text : List ℕ) (held : List HeldItem) → record_after_event e text held ≡ record_after_events (e ∷ []) text held
unfolding record_after_events
recorded_one e text held = refl

-- if nothing is inserted, nothing is reported
pub some_typed : (c n : ℕ) (l : Line) (e : ChangeEvent) (es : List ChangeEvent) → (insertion c n l).events ≡ e ∷ es → is_some (insertion c n l).answer ≡ true
some_typed c n l e es = insert_cases (λ x. x.events ≡ e ∷ es → is_some x.answer ≡ true) c n l (λ split. absurd (cc)) (λ one split. refl) (λ split. refl)

pub some_yanked : (text : List ℕ) (n : ℕ) (l : Line) (e : ChangeEvent) (es : List ChangeEvent) → (yanked_in text n l).events ≡ e ∷ es → is_some (yanked_in text n l).answer ≡ true
some_yanked text n l e es = yank_cases (λ x. x.events ≡ e ∷ es → is_some x.answer ≡ true) text n l (λ split. absurd (cc)) (λ split. refl)
