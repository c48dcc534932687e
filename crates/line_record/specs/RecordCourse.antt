-- The history of a line: the calls on the line and its record, and the texts that it had.
use Rattle.std.specs.Prelude.{◌≡◌, ℕ, ◌⊎◌, List, [], ◌∷◌, drop, slice_get}
use Rattle.line_buffer.specs.Event.{ChangeEvent, text_after_event}
use Rattle.line_record.specs.Held.{HeldItem, Undone, record_after_event, record_after_close, text_back, ahead_back, record_ahead}
use Rattle.line_record.specs.Held.HeldItem.{Opened}
use Rattle.line_record.specs.Items.{ahead_after}
use Rattle.std.specs.Option.{option_map_or}

pub data RecordCall : Type 0 where
  Told : (event : ChangeEvent) → RecordCall
  Begun : RecordCall
  Ended : RecordCall
  TakenBack : (count : ℕ) → RecordCall
  MadeAnew : RecordCall

pub record RecordCourse : Type 0 where
  pub text : List ℕ
  pub held : List HeldItem
  pub ahead : List Undone
  pub seen : List (List ℕ)

-- a line with a new record
abbrev pub new_course : List ℕ → RecordCourse
new_course text = record { text = text; held = []; ahead = []; seen = text ∷ [] }

abbrev pub after_call : RecordCourse → RecordCall → RecordCourse
after_call c (Told e) = let text = text_after_event e c.text in
    let held = record_after_event e c.text c.held in
    record { text = text; held = held; ahead = ahead_after c.ahead e; seen = text ∷ c.seen }
after_call c Begun = record c { held = Opened c.text ∷ c.held; ahead = [] }
after_call c Ended = record c { held = record_after_close c.held; ahead = [] }
after_call c (TakenBack n) = let text = text_back n c.held c.text in
    let ahead = ahead_back n c.held c.text c.ahead in
    record { text = text; held = drop n c.held; ahead = ahead; seen = text ∷ c.seen }
after_call c MadeAnew = let text = option_map_or (λ u. u.text) (slice_get c.ahead 0) c.text in
    let held = record_ahead c.ahead c.held in
    record { text = text; held = held; ahead = drop 1 c.ahead; seen = text ∷ c.seen }

abbrev pub IsAmong : List ℕ → List (List ℕ) → Type 0
IsAmong text [] = ⊥
IsAmong text (x ∷ texts) = (text ≡ x) ⊎ IsAmong text texts

-- the record of texts after events on the text
unfoldable pub record_after_events : List ChangeEvent → List ℕ → List HeldItem → List HeldItem
record_after_events [] text held = held
record_after_events (e ∷ es) text held = record_after_events es (text_after_event e text)
    (record_after_event e text held)
