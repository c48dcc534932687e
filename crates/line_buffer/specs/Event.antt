-- The events of which a listener is notified: taken by it, replayed on a text, and as functions of
-- a text and of a cursor that keeps its place in the text.
use Rattle.std.specs.Prelude.{ℕ, List, ◌≡◌, ◌+◌, [], ◌∷◌, ◌++◌, ◌⊎◌, length, slice_range, IsUtf8, IsCharBoundary, encode_utf8, ◌-◌, min, nat_le, if◌then◌else◌}
use Rattle.line_buffer.specs.declared.types.Direction.{Direction}
use Rattle.std.specs.List.{replace_range}
use Rattle.line_buffer.specs.Line.{Line}

pub data ChangeEvent : Type 0 where
  StartKilling : ChangeEvent
  StopKilling : ChangeEvent
  Delete : (at : ℕ) (text : List ℕ) (direction : Direction) → ChangeEvent
  InsertChar : (at : ℕ) (c : ℕ) → ChangeEvent
  InsertStr : (at : ℕ) (text : List ℕ) → ChangeEvent
  Replace : (at : ℕ) (removed added : List ℕ) → ChangeEvent

-- a text is at a place, on character boundaries, and another may replace it
pub record StandsAt (at : ℕ) (from to text : List ℕ) : Type 0 where
  pub start : IsCharBoundary text at
  pub end : IsCharBoundary text (at + length from)
  pub bytes : slice_range text at (at + length from) ≡ from
  pub utf8 : IsUtf8 to

-- and the other does replace it
pub record Swaps (at : ℕ) (removed added before after : List ℕ) : Type 0 where
  pub stands : StandsAt at removed added before
  pub becomes : after ≡ replace_range before at (at + length removed) added

-- the change of a text by one event
abbrev pub Replays : ChangeEvent → List ℕ → List ℕ → Type 0
Replays (Delete at text direction) before after = Swaps at text [] before after
Replays (InsertChar at c) before after = Swaps at [] (encode_utf8 c) before after
Replays (InsertStr at text) before after = Swaps at [] text before after
Replays (Replace at removed added) before after = Swaps at removed added before after
Replays mark before after = after ≡ before

-- the change of a listener, or of a text, by events in order
abbrev pub TakesAll : {S : Type 0} → (S → ChangeEvent → S → Type 0) → S → List ChangeEvent → S
    → Type 0
TakesAll takes s [] t = t ≡ s
TakesAll {S} takes s (e ∷ es) t = (u : S) × takes s e u × TakesAll takes u es t

-- the listener took the events in order, and they lead from one text to the other
pub record Reports {S : Type 0} (takes : S → ChangeEvent → S → Type 0) (events : List ChangeEvent)
    (s t : S) (before after : List ℕ) : Type 0 where
  pub told : TakesAll takes s events t
  pub replays : TakesAll (λ text e later. Replays e text later) before events after

-- an event that reports a change, and so can fail; the marks of a kill can't
abbrev pub TellsOfChange : ChangeEvent → Type 0
TellsOfChange StartKilling = ⊥
TellsOfChange StopKilling = ⊥
TellsOfChange e = Unit {0}

-- the line finds no memory for an event, so the listener isn't notified of it; or that one fails
abbrev pub wants_or : {S : Type 0} → (S → ChangeEvent → S → Type 0) → S → ChangeEvent → S → Type 0
wants_or refuses s e t = (t ≡ s) ⊎ refuses s e t

-- memory ran out at one of the events. The events before it were done, and led to the text that is
-- left. That event was stopped by the listener's error or as in `wants_or`; the later ones never
-- come. At last the listener was notified of what closes the call
pub record StopsAmong {S : Type 0} (takes stops : S → ChangeEvent → S → Type 0)
    (closing events : List ChangeEvent) (s t : S) (before after : List ℕ) : Type 0 where
  pub done : List ChangeEvent
  pub refused : ChangeEvent
  pub never : List ChangeEvent
  pub split : events ≡ done ++ refused ∷ never
  pub change : TellsOfChange refused
  pub between : S
  pub reported : Reports takes done s between before after
  pub left : S
  pub stopped : stops between refused left
  pub closed : Reports takes closing left t after after

-- the event of each change
abbrev pub deletion : ℕ → ℕ → Direction → List ℕ → ChangeEvent
deletion from upto direction text = Delete from (slice_range text from upto) direction

abbrev pub replacement : ℕ → ℕ → List ℕ → List ℕ → ChangeEvent
replacement from upto added text = Replace from (slice_range text from upto) added

-- the change by one event of a text that contains the event's old text
abbrev pub text_after_event : ChangeEvent → List ℕ → List ℕ
text_after_event (Delete at removed direction) text = replace_range text at (at + length removed) []
text_after_event (InsertChar at c) text = replace_range text at (at + 0) (encode_utf8 c)
text_after_event (InsertStr at added) text = replace_range text at (at + 0) added
text_after_event (Replace at removed added) text = replace_range text at (at + length removed) added
text_after_event mark text = text

unfoldable pub text_after_events : List ChangeEvent → List ℕ → List ℕ
text_after_events [] text = text
text_after_events (e ∷ es) text = text_after_events es (text_after_event e text)

-- the cursor stays before the text that follows it; a replacement leaves it after the new text
abbrev pub place_after_event : ChangeEvent → ℕ → ℕ
place_after_event (Delete at removed direction) place = place - min (length removed) (place - at)
place_after_event (InsertStr at added) place = if nat_le at place then place + length added
    else place
place_after_event (Replace at removed added) place = at + length added
place_after_event e place = place

abbrev pub line_after_event : ChangeEvent → Line → Line
line_after_event e l = record l
    { text = text_after_event e l.text; place = place_after_event e l.place }

unfoldable pub line_after_events : List ChangeEvent → Line → Line
line_after_events [] l = l
line_after_events (e ∷ es) l = line_after_events es (line_after_event e l)
