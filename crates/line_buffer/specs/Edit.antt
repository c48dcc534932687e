-- What a call that edits a line must do: its answer, its events, and the line that it leaves.
use Rattle.std.specs.Prelude.{◌≡◌, List, length, Result, IfOk, OnOk, OnErr, ◌≤◌}
use Rattle.line_buffer.specs.Event.{ChangeEvent, Replays, Reports, StopsAmong, line_after_events}
use Rattle.line_buffer.specs.Line.{Line}

pub record SameSettings (l m : Line) : Type 0 where
  pub growth : m.growth ≡ l.growth
  pub limit : m.limit ≡ l.limit

pub record Edit (A : Type 0) : Type 0 where
  pub answer : A
  pub events : List ChangeEvent
  pub line : Line

-- a failed call: the line at which its events began, changed by the events that were taken
pub record StopsAt {S : Type 0} (takes refuses : S → ChangeEvent → S → Type 0)
    (closing events : List ChangeEvent) (s t : S) (start after : Line) : Type 0 where
  pub stops : StopsAmong takes refuses closing events s t start.text after.text
  pub line : after ≡ line_after_events stops.done start

-- a call that succeeded has made the edit; one that failed stopped at one of the edit's events
pub record EditsLine {S A E : Type 0} (takes refuses : S → ChangeEvent → S → Type 0)
    (closing : List ChangeEvent) (edit : Edit A) (s t : S) (start after : Line)
    (result : Result A E) : Type 0 where
  pub answer : IfOk result (λ a. a ≡ edit.answer)
  pub told : OnOk result (Reports takes edit.events s t start.text after.text)
  pub line : OnOk result (after ≡ edit.line)
  pub left : OnErr result (StopsAt takes refuses closing edit.events s t start after)
  pub settings : SameSettings start after

-- the same, and the text doesn't get longer
pub record CutsLine {S A E : Type 0} (takes refuses : S → ChangeEvent → S → Type 0)
    (closing : List ChangeEvent) (edit : Edit A) (s t : S) (start after : Line)
    (result : Result A E) : Type 0 where
  pub edits : EditsLine takes refuses closing edit s t start after result
  pub shrinks : length after.text ≤ length start.text

-- one change is reported and then made; if it fails, the line stays as it was
pub record ChangesLine {S A E : Type 0} (takes refuses : S → ChangeEvent → S → Type 0)
    (event : ChangeEvent) (made : Line) (s t : S) (before after : Line) (result : Result A E)
    : Type 0 where
  pub told : OnOk result (takes s event t)
  pub replays : OnOk result (Replays event before.text after.text)
  pub line : OnOk result (after ≡ made)
  pub refused : OnErr result (refuses s event t)
  pub kept : OnErr result (after ≡ before)
