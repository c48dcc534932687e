-- A line with the record of its texts, and edits of both by their steps, also if a step fails.
use Rattle.std.specs.Prelude.{◌≡◌, ◌⊎◌, List, [], ◌∷◌, ◌++◌, Result, IfOk, OnOk, OnErr}
use Rattle.line_buffer.specs.Edit.{Edit}
use Rattle.line_buffer.specs.Event.{ChangeEvent, TellsOfChange, line_after_events}
use Rattle.line_buffer.specs.Line.{Line}
use Rattle.line_record.specs.Items.{Items, ItemsStand, record_on}
use Rattle.line_record.specs.Held.{HeldItem, Opened, record_after_close}
use Rattle.line_record.specs.RecordCourse.{record_after_events}
use Rattle.line_edits.specs.declared.recorded_line.RecordedLine.{RecordedLine}

pub record Written : Type 0 where
  pub line : Line
  pub held : List HeldItem

abbrev pub line_and_record : Line → Items → Written
line_and_record line changes = record { line = line; held = record_on changes line.text }

abbrev pub line_and_record_in : RecordedLine → Written
line_and_record_in r = line_and_record r.line r.changes

-- an edit by its events, and the line that it leaves
abbrev pub after_edit : List ChangeEvent → Line → Written → Written
after_edit events line w =
    record { line = line; held = record_after_events events w.line.text w.held }

-- a mark set, and all marks closed
abbrev pub group_opened : Written → Written
group_opened w = record { line = w.line; held = Opened w.line.text ∷ w.held }

abbrev pub group_closed : Written → Written
group_closed w = record { line = w.line; held = record_after_close w.held }

-- a call that succeeds has made the edit and returns this answer; the record always fits the text
pub record Writes {A E : Type 0} (edit : Written → Written) (answer : A) (before after : Line)
    (old new : Items) (result : Result A E) : Type 0 where
  pub answers : IfOk result (λ a. a ≡ answer)
  pub line : OnOk result (after ≡ (edit (line_and_record before old)).line)
  pub held : OnOk result (record_on new after.text ≡ (edit (line_and_record before old)).held)
  pub stand : ItemsStand new after.text

-- ---- steps

-- line and record follow the events together, one after another, and at last the line is this; the
-- cursor was moved, and the line is this; a mark is set; all marks are closed
pub data WriteStep : Type 0 where
  Tells : (events : List ChangeEvent) (line : Line) → WriteStep
  Leaves : (line : Line) → WriteStep
  Marks : WriteStep
  Closes : WriteStep

abbrev pub effect_of_step : WriteStep → Written → Written
effect_of_step (Tells events line) w = after_edit events line w
effect_of_step (Leaves line) w = record { line = line; held = w.held }
effect_of_step Marks w = group_opened w
effect_of_step Closes w = group_closed w

-- one of the events failed: line and record followed those before it, together, and no more
pub record CutEvents (events : List ChangeEvent) (w v : Written) : Type 0 where
  pub done : List ChangeEvent
  pub refused : ChangeEvent
  pub never : List ChangeEvent
  pub split : events ≡ done ++ refused ∷ never
  pub change : TellsOfChange refused
  pub left : v ≡ after_edit done (line_after_events done w.line) w

-- the state that a failed step leaves; moving the cursor and closing marks never fail
abbrev pub CutWriteStep : WriteStep → Written → Written → Type 0
CutWriteStep (Tells events line) w v = CutEvents events w v
CutWriteStep Marks w v = v ≡ w
CutWriteStep step w v = ⊥

-- ---- edits

-- an edit: its steps in order, and its answer
pub record WriteSteps (A : Type 0) : Type 0 where
  pub steps : List WriteStep
  pub answer : A

abbrev pub effect_of_steps : List WriteStep → Written → Written
effect_of_steps [] w = w
effect_of_steps (step ∷ steps) w = effect_of_steps steps (effect_of_step step w)

-- the first steps were made, in order; the failed one and those after it were not
abbrev pub CutAlong : List WriteStep → Written → Written → Type 0
CutAlong [] w v = ⊥
CutAlong (step ∷ steps) w v = CutAlong steps (effect_of_step step w) v ⊎ CutWriteStep step w v

-- ---- parts of edits

abbrev pub single_step : {A : Type 0} → WriteStep → A → WriteSteps A
single_step step answer = record { steps = step ∷ []; answer = answer }

abbrev pub no_steps : {A : Type 0} → A → WriteSteps A
no_steps answer = record { steps = []; answer = answer }

-- an edit of the line, reported to the record
abbrev pub steps_of_edit : {A : Type 0} → Edit A → WriteSteps A
steps_of_edit edit = single_step (Tells edit.events edit.line) edit.answer

-- one edit after another
abbrev pub in_turn : {A B : Type 0} → WriteSteps A → WriteSteps B → WriteSteps B
in_turn first second = record { steps = first.steps ++ second.steps; answer = second.answer }

-- the same edit, and another answer
abbrev pub with_answer : {A B : Type 0} → B → WriteSteps A → WriteSteps B
with_answer answer edit = record { steps = edit.steps; answer = answer }

-- undone as one
abbrev pub steps_in_group : {A : Type 0} → WriteSteps A → WriteSteps A
steps_in_group edit = record { steps = Marks ∷ (edit.steps ++ (Closes ∷ [])); answer = edit.answer }

-- ---- calls

-- a call that succeeds has made all steps and returns the answer; one that fails made the first
pub record Rewrites {A E : Type 0} (edit : WriteSteps A) (before after : Line) (old new : Items)
    (result : Result A E) : Type 0 where
  pub writes : Writes (effect_of_steps edit.steps) edit.answer before after old new result
  pub left : OnErr result
      (CutAlong edit.steps (line_and_record before old) (line_and_record after new))

-- the same of a line with its record
pub record Edits {A E : Type 0} (edit : WriteSteps A) (before after : RecordedLine)
    (result : Result A E) : Type 0 where
  pub writes : Writes (effect_of_steps edit.steps) edit.answer
      before.line after.line before.changes after.changes result
  pub left : OnErr result
      (CutAlong edit.steps (line_and_record_in before) (line_and_record_in after))
