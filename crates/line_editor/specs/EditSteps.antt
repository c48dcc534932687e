-- The calls on a renderer of an edit's steps, and where a fault stops them.
use Rattle.std.specs.Prelude.{◌≡◌, ◌⊎◌, ℕ, Bool, List, [], ◌∷◌, IsTrue}
use Rattle.std.specs.List.{FoldsTo}
use Rattle.line_buffer.specs.declared.layout.Layout.{Layout}
use Rattle.line_config.specs.declared.errors.ReadlineError.{ReadlineError}
use Rattle.line_config.specs.declared.errors.ReadlineError.TheVariants.{Display, Helper, Memory}
use Rattle.line_edits.specs.WriteSteps.{CutAlong}
use Rattle.line_record.specs.Items.{Item, CutUndo, DoneStand, items_with_texts, last_changes}
use Rattle.line_editor.specs.RenderCalls.{Canvas, Ruler, MadeIn, CutCalls}
use Rattle.line_editor.specs.RenderCalls.Call.{Help}
use Rattle.line_editor.specs.Redraws.{RedrawCalls, calls_of_redraw, nothing_asked, one_call, then_asked}
use Rattle.line_editor.specs.Values.{Value, EditStep, line_and_record_of, shown_marks}
use Rattle.line_editor.specs.Values.EditStep.{Draws, Helped, Edits, TakesBack, Takes}

abbrev pub one : Ruler → Layout → EditStep → RedrawCalls
one r l (Draws v marks x) = calls_of_redraw r (shown_marks v marks) l x
one r l (Helped v fails takes) = one_call (Help fails) l
one r l step = nothing_asked l

abbrev pub calls_of_steps : Ruler → Layout → List EditStep → RedrawCalls
calls_of_steps r l [] = nothing_asked l
calls_of_steps r l (x ∷ xs) = then_asked (one r l x) (calls_of_steps r (one r l x).layout xs)

-- ---- where a fault stops them

-- a renderer, and the stored layout
pub record Surface (R : Type 0) : Type 0 where
  pub out : R
  pub layout : Layout

abbrev pub surface : {R : Type 0} → R → Layout → Surface R
surface out layout = record { out = out; layout = layout }

-- the helper fails, or finds no memory where it takes some
abbrev pub CutHelp : Bool → Bool → ReadlineError → Type 0
CutHelp fails takes Helper = IsTrue fails
CutHelp fails takes Memory = IsTrue takes
CutHelp fails takes why = ⊥

-- what a failed undo of the last items leaves: the line with the newest of their changes undone, at
-- least one not, and an empty record. The changes are those of items that hold the record's texts
pub record UndonePartly (count : ℕ) (v w : Value) : Type 0 where
  pub items : List Item
  pub stand : DoneStand items v.line.text
  pub held : v.held ≡ items_with_texts items v.line.text
  pub line : CutUndo (last_changes count items) v.line w.line
  pub beside : w ≡ record v { line = w.line; held = [] }

-- these calls were made
abbrev pub CallsMade : {R : Type 0} → Canvas R → RedrawCalls → Surface R → Surface R → Type 0
CallsMade canvas x s t = FoldsTo (MadeIn canvas) s.out x.calls t.out × (t.layout ≡ x.layout)

-- a step that fails leaves the value as it says, and the stored layout. The display fails only in
-- drawings, and has their first calls. Memory runs out only in edits, and in steps that take some
abbrev pub CutStep : {R : Type 0} → Canvas R → Ruler → Surface R → EditStep → ReadlineError → Value
    → Surface R → Type 0
CutStep canvas r s (Draws v marks x) fault value t = (fault ≡ Display)
    × CutCalls canvas (calls_of_redraw r (shown_marks v marks) s.layout x).calls s.out t.out
    × (t.layout ≡ s.layout) × (value ≡ v)
CutStep canvas r s (Helped v fails takes) fault value t =
    CutHelp fails takes fault × (t ≡ s) × (value ≡ v)
CutStep canvas r s (Edits v edit) fault value t = (fault ≡ Memory) × (t ≡ s)
    × (value ≡ record v { line = value.line; held = value.held })
    × CutAlong edit.steps (line_and_record_of v) (line_and_record_of value)
CutStep canvas r s (TakesBack v count) fault value t =
    (fault ≡ Memory) × (t ≡ s) × UndonePartly count v value
CutStep canvas r s (Takes v) fault value t = (fault ≡ Memory) × (t ≡ s) × (value ≡ v)

-- the first of these steps were made, and this fault cut the next one, which left this value
unfoldable pub CutEditSteps : {R : Type 0} → Canvas R → Ruler → List EditStep → Surface R
    → ReadlineError → Value → Surface R → Type 0
CutEditSteps canvas r [] old fault value new = ⊥
CutEditSteps {R} canvas r (step ∷ steps) old fault value new =
    ((between : Surface R) × CallsMade canvas (one r old.layout step) old between
    × CutEditSteps canvas r steps between fault value new)
    ⊎ CutStep canvas r old step fault value new
