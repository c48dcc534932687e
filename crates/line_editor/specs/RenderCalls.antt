-- The calls of a renderer and of the helper, and what is known of a renderer.
use Rattle.std.specs.Prelude.{◌≡◌, ◌⊎◌, ℕ, Bool, List, [], ◌∷◌, Option, Result, OnOk, OnErr, IfErr, IsTrue, IsFalse, ◌≤◌, nat_le, if◌then◌else◌, take, length, None, Some}
use Rattle.line_buffer.specs.declared.layout.GraphemeClusterMode.{GraphemeClusterMode}
use Rattle.line_buffer.specs.declared.layout.Layout.{Layout}
use Rattle.line_buffer.specs.declared.layout.Position.{Position}
use Rattle.line_buffer.specs.declared.layout.TabStops.{TabStops}
use Rattle.line_config.specs.declared.errors.ReadlineError.{ReadlineError}
use Rattle.line_config.specs.declared.errors.ReadlineError.TheVariants.{Display}
use Rattle.line_help.specs.Paints as help
use Rattle.std.specs.Option.{ForSome}
use Rattle.std.proofs.Props.{props}

-- what a highlighter marks, and the styles of each text
abbrev pub Marks : Type 0
Marks = help.Marks

pub data Call : Type 0 where
  -- prompt, line and information drawn in full, in place of an older drawing, if there is one. A
  -- highlighter, if there is one, is represented by its marks
  Draw : (prompt text : List ℕ) (place : ℕ) (info : Option (List ℕ)) (old : Option Layout)
      (new : Layout) (marks : Option Marks) → Call
  Move : (old new : Position) → Call
  Write : (text : List ℕ) → Call
  Beep ClearScreen ClearToEol ToLeftmost : Call
  ClearRows : (layout : Layout) → Call
  -- a move, and the row erased from there to its end
  MoveAndClearToEol : (old new : Position) → Call
  -- a character written in a cell opened at the cursor, before letters that move on by a cell; the
  -- cursor goes behind it. `finish`: where the drawing ends then
  InsertChar : (c : ℕ) (rest : List ℕ) (old new finish : Position) → Call
  -- a move, and so many cells taken out from there on, before letters that move back
  MoveAndDelete : (old new : Position) (count : ℕ) (rest : List ℕ) (finish : Position) → Call
  -- a text drawn behind what is drawn, from the drawing's end on
  Append : (text : List ℕ) (at : Position) → Call
  -- a move to a cell inside the drawing, and the line's text from a place on drawn in place of what
  -- stands from there on, with the information after it
  DrawRest : (text : List ℕ) (from place : ℕ) (info : Option (List ℕ)) (old at : Position)
      (new : Layout) (marks : Option Marks) → Call
  -- a move, letters written from there on over as many in their row, and the move to the cursor
  WriteOver : (letters : List ℕ) (old at new : Position) → Call
  -- a call of the helper, which answers or fails; nothing is drawn
  Help : (fails : Bool) → Call

-- a renderer's measures: where the drawing of a text from a place on ends, the numbers of columns
-- and of rows, whether it draws in colours, and how it counts a cluster's columns
pub record Ruler : Type 0 where
  pub measure : List ℕ → Position → Position
  pub columns : ℕ
  pub rows : ℕ
  pub colours : Bool
  pub mode : GraphemeClusterMode
  -- where tabs end, if they are drawn as blanks
  pub tabs : Option TabStops

-- what is known of a renderer: the effect of a call that succeeds, and of one that fails; whether
-- its display has failed; and its measures
pub record Canvas (R : Type 0) : Type 1 where
  pub made : R → Call → R → Type 0
  pub refused : R → Call → R → Type 0
  pub failed : R → Bool
  pub ruler : R → Ruler

-- a call succeeds, or fails because the display has failed
pub record Makes {R A : Type 0} (canvas : Canvas R) (call : Call) (old new : R)
    (result : Result A ReadlineError) : Type 0 where
  pub made : OnOk result (canvas.made old call new)
  pub refused : OnErr result (canvas.refused old call new)
  pub fault : IfErr result (λ e. e ≡ Display)
  pub failed : OnErr result (IsTrue (canvas.failed new))
  pub ruler : canvas.ruler new ≡ canvas.ruler old

-- a call succeeds: of the renderer, or of a helper that gives an answer
abbrev pub MadeIn : {R : Type 0} → Canvas R → R → Call → R → Type 0
MadeIn canvas old (Help fails) new = IsFalse fails × (new ≡ old)
MadeIn canvas old call new = canvas.made old call new

-- the display fails at a call; it has no part in the helper's
abbrev pub CutCall : {R : Type 0} → Canvas R → R → Call → R → Type 0
CutCall canvas old (Help fails) new = ⊥
CutCall canvas old call new = canvas.refused old call new

-- the display broke off these calls: those before it succeeded, and the next one failed
unfoldable pub CutCalls : {R : Type 0} → Canvas R → List Call → R → R → Type 0
CutCalls canvas [] old new = ⊥
CutCalls {R} canvas (call ∷ calls) old new = CutCall canvas old call new
    ⊎ ((between : R) × MadeIn canvas old call between × CutCalls canvas calls between new)

-- a call that writes nothing, whether it succeeds or fails: the renderer is as it was
pub record Idles {R A : Type 0} (canvas : Canvas R) (old new : R)
    (result : Result A ReadlineError) : Type 0 where
  pub stays : new ≡ old
  pub fault : IfErr result (λ e. e ≡ Display)
  pub failed : OnErr result (IsTrue (canvas.failed new))

-- what is known of a place, if there is one: it is in the text, and the drawing of the text before
-- it, from a start on, ends there
pub record IsKnown (measure : List ℕ → Position → Position) (start : Position) (text : List ℕ)
    (known : Option (ℕ × Position)) : Type 0 where
  pub inside : ForSome known (λ k. k.0 ≤ length text)
  pub at : ForSome known (λ k. k.1 ≡ measure (take k.0 text) start)

pub IsKnown-prop : {measure : List ℕ → Position → Position} {start : Position} {text : List ℕ}
    {known : Option (ℕ × Position)} → IsProp (IsKnown measure start text known)
IsKnown-prop = Prim.hlevel props

-- the known place, if it isn't past another one
abbrev pub known_within : ℕ → Option (ℕ × Position) → Option (ℕ × Position)
known_within place None = None
known_within place (Some known) = if nat_le known.0 place then Some known else None
