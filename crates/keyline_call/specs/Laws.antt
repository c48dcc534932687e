-- Laws for a program that draws an open line anew: what the bytes from the last whole drawing on
-- show.
use Rattle.std.specs.Prelude.{◌≡◌, ℕ, nat_eq, Bool, if◌then◌else◌, List, [], ◌∷◌, ◌++◌, true, Option, Some, None}
use Rattle.std.specs.List.{starts_with}
use Rattle.std.specs.Option.{option_or}
use Rattle.line_editor.specs.EditSteps.{calls_of_steps}
use Rattle.line_buffer.specs.declared.layout.Layout.{Layout}
use Rattle.line_config.specs.declared.memory.VecSink.{VecSink}
use Rattle.line_editor.specs.Redraws.{fresh}
use Rattle.line_editor.specs.Sights.{Sight, no_sight, sight_all}
use Rattle.line_editor.specs.RenderCalls.{Marks}
use Rattle.line_editor.specs.Values.{shown_marks}
use Rattle.line_screen.specs.ScreenCalls.{Screen, widths, ruler_of}
use Rattle.line_screen.specs.Display.{Display, Placed, cell_at, style_at, meaning}
use Rattle.line_screen.specs.Drawing.{erase_to_end}
use Rattle.keyline.specs.Events.{line_course, line_play_in}
use Rattle.keyline.specs.SessionLaws.{steps_in}
use Rattle.keyline.specs.Sessions.{Given, SessionState, setting_in}
use Rattle.keyline.specs.Shows.{IsAtRest, IsScreen, LowAll, MomentShown, face}
use Rattle.keyline_call.specs.Lines.{LeftBy, value_first}
use Rattle.keyline_call.specs.Statuses.{status_of_ending, is_open}
use Rattle.keyline_call.specs.CallSteps.{open_place, open_text}
use Rattle.keyline_call.specs.declared.line.Left.{Left}

-- ---- whole drawings

-- CR ESC [ J begins one
abbrev pub drawing_start : List ℕ
drawing_start = 0x0D ∷ erase_to_end

abbrev pub begins_drawing : List ℕ → Bool
begins_drawing bytes = starts_with nat_eq bytes drawing_start

-- the bytes from the last one's beginning on
abbrev pub last_drawing : List ℕ → Option (List ℕ)
last_drawing [] = None
last_drawing (byte ∷ bytes) = option_or (last_drawing bytes)
    (if begins_drawing (byte ∷ bytes) then Some (byte ∷ bytes) else None)

-- ---- what they show

-- what the steps of a line show: a prompt, the line with its cursor, and a hint or message
abbrev pub sight_in : ℕ → Given → SessionState → Sight
sight_in n g x = sight_all no_sight (steps_in n g x)

-- what the highlighter gives for the drawing of the value after them, if there is one
abbrev pub marks_in : ℕ → Given → SessionState → Option Marks
marks_in n g x = shown_marks (line_play_in n g x).rest.value
    (setting_in g x.history.kept.entries).marks

-- what is kept of the drawing, from which the bytes for the next keys follow
abbrev pub layout_in : ℕ → Given → SessionState → Layout
layout_in n g x = (calls_of_steps (ruler_of g.screen) (fresh g.screen.mode) (steps_in n g x)).layout

module _ (held : VecSink → List ℕ) where
  -- a line continues, and everything shown is within the rows that can be counted
  pub record IsOpenAt (n : ℕ) (g : Given) (x : SessionState) (left : Left) : Type 0 where
    pub reads : LeftBy held (line_course n g x) (value_first g x)
        (line_play_in n g x).rest.value left
    pub continues : is_open (status_of_ending left.outcome) ≡ true
    pub low : LowAll g.screen no_sight (steps_in n g x)

  -- the bytes from the last whole drawing on show the open line by themselves, on any blank rows
  -- below others: its text with its styles and its cursor, behind the prompt that is shown for it.
  -- The rows above stay
  abbrev pub LastDrawingsShow : Type 0
  LastDrawingsShow =
      (n : ℕ) (g : Given) (x : SessionState) (left : Left)
      (before : List ℕ) (over : List Placed) (top : ℕ)
      → IsOpenAt n g x left → IsAtRest (face g.screen before top over no_sight)
      → (bytes : List ℕ) × (last_drawing (held left.display) ≡ Some bytes)
      × MomentShown (face g.screen (before ++ bytes) top over (sight_in n g x)) (marks_in n g x)
      (sight_in n g x).given (sight_in n g x).prompt (open_text left.open_line)
      (open_place left.open_line)

-- the same cells, and the cursor in the same one
pub record LookAlike (d e : Display) : Type 0 where
  pub cells : (row col : ℕ) → cell_at d.placed row col ≡ cell_at e.placed row col
  pub cursor : d.cursor ≡ e.cursor

-- with the same styles
abbrev pub StyledAlike : Display → Display → Type 0
StyledAlike d e = (row col : ℕ) → style_at d.placed row col ≡ style_at e.placed row col

-- the same open line and cursor, after the same prompt, and before the same hint or message
pub record ShowTheSame (n : ℕ) (g : Given) (x y : SessionState) (left other : Left) : Type 0 where
  pub text : open_text left.open_line ≡ open_text other.open_line
  pub place : open_place left.open_line ≡ open_place other.open_line
  pub prompt : (sight_in n g x).prompt ≡ (sight_in n g y).prompt
  pub info : (sight_in n g x).info ≡ (sight_in n g y).info

module _ (held : VecSink → List ℕ) where
  -- a display to which bytes were sent, and then those from a line's last whole drawing on
  pub record DrawnAnew (s : Screen) (before : List ℕ) (left : Left) (d : Display) : Type 0 where
    pub bytes : List ℕ
    pub last : last_drawing (held left.display) ≡ Some bytes
    pub means : meaning s.columns (widths s).cluster (before ++ bytes) ≡ Some d

  -- two key texts whose open lines show the same leave the same display if they are drawn anew,
  -- whatever their bytes are; and also its styles, if the highlighter gives both the same ones
  abbrev pub SameLinesLookAlike : Type 0
  SameLinesLookAlike =
      (n : ℕ) (g : Given) (x y : SessionState) (left other : Left)
      (before : List ℕ) (over : List Placed) (top : ℕ) (d e : Display)
      → IsOpenAt held n g x left → IsOpenAt held n g y other → ShowTheSame n g x y left other
      → IsAtRest (face g.screen before top over no_sight)
      → DrawnAnew g.screen before left d → DrawnAnew g.screen before other e
      → LookAlike d e × ((sight_in n g x).spans ≡ (sight_in n g y).spans → StyledAlike d e)

  -- and the same is kept of both drawings, if each prompt is the session's own, or neither is. So
  -- what follows on the one display may follow on the other
  abbrev pub SameLinesGoOnAlike : Type 0
  SameLinesGoOnAlike =
      (n : ℕ) (g : Given) (x y : SessionState) (left other : Left)
      → IsOpenAt held n g x left → IsOpenAt held n g y other → ShowTheSame n g x y left other
      → (sight_in n g x).given ≡ (sight_in n g y).given → IsScreen g.screen
      → layout_in n g x ≡ layout_in n g y
