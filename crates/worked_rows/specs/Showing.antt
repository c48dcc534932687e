-- Whether display bytes show at each moment what is to be shown, as a test that can be computed.
use Rattle.std.specs.Prelude.{⊤, ℕ, ◌+◌, ◌==◌, ◌&&◌, Bool, true, false, if◌then◌else◌, List, [], ◌∷◌, map, Option, None, Some, bytes_eq, length, nat_le}
use Rattle.std.specs.List.{filter}
use Rattle.line_buffer.specs.declared.layout.Position.{Position}
use Rattle.line_editor.specs.Redraws.{Redraw}
use Rattle.line_editor.specs.RenderCalls.{Marks}
use Rattle.line_editor.specs.Sights.{Sight, sight_with}
use Rattle.line_screen.specs.Chain.{above, cells_of, cursor_of, down, down_placed, from_top}
use Rattle.line_screen.specs.Display.{Display, Placed, meaning}
use Rattle.keyline.specs.Events.{SessionEvent, Begins, Breaks, Draws, Rests}
use Rattle.keyline.specs.Shows.{EachShown, Face, below, blank, face_on_new_row, face_with_drawing, picture}
use Rattle.worked_rows.specs.Playing.{Row, course_of, screen_in}
use Rattle.line_screen.specs.ScreenCalls.{widths}

abbrev pub same_position : Position → Position → Bool
same_position a b = (a.col == b.col) && (a.row == b.row)

abbrev pub same_placed : Placed → Placed → Bool
same_placed a b = (a.row == b.row)
    && ((a.col == b.col) && ((a.width == b.width)
    && (bytes_eq a.bytes b.bytes && bytes_eq a.style b.style)))

abbrev pub same_cells : List Placed → List Placed → Bool
same_cells [] [] = true
same_cells [] (b ∷ ys) = false
same_cells (a ∷ xs) [] = false
same_cells (a ∷ xs) (b ∷ ys) = same_placed a b && same_cells xs ys

-- what the bytes of a face mean
abbrev pub meaning_of : Face → Option Display
meaning_of f = meaning f.screen.columns (widths f.screen).cluster f.bytes

-- there is a meaning, with the rows above the top
abbrev pub has_above : Face → Option Display → Bool
has_above f None = false
has_above f (Some d) = same_cells (filter (above f.top) d.placed) f.over

-- what is to be shown stands from the top on, and the rows above; no style stands
abbrev pub is_shown : Face → Sight → Option Display → Bool
is_shown f y None = false
is_shown f y (Some d) = same_cells (filter (from_top f.top) d.placed) (map (down_placed f.top)
    (cells_of f.screen.columns (widths f.screen) (picture y)))
    && (same_position d.cursor
    (down f.top (cursor_of f.screen.columns (widths f.screen) (picture y)))
    && (same_cells (filter (above f.top) d.placed) f.over && (length d.pen == 0)))

-- the next line below what is shown
abbrev pub rested : Face → Option Display → Face
rested f None = f
rested f (Some d) = below f d

-- ---- of all displays that a line may begin on: the one that the lines before it left, and a blank
-- one

abbrev pub all_mean : List Face → Bool
all_mean [] = true
all_mean (f ∷ fs) = has_above f (meaning_of f) && all_mean fs

abbrev pub all_rest : List Face → Option Marks → Bool → List ℕ → List ℕ → ℕ → Bool
all_rest [] marks given prompt text place = true
all_rest (f ∷ fs) marks given prompt text place =
    is_shown f (sight_with marks given prompt text place f.seen.info) (meaning_of f)
    && all_rest fs marks given prompt text place

abbrev pub all_drawn : Option Marks → Redraw → List (List ℕ) → List Face → List Face
all_drawn marks redraw sent [] = []
all_drawn marks redraw sent (f ∷ fs) =
    face_with_drawing f marks redraw sent ∷ all_drawn marks redraw sent fs

abbrev pub all_broken : List Face → List Face
all_broken [] = []
all_broken (f ∷ fs) = face_on_new_row f ∷ all_broken fs

abbrev pub all_rested : List Face → List Face
all_rested [] = []
all_rested (f ∷ fs) = rested f (meaning_of f) ∷ all_rested fs

-- `EachShown` of each of these, event for event
abbrev pub each_shown : List Face → List SessionEvent → Bool
each_shown fs [] = true
each_shown fs (Begins s ∷ later) = each_shown (blank s ∷ fs) later
each_shown fs (Draws marks redraw sent ∷ later) =
    all_mean (all_drawn marks redraw sent fs)
    && each_shown (all_drawn marks redraw sent fs) later
each_shown fs (Rests marks given prompt text place ∷ later) =
    all_rest fs marks given prompt text place && each_shown fs later
each_shown fs (Breaks ∷ later) =
    all_mean (all_broken fs) && each_shown (all_rested (all_broken fs)) later
each_shown fs (event ∷ later) = each_shown fs later

-- and of a session, which begins with its first line
abbrev pub session_shown : List SessionEvent → Bool
session_shown (Begins s ∷ later) = each_shown (blank s ∷ []) later
session_shown events = false

abbrev pub EachFaceShown : List Face → List SessionEvent → Type 0
EachFaceShown [] events = ⊤
EachFaceShown (f ∷ fs) events = EachShown f events × EachFaceShown fs events

-- ---- of rows

abbrev pub is_row_shown : Row → Bool
is_row_shown row = session_shown (course_of row).events

-- the numbers of the rows at a moment of which something else is shown
abbrev pub unshown : List Row → List ℕ
unshown [] = []
unshown (row ∷ rows) = if is_row_shown row then unshown rows else row.number ∷ unshown rows

-- what longer rows show takes more steps than a theorem may take
abbrev pub short : List Row → List Row
short rows =
    filter (λ (row : Row). nat_le (length row.keys + length row.lines) 2000) rows

-- at each moment of a row the bytes so far show prompt and line
abbrev pub RowShown : Row → Type 0
RowShown row = EachShown (blank (screen_in row)) (course_of row).events

abbrev pub AllShown : List Row → Type 0
AllShown [] = ⊤
AllShown (row ∷ rows) = RowShown row × AllShown rows
