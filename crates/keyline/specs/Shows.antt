-- What a display shows during events: the line to be shown at its top, and the rows above. When a
-- typed character sends only its one byte.
use Rattle.std.specs.Prelude.{◌≡◌, ⊤, ℕ, ◌+◌, ◌≤◌, if◌then◌else◌, Bool, List, [], ◌∷◌, ◌++◌, Some, is_some, Option, Ok, true}
use Rattle.std.specs.List.{concat, filter, flat_map}
use Rattle.line_buffer.specs.Cells.{origin}
use Rattle.line_buffer.specs.Insertions.{insert as insertion}
use Rattle.line_buffer.specs.declared.layout.Layout.{Layout}
use Rattle.line_buffer.specs.declared.layout.Position.{Position}
use Rattle.line_editor.specs.RenderCalls.{Marks}
use Rattle.line_editor.specs.ModalCommands.{modal_seen}
use Rattle.line_editor.specs.Modal.{is_at_rest}
use Rattle.line_editor.specs.Inserting.{is_bare, may_be_typed, insert_char}
use Rattle.line_editor.specs.Redraws.{RedrawCalls, Redraw, info_text, nothing_asked, may_write_over}
use Rattle.line_editor.specs.Redraws.Redraw.{Cleared}
use Rattle.line_editor.specs.Sights.{Sight, sight, sight_with, sight_drawn, no_sight, sight_of, ended_sight, info_after, sight_all, FitsAll}
use Rattle.line_editor.specs.EditSteps.{calls_of_steps}
use Rattle.line_editor.specs.Values.{EditStep, Value, Setting, shown_marks}
use Rattle.line_editor.specs.Values.EditStep.{Draws as DrawStep}
use Rattle.line_screen.specs.ScreenCalls.{Screen, bytes_of, ruler_of, styles_of, widths}
use Rattle.line_screen.specs.Chain.{View, Good, Picture, Shows, empty_view, finish_of, cursor_of, above}
use Rattle.line_screen.specs.Display.{Display, Placed, meaning}
use Rattle.line_screen.specs.Drawing.{row_break}
use Rattle.line_screen.specs.Measure.{measure_of}
use Rattle.keyline.specs.Events.{SessionEvent, Begins, Draws, Rests, Breaks}
use Rattle.line_editor.specs.Commands.{Means, effect}
use Rattle.line_editor.specs.LineScripts.{LineState, made_from, played_from, turn_script, LineScript, turn_start, phrase_script}
use Rattle.line_editor.specs.declared.commands.Status.{Status}
use Rattle.line_keys.specs.CustomBindings.{Custom}
use Rattle.line_keys.specs.declared.command.Cmd.{Cmd}
use Rattle.line_keys.specs.declared.command.Cmd.TheVariants.{Interrupt, SelfInsert}

-- ---- what is to be shown, as one drawing on a blank display

abbrev pub picture : Sight → Picture
picture x = record {
  prompt = x.prompt;
  line = x.line;
  place = x.place;
  info = info_text x.info;
  styles = styles_of x.spans;
}

-- the cursor's cell, counted from the top: its place in the line, or the drawing's end
abbrev pub place_in : Screen → Sight → Position
place_in s x = if x.ended then finish_of s.columns (widths s) (picture x)
    else cursor_of s.columns (widths s) (picture x)

abbrev pub view_in : Screen → ℕ → Sight → View
view_in s top x = record { shown = picture x; top = top; place = place_in s x }

-- the stored layout says whether information is shown, and whether the session's own prompt is
pub record TellsSight (l : Layout) (x : Sight) : Type 0 where
  pub info_is : l.has_info ≡ is_some x.info
  pub given_is : l.default_prompt ≡ x.given

-- the bytes so far show what is to be shown. The stored layout says where its cursor and end are
pub record DisplayHolds (s : Screen) (bytes : List ℕ) (over : List Placed) (top : ℕ) (l : Layout)
    (x : Sight) : Type 0 where
  pub good : Good s.columns (widths s) bytes over (view_in s top x)
  pub cursor : l.cursor ≡ place_in s x
  pub finish : l.end ≡ finish_of s.columns (widths s) (picture x)
  pub prompt_size : l.prompt_size ≡ measure_of s.mode s.tab s.columns x.prompt origin
  pub tells : TellsSight l x

-- ---- the premise: rows are counted to 65,535

pub record Low (s : Screen) (x : Sight) : Type 0 where
  pub finish : (finish_of s.columns (widths s) (picture x)).row ≤ 65535
  pub cursor : (cursor_of s.columns (widths s) (picture x)).row ≤ 65535

abbrev pub LowStep : Screen → Sight → EditStep → Type 0
LowStep s x (DrawStep value marks redraw) = Low s (sight_drawn x (shown_marks value marks) redraw)
LowStep s x step = ⊤

abbrev pub LowAll : Screen → Sight → List EditStep → Type 0
LowAll s x [] = ⊤
LowAll s x (r ∷ rs) = LowStep s x r × LowAll s (sight x r) rs

-- ---- a line's top, which is the row of its prompt's first cell, and the rows above it

-- what stays until the screen is cleared, or this value instead: of a top 0, of the rows above []
abbrev pub kept_drawn : {A : Type 0} → Redraw → A → A → A
kept_drawn Cleared kept cleared = cleared
kept_drawn redraw kept cleared = kept

abbrev pub kept_by : {A : Type 0} → EditStep → A → A → A
kept_by (DrawStep value marks redraw) kept cleared = kept_drawn redraw kept cleared
kept_by step kept cleared = kept

abbrev pub kept_after : {A : Type 0} → List EditStep → A → A → A
kept_after [] kept cleared = kept
kept_after (r ∷ rs) kept cleared = kept_after rs (kept_by r kept cleared) cleared

-- what is sent for these steps
abbrev pub bytes_for : Screen → Layout → List EditStep → List ℕ
bytes_for s l steps = flat_map (bytes_of s) (calls_of_steps (ruler_of s) l steps).calls

-- ---- the meaning of these bytes

-- what is known of a display: its screen, the bytes that were sent, the row of the first cell of
-- what is shown, the rows above, and what is shown
pub record Face : Type 0 where
  pub screen : Screen
  pub bytes : List ℕ
  pub top : ℕ
  pub over : List Placed
  pub seen : Sight

abbrev pub face : Screen → List ℕ → ℕ → List Placed → Sight → Face
face s bytes top over seen =
    record { screen = s; bytes = bytes; top = top; over = over; seen = seen }

abbrev pub blank : Screen → Face
blank s = face s [] 0 [] no_sight

-- a redraw for which these bytes were sent
abbrev pub face_with_drawing : Face → Option Marks → Redraw → List (List ℕ) → Face
face_with_drawing f marks redraw sent =
    face f.screen (f.bytes ++ concat sent) (kept_drawn redraw f.top 0) (kept_drawn redraw f.over [])
    (sight_drawn f.seen marks redraw)

-- a new row, and the next line below everything
abbrev pub face_on_new_row : Face → Face
face_on_new_row f = record f { bytes = f.bytes ++ row_break }

abbrev pub below : Face → Display → Face
below f d = let last = finish_of f.screen.columns (widths f.screen) (picture f.seen) in
    face f.screen f.bytes (f.top + last.row + 1) d.placed no_sight

-- columns that a display's rows may have
pub record IsScreen (s : Screen) : Type 0 where
  pub least : 2 ≤ s.columns
  pub most : s.columns ≤ 1000

-- between two lines: from the top on the display is blank, and the cursor is in the first cell
pub record IsAtRest (f : Face) : Type 0 where
  pub screen : IsScreen f.screen
  pub good : Good f.screen.columns (widths f.screen) f.bytes f.over (empty_view f.top)
  pub nothing : f.seen ≡ no_sight

-- the bytes so far have a meaning, with these rows above the top
pub record HasMeaning (f : Face) : Type 0 where
  pub display : Display
  pub means : meaning f.screen.columns (widths f.screen).cluster f.bytes ≡ Some display
  pub over_is : filter (above f.top) display.placed ≡ f.over

-- and from the top on they show prompt and line like a single drawing on a blank display, with the
-- current information, each cluster with the style that these marks give it, and the cursor at its
-- place
pub record MomentShown (f : Face) (marks : Option Marks) (given : Bool) (prompt text : List ℕ)
    (place : ℕ) : Type 0 where
  pub means : HasMeaning f
  pub shows : Shows f.screen.columns (widths f.screen)
      (picture (sight_with marks given prompt text place f.seen.info)) f.top means.display

-- event after event: at each moment the bytes so far show prompt and line, and after each drawing
-- they have a meaning. This holds as long as everything shown is within the rows that can be
-- counted. Everything that an ended line left stays above the next one. A line on the same screen
-- as the one before it continues below it; and each line can be shown from a blank display
abbrev pub EachShown : Face → List SessionEvent → Type 0
EachShown f [] = ⊤
EachShown f (Begins s ∷ later) =
    (s ≡ f.screen → EachShown f later) × (IsScreen s → EachShown (blank s) later)
EachShown f (Draws marks redraw sent ∷ later) =
    let g = face_with_drawing f marks redraw sent in Low g.screen g.seen → HasMeaning g
    × EachShown g later
EachShown f (Rests marks given prompt text place ∷ later) =
    MomentShown f marks given prompt text place × EachShown f later
EachShown f (Breaks ∷ later) =
    let g = face_on_new_row f in (m : HasMeaning g) × EachShown (below g m.display) later
EachShown f (event ∷ later) = EachShown f later

-- from any bytes after which the display shows the one, the bytes of these steps lead to the other;
-- the rows above stay until the screen is cleared
abbrev pub Lead : Screen → Sight → List EditStep → Sight → Type 0
Lead s x steps y = (bytes : List ℕ) (over : List Placed) (top : ℕ) (l : Layout)
    → DisplayHolds s bytes over top l x → LowAll s x steps
    → DisplayHolds s (bytes ++ bytes_for s l steps) (kept_after steps over [])
    (kept_after steps top 0) (calls_of_steps (ruler_of s) l steps).layout y

-- an interruption leaves the cursor at the drawing's end
abbrev pub sight_behind : Cmd → Sight → Sight
sight_behind Interrupt x = ended_sight x
sight_behind cmd x = x

-- a command, with any information
abbrev pub CommandsShow : Type 0
CommandsShow = (s : Screen) → IsScreen s
    → (m : Means) (cmd : Cmd) (a : Setting) (v : Value) (info : Option (List ℕ))
    → let e = effect m cmd a v in Lead s (sight_of a v info) e.steps
    (sight_behind cmd (sight_of a e.value (info_after e.steps info)))

-- a phrase and its command, whatever the input is; while a search stands, its prompt is shown
abbrev pub TurnsShow : Type 0
TurnsShow = (s : Screen) → IsScreen s
    → (n : ℕ) (a : Setting) (custom : Custom) (k : LineState) (info : Option (List ℕ))
    (status : Status) → let turn = turn_script n custom in let made = made_from a turn k in
    let p = played_from a turn k in p.answer ≡ Ok status
    → Lead s (modal_seen k.modal a k.value info) made.steps
    (modal_seen p.rest.modal a made.value (info_after made.steps info))

-- ---- one byte for a typed character

-- the stored layout tells what is shown after any steps, if it did before
abbrev pub LayoutsTell : Type 0
LayoutsTell = (s : Screen) (own : List ℕ) (steps : List EditStep) (l : Layout) (x : Sight)
    → TellsSight l x → FitsAll own x steps
    → TellsSight (calls_of_steps (ruler_of s) l steps).layout (sight_all x steps)

-- a character that its byte alone may show, if the text has space, in a line bare after it too
pub record TypedAtEnd (a : Setting) (v : Value) (c : ℕ) : Type 0 where
  pub alone : may_be_typed (is_some a.tabs) c 1 v ≡ true
  pub room : is_some (insertion c 1 v.line).answer ≡ true
  pub after : is_bare (insert_char c 1 a v).value ≡ true

-- the tables read it alone, without a count or a drawing
pub record ReadAlone (a : Setting) (k : LineState) (phrase : LineScript Cmd) (c : ℕ) : Type 0 where
  pub answer : (played_from a phrase k).answer ≡ Ok (SelfInsert 1 c)
  pub value_is : (made_from a phrase k).value ≡ k.value
  pub unasked : (s : Screen) (l : Layout)
      → calls_of_steps (ruler_of s) l (made_from a phrase k).steps ≡ nothing_asked l

-- if no search stands, and the layout allows its byte to be written alone, its turn sends that byte
abbrev pub OneByte : Type 0
OneByte = (n : ℕ) (s : Screen) (l : Layout) (a : Setting) (custom : Custom) (k : LineState) (c : ℕ)
    → is_at_rest k.modal.standing ≡ true
    → ReadAlone a k (phrase_script n custom (turn_start k)) c → TypedAtEnd a k.value c
    → may_write_over (ruler_of s) l l.cursor 1 ≡ true
    → bytes_for s l (made_from a (turn_script n custom) k).steps ≡ c ∷ []
