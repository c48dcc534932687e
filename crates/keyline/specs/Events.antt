-- A session as its events in order, depending on the input, and its result. Lines, history, bytes,
-- moments, ending and remaining input are computed from it.
use Rattle.std.specs.Prelude.{◌≡◌, ⊤, ℕ, zero, suc, ◌≤◌, Bool, if◌then◌else◌, IsFalse, List, [], ◌∷◌, ◌++◌, length, map, Option, None, Result, Ok, Err}
use Rattle.std.specs.List.{concat, flat_map}
use Rattle.line_buffer.specs.declared.layout.Layout.{Layout}
use Rattle.script.specs.Played.{Played}
use Rattle.line_config.specs.declared.errors.ReadlineError.{ReadlineError}
use Rattle.line_config.specs.declared.errors.ReadlineError.TheVariants.{Memory}
use Rattle.line_editor.specs.RenderCalls.{Marks}
use Rattle.line_editor.specs.LineScripts.{LineState, LineAsk, Begins as TurnBegins, Keys, effect_at, left_at, played_from, line_script}
use Rattle.line_editor.specs.ModalCommands.{modal_seen}
use Rattle.line_editor.specs.Redraws.{Redraw, calls_of_redraw, fresh}
use Rattle.line_editor.specs.LineRun.{first_line_state, breaks_after}
use Rattle.line_editor.specs.EditSteps.{calls_of_steps, one}
use Rattle.line_editor.specs.Values.{EditStep, Setting, shown_marks}
use Rattle.line_editor.specs.Values.EditStep.{Draws as DrawStep, Helped as HelpStep}
use Rattle.line_keys.specs.KeyFeeds.{InputItem, behind, Coming}
use Rattle.line_keys.specs.PhraseScripts.{Reads}
use Rattle.line_screen.specs.ScreenCalls.{Screen, bytes_of, ruler_of}
use Rattle.line_screen.specs.Drawing.{row_break}
use Rattle.keyline.specs.Sessions.{Given, LineGiven, SessionState, for_line, history_after, setting_in, state_at}

pub data SessionEvent : Type 0 where
  -- a line begins, on this screen; nothing is made
  Begins : (screen : Screen) → SessionEvent
  -- memory is taken
  Takes : SessionEvent
  -- the helper is called, and answers or fails; it may take memory
  Helped : (fails takes : Bool) → SessionEvent
  -- this is to be shown, highlighted by these marks, if there are any; for it the display is sent
  -- these bytes, call by call, or none if it is shown already
  Draws : (marks : Option Marks) (redraw : Redraw) (sent : List (List ℕ)) → SessionEvent
  -- a key or a paste is read
  Hears : (item : InputItem) → SessionEvent
  -- a moment: the line is open, with this text and this place after this prompt, a search's own
  -- while one stands, and highlighted by these marks, if there are any; `given`: the prompt is the
  -- session's own. Nothing is made
  Rests : (marks : Option Marks) (given : Bool) (prompt text : List ℕ) (place : ℕ) → SessionEvent
  -- the display gets a new row, as a line ends
  Breaks : SessionEvent
  -- a line is added to the history, if the settings say so
  Keeps : (line : List ℕ) → SessionEvent
  -- a line is written
  Writes : (line : List ℕ) → SessionEvent

-- events in order, and their result if each is done
pub record Course (X : Type 0) : Type 0 where
  pub events : List SessionEvent
  pub answer : X

-- ---- a line

-- an edit's step, on a screen with this stored layout
abbrev pub step_event : Screen → Layout → EditStep → SessionEvent
step_event s l (DrawStep value marks redraw) = let shown = shown_marks value marks in
    Draws shown redraw (map (bytes_of s) (calls_of_redraw (ruler_of s) shown l redraw).calls)
step_event s l (HelpStep value fails takes) = Helped fails takes
step_event s l step = Takes

abbrev pub step_events : Screen → Layout → List EditStep → List SessionEvent
step_events s l [] = []
step_events s l (step ∷ steps) =
    step_event s l step ∷ step_events s (one (ruler_of s) l step).layout steps

-- a read, and the moment at which a turn begins, are events of their own
abbrev pub own_events : Setting → LineState → LineAsk → List SessionEvent
own_events a k TurnBegins = let x = modal_seen k.modal a k.value None in
    Rests (shown_marks k.value a.marks) x.given x.prompt x.line x.place ∷ []
own_events a k (Keys (Reads item)) = Hears item ∷ []
own_events a k ask = []

-- a line's requests in order
abbrev pub asks_events : Screen → Setting → Layout → LineState → List LineAsk → List SessionEvent
asks_events s a l k [] = []
asks_events s a l k (ask ∷ asks) = let steps = (effect_at a k ask).steps in
    step_events s l steps ++ (own_events a k ask
    ++ asks_events s a (calls_of_steps (ruler_of s) l steps).layout (left_at a k ask) asks)

-- its end: an accepted line is added to the history, and then written
abbrev pub end_events : Result (List ℕ) ReadlineError → List SessionEvent
end_events (Ok text) = Breaks ∷ (Keeps text ∷ (Writes text ∷ []))
end_events (Err e) = if breaks_after e then Breaks ∷ [] else []

-- a line's state before its first request
abbrev pub first_in : Given → SessionState → LineState
first_in g x = first_line_state (setting_in g x.history.kept.entries) x.ring x.query x.coming

-- its script, without faults, and the events of its requests. More fuel than the source has keys
-- and pastes is enough
abbrev pub line_play_in : ℕ → Given → SessionState → Played LineAsk LineState ReadlineError (List ℕ)
line_play_in n g x =
    played_from (setting_in g x.history.kept.entries) (line_script n g.custom) (first_in g x)

abbrev pub events_of : Given → SessionState → List LineAsk → List SessionEvent
events_of g x asks = asks_events g.screen (setting_in g x.history.kept.entries)
    (fresh g.screen.mode) (first_in g x) asks

-- up to its outcome and the state after it
abbrev pub line_course : ℕ → Given → SessionState
    → Course (Result (List ℕ) ReadlineError × SessionState)
line_course n g x = let p = line_play_in n g x in
    let history = history_after g.config.auto_add_history p.answer x.history in record {
      events = Begins g.screen ∷ (events_of g x p.asks ++ end_events p.answer);
      answer = (p.answer, state_at p.rest.ring p.rest.modal.query history p.rest.coming);
    }

-- ---- a session: line after line, up to what ends it, with what is passed in for each line by its
-- number

-- what follows an accepted line, and what follows an error
abbrev pub course_after_line : (SessionState → Course ReadlineError)
    → Result (List ℕ) ReadlineError × SessionState → Course ReadlineError
course_after_line next (Ok text, x) = next x
course_after_line next (Err e, x) = record { events = []; answer = e }

abbrev pub events_first : {X : Type 0} → List SessionEvent → Course X → Course X
events_first events c = record { events = events ++ c.events; answer = c.answer }

unfoldable pub session : ℕ → Given → (ℕ → LineGiven) → SessionState → Course ReadlineError
session zero g at x = record { events = []; answer = Memory }
session (suc n) g at x = let line = line_course (suc n) (for_line g (at 0)) x in
    events_first line.events (course_after_line (session n g (λ line. at (suc line))) line.answer)

-- ---- what is computed from events

abbrev pub bytes_drawn : SessionEvent → List ℕ
bytes_drawn (Draws marks redraw sent) = concat sent
bytes_drawn Breaks = row_break
bytes_drawn event = []

abbrev pub lines_kept : SessionEvent → List (List ℕ)
lines_kept (Keeps line) = line ∷ []
lines_kept event = []

abbrev pub lines_written : SessionEvent → List (List ℕ)
lines_written (Writes line) = line ∷ []
lines_written event = []

-- what remains of the input after some events
abbrev pub coming_after_events : Coming → List SessionEvent → Coming
coming_after_events coming [] = coming
coming_after_events coming (Hears item ∷ events) = coming_after_events (behind item coming) events
coming_after_events coming (event ∷ events) = coming_after_events coming events

-- the helper answered whenever it was called
abbrev pub AllAnswered : List SessionEvent → Type 0
AllAnswered [] = ⊤
AllAnswered (Helped fails takes ∷ events) = IsFalse fails × AllAnswered events
AllAnswered (event ∷ events) = AllAnswered events

-- each line is written right after it was added to the history: the lines written by any first
-- events of a session, and perhaps the next one, were added to it, and are the first of its lines
abbrev pub LinesInOrder : Type 0
LinesInOrder = (n : ℕ) (g : Given) (at : ℕ → LineGiven) (x : SessionState)
    (done next : List SessionEvent) → let events = (session n g at x).events in
    (flat_map lines_written events ≡ flat_map lines_kept events)
    × (events ≡ done ++ next → (in_hand : List (List ℕ)) × (others : List (List ℕ))
    × (length in_hand ≤ 1) × (flat_map lines_kept done ≡ flat_map lines_written done ++ in_hand)
    × (flat_map lines_kept events ≡ flat_map lines_kept done ++ others))
