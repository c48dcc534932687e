-- What is known of a session's devices, and its effect on them and on its history: all of its
-- events, or the first of them. Its endings.
use Rattle.std.specs.Prelude.{◌≡◌, ◌⊎◌, ⊤, ℕ, Bool, true, false, ◌&&◌, if◌then◌else◌, List, [], ◌∷◌, ◌++◌, Option, Some, None, Result, Ok, Err, IsTrue, IfErr, IsOkAnd}
use Rattle.std.specs.List.{concat, flat_map}
use Rattle.line_config.specs.Feed.{Feed}
use Rattle.line_config.specs.declared.errors.ReadlineError.{ReadlineError}
use Rattle.line_config.specs.declared.errors.ReadlineError.TheVariants.{Eof, Interrupted, NotUtf8, PasteOutOfPlace, Reader, Display, Lines, HistoryText, Helper, Handler, Memory}
use Rattle.line_config.specs.Sending.{TakesBytes, TakesSome}
use Rattle.line_editor.specs.LineRun.{breaks_after}
use Rattle.line_help.specs.History.{Filed, takes}
use Rattle.line_help.specs.HistoryText.{SavesNew, text_to_save}
use Rattle.line_keys.specs.CustomBindings.{HandlerFails}
use Rattle.line_keys.specs.KeyFeeds.{Paste, Coming, coming_after_error}
use Rattle.line_screen.specs.Drawing.{break_if, row_break}
use Rattle.keyline.specs.Events.{SessionEvent, Takes, Helped, Draws, Hears, Breaks, Keeps, Writes, AllAnswered, bytes_drawn, end_events, coming_after_events, lines_kept, lines_written}
use Rattle.keyline.specs.declared.ending.Ending.{Ending}
use Rattle.keyline.specs.declared.ending.Ending.TheVariants as how
use Rattle.keyline.specs.Sessions.{Given, history_after, history_with_if, line_text, lines_text}

-- what is known of a source, a display and a sink of lines
pub record KnownDevices (S D L : Type 0) : Type 0 where
  pub feed : S → Feed
  pub shown : D → List ℕ
  pub waits : D → List ℕ
  pub show_failed : D → Bool
  pub written_in : L → List ℕ
  pub write_waits : L → List ℕ
  pub write_failed : L → Bool

abbrev pub devices_by : {S D L : Type 0} → (S → Feed) → (D → List ℕ) → (D → List ℕ) → (D → Bool)
    → (L → List ℕ) → (L → List ℕ) → (L → Bool) → KnownDevices S D L
devices_by feed shown waits show_failed written_in write_waits write_failed = record {
  feed = feed;
  shown = shown;
  waits = waits;
  show_failed = show_failed;
  written_in = written_in;
  write_waits = write_waits;
  write_failed = write_failed;
}

-- why no more lines are read: what was given, or a device that has failed. If a helper fails, the
-- events say so
abbrev pub SessionReason : Given → Bool → Bool → Bool → ReadlineError → Type 0
SessionReason g source display lines Reader = IsTrue source
SessionReason g source display lines Display = IsTrue display
SessionReason g source display lines Lines = IsTrue lines
SessionReason g source display lines HistoryText = ⊥
SessionReason g source display lines Handler = HandlerFails g.custom
SessionReason g source display lines why = ⊤

-- the display, the sink of lines and the history of the lines, and what remains of the input
pub record Work (D L : Type 0) : Type 0 where
  pub display : D
  pub lines : L
  pub history : Filed
  pub coming : Coming

abbrev pub work : {D L : Type 0} → D → L → Filed → Coming → Work D L
work display lines history coming =
    record { display = display; lines = lines; history = history; coming = coming }

module _ {D L : Type 0} (shown : D → List ℕ) (written_in : L → List ℕ) (adds : Bool) where
  -- all of these were done
  pub record AreDone (events : List SessionEvent) (old new : Work D L) : Type 0 where
    pub drawn : TakesBytes shown old.display new.display (flat_map bytes_drawn events)
    pub wrote : TakesBytes written_in old.lines new.lines
        (lines_text (flat_map lines_written events))
    pub history_is : new.history ≡ history_with_if adds (flat_map lines_kept events) old.history
    pub left_is : new.coming ≡ coming_after_events old.coming events
    pub answered : AllAnswered events

  -- a fault stopped an event. The display and the sink of lines have taken a prefix of its bytes;
  -- the helper fails. Memory runs out only for an event that takes it, which may be a step, a call
  -- of the helper, a paste, or a line to be added to the history. After a paste every read may
  -- fail. No other fault stops
  abbrev pub CutSessionEvent : Work D L → SessionEvent → ReadlineError → Work D L → Type 0
  CutSessionEvent x Takes Memory y = y ≡ x
  CutSessionEvent x (Helped fails takes) Helper y = IsTrue fails × (y ≡ x)
  CutSessionEvent x (Helped fails takes) Memory y = IsTrue takes × (y ≡ x)
  CutSessionEvent x (Draws marks redraw (bytes ∷ more)) Display y =
      TakesSome shown x.display y.display (concat (bytes ∷ more))
      × (y ≡ record x { display = y.display })
  CutSessionEvent x (Hears Paste) Memory y =
      (left : List ℕ) × (y ≡ record x { coming = coming_after_error Memory left })
  CutSessionEvent x Breaks Display y =
      TakesSome shown x.display y.display row_break × (y ≡ record x { display = y.display })
  CutSessionEvent x (Keeps line) Memory y = IsTrue (adds && takes x.history line) × (y ≡ x)
  CutSessionEvent x (Writes line) Lines y =
      TakesSome written_in x.lines y.lines (line_text line) × (y ≡ record x { lines = y.lines })
  CutSessionEvent x event why y = ⊥

  -- all were done, or a fault stopped the first of the others after those before it were done
  abbrev pub WholeOrCut : List SessionEvent → Work D L → Work D L → Type 0
      → (ReadlineError → Type 0) → Type 0
  WholeOrCut [] at new Whole Faulted = Whole × (new ≡ at)
  WholeOrCut (event ∷ others) at new Whole Faulted =
      (why : ReadlineError) × CutSessionEvent at event why new × Faulted why

  -- the relation of the state: these events were done, all or the first of them
  pub record Went (events : List SessionEvent) (old new : Work D L) (Whole : Type 0)
      (Faulted : ReadlineError → Type 0) : Type 0 where
    pub done : List SessionEvent
    pub others : List SessionEvent
    pub split : events ≡ done ++ others
    pub at : Work D L
    pub are_done : AreDone done old at
    pub stands : WholeOrCut others at new Whole Faulted

-- ---- the end of a line

-- memory may run out at the end of an accepted line that is to be added to the history
abbrev pub WantsMemory : Bool → Filed → Result (List ℕ) ReadlineError → ReadlineError → Type 0
WantsMemory adds history outcome e =
    (e ≡ Memory) × IsOkAnd outcome (λ text. IsTrue (adds && takes history text))

-- the display gets a new row after an accepted line, and after the endings that ask for one
abbrev pub breaks : Result (List ℕ) ReadlineError → Bool
breaks (Ok text) = true
breaks (Err e) = breaks_after e

module _ {D : Type 0} (shown : D → List ℕ) (show_failed : D → Bool) where
  -- a new row is drawn, if one is asked for
  pub record RowIsDrawn (asked : Bool) (old new : D) : Type 0 where
    pub drawn : TakesBytes shown old new (break_if asked)
    pub works : show_failed new ≡ show_failed old
    pub stays : asked ≡ false → new ≡ old

  -- the display failed at the new row
  abbrev pub RowIsCut : Bool → D → D → Type 0
  RowIsCut asked old new =
      IsTrue asked × TakesSome shown old new row_break × IsTrue (show_failed new)

  module _ (adds : Bool) (outcome : Result (List ℕ) ReadlineError) (old new : D)
      (history history' : Filed) where
    -- the end of a line is drawn, and an accepted line is in the history; or the display failed; or
    -- the row was drawn, and memory ran out for the history
    abbrev pub DrawsEnd : {A : Type 0} → Result A ReadlineError → Type 0
    DrawsEnd (Ok done) = RowIsDrawn (breaks outcome) old new
        × (history' ≡ history_after adds outcome history)
    DrawsEnd (Err Display) = RowIsCut (breaks outcome) old new × (history' ≡ history)
    DrawsEnd (Err Memory) = RowIsDrawn (breaks outcome) old new
        × WantsMemory adds history outcome Memory × (history' ≡ history)
    DrawsEnd (Err why) = ⊥

-- an accepted line is drawn to its end, added to the history and written. After the endings that
-- ask for one a new row is drawn, and after the others nothing is done. No input is read
pub record Closes {D L : Type 0} (shown : D → List ℕ) (show_failed : D → Bool)
    (written_in : L → List ℕ) (write_failed : L → Bool) (adds : Bool)
    (outcome : Result (List ℕ) ReadlineError) (old new : Coming → Work D L)
    (result : Result (List ℕ) ReadlineError) : Type 0 where
  pub goes : (coming : Coming) → Went shown written_in adds (end_events outcome) (old coming)
      (new coming) (result ≡ outcome) (λ why. result ≡ Err why)
  pub stays : IfErr outcome (λ e. breaks_after e ≡ false → (new ≡ old) × (result ≡ Err e))
  -- it fails as the line did, because a device has failed, or because memory ran out
  pub reason : (coming : Coming) → let x = old coming in let y = new coming in IfErr result (λ e.
      ((outcome ≡ Err e) × (show_failed y.display ≡ show_failed x.display))
      ⊎ (((e ≡ Display) × IsTrue (show_failed y.display))
      ⊎ (((e ≡ Lines) × IsTrue (write_failed y.lines)) ⊎ WantsMemory adds x.history outcome e)))
  -- a device that fails here is the fault
  pub display_is : (coming : Coming) → (result ≡ Err Display)
      ⊎ (show_failed (new coming).display ≡ show_failed (old coming).display)
  pub lines_are : (coming : Coming) → (result ≡ Err Lines)
      ⊎ (write_failed (new coming).lines ≡ write_failed (old coming).lines)

-- ---- the end of a session

-- the history is saved if its text is asked for; otherwise the sink isn't called, and new entries
-- stay new
abbrev pub SavesIf : {T : Type 0} → (T → List ℕ) → (T → Bool) → Bool → Filed → Filed → T → T
    → Bool → Type 0
SavesIf held failed true kept history' text text' saved =
    SavesNew held failed (text_to_save kept) kept history' text text'
    (if saved then Ok tt else Err HistoryText)
SavesIf held failed false kept history' text text' saved =
    (saved ≡ true) × (history' ≡ kept) × (text' ≡ text)

-- the status of a program that ends with its session
abbrev pub status_of : Ending → ℕ
status_of how.Eof = 0
status_of how.Interrupted = 130
status_of how.NotUtf8 = 3
status_of how.PasteOutOfPlace = 4
status_of ending = 1

-- the error that has this ending: each error has one, and no two have the same
abbrev pub error_of : Ending → ReadlineError
error_of how.Eof = Eof
error_of how.Interrupted = Interrupted
error_of how.NotUtf8 = NotUtf8
error_of how.PasteOutOfPlace = PasteOutOfPlace
error_of how.Reader = Reader
error_of how.Display = Display
error_of how.Lines = Lines
error_of how.HistoryText = HistoryText
error_of how.Helper = Helper
error_of how.Handler = Handler
error_of how.Memory = Memory

-- why there is no further line after this answer; after an interruption there is one
abbrev pub reason_to_end : Result (List ℕ) ReadlineError → Option ReadlineError
reason_to_end (Err Interrupted) = None
reason_to_end (Err why) = Some why
reason_to_end (Ok text) = None

-- a fault comes before that of the history's text
abbrev pub ending_after : ReadlineError → Bool → ReadlineError
ending_after Eof false = HistoryText
ending_after Interrupted false = HistoryText
ending_after NotUtf8 false = HistoryText
ending_after PasteOutOfPlace false = HistoryText
ending_after why saved = why
