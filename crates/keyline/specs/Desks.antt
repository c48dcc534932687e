-- The state that is passed from line to line, with its devices, and the effect of a line on it.
use Rattle.std.specs.Prelude.{◌≡◌, ℕ, ◌<◌, Bool, List, Result, Err, IsTrue, IfErr, OnOk, string_bytes}
use Rattle.line_buffer.specs.declared.layout.Layout.{Layout}
use Rattle.script.specs.Scripts.{Goes}
use Rattle.line_config.specs.declared.errors.ReadlineError.{ReadlineError}
use Rattle.line_editor.specs.LineScripts.{line_state, line_script, line_stage, line_world}
use Rattle.line_editor.specs.Modal.{Modal}
use Rattle.line_editor.specs.LineRun.{stage_first}
use Rattle.line_editor.specs.EditSteps.{surface}
use Rattle.line_editor.specs.Values.{Value}
use Rattle.line_keys.specs.KeyFeeds.{KeyFeed}
use Rattle.line_keys.specs.PhraseScripts.{Input}
use Rattle.line_screen.specs.ScreenCalls.{NothingWaits, canvas_of, ruler_of, sink_of}
use Rattle.line_screen.specs.Reader.{items_of, source_of}
use Rattle.line_screen.specs.declared.renderer.ScreenRenderer.{ScreenRenderer}
use Rattle.keyline.specs.Events.{SessionEvent, line_course, session}
use Rattle.keyline.specs.SessionEffects.{Closes, KnownDevices, Went, Work, SessionReason, work}
use Rattle.keyline.specs.Sessions.{Given, LineGiven, SessionState, setting_in, state_at}
use Rattle.keyline.specs.Shows.{EachShown, Face, IsAtRest}
use Rattle.keyline.specs.declared.desk.Desk.{Desk}

-- events happened so on a display and a sink of lines. At each moment of those that were done the
-- display shows it, whatever it showed before the first of them
pub record GoesShown {D L : Type 0} (shown : D → List ℕ) (written_in : L → List ℕ) (adds : Bool)
    (events : List SessionEvent) (old new : Work D L) (Whole : Type 0)
    (Faulted : ReadlineError → Type 0) : Type 0 where
  pub went : Went shown written_in adds events old new Whole Faulted
  pub shows : (f : Face) → IsAtRest f → EachShown f went.done

module _ {S H D L : Type 0} (k : KnownDevices S D L) where
  abbrev pub desk_feed : Desk S H D L → KeyFeed
  desk_feed d = items_of k.feed d.reader

  abbrev pub session_state_of : Desk S H D L → SessionState
  session_state_of d = state_at d.ring (string_bytes d.last_query) d.history (desk_feed d).coming

  abbrev pub work_of : Desk S H D L → Work D L
  work_of d = work (sink_of d.out) d.lines d.history (desk_feed d).coming

  -- why no further line is read
  abbrev pub DeskReason : Given → Desk S H D L → ReadlineError → Type 0
  DeskReason g d e = SessionReason g (k.feed (source_of d.reader)).failed
      (k.show_failed (sink_of d.out)) (k.write_failed d.lines) e

  -- the result of a line before its end was drawn, added and written, and the effect of its end.
  -- The ring and the last query are those that the line left, even if its end failed
  pub record EndsLine (g : Given) (old new : Desk S H D L) (result : Result (List ℕ) ReadlineError)
      : Type 0 where
    pub drawn : ScreenRenderer D
    pub layout : Layout
    pub outcome : Result (List ℕ) ReadlineError
    pub value : Value
    pub input : Input
    pub modal : Modal
    pub goes : IsTrue (desk_feed new).told → (n : ℕ) → (desk_feed old).bound < n →
        let ruler = ruler_of g.screen in let setting = setting_in g old.history.kept.entries in
        Goes (line_world (canvas_of k.shown k.waits k.show_failed) ruler setting)
        (line_script n g.custom)
        (stage_first old.out ruler setting old.ring (string_bytes old.last_query)
        (desk_feed old).coming) outcome (line_stage (surface drawn layout)
        (line_state value input new.ring modal (desk_feed new).coming))
    pub last : string_bytes new.last_query ≡ modal.query
    pub closes : Closes k.shown k.show_failed k.written_in k.write_failed
        g.config.auto_add_history outcome (work (sink_of drawn) old.lines old.history)
        (work (sink_of new.out) new.lines new.history) result

  -- a display and a sink of lines that work have passed on everything, if they had before
  pub record PassesOn (old new : Desk S H D L) : Type 0 where
    pub display : IsTrue (desk_feed new).told → NothingWaits k.waits k.show_failed (sink_of old.out)
        → NothingWaits k.waits k.show_failed (sink_of new.out)
    pub lines : NothingWaits k.write_waits k.write_failed old.lines
        → NothingWaits k.write_waits k.write_failed new.lines

  -- the relation of a line: it leads to its outcome and the state after it, or to a fault
  pub record TakesLine (g g' : Given) (old new : Desk S H D L)
      (result : Result (List ℕ) ReadlineError) : Type 0 where
    pub goes : IsTrue (desk_feed new).told → (n : ℕ) → (desk_feed old).bound < n
        → let line = line_course n g (session_state_of old) in
        GoesShown k.shown k.written_in g.config.auto_add_history line.events (work_of old)
        (work_of new) ((result, session_state_of new) ≡ line.answer) (λ e. result ≡ Err e)
    pub given : IsTrue (desk_feed new).told → g' ≡ g
    pub custom : g'.custom ≡ g.custom
    pub told : IsTrue (desk_feed new).told → IsTrue (desk_feed old).told
    pub falls : OnOk result ((desk_feed new).bound < (desk_feed old).bound)
    pub passes : PassesOn old new
    pub ends : EndsLine g old new result
    pub reason : IfErr result (DeskReason g new)

  -- the relation of lines until one fails, with what is passed in for each
  pub record TakesLines (g : Given) (at : ℕ → LineGiven) (old new : Desk S H D L)
      (why : ReadlineError) : Type 0 where
    pub goes : IsTrue (desk_feed new).told → (n : ℕ) → (desk_feed old).bound < n
        → let lines = session n g at (session_state_of old) in
        GoesShown k.shown k.written_in g.config.auto_add_history lines.events (work_of old)
        (work_of new) (why ≡ lines.answer) (λ e. why ≡ e)
    pub passes : PassesOn old new
    pub reason : DeskReason g new why
