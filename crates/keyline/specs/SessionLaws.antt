-- Laws of sessions: what depends on their columns, the content of their history, what fewer keys
-- send, where an input may be cut, how much fuel is enough, and that with the setting
-- `modal_commands` off nothing becomes of a command before it is done.
use Rattle.std.specs.Prelude.{◌≡◌, ℕ, suc, map, true, false, if◌then◌else◌, List, [], ◌∷◌, ◌++◌, None, IsTrue}
use Rattle.std.specs.List.{flat_map}
use Rattle.line_buffer.specs.Cells.{origin}
use Rattle.script.specs.Scripts.{Ends as ScriptEnds, Asks}
use Rattle.line_editor.specs.LineScripts.{Meets, LineScript, line_script, played_from, steps_along}
use Rattle.line_editor.specs.Values.{EditStep}
use Rattle.line_help.specs.History.{Settings, Filed, nothing_filed, ignores_line, history_with_line, newest}
use Rattle.line_screen.specs.Measure.{measure_of}
use Rattle.keyline.specs.Events.{SessionEvent, Begins, Draws, events_of, first_in, lines_kept, line_play_in, session}
use Rattle.keyline.specs.Sessions.{Given, LineGiven, SessionState, each, history_with_if, setting_in, state_at, coming_from}
use Rattle.line_config.specs.declared.device.Last.{Last}
use Rattle.line_config.specs.declared.device.Last.TheVariants.{Failed, End}
use Rattle.line_config.specs.declared.settings.EditMode.{EditMode}
use Rattle.line_record.specs.Ring.{Ring}
use Rattle.line_keys.specs.KeyFeeds.{Coming, Pressed, Pasted, CutOff, Ends, Refused, bytes_to_come}
use Rattle.line_screen.specs.KeyGrammar.{are_whole, EndWithoutEsc, readings}
use Rattle.line_screen.specs.Input.{chars_of}

-- the same on rows of this many columns
abbrev pub at_columns : ℕ → Given → Given
at_columns columns g = record g { screen = record g.screen { columns = columns } }

-- the column in which the prompt ends
abbrev pub prompt_column : Given → ℕ
prompt_column g = (measure_of g.screen.mode g.screen.tab g.screen.columns g.prompt origin).col

-- events without what depends on columns: the screen, and the bytes of a redraw
abbrev pub event_without_columns : SessionEvent → SessionEvent
event_without_columns (Begins s) = Begins (record s { columns = 0 })
event_without_columns (Draws marks redraw sent) = Draws marks redraw []
event_without_columns event = event

-- the steps of a line without faults, each with the value that is current until then
abbrev pub steps_in : ℕ → Given → SessionState → List EditStep
steps_in n g x =
    steps_along (setting_in g x.history.kept.entries) (first_in g x) (line_play_in n g x).asks

-- two sessions that differ only in their columns are the same, event for event, if the prompt ends
-- in the same column and tabs aren't drawn as blanks; and so is each line, request for request and
-- step for step. So they accept the same lines, save the same text and have the same drawings. A
-- tab drawn as blanks ends at the row's end, so that a motion by rows can depend on the columns
abbrev pub ColumnsAreFree : Type 0
ColumnsAreFree = (n : ℕ) (g : Given) (x : SessionState) (columns : ℕ)
    → let other = at_columns columns g in
    let one = session n other (each other) x in let two = session n g (each g) x in
    g.screen.tab ≡ None → prompt_column other ≡ prompt_column g
    → (map event_without_columns one.events ≡ map event_without_columns two.events)
    × (one.answer ≡ two.answer) × (line_play_in n other x ≡ line_play_in n g x)
    × (steps_in n other x ≡ steps_in n g x)

-- the lines that become entries, of these, added one after the other
abbrev pub lines_taken : Filed → List (List ℕ) → List (List ℕ)
lines_taken filed [] = []
lines_taken filed (line ∷ lines) = let rest = lines_taken (history_with_line filed line) lines in
    if ignores_line filed.kept.settings filed.kept.entries line then rest else line ∷ rest

-- a history that began empty holds the last of the accepted lines that weren't ignored, in order
abbrev pub LastAreKept : Type 0
LastAreKept = (n : ℕ) (g : Given) (at : ℕ → LineGiven) (x : SessionState) (settings : Settings) →
    let lines = flat_map lines_kept (session n g at x).events in
    let empty = nothing_filed settings in
    (history_with_if true lines empty).kept.entries
    ≡ newest settings.max_len (lines_taken empty lines)

-- a source that fails after its bytes, compared with one that gives more of them and then does
-- anything: the events with the first are a prefix of those with the second
abbrev pub EventsBegin : (SessionState → List SessionEvent) → Type 0
EventsBegin events = (ring : Ring) (query : List ℕ) (history : Filed) (mode : EditMode)
    (bytes more : List ℕ) (last : Last)
    → let x = state_at ring query history in (later : List SessionEvent)
    × (events (x (coming_from mode (bytes ++ more) last))
    ≡ events (x (coming_from mode bytes Failed)) ++ later)

-- the keys and pastes of the one, then what the other has
abbrev pub coming_then : Coming → Coming → Coming
coming_then (Pressed bytes k rest) more =
    Pressed (bytes ++ bytes_to_come more) k (coming_then rest more)
coming_then (Pasted bytes text rest) more =
    Pasted (bytes ++ bytes_to_come more) text (coming_then rest more)
coming_then (CutOff bytes item left) more = CutOff bytes item left
coming_then (Ends bytes item left) more = more
coming_then (Refused bytes why) more = Refused bytes why

-- If bytes are read as whole keys and pastes to their end, with no paste announced, and the last of
-- them isn't ESC, then with other bytes after them the keys and pastes are those of the first, then
-- those of the others.
abbrev pub CutsAreFree : Type 0
CutsAreFree = (mode : EditMode) (bytes more : List ℕ) (last : Last)
    → EndWithoutEsc bytes → IsTrue (are_whole (readings mode (chars_of bytes End)))
    → coming_from mode (bytes ++ more) last
    ≡ coming_then (coming_from mode bytes End) (coming_from mode more last)

-- how many keys and pastes remain: with more fuel than that a session is the same
abbrev pub keys_and_pastes : Coming → ℕ
keys_and_pastes (Pressed bytes k rest) = suc (keys_and_pastes rest)
keys_and_pastes (Pasted bytes text rest) = suc (keys_and_pastes rest)
keys_and_pastes coming = 0

-- ---- the setting `modal_commands` off

-- the script without the requests that meet a command: each is done as it comes
abbrev pub script_without_meeting : {X : Type 0} → LineScript X → LineScript X
script_without_meeting (ScriptEnds x) = ScriptEnds x
script_without_meeting (Asks (Meets cmd) later) = script_without_meeting (later cmd)
script_without_meeting (Asks ask later) = Asks ask (λ x. script_without_meeting (later x))

-- a line has the outcome, the state and the events of its script without the requests that meet a
-- command, and the last query is as it was
abbrev pub OffMeetsNone : Type 0
OffMeetsNone = (n : ℕ) (g : Given) (x : SessionState) → g.config.modal_commands ≡ false
    → let p = line_play_in n g x in
    let q = played_from (setting_in g x.history.kept.entries)
    (script_without_meeting (line_script n g.custom)) (first_in g x) in
    (p.answer ≡ q.answer) × (p.rest ≡ q.rest)
    × (events_of g x p.asks ≡ events_of g x q.asks) × (p.rest.modal.query ≡ x.query)
