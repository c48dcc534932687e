-- The calls of a session and of its builder: what it is built from and opened with, its parts, the
-- effect of its calls, and what it returns at its end. An editor is a session that an error ends.
use Rattle.std.specs.Prelude.{◌≡◌, ℕ, Bool, false, List, [], Option, None, Result, Err, IsOk, IsTrue, string_bytes, MatchOption, codes}
use Rattle.line_config.specs.Feed.{AlwaysTold, Feed, fresh_feed}
use Rattle.line_config.specs.declared.config.Config.{Config}
use Rattle.line_config.specs.declared.device.Last.TheVariants.{End}
use Rattle.line_config.specs.declared.errors.ReadlineError.{ReadlineError}
use Rattle.line_config.specs.declared.errors.ReadlineError.TheVariants.{Reader, HistoryText, Memory}
use Rattle.line_editor.specs.LineRun.{Helping}
use Rattle.line_help.specs.History.{Filed, settings_of, nothing_filed, history_with_line, all_saved}
use Rattle.line_help.specs.HistoryText.{ReadsGood, rest_after_load, load_answer, load_leaves, text_rows}
use Rattle.line_keys.specs.KeyFeeds.{bytes_to_come}
use Rattle.line_keys.specs.CustomBindings.{custom_of}
use Rattle.line_keys.specs.CustomBindings.{Meaning}
use Rattle.line_keys.specs.declared.events.Event.{Event}
use Rattle.line_record.specs.Ring.{new_ring}
use Rattle.line_screen.specs.ScreenCalls.{screen_of, sink_of, Screen}
use Rattle.line_screen.specs.Reader.{coming_in, byte_ahead_of, source_of}
use Rattle.line_screen.specs.Reading.{with_kept}
use Rattle.keyline.specs.Desks.{TakesLines, TakesLine}
use Rattle.keyline.specs.SessionEffects.{KnownDevices, SavesIf, ending_after, error_of, reason_to_end}
use Rattle.keyline.specs.Sessions.{Given, coming_from, each, screen_by, given_of}
use Rattle.keyline.specs.declared.desk.Desk.{Desk}
use Rattle.keyline.specs.declared.session.TheConstants.{KILL_RING_SIZE}
use Rattle.keyline.specs.declared.session.Ended.{Ended}
use Rattle.keyline.specs.declared.session.Unopened.{Unopened}
use Rattle.keyline.specs.declared.builder.SessionBuilder.{SessionBuilder}
use Rattle.keyline.specs.declared.editor.LineEditor.{LineEditor}
use Rattle.keyline.specs.declared.session.Session.{Session}

-- ---- building

-- these settings with no bindings and no helper, a history that begins empty, and sinks
-- that haven't failed for lines and history. Each builder sets the columns itself
pub record HasDefaults {F S H D L T B : Type 0} (feed : F → Feed) (lines_failed : L → Bool)
    (text_failed : T → Bool) (config : Config) (b : SessionBuilder F S H D L T B) : Type 0 where
  pub config_is : b.config ≡ config
  pub bindings_are : b.bindings ≡ []
  pub helper_is : b.helper ≡ None
  pub prompt_is : b.prompt.now ≡ codes "> "
  pub history_is : feed b.history ≡ fresh_feed [] End
  pub lines_work : lines_failed b.lines ≡ false
  pub text_works : text_failed b.text ≡ false

-- the same with these parts, some of which may be of other types
abbrev pub builder_with : {F G S H I D L M T U B C : Type 0} → SessionBuilder F S H D L T B → G
    → Option I → List (Event × C) → M → U → SessionBuilder G S I D M U C
builder_with b history helper bindings lines text = record {
  alloc = b.alloc;
  config = b.config;
  bindings = bindings;
  history = history;
  helper = helper;
  prompt = b.prompt;
  source = b.source;
  columns = b.columns;
  display = b.display;
  lines = lines;
  text = text;
}

-- ---- opening

-- the answer and the result of loading a source's text into a new history
abbrev pub loads : Config → Feed → Result Bool ReadlineError
loads config text =
    load_answer text.last (text_rows text.last text.coming) (nothing_filed (settings_of config))

abbrev pub history_loaded_from : Config → Feed → Filed
history_loaded_from config text =
    load_leaves text.last (text_rows text.last text.coming) (nothing_filed (settings_of config))

-- loading the text fails with this error, and this remains of it
pub record RefusesText (config : Config) (text left : Feed) (why : ReadlineError) : Type 0 where
  pub answer : loads config text ≡ Err why
  pub behind : left.coming ≡ rest_after_load text.last text.coming

-- why loading a source's text fails, if this remains of the source: it has failed, or a row isn't
-- UTF-8, or memory ran out after rows in UTF-8
abbrev pub LoadRefused : Config → Feed → Feed → ReadlineError → Type 0
LoadRefused config text left Reader = IsTrue left.failed
    × (IsTrue left.told → RefusesText config text left Reader)
LoadRefused config text left HistoryText = (left.failed ≡ false)
    × (IsTrue left.told → RefusesText config text left HistoryText)
LoadRefused config text left Memory = (left.failed ≡ false)
    × (IsTrue left.told → ReadsGood text.coming left.coming)
LoadRefused config text left why = ⊥

-- what remains of a source ends as it did, and agrees with the assumption only if it did before
pub record Remains (text left : Feed) : Type 0 where
  pub told : IsTrue left.told → IsTrue text.told
  pub last : left.last ≡ text.last

-- a loaded history, if its source agrees with the assumption
pub record Loaded (Told : Type 0) (config : Config) (text : Feed) (history : Filed) : Type 0 where
  pub whole : Told → IsOk (loads config text)
  pub history_is : Told → history ≡ history_loaded_from config text

-- no session was opened: some of the history's text may have been read, and all other devices are
-- as they were passed in
pub record Unopens {F S D L T : Type 0} (feed : F → Feed) (config : Config) (history : F)
    (source : S) (display : D) (lines : L) (text : T) (unopened : Unopened F S D L T) : Type 0 where
  pub fault : LoadRefused config (feed history) (feed unopened.history) unopened.why
  pub remains : Remains (feed history) (feed unopened.history)
  pub source_is : unopened.source ≡ source
  pub display_is : unopened.display ≡ display
  pub lines_are : unopened.lines ≡ lines
  pub text_is : unopened.text ≡ text

-- a session's desk: the devices as they were passed in, nothing read, and nothing drawn. The
-- history's source is gone: its text is known if it always agrees with the assumption
pub record Opens {F S H D L : Type 0} (text : F → Feed) (feed : S → Feed) (config : Config)
    (history : F) (helper : Option H) (source : S) (columns : ℕ) (display : D) (lines : L)
    (desk : Desk S H D L) : Type 0 where
  pub loaded : Loaded (AlwaysTold text) config (text history) desk.history
  pub ring : desk.ring ≡ new_ring KILL_RING_SIZE
  pub query : string_bytes desk.last_query ≡ []
  pub coming : coming_in feed desk.reader
      ≡ coming_from config.edit_mode (feed source).coming (feed source).last
  pub source_is : source_of desk.reader ≡ source
  pub kept : byte_ahead_of desk.reader ≡ None
  pub screen : screen_of desk.out ≡ screen_by config columns
  pub display_is : sink_of desk.out ≡ display
  pub helper_is : desk.helper ≡ helper
  pub lines_are : desk.lines ≡ lines

module _ {S H D L T B : Type 0} where
  -- ---- its parts

  -- the state that is passed from line to line, with the devices
  abbrev pub desk_of : Session S H D L T B → Desk S H D L
  desk_of s = s.desk

  abbrev pub history_of : Session S H D L T B → Filed
  history_of s = s.desk.history

  -- the sink of the history's text
  abbrev pub text_sink : Session S H D L T B → T
  text_sink s = s.text

  abbrev pub prompt_of : Session S H D L T B → List ℕ
  prompt_of s = string_bytes s.prompt

  -- what it passes in for a line after this prompt, with the meanings of its bindings and the
  -- replies of its helper
  abbrev pub given_in : (B → Meaning) → (Option H → Helping) → List ℕ → Session S H D L T B → Given
  given_in means helps prompt s = given_of s.config (custom_of s.bindings means) prompt
      (screen_of s.desk.out) (helps s.desk.helper)

  -- it has what was passed in for all its lines
  pub record HasGiven (config : Config) (bindings : List (Event × B)) (prompt : List ℕ) (text : T)
      (s : Session S H D L T B) : Type 0 where
    pub config_is : s.config ≡ config
    pub bindings_are : s.bindings ≡ bindings
    pub prompt_is : prompt_of s ≡ prompt
    pub text_is : s.text ≡ text

  -- ---- its calls

  -- the relation of a requested line: the desk takes it, and all else stays as it was
  pub record ReadsNext (k : KnownDevices S D L) (given : Session S H D L T B → Given)
      (old new : Session S H D L T B) (result : Result (List ℕ) ReadlineError) : Type 0 where
    pub takes : TakesLine k (given old) (given new) old.desk new.desk result
    pub others : new ≡ record old { desk = new.desk }

  -- the screen is changed so, as to rows of other columns, and all else is as it was
  pub record SetsScreen (change : Screen → Screen) (old new : Session S H D L T B) : Type 0 where
    pub screen : screen_of new.desk.out ≡ change (screen_of old.desk.out)
    pub display : sink_of new.desk.out ≡ sink_of old.desk.out
    pub others : new ≡ record old { desk = record old.desk { out = new.desk.out } }

  abbrev pub with_entry : List ℕ → Session S H D L T B → Session S H D L T B
  with_entry line s =
      record s { desk = record s.desk { history = history_with_line (history_of s) line } }

  -- none of its history's entries is new
  abbrev pub with_saved : Session S H D L T B → Session S H D L T B
  with_saved s = record s { desk = record s.desk { history = all_saved (history_of s) } }

  abbrev pub with_helper : Option H → Session S H D L T B → Session S H D L T B
  with_helper helper s = record s { desk = record s.desk { helper = helper } }

  -- ---- an editor: it reads one line at each call

  -- why there is no further line
  abbrev pub ending_in : LineEditor S H D L T B → Option ReadlineError
  ending_in editor = editor.ended

  -- the relation of a call: an editor that has ended returns its error again, and nothing was read,
  -- drawn or written; otherwise its session read a line
  abbrev pub EditorReads : KnownDevices S D L → (Session S H D L T B → Given)
      → LineEditor S H D L T B → LineEditor S H D L T B → Result (List ℕ) ReadlineError → Type 0
  EditorReads k given old new result = MatchOption (ending_in old)
      (ReadsNext k given old.session new.session result × (ending_in new ≡ reason_to_end result))
      (λ why. (result ≡ Err why) × (new ≡ old))

-- ---- running

-- a session has ended for this reason: its history was saved, if that was asked for, and its
-- devices are returned. The bytes of the remaining input are the byte that was read ahead, and then
-- those of the source
pub record Finishes {S H D L T : Type 0} (feed : S → Feed) (held : T → List ℕ)
    (failed : T → Bool) (asked : Bool) (desk : Desk S H D L) (text : T) (why : ReadlineError)
    (ended : Ended S D L T) : Type 0 where
  pub saved : Bool
  pub saves : SavesIf held failed asked desk.history ended.history text ended.text saved
  pub ending_is : error_of ended.ending ≡ ending_after why saved
  pub source_is : ended.source ≡ source_of desk.reader
  pub ahead_is : ended.ahead ≡ byte_ahead_of desk.reader
  pub unread_is : bytes_to_come (coming_in feed desk.reader)
      ≡ (with_kept ended.ahead (feed ended.source)).coming
  pub display_is : ended.display ≡ sink_of desk.out
  pub lines_are : ended.lines ≡ desk.lines

module _ {S H D L T : Type 0} (k : KnownDevices S D L) (held : T → List ℕ) (failed : T → Bool) where
  -- the relation of `run`: lines until one fails, and then the session's end. Display, lines and
  -- history are what the session's events make of them, and each moment is shown
  pub record RunsSession (asked : Bool) (g : Given) (desk : Desk S H D L) (text : T)
      (ended : Ended S D L T) : Type 0 where
    -- the desk as the lines left it, and why there was no further line
    pub last : Desk S H D L
    pub why : ReadlineError
    pub takes : TakesLines k g (each g) desk last why
    pub finishes : Finishes k.feed held failed asked last text why ended
