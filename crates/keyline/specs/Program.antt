-- The program's session: with its options, and by bytes alone.
use Rattle.std.specs.Prelude.{ℕ, Bool, true, false, if◌then◌else◌, List, Option, Some, None, is_some, option_map, unwrap_or, ◌||◌, ◌⊎◌, nat_lt, Result, Ok, Err, ⊤, map, take, String, string_bytes, ◌≡◌, ◌<◌, ◌^◌, [], IsTrue, IsOk}
use Rattle.std.specs.Global.{Global, Vec}
use Rattle.std.specs.Option.{option_map_or}
use Rattle.std.specs.declared.env.FillError.{FillError}
use Rattle.std.specs.declared.env.FillError.TheVariants.{NotPresent, TooLong}
use Rattle.line_config.specs.Config.{default_config, timeout_of}
use Rattle.line_config.specs.Feed.{Feed, fresh_feed}
use Rattle.line_config.specs.declared.config.Config.{Config}
use Rattle.line_config.specs.declared.settings.CompletionType.TheVariants.{Circular, List as AsList}
use Rattle.line_keys.specs.Replies.{gives, gives_at_once}
use Rattle.line_help.specs.Completion.{nothing_offered, text_offered, words_reply}
use Rattle.line_help.specs.Paints.{Prompted, prompt_marks, standard_marks}
use Rattle.line_help.specs.Validation.{bracket_reply}
use Rattle.line_help.specs.declared.helpers.bracket_validator.MatchingBracketValidator.{MatchingBracketValidator}
use Rattle.line_help.specs.declared.helpers.helper_parts.HelperParts.{HelperParts}
use Rattle.line_help.specs.declared.helpers.style.Span.{Span}
use Rattle.line_help.specs.declared.helpers.standard_highlighter.StandardHighlighter.{StandardHighlighter}
use Rattle.line_help.specs.declared.helpers.validate.ValidationResult.TheVariants.{Valid}
use Rattle.line_keys.specs.CustomBindings.{Custom}
use Rattle.line_editor.specs.LineRun.{Helping, helper_from_hooks}
use Rattle.line_screen.specs.ScreenCalls.{screen_of}
use Rattle.line_screen.specs.Reader.{coming_in}
use Rattle.keyline.specs.Desks.{GoesShown}
use Rattle.keyline.specs.Events.{session}
use Rattle.keyline.specs.SessionCalls.{Finishes, LoadRefused, Opens, RunsSession, history_loaded_from, loads}
use Rattle.keyline.specs.Sessions.{Given, SessionState, coming_from, each, given_of, screen_by, state_at}
use Rattle.keyline.specs.declared.desk.Desk.{Desk}
use Rattle.keyline.specs.declared.invocation.Invocation.{Invocation}
use Rattle.keyline.specs.declared.options.Options.{Options}
use Rattle.keyline.specs.declared.session.TheConstants.{KILL_RING_SIZE}
use Rattle.keyline.specs.declared.session.Ended.{Ended}
use Rattle.keyline.specs.declared.session.Unopened.{Unopened}
use Rattle.line_config.specs.Adapters.{bytes_sent, bytes_taken}
use Rattle.line_config.specs.declared.adapters.ReadSource.{ReadSource}
use Rattle.line_config.specs.declared.adapters.WriteSink.{WriteSink}
use Rattle.line_config.specs.declared.device.Last.{Last}
use Rattle.line_config.specs.declared.device.Last.TheVariants.{End}
use Rattle.line_config.specs.declared.errors.ReadlineError.{ReadlineError}
use Rattle.line_record.specs.Ring.{new_ring}
use Rattle.keyline.specs.SessionEffects.{KnownDevices, SessionReason, work}

-- the default: each accepted line is added to the history
abbrev pub standard_config : Config
standard_config = record default_config { auto_add_history = true }

-- the same with a history of so many entries, if they are given
abbrev pub sized_by : Option ℕ → Config → Config
sized_by size config = record config { max_history_size = unwrap_or size config.max_history_size }

-- the same in the mode that the options choose, and with their size of the history
abbrev pub config_of : Options → Config
config_of options = sized_by options.history_size
    (record standard_config { edit_mode = options.mode; keyseq_timeout = timeout_of options.mode })

-- the same, and with `extended` what is off by default
abbrev pub profile_of : Bool → Config → Config
profile_of extended config = record config {
  modal_commands = extended;
  draw_colours = extended;
  draw_tabs = extended;
  partial_redraw = extended;
  completion_type = if extended then AsList else Circular;
  max_history_size = if extended then 100000 else config.max_history_size;
}

abbrev pub invoked_config : Invocation → Config
invoked_config invocation = sized_by invocation.options.history_size
    (profile_of invocation.extended (config_of invocation.options))

abbrev pub config_without_colours : Config → Config
config_without_colours config = record config { draw_colours = false }

-- the same settings, or the same without colours
abbrev pub IsByEnvironment : Config → Config → Type 0
IsByEnvironment config result = (result ≡ config) ⊎ (result ≡ config_without_colours config)

-- a variable of the environment is set and not empty, by its length
abbrev pub has_text : Result ℕ FillError → Bool
has_text (Ok len) = nat_lt 0 len
has_text (Err TooLong) = true
has_text (Err NotPresent) = false

-- completes words and validates brackets, if requested, and highlights a prompt by its styles and
-- the rest as the standard does
abbrev pub EditHelper : Type 0
EditHelper = HelperParts (Option (List (List ℕ))) ⊤ (Prompted StandardHighlighter)
    (Option MatchingBracketValidator)

abbrev pub word_texts : Option (Vec (String Global)) → Option (List (List ℕ))
word_texts words = option_map (λ ws. map string_bytes ws.items) words

abbrev pub prompt_with_spans : List Span → Prompted StandardHighlighter
prompt_with_spans spans = record { spans = spans; others = record { brackets = None } }

abbrev pub helper_with : Option (List (List ℕ)) → List Span → Bool → EditHelper
helper_with words spans brackets = record {
  completer = words;
  hinter = tt;
  highlighter = prompt_with_spans spans;
  validator = if brackets then Some (record {}) else None;
}

-- there is none if nothing was requested and no colours are drawn
abbrev pub helper_of : Config → Options → Option (List (List ℕ)) → Option EditHelper
helper_of config options words = if options.brackets || is_some words || config.draw_colours
    then Some (helper_with words options.prompt_styles.items options.brackets) else None

-- its replies and its styles; it helps with nothing else
abbrev pub edit_helping : Option EditHelper → Helping
edit_helping = helper_from_hooks (λ helper line pos entries place. gives_at_once None)
    (λ helper text. option_map_or (λ validator. bracket_reply text) helper.validator
    (gives_at_once (Valid None)))
    (λ helper line pos entries place. option_map_or
    (λ words. words_reply text_offered words (take pos line)) helper.completer
    (gives_at_once nothing_offered))
    (λ helper line start elected. option_map_or (λ words. gives (tt {0})) helper.completer
    (gives (tt {0})))
    (λ helper. prompt_marks helper.highlighter.spans standard_marks)

abbrev pub nothing_bound : Custom
nothing_bound = record { answers = λ event. None; begins = λ keys. false }

-- a session was opened by these settings, options and words, and run. Its history was saved, if
-- that was asked for
pub record EditsBy {F S D L T : Type 0} (loads : F → Feed) (k : KnownDevices S D L)
    (held : T → List ℕ) (failed : T → Bool) (asked : Bool) (config : Config) (options : Options)
    (words : Option (List (List ℕ))) (history : F) (source : S) (display : D) (lines : L)
    (text : T) (ended : Ended S D L T) : Type 0 where
  pub desk : Desk S EditHelper D L
  pub opens : Opens loads k.feed config history (helper_of config options words) source
      options.columns display lines desk
  pub runs : RunsSession k held failed asked (given_of config nothing_bound
      (string_bytes options.prompt) (screen_of desk.out) (edit_helping desk.helper)) desk text ended

-- ---- by bytes alone: those of its keys, those that its devices took, and its ending

-- what is passed in for a session with these settings, bindings, prompt, columns and helper
abbrev pub given_over : Config → Custom → List ℕ → ℕ → Option EditHelper → Given
given_over config custom prompt columns helper =
    given_of config custom prompt (screen_by config columns) (edit_helping helper)

-- the same with the program's options and words
abbrev pub given_with : Config → Custom → Options → Option (List (List ℕ)) → Given
given_with config custom options words = given_over config custom (string_bytes options.prompt)
    options.columns (helper_of config options words)

-- the state before its first line, over this history's text and these keys
abbrev pub start_by : Config → List ℕ → List ℕ → Last → SessionState
start_by config old bytes last = state_at (new_ring KILL_RING_SIZE) []
    (history_loaded_from config (fresh_feed old End)) (coming_from config.edit_mode bytes last)

-- the session of these settings, options and words, of a history's text, and of all these bytes
-- followed by this, on a display and a sink of lines that had these bytes. What is drawn, written
-- and saved are its bytes, its lines and its history, or a prefix of them if a fault cut it. The
-- history is saved if that was asked for, to a sink that had nothing
pub record PlaysBytes {S D L T : Type 0} (known : KnownDevices S D L) (held : T → List ℕ)
    (failed : T → Bool) (asked : Bool) (config : Config) (options : Options)
    (words : Option (List (List ℕ))) (shown wrote old bytes : List ℕ) (last : Last)
    (ended : Ended S D L T) : Type 0 where
  -- the desk as the lines left it, why there was no further line, and the display and the sink of
  -- lines before they were flushed
  pub desk : Desk S EditHelper D L
  pub why : ReadlineError
  pub display : D
  pub lines : L
  pub loaded : IsOk (loads config (fresh_feed old End))
  pub goes : (n : ℕ) → 2 ^ 63 < n → let g = given_with config nothing_bound options words in
      let start = start_by config old bytes last in let lines = session n g (each g) start in
      GoesShown (λ drawn. drawn) (λ wrote. wrote) g.config.auto_add_history lines.events
      (work shown wrote start.history start.coming)
      (work (known.shown ended.display) (known.written_in ended.lines) desk.history
      (coming_in known.feed desk.reader)) (why ≡ lines.answer) (λ e. why ≡ e)
  pub text : T
  pub blank : held text ≡ []
  pub finishes : Finishes known.feed held failed asked desk text why
      (record ended { display = display; lines = lines })
  pub reason : SessionReason (given_with config nothing_bound options words)
      (known.feed ended.source).failed (known.show_failed ended.display)
      (known.write_failed ended.lines) why

-- the relation of the program's session, over a reader and two writers that had these bytes. If
-- what the reads gave agrees with the bytes that were assumed of the reader as it was passed in,
-- the session is that of these bytes. A writer that hasn't failed got everything that its sink
-- took. The history's text is made if the options name a file for it; otherwise its sink took
-- nothing
pub record PlaysOver {R K E W T : Type 0}
    (known : KnownDevices (ReadSource R K) (WriteSink E) (WriteSink W)) (held : T → List ℕ)
    (failed : T → Bool) (config : Config) (options : Options) (words : Option (List (List ℕ)))
    (shown wrote old bytes : List ℕ) (last : Last)
    (ended : Ended (ReadSource R K) (WriteSink E) (WriteSink W) T) : Type 0 where
  pub plays : IsTrue (known.feed ended.source).told
      → PlaysBytes known held failed (is_some options.history) config options words shown wrote old
      bytes last ended
  pub drawn : known.show_failed ended.display ≡ false
      → bytes_sent ended.display ≡ bytes_taken ended.display
  pub written : known.write_failed ended.lines ≡ false → bytes_sent ended.lines
      ≡ bytes_taken ended.lines

-- no session was opened, and the reader and the writers are as they were passed in: no call of them
-- was made. The sink of the history's text has taken nothing
pub record UnopensOver {F R E W T : Type 0} (feed : F → Feed) (held : T → List ℕ) (config : Config)
    (old : List ℕ) (keys : R) (display : E) (lines : W) (unopened : Unopened F R E W T)
    : Type 0 where
  pub fault : LoadRefused config (fresh_feed old End) (feed unopened.history) unopened.why
  pub keys_are : unopened.source ≡ keys
  pub display_is : unopened.display ≡ display
  pub lines_are : unopened.lines ≡ lines
  pub text_is : held unopened.text ≡ []
