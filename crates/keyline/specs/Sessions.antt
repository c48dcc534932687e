-- What is passed in for a session and for each of its lines, and the state that is passed from line
-- to line.
use Rattle.std.specs.Prelude.{ℕ, Bool, if◌then◌else◌, List, [], ◌∷◌, ◌++◌, Result, Ok, Err}
use Rattle.std.specs.List.{flat_map}
use Rattle.line_config.specs.Config.{drawn_tab_stop}
use Rattle.line_config.specs.declared.config.Config.{Config}
use Rattle.line_config.specs.declared.device.Last.{Last}
use Rattle.line_config.specs.declared.errors.ReadlineError.{ReadlineError}
use Rattle.line_config.specs.declared.settings.EditMode.{EditMode}
use Rattle.line_help.specs.History.{Filed, history_with_lines}
use Rattle.line_keys.specs.CustomBindings.{Custom}
use Rattle.line_keys.specs.KeyFeeds.{Coming}
use Rattle.line_record.specs.Ring.{Ring}
use Rattle.line_editor.specs.LineRun.{Helping, setting_by}
use Rattle.line_editor.specs.Values.{Setting}
use Rattle.line_screen.specs.ScreenCalls.{Screen, ruler_of}
use Rattle.line_screen.specs.Input.{chars_of}
use Rattle.line_screen.specs.KeyGrammar.{readings, coming_of}

-- what is passed in for a session: settings, bindings, prompt, screen, and the helper's replies
pub record Given : Type 0 where
  pub config : Config
  pub custom : Custom
  pub prompt : List ℕ
  pub screen : Screen
  pub helping : Helping

abbrev pub given_of : Config → Custom → List ℕ → Screen → Helping → Given
given_of config custom prompt screen helping =
    record { config = config; custom = custom; prompt = prompt; screen = screen; helping = helping }

abbrev pub screen_by : Config → ℕ → Screen
screen_by config columns = record {
  columns = columns;
  mode = config.grapheme_cluster_mode;
  bell = config.bell_style;
  colours = config.draw_colours;
  tab = drawn_tab_stop config;
}

-- what is passed in for one of its lines: a prompt, and the columns of the screen's rows
pub record LineGiven : Type 0 where
  pub prompt : List ℕ
  pub columns : ℕ

abbrev pub for_line : Given → LineGiven → Given
for_line g line =
    record g { prompt = line.prompt; screen = record g.screen { columns = line.columns } }

-- the same for each line
abbrev pub each : Given → ℕ → LineGiven
each g line = record { prompt = g.prompt; columns = g.screen.columns }

-- the state that is passed from line to line
pub record SessionState : Type 0 where
  pub ring : Ring
  -- that of the last search
  pub query : List ℕ
  pub history : Filed
  pub coming : Coming

abbrev pub state_at : Ring → List ℕ → Filed → Coming → SessionState
state_at ring query history coming =
    record { ring = ring; query = query; history = history; coming = coming }

-- what the bytes of a source mean for the key tables
abbrev pub coming_from : EditMode → List ℕ → Last → Coming
coming_from mode bytes last = coming_of bytes (readings mode (chars_of bytes last))

-- what is passed in for the next line
abbrev pub setting_in : Given → List (List ℕ) → Setting
setting_in g entries = setting_by (ruler_of g.screen) g.prompt g.helping entries g.config

-- accepted lines are added to the history if the settings say so
abbrev pub history_with_if : Bool → List (List ℕ) → Filed → Filed
history_with_if adds lines history = if adds then history_with_lines history lines else history

abbrev pub history_after : Bool → Result (List ℕ) ReadlineError → Filed → Filed
history_after adds (Ok text) history = history_with_if adds (text ∷ []) history
history_after adds (Err e) history = history

-- an accepted line is written with a newline
abbrev pub line_text : List ℕ → List ℕ
line_text text = text ++ 0x0A ∷ []

abbrev pub lines_text : List (List ℕ) → List ℕ
lines_text lines = flat_map line_text lines
