-- The meaning of the arguments of a call.
use Rattle.std.specs.Prelude.{◌≡◌, ◌≢◌, ◌≤◌, ◌==◌, ℕ, false, if◌then◌else◌, List, [], ◌∷◌, Option, Some, None, string_bytes}
use Rattle.std.specs.Str.{IsUtf8}
use Rattle.line_config.specs.Feed.{Feed, fresh_feed}
use Rattle.line_config.specs.declared.device.Last.TheVariants.{End}
use Rattle.line_help.specs.HistoryText.{entries_of, text_rows}
use Rattle.line_config.specs.declared.config.Config.{Config}
use Rattle.line_config.specs.declared.settings.EditMode.{EditMode}
use Rattle.line_config.specs.declared.settings.EditMode.TheVariants.{Emacs, Vi}
use Rattle.line_config.specs.declared.settings.HistoryDuplicates.TheVariants.{AlwaysAdd}
use Rattle.keyline.specs.declared.options.Options.{Options}
use Rattle.keyline_call.specs.Slots.{HasRing}
use Rattle.keyline_call.specs.declared.export.KeylineOptions.{KeylineOptions}

-- as `keyline.h` numbers the keymaps
abbrev pub mode_numbered : ℕ → Option EditMode
mode_numbered code = if code == 0 then Some Emacs else if code == 1 then Some Vi else None

-- the most entries of a history, equal neighbours too; 0 changes nothing
abbrev pub config_with_entries : ℕ → Config → Config
config_with_entries entries config = if entries == 0 then config
    else record config { max_history_size = entries; history_duplicates = AlwaysAdd }

-- the settings of a line and of its history
abbrev pub settings_by : KeylineOptions → Config → Config
settings_by options config =
    record (config_with_entries options.entries config) { modal_commands = options.modal }

-- these are the options of a line after this prompt
pub record AreMeant (options : KeylineOptions) (prompt : List ℕ) (o : Options) : Type 0 where
  pub mode_is : mode_numbered options.mode ≡ Some o.mode
  pub columns_are : o.columns ≡ options.columns
  pub few : (2 ≤ o.columns) × (o.columns ≤ 1000)
  pub prompt_is : string_bytes o.prompt ≡ prompt
  pub plain : o.prompt_styles.items ≡ []
  pub no_history : o.history ≡ None
  pub no_size : o.history_size ≡ None
  pub no_words : o.words ≡ None
  pub brackets_are : o.brackets ≡ options.brackets

-- the arguments are valid: the options, texts in UTF-8, and a kill ring
pub record AreValid (options : KeylineOptions) (prompt words history kills ends : List ℕ)
    : Type 0 where
  pub mode_is : mode_numbered options.mode ≢ None
  pub columns_are : (2 ≤ options.columns) × (options.columns ≤ 1000)
  pub prompt_is : IsUtf8 prompt
  pub words_are : IsUtf8 words
  pub history_is : IsUtf8 history
  pub ring_is : HasRing kills ends options.place

-- a text that is all there
abbrev pub whole : List ℕ → Feed
whole text = fresh_feed text End

-- the words of its rows; none for an empty text
abbrev pub words_in : List ℕ → Option (List (List ℕ))
words_in [] = None
words_in (byte ∷ bytes) = Some (entries_of false (text_rows End (byte ∷ bytes)))
