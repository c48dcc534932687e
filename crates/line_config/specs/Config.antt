-- The default settings, and what two of the calls that change settings make of their argument.
use Rattle.std.specs.Prelude.{◌≡◌, ℕ, Bool, true, false, Option, Some, None, if◌then◌else◌}
use Rattle.line_buffer.specs.declared.layout.GraphemeClusterMode.TheVariants.{Unicode}
use Rattle.line_config.specs.declared.builder.Builder.{Builder}
use Rattle.line_config.specs.declared.config.Config.{Config}
use Rattle.line_config.specs.declared.settings.BellStyle.TheVariants.{Audible}
use Rattle.line_config.specs.declared.settings.HistoryDuplicates.{HistoryDuplicates}
use Rattle.line_config.specs.declared.settings.HistoryDuplicates.TheVariants.{AlwaysAdd, IgnoreConsecutive}
use Rattle.line_config.specs.declared.settings.CompletionType.TheVariants.{Circular}
use Rattle.line_config.specs.declared.settings.EditMode.{EditMode}
use Rattle.line_config.specs.declared.settings.EditMode.TheVariants.{Emacs, Vi}
use Rattle.line_config.specs.declared.settings.ColorMode.TheVariants.{Enabled}
use Rattle.line_config.specs.declared.settings.Behavior.TheVariants.{Stdio}

-- timeouts are in milliseconds, a tab in columns, an indentation in spaces
abbrev pub default_config : Config
default_config = record {
  max_history_size = 100;
  history_duplicates = IgnoreConsecutive;
  history_ignore_space = false;
  completion_type = Circular;
  completion_show_all_if_ambiguous = false;
  completion_prompt_limit = 100;
  keyseq_timeout = None;
  edit_mode = Emacs;
  auto_add_history = false;
  bell_style = Audible;
  color_mode = Enabled;
  grapheme_cluster_mode = Unicode;
  behavior = Stdio;
  tab_stop = 8;
  indent_size = 2;
  check_cursor_position = false;
  enable_bracketed_paste = true;
  enable_synchronized_output = true;
  enable_signals = false;
  modal_commands = false;
  draw_colours = false;
  draw_tabs = false;
  partial_redraw = false;
}

-- how many columns apart the stops are, if tabs are drawn
abbrev pub drawn_tab_stop : Config → Option ℕ
drawn_tab_stop config = if config.draw_tabs then Some config.tab_stop else None

-- a holder of settings is as before, except for the change of its settings
abbrev pub Sets : {H : Type 0} → (H → Config) → (H → Config → H) → (Config → Config) → H → H
    → Type 0
Sets settings with_settings change old new = new ≡ with_settings old (change (settings old))

-- a builder of these settings
abbrev pub builder_of : Config → Builder
builder_of config = record { config = config }

-- which lines are left out if repeated ones are ignored, or not
abbrev pub duplicates_of : Bool → HistoryDuplicates
duplicates_of true = IgnoreConsecutive
duplicates_of false = AlwaysAdd

-- the timeout of key sequences that is set with a mode
abbrev pub timeout_of : EditMode → Option ℕ
timeout_of Emacs = None
timeout_of Vi = Some 500
