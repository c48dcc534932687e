-- What a session is opened with, as the settings of a table say it.
use Rattle.std.specs.Prelude.{⊤, ℕ, Bool, true, false, if◌then◌else◌, List, [], ◌∷◌, take, Option, None, Some, codes, is_some, option_map, ◌||◌}
use Rattle.std.specs.Option.{option_map_or}
use Rattle.line_buffer.specs.declared.layout.GraphemeClusterMode.{GraphemeClusterMode}
use Rattle.line_config.specs.Config.{default_config, timeout_of}
use Rattle.line_config.specs.declared.config.Config.{Config}
use Rattle.line_config.specs.declared.device.Last.{Last}
use Rattle.line_config.specs.declared.device.Last.TheVariants.{End}
use Rattle.line_config.specs.declared.settings.CompletionType.TheVariants.{List as AsList}
use Rattle.line_config.specs.declared.settings.EditMode.{EditMode}
use Rattle.line_config.specs.declared.settings.EditMode.TheVariants.{Vi}
use Rattle.line_editor.specs.LineRun.{Helping, helper_from_hooks}
use Rattle.line_help.specs.Completion.{nothing_offered, word_offered, words_reply}
use Rattle.line_help.specs.Hints.{hint_of_history}
use Rattle.line_help.specs.HistoryText.{entries_of, text_rows}
use Rattle.line_help.specs.Paints.{standard_marks}
use Rattle.line_help.specs.Validation.{bracket_reply}
use Rattle.line_help.specs.declared.helpers.style.Span.{Span}
use Rattle.line_help.specs.declared.helpers.validate.ValidationResult.TheVariants.{Valid}
use Rattle.line_keys.specs.CustomBindings.{Custom, custom_of, Meaning}
use Rattle.line_keys.specs.Commands.{holds_text}
use Rattle.line_keys.specs.Replies.{gives, gives_at_once}
use Rattle.line_keys.specs.declared.command.Cmd.{Cmd}
use Rattle.line_keys.specs.declared.events.Event.{Event}
use Rattle.keyline.specs.Program.{EditHelper, edit_helping, nothing_bound, profile_of, standard_config, prompt_with_spans}
use Rattle.worked_rows.specs.Splitting.{prompt_spans, prompt_text}

-- `loaded` is the text of the history, and `last` what the source of keys does after its bytes
pub record Settings : Type 0 where
  pub config : Config
  pub columns : ℕ
  pub prompt : List ℕ
  pub custom : Custom
  pub helping : Helping
  pub loaded : List ℕ
  pub last : Last

abbrev pub no_helper : Helping
no_helper = record { hooks = None; marks = None }

-- where a table says nothing else
abbrev pub plain : Settings
plain = record {
  config = default_config;
  columns = 80;
  prompt = codes "> ";
  custom = nothing_bound;
  helping = no_helper;
  loaded = [];
  last = End;
}

-- the words in a text, one a row
abbrev pub words_in : Option (List ℕ) → Option (List (List ℕ))
words_in text = option_map (λ bytes. entries_of false (text_rows End bytes)) text

abbrev pub program_config : EditMode → Config
program_config mode =
    record standard_config { edit_mode = mode; keyseq_timeout = timeout_of mode }

abbrev pub program_helper : Bool → List Span → Bool → Option (List (List ℕ)) → Option EditHelper
program_helper colours spans brackets words = if brackets || is_some words || colours
    then Some (record {
      completer = words;
      hinter = tt;
      highlighter = prompt_with_spans spans;
      validator = if brackets then Some (record {}) else None;
    })
    else None

-- what the program passes in by its options, with or without --extended, and without NO_COLOR; the
-- texts of its files are `words` and `loaded`
abbrev pub by_options : Bool → EditMode → ℕ → List ℕ → Bool → Option (List ℕ) → List ℕ → Settings
by_options extended mode columns prompt brackets words loaded = record plain {
  config = profile_of extended (program_config mode);
  columns = columns;
  prompt = prompt_text extended prompt;
  helping = edit_helping
      (program_helper extended (prompt_spans extended prompt) brackets (words_in words));
  loaded = loaded;
}

abbrev pub vi : Config → Config
vi config = record config { edit_mode = Vi }

abbrev pub adding : Config → Config
adding config = record config { auto_add_history = true }

-- with commands that go on over several keys
abbrev pub modal : Config → Config
modal config = record config { modal_commands = true }

-- with the helper's styles
abbrev pub colours : Config → Config
colours config = record config { draw_colours = true }

-- with tabs as blanks, and stops so many columns apart
abbrev pub tabs : Config → Config
tabs config = record config { draw_tabs = true }

-- with changes shown in their row
abbrev pub partial : Config → Config
partial config = record config { partial_redraw = true }

abbrev pub stopping : ℕ → Config → Config
stopping apart config = record config { tab_stop = apart }

-- several candidates are listed: so many of them, and at the first Tab that adds nothing
abbrev pub listed : Config → Config
listed config = record config { completion_type = AsList }

abbrev pub limited : ℕ → Config → Config
limited n config = record config { completion_prompt_limit = n }

abbrev pub at_once : Config → Config
at_once config = record config { completion_show_all_if_ambiguous = true }

abbrev pub of_size : ℕ → Config → Config
of_size n config = record config { max_history_size = n }

abbrev pub counting : GraphemeClusterMode → Config → Config
counting mode config = record config { grapheme_cluster_mode = mode }

-- hints of the history, completion by words, one of which ends in a text if there is no other one,
-- lines whose brackets are balanced, and the standard styles
abbrev pub aide_ending : List ℕ → Bool → Option (List (List ℕ)) → Helping
aide_ending end brackets words =
    helper_from_hooks {H = ⊤} (λ h line pos entries place. hint_of_history line pos entries place)
    (λ h text. if brackets then bracket_reply text else gives_at_once (Valid None))
    (λ h line pos entries place. option_map_or
    (λ ws. words_reply (word_offered end) ws (take pos line)) words
    (gives_at_once nothing_offered)) (λ h line start elected. gives tt)
    (λ h. standard_marks) (Some tt)

abbrev pub aide : Bool → Option (List (List ℕ)) → Helping
aide = aide_ending []

-- a command that is bound by itself, and one that a handler answers
abbrev pub command : Cmd → Meaning
command cmd s = record { answer = Some (Some cmd); takes = holds_text cmd }

abbrev pub always : Cmd → Meaning
always cmd s = gives (Some cmd)

abbrev pub bound : List (Event × Meaning) → Custom
bound bindings = custom_of bindings (λ meaning. meaning)
