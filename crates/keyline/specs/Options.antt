-- The program's command line: its options, how words choose them, and what `--extended` adds.
use Rattle.std.specs.Prelude.{◌≡◌, ◌≢◌, ◌≤◌, ◌⊎◌, ◌↔◌, ◌∷◌, ⊤, ℕ, List, [], Option, Some, codes, IsSomeAnd, IsTrue, option_map, string_bytes, suc, Bool, true, false, if◌then◌else◌, ◌||◌, remove, bytes_eq, None, is_some}
use Rattle.std.specs.Str.Parse.{IsNumeral, digits_value, without_leading_plus}
use Rattle.clap.specs.Words.{App, IsAmong, Row, Rule, Text, fault_of, first_of, matches_of, new_app, new_rule, with_rule}
use Rattle.clap.specs.declared.builder.action.ArgAction.TheVariants.{SetTrue}
use Rattle.clap.specs.declared.error.kind.ErrorKind.{ErrorKind}
use Rattle.clap.specs.declared.error.kind.ErrorKind.TheVariants.{DisplayHelp, InvalidValue, OutOfMemory}
use Rattle.line_config.specs.declared.settings.EditMode.{EditMode}
use Rattle.line_config.specs.declared.settings.EditMode.TheVariants.{Emacs, Vi}
use Rattle.keyline.specs.declared.options.Options.{Options}
use Rattle.keyline.specs.declared.options.Parsed.{Parsed}
use Rattle.keyline.specs.declared.options.Parsed.TheVariants.{Run, Help, Usage, Memory}
use Rattle.std.specs.Option.{option_map_or}
use Rattle.line_help.specs.SplitStyles.{Splits}
use Rattle.keyline.specs.declared.invocation.Invoked.{Invoked}
use Rattle.keyline.specs.declared.invocation.Invoked.TheVariants as of_line

-- `--id TEXT`
abbrev pub text_option : Text → Rule
text_option id = record (new_rule id) { long = Some id; value_names = 1 }

-- the same, with its text if it isn't given
abbrev pub text_option_with_default : Text → Text → Rule
text_option_with_default id text = record (text_option id) { defaults = text ∷ [] }

-- `--id`
abbrev pub flag : Text → Rule
flag id = record (new_rule id) { long = Some id; action = Some SetTrue }

unfoldable pub command_line : App
command_line = with_rule (with_rule (with_rule (with_rule (with_rule (with_rule (with_rule
    (new_app (codes "keyline"))
    (text_option_with_default (codes "mode") (codes "emacs")))
    (text_option_with_default (codes "columns") (codes "80")))
    (text_option_with_default (codes "prompt") (codes "> ")))
    (text_option (codes "history")))
    (text_option (codes "history-size")))
    (text_option (codes "words")))
    (flag (codes "brackets"))

abbrev pub mode_name : EditMode → Text
mode_name Emacs = codes "emacs"
mode_name Vi = codes "vi"

-- the text is decimal digits that write this number, from 2 to 1,000
abbrev pub WritesColumns : Text → ℕ → Type 0
WritesColumns text columns =
    IsNumeral 10 text × (digits_value 10 text ≡ columns) × (2 ≤ columns) × (columns ≤ 1000)

-- such digits, perhaps after a plus
abbrev pub AreColumns : Option Text → ℕ → Type 0
AreColumns text columns = IsSomeAnd text (λ t. WritesColumns (without_leading_plus t) columns)

-- the text is decimal digits, perhaps after a plus, that write a number from 1 to 1,000,000
abbrev pub WritesSize : Text → ℕ → Type 0
WritesSize text size =
    IsNumeral 10 text × (digits_value 10 text ≡ size) × (1 ≤ size) × (size ≤ 1000000)

-- the size of the history by its text; none without one
abbrev pub IsSize : Option Text → Option ℕ → Type 0
IsSize None None = ⊤
IsSize (Some text) (Some size) = WritesSize (without_leading_plus text) size
IsSize text size = ⊥

-- the options, by the text of each one
pub record Chooses (rows : List Row) (options : Options) : Type 0 where
  pub mode : first_of (codes "mode") rows ≡ Some (mode_name options.mode)
  pub columns : AreColumns (first_of (codes "columns") rows) options.columns
  pub prompt : first_of (codes "prompt") rows ≡ Some (string_bytes options.prompt)
  pub plain : options.prompt_styles.items ≡ []
  pub history : first_of (codes "history") rows ≡ option_map string_bytes options.history
  pub history_size : IsSize (first_of (codes "history-size") rows) options.history_size
  pub words : first_of (codes "words") rows ≡ option_map string_bytes options.words
  pub brackets : IsTrue options.brackets ↔ (first_of (codes "brackets") rows ≡ Some (codes "true"))

abbrev pub ChoosesNone : List Row → Type 0
ChoosesNone rows = (options : Options) → Chooses rows options → ⊥

-- the words lead to an error of this kind
abbrev pub FailsBy : List Text → ErrorKind → Type 0
FailsBy words kind = (kind ≡ OutOfMemory) ⊎ (IsAmong kind (fault_of command_line words)
    ⊎ ((kind ≡ InvalidValue) × ChoosesNone (matches_of command_line words)))

-- the answer to an error of a kind
abbrev pub Says : ErrorKind → Parsed → Type 0
Says kind (Run options) = ⊥
Says kind (Help text) = kind ≡ DisplayHelp
Says kind (Usage text) = (kind ≢ DisplayHelp) × (kind ≢ OutOfMemory)
Says kind Memory = ⊤

-- the answer to words, the first of which is the program's name. What is wrong is a mistake that
-- `clap` finds, or texts that aren't a mode or a number of columns
abbrev pub ParsesTo : List Text → Parsed → Type 0
ParsesTo words (Run options) =
    (fault_of command_line words ≡ []) × Chooses (matches_of command_line words) options
ParsesTo words (Help text) = IsAmong DisplayHelp (fault_of command_line words)
ParsesTo words (Usage text) =
    ((kind : ErrorKind) × IsAmong kind (fault_of command_line words) × (kind ≢ DisplayHelp))
    ⊎ ChoosesNone (matches_of command_line words)
ParsesTo words Memory = ⊤

abbrev pub HasColumns : Parsed → Type 0
HasColumns (Run options) = (2 ≤ options.columns) × (options.columns ≤ 1000)
HasColumns answer = ⊤

-- ---- `--extended`

-- a word behind which `--extended` isn't looked for
abbrev pub decides : Text → Bool
decides word = bytes_eq word (codes "--extended") || bytes_eq word (codes "--")

-- the place of `--extended` in these words, if it stands before any `--`
abbrev pub place_of_extended : List Text → Option ℕ
place_of_extended [] = None
place_of_extended (word ∷ words) = if bytes_eq word (codes "--extended") then Some 0
    else if bytes_eq word (codes "--") then None
    else option_map suc (place_of_extended words)

-- its place in a command line, the first word of which is the program's name
abbrev pub place_of_extended_in : List Text → Option ℕ
place_of_extended_in [] = None
place_of_extended_in (name ∷ words) = option_map suc (place_of_extended words)

-- the same answer, for the options alone
abbrev pub for_options : Invoked → Parsed
for_options (of_line.Run invocation) = Run invocation.options
for_options (of_line.Help text) = Help text
for_options (of_line.Usage text) = Usage text
for_options of_line.Memory = Memory

-- with `--extended` the prompt is what is left of its text without control sequences, and has their
-- styles; without it nothing changes
abbrev pub IsStyled : Bool → Options → Options → Type 0
IsStyled false given options = options ≡ given
IsStyled true given options =
    (options ≡ record given { prompt = options.prompt; prompt_styles = options.prompt_styles })
    × Splits (string_bytes given.prompt) (string_bytes options.prompt) options.prompt_styles.items

-- the answer by what the other words are parsed to. Memory may run out while a prompt is split,
-- which only `--extended` asks for
abbrev pub IsAnswer : Bool → Parsed → Invoked → Type 0
IsAnswer extended (Run options) (of_line.Run invocation) =
    (invocation.extended ≡ extended) × IsStyled extended options invocation.options
IsAnswer extended (Run options) of_line.Memory = extended ≡ true
IsAnswer extended parsed answer = for_options answer ≡ parsed

-- the answer to a command line: that to its other words, by whether `--extended` stands there
pub record InvokesTo (words : List Text) (answer : Invoked) : Type 0 where
  pub parsed : Parsed
  pub answers : ParsesTo (option_map_or (remove words) (place_of_extended_in words) words) parsed
  pub invoked : IsAnswer (is_some (place_of_extended_in words)) parsed answer
