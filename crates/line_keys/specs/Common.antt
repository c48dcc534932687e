-- The keys of both modes, quoted insertion among them, and what comes before the tables: bindings,
-- and the keys that a terminal would turn into a signal or the end of input.
use Rattle.std.specs.Prelude.{◌≡◌, ℕ, ◌-◌, ◌==◌, nat_le, nat_lt, Bool, true, not, ◌&&◌, ◌||◌, IsTrue, List, [], ◌∷◌, ◌++◌, length, codes, Option, Some, None, unwrap_or, if◌then◌else◌}
use Rattle.std.specs.Char.{is_control}
use Rattle.std.specs.Option.{option_map_or}
use Rattle.line_buffer.specs.declared.types.Movement.TheVariants.{BeginningOfLine, EndOfLine, BackwardChar, ForwardChar, BackwardWord, ForwardWord}
use Rattle.line_buffer.specs.declared.types.Word.TheVariants.{Big}
use Rattle.line_buffer.specs.declared.types.At.TheVariants.{AfterEnd}
use Rattle.line_buffer.specs.declared.types.Anchor.TheVariants.{Before}
use Rattle.line_config.specs.declared.settings.EditMode.{EditMode}
use Rattle.line_keys.specs.declared.command.Cmd.{Cmd}
use Rattle.line_keys.specs.declared.command.Cmd.TheVariants.{AcceptOrInsertLine, EndOfFile, ForwardSearchHistory, LineDownOrNextHistory, LineUpOrPreviousHistory, Move, Noop, ReverseSearchHistory, TransposeChars, Undo, Unknown, Yank, Interrupt, Suspend, Insert, QuotedInsert, SelfInsert}
use Rattle.line_keys.specs.declared.key.KeyCode.TheVariants.{BracketedPasteStart, Delete, Down, End, Enter, Home, Left, Right, UnknownEscSeq, Up, Char, Backspace, Esc, Tab}
use Rattle.line_keys.specs.declared.key.KeyEvent.{KeyEvent}
use Rattle.line_keys.specs.CustomKeys.{Situation, custom_answer, key_sequence}
use Rattle.line_keys.specs.declared.keymap.common.CommonAction.{CommonAction}
use Rattle.line_keys.specs.declared.keymap.common.CommonAction.TheVariants.{Give, Paste, Quote}
use Rattle.line_keys.specs.declared.keymap.custom.Followed.{Followed}
use Rattle.line_keys.specs.declared.keymap.custom.Followed.TheVariants.{Bound, Unbound}
use Rattle.line_keys.specs.KeyFeeds.{Key, Paste as PastedText}
use Rattle.line_keys.specs.Keys.{none, ctrl, key_of}
use Rattle.line_keys.specs.PhraseScripts.{Input, PhrasePart, is_emacs, is_vi_command, answer_part, anew_or, with_read, and_then, reply_then}
use Rattle.line_keys.specs.Refreshing.{Shown}
use Rattle.line_keys.specs.Tables.{Row, always, by_count, by_sign, moves, kills, key_named, char, two_chars, each_char, is_code, only, look}

-- 5C is the backslash
abbrev pub signal_of : KeyEvent → Option Cmd
signal_of k = look 1 true k (
    char (codes "C") ctrl (always Interrupt)
    ∷ key_named (Char 0x5C) ctrl (always Interrupt)
    ∷ char (codes "Z") ctrl (always Suspend)
    ∷ char (codes "D") ctrl (always EndOfFile)
    ∷ [])

abbrev pub has_text : Shown → Bool
has_text shown = not (length shown.line == 0)

-- a hint is shown after the line, and the cursor is right before it
abbrev pub at_hint : Shown → Bool
at_hint shown = shown.hinted && (shown.place == length shown.line)

-- ---- the table

abbrev pub common_command_rows : EditMode → Shown → List (Row CommonAction)
common_command_rows mode shown =
    key_named Home none (always (Give (Move BeginningOfLine)))
    ∷ key_named End none (always (Give (Move EndOfLine)))
    ∷ key_named Left none (moves Give BackwardChar ForwardChar)
    ∷ key_named Right none (moves Give ForwardChar BackwardChar)
    ∷ key_named Up none (always (Give (LineUpOrPreviousHistory 1)))
    ∷ key_named Down none (always (Give (LineDownOrNextHistory 1)))
    ∷ key_named Delete none (kills Give ForwardChar BackwardChar)
    ∷ only (has_text shown && is_emacs mode)
    (char (codes "D") ctrl (kills Give ForwardChar BackwardChar))
    ∷ only (has_text shown) (char (codes "D") ctrl (always (Give EndOfFile)))
    ∷ char (codes "U") ctrl (kills Give (λ n. BeginningOfLine) (λ n. EndOfLine))
    ∷ char (codes "W") ctrl (kills Give (λ n. BackwardWord n Big) (λ n. ForwardWord n AfterEnd Big))
    ∷ char (codes "Y") ctrl (by_sign (λ n. Give (Yank n Before)) (λ n. Give Unknown))
    ∷ char (codes "T") ctrl (always (Give TransposeChars))
    ∷ char (codes "_") ctrl (by_count (λ n. Give (Undo n)))
    ∷ key_named Enter none (always (Give (AcceptOrInsertLine true)))
    ∷ two_chars (codes "JM") ctrl (always (Give (AcceptOrInsertLine true)))
    ∷ char (codes "R") ctrl (always (Give ReverseSearchHistory))
    ∷ char (codes "S") ctrl (always (Give ForwardSearchHistory))
    ∷ key_named UnknownEscSeq none (always (Give Noop))
    ∷ []

abbrev pub common_reading_rows : List (Row CommonAction)
common_reading_rows =
    key_named BracketedPasteStart none (always Paste)
    ∷ two_chars (codes "QV") ctrl (always Quote)
    ∷ []

-- the action of a key in both modes, if it has a row
unfoldable pub common_action : EditMode → Shown → ℕ → Bool → KeyEvent → Option CommonAction
common_action mode shown n positive k =
    look n positive k (common_command_rows mode shown ++ common_reading_rows)

-- ---- quoted insertion: the character that the next key was sent as is inserted

-- Ctrl with a character from @ to _ was sent as the control character 64 below it
abbrev pub control_of : ℕ → Cmd
control_of c = if nat_le 0x40 c && nat_le c 0x5F then SelfInsert 1 (c - 0x40) else Unknown

-- the command of a quoted key; one that was sent as no single character inserts none. Backspace was
-- sent as 7F; a terminal may also send 08 for it
abbrev pub quoted_command : KeyEvent → Cmd
quoted_command k = unwrap_or (look 1 true k (
    each_char none (λ c. always (SelfInsert 1 c))
    ∷ each_char ctrl (λ c. always (control_of c))
    ∷ key_named Tab none (always (SelfInsert 1 0x09))
    ∷ key_named Enter none (always (SelfInsert 1 0x0D))
    ∷ key_named Esc none (always (SelfInsert 1 0x1B))
    ∷ key_named Backspace none (always (SelfInsert 1 0x7F))
    ∷ [])) Unknown

-- a pasted text is read and inserted
abbrev pub quote_of_paste : PhrasePart Cmd
quote_of_paste = with_read PastedText (λ text. answer_part (Insert 1 text))

-- the key that announces a pasted text
abbrev pub is_paste_start : KeyEvent → Bool
is_paste_start k = (k.1.0 == 0) && is_code k.0 BracketedPasteStart

abbrev pub quote_of_key : KeyEvent → PhrasePart Cmd
quote_of_key k = if is_paste_start k then quote_of_paste else answer_part (quoted_command k)

-- the setting is on, and text can be typed
abbrev pub quotes : Input → Bool
quotes input = input.modal_commands && not (is_vi_command input.mode input.input_mode)

-- one more key is read, which is not looked up in any other table or binding
abbrev pub quote_part : Input → PhrasePart Cmd
quote_part input = if quotes input then with_read Key quote_of_key else answer_part QuotedInsert

-- a character that its key tells: 08 comes as Backspace, and the control characters from 80 on as
-- one key
abbrev pub is_told : ℕ → Bool
is_told c = not (c == 0x08) && (nat_lt c 0x80 || not (is_control c))

-- if the quoted key tells its character, this is inserted
abbrev pub QuotedAsSent : Type 0
QuotedAsSent = (c : ℕ) → IsTrue (is_told c) → quoted_command (key_of c none) ≡ SelfInsert 1 c

-- ---- a key without a row

-- the command to which a custom sequence is bound, or none
abbrev pub bound_command : Followed → Cmd
bound_command (Bound cmd) = cmd
bound_command (Unbound second) = Unknown

abbrev pub sequence : Situation → KeyEvent → PhrasePart Cmd
sequence s k = and_then s.input s.shown (key_sequence s k)
    (λ f input shown. answer_part (bound_command f))

abbrev pub common_done : Situation → KeyEvent → Option CommonAction → PhrasePart Cmd
common_done s k (Some (Give cmd)) = answer_part cmd
common_done s k (Some Paste) = quote_of_paste
common_done s k (Some Quote) = quote_part s.input
common_done s k None = sequence s k

abbrev pub common : Situation → KeyEvent → PhrasePart Cmd
common s k = common_done s k (common_action s.input.mode s.shown s.n s.positive k)

-- ---- before the tables

-- the command of a key that has a meaning for the terminal; the end of input counts only in an
-- empty line
abbrev pub if_empty : Shown → Option Cmd → Option Cmd
if_empty shown (Some EndOfFile) = if has_text shown then None else Some EndOfFile
if_empty shown cmd = cmd

abbrev pub terminal_command : Shown → KeyEvent → Option Cmd
terminal_command shown k = if_empty shown (signal_of k)

-- a custom binding comes first, then the terminal's, then the table. A bound command is repeated
-- with this count, if there is one
abbrev pub decision_of : Option ℕ → Situation → KeyEvent → PhrasePart Cmd → PhrasePart Cmd
decision_of new s k table =
    let unbound = option_map_or answer_part (terminal_command s.shown k) table in
    reply_then (λ bound. option_map_or (λ cmd. anew_or cmd new s.shown cmd) bound unbound)
    (custom_answer s k)
