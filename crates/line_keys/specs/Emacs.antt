-- The keys of Emacs mode.
use Rattle.std.specs.Prelude.{ℕ, Bool, List, [], ◌∷◌, ◌++◌, Option, Some, None, codes, unwrap_or, option_map}
use Rattle.line_buffer.specs.declared.types.CharSearch.{CharSearch}
use Rattle.line_buffer.specs.declared.types.Movement.{Movement}
use Rattle.line_buffer.specs.declared.types.Movement.TheVariants.{BeginningOfLine, EndOfLine, BackwardChar, ForwardChar, BackwardWord, ForwardWord, ViCharSearch}
use Rattle.line_buffer.specs.declared.types.Word.TheVariants.{Emacs as EmacsWord}
use Rattle.line_buffer.specs.declared.types.At.TheVariants.{AfterEnd}
use Rattle.line_keys.specs.declared.command.Cmd.{Cmd}
use Rattle.line_keys.specs.declared.command.Cmd.TheVariants.{Abort, BeginningOfHistory, CapitalizeWord, ClearScreen, Complete, CompleteBackward, CompleteHint, DowncaseWord, EndOfHistory, Kill, Move, NextHistory, PreviousHistory, SelfInsert, TransposeWords, Undo, Unknown, UpcaseWord, YankPop}
use Rattle.line_keys.specs.declared.key.KeyCode.TheVariants.{BackTab, Backspace, Esc, Left, Right, Tab}
use Rattle.line_keys.specs.declared.key.KeyEvent.{KeyEvent}
use Rattle.line_keys.specs.CustomBindings.{Custom}
use Rattle.line_keys.specs.Common.{at_hint, common, decision_of}
use Rattle.line_keys.specs.Counts.{count_and_key, how_often, is_plus}
use Rattle.line_keys.specs.CustomKeys.{Situation, situation, key_sequence}
use Rattle.line_keys.specs.declared.keymap.custom.Followed.{Followed}
use Rattle.line_keys.specs.declared.keymap.custom.Followed.TheVariants.{Bound, Unbound}
use Rattle.line_keys.specs.declared.keymap.emacs.EmacsAction.{EmacsAction}
use Rattle.line_keys.specs.declared.keymap.emacs.EmacsAction.TheVariants.{Give, Seek, LeadOn}
use Rattle.line_keys.specs.declared.keymap.vi.motion.Search.TheVariants.{ForwardBefore, Backward}
use Rattle.line_keys.specs.Keys.{none, ctrl, alt, ctrl_alt, char_with}
use Rattle.line_keys.specs.PhraseScripts.{Input, PhrasePart, answer_part, from_key, and_then}
use Rattle.line_keys.specs.Refreshing.{Shown}
use Rattle.line_keys.specs.Tables.{Row, always, by_count, by_sign, moves, kills, key_named, char, two_chars, each_char, only, look}
use Rattle.line_keys.specs.ViMotions.{search_of}

-- back over words, and forward over them
abbrev pub back : ℕ → Movement
back n = BackwardWord n EmacsWord

abbrev pub ahead : ℕ → Movement
ahead n = ForwardWord n AfterEnd EmacsWord

-- ---- the table

abbrev pub typed_rows : List (Row EmacsAction)
typed_rows = each_char none (λ c. by_sign (λ n. Give (SelfInsert n c)) (λ n. Give Unknown)) ∷ []

abbrev pub emacs_command_rows : Shown → List (Row EmacsAction)
emacs_command_rows shown =
    char (codes "A") ctrl (always (Give (Move BeginningOfLine)))
    ∷ char (codes "E") ctrl (always (Give (Move EndOfLine)))
    ∷ char (codes "B") ctrl (moves Give BackwardChar ForwardChar)
    ∷ char (codes "F") ctrl (moves Give ForwardChar BackwardChar)
    ∷ two_chars (codes "Bb") alt (moves Give back ahead)
    ∷ key_named Left alt (moves Give back ahead)
    ∷ key_named Left ctrl (moves Give back ahead)
    ∷ two_chars (codes "Ff") alt (moves Give ahead back)
    ∷ key_named Right alt (moves Give ahead back)
    ∷ key_named Right ctrl (moves Give ahead back)
    ∷ char (codes "H") ctrl (kills Give BackwardChar ForwardChar)
    ∷ key_named Backspace none (kills Give BackwardChar ForwardChar)
    ∷ char (codes "K") ctrl (kills Give (λ n. EndOfLine) (λ n. BeginningOfLine))
    ∷ key_named Backspace alt (kills Give back ahead)
    ∷ two_chars (codes "Dd") alt (kills Give ahead back)
    ∷ two_chars (codes "Yy") alt (always (Give YankPop))
    ∷ two_chars (codes "Tt") alt (by_count (λ n. Give (TransposeWords n)))
    ∷ two_chars (codes "Cc") alt (always (Give CapitalizeWord))
    ∷ two_chars (codes "Ll") alt (always (Give DowncaseWord))
    ∷ two_chars (codes "Uu") alt (always (Give UpcaseWord))
    ∷ key_named Tab none (by_sign (λ n. Give Complete) (λ n. Give CompleteBackward))
    ∷ char (codes "I") ctrl (by_sign (λ n. Give Complete) (λ n. Give CompleteBackward))
    ∷ key_named BackTab none (always (Give CompleteBackward))
    ∷ only (at_hint shown) (key_named Right none (always (Give CompleteHint)))
    ∷ char (codes "N") ctrl (always (Give NextHistory))
    ∷ char (codes "P") ctrl (always (Give PreviousHistory))
    ∷ char (codes "<") alt (always (Give BeginningOfHistory))
    ∷ char (codes ">") alt (always (Give EndOfHistory))
    ∷ char (codes "L") ctrl (always (Give ClearScreen))
    ∷ char (codes "G") ctrl (always (Give Abort))
    ∷ char (codes "G") ctrl_alt (always (Give Abort))
    ∷ key_named Esc none (always (Give Abort))
    ∷ []

abbrev pub emacs_reading_rows : List (Row EmacsAction)
emacs_reading_rows =
    char (codes "]") ctrl (by_sign (λ n. Seek ForwardBefore) (λ n. Seek Backward))
    ∷ char (codes "]") ctrl_alt (by_sign (λ n. Seek Backward) (λ n. Seek ForwardBefore))
    ∷ char (codes "X") ctrl (always LeadOn)
    ∷ []

-- the action of a key, if it has a row
unfoldable pub emacs_action : Shown → ℕ → Bool → KeyEvent → Option EmacsAction
emacs_action shown n positive k =
    look n positive k (typed_rows ++ (emacs_command_rows shown ++ emacs_reading_rows))

-- ---- keys after which more is read

-- the move by a search for a character, if one was typed
abbrev pub move_to_char : ℕ → (ℕ → CharSearch) → Option ℕ → Cmd
move_to_char n search c = unwrap_or (option_map (λ c. Move (ViCharSearch n (search c))) c) Unknown

-- the command of the key after C-X
abbrev pub second_command : ℕ → Bool → KeyEvent → Cmd
second_command n positive k = unwrap_or (look n positive k (
    char (codes "U") ctrl (by_count Undo)
    ∷ key_named Backspace none (by_sign (λ n. Kill BeginningOfLine) (λ n. Kill EndOfLine))
    ∷ char (codes "G") ctrl (always Abort)
    ∷ key_named Esc none (always Abort)
    ∷ [])) Unknown

-- after an unbound sequence its second key decides; it is read now if it wasn't
abbrev pub after_first_key : ℕ → Bool → Followed → PhrasePart Cmd
after_first_key n positive (Bound cmd) = answer_part cmd
after_first_key n positive (Unbound (Some k)) = answer_part (second_command n positive k)
after_first_key n positive (Unbound None) = from_key (second_command n positive)

abbrev pub emacs_done : Situation → KeyEvent → Option EmacsAction → PhrasePart Cmd
emacs_done s k (Some (Give cmd)) = answer_part cmd
emacs_done s k (Some (Seek search)) =
    from_key (λ next. move_to_char s.n (search_of search) (char_with none next))
emacs_done s k (Some LeadOn) =
    and_then s.input s.shown (key_sequence s k) (λ f input shown. after_first_key s.n s.positive f)
emacs_done s k None = common s k

abbrev pub emacs_command : Situation → KeyEvent → PhrasePart Cmd
emacs_command s k = emacs_done s k (emacs_action s.shown s.n s.positive k)

-- a bound command is repeated as often as the count says
abbrev pub emacs_decided : Situation → KeyEvent → PhrasePart Cmd
emacs_decided s k = decision_of (Some s.n) s k (emacs_command s k)

-- the phrase whose first key is k, which may start a count
abbrev pub emacs_phrase : Custom → Input → Shown → KeyEvent → PhrasePart Cmd
emacs_phrase custom input shown k = and_then input shown (count_and_key input.mode k) (λ f i seen.
    emacs_decided (situation custom i seen (how_often f.0) (is_plus f.0)) f.1)
