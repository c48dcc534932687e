-- Vi's tables.
use Rattle.std.specs.Prelude.{ℕ, Bool, true, List, [], ◌∷◌, ◌++◌, Option, None, codes, if◌then◌else◌}
use Rattle.std.specs.Option.{option_or}
use Rattle.line_buffer.specs.declared.types.Movement.{Movement}
use Rattle.line_buffer.specs.declared.types.Movement.TheVariants.{WholeLine, BeginningOfLine, EndOfLine, BackwardWord, ForwardWord, ViFirstPrint, BackwardChar, ForwardChar, LineUp, LineDown}
use Rattle.line_buffer.specs.declared.types.Word.TheVariants.{Big, Vi}
use Rattle.line_buffer.specs.declared.types.At.{At}
use Rattle.line_buffer.specs.declared.types.At.TheVariants.{Start, BeforeEnd, AfterEnd}
use Rattle.line_buffer.specs.declared.types.Anchor.TheVariants.{After, Before}
use Rattle.line_keys.specs.declared.command.Cmd.TheVariants.{Abort, ClearScreen, Complete, CompleteBackward, CompleteHint, ForwardSearchHistory, Kill, LineDownOrNextHistory, LineUpOrPreviousHistory, Move, NextHistory, Noop, PreviousHistory, Replace, ReverseSearchHistory, SearchAgain, Undo, Yank}
use Rattle.line_keys.specs.declared.command.InputMode.TheVariants.{Insert, Replace as Overwriting}
use Rattle.line_keys.specs.declared.command.SearchAgain.TheVariants.{Same, Opposite}
use Rattle.line_keys.specs.declared.key.KeyCode.TheVariants.{BackTab, Backspace, End, Esc, Right, Tab}
use Rattle.line_keys.specs.declared.key.KeyEvent.{KeyEvent}
use Rattle.line_keys.specs.declared.keymap.vi.motion.Motion.{Motion}
use Rattle.line_keys.specs.declared.keymap.vi.motion.Motion.TheVariants.{Go, Seek, Again, Back}
use Rattle.line_keys.specs.declared.keymap.vi.motion.Search.{Search}
use Rattle.line_keys.specs.declared.keymap.vi.motion.Search.TheVariants.{Forward, ForwardBefore, Backward, BackwardAfter}
use Rattle.line_keys.specs.declared.keymap.vi.table.ViAction.{ViAction}
use Rattle.line_keys.specs.declared.keymap.vi.table.ViAction.TheVariants as action
use Rattle.line_keys.specs.declared.keymap.vi.table.ViAction.TheVariants.{Give}
use Rattle.line_keys.specs.declared.keymap.vi.table.InsertAction.{InsertAction}
use Rattle.line_keys.specs.declared.keymap.vi.table.InsertAction.TheVariants as inserting
use Rattle.line_keys.specs.declared.keymap.vi.table.Operator.TheVariants as operators
use Rattle.line_keys.specs.Common.{at_hint}
use Rattle.line_keys.specs.Keys.{none, ctrl, alt}
use Rattle.line_keys.specs.Refreshing.{Shown}
use Rattle.line_keys.specs.Tables.{Row, always, by_count, key_named, char, two_chars, each_char, only, look}

-- ---- insert mode

-- the action of a key in insert and replace mode, if it has a row; `modal` says whether commands
-- act that go on over several keys
unfoldable pub insert_action : Bool → Shown → KeyEvent → Option InsertAction
insert_action modal shown k = look 1 true k (
    each_char none (λ c. always (inserting.Typed c))
    ∷ char (codes "H") ctrl (always (inserting.Give (Kill (BackwardChar 1))))
    ∷ key_named Backspace none (always (inserting.Give (Kill (BackwardChar 1))))
    ∷ key_named Tab none (always (inserting.Give Complete))
    ∷ char (codes "I") ctrl (always (inserting.Give Complete))
    ∷ key_named BackTab none (always (inserting.Give CompleteBackward))
    ∷ only (at_hint shown) (key_named Right none (always (inserting.Give CompleteHint)))
    ∷ only modal (char (codes "G") ctrl (always (inserting.Give Abort)))
    ∷ key_named Esc none (always (inserting.Leave (Move (BackwardChar 1))))
    ∷ each_char alt (λ c. always (inserting.Command c))
    ∷ [])

-- ---- motions

-- movements, by themselves and after an operator, which differ in the end of a word, and in what
-- leads to other rows
abbrev pub moving_rows : {X : Type 0} → (Movement → X) → At → (ℕ → X) → (ℕ → X) → List (Row X)
moving_rows go end down up =
    char (codes "0") none (always (go BeginningOfLine))
    ∷ char (codes "$") none (always (go EndOfLine))
    ∷ char (codes "^") none (always (go ViFirstPrint))
    ∷ char (codes "h") none (by_count (λ n. go (BackwardChar n)))
    ∷ char (codes "H") ctrl (by_count (λ n. go (BackwardChar n)))
    ∷ key_named Backspace none (by_count (λ n. go (BackwardChar n)))
    ∷ two_chars (codes "l ") none (by_count (λ n. go (ForwardChar n)))
    ∷ char (codes "w") none (by_count (λ n. go (ForwardWord n Start Vi)))
    ∷ char (codes "W") none (by_count (λ n. go (ForwardWord n Start Big)))
    ∷ char (codes "b") none (by_count (λ n. go (BackwardWord n Vi)))
    ∷ char (codes "B") none (by_count (λ n. go (BackwardWord n Big)))
    ∷ char (codes "e") none (by_count (λ n. go (ForwardWord n end Vi)))
    ∷ char (codes "E") none (by_count (λ n. go (ForwardWord n end Big)))
    ∷ two_chars (codes "j+") none (by_count down)
    ∷ two_chars (codes "k-") none (by_count up)
    ∷ []

-- searches for a character
abbrev pub seeking_rows : {X : Type 0} → (Search → X) → X → X → List (Row X)
seeking_rows seek again back =
    char (codes "f") none (always (seek Forward))
    ∷ char (codes "F") none (always (seek Backward))
    ∷ char (codes "t") none (always (seek ForwardBefore))
    ∷ char (codes "T") none (always (seek BackwardAfter))
    ∷ char (codes ";") none (always again)
    ∷ char (codes ",") none (always back)
    ∷ []

-- ---- after an operator

abbrev pub motion_rows : List (Row Motion)
motion_rows = moving_rows Go AfterEnd (λ n. Go (LineDown n)) (λ n. Go (LineUp n))
    ++ seeking_rows Seek Again Back

-- a change doesn't include blanks after a word
abbrev pub change_motion_rows : List (Row Motion)
change_motion_rows =
    char (codes "w") none (by_count (λ n. Go (ForwardWord n AfterEnd Vi)))
    ∷ char (codes "W") none (by_count (λ n. Go (ForwardWord n AfterEnd Big)))
    ∷ []

unfoldable pub motion_of : Bool → ℕ → KeyEvent → Option Motion
motion_of changing n k =
    if changing then option_or (look n true k change_motion_rows) (look n true k motion_rows)
    else look n true k motion_rows

-- ---- command mode

-- up and down lead to the history if there is no further row
abbrev pub vi_move_rows : List (Row ViAction)
vi_move_rows =
    key_named End none (always (Give (Move EndOfLine)))
    ∷ moving_rows (λ m. Give (Move m)) BeforeEnd
    (λ n. Give (LineDownOrNextHistory n)) (λ n. Give (LineUpOrPreviousHistory n))

-- edits without a motion, and other rows
abbrev pub vi_edit_rows : Bool → List (Row ViAction)
vi_edit_rows modal =
    char (codes "x") none (by_count (λ n. Give (Kill (ForwardChar n))))
    ∷ char (codes "X") none (by_count (λ n. Give (Kill (BackwardChar n))))
    ∷ char (codes "D") none (always (Give (Kill EndOfLine)))
    ∷ char (codes "K") ctrl (always (Give (Kill EndOfLine)))
    ∷ char (codes "p") none (by_count (λ n. Give (Yank n After)))
    ∷ char (codes "P") none (by_count (λ n. Give (Yank n Before)))
    ∷ char (codes "u") none (by_count (λ n. Give (Undo n)))
    ∷ only modal (char (codes "n") none (always (Give (SearchAgain Same))))
    ∷ only modal (char (codes "N") none (always (Give (SearchAgain Opposite))))
    ∷ char (codes "N") ctrl (always (Give NextHistory))
    ∷ char (codes "P") ctrl (always (Give PreviousHistory))
    ∷ char (codes "L") ctrl (always (Give ClearScreen))
    ∷ char (codes "G") ctrl (always (Give Abort))
    ∷ key_named Esc none (always (Give Noop))
    ∷ []

-- keys that leave command mode
abbrev pub vi_turn_rows : Bool → List (Row ViAction)
vi_turn_rows modal =
    char (codes "i") none (always (action.Insert Noop))
    ∷ char (codes "I") none (always (action.Insert (Move BeginningOfLine)))
    ∷ char (codes "a") none (by_count (λ n. action.Insert (Move (ForwardChar n))))
    ∷ char (codes "A") none (always (action.Insert (Move EndOfLine)))
    ∷ char (codes "C") none (always (action.Turn Insert (Replace EndOfLine None)))
    ∷ char (codes "S") none (always (action.Turn Insert (Replace WholeLine None)))
    ∷ char (codes "s") none (by_count (λ n. action.Turn Insert (Replace (ForwardChar n) None)))
    ∷ char (codes "R") none (always (action.Turn Overwriting (Replace (ForwardChar 0) None)))
    ∷ char (codes "R") ctrl (always (action.Turn Insert ReverseSearchHistory))
    ∷ char (codes "S") ctrl (always (action.Turn Insert ForwardSearchHistory))
    ∷ only modal (char (codes "/") none (always (action.Turn Insert ReverseSearchHistory)))
    ∷ only modal (char (codes "?") none (always (action.Turn Insert ForwardSearchHistory)))
    ∷ []

-- keys after which more is read, or which use the last search or change
abbrev pub vi_reading_rows : List (Row ViAction)
vi_reading_rows =
    char (codes "r") none (always action.Replace)
    ∷ char (codes ".") none (always action.Repeat)
    ∷ char (codes "d") none (always (action.Operate operators.Delete))
    ∷ char (codes "y") none (always (action.Operate operators.Yank))
    ∷ char (codes "<") none (always (action.Operate operators.Dedent))
    ∷ char (codes ">") none (always (action.Operate operators.Indent))
    ∷ char (codes "c") none (always (action.Operate operators.Change))
    ∷ seeking_rows action.Search action.Again action.Back

-- the action of a key in command mode, if it has a row
unfoldable pub action_of : Bool → ℕ → KeyEvent → Option ViAction
action_of modal n k = look n true k
    (vi_move_rows ++ (vi_edit_rows modal ++ (vi_turn_rows modal ++ vi_reading_rows)))
