-- Counts: signed numbers typed before a key, with a prompt for each digit.
use Rattle.std.specs.Fmt.{signed_decimal}
use Rattle.std.specs.Prelude.{ℕ, ◌-◌, ◌==◌, nat_le, nat_lt, ℤ, pos, neg_ℤ, ◌+ℤ◌, ◌*ℤ◌, nat_abs, int_lt, Bool, true, not, ◌&&◌, List, ◌++◌, codes, if◌then◌else◌, Option, Some, None, option_map, zero, suc, ◌*◌, min}
use Rattle.std.specs.Option.{option_or, option_and_then, option_map_or}
use Rattle.script.specs.Scripts.{Ends, Asks}
use Rattle.line_config.specs.declared.errors.ReadlineError.TheVariants.{Memory}
use Rattle.line_config.specs.declared.settings.EditMode.{EditMode}
use Rattle.line_config.specs.declared.settings.EditMode.TheVariants.{Emacs, Vi}
use Rattle.line_keys.specs.declared.key.KeyEvent.{KeyEvent}
use Rattle.line_keys.specs.declared.keymap.count.SignedCount.{SignedCount}
use Rattle.line_keys.specs.KeyFeeds.{Key}
use Rattle.line_keys.specs.Keys.{none, alt, char_with}
use Rattle.line_keys.specs.PhraseScripts.{Needs, Shows, Reads, KeyScript, PhrasePart, Upto, answer_part, error_script}
use Rattle.line_keys.specs.Refreshing.{Line, Prompted}

-- a key, after the typed count, if there is one
abbrev pub Counted : Type 0
Counted = Option ℤ × KeyEvent

-- how often a command is repeated: once if no count was typed, and if it is 0
abbrev pub how_often : Option ℤ → ℕ
how_often None = 1
how_often (Some c) = if nat_abs c == 0 then 1 else nat_abs c

-- the sign of a count; without one it is plus
abbrev pub is_plus : Option ℤ → Bool
is_plus None = true
is_plus (Some c) = not (int_lt c (pos 0))

-- the count of a command, by the count that was typed
abbrev pub signed_count : Option ℤ → SignedCount
signed_count typed = record { n = how_often typed; positive = is_plus typed }

-- one more digit: after -1, for which a minus alone stands, it replaces the 1; else it is added to
-- ten times the count, up to four digits
abbrev pub and_digit : ℤ → ℕ → ℤ
and_digit c d =
    if int_lt c (pos 0) && (nat_abs c == 1) then neg_ℤ (pos d)
    else if nat_lt (nat_abs c) 1000 then pos 10 *ℤ c +ℤ pos d
    else c

abbrev pub prompt_for : ℤ → List ℕ
prompt_for c = codes "(arg: " ++ (signed_decimal c ++ codes ") ")

-- the digit of a character: 30 is 0 and 39 is 9
abbrev pub digit_char : ℕ → Option ℕ
digit_char char = if nat_le 0x30 char && nat_le char 0x39 then Some (char - 0x30) else None

-- the digit of a key without modifiers
abbrev pub digit_of : KeyEvent → Option ℕ
digit_of k = option_and_then digit_char (char_with none k)

-- a count with one more character: a digit, or a minus (2D), which is ignored
abbrev pub count_with_char : ℤ → ℕ → Option ℤ
count_with_char c char = if char == 0x2D then Some c else option_map (and_digit c) (digit_char char)

-- a count with one more key, in Emacs mode also with Alt; any other key ends it
abbrev pub count_with_key : EditMode → ℤ → KeyEvent → Option ℤ
count_with_key Emacs c k =
    option_and_then (count_with_char c) (option_or (char_with none k) (char_with alt k))
count_with_key Vi c k = option_map (and_digit c) (digit_of k)

-- the count that a character starts: a digit, or a minus, which alone stands for -1
abbrev pub count_from_char : ℕ → Option ℤ
count_from_char char =
    if char == 0x2D then Some (neg_ℤ (pos 1)) else option_map pos (digit_char char)

-- the count that a key starts: in Emacs mode with Alt, in Vi's command mode by a digit other than 0
abbrev pub count_from_key : EditMode → KeyEvent → Option ℤ
count_from_key Emacs k = option_and_then count_from_char (char_with alt k)
count_from_key Vi k = option_and_then (λ d. if d == 0 then None else Some (pos d)) (digit_of k)

-- ---- a count and the key after it

-- what a key means after a count: one more of its keys, or the key after it, before which the line
-- is redrawn
abbrev pub rest_of_count_by : (ℤ → KeyScript Counted) → ℤ → KeyEvent → Option ℤ → KeyScript Counted
rest_of_count_by more c k (Some d) = more d
rest_of_count_by more c k None = Asks (Shows Line) (λ shown. Ends (Some c, k))

-- a prompt takes memory
abbrev pub prompting : ℤ → KeyScript Counted → KeyScript Counted
prompting c next = Asks Needs (λ none. Asks (Shows (Prompted (prompt_for c))) (λ shown. next))

-- the rest of a count, with the keys that `on` accepts: before each further key a prompt is drawn
abbrev pub rest_of_count_in : (ℤ → KeyEvent → Option ℤ) → ℤ → ℕ → KeyScript Counted
rest_of_count_in on c zero = error_script Memory
rest_of_count_in on c (suc n) =
    Asks (Reads Key) (λ k. rest_of_count_by (λ d. prompting d (rest_of_count_in on d n)) c k
    (on c k))

unfoldable pub rest_of_count : (ℤ → KeyEvent → Option ℤ) → ℤ → PhrasePart Counted
rest_of_count on c = Upto (λ n. prompting c (rest_of_count_in on c n))

-- the key; if it starts a count, the count and the key after it
abbrev pub count_and_key : EditMode → KeyEvent → PhrasePart Counted
count_and_key mode k = option_map_or (rest_of_count (count_with_key mode)) (count_from_key mode k)
    (answer_part (None, k))

-- the count, if one was typed
abbrev pub typed_count : Option ℤ → Option ℕ
typed_count = option_map nat_abs

-- the count of a motion: an operator's times the one before the motion, up to the greatest
abbrev pub count_times : ℕ → Option ℤ → ℕ
count_times n second = min (how_often second * n) 65535
