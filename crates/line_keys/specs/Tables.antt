-- Tables from keys to actions: rows, and the lookup of a key.
use Rattle.std.specs.Prelude.{ℕ, ◌==◌, Bool, true, false, ◌&&◌, ◌||◌, List, [], ◌∷◌, get_or, if◌then◌else◌, Option, Some, None, is_some, unwrap_or}
use Rattle.line_buffer.specs.declared.types.Movement.{Movement}
use Rattle.line_keys.specs.declared.command.Cmd.{Cmd}
use Rattle.line_keys.specs.declared.command.Cmd.TheVariants.{Move, Kill}
use Rattle.line_keys.specs.declared.flags.Modifiers.{Modifiers}
use Rattle.line_keys.specs.declared.key.KeyCode.{KeyCode}
use Rattle.line_keys.specs.declared.key.KeyCode.TheVariants.{BackTab, Backspace, BracketedPasteStart, Char, Delete, Down, End, Enter, Esc, Home, Left, Right, Tab, UnknownEscSeq, Up}
use Rattle.line_keys.specs.declared.key.KeyEvent.{KeyEvent}
use Rattle.line_keys.specs.Keys.{char_in}

-- ---- what a row gives, depending on the count: its amount and whether it isn't negative

abbrev pub Giving : Type 0 → Type 0
Giving X = ℕ → Bool → X

-- the count doesn't matter
abbrev pub always : {X : Type 0} → X → Giving X
always x n positive = x

-- the amount matters
abbrev pub by_count : {X : Type 0} → (ℕ → X) → Giving X
by_count gives n positive = gives n

-- the sign matters too: first for a count that isn't negative, then for a negative one
abbrev pub by_sign : {X : Type 0} → (ℕ → X) → (ℕ → X) → Giving X
by_sign plus minus n positive = if positive then plus n else minus n

-- a motion by sign
abbrev pub moves : {X : Type 0} → (Cmd → X) → (ℕ → Movement) → (ℕ → Movement) → Giving X
moves give plus minus n positive = give (Move (if positive then plus n else minus n))

-- a kill by sign
abbrev pub kills : {X : Type 0} → (Cmd → X) → (ℕ → Movement) → (ℕ → Movement) → Giving X
kills give plus minus n positive = give (Kill (if positive then plus n else minus n))

-- ---- rows

pub record Row (X : Type 0) : Type 0 where
  -- its keys: their codes, and their modifiers
  pub fits : KeyCode → Bool
  pub modifiers : Modifiers
  -- whether the row applies
  pub stands : Bool
  pub gives : KeyCode → Giving X

-- a row's code is the key's: of the codes in tables
abbrev pub is_code : KeyCode → KeyCode → Bool
is_code (Char c) (Char d) = c == d
is_code BackTab BackTab = true
is_code Backspace Backspace = true
is_code BracketedPasteStart BracketedPasteStart = true
is_code Delete Delete = true
is_code Down Down = true
is_code End End = true
is_code Enter Enter = true
is_code Esc Esc = true
is_code Home Home = true
is_code Left Left = true
is_code Right Right = true
is_code Tab Tab = true
is_code UnknownEscSeq UnknownEscSeq = true
is_code Up Up = true
is_code a b = false

-- a key with a name
abbrev pub key_named : {X : Type 0} → KeyCode → Modifiers → Giving X → Row X
key_named code modifiers gives =
    record { fits = is_code code; modifiers = modifiers; stands = true; gives = λ other. gives }

-- the key of a text's one character
abbrev pub char : {X : Type 0} → List ℕ → Modifiers → Giving X → Row X
char text modifiers gives = key_named (Char (get_or text 0 0)) modifiers gives

-- the keys of a text's two characters
abbrev pub two_chars : {X : Type 0} → List ℕ → Modifiers → Giving X → Row X
two_chars text modifiers gives = record (char text modifiers gives) {
  fits = λ code. is_code (Char (get_or text 0 0)) code || is_code (Char (get_or text 1 0)) code;
}

-- the key of each character; what the row gives depends on it
abbrev pub each_char : {X : Type 0} → Modifiers → (ℕ → Giving X) → Row X
each_char modifiers gives = record {
  fits = λ code. is_some (char_in code);
  modifiers = modifiers;
  stands = true;
  gives = λ code. gives (unwrap_or (char_in code) 0);
}

-- a row that applies only on a condition
abbrev pub only : {X : Type 0} → Bool → Row X → Row X
only stands r = record r { stands = stands }

-- ---- lookup

-- the first row that has the key
abbrev pub first_row : {X : Type 0} → ℕ → Bool → KeyCode → ℕ → List (Row X) → Option X
first_row n positive code bits [] = None
first_row n positive code bits (r ∷ rows) =
    if (bits == r.modifiers.0) && (r.fits code && r.stands) then Some (r.gives code n positive)
    else first_row n positive code bits rows

abbrev pub look : {X : Type 0} → ℕ → Bool → KeyEvent → List (Row X) → Option X
look n positive k rows = first_row n positive k.0 k.1.0 rows
