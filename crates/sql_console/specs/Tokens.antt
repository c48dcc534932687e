-- The tokens of a statement, and how each is drawn.
use Rattle.std.specs.Prelude.{ℕ, zero, suc, ◌+◌, ◌-◌, ◌==◌, ◌||◌, ◌&&◌, nat_le, nat_lt, min, Bool, true, not, if◌then◌else◌, List, [], ◌∷◌, length, take, drop, slice_index}
use Rattle.std.specs.Char.{is_ascii_digit, is_ascii_alphanumeric}
use Rattle.std.specs.Cmp.Lexicographic.{slice_cmp}
use Rattle.std.specs.List.{list_any, prefix_len}
use Rattle.std.specs.Ordering.{is_lt, nat_cmp}
use Rattle.std.specs.Str.{str_eq_ignore_ascii_case, str_to_ascii_lowercase}
use Rattle.std.specs.declared.cmp.Ordering.{Ordering}
use Rattle.line_help.specs.declared.helpers.style.Colour.TheVariants.{Basic}
use Rattle.line_help.specs.declared.helpers.style.Hue.{Hue}
use Rattle.line_help.specs.declared.helpers.style.Hue.TheVariants.{Blue, Cyan, Green, Magenta}
use Rattle.line_help.specs.declared.helpers.style.Mark.{Mark}
use Rattle.line_help.specs.declared.helpers.style.Part.{Part}
use Rattle.line_help.specs.declared.helpers.style.Part.TheVariants.{Line}
use Rattle.line_help.specs.declared.helpers.style.Span.{Span}
use Rattle.line_help.specs.declared.helpers.style.Style.{Style}
use Rattle.line_help.specs.Paints.{plain, standard_paints}
use Rattle.sql_console.specs.declared.tokens.Class.{Class}
use Rattle.sql_console.specs.declared.tokens.Class.TheVariants.{Word, Quoted, Row}
use Rattle.sqlite_syntax.specs.declared.token.TheConstants.{KEYWORDS}

abbrev pub style_with_hue : Hue → Style
style_with_hue hue = record plain { text = Basic hue }

abbrev pub is_in : Class → ℕ → Bool
is_in Word c = is_ascii_alphanumeric c || (c == 0x5F || (c == 0x2E || nat_le 0x80 c))
is_in Quoted c = not (c == 0x27)
is_in Row c = not (c == 0x0A)

-- the first place from one on whose byte isn't of the class
abbrev pub past : Class → List ℕ → ℕ → ℕ
past class text at = at + prefix_len (is_in class) (drop at text)

-- which of two words is first in the alphabet, in whatever case they are
abbrev pub alphabet : List ℕ → List ℕ → Ordering
alphabet a b = slice_cmp nat_cmp (str_to_ascii_lowercase a) (str_to_ascii_lowercase b)

-- no element's word is before that of the element in front of it
abbrev pub is_alphabetical : {X : Type 0} → (X → List ℕ) → List X → Bool
is_alphabetical word_of [] = true
is_alphabetical word_of (x ∷ []) = true
is_alphabetical word_of (x ∷ y ∷ xs) =
    not (is_lt (alphabet (word_of y) (word_of x))) && is_alphabetical word_of (y ∷ xs)

unfoldable pub is_keyword : List ℕ → Bool
is_keyword word = list_any (λ k. str_eq_ignore_ascii_case k.0.now word) KEYWORDS

-- a number, which begins with a digit, is magenta, a keyword bold and blue
abbrev pub word_style : List ℕ → Style
word_style word =
    if is_ascii_digit (slice_index word 0) then style_with_hue Magenta
    else if is_keyword word then record (style_with_hue Blue) { bold = true } else plain

-- how a text begins: with a string up to its quote, which is green; with a comment up to the row's
-- end, which is cyan; with a word; or with another byte, which is plain
unfoldable pub first_token : List ℕ → Span
first_token text =
    if slice_index text 0 == 0x27
    then record { len = min (length text) (past Quoted text 1 + 1); style = style_with_hue Green }
    else if (slice_index text 0 == 0x2D) && (nat_lt 1 (length text) && (slice_index text 1 == 0x2D))
    then record { len = past Row text 0; style = style_with_hue Cyan }
    else if is_in Word (slice_index text 0)
    then record { len = past Word text 0; style = word_style (take (past Word text 0) text) }
    else record { len = 1; style = plain }

-- the tokens of a text from a place on
abbrev pub tokens_from : ℕ → List ℕ → List Span
tokens_from place [] = []
tokens_from (suc place) (c ∷ text) = tokens_from place text
tokens_from zero (c ∷ text) =
    first_token (c ∷ text) ∷ tokens_from ((first_token (c ∷ text)).len - 1) text

-- a line is drawn by its tokens, and a hint or a message as the standard highlighter does
abbrev pub statement_paints : Part → List ℕ → Mark → List Span
statement_paints (Line pos) text from = tokens_from from.at text
statement_paints part text from = standard_paints part text from
