-- Texts with control sequences (ECMA-48): the text without them, and the styles that SGR gives it.
use Rattle.std.specs.Prelude.{◌≡◌, ◌≢◌, ◌<◌, ◌≤◌, ⊤, ℕ, zero, suc, ◌+◌, ◌-◌, ◌*◌, ◌==◌, ◌&&◌, ◌||◌, nat_lt, min, Bool, true, false, if◌then◌else◌, List, [], ◌∷◌, ◌++◌, length, take, drop, slice_get, slice_index, sum_by, replicate, Option, None, Some, option_map}
use Rattle.std.specs.Borrow.{Bor}
use Rattle.std.specs.Int.{is_in_range}
use Rattle.std.specs.Option.{option_and_then, option_map_or}
use Rattle.line_help.specs.declared.helpers.style_split.Open.{Open}
use Rattle.line_help.specs.declared.helpers.style_split.Open.TheVariants.{Nothing, Kind, Index, Parts, OnePart, TwoParts, Dropped}
use Rattle.line_help.specs.declared.helpers.style.Colour.{Colour}
use Rattle.line_help.specs.declared.helpers.style.Colour.TheVariants.{Terminal, Basic, Bright, Palette, Rgb}
use Rattle.line_help.specs.declared.helpers.style.Hue.{Hue}
use Rattle.line_help.specs.declared.helpers.style.Hue.TheVariants.{Black, Red, Green, Yellow, Blue, Magenta, Cyan, White}
use Rattle.line_help.specs.declared.helpers.style.Span.{Span}
use Rattle.line_help.specs.declared.helpers.style.Style.{Style}
use Rattle.line_help.specs.Paints.{plain, span_styles}

-- ---- the pieces of a text

-- a text consists of control sequences, each with its bytes after ESC [, and of other bytes
pub data Piece : Type 0 where
  Byte : ℕ → Piece
  Sequence : List ℕ → Piece

-- the length of such a sequence: parameters and the bytes between, and then a final byte
abbrev pub final_len : List ℕ → Option ℕ
final_len [] = None
final_len (b ∷ bs) = if is_in_range 0x40 0x7E b then Some 1
    else if is_in_range 0x20 0x3F b then option_map suc (final_len bs) else None

-- how many bytes after this one belong to a control sequence with it: 0 if it begins none
abbrev pub sequence_len : ℕ → List ℕ → ℕ
sequence_len b [] = 0
sequence_len b (c ∷ bs) =
    if b == 0x1B && c == 0x5B then option_map_or suc (final_len bs) 0 else 0

abbrev pub piece : ℕ → List ℕ → ℕ → Piece
piece b bs zero = Byte b
piece b bs (suc len) = Sequence (take len (drop 1 bs))

-- the pieces after so many bytes, which belong to a sequence that began before them
abbrev pub pieces_after : ℕ → List ℕ → List Piece
pieces_after n [] = []
pieces_after (suc n) (b ∷ bs) = pieces_after n bs
pieces_after zero (b ∷ bs) = piece b bs (sequence_len b bs) ∷ pieces_after (sequence_len b bs) bs

-- ---- styles by numbers

abbrev pub hue_at : ℕ → Option Hue
hue_at n = if n == 0 then Some Black else if n == 1 then Some Red else if n == 2 then Some Green
    else if n == 3 then Some Yellow else if n == 4 then Some Blue else if n == 5 then Some Magenta
    else if n == 6 then Some Cyan else if n == 7 then Some White else None

-- after eight hues and one number without a meaning comes the terminal's own colour
abbrev pub colour_at : ℕ → Option Colour
colour_at n = if n == 9 then Some Terminal else option_map Basic (hue_at n)

abbrev pub bright_at : ℕ → Option Colour
bright_at n = option_map Bright (hue_at n)

-- a style with another colour, of the background or of the text; None changes nothing
abbrev pub with_colour : Bool → Option Colour → Style → Style
with_colour back None s = s
with_colour true (Some colour) s = record s { background = colour }
with_colour false (Some colour) s = record s { text = colour }

abbrev pub with_colour_number : ℕ → Style → Style
with_colour_number n s =
    if is_in_range 30 39 n then with_colour false (colour_at (n - 30)) s
    else if is_in_range 40 49 n then with_colour true (colour_at (n - 40)) s
    else if is_in_range 90 97 n then with_colour false (bright_at (n - 90)) s
    else if is_in_range 100 107 n then with_colour true (bright_at (n - 100)) s
    else s

-- what a number changes; one that isn't known changes nothing
abbrev pub with_number : ℕ → Style → Style
with_number n s = if n == 0 then plain
    else if n == 1 then record s { bold = true }
    else if n == 2 then record s { faint = true }
    else if n == 3 then record s { italic = true }
    else if n == 4 then record s { underline = true }
    else if n == 7 then record s { reverse = true }
    else if n == 22 then record s { bold = false; faint = false }
    else if n == 23 then record s { italic = false }
    else if n == 24 then record s { underline = false }
    else if n == 27 then record s { reverse = false }
    else with_colour_number n s

abbrev pub palette : ℕ → Option Colour
palette n = if nat_lt n 256 then Some (Palette n) else None

abbrev pub rgb : ℕ → ℕ → ℕ → Option Colour
rgb r g b = if nat_lt r 256 && (nat_lt g 256 && nat_lt b 256) then Some (Rgb r g b) else None

abbrev pub rgb_in : List ℕ → Option Colour
rgb_in (r ∷ (g ∷ (b ∷ ns))) = rgb r g b
rgb_in ns = None

-- the colour that follows 38 or 48: 5 and a number, or 2 and three, each below 256
abbrev pub colour_in : List ℕ → Option Colour
colour_in [] = None
colour_in (kind ∷ ns) = if kind == 5 then option_and_then palette (slice_get ns 0)
    else if kind == 2 then rgb_in ns else None

-- how many numbers belong to it: all of them if the first is neither 5 nor 2
abbrev pub colour_len : List ℕ → ℕ
colour_len [] = 0
colour_len (kind ∷ ns) = if kind == 5 then 2 else if kind == 2 then 4 else suc (length ns)

-- what numbers change; so many of them belong to the colour of one before
abbrev pub style_after_numbers : ℕ → List ℕ → Style → Style
style_after_numbers skip [] s = s
style_after_numbers (suc k) (n ∷ ns) s = style_after_numbers k ns s
style_after_numbers zero (n ∷ ns) s =
    style_after_numbers (if n == 38 || n == 48 then colour_len ns else 0) ns
    (if n == 38 then with_colour false (colour_in ns) s
    else if n == 48 then with_colour true (colour_in ns) s else with_number n s)

-- the numbers up to m, if only digits and semicolons precede it. The first has begun with n, an
-- empty one is 0, and 999 stands for all above it
abbrev pub numbers_in : ℕ → List ℕ → Option (List ℕ)
numbers_in n [] = None
numbers_in n (b ∷ bs) =
    let next : ℕ = if b == 0x3B then 0 else min (n * 10 + (b - 0x30)) 999 in
    let rest : Option (List ℕ) = numbers_in next bs in
    if b == 0x6D then Some (n ∷ []) else if b == 0x3B then option_map (λ ns. n ∷ ns) rest
    else if is_in_range 0x30 0x39 b then rest else None

-- an SGR sequence changes the style, any other leaves it as it is
abbrev pub style_after : List ℕ → Style → Style
style_after sequence s = option_map_or (λ ns. style_after_numbers 0 ns s) (numbers_in 0 sequence) s

-- ---- the text, and the style of each of its bytes

abbrev pub text_of : List Piece → List ℕ
text_of [] = []
text_of (Byte b ∷ pieces) = b ∷ text_of pieces
text_of (Sequence sequence ∷ pieces) = text_of pieces

abbrev pub styles_of : Style → List Piece → List Style
styles_of s [] = []
styles_of s (Byte b ∷ pieces) = s ∷ styles_of s pieces
styles_of s (Sequence sequence ∷ pieces) = styles_of (style_after sequence s) pieces

-- each span has bytes, and another style than what follows it: the next one, or at last this style
abbrev pub Differ : List Span → Style → Type 0
Differ [] s = ⊤
Differ (span ∷ []) s = (0 < span.len) × (span.style ≢ s)
Differ (span ∷ (next ∷ spans)) s =
    (0 < span.len) × (span.style ≢ next.style) × Differ (next ∷ spans) s

-- a text is the bytes of another that belong to no control sequence, with spans for their styles
pub record Splits (shown text : List ℕ) (spans : List Span) : Type 0 where
  pub bytes : text ≡ text_of (pieces_after 0 shown)
  pub rest : ℕ
  pub styles : styles_of plain (pieces_after 0 shown) ≡ span_styles spans ++ replicate rest plain
  pub differ : Differ spans plain

-- a text without ESC stays as it is and has no spans; and spans are never longer than the text
abbrev pub TextStays : Type 0
TextStays = (shown text : List ℕ) (spans : List Span) → Splits shown text spans
    → ((i : ℕ) → i < length shown → slice_index shown i ≢ 0x1B) → (text ≡ shown) × (spans ≡ [])

abbrev pub SpansFit : Type 0
SpansFit = (shown text : List ℕ) (spans : List Span) → Splits shown text spans
    → sum_by (λ span. span.len) spans ≤ length text

-- ---- the steps of a split

-- the numbers of a colour that has begun; none follows 0
abbrev pub open_numbers : Open → List ℕ
open_numbers Nothing = []
open_numbers (Kind back) = (if back then 48 else 38) ∷ []
open_numbers (Index back) = (if back then 48 else 38) ∷ (5 ∷ [])
open_numbers (Parts back) = (if back then 48 else 38) ∷ (2 ∷ [])
open_numbers (OnePart back r) = (if back then 48 else 38) ∷ (2 ∷ (r ∷ []))
open_numbers (TwoParts back r g) = (if back then 48 else 38) ∷ (2 ∷ (r ∷ (g ∷ [])))
open_numbers Dropped = 38 ∷ (0 ∷ [])

-- the bytes of a control sequence after ESC [, and what follows it; none if there is no sequence
abbrev pub SplitsSequence : List ℕ → Option (Bor (List ℕ) × Bor (List ℕ)) → Type 0
SplitsSequence after None = sequence_len 0x1B after ≡ 0
SplitsSequence after (Some parts) = (after ≡ 0x5B ∷ (parts.0.now ++ parts.1.now))
    × (sequence_len 0x1B after ≡ suc (length parts.0.now))

-- spans before a place of a text, and one style from there on, which may be of no byte yet
pub record SpansStand (len start : ℕ) (spans : List Span) (style : Style) : Type 0 where
  pub within : start ≤ len
  pub differ : Differ spans style
  pub first : start ≡ len → spans ≡ []

abbrev pub styles_so_far : ℕ → ℕ → List Span → Style → List Style
styles_so_far len start spans style = span_styles spans ++ replicate (len - start) style
