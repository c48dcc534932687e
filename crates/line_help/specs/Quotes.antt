-- Escapes and quotes, read like a shell does.
use Rattle.std.specs.Prelude.{◌≡◌, ℕ, ◌+◌, ◌==◌, ◌&&◌, Bool, true, false, if◌then◌else◌, List, [], ◌∷◌, flat_map, Option, Some, None, encode_utf8_all, ◌≢◌, ◌⊎◌, ◌↔◌, ◌++◌, length}
use Rattle.std.specs.Str.{chars}
use Rattle.std.specs.Char.{IsScalar}
use Rattle.std.specs.Option.{option_map_or}
use Rattle.line_help.specs.declared.completion.quotes.Quote.{Quote}
use Rattle.line_help.specs.declared.completion.quotes.Quote.TheVariants.{Double, Single, None as Unquoted}

-- a closure answers like this test of characters
abbrev pub Tells : (ℕ → Bool → Type 0) → (ℕ → Bool) → Type 0
Tells answers test = (c : ℕ) (answer : Bool) → IsScalar c → answers c answer → answer ≡ test c

-- an escape stands for the character after it, and at the end for nothing
abbrev pub unescaped_chars : ℕ → List ℕ → List ℕ
unescaped_chars esc [] = []
unescaped_chars esc (c ∷ []) = if c == esc then [] else c ∷ []
unescaped_chars esc (c ∷ (d ∷ cs)) =
    if c == esc then d ∷ unescaped_chars esc cs else c ∷ unescaped_chars esc (d ∷ cs)

abbrev pub text_without_escapes : List ℕ → Option ℕ → List ℕ
text_without_escapes text None = text
text_without_escapes text (Some esc) = encode_utf8_all (unescaped_chars esc (chars text))

-- an escape before each break character
abbrev pub escaped_chars : ℕ → (ℕ → Bool) → List ℕ → List ℕ
escaped_chars esc breaks cs = flat_map (λ c. if breaks c then esc ∷ c ∷ [] else c ∷ []) cs

-- nothing is escaped between single quotes
abbrev pub escape_in : Quote → Option ℕ → Option ℕ
escape_in Single esc = None
escape_in quote esc = esc

abbrev pub text_with_escapes : List ℕ → Option ℕ → (ℕ → Bool) → Quote → List ℕ
text_with_escapes text esc breaks quote = option_map_or
    (λ e. encode_utf8_all (escaped_chars e breaks (chars text))) (escape_in quote esc) text

-- whether a backslash is an escape, by the open quote: it is one outside and between double quotes
abbrev pub escapes_at : Option (ℕ × Quote) → Bool
escapes_at None = true
escapes_at (Some (place, Double)) = true
escapes_at within = false

-- the byte that closes a quote
abbrev pub closes_quote : Quote → ℕ → Bool
closes_quote Double b = b == 34
closes_quote Single b = b == 39
closes_quote Unquoted b = false

-- a byte at a place, which no backslash escapes, opens a quote, closes it or does neither
abbrev pub quote_after : ℕ → ℕ → Option (ℕ × Quote) → Option (ℕ × Quote)
quote_after place b None =
    if b == 34 then Some (place, Double) else if b == 39 then Some (place, Single) else None
quote_after place b (Some within) = if closes_quote within.1 b then None else Some within

-- the quote that is open after these bytes, which start at a place
abbrev pub open_behind : Option (ℕ × Quote) → ℕ → List ℕ → Option (ℕ × Quote)
open_behind within place [] = within
open_behind within place (b ∷ []) = quote_after place b within
open_behind within place (b ∷ (c ∷ bs)) = if b == 92 && escapes_at within
    then open_behind within (place + 2) bs
    else open_behind (quote_after place b within) (place + 1) (c ∷ bs)

abbrev pub unclosed_quote : List ℕ → Option (ℕ × Quote)
unclosed_quote text = open_behind None 0 text

-- the text between two such marks: bytes other than the mark, and, if a backslash is an escape,
-- backslashes each with the byte after it
pub data Within (mark : ℕ) (escaping : Bool) : List ℕ → Type 0 where
  nothing_within : Within mark escaping []
  byte_within : (b : ℕ) (text : List ℕ) → b ≢ mark → (escaping ≡ true → b ≢ 92)
      → Within mark escaping text → Within mark escaping (b ∷ text)
  pair_within : (b : ℕ) (text : List ℕ) → escaping ≡ true → Within mark escaping text
      → Within mark escaping (92 ∷ (b ∷ text))

-- a text whose quotes are all closed. It consists of bytes that are neither marks nor backslashes,
-- of backslashes each with the byte after it, and of quoted texts. A backslash is an escape between
-- " and ", and not between ' and '
pub data Closed : List ℕ → Type 0 where
  nothing_closed : Closed []
  byte_closed : (b : ℕ) (text : List ℕ) → b ≢ 34 → b ≢ 39 → b ≢ 92 → Closed text → Closed (b ∷ text)
  pair_closed : (b : ℕ) (text : List ℕ) → Closed text → Closed (92 ∷ (b ∷ text))
  between_double : (inner text : List ℕ) → Within 34 true inner → Closed text
      → Closed (34 ∷ (inner ++ (34 ∷ text)))
  between_single : (inner text : List ℕ) → Within 39 false inner → Closed text
      → Closed (39 ∷ (inner ++ (39 ∷ text)))

-- such a text, or one that ends in a backslash, which escapes nothing
abbrev pub UpToBackslash : (List ℕ → Type 0) → List ℕ → Type 0
UpToBackslash P text = P text ⊎ ((front : List ℕ) × (text ≡ front ++ (92 ∷ [])) × P front)

-- the text after a mark that isn't closed
abbrev pub Unclosed : Quote → ℕ → List ℕ → Type 0
Unclosed Double mark rest = (mark ≡ 34) × UpToBackslash (Within 34 true) rest
Unclosed Single mark rest = (mark ≡ 39) × Within 39 false rest
Unclosed Unquoted mark rest = ⊥

-- a quote of a kind is open at the text's end: before its mark all quotes are closed
abbrev pub OpensAt : List ℕ → ℕ → Quote → Type 0
OpensAt text place quote = (front : List ℕ) × (mark : ℕ) × (rest : List ℕ)
    × (text ≡ front ++ (mark ∷ rest)) × (place ≡ length front) × Closed front
    × Unclosed quote mark rest

-- a quote is found if and only if it is open, and none is found if and only if all are closed
abbrev pub UnclosedQuoteIsOpen : Type 0
UnclosedQuoteIsOpen = (text : List ℕ) →
    ((place : ℕ) (quote : Quote) → (unclosed_quote text ≡ Some (place, quote))
    ↔ OpensAt text place quote)
    × ((unclosed_quote text ≡ None) ↔ UpToBackslash Closed text)
