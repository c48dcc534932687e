-- Escapes: one step of reading them back, for each character.
use Rattle.std.proofs.Common.{◌≡◌, ◌≢◌, ℕ, suc, ◌<◌, Bool, true, false, List, [], ◌∷◌, ◌++◌, length, refl, sym, ◌∙◌, ap, get_or, arith, Option, Some, None, option_map, append_assoc}
use Rattle.std.specs.Prelude.{encode_utf8, ◌==◌, unwrap_or}
use Rattle.std.specs.List.{list_any}
use Rattle.std.proofs.lemmas.Bool.{ne_eqb, eqb-false, or_parts}
use Rattle.std.proofs.lemmas.List.{append-nil}
use Rattle.std.proofs.lemmas.Str.{inside_one, length-encode, len_utf8_bounds}
use lib.Utf8.{encode}
use Rattle.line_help.specs.HistoryText.{unescaped_row, entry_of}

-- what is still to be read where a backslash was taken or not
abbrev pub pending : Bool → List ℕ → List ℕ
pending false rest = rest
pending true rest = 92 ∷ rest

-- the whole text where so much was put out and this is still to be read
abbrev pub progress : Bool → List ℕ → List ℕ → Option (List ℕ)
progress escape out rest = option_map (λ text. out ++ text) (unescaped_row (pending escape rest))

from_nothing : (o : Option (List ℕ)) → option_map (λ text. [] ++ text) o ≡ o
from_nothing None = refl
from_nothing (Some text) = refl

map_twice : (out more : List ℕ) (o : Option (List ℕ)) → option_map (λ text. out ++ text) (option_map (λ text. more ++ text) o) ≡ option_map (λ text. (out ++ more) ++ text) o
map_twice out more None = refl
map_twice out more (Some text) = ap (λ t. Some t) (sym (append_assoc out more text))

pub plain_byte : (b : ℕ) (bs : List ℕ) → b ≢ 92 → unescaped_row (b ∷ bs) ≡ option_map (λ text. b ∷ text) (unescaped_row bs)
plain_byte b [] ne = rw (ne_eqb b 92 ne) refl
plain_byte b (c ∷ bs) ne = rw (ne_eqb b 92 ne) refl

plain_bytes : (xs rest : List ℕ) → ((k : ℕ) → k < length xs → get_or xs k 0 ≢ 92) → unescaped_row (xs ++ rest) ≡ option_map (λ text. xs ++ text) (unescaped_row rest)
plain_bytes [] rest plain = sym (from_nothing (unescaped_row rest))
plain_bytes (x ∷ xs) rest plain =
    plain_byte x (xs ++ rest) (plain 0 (omega arith))
    ∙ ap (λ o. option_map (λ text. x ∷ text) o) (plain_bytes xs rest (λ k h. plain (suc k) (omega arith)))
    ∙ map_twice (x ∷ []) xs (unescaped_row rest)

-- an ASCII byte stands in no other character
pub no_byte : (c b k : ℕ) → c ≢ b → b < 128 → k < length (encode_utf8 c) → get_or (encode_utf8 c) k 0 ≢ b
no_byte c b k ne small h e = ne (inside_one c [] (encode_utf8 c) k (sym (append-nil (encode_utf8 c))) h (omega (arith, e)) ∙ e)

-- a step of reading, by the character
pub plain_char : (escape : Bool) (c : ℕ) (out rest : List ℕ) → escape ≡ false → c ≢ 92
    → progress escape out (encode_utf8 c ++ rest) ≡ progress escape (out ++ encode_utf8 c) rest
plain_char escape c out rest none ne =
    rw none (ap (λ o. option_map (λ text. out ++ text) o) (plain_bytes (encode_utf8 c) rest (λ k h. no_byte c 92 k ne (omega arith) h))
    ∙ map_twice out (encode_utf8 c) (unescaped_row rest))

pub backslash_taken : (escape : Bool) (c : ℕ) (out rest : List ℕ) → escape ≡ false → c ≡ 92
    → progress escape out (encode_utf8 c ++ rest) ≡ progress true out rest
unfolding encode
backslash_taken escape c out rest none is = rw (none, is) refl

pub newline_read : (escape : Bool) (c : ℕ) (out rest : List ℕ) → escape ≡ true → c ≡ 110
    → progress escape out (encode_utf8 c ++ rest) ≡ progress false (out ++ encode_utf8 10) rest
unfolding encode
newline_read escape c out rest some is = rw (some, is) (map_twice out (10 ∷ []) (unescaped_row rest))

pub backslash_read : (escape : Bool) (c : ℕ) (out rest : List ℕ) → escape ≡ true → c ≡ 92
    → progress escape out (encode_utf8 c ++ rest) ≡ progress false (out ++ encode_utf8 92) rest
unfolding encode
backslash_read escape c out rest some is = rw (some, is) (map_twice out (92 ∷ []) (unescaped_row rest))

pub begun : (out rest : List ℕ) → out ≡ [] → progress false out rest ≡ unescaped_row rest
begun out rest e = rw e (from_nothing (unescaped_row rest))

wrong_bytes : (xs rest : List ℕ) → 0 < length xs → get_or xs 0 0 ≢ 110 → get_or xs 0 0 ≢ 92 → unescaped_row (92 ∷ (xs ++ rest)) ≡ None
wrong_bytes [] rest some ne nf = absurd (omega arith)
wrong_bytes (x ∷ xs) rest some ne nf = rw (ne_eqb x 110 ne, ne_eqb x 92 nf) refl

pub wrong_char : (escape : Bool) (c : ℕ) (out rest : List ℕ) → escape ≡ true → c ≢ 110 → c ≢ 92 → progress escape out (encode_utf8 c ++ rest) ≡ None
wrong_char escape c out rest is ne nf =
    let some : 0 < length (encode_utf8 c) = omega (arith, length-encode c, len_utf8_bounds c) in
    rw (is, wrong_bytes (encode_utf8 c) rest some (no_byte c 110 0 ne (omega arith) some) (no_byte c 92 0 nf (omega arith) some)) refl

-- the row's end
pub ends_open : (escape : Bool) (out rest : List ℕ) → escape ≡ true → rest ≡ [] → progress escape out rest ≡ None
ends_open escape out rest is none = rw (is, none) refl

pub ends_whole : (escape : Bool) (out rest : List ℕ) → escape ≡ false → rest ≡ [] → progress escape out rest ≡ Some out
ends_whole escape out rest closed none = rw (closed, none) (ap (λ t. Some t) (append-nil out))

pub ruleset escape_steps = (plain_char, backslash_taken, newline_read, backslash_read, wrong_char, ends_open, ends_whole, begun)

-- ---- a row without a backslash

plain_row : (row : List ℕ) → list_any (λ b. b == 92) row ≡ false → unescaped_row row ≡ Some row
plain_row [] h = refl
plain_row (b ∷ bs) h =
    let parts = or_parts (b == 92) (list_any (λ b. b == 92) bs) h in
    plain_byte b bs (eqb-false b 92 parts.0) ∙ ap (λ o. option_map (λ text. b ∷ text) o) (plain_row bs parts.1)

pub no_backslash : (row : List ℕ) → list_any (λ b. b == 92) row ≡ false → entry_of true row ≡ row
no_backslash row h = ap (λ o. unwrap_or o row) (plain_row row h)
