-- Highlighted texts: a text without styles, and one with a byte in bold and blue.
use Rattle.std.proofs.Common.{◌≡◌, ℕ, ◌+◌, ◌<◌, List, [], ◌∷◌, ◌++◌, length, take, drop, refl, arith, subst, Some}
use Rattle.std.specs.Prelude.{codes, slice_get, IsCharBoundary}
use Rattle.std.specs.Str.{IsUtf8}
use Rattle.std.proofs.lemmas.Option.{slice_get_within, get_or_from_slice_get}
use Rattle.std.proofs.lemmas.List.{drop_more, take-append-drop}
use Rattle.std.proofs.lemmas.Str.{IsCharBoundary-after_ascii}
use Rattle.line_help.specs.Highlights.{Styled, nothing, byte, style, style_sequence, with_bold_byte}

pub unstyled : (text : List ℕ) → Styled text text
unstyled [] = nothing
unstyled (b ∷ text) = byte b text text (unstyled text)

behind_text : (first text shown : List ℕ) → Styled text shown → Styled (first ++ text) (first ++ shown)
behind_text [] text shown styled = styled
behind_text (b ∷ first) text shown styled = byte b (first ++ text) (first ++ shown) (behind_text first text shown styled)

bold_byte : (first after : List ℕ) (b : ℕ) → Styled (first ++ (b ∷ after)) (first ++ (style_sequence (codes "1;34") ++ (b ∷ (style_sequence (codes "0") ++ after))))
bold_byte first after b =
    behind_text first (b ∷ after) (style_sequence (codes "1;34") ++ (b ∷ (style_sequence (codes "0") ++ after)))
    (style (codes "1;34") (b ∷ after) (b ∷ (style_sequence (codes "0") ++ after)) refl
    (byte b after (style_sequence (codes "0") ++ after) (style (codes "0") after after refl (unstyled after))))

pub bold_shown : (line shown : List ℕ) (b place : ℕ) → slice_get line place ≡ Some b → shown ≡ with_bold_byte line (Some (b, place)) → Styled line shown
bold_shown line shown b place stands same =
    let within : place < length line = slice_get_within line place b stands in
    let cut : take place line ++ (b ∷ drop (place + 1) line) ≡ line =
    rw (← get_or_from_slice_get line place b 0 stands, ← drop_more line place 0 within) (take-append-drop place line) in
    rw same (subst (λ text. Styled text (with_bold_byte line (Some (b, place)))) cut (bold_byte (take place line) (drop (place + 1) line) b))

pub behind_ascii : (line : List ℕ) (b place : ℕ) → IsUtf8 line → slice_get line place ≡ Some b → b < 128 → IsCharBoundary line (place + 1)
behind_ascii line b place utf8 stands ascii =
    IsCharBoundary-after_ascii line place utf8 (slice_get_within line place b stands) (omega (arith, get_or_from_slice_get line place b 0 stands))

pub ruleset plain = (unstyled)

pub ruleset bold = (behind_ascii)
