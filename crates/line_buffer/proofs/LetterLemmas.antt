-- The last cluster of a text that ends in two printable characters of ASCII, and the first of one
-- that begins with two.
use Rattle.std.proofs.Common.{◌≡◌, ℕ, ◌-◌, true, List, [], ◌∷◌, ◌++◌, length, take, drop, reverse, None, Some, sym, ap, ap₂, ◌∙◌, arith, append_assoc, IsUtf8, chars, encode_utf8}
use Rattle.std.specs.Char.{IsScalar}
use Rattle.std.specs.List.{last_or}
use Rattle.std.proofs.lemmas.Bool.Decides.{nat_tests}
use Rattle.std.proofs.lemmas.List.{length-append, reverse-append}
use Rattle.std.proofs.Math.Seq.{drop-append_seam}
use Rattle.std.proofs.lemmas.Str.{IsUtf8-past_char, chars_past_char, encode_ascii}
use Rattle.line_buffer.specs.Clusters.{clusters}
use Rattle.line_buffer.specs.Printable.{is_printable}
use Rattle.line_buffer.proofs.JoinLemmas.{printable_bounds, printable_ascii, clusters-letters, first-of-letters}
use Rattle.line_buffer.proofs.PartingLemmas.{chars_last}

pub printable_scalar : (c : ℕ) → is_printable c ≡ true → IsScalar c
printable_scalar c h = let bounds = printable_bounds c h in grind (arith, nat_tests, bounds.1)

pub last_letter : (text most front : List ℕ) (last previous : ℕ) → IsUtf8 text → text ≡ most ++ encode_utf8 last → most ≡ front ++ encode_utf8 previous
    → is_printable previous ≡ true → is_printable last ≡ true → last_or None (take 1 (reverse (clusters text))) ≡ Some (length text - 1, drop (length text - 1) text)
last_letter text most front last previous u came earlier p q =
    let first = chars_last text most last u (printable_scalar last q) came in
    let second = chars_last most front previous first.0 (printable_scalar previous p) earlier in
    let all : chars text ≡ chars front ++ previous ∷ last ∷ [] = first.1 ∙ ap (λ cs. cs ++ last ∷ []) second.1 ∙ append_assoc (chars front) (previous ∷ []) (last ∷ []) in
    let is : text ≡ most ++ last ∷ [] = came ∙ ap (λ bs. most ++ bs) (encode_ascii last (printable_ascii last q)) in
    let place : length most ≡ length text - 1 = omega (arith, ap length is, length-append most (last ∷ [])) in
    ap (λ xs. last_or None (take 1 (reverse xs))) (clusters-letters text most front last previous first.0 all second.1 p q)
    ∙ ap (λ xs. last_or None (take 1 xs)) (reverse-append (clusters most) ((length most, last ∷ []) ∷ []))
    ∙ ap₂ (λ k bs. Some (k, bs)) place (sym (ap₂ drop (sym place) is ∙ drop-append_seam most (last ∷ [])))

-- the first cluster of a text that begins with two of them
pub first_letter : (text rest more : List ℕ) (first second : ℕ) → IsUtf8 text → text ≡ encode_utf8 first ++ rest → rest ≡ encode_utf8 second ++ more → is_printable first ≡ true → is_printable second ≡ true
    → last_or None (take 1 (clusters text)) ≡ Some (0, take 1 text)
first_letter text rest more first second u came later p q =
    let u₂ = IsUtf8-past_char text rest first u came in
    let all : chars text ≡ first ∷ second ∷ chars more = chars_past_char text rest first u came ∙ ap (λ cs. first ∷ cs) (chars_past_char rest more second u₂ later) in
    let is : text ≡ first ∷ rest = came ∙ ap (λ bs. bs ++ rest) (encode_ascii first (printable_ascii first p)) in
    first-of-letters text (chars more) first second all p q
    ∙ ap (λ bs. Some (0, take 1 bs)) (sym is)
