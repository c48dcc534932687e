-- The characters that stand apart: the narrow ones come before the others. And the last of a text.
use Rattle.std.proofs.Common.{◌≡◌, ℕ, ◌<◌, ◌≤◌, ◌==◌, Bool, true, false, ◌&&◌, ◌||◌, if◌then◌else◌, List, [], ◌∷◌, ◌++◌, take, drop, length, Option, Some, None, refl, sym, ap, subst, ◌∙◌, arith, length-append, append-nil, slice_get}
use Rattle.std.proofs.Math.Bool.{or-false}
use Rattle.std.specs.Prelude.{IsTrue, ◌↔◌, IsUtf8, IsCharBoundary, chars, encode_utf8, encode_utf8_all, nat_le, nat_lt}
use Rattle.std.specs.Char.{IsScalar}
use Rattle.std.specs.Int.{is_in_range}
use Rattle.std.specs.List.{last_or}
use Rattle.std.specs.Str.{is_utf8}
use Rattle.std.proofs.lemmas.Bool.Decides.{nat_tests}
use Rattle.std.proofs.lemmas.Bool.{and_parts, eqb-true, leb-true}
use Rattle.std.proofs.lemmas.Option.{same_Some}
use Rattle.std.proofs.lemmas.Str.{IsCharBoundary-from_drop, chars-append, chars-nil, chars-IsAscii, encodes-append, encodes-chars, IsUtf8-encode, IsUtf8-from_ascii, IsUtf8-from_is_utf8, is_utf8-from_IsUtf8}
use Rattle.std.proofs.Math.Seq.{drop-append_seam}
use Rattle.unicode_segmentation.proofs.TextLemmas.{IsUtf8-before, chars-encode_utf8}
use Rattle.line_buffer.specs.Printable.{is_printable, is_plain_byte, is_plain}
use Rattle.line_editor.proofs.KillLemmas.{plain_low}
use Rattle.line_editor.specs.Characters.{is_narrow, is_wide, is_pictograph, is_apart, ends_apart, stands_apart, starts_apart, begins_apart, begins_apart_at}

below_by_one : (c : ℕ) → nat_lt c 0x7F ≡ nat_le c 0x7E
below_by_one c = grind (arith, nat_tests)

pub printable_range : (c : ℕ) → is_printable c ≡ is_in_range 0x20 0x7E c
printable_range c = ap (λ b. nat_le 0x20 c && b) (below_by_one c)

out_below : (low high c : ℕ) → c < low → is_in_range low high c ≡ false
out_below low high c h = grind (arith, nat_tests, h)

out_above : (low high c : ℕ) → high < c → is_in_range low high c ≡ false
out_above low high c h = grind (arith, nat_tests, h)

pub narrow_side : (c : ℕ) → c < 0x3000 → is_narrow c ≡ is_apart c
narrow_side c h = sym ((λ i. is_narrow c || ((out_below 0x3001 0x3029 c (omega (arith, h)) i
    || (out_below 0x3041 0x3096 c (omega (arith, h)) i
    || (out_below 0x309B 0x30FF c (omega (arith, h)) i
    || (out_below 0x3400 0xA48C c (omega (arith, h)) i
    || (out_below 0xAC00 0xD7A3 c (omega (arith, h)) i
    || (out_below 0xF900 0xFAFF c (omega (arith, h)) i
    || (out_below 0xFF01 0xFF60 c (omega (arith, h)) i
    || (out_below 0x20000 0x2FFFD c (omega (arith, h)) i
    || out_below 0x30000 0x3FFFD c (omega (arith, h)) i))))))))
    || (out_below 0x1F300 0x1F3FA c (omega (arith, h)) i
    || (out_below 0x1F400 0x1F64F c (omega (arith, h)) i
    || (out_below 0x1F680 0x1F6FF c (omega (arith, h)) i
    || out_below 0x1F900 0x1F9FF c (omega (arith, h)) i))))) ∙ or-false (is_narrow c))

pub other_side : (c : ℕ) → 0x3000 ≤ c → (is_wide c || is_pictograph c) ≡ is_apart c
other_side c h = sym (λ i. ((printable_range c ∙ out_above 0x20 0x7E c (omega (arith, h))) i
    || (out_above 0xA1 0xAC c (omega (arith, h)) i
    || (out_above 0xAE 0x2FF c (omega (arith, h)) i
    || (out_above 0x370 0x482 c (omega (arith, h)) i
    || out_above 0x48A 0x58F c (omega (arith, h)) i)))) || (is_wide c || is_pictograph c))

pub ruleset sides = (narrow_side, other_side)

-- ---- a character after a text

pub last_char : (text new : List ℕ) (last : ℕ) → IsUtf8 text → IsScalar last → text ≡ new ++ encode_utf8 last → last_or None (chars text) ≡ Some last
last_char text new last u s came =
    let v = IsUtf8-encode last s in
    ap (λ bs. last_or None (chars bs)) came
    ∙ ap (last_or None) (chars-append new (encode_utf8 last) (IsUtf8-before text new (encode_utf8 last) u v came))
    ∙ ap (λ cs. last_or None (chars new ++ cs)) (chars-encode_utf8 last v)
    ∙ last-snoc None (chars new)
  where
    last-snoc : (o : Option ℕ) (xs : List ℕ) → last_or o (xs ++ last ∷ []) ≡ Some last
    last-snoc o [] = refl
    last-snoc o (x ∷ xs) = last-snoc (Some x) xs

pub no_char : (text : List ℕ) → length text ≡ 0 → last_or None (chars text) ≡ None
no_char [] e = ap (last_or None) chars-nil
no_char (b ∷ bs) e = absurd (omega (arith, e))

pub after_last : (text : List ℕ) (c : ℕ) (last : Option ℕ) → IsUtf8 text → is_apart c ≡ true → last_or None (chars text) ≡ last → ends_apart last ≡ stands_apart text c
after_last text c last u apart ends = sym (λ i. is_utf8-from_IsUtf8 text u i && (apart i && ends_apart (ends i)))

pub last_of_text : (partial bare : Bool) (text : List ℕ) → partial ≡ true → bare ≡ true → IsUtf8 text → last_or None (chars text) ≡ (if partial && (bare && is_utf8 text) then last_or None (chars text) else None)
last_of_text partial bare text a b u = sym (λ i. if a i && (b i && is_utf8-from_IsUtf8 text u i) then last_or None (chars text) else None)

-- ---- a text and its last character

last_behind : (x : ℕ) (cs : List ℕ) (c : ℕ) → last_or (Some x) cs ≡ Some c → (front : List ℕ) × (x ∷ cs ≡ front ++ c ∷ [])
last_behind x [] c h = ([], ap (λ k. k ∷ []) (same_Some x c h))
last_behind x (y ∷ cs) c h = let k = last_behind y cs c h in (x ∷ k.0, ap (λ xs. x ∷ xs) k.1)

last_parted : (cs : List ℕ) (c : ℕ) → last_or None cs ≡ Some c → (front : List ℕ) × (cs ≡ front ++ c ∷ [])
last_parted [] c h = cc
last_parted (x ∷ cs) c h = last_behind x cs c h

-- it ends with the bytes of that
ends_with : (text : List ℕ) (c : ℕ) → is_utf8 text ≡ true → last_or None (chars text) ≡ Some c → (front : List ℕ) × (text ≡ front ++ encode_utf8 c)
ends_with text c u last =
    let parts = last_parted (chars text) c last in (
      encode_utf8_all parts.0,
      sym (encodes-chars text (IsUtf8-from_is_utf8 text u)) ∙ ap encode_utf8_all parts.1 ∙ encodes-append parts.0 (c ∷ []) ∙ ap (λ bs. encode_utf8_all parts.0 ++ bs) (append-nil (encode_utf8 c)),
    )

same_ends : (front more left code : List ℕ) → front ++ more ≡ left ++ code → length more ≡ length code → more ≡ code
same_ends front more left code same size =
    let all = ap length same in
    let one = length-append front more in
    let two = length-append left code in
    let at : length front ≡ length left = omega arith in
    sym (drop-append_seam front more) ∙ ap (drop (length front)) same ∙ ap (λ n. drop n (left ++ code)) at ∙ drop-append_seam left code

-- as many bytes at its end are those of the character
pub end_is_last : (text left killed : List ℕ) (c : ℕ) → is_utf8 text ≡ true → last_or None (chars text) ≡ Some c → text ≡ left ++ killed → length killed ≡ length (encode_utf8 c) → killed ≡ encode_utf8 c
end_is_last text left killed c u last whole size =
    let parts = ends_with text c u last in
    same_ends left killed parts.0 (encode_utf8 c) (sym whole ∙ parts.1) size

-- ---- a plain text

plain_ends : (b : ℕ) → is_plain_byte b ≡ true → ends_apart (Some b) ≡ true
plain_ends b h = by_tests (b == 0x0A) (is_printable b) h
  where
    by_tests : (x y : Bool) → (x || y) ≡ true → (x || ((y || (is_in_range 0xA1 0xAC b || (is_in_range 0xAE 0x2FF b || (is_in_range 0x370 0x482 b || is_in_range 0x48A 0x58F b)))) || (is_wide b || is_pictograph b))) ≡ true
    by_tests true y h = refl
    by_tests false true h = refl
    by_tests false false h = cc

plain_last : (o : Option ℕ) (text : List ℕ) → ends_apart o ≡ true → is_plain text ≡ true → ends_apart (last_or o text) ≡ true
plain_last o [] e h = e
plain_last o (b ∷ text) e h = let parts = and_parts (is_plain_byte b) (is_plain text) h in plain_last (Some b) text (plain_ends b parts.0) parts.1

pub plain_apart : (text : List ℕ) (c : ℕ) → is_plain text ≡ true → is_printable c ≡ true → stands_apart text c ≡ true
plain_apart text c plain printable =
    let low = plain_low text plain in
    let narrow : is_apart c ≡ true = ap (λ b. (b || (is_in_range 0xA1 0xAC c || (is_in_range 0xAE 0x2FF c || (is_in_range 0x370 0x482 c || is_in_range 0x48A 0x58F c)))) || (is_wide c || is_pictograph c)) printable in
    let ends : ends_apart (last_or None (chars text)) ≡ true = ap (λ cs. ends_apart (last_or None cs)) (chars-IsAscii text low) ∙ plain_last None text refl plain in
    (λ i. is_utf8-from_IsUtf8 text (IsUtf8-from_ascii text low) i && (narrow i && ends i))

-- ---- the rest of a text

first_none : (text cs : List ℕ) → None ≡ slice_get cs 0 → true ≡ starts_apart text cs
first_none text [] h = refl
first_none text (c ∷ cs) h = cc

first_some : (text cs : List ℕ) (c : ℕ) → Some c ≡ slice_get cs 0 → ((c == 0x0A) || stands_apart text c) ≡ starts_apart text cs
first_some text [] c h = cc
first_some text (d ∷ cs) c h = ap (λ x. (x == 0x0A) || stands_apart text x) (same_Some c d h)

pub begins_with_none : (text rest : List ℕ) → IsUtf8 text → IsUtf8 rest → None ≡ slice_get (chars rest) 0 → true ≡ begins_apart text rest
begins_with_none text rest t u h = sym (λ i. is_utf8-from_IsUtf8 rest u i && (is_utf8-from_IsUtf8 text t i && sym (first_none text (chars rest) h) i))

pub begins_with : (text rest : List ℕ) (c : ℕ) (is : Bool) → IsUtf8 text → IsUtf8 rest → Some c ≡ slice_get (chars rest) 0 → is ≡ ((c == 0x0A) || stands_apart text c) → is ≡ begins_apart text rest
begins_with text rest c is t u h test =
    test ∙ first_some text (chars rest) c h ∙ sym (λ i. is_utf8-from_IsUtf8 rest u i && (is_utf8-from_IsUtf8 text t i && starts_apart text (chars rest)))

pub is_newline : (c : ℕ) → c ≡ 0x0A → true ≡ (c == 0x0A)
is_newline c is = ap (λ x. x == 0x0A) (sym is)

pub no_newline : (c : ℕ) → (c ≡ 0x0A → ⊥) → false ≡ (c == 0x0A)
no_newline c h = by_test (c == 0x0A) refl
  where
    by_test : (b : Bool) → (c == 0x0A) ≡ b → false ≡ b
    by_test true e = absurd (h (eqb-true c 0x0A e))
    by_test false e = refl

-- a text can't be cut inside a character
pub no_parts_at : (text : List ℕ) (at : ℕ) (r : Bool) → (IsTrue r ↔ IsCharBoundary text at) → r ≡ false → r ≡ begins_apart_at text at
no_parts_at text at r is refused = refused ∙ by_tests (nat_le at (length text)) (is_utf8 (drop at text)) refl refl
  where
    by_tests : (low utf8 : Bool) → nat_le at (length text) ≡ low → is_utf8 (drop at text) ≡ utf8 → false ≡ (low && (utf8 && (is_utf8 (take at text) && starts_apart (take at text) (chars (drop at text)))))
    by_tests false utf8 e u = refl
    by_tests true false e u = refl
    by_tests true true e u = cc (subst IsTrue refused (is.1 (IsCharBoundary-from_drop text at (leb-true at (length text) e) (IsUtf8-from_is_utf8 (drop at text) u))))
