-- Where no cluster lies over a place, in texts that begin alike.
use Rattle.std.proofs.Common.{◌≡◌, ℕ, ◌==◌, ◌<◌, ◌≤◌, nat_le, Bool, true, false, ◌&&◌, List, [], ◌∷◌, ◌++◌, take, drop, length, refl, sym, ap, ◌∙◌, subst, arith}
use Rattle.std.specs.Prelude.{chars, encode_utf8_all}
use Rattle.std.specs.Str.{is_utf8, IsUtf8}
use Rattle.std.proofs.Math.Seq.{take-append_seam}
use Rattle.std.proofs.lemmas.Bool.{and_parts, eqb-true, eqb-false, leb-true, le-leb, and_from}
use Rattle.std.proofs.lemmas.List.{take-append-drop, take-take, drop-append-le, length-drop, length-take-le}
use Rattle.std.proofs.lemmas.Str.{IsUtf8-from_is_utf8, is_utf8-from_IsUtf8, IsUtf8-take, IsUtf8-append, IsCharBoundary-at_seam, chars-append, encodes-chars}
use Rattle.line_editor.specs.Characters.{starts_apart, begins_apart, begins_apart_at}

-- only the first character counts
starts_as : (front cs xs ys : List ℕ) → 0 < length cs → starts_apart front (cs ++ xs) ≡ starts_apart front (cs ++ ys)
starts_as front [] xs ys some = absurd (omega (arith, some))
starts_as front (c ∷ cs) xs ys some = refl

some_chars : (bs : List ℕ) → IsUtf8 bs → 0 < length bs → 0 < length (chars bs)
some_chars bs h some = by_chars (chars bs) (encodes-chars bs h)
  where
    by_chars : (cs : List ℕ) → encode_utf8_all cs ≡ bs → 0 < length cs
    by_chars [] is = absurd (omega (arith, some, ap length is))
    by_chars (c ∷ cs) is = omega arith

-- the part between two places, and what is behind it
parted : (kept from : ℕ) (text : List ℕ) → kept ≤ from → from ≤ length text → drop kept text ≡ drop kept (take from text) ++ drop from text
parted kept from text low inside =
    ap (drop kept) (sym (take-append-drop from text))
    ∙ drop-append-le kept (take from text) (drop from text) (omega (arith, low, length-take-le from text inside))

module _ (kept from : ℕ) (text other : List ℕ) (low : kept ≤ from) (same : take from other ≡ take from text)
    (first : begins_apart_at text from ≡ true) (later : begins_apart_at other from ≡ true) (at : begins_apart_at other kept ≡ true) where
  inside : from ≤ length text
  inside = leb-true from (length text) (and_parts (nat_le from (length text)) _ first).0

  inside_other : from ≤ length other
  inside_other = leb-true from (length other) (and_parts (nat_le from (length other)) _ later).0

  abbrev between : List ℕ
  between = drop kept (take from text)

  abbrev rest : List ℕ
  rest = drop from text

  abbrev other_rest : List ℕ
  other_rest = drop from other

  rest_utf8 : IsUtf8 rest
  rest_utf8 = IsUtf8-from_is_utf8 rest (and_parts (is_utf8 rest) _ (and_parts (nat_le from (length text)) _ first).1).0

  other_utf8 : IsUtf8 other_rest
  other_utf8 = IsUtf8-from_is_utf8 other_rest (and_parts (is_utf8 other_rest) _ (and_parts (nat_le from (length other)) _ later).1).0

  other_parts : drop kept other ≡ between ++ other_rest
  other_parts = parted kept from other low inside_other ∙ ap (λ xs. drop kept xs ++ other_rest) same

  both_utf8 : IsUtf8 (between ++ other_rest)
  both_utf8 = subst IsUtf8 other_parts (IsUtf8-from_is_utf8 (drop kept other) (and_parts (is_utf8 (drop kept other)) _ (and_parts (nat_le kept (length other)) _ at).1).0)

  between_utf8 : IsUtf8 between
  between_utf8 =
      subst IsUtf8 (take-append_seam between other_rest)
      (IsUtf8-take (between ++ other_rest) (length between) both_utf8 (IsCharBoundary-at_seam (between ++ other_rest) between other_rest refl other_utf8))

  front_same : take kept other ≡ take kept text
  front_same = sym (take-take kept from other low) ∙ ap (take kept) same ∙ take-take kept from text low

  utf8_parts : (is_utf8 (take kept other) ≡ true) × (starts_apart (take kept other) (chars (drop kept other)) ≡ true)
  utf8_parts = and_parts (is_utf8 (take kept other)) _ (and_parts (is_utf8 (drop kept other)) _ (and_parts (nat_le kept (length other)) _ at).1).1

  front_utf8 : is_utf8 (take kept text) ≡ true
  front_utf8 = ap is_utf8 (sym front_same) ∙ utf8_parts.0

  starts : kept < from → starts_apart (take kept text) (chars (drop kept text)) ≡ true
  starts less =
      let some : 0 < length between = omega (arith, less, length-drop kept (take from text), length-take-le from text inside) in
      ap (λ xs. starts_apart (take kept text) (chars xs)) (parted kept from text low inside)
      ∙ ap (starts_apart (take kept text)) (chars-append between rest between_utf8)
      ∙ starts_as (take kept text) (chars between) (chars rest) (chars other_rest) (some_chars between between_utf8 some)
      ∙ ap (starts_apart (take kept text)) (sym (chars-append between other_rest between_utf8))
      ∙ ap (λ xs. starts_apart (take kept text) (chars xs)) (sym other_parts)
      ∙ ap (λ front. starts_apart front (chars (drop kept other))) (sym front_same)
      ∙ utf8_parts.1

  utf8 : is_utf8 (drop kept text) ≡ true
  utf8 = is_utf8-from_IsUtf8 (drop kept text) (subst IsUtf8 (sym (parted kept from text low inside)) (IsUtf8-append between rest between_utf8 rest_utf8))

  by_place : (b : Bool) → (kept == from) ≡ b → begins_apart_at text kept ≡ true
  by_place true is = ap (begins_apart_at text) (eqb-true kept from is) ∙ first
  by_place false is =
      let less : kept < from = omega (arith, low, eqb-false kept from is) in
      and_from (nat_le kept (length text)) (begins_apart (take kept text) (drop kept text)) (le-leb kept (length text) (omega (arith, low, inside)))
      (and_from (is_utf8 (drop kept text)) (is_utf8 (take kept text) && starts_apart (take kept text) (chars (drop kept text))) utf8
      (and_from (is_utf8 (take kept text)) (starts_apart (take kept text) (chars (drop kept text))) front_utf8 (starts less)))

  -- no cluster lies over an earlier place of this text either
  pub apart_before : begins_apart_at text kept ≡ true
  apart_before = by_place (kept == from) refl
