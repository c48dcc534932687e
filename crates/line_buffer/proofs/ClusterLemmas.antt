-- One character is one cluster.
use Rattle.std.proofs.Common.{◌≡◌, ℕ, suc, true, List, [], ◌∷◌, ◌++◌, length, refl, ap, ◌∙◌, arith, IsUtf8, chars, encode_utf8, encode_utf8_all}
use Rattle.std.proofs.lemmas.List.{length-map, length-append}
use Rattle.std.proofs.lemmas.Str.{chars-nil, chars_past_char}
use Rattle.unicode_segmentation.specs.Grapheme.{graphemes, is_grapheme_break}
use Rattle.unicode_segmentation.specs.Segments.{cut, segments}

cut_one : (cs : List ℕ) → length cs ≡ 1 → length (cut (is_grapheme_break true) [] cs []) ≡ 1
unfolding cut is_grapheme_break
cut_one [] h = absurd (omega arith)
cut_one (c ∷ []) h = refl
cut_one (c ∷ (d ∷ cs)) h = absurd (omega arith)

pub one_cluster : (text : List ℕ) → length (chars text) ≡ 1 → length (graphemes true text) ≡ 1
unfolding segments
one_cluster text h = length-map (cut (is_grapheme_break true) [] (chars text) []) encode_utf8_all ∙ cut_one (chars text) h

-- what begins with a character and is as long as that is this character
pub one_char : (text rest : List ℕ) (c : ℕ) → IsUtf8 text → text ≡ encode_utf8 c ++ rest → length (encode_utf8 c) ≡ length text → length (chars text) ≡ 1
one_char text rest c u came long = ap length (chars_past_char text rest c u came) ∙ ap (λ n. suc n) (none rest (omega (arith, ap length came ∙ length-append (encode_utf8 c) rest, long)))
  where
    none : (bs : List ℕ) → length bs ≡ 0 → length (chars bs) ≡ 0
    none [] e = ap length chars-nil
    none (b ∷ bs) e = absurd (omega (arith, e))
