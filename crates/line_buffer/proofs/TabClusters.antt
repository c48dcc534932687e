-- The clusters of a text with a tab in it: those before the tab, the tab, and those after it.
use Rattle.std.proofs.Common.{◌≡◌, ℕ, ◌+◌, Bool, true, not, cond, ◌&&◌, ◌||◌, List, [], ◌∷◌, ◌++◌, length, map, unwrap_or, refl, sym, subst, ap, ap₂, ◌∙◌, arith, IsUtf8, chars, encode_utf8, encode_utf8_all}
use Rattle.std.proofs.lemmas.List.{append-nil, map-append}
use Rattle.std.proofs.lemmas.Str.{IsUtf8-append, IsUtf8-encode, chars-append, chars_past_char, encode_ascii}
use Rattle.ucd_breaks.specs.GraphemeClusterBreak.{grapheme_cluster_break}
use Rattle.ucd_breaks.specs.declared.GraphemeClusterBreak.{GraphemeClusterBreak, TheVariants.Control, TheVariants.Cr}
use Rattle.unicode_segmentation.specs.Grapheme.{break_by_pair, joins_conjunct, joins_emoji, joins_flag, is_grapheme_break, graphemes}
use Rattle.unicode_segmentation.specs.Segments.{cut, segments, prepend, with_offsets}
use Rattle.unicode_segmentation.proofs.Computing.{unicode_segmentation}
use Rattle.unicode_segmentation.proofs.GraphemeLemmas.{is_grapheme_break-inside}
use Rattle.unicode_segmentation.proofs.SegmentsLemmas.{concat-segments}
use Rattle.line_buffer.specs.Clusters.{clusters}
use Rattle.line_buffer.proofs.JoinLemmas.{next_alone, cut-some, cut-join, with_offsets-append}
use Rattle.line_buffer.proofs.RestLemmas.{pieces_behind}

-- ---- a tab, and what the rules see of it
tab_class : grapheme_cluster_break 9 ≡ Control
unfolding unicode_segmentation
tab_class = refl

breaks-after_tab : (before after : List ℕ) → is_grapheme_break true (9 ∷ before) after ≡ true
unfolding is_grapheme_break
breaks-after_tab before [] = refl
breaks-after_tab before (next ∷ after) =
    ap (λ v. unwrap_or (break_by_pair true v (grapheme_cluster_break next)) (not ((true && joins_conjunct (9 ∷ before) next) || joins_emoji (9 ∷ before) next || joins_flag (9 ∷ before) next))) tab_class

breaks-before_tab : (c : ℕ) (before after : List ℕ) → is_grapheme_break true (c ∷ before) (9 ∷ after) ≡ true
breaks-before_tab c before after =
    is_grapheme_break-inside true (c ∷ before) 9 after (omega arith)
    ∙ ap (λ v. unwrap_or (break_by_pair true (grapheme_cluster_break c) v) none) tab_class ∙ by_class (grapheme_cluster_break c)
  where
    none : Bool
    none = not ((true && joins_conjunct (c ∷ before) 9) || joins_emoji (c ∷ before) 9 || joins_flag (c ∷ before) 9)

    by_class : (v : GraphemeClusterBreak) → unwrap_or (break_by_pair true v Control) none ≡ true
    by_class Cr = refl
    by_class _ = refl

-- ---- a tab cuts
cut-tab : (cs ds before : List ℕ) → cut (is_grapheme_break true) before (cs ++ 9 ∷ ds) [] ≡ cut (is_grapheme_break true) before cs [] ++ (9 ∷ []) ∷ cut (is_grapheme_break true) [] ds []
unfolding cut is_grapheme_break
cut-tab [] ds before =
    ap₂ (λ b rest. cond b ((9 ∷ []) ∷ rest) (prepend (9 ∷ []) rest)) (breaks-after_tab before (ds ++ [])) (sym (pieces_behind 9 before ds (breaks-after_tab before (ds ++ []))))
cut-tab (c ∷ []) ds before =
    ap₂ (λ b rest. cond b ((c ∷ []) ∷ rest) (prepend (c ∷ []) rest)) (breaks-before_tab c before (ds ++ [])) (cut-tab [] ds (c ∷ before))
cut-tab (c ∷ (d ∷ cs)) ds before =
    ap₂ (λ b rest. cond b ((c ∷ []) ∷ rest) (prepend (c ∷ []) rest)) (next_alone (c ∷ before) d ((cs ++ 9 ∷ ds) ++ []) (cs ++ [])) (cut-tab (d ∷ cs) ds (c ∷ before))
    ∙ cut-join (is_grapheme_break true (c ∷ before) (d ∷ (cs ++ []))) c (cut (is_grapheme_break true) (c ∷ before) (d ∷ cs) []) ((9 ∷ []) ∷ cut (is_grapheme_break true) [] ds []) (cut-some (c ∷ before) d cs)

tab_text : (ys : List ℕ) → IsUtf8 ys → IsUtf8 (9 ∷ ys)
tab_text ys u = IsUtf8-append (9 ∷ []) ys (subst IsUtf8 (encode_ascii 9 (omega arith)) (IsUtf8-encode 9 refl)) u

chars-tab : (ys : List ℕ) → IsUtf8 ys → chars (9 ∷ ys) ≡ 9 ∷ chars ys
chars-tab ys u = chars_past_char (9 ∷ ys) ys 9 (tab_text ys u) (ap (λ z. z ++ ys) (sym (encode_ascii 9 (omega arith))))

pub graphemes-tab : (xs ys : List ℕ) → IsUtf8 xs → IsUtf8 ys → graphemes true (xs ++ 9 ∷ ys) ≡ graphemes true xs ++ (9 ∷ []) ∷ graphemes true ys
unfolding segments
graphemes-tab xs ys u v =
    ap (λ cs. map encode_utf8_all (cut (is_grapheme_break true) [] cs [])) (chars-append xs (9 ∷ ys) u ∙ ap (λ cs. chars xs ++ cs) (chars-tab ys v))
    ∙ ap (map encode_utf8_all) (cut-tab (chars xs) (chars ys) [])
    ∙ map-append encode_utf8_all (cut (is_grapheme_break true) [] (chars xs) []) ((9 ∷ []) ∷ cut (is_grapheme_break true) [] (chars ys) [])
    ∙ ap (λ p. graphemes true xs ++ p ∷ graphemes true ys) (append-nil (encode_utf8 9) ∙ encode_ascii 9 (omega arith))

pub clusters-tab : (xs ys : List ℕ) → IsUtf8 xs → IsUtf8 ys → clusters (xs ++ 9 ∷ ys) ≡ clusters xs ++ (length xs, 9 ∷ []) ∷ with_offsets (length xs + 1) (graphemes true ys)
unfolding with_offsets
clusters-tab xs ys u v =
    ap (with_offsets 0) (graphemes-tab xs ys u v) ∙ with_offsets-append 0 (graphemes true xs) ((9 ∷ []) ∷ graphemes true ys)
    ∙ ap (λ k. clusters xs ++ (k, 9 ∷ []) ∷ with_offsets (k + 1) (graphemes true ys))
    (ap (λ bs. 0 + length bs) (concat-segments (is_grapheme_break true) xs u) ∙ (let e : 0 + length xs ≡ length xs = omega arith in e))
