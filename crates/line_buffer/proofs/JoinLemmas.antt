-- The clusters of a text of printable ASCII, and of a text that begins or ends in letters.
use Rattle.std.proofs.Common.{◌≡◌, ℕ, ◌+◌, ◌<◌, ◌≤◌, ◌==◌, Bool, true, false, cond, ◌||◌, List, [], ◌∷◌, ◌++◌, length, map, take, None, Some, refl, sym, ap, ap₂, ◌∙◌, arith, eqb-true, IsUtf8, chars, encode_utf8, encode_utf8_all, nat_le, not}
use Rattle.std.specs.List.{last_or, concat}
use Rattle.std.proofs.lemmas.Bool.Decides.{nat_tests}
use Rattle.std.proofs.lemmas.List.{append-nil, length-append, map-append}
use Rattle.std.proofs.lemmas.Str.{encode_ascii}
use Rattle.ucd_table.proofs.Facts.{Stepped-below}
use Rattle.ucd_breaks.specs.GraphemeClusterBreak.{grapheme_cluster_break, grapheme_cluster_break_number}
use Rattle.ucd_breaks.specs.declared.GraphemeClusterBreak.TheVariants.{Other}
use Rattle.ucd_breaks.proofs.GraphemeClusterBreakLemmas.{grapheme_cluster_break_stepped, grapheme_cluster_break_number_injective}
use Rattle.unicode_segmentation.specs.Grapheme.{is_grapheme_break, graphemes}
use Rattle.unicode_segmentation.specs.Segments.{cut, segments, prepend, with_offsets}
use Rattle.unicode_segmentation.proofs.Computing.{unicode_segmentation}
use Rattle.unicode_segmentation.proofs.GraphemeLemmas.{is_grapheme_break-others}
use Rattle.unicode_segmentation.proofs.SegmentsLemmas.{concat-segments}
use Rattle.line_buffer.specs.Clusters.{clusters}
use Rattle.line_buffer.specs.Printable.{is_printable}
use Rattle.std.proofs.lemmas.Bool.{le-leb}
use Rattle.line_buffer.proofs.ListedRanges.{implied}

-- the rules read of what follows only the next character
pub next_alone : (before : List ℕ) (next : ℕ) (after more : List ℕ) → is_grapheme_break true before (next ∷ after) ≡ is_grapheme_break true before (next ∷ more)
unfolding is_grapheme_break
next_alone [] next after more = refl
next_alone (c ∷ before) next after more = refl

-- ---- pieces
prepend-append : (part : List ℕ) (ps qs : List (List ℕ)) → 0 < length ps → prepend part (ps ++ qs) ≡ prepend part ps ++ qs
prepend-append part [] qs l = absurd (omega (arith, l))
prepend-append part (p ∷ ps) qs l = refl

pub cut-some : (before : List ℕ) (c : ℕ) (cs : List ℕ) → 0 < length (cut (is_grapheme_break true) before (c ∷ cs) [])
unfolding cut
cut-some before c cs = by_test (is_grapheme_break true (c ∷ before) (cs ++ [])) (cut (is_grapheme_break true) (c ∷ before) cs [])
  where
    by_test : (b : Bool) (rest : List (List ℕ)) → 0 < length (cond b ((c ∷ []) ∷ rest) (prepend (c ∷ []) rest))
    by_test true rest = omega arith
    by_test false [] = omega arith
    by_test false (p ∷ rest) = omega arith

-- one turn of a cut, where what follows is joined to the rest
pub cut-join : (b : Bool) (c : ℕ) (ps qs : List (List ℕ)) → 0 < length ps → cond b ((c ∷ []) ∷ (ps ++ qs)) (prepend (c ∷ []) (ps ++ qs)) ≡ cond b ((c ∷ []) ∷ ps) (prepend (c ∷ []) ps) ++ qs
cut-join true c ps qs l = refl
cut-join false c ps qs l = prepend-append (c ∷ []) ps qs l

pub with_offsets-append : (at : ℕ) (ps qs : List (List ℕ)) → with_offsets at (ps ++ qs) ≡ with_offsets at ps ++ with_offsets (at + length (concat ps)) qs
unfolding with_offsets
with_offsets-append at [] qs = ap (λ k. with_offsets k qs) (let e : at ≡ at + 0 = omega arith in e)
with_offsets-append at (p ∷ ps) qs =
    ap (λ xs. (at, p) ∷ xs) (with_offsets-append (at + length p) ps qs
    ∙ ap (λ k. with_offsets (at + length p) ps ++ with_offsets k qs) (let e : at + length p + length (concat ps) ≡ at + length (concat (p ∷ ps)) = omega (arith, length-append p (concat ps)) in e))

-- ---- printable ASCII
pub printable_bounds : (c : ℕ) → is_printable c ≡ true → (32 ≤ c) × (c < 127)
printable_bounds c h = grind (arith, nat_tests, h)

pub printable_ascii : (c : ℕ) → is_printable c ≡ true → c < 128
printable_ascii c h = let bounds = printable_bounds c h in omega (arith, bounds.1)

-- the class of these characters
printable_class : (c : ℕ) → is_printable c ≡ true → grapheme_cluster_break c ≡ Other
unfolding unicode_segmentation
printable_class c h =
    let bounds = printable_bounds c h in
    grapheme_cluster_break_number_injective _ _ (eqb-true _ _ (implied (nat_le 32 c) _ (le-leb 32 c bounds.0)
    (Stepped-below grapheme_cluster_break grapheme_cluster_break_stepped (λ x v. not (nat_le 32 x) || (grapheme_cluster_break_number v == 12))
    127 refl c bounds.1)))

printable-breaks : (c : ℕ) (before : List ℕ) (d : ℕ) (after : List ℕ) → is_printable c ≡ true → is_printable d ≡ true → is_grapheme_break true (c ∷ before) (d ∷ after) ≡ true
printable-breaks c before d after p q =
    sym (is_grapheme_break-others true (c ∷ before) d after (omega arith) (omega (arith, printable_ascii d q)) (sym (printable_class c p)) (sym (printable_class d q)))

-- ---- two printable characters at a text's end
cut-letters : (cs before : List ℕ) (p c : ℕ) → is_printable p ≡ true → is_printable c ≡ true → cut (is_grapheme_break true) before (cs ++ p ∷ c ∷ []) [] ≡ cut (is_grapheme_break true) before (cs ++ p ∷ []) [] ++ (c ∷ []) ∷ []
unfolding cut is_grapheme_break
cut-letters [] before p c g h =
    ap (λ b. cond b ((p ∷ []) ∷ ((c ∷ []) ∷ [])) (prepend (p ∷ []) ((c ∷ []) ∷ []))) (printable-breaks p before c [] g h)
cut-letters (d ∷ cs) before p c g h =
    ap₂ (λ b rest. cond b ((d ∷ []) ∷ rest) (prepend (d ∷ []) rest)) (same_next cs) (cut-letters cs (d ∷ before) p c g h)
    ∙ cut-join (is_grapheme_break true (d ∷ before) ((cs ++ p ∷ []) ++ [])) d (cut (is_grapheme_break true) (d ∷ before) (cs ++ p ∷ []) []) ((c ∷ []) ∷ []) (some cs)
  where
    same_next : (cs : List ℕ) → is_grapheme_break true (d ∷ before) ((cs ++ p ∷ c ∷ []) ++ []) ≡ is_grapheme_break true (d ∷ before) ((cs ++ p ∷ []) ++ [])
    same_next [] = next_alone (d ∷ before) p ((c ∷ []) ++ []) ([] ++ [])
    same_next (e ∷ cs) = next_alone (d ∷ before) e ((cs ++ p ∷ c ∷ []) ++ []) ((cs ++ p ∷ []) ++ [])

    some : (cs : List ℕ) → 0 < length (cut (is_grapheme_break true) (d ∷ before) (cs ++ p ∷ []) [])
    some [] = cut-some (d ∷ before) p []
    some (e ∷ cs) = cut-some (d ∷ before) e (cs ++ p ∷ [])

graphemes-letters : (text most front : List ℕ) (last previous : ℕ) → chars text ≡ chars front ++ previous ∷ last ∷ [] → chars most ≡ chars front ++ previous ∷ [] → is_printable previous ≡ true → is_printable last ≡ true
    → graphemes true text ≡ graphemes true most ++ (last ∷ []) ∷ []
unfolding segments
graphemes-letters text most front last previous t m g h =
    ap (λ cs. map encode_utf8_all (cut (is_grapheme_break true) [] cs [])) t
    ∙ ap (map encode_utf8_all) (cut-letters (chars front) [] previous last g h)
    ∙ map-append encode_utf8_all (cut (is_grapheme_break true) [] (chars front ++ previous ∷ []) []) ((last ∷ []) ∷ [])
    ∙ ap₂ (λ cs p. map encode_utf8_all (cut (is_grapheme_break true) [] cs []) ++ p ∷ []) (sym m) (append-nil (encode_utf8 last) ∙ encode_ascii last (printable_ascii last h))

-- the last of them is the last cluster
pub clusters-letters : (text most front : List ℕ) (last previous : ℕ) → IsUtf8 most → chars text ≡ chars front ++ previous ∷ last ∷ [] → chars most ≡ chars front ++ previous ∷ [] → is_printable previous ≡ true → is_printable last ≡ true
    → clusters text ≡ clusters most ++ (length most, last ∷ []) ∷ []
unfolding with_offsets
clusters-letters text most front last previous u t m g h =
    ap (with_offsets 0) (graphemes-letters text most front last previous t m g h) ∙ with_offsets-append 0 (graphemes true most) ((last ∷ []) ∷ [])
    ∙ ap (λ k. clusters most ++ (k, last ∷ []) ∷ []) (ap (λ bs. 0 + length bs) (concat-segments (is_grapheme_break true) most u) ∙ (let e : 0 + length most ≡ length most = omega arith in e))

-- ---- two printable characters at a text's start: the first is the first cluster
pub first-of-letters : (text cs : List ℕ) (first second : ℕ) → chars text ≡ first ∷ second ∷ cs → is_printable first ≡ true → is_printable second ≡ true → last_or None (take 1 (clusters text)) ≡ Some (0, first ∷ [])
unfolding segments with_offsets cut
first-of-letters text cs first second t g h =
    ap (λ ds. last_or None (take 1 (with_offsets 0 (map encode_utf8_all (cut (is_grapheme_break true) [] ds []))))) t
    ∙ ap (λ b. last_or None (take 1 (with_offsets 0 (map encode_utf8_all (cond b ((first ∷ []) ∷ behind) (prepend (first ∷ []) behind)))))) (printable-breaks first [] second (cs ++ []) g h)
    ∙ ap (λ bs. Some (0, bs)) (append-nil (encode_utf8 first) ∙ encode_ascii first (printable_ascii first g))
  where
    behind : List (List ℕ)
    behind = cut (is_grapheme_break true) (first ∷ []) (second ∷ cs) []
