-- The text behind a text's first cluster is cut into the clusters that come after it: no rule reads past a break.
use Rattle.std.proofs.Common.{◌≡◌, ℕ, Bool, true, false, not, cond, ◌&&◌, ◌||◌, List, [], ◌∷◌, ◌++◌, length, map, drop, unwrap_or, refl, sym, ap, ap₂, ◌∙◌, append_assoc, subst, IsUtf8, IsCharBoundary, chars, encode_utf8_all, arith}
use Rattle.std.proofs.lemmas.Bool.{and_parts, or_parts, not-true}
use Rattle.std.proofs.lemmas.Bool.Decides.{nat_tests}
use Rattle.std.proofs.lemmas.Str.{encodes-append, encodes-chars, IsUtf8-past_char}
use Rattle.std.proofs.Math.Seq.{drop-append_seam}
use Rattle.ucd_table.proofs.Stepped.{zip_stepped}
use Rattle.ucd_table.proofs.Facts.{Stepped-everywhere}
use Rattle.ucd_table.proofs.Computing.{tables}
use Rattle.ucd_breaks.specs.GraphemeClusterBreak.{grapheme_cluster_break}
use Rattle.ucd_breaks.specs.declared.GraphemeClusterBreak.{GraphemeClusterBreak}
use Rattle.ucd_breaks.specs.declared.GraphemeClusterBreak.TheVariants as Gcb
use Rattle.ucd_breaks.proofs.GraphemeClusterBreakLemmas.{grapheme_cluster_break_stepped}
use Rattle.ucd_derived.specs.IndicConjunctBreak.{indic_conjunct_break}
use Rattle.ucd_derived.specs.declared.IndicConjunctBreak.{IndicConjunctBreak}
use Rattle.ucd_derived.specs.declared.IndicConjunctBreak.TheVariants as InCb
use Rattle.ucd_derived.proofs.IndicConjunctBreakLemmas.{indic_conjunct_break_stepped}
use Rattle.ucd_emoji.specs.Binary.{is_extended_pictographic}
use Rattle.ucd_emoji.proofs.BinaryLemmas.{is_extended_pictographic_stepped}
use Rattle.unicode_segmentation.specs.Grapheme.{break_by_pair, joins_conjunct, joins_emoji, joins_flag, is_consonant, ends_in_linker, ends_in_pictograph, ends_in_half_flag, is_extend, is_zwj, is_regional, is_grapheme_break, graphemes}
use Rattle.unicode_segmentation.specs.Segments.{cut, segments, prepend}
use Rattle.line_buffer.proofs.JoinLemmas.{cut-some}
use Rattle.line_buffer.proofs.ListedRanges.{implied}
use Rattle.line_buffer.proofs.CutLemmas.{at_seam}
use Rattle.line_buffer.proofs.FrontLemmas.{pieces, chars_encoded}

-- ---- what is joined to the text before it, and what ends such a text
abbrev is_control : GraphemeClusterBreak → Bool
is_control Gcb.Control = true
is_control Gcb.Cr = true
is_control Gcb.Lf = true
is_control _ = false

abbrev joins_before : GraphemeClusterBreak → Bool
joins_before Gcb.Extend = true
joins_before Gcb.Zwj = true
joins_before _ = false

abbrev extends : IndicConjunctBreak → Bool
extends InCb.Extend = true
extends _ = false

abbrev links : IndicConjunctBreak → Bool
links InCb.Extend = true
links InCb.Linker = true
links _ = false

all_extending : (c : ℕ) → (not (extends (indic_conjunct_break c)) || joins_before (grapheme_cluster_break c)) ≡ true
unfolding tables indic_conjunct_break_stepped grapheme_cluster_break_stepped
all_extending =
    Stepped-everywhere _
    (zip_stepped (λ i g. not (extends i) || joins_before g) indic_conjunct_break grapheme_cluster_break
    indic_conjunct_break_stepped grapheme_cluster_break_stepped) refl

all_dull : (c : ℕ) → (not (is_control (grapheme_cluster_break c)) || (not (links (indic_conjunct_break c)) && not (is_extended_pictographic c))) ≡ true
unfolding tables indic_conjunct_break_stepped grapheme_cluster_break_stepped is_extended_pictographic_stepped
all_dull =
    Stepped-everywhere _
    (zip_stepped (λ g b. not (is_control g) || b) grapheme_cluster_break (λ c. not (links (indic_conjunct_break c)) && not (is_extended_pictographic c))
    grapheme_cluster_break_stepped
    (zip_stepped (λ i p. not (links i) && not p) indic_conjunct_break is_extended_pictographic
    indic_conjunct_break_stepped is_extended_pictographic_stepped)) refl

-- such a character is joined to what stands before it, unless that is a control character
after_control : (v w : GraphemeClusterBreak) (b : Bool) → joins_before w ≡ true → unwrap_or (break_by_pair true v w) b ≡ true → is_control v ≡ true
after_control Gcb.Control w b j h = refl
after_control Gcb.Cr w b j h = refl
after_control Gcb.Lf w b j h = refl
after_control _ Gcb.Extend b j h = h
after_control _ Gcb.Zwj b j h = h
after_control v _ b j h = absurd (let e : false ≡ true = j in cc)

-- ---- the rules see the same in two texts
record SameSeen (xs ys : List ℕ) : Type 0 where
  linker : ends_in_linker (map indic_conjunct_break xs) ≡ ends_in_linker (map indic_conjunct_break ys)
  pictograph : ends_in_pictograph xs ≡ ends_in_pictograph ys
  joiner : (n : ℕ) → joins_emoji xs n ≡ joins_emoji ys n
  flag : ends_in_half_flag xs ≡ ends_in_half_flag ys

no_linker : (i : IndicConjunctBreak) (is : List IndicConjunctBreak) → links i ≡ false → ends_in_linker (i ∷ is) ≡ false
unfolding ends_in_linker
no_linker InCb.Extend is h = absurd cc
no_linker InCb.Linker is h = absurd cc
no_linker _ is h = refl

control_extends : (v : GraphemeClusterBreak) → is_control v ≡ true → is_extend v ≡ false
control_extends Gcb.Extend h = absurd cc
control_extends _ h = refl

first_false : (a b : Bool) → b ≡ true → (a && b) ≡ false → a ≡ false
first_false a b e h = grind (arith, nat_tests)

-- a text before a break, and none
nothing_seen : (c x : ℕ) (before rest : List ℕ) → is_grapheme_break true (c ∷ before) (x ∷ rest) ≡ true → SameSeen (x ∷ c ∷ before) (x ∷ [])
unfolding is_grapheme_break ends_in_linker ends_in_pictograph ends_in_half_flag
nothing_seen c x before rest h = record {
  linker = linkers (indic_conjunct_break x) refl;
  pictograph = ap (λ b. is_extended_pictographic x || b) (extended (grapheme_cluster_break x) refl);
  joiner = λ n. joined n (grapheme_cluster_break x) refl;
  flag = flagged (grapheme_cluster_break x) refl;
}
  where
    none : Bool
    none = not ((true && joins_conjunct (c ∷ before) x) || joins_emoji (c ∷ before) x || joins_flag (c ∷ before) x)

    clear : joins_before (grapheme_cluster_break x) ≡ true → (is_control (grapheme_cluster_break c) ≡ true) × (links (indic_conjunct_break c) ≡ false) × (is_extended_pictographic c ≡ false)
    clear j =
        let control = after_control (grapheme_cluster_break c) (grapheme_cluster_break x) none j h in
        let both = and_parts (not (links (indic_conjunct_break c))) (not (is_extended_pictographic c)) (implied (is_control (grapheme_cluster_break c)) _ control (all_dull c)) in
        (control, not-true _ both.0, not-true _ both.1)

    no_pictograph : joins_before (grapheme_cluster_break x) ≡ true → ends_in_pictograph (c ∷ before) ≡ false
    no_pictograph j =
        let facts = clear j in
        ap₂ (λ a b. a || (b && ends_in_pictograph before)) facts.2 (control_extends (grapheme_cluster_break c) facts.0)

    linkers : (i : IndicConjunctBreak) → indic_conjunct_break x ≡ i → ends_in_linker (i ∷ map indic_conjunct_break (c ∷ before)) ≡ ends_in_linker (i ∷ [])
    linkers InCb.Linker e = refl
    linkers InCb.Extend e = no_linker (indic_conjunct_break c) (map indic_conjunct_break before) (clear (implied (extends (indic_conjunct_break x)) _ (ap extends e) (all_extending x))).1
    linkers _ e = refl

    extended : (w : GraphemeClusterBreak) → grapheme_cluster_break x ≡ w → (is_extend w && ends_in_pictograph (c ∷ before)) ≡ (is_extend w && ends_in_pictograph [])
    extended Gcb.Extend e = no_pictograph (ap joins_before e)
    extended _ e = refl

    joined : (n : ℕ) (w : GraphemeClusterBreak) → grapheme_cluster_break x ≡ w → (is_zwj w && ends_in_pictograph (c ∷ before) && is_extended_pictographic n) ≡ (is_zwj w && ends_in_pictograph [] && is_extended_pictographic n)
    joined n Gcb.Zwj e = ap (λ p. true && p && is_extended_pictographic n) (no_pictograph (ap joins_before e))
    joined n _ e = refl

    half : (v : GraphemeClusterBreak) → grapheme_cluster_break c ≡ v → unwrap_or (break_by_pair true v Gcb.RegionalIndicator) none ≡ true → grapheme_cluster_break x ≡ Gcb.RegionalIndicator
        → (is_regional v && not (ends_in_half_flag before)) ≡ false
    half Gcb.RegionalIndicator e k r =
        ap (λ v. is_regional v && not (ends_in_half_flag before)) (sym e)
        ∙ first_false (ends_in_half_flag (c ∷ before)) (is_regional (grapheme_cluster_break x)) (ap is_regional r)
        (or_parts _ (joins_flag (c ∷ before) x) (not-true _ k)).1
    half _ e k r = refl

    flagged : (w : GraphemeClusterBreak) → grapheme_cluster_break x ≡ w → (is_regional w && not (ends_in_half_flag (c ∷ before))) ≡ (is_regional w && not (ends_in_half_flag []))
    flagged Gcb.RegionalIndicator e = ap not (half (grapheme_cluster_break c) refl (ap (λ w. unwrap_or (break_by_pair true (grapheme_cluster_break c) w) none) (sym e) ∙ h) e)
    flagged _ e = refl

-- and a character more
seen_more : (z : ℕ) (xs ys : List ℕ) → SameSeen xs ys → SameSeen (z ∷ xs) (z ∷ ys)
unfolding ends_in_linker ends_in_pictograph ends_in_half_flag
seen_more z xs ys seen = record {
  linker = by (indic_conjunct_break z);
  pictograph = ap (λ p. is_extended_pictographic z || (is_extend (grapheme_cluster_break z) && p)) seen.pictograph;
  joiner = λ n. ap (λ p. is_zwj (grapheme_cluster_break z) && p && is_extended_pictographic n) seen.pictograph;
  flag = ap (λ b. is_regional (grapheme_cluster_break z) && not b) seen.flag;
}
  where
    by : (i : IndicConjunctBreak) → ends_in_linker (i ∷ map indic_conjunct_break xs) ≡ ends_in_linker (i ∷ map indic_conjunct_break ys)
    by InCb.Extend = seen.linker
    by _ = refl

same_breaks : (y : ℕ) (xs ys after : List ℕ) → SameSeen (y ∷ xs) (y ∷ ys) → is_grapheme_break true (y ∷ xs) after ≡ is_grapheme_break true (y ∷ ys) after
unfolding is_grapheme_break
same_breaks y xs ys [] seen = refl
same_breaks y xs ys (n ∷ after) seen =
    ap₂ (λ e f. unwrap_or (break_by_pair true (grapheme_cluster_break y) (grapheme_cluster_break n)) (not ((true && joins_conjunct (y ∷ xs) n) || e || f)))
    (seen.joiner n) (ap (λ f. f && is_regional (grapheme_cluster_break n)) seen.flag)
    ∙ ap (λ l. unwrap_or (break_by_pair true (grapheme_cluster_break y) (grapheme_cluster_break n)) (not ((true && (l && is_consonant (indic_conjunct_break n))) || joins_emoji (y ∷ ys) n || joins_flag (y ∷ ys) n))) seen.linker

same_pieces : (cs : List ℕ) (y : ℕ) (xs ys : List ℕ) → SameSeen (y ∷ xs) (y ∷ ys) → pieces (y ∷ xs) cs ≡ pieces (y ∷ ys) cs
unfolding cut
same_pieces [] y xs ys seen = refl
same_pieces (c ∷ cs) y xs ys seen =
    let more = seen_more c (y ∷ xs) (y ∷ ys) seen in
    ap₂ (λ b ps. cond b ((c ∷ []) ∷ ps) (prepend (c ∷ []) ps)) (same_breaks c (y ∷ xs) (y ∷ ys) (cs ++ []) more) (same_pieces cs c (y ∷ xs) (y ∷ ys) more)

-- what stands before a break isn't seen behind it
pub pieces_behind : (c : ℕ) (before ds : List ℕ) → is_grapheme_break true (c ∷ before) (ds ++ []) ≡ true → pieces [] ds ≡ pieces (c ∷ before) ds
unfolding cut
pieces_behind c before [] e = refl
pieces_behind c before (d ∷ ds) e =
    let seen = nothing_seen c d before (ds ++ []) e in
    sym (ap₂ (λ b ps. cond b ((d ∷ []) ∷ ps) (prepend (d ∷ []) ps)) (same_breaks d (c ∷ before) [] (ds ++ []) seen) (same_pieces ds d (c ∷ before) [] seen))

-- ---- behind the first piece
abbrev Behind : List ℕ → List ℕ → List (List ℕ) → Type 0
Behind cs q qs = (c : ℕ) × (before : List ℕ) × (ds : List ℕ) × (cs ≡ q ++ ds) × (pieces (c ∷ before) ds ≡ qs) × (is_grapheme_break true (c ∷ before) (ds ++ []) ≡ true)

no_pieces : (before cs : List ℕ) → pieces before cs ≡ [] → cs ≡ []
unfolding cut
no_pieces before [] h = refl
no_pieces before (c ∷ cs) h = absurd (omega (arith, cut-some before c cs, ap length h))

cut_rest : (cs before q : List ℕ) (qs : List (List ℕ)) → pieces before cs ≡ q ∷ qs → Behind cs q qs
unfolding cut is_grapheme_break
cut_rest [] before q qs h = absurd cc
cut_rest (c ∷ cs) before q qs h = by (λ p ps e. cut_rest cs (c ∷ before) p ps e) (is_grapheme_break true (c ∷ before) (cs ++ [])) refl (pieces (c ∷ before) cs) refl h
  where
    by : ((p : List ℕ) (ps : List (List ℕ)) → pieces (c ∷ before) cs ≡ p ∷ ps → Behind cs p ps) → (b : Bool) → is_grapheme_break true (c ∷ before) (cs ++ []) ≡ b → (rest : List (List ℕ)) → pieces (c ∷ before) cs ≡ rest
        → cond b ((c ∷ []) ∷ rest) (prepend (c ∷ []) rest) ≡ q ∷ qs → Behind (c ∷ cs) q qs
    by shorter true e rest r h =
        let first : c ∷ [] ≡ q = cc in
        (c, before, cs, ap (λ t. t ++ cs) first, r ∙ ap (drop 1) h, e)
    by shorter false e [] r h =
        absurd (let t : is_grapheme_break true (c ∷ before) (cs ++ []) ≡ true = ap (λ ds. is_grapheme_break true (c ∷ before) (ds ++ [])) (no_pieces (c ∷ before) cs r) in (let f : true ≡ false = sym t ∙ e in cc))
    by shorter false e (p ∷ rest) r h =
        let first : c ∷ p ≡ q = cc in
        let inner = shorter p rest r in
        (inner.0, inner.1, inner.2, ap (λ t. c ∷ t) inner.3 ∙ ap (λ t. t ++ inner.2) first, inner.4 ∙ ap (drop 1) h, inner.5)

pieces_rest : (cs q : List ℕ) (qs : List (List ℕ)) → pieces [] cs ≡ q ∷ qs → (ds : List ℕ) × (cs ≡ q ++ ds) × (pieces [] ds ≡ qs)
pieces_rest cs q qs h = let b = cut_rest cs [] q qs h in (b.2, b.3, pieces_behind b.0 b.1 b.2 b.5 ∙ b.4)

-- ---- the same of the text's bytes
utf8_behind : (cs ds : List ℕ) → IsUtf8 (encode_utf8_all cs ++ encode_utf8_all ds) → IsUtf8 (encode_utf8_all ds)
utf8_behind [] ds u = u
utf8_behind (c ∷ cs) ds u = utf8_behind cs ds (IsUtf8-past_char _ (encode_utf8_all cs ++ encode_utf8_all ds) c u (append_assoc _ (encode_utf8_all cs) (encode_utf8_all ds)))

pub graphemes_rest : (text p : List ℕ) (ps : List (List ℕ)) → IsUtf8 text → graphemes true text ≡ p ∷ ps → IsCharBoundary text (length p) × (graphemes true (drop (length p) text) ≡ ps)
unfolding segments
graphemes_rest text p ps u is = by (pieces [] (chars text)) refl is
  where
    by : (zs : List (List ℕ)) → pieces [] (chars text) ≡ zs → map encode_utf8_all zs ≡ p ∷ ps → IsCharBoundary text (length p) × (graphemes true (drop (length p) text) ≡ ps)
    by [] e h = absurd cc
    by (q ∷ qs) e h =
        let r = pieces_rest (chars text) q qs e in
        let first : encode_utf8_all q ≡ p = cc in
        let whole : text ≡ encode_utf8_all q ++ encode_utf8_all r.0 = sym (encodes-chars text u) ∙ ap encode_utf8_all r.1 ∙ encodes-append q r.0 in
        let behind = utf8_behind q r.0 (subst IsUtf8 whole u) in
        let left : drop (length p) text ≡ encode_utf8_all r.0 = ap₂ drop (sym (ap length first)) whole ∙ drop-append_seam (encode_utf8_all q) (encode_utf8_all r.0) in (
          at_seam text (encode_utf8_all q) (encode_utf8_all r.0) (length p) whole (ap length first) behind,
          ap (λ cs. map encode_utf8_all (pieces [] cs)) (ap chars left ∙ chars_encoded r.0 behind) ∙ ap (map encode_utf8_all) r.2 ∙ ap (drop 1) h,
        )
