-- The text before a text's last cluster is cut into the clusters that come before it.
use Rattle.std.proofs.Common.{◌≡◌, ℕ, ◌+◌, ◌<◌, ◌⊎◌, inl, inr, Bool, true, false, cond, List, [], ◌∷◌, ◌++◌, length, map, take, drop, get_or, refl, sym, ap, ap₂, ◌∙◌, arith, append_assoc, subst, IsUtf8, IsCharBoundary, chars, encode_utf8_all}
use Rattle.std.specs.List.{concat}
use Rattle.std.proofs.lemmas.List.{same_from_push, length-append, map-append, append-nil}
use Rattle.std.proofs.lemmas.Str.{chars-nil, chars_past_char, encodes-append, IsUtf8-past_char, IsUtf8-take}
use Rattle.std.proofs.Math.Seq.{take-append_seam, get_or-append_seam}
use Rattle.unicode_segmentation.specs.Grapheme.{is_grapheme_break}
use Rattle.unicode_segmentation.specs.Segments.{cut, segments, prepend, with_offsets}
use Rattle.unicode_segmentation.proofs.SegmentsLemmas.{concat-segments, All-IsPieceOf}
use Rattle.line_buffer.specs.Clusters.{clusters}
use Rattle.line_buffer.proofs.JoinLemmas.{next_alone, with_offsets-append}

abbrev pub pieces : List ℕ → List ℕ → List (List ℕ)
pieces before cs = cut (is_grapheme_break true) before cs []

concat-prepend : (part : List ℕ) (ps : List (List ℕ)) → concat (prepend part ps) ≡ part ++ concat ps
concat-prepend part [] = refl
concat-prepend part (p ∷ ps) = append_assoc part p (concat ps)

concat-turn : (b : Bool) (c : ℕ) (ps : List (List ℕ)) → concat (cond b ((c ∷ []) ∷ ps) (prepend (c ∷ []) ps)) ≡ c ∷ concat ps
concat-turn true c ps = refl
concat-turn false c ps = concat-prepend (c ∷ []) ps

concat-pieces : (before cs : List ℕ) → concat (pieces before cs) ≡ cs
unfolding cut
concat-pieces before [] = refl
concat-pieces before (c ∷ cs) =
    concat-turn (is_grapheme_break true (c ∷ before) (cs ++ [])) c (pieces (c ∷ before) cs) ∙ ap (λ ds. c ∷ ds) (concat-pieces (c ∷ before) cs)

concat-push : (ps : List (List ℕ)) (q : List ℕ) → concat (ps ++ q ∷ []) ≡ concat ps ++ q
concat-push [] q = append-nil q
concat-push (p ∷ ps) q = ap (λ t. p ++ t) (concat-push ps q) ∙ sym (append_assoc p (concat ps) q)

-- a break is seen by the next character alone
break_true : (c : ℕ) (before ds q : List ℕ) → is_grapheme_break true (c ∷ before) ((ds ++ q) ++ []) ≡ true → is_grapheme_break true (c ∷ before) (ds ++ []) ≡ true
unfolding is_grapheme_break
break_true c before [] q h = refl
break_true c before (d ∷ ds) q h = next_alone (c ∷ before) d (ds ++ []) ((ds ++ q) ++ []) ∙ h

break_same : (c : ℕ) (before ds q : List ℕ) → 0 < length ds → is_grapheme_break true (c ∷ before) (ds ++ []) ≡ is_grapheme_break true (c ∷ before) ((ds ++ q) ++ [])
break_same c before [] q l = absurd (omega (arith, l))
break_same c before (d ∷ ds) q l = next_alone (c ∷ before) d (ds ++ []) ((ds ++ q) ++ [])

some_pieces : (before ds : List ℕ) (x : List ℕ) (ps : List (List ℕ)) → pieces before ds ≡ x ∷ ps → 0 < length ds
unfolding cut
some_pieces before [] x ps h = absurd cc
some_pieces before (d ∷ ds) x ps h = omega arith

cut_front : (cs before : List ℕ) (ps : List (List ℕ)) (q : List ℕ) → pieces before cs ≡ ps ++ q ∷ [] → pieces before (concat ps) ≡ ps
unfolding cut
cut_front [] before [] q h = absurd cc
cut_front [] before (p ∷ ps) q h = absurd cc
cut_front (c ∷ cs) before ps q h = by_test (λ rs e. cut_front cs (c ∷ before) rs q e) (is_grapheme_break true (c ∷ before) (cs ++ [])) refl (pieces (c ∷ before) cs) refl ps h
  where
    whole : (ds : List ℕ) (rs : List (List ℕ)) → pieces (c ∷ before) cs ≡ rs ++ q ∷ [] → concat rs ≡ ds → cs ≡ ds ++ q
    whole ds rs r e = sym (concat-pieces (c ∷ before) cs) ∙ ap concat r ∙ concat-push rs q ∙ ap (λ t. t ++ q) e

    turn : (b : Bool) (ds : List ℕ) (rs : List (List ℕ)) → is_grapheme_break true (c ∷ before) (ds ++ []) ≡ b → pieces (c ∷ before) ds ≡ rs
        → pieces before (c ∷ ds) ≡ cond b ((c ∷ []) ∷ rs) (prepend (c ∷ []) rs)
    turn b ds rs e r = ap₂ (λ t ts. cond t ((c ∷ []) ∷ ts) (prepend (c ∷ []) ts)) e r

    by_test : ((rs : List (List ℕ)) → pieces (c ∷ before) cs ≡ rs ++ q ∷ [] → pieces (c ∷ before) (concat rs) ≡ rs) → (b : Bool) → is_grapheme_break true (c ∷ before) (cs ++ []) ≡ b → (rest : List (List ℕ)) → pieces (c ∷ before) cs ≡ rest → (ps : List (List ℕ))
        → cond b ((c ∷ []) ∷ rest) (prepend (c ∷ []) rest) ≡ ps ++ q ∷ [] → pieces before (concat ps) ≡ ps
    by_test shorter b e rest r [] h = refl
    by_test shorter true e rest r (p ∷ ps) h =
        let later : rest ≡ ps ++ q ∷ [] = ap (drop 1) h in
        let first : p ≡ c ∷ [] = cc in
        let broken = break_true c before (concat ps) q (ap (λ t. is_grapheme_break true (c ∷ before) (t ++ [])) (sym (whole (concat ps) ps (r ∙ later) refl)) ∙ e) in
        ap (λ t. pieces before (t ++ concat ps)) first
        ∙ turn true (concat ps) ps broken (shorter ps (r ∙ later))
        ∙ ap (λ t. t ∷ ps) (sym first)
    by_test shorter false e [] r (p ∷ []) h = absurd (let l : [] ≡ q ∷ [] = ap (drop 1) h in cc)
    by_test shorter false e [] r (p ∷ (s ∷ ps)) h = absurd (let l : [] ≡ s ∷ (ps ++ q ∷ []) = ap (drop 1) h in cc)
    by_test shorter false e (x ∷ rest) r (p ∷ ps) h =
        let later : rest ≡ ps ++ q ∷ [] = ap (drop 1) h in
        let first : p ≡ c ∷ x = cc in
        let all : pieces (c ∷ before) cs ≡ (x ∷ ps) ++ q ∷ [] = r ∙ ap (λ t. x ∷ t) later in
        let inner : pieces (c ∷ before) (x ++ concat ps) ≡ x ∷ ps = shorter (x ∷ ps) all in
        let joined = break_same c before (x ++ concat ps) q (some_pieces (c ∷ before) (x ++ concat ps) x ps inner) ∙ ap (λ t. is_grapheme_break true (c ∷ before) (t ++ [])) (sym (whole (x ++ concat ps) (x ∷ ps) all refl)) ∙ e in
        ap (λ t. pieces before (t ++ concat ps)) first
        ∙ turn false (x ++ concat ps) (x ∷ ps) joined inner
        ∙ ap (λ t. t ∷ ps) (sym first)

-- ---- the same of the text's bytes
pub chars_encoded : (cs : List ℕ) → IsUtf8 (encode_utf8_all cs) → chars (encode_utf8_all cs) ≡ cs
chars_encoded [] u = chars-nil
chars_encoded (c ∷ cs) u =
    chars_past_char _ (encode_utf8_all cs) c u refl ∙ ap (λ ds. c ∷ ds) (chars_encoded cs (IsUtf8-past_char _ (encode_utf8_all cs) c u refl))

encoded-concat : (ps : List (List ℕ)) → concat (map encode_utf8_all ps) ≡ encode_utf8_all (concat ps)
encoded-concat [] = refl
encoded-concat (p ∷ ps) = ap (λ t. encode_utf8_all p ++ t) (encoded-concat ps) ∙ sym (encodes-append p (concat ps))

pub ends_or_not : {A : Type 0} (xs : List A) → (xs ≡ []) ⊎ ((ys : List A) × (y : A) × (xs ≡ ys ++ y ∷ []))
ends_or_not [] = inl refl
ends_or_not (x ∷ xs) = inr (elim (ends_or_not xs) [
  | inl e ↦ ([], x, ap (λ t. x ∷ t) e)
  | inr h ↦ (x ∷ h.0, h.1, ap (λ t. x ∷ t) h.2)
])

pub clusters_front : (text : List ℕ) (i : ℕ) (last : List ℕ) (new : List (ℕ × List ℕ)) → IsUtf8 text → clusters text ≡ new ++ (i, last) ∷ [] → IsCharBoundary text i × (clusters (take i text) ≡ new)
unfolding segments with_offsets
clusters_front text i last new u is = elim (ends_or_not (pieces [] (chars text))) [
  | inl e ↦ absurd (omega (arith, within, ap (λ ps. length (with_offsets 0 (map encode_utf8_all ps))) e))
  | inr h ↦ from_end h.0 h.1 h.2
]
  where
    within : length new < length (clusters text)
    within = omega (arith, ap length is, length-append new ((i, last) ∷ []))

    place : IsCharBoundary text i
    place =
        subst (λ x. IsCharBoundary text x.0) (ap (λ xs. get_or xs (length new) (i, last)) is ∙ get_or-append_seam new (i, last) [] (i, last))
        (All-IsPieceOf (is_grapheme_break true) text u (length new) (i, last) within).start

    from_end : (ps : List (List ℕ)) (q : List ℕ) → pieces [] (chars text) ≡ ps ++ q ∷ [] → IsCharBoundary text i × (clusters (take i text) ≡ new)
    from_end ps q e =
        let front = concat (map encode_utf8_all ps) in
        let end = encode_utf8_all q in
        let split : map encode_utf8_all (pieces [] (chars text)) ≡ map encode_utf8_all ps ++ end ∷ [] = ap (map encode_utf8_all) e ∙ map-append encode_utf8_all ps (q ∷ []) in
        let all : clusters text ≡ with_offsets 0 (map encode_utf8_all ps) ++ (0 + length front, end) ∷ [] = ap (with_offsets 0) split ∙ with_offsets-append 0 (map encode_utf8_all ps) (end ∷ []) in
        let parts = same_from_push new (with_offsets 0 (map encode_utf8_all ps)) (i, last) (0 + length front, end) (sym is ∙ all) in
        let long : i ≡ length front = ap (λ x. x.0) parts.1 ∙ (let z : 0 + length front ≡ length front = omega arith in z) in
        let whole : text ≡ front ++ end = sym (concat-segments (is_grapheme_break true) text u) ∙ ap concat split ∙ concat-push (map encode_utf8_all ps) end in
        let taken : take i text ≡ encode_utf8_all (concat ps) = ap₂ take long whole ∙ take-append_seam front end ∙ encoded-concat ps in
        let spelled : chars (take i text) ≡ concat ps = ap chars taken ∙ chars_encoded (concat ps) (subst IsUtf8 taken (IsUtf8-take text i u place)) in (
          place,
          ap (λ cs. with_offsets 0 (map encode_utf8_all (pieces [] cs))) spelled
              ∙ ap (λ zs. with_offsets 0 (map encode_utf8_all zs)) (cut_front (chars text) [] ps q e) ∙ sym parts.0,
        )
