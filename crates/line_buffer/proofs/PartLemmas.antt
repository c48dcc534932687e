-- The clusters of a text are parts of it, between characters.
use Rattle.std.proofs.Common.{◌≡◌, ℕ, ◌+◌, ◌-◌, ◌≤◌, true, ◌<◌, ◌⊎◌, inl, inr, get_or, List, length, map, reverse, take, drop, Option, None, Some, refl, sym, ap, ◌∙◌, subst, arith, add_assoc, option_map, IfSome, All, IsUtf8, IsCharBoundary, slice_range, Bor}
use Rattle.std.specs.List.{last_or}
use Rattle.std.proofs.lemmas.Bool.{cases_lt}
use Rattle.std.proofs.lemmas.List.{length-take-le, get_or-take}
use Rattle.std.proofs.lemmas.List.Elements.{All-take}
use Rattle.std.proofs.lemmas.Str.{IsCharBoundary-from_rest}
use Rattle.unicode_segmentation.specs.Grapheme.{is_grapheme_break}
use Rattle.unicode_segmentation.proofs.SegmentsLemmas.{All-IsPieceOf}
use Rattle.line_buffer.specs.Clusters.{clusters, IsPart, place_forward, place_backward}
use Rattle.line_buffer.specs.Line.{Line, text_before, text_after}
use Rattle.line_buffer.proofs.ChainLemmas.{All-last_or, All-reverse, nth_or_last-map}

pub slice_range-front : (xs : List ℕ) (n : ℕ) → slice_range xs 0 n ≡ take n xs
slice_range-front xs n = ap (λ k. take k xs) (let e : n - 0 ≡ n = omega arith in e)

abbrev pub IsPartAt : List ℕ → ℕ × List ℕ → Type 0
IsPartAt text x = IsPart text x.0 (length x.1)

-- each cluster stands between characters
pub All-IsPartAt : (text : List ℕ) → IsUtf8 text → All (IsPartAt text) (clusters text)
All-IsPartAt text u = λ k d l. let p = All-IsPieceOf (is_grapheme_break true) text u k d l in record { start = p.start; end = p.end }

part_of : (text : List ℕ) (r : Option (ℕ × Bor (List ℕ))) (o : Option (ℕ × List ℕ)) → option_map (λ p. (p.0, p.1.now)) r ≡ o → IfSome o (IsPartAt text) → IfSome r (λ p. IsPart text p.0 (length p.1.now))
part_of text None o e h = tt
part_of text (Some p) o e h = subst (λ x. IfSome x (IsPartAt text)) (sym e) h

pub part_of_nth : (text : List ℕ) (n : ℕ) (r : Option (ℕ × Bor (List ℕ))) → IsUtf8 text → option_map (λ p. (p.0, p.1.now)) r ≡ last_or None (take n (clusters text)) → IfSome r (λ p. IsPart text p.0 (length p.1.now))
part_of_nth text n r u e = part_of text r _ e (All-last_or (IsPartAt text) _ (All-take (IsPartAt text) n _ (All-IsPartAt text u)))

pub part_of_nth_back : (text : List ℕ) (n : ℕ) (r : Option (ℕ × Bor (List ℕ))) → IsUtf8 text → option_map (λ p. (p.0, p.1.now)) r ≡ last_or None (take n (reverse (clusters text))) → IfSome r (λ p. IsPart text p.0 (length p.1.now))
part_of_nth_back text n r u e = part_of text r _ e (All-last_or (IsPartAt text) _ (All-take (IsPartAt text) n _ (All-reverse (IsPartAt text) _ (All-IsPartAt text u))))

-- where a cluster was found, the place that a motion takes
placed : (at : ℕ) (o : Option (ℕ × List ℕ)) → option_map (λ p. (at + p.0) + length p.1) o ≡ option_map (λ i. at + i) (option_map (λ x. x.0 + length x.1) o)
placed at None = refl
placed at (Some x) = ap Some (add_assoc at x.0 (length x.1))

pub forward_from_cluster : (l m : Line) → l ≡ m → (text : List ℕ) (n : ℕ) (o : Option (ℕ × List ℕ)) → text ≡ text_after l → o ≡ last_or None (take n (clusters text))
    → option_map (λ p. (l.place + p.0) + length p.1) o ≡ place_forward n m
forward_from_cluster l m same text n o t e =
    placed l.place o
    ∙ ap (option_map (λ i. l.place + i)) (ap (option_map (λ x. x.0 + length x.1)) e ∙ sym (nth_or_last-map (λ x. x.0 + length x.1) n (clusters text)))
    ∙ ap (λ bs. option_map (λ i. l.place + i) (last_or None (take n (map (λ x. x.0 + length x.1) (clusters bs))))) t
    ∙ ap (place_forward n) same

pub backward_from_cluster : (l m : Line) → l ≡ m → (text : List ℕ) (n : ℕ) (o : Option (ℕ × List ℕ)) → text ≡ text_before l → o ≡ last_or None (take n (reverse (clusters text)))
    → option_map (λ p. p.0) o ≡ place_backward n m
backward_from_cluster l m same text n o t e =
    ap (option_map (λ p. p.0)) e ∙ sym (nth_or_last-map (λ x. x.0) n (reverse (clusters text)))
    ∙ ap (λ bs. last_or None (take n (map (λ x. x.0) (reverse (clusters bs))))) t
    ∙ ap (place_backward n) same

-- a part of what stands before a place, and of what stands after it
pub boundary_before : (text : List ℕ) (p i : ℕ) → IsCharBoundary text p → IsCharBoundary (take p text) i → IsCharBoundary text i
boundary_before text p i b h = by_order (cases_lt i p)
  where
    by_order : (i < p) ⊎ (p ≤ i) → IsCharBoundary text i
    by_order (inl l) = (omega (arith, l, b.0), λ m a. let e : get_or (take p text) i 0 ≡ get_or text i 0 = get_or-take p text i 0 l in omega (arith, e, h.1 (omega (arith, l, length-take-le p text b.0)) (omega (arith, e, a))))
    by_order (inr e) = subst (IsCharBoundary text) (let k : p ≡ i = omega (arith, e, h.0, length-take-le p text b.0) in k) b

pub part_before : (text : List ℕ) (p i len : ℕ) → IsCharBoundary text p → IsPart (take p text) i len → IsPart text i len × (i + len ≤ p)
part_before text p i len b h =
    (record { start = boundary_before text p i b h.start; end = boundary_before text p (i + len) b h.end }, omega (arith, h.end.0, length-take-le p text b.0))

pub part_behind : (text : List ℕ) (p i len : ℕ) → p ≤ length text → IsPart (drop p text) i len → IsPart text (p + i) len
part_behind text p i len l h = record {
  start = IsCharBoundary-from_rest text p i l h.start;
  end = subst (IsCharBoundary text) (sym (add_assoc p i len)) (IsCharBoundary-from_rest text p (i + len) l h.end);
}
