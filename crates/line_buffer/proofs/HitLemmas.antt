-- The places of a character in a text, taken apart from its front and from its back.
use Rattle.std.proofs.Common.{◌≡◌, ℕ, suc, ◌+◌, ◌-◌, ◌<◌, ◌==◌, ⊎_elim, ap₂, Bool, true, false, cond, List, [], ◌∷◌, ◌++◌, length, get_or, map, reverse, take, drop, Option, None, Some, sym, ap, ◌∙◌, subst, arith, filter, All, IfSome, option_map, unwrap_or, IsUtf8, IsCharBoundary, chars, encode_utf8, encode_utf8_all}
use Rattle.std.specs.Char.{IsScalar, len_utf8}
use Rattle.std.specs.List.{last_or}
use Rattle.std.proofs.lemmas.List.{reverse-append, map-append, length-append}
use Rattle.std.proofs.lemmas.Bool.{cases_Bool}
use Rattle.std.proofs.lemmas.Str.{IsUtf8-past_char, chars_past_char, IsUtf8-encode, chars-append, encodes-chars, chars-nil, IsCharBoundary-at_seam, IsCharBoundary-past_char, IsCharBoundary-start, drop_past_char, length-encode}
use Rattle.std.proofs.lemmas.List.Elements.{filter-append, All-cons, All-take}
use Rattle.unicode_segmentation.proofs.TextLemmas.{IsUtf8-before, chars-encode_utf8}
use Rattle.line_buffer.specs.Hits.{chars_placed, placed_chars, hits, last_char}
use Rattle.line_buffer.specs.Clusters.{IsPart, nth_or_last}
use Rattle.line_buffer.proofs.ChainLemmas.{All-last_or, All-reverse, All-passing, last_or-append}

-- the places among placed characters
abbrev pub places_of : ℕ → List (ℕ × ℕ) → List ℕ
places_of c xs = map (λ x. x.0) (filter (λ x. x.1 == c) xs)

-- in a text that begins at a given place
abbrev pub hits_from : ℕ → ℕ → List ℕ → List ℕ
hits_from at c text = places_of c (chars_placed at (chars text))

-- one place, or none
abbrev pub place_if : Bool → ℕ → List ℕ
place_if b i = cond b (i ∷ []) []

pub places_of-cons : (c : ℕ) (x : ℕ × ℕ) (xs : List (ℕ × ℕ)) → places_of c (x ∷ xs) ≡ place_if (x.1 == c) x.0 ++ places_of c xs
places_of-cons c x xs = ⊎_elim (λ (t : (x.1 == c) ≡ true). rw t) (λ (t : (x.1 == c) ≡ false). rw t) (cases_Bool (x.1 == c))

pub places_of-append : (c : ℕ) (xs ys : List (ℕ × ℕ)) → places_of c (xs ++ ys) ≡ places_of c xs ++ places_of c ys
places_of-append c xs ys =
    ap (map (λ x. x.0)) (filter-append (λ x. x.1 == c) xs ys) ∙ map-append (λ x. x.0) (filter (λ x. x.1 == c) xs) (filter (λ x. x.1 == c) ys)

pub chars_placed-snoc : (at : ℕ) (cs : List ℕ) (c : ℕ) → chars_placed at (cs ++ c ∷ []) ≡ chars_placed at cs ++ (at + length (encode_utf8_all cs), c) ∷ []
unfolding chars_placed
chars_placed-snoc at [] c = ap (λ k. (k, c) ∷ []) (let e : at ≡ at + 0 = omega arith in e)
chars_placed-snoc at (d ∷ cs) c = ap (λ xs. (at, d) ∷ xs) (chars_placed-snoc (at + length (encode_utf8 d)) cs c
    ∙ ap (λ k. chars_placed (at + length (encode_utf8 d)) cs ++ (k, c) ∷ []) (omega (arith, length-append (encode_utf8 d) (encode_utf8_all cs))))

-- the last character of a text
module _ (at : ℕ) (c : ℕ) (old new : List ℕ) (last : ℕ) (u : IsUtf8 old) (s : IsScalar last) (came : old ≡ new ++ encode_utf8 last) where
  pub utf8-before : IsUtf8 new
  utf8-before = IsUtf8-before old new (encode_utf8 last) u (IsUtf8-encode last s) came

  pub placed-last : chars_placed at (chars old) ≡ chars_placed at (chars new) ++ (at + length new, last) ∷ []
  placed-last =
      ap (chars_placed at) (ap chars came ∙ chars-append new (encode_utf8 last) utf8-before ∙ ap (λ cs. chars new ++ cs) (chars-encode_utf8 last (IsUtf8-encode last s)))
      ∙ chars_placed-snoc at (chars new) last ∙ ap (λ bs. chars_placed at (chars new) ++ (at + length bs, last) ∷ []) (encodes-chars new utf8-before)

  pub hits-last : reverse (hits_from at c old) ≡ place_if (last == c) (at + length new) ++ reverse (hits_from at c new)
  hits-last =
      let one : reverse (places_of c ((at + length new, last) ∷ [])) ≡ place_if (last == c) (at + length new) =
      ⊎_elim (λ (t : (last == c) ≡ true). rw t) (λ (t : (last == c) ≡ false). rw t) (cases_Bool (last == c)) in
      ap (λ xs. reverse (places_of c xs)) placed-last ∙ ap reverse (places_of-append c (chars_placed at (chars new)) ((at + length new, last) ∷ []))
      ∙ reverse-append (hits_from at c new) (places_of c ((at + length new, last) ∷ [])) ∙ ap (λ zs. zs ++ reverse (hits_from at c new)) one

-- a turn of a search for the n-th place
module _ (v found : Option ℕ) (all rest : List ℕ) (b : Bool) (i : ℕ) (split : all ≡ place_if b i ++ rest) (missing : ℕ) (before : v ≡ last_or found (take missing all)) where
  pub hit-missed : b ≡ false → v ≡ last_or found (take missing rest)
  hit-missed e = before ∙ ap (λ xs. last_or found (take missing xs)) (split ∙ ap (λ t. place_if t i ++ rest) e)

  pub hit-made : b ≡ true → 0 < missing → v ≡ last_or (Some i) (take (missing - 1) rest)
  hit-made e p = before ∙ ap (λ xs. last_or found (take missing xs)) (split ∙ ap (λ t. place_if t i ++ rest) e)
      ∙ ap (λ k. last_or found (take k (i ∷ rest))) (let q : missing ≡ suc (missing - 1) = omega (arith, p) in q)

pub hits-none : (at c : ℕ) (text : List ℕ) → length text ≡ 0 → hits_from at c text ≡ []
unfolding chars_placed
hits-none at c [] e = ap (λ cs. places_of c (chars_placed at cs)) chars-nil
hits-none at c (b ∷ bs) e = absurd (omega (arith, e))

-- the same as the iterators say it: `i` is the character's place, and `onward` where the rest stands
pub first-read : (at i onward c : ℕ) (old new : List ℕ) (next : ℕ) → IsUtf8 old → (i ≡ at) × (old ≡ encode_utf8 next ++ new) × (onward ≡ at + length (encode_utf8 next))
    → hits_from at c old ≡ place_if (next == c) i ++ hits_from onward c new
unfolding chars_placed
first-read at i onward c old new next u h =
    ap (λ cs. places_of c (chars_placed at cs)) (chars_past_char old new next u h.1)
    ∙ places_of-cons c (at, next) (chars_placed (at + length (encode_utf8 next)) (chars new))
    ∙ ap₂ (λ k m. place_if (next == c) k ++ hits_from m c new) (sym h.0) (sym h.2)

pub last-read : (at i onward c : ℕ) (old new : List ℕ) (last : ℕ) → IsUtf8 old → IsScalar last → (onward ≡ at) × (old ≡ new ++ encode_utf8 last) × (i ≡ at + length new)
    → reverse (hits_from at c old) ≡ place_if (last == c) i ++ reverse (hits_from onward c new)
last-read at i onward c old new last u s h =
    hits-last at c old new last u s h.1 ∙ ap₂ (λ k m. place_if (last == c) k ++ reverse (hits_from m c new)) (sym h.2) (sym h.0)

-- the last character's place
pub last_char-read : (text new : List ℕ) (last : ℕ) → IsUtf8 text → IsScalar last → text ≡ new ++ encode_utf8 last → last_char text ≡ length new
last_char-read text new last u s came =
    ap (λ xs. unwrap_or (option_map (λ x. x.0) (last_or None xs)) 0) (placed-last 0 0 text new last u s came)
    ∙ ap (λ o. unwrap_or (option_map (λ x. x.0) o) 0) (last_or-append None (chars_placed 0 (chars new)) ((0 + length new, last) ∷ [])) ∙ (let e : 0 + length new ≡ length new = omega arith in e)

pub last_char-empty : (text : List ℕ) → length text ≡ 0 → last_char text ≡ 0
unfolding chars_placed
last_char-empty [] e = ap (λ cs. unwrap_or (option_map (λ x. x.0) (last_or None (chars_placed 0 cs))) 0) chars-nil
last_char-empty (b ∷ bs) e = absurd (omega (arith, e))

-- the same, where the character's bytes were counted
pub last_char-counted : (text new : List ℕ) (last n : ℕ) → IsUtf8 text → IsScalar last → text ≡ new ++ encode_utf8 last → n ≡ length (encode_utf8 last)
    → (length text - n ≡ last_char text) × IsCharBoundary text (length text - n)
last_char-counted text new last n u s came counted =
    let e : length new ≡ length text - n = omega (arith, counted, ap length came, length-append new (encode_utf8 last)) in
    (sym e ∙ sym (last_char-read text new last u s came), subst (IsCharBoundary text) e (IsCharBoundary-at_seam text new (encode_utf8 last) came (IsUtf8-encode last s)))

-- each character stands between two places at which characters begin
pub All-placed : (text : List ℕ) (at : ℕ) (cs : List ℕ) → IsUtf8 (drop at text) → drop at text ≡ encode_utf8_all cs → IsCharBoundary text at
    → All (λ x. IsPart text x.0 (length (encode_utf8 x.1))) (chars_placed at cs)
unfolding chars_placed
All-placed text at [] u e b = λ k d l. absurd (omega (arith, l))
All-placed text at (c ∷ cs) u e b =
    All-cons (λ x. IsPart text x.0 (length (encode_utf8 x.1))) (at, c) (chars_placed (at + length (encode_utf8 c)) cs) (record { start = b; end = end })
    (All-placed text (at + length (encode_utf8 c)) cs (subst IsUtf8 (sym onward) (IsUtf8-past_char (drop at text) (encode_utf8_all cs) c u e)) onward end)
  where
    width : len_utf8 c ≡ length (encode_utf8 c)
    width = sym (length-encode c)

    end : IsCharBoundary text (at + length (encode_utf8 c))
    end = subst (λ k. IsCharBoundary text (at + k)) width (IsCharBoundary-past_char text (encode_utf8_all cs) at c b.0 u e)

    onward : drop (at + length (encode_utf8 c)) text ≡ encode_utf8_all cs
    onward = ap (λ k. drop (at + k) text) (sym width) ∙ drop_past_char text (encode_utf8_all cs) at c e

pub All-hits : (c : ℕ) (text : List ℕ) → IsUtf8 text → All (λ i. IsPart text i (length (encode_utf8 c))) (hits c text)
All-hits c text u =
    All-passing (λ i. IsPart text i (length (encode_utf8 c))) (λ x. x.0) (λ x. x.1 == c) (placed_chars text)
    (λ k d l e. subst (λ x. IsPart text (get_or (placed_chars text) k d).0 (length (encode_utf8 x))) (let q : (get_or (placed_chars text) k d).1 ≡ c = grind (arith, e) in q)
    (All-placed text 0 (chars text) u (sym (encodes-chars text u)) (IsCharBoundary-start text u) k d l))

abbrev pub IsHit : ℕ → List ℕ → ℕ → Type 0
IsHit c text i = IsPart text i (length (encode_utf8 c))

pub part-of_hit : (c : ℕ) (text : List ℕ) (n : ℕ) (o : Option ℕ) → IsUtf8 text → o ≡ nth_or_last n (hits c text) → IfSome o (IsHit c text)
part-of_hit c text n o u e = subst (λ r. IfSome r (IsHit c text)) (sym e) (All-last_or (IsHit c text) (take n (hits c text)) (All-take (IsHit c text) n (hits c text) (All-hits c text u)))

pub part-of_hit_back : (c : ℕ) (text : List ℕ) (n : ℕ) (o : Option ℕ) → IsUtf8 text → o ≡ nth_or_last n (reverse (hits c text)) → IfSome o (IsHit c text)
part-of_hit_back c text n o u e =
    subst (λ r. IfSome r (IsHit c text)) (sym e)
    (All-last_or (IsHit c text) (take n (reverse (hits c text))) (All-take (IsHit c text) n (reverse (hits c text)) (All-reverse (IsHit c text) (hits c text) (All-hits c text u))))
