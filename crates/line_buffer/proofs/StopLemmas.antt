-- The places at which motions by words stop: the n-th of them, and that each lies between characters.
use Rattle.std.proofs.Common.{◌≡◌, ℕ, zero, suc, ◌-◌, ◌<◌, ◌==◌, ⊎_elim, Bool, true, false, cond, ◌⊎◌, inl, inr, List, [], ◌∷◌, ◌++◌, length, reverse, take, drop, Option, None, Some, refl, sym, ap, ◌∙◌, subst, arith, MatchOption, slice_get, option_to_list, option_map, IfSome, All, IsUtf8, IsCharBoundary, eq-eqb, ne_eqb}
use Rattle.std.specs.List.{last_or}
use Rattle.std.specs.Option.{option_or}
use Rattle.std.proofs.Math.Seq.{take-nil}
use Rattle.std.proofs.lemmas.Bool.{cases_Bool}
use Rattle.std.proofs.lemmas.List.{reverse-append}
use Rattle.std.proofs.lemmas.List.Elements.{All-nil, All-cons, All-tail, All-append, All-take, All-drop, All-map}
use Rattle.std.proofs.lemmas.Str.{IsCharBoundary-start, IsCharBoundary-end}
use Rattle.unicode_segmentation.proofs.Computing.{unicode_segmentation}
use Rattle.line_buffer.specs.Clusters.{clusters, nth_or_last}
use Rattle.line_buffer.specs.Words.{kinds, kind_of, edges_of, edge_between, text_start, text_end, inner_stops, last_stop, stops_back, stops_forward}
use Rattle.line_buffer.specs.declared.types.At.{At, TheVariants.Start, TheVariants.BeforeEnd, TheVariants.AfterEnd}
use Rattle.line_buffer.specs.declared.types.Word.{Word, TheVariants.Big, TheVariants.Emacs, TheVariants.Vi}
use Rattle.line_buffer.specs.declared.words.ClusterKind.{ClusterKind}
use Rattle.line_buffer.proofs.ChainLemmas.{All-last_or, All-reverse, last_or-append}
use Rattle.line_buffer.proofs.PartLemmas.{All-IsPartAt}

-- the n-th of some places, or else the one after them
pub nth-then : (xs : List ℕ) (t : ℕ) (o : Option ℕ) (k : ℕ) → last_or o (take (suc k) (xs ++ t ∷ [])) ≡ option_or (slice_get xs k) (Some t)
nth-then [] t o k = ap (last_or (Some t)) (take-nil k)
nth-then (x ∷ xs) t o zero = refl
nth-then (x ∷ xs) t o (suc k) = nth-then xs t (Some x) k

-- places with at most one more after them, and none after no places
abbrev pub IsTailOf : List ℕ → List ℕ → Type 0
IsTailOf rest xs = ((rest ≡ []) × (xs ≡ [])) ⊎ ((t : ℕ) × (rest ≡ t ∷ []))

pub nth_or_last-then : (n : ℕ) (xs rest : List ℕ) → 0 < n → IsTailOf rest xs → nth_or_last n (xs ++ rest) ≡ option_or (slice_get xs (n - 1)) (last_or None rest)
nth_or_last-then zero xs rest p h = absurd (omega (arith, p))
nth_or_last-then (suc k) xs rest p (inl (e, f)) = rw (e, f)
nth_or_last-then (suc k) xs rest p (inr (t, e)) =
    rw e (nth-then xs t None k ∙ ap (λ j. option_or (slice_get xs j) (Some t)) (let q : k ≡ suc k - 1 = omega arith in q))

clusters-nil : clusters [] ≡ []
unfolding unicode_segmentation
clusters-nil = refl

pub clusters-empty : (text : List ℕ) → length text ≡ 0 → clusters text ≡ []
clusters-empty [] e = clusters-nil
clusters-empty (b ∷ text) e = absurd (omega (arith, e))

text_end-cases : (text : List ℕ) → ((text_end text ≡ []) × (clusters text ≡ [])) ⊎ ((t : ℕ) × (text_end text ≡ t ∷ []))
text_end-cases text =
    ⊎_elim (λ (e : (length text == 0) ≡ true). inl (rw e refl, clusters-empty text (grind (arith, e))))
    (λ (e : (length text == 0) ≡ false). inr (length text, rw e refl)) (cases_Bool (length text == 0))

last-some : {A : Type 0} (x : A) (xs : List A) → (z : A) × (last_or (Some x) xs ≡ Some z)
last-some x [] = (x, refl)
last-some x (y ∷ xs) = last-some y xs

-- the place of the last cluster, unless it is the first
abbrev pub later_last : List (ℕ × List ℕ) → List ℕ
later_last pieces = option_to_list (option_map (λ x. x.0) (last_or None (drop 1 pieces)))

later_last-cases : (xs : List (ℕ × List ℕ)) → ((later_last xs ≡ []) × (drop 1 xs ≡ [])) ⊎ ((t : ℕ) × (later_last xs ≡ t ∷ []))
later_last-cases [] = inl (refl, refl)
later_last-cases (x ∷ []) = inl (refl, refl)
later_last-cases (x ∷ (y ∷ xs)) = let h = last-some y xs in inr (h.0.0, ap (λ o. option_to_list (option_map (λ z. z.0) o)) h.1)

edges_of-short : (at : At) (word : Word) (xs : List (ℕ × List ℕ)) → drop 1 xs ≡ [] → edges_of at (kinds word xs) ≡ []
edges_of-short at word [] e = refl
edges_of-short at word (x ∷ []) e = refl
edges_of-short at word (x ∷ (y ∷ xs)) e = absurd (let q : suc (length xs) ≡ 0 = ap length e in omega (arith, q))

tail_of : {A : Type 0} {ys : List A} {rest xs : List ℕ} → ((rest ≡ []) × (ys ≡ [])) ⊎ ((t : ℕ) × (rest ≡ t ∷ [])) → (ys ≡ [] → xs ≡ []) → IsTailOf rest xs
tail_of (inl h) f = inl (h.0, f h.1)
tail_of (inr h) f = inr h

-- each motion over a text has at most one last stop, and none only if it stops nowhere
pub last_stop-tail : (at : At) (word : Word) (text : List ℕ) → IsTailOf (last_stop at word text) (inner_stops at word text)
last_stop-tail at word text = cases at word
  where
    at_end : (at : At) (word : Word) → IsTailOf (text_end text) (edges_of at (kinds word (clusters text)))
    at_end at word = tail_of (text_end-cases text) (λ e. ap (λ xs. edges_of at (kinds word xs)) e)

    at_last : (at : At) (word : Word) → IsTailOf (later_last (clusters text)) (edges_of at (kinds word (clusters text)))
    at_last at word = tail_of (later_last-cases (clusters text)) (edges_of-short at word (clusters text))

    before_last : (word : Word) → IsTailOf (later_last (clusters text)) (edges_of BeforeEnd (kinds word (drop 1 (clusters text))))
    before_last word = tail_of (later_last-cases (clusters text)) (λ e. ap (λ xs. edges_of BeforeEnd (kinds word xs)) e)

    cases : (at : At) (word : Word) → IsTailOf (last_stop at word text) (inner_stops at word text)
    cases Start Emacs = at_end Start Emacs
    cases Start Big = at_last Start Big
    cases Start Vi = at_last Start Vi
    cases BeforeEnd Emacs = at_end AfterEnd Emacs
    cases BeforeEnd Big = before_last Big
    cases BeforeEnd Vi = before_last Vi
    cases AfterEnd word = at_end AfterEnd word

pub next-stop : (at : At) (word : Word) (text : List ℕ) (n : ℕ) → 0 < n → nth_or_last n (stops_forward at word text) ≡ option_or (slice_get (inner_stops at word text) (n - 1)) (last_or None (last_stop at word text))
next-stop at word text n p = nth_or_last-then n (inner_stops at word text) (last_stop at word text) p (last_stop-tail at word text)

pub prev-stop : (word : Word) (text : List ℕ) (n : ℕ) → 0 < n → (length text ≡ 0 → ⊥) → nth_or_last n (stops_back word text) ≡ option_or (slice_get (reverse (edges_of Start (kinds word (clusters text)))) (n - 1)) (Some 0)
prev-stop word text n p some =
    ap (λ b. nth_or_last n (reverse (cond {A = List ℕ} b [] (0 ∷ []) ++ starts))) (ne_eqb (length text) 0 some) ∙ ap (nth_or_last n) (reverse-append (0 ∷ []) starts)
    ∙ nth_or_last-then n (reverse starts) (0 ∷ []) p (inr (0, refl))
  where
    starts : List ℕ
    starts = edges_of Start (kinds word (clusters text))

pub prev-stop-empty : (word : Word) (text : List ℕ) (n : ℕ) → length text ≡ 0 → None ≡ nth_or_last n (stops_back word text)
prev-stop-empty word text n e =
    ap (last_or None) (sym (take-nil n))
    ∙ ap (nth_or_last n) (sym (ap (λ b. reverse (cond {A = List ℕ} b [] (0 ∷ []) ++ edges_of Start (kinds word (clusters text)))) (eq-eqb (length text) 0 e)
    ∙ ap (λ xs. reverse (edges_of Start (kinds word xs))) (clusters-empty text e)))

All-option : (P : ℕ → Type 0) (o : Option ℕ) → IfSome o P → All P (option_to_list o)
All-option P None h = All-nil P
All-option P (Some i) h = All-cons P i [] h (All-nil P)

-- what holds of the places of clusters holds of the edges between them
pub All-edges_of : (P : ℕ → Type 0) (at : At) (xs : List (ℕ × ClusterKind)) → All (λ x. P x.0) xs → All P (edges_of at xs)
All-edges_of P at [] h = All-nil P
All-edges_of P at (x ∷ []) h = All-nil P
All-edges_of P at (x ∷ (y ∷ xs)) h =
    All-append P (option_to_list (edge_between at x y)) (edges_of at (y ∷ xs)) (All-option P (edge_between at x y) (edge at)) (All-edges_of P at (y ∷ xs) (All-tail (λ z. P z.0) x (y ∷ xs) h))
  where
    here : P x.0
    here = h 0 x (omega arith)

    next : P y.0
    next = h 1 x (omega arith)

    when : (b : Bool) (i : ℕ) → P i → IfSome (cond b (Some i) None) P
    when true i p = p
    when false i p = tt

    edge : (at : At) → IfSome (edge_between at x y) P
    edge Start = when _ y.0 next
    edge BeforeEnd = when _ x.0 here
    edge AfterEnd = when _ y.0 next

-- each stop lies between characters
All-starts : (text : List ℕ) → IsUtf8 text → All (λ x. IsCharBoundary text x.0) (clusters text)
All-starts text u = λ k d l. (All-IsPartAt text u k d l).start

pub All-edges-boundary : (at : At) (word : Word) (text : List ℕ) (xs : List (ℕ × List ℕ)) → All (λ x. IsCharBoundary text x.0) xs → All (IsCharBoundary text) (edges_of at (kinds word xs))
All-edges-boundary at word text xs h = All-edges_of (IsCharBoundary text) at (kinds word xs) (All-map (λ x. IsCharBoundary text x.0) (λ x. (x.0, kind_of word x.1)) xs h)

pub All-stops_back : (word : Word) (text : List ℕ) → IsUtf8 text → All (IsCharBoundary text) (stops_back word text)
All-stops_back word text u =
    All-reverse (IsCharBoundary text) _ (All-append (IsCharBoundary text) (text_start text) _ (start (length text == 0)) (All-edges-boundary Start word text (clusters text) (All-starts text u)))
  where
    start : (b : Bool) → All (IsCharBoundary text) (cond {A = List ℕ} b [] (0 ∷ []))
    start true = All-nil (IsCharBoundary text)
    start false = All-option (IsCharBoundary text) (Some 0) (IsCharBoundary-start text u)

pub All-stops_forward : (at : At) (word : Word) (text : List ℕ) → IsUtf8 text → All (IsCharBoundary text) (stops_forward at word text)
All-stops_forward at word text u = All-append (IsCharBoundary text) (inner_stops at word text) (last_stop at word text) (inner at word) (final at word)
  where
    inner : (at : At) (word : Word) → All (IsCharBoundary text) (inner_stops at word text)
    inner Start word = All-edges-boundary Start word text (clusters text) (All-starts text u)
    inner BeforeEnd Emacs = All-edges-boundary AfterEnd Emacs text (clusters text) (All-starts text u)
    inner BeforeEnd word = All-edges-boundary BeforeEnd word text (drop 1 (clusters text)) (All-drop (λ x. IsCharBoundary text x.0) 1 (clusters text) (All-starts text u))
    inner AfterEnd word = All-edges-boundary AfterEnd word text (clusters text) (All-starts text u)

    end : (b : Bool) → All (IsCharBoundary text) (cond {A = List ℕ} b [] (length text ∷ []))
    end true = All-nil (IsCharBoundary text)
    end false = All-option (IsCharBoundary text) (Some (length text)) (IsCharBoundary-end text)

    of_last : (o : Option (ℕ × List ℕ)) → IfSome o (λ x. IsCharBoundary text x.0) → All (IsCharBoundary text) (option_to_list (option_map (λ x. x.0) o))
    of_last None h = All-nil (IsCharBoundary text)
    of_last (Some x) h = All-option (IsCharBoundary text) (Some x.0) h

    last : All (IsCharBoundary text) (later_last (clusters text))
    last = of_last (last_or None (drop 1 (clusters text))) (All-last_or (λ x. IsCharBoundary text x.0) (drop 1 (clusters text)) (All-drop (λ x. IsCharBoundary text x.0) 1 (clusters text) (All-starts text u)))

    final : (at : At) (word : Word) → All (IsCharBoundary text) (last_stop at word text)
    final Start Emacs = end (length text == 0)
    final BeforeEnd Emacs = end (length text == 0)
    final AfterEnd word = end (length text == 0)
    final _ _ = last

-- the n-th stop does
pub nth-boundary : (text : List ℕ) (n : ℕ) (stops : List ℕ) (o : Option ℕ) → All (IsCharBoundary text) stops → o ≡ nth_or_last n stops → IfSome o (λ i. IsCharBoundary text i)
nth-boundary text n stops o h e = subst (λ r. IfSome r (IsCharBoundary text)) (sym e) (All-last_or (IsCharBoundary text) (take n stops) (All-take (IsCharBoundary text) n stops h))

-- the first cluster passed over, and then the last one
pub later_last-read : {A : Type 0} (v : A → ℕ × List ℕ) (r : Option A) (old mid new : List (ℕ × List ℕ)) (x : ℕ × List ℕ)
    → MatchOption r ((old ≡ []) × (mid ≡ [])) (λ y. old ≡ v y ∷ mid) → mid ≡ new ++ x ∷ [] → later_last old ≡ x.0 ∷ []
later_last-read {A = A} v r old mid new x h e = ap (λ xs. option_to_list (option_map (λ z. z.0) (last_or None xs))) (rest r h ∙ e) ∙ ap (λ o. option_to_list (option_map (λ z. z.0) o)) (last_or-append None new (x ∷ []))
  where
    rest : (r : Option A) → MatchOption r ((old ≡ []) × (mid ≡ [])) (λ y. old ≡ v y ∷ mid) → drop 1 old ≡ mid
    rest None h = ap (drop 1) h.0 ∙ sym h.1
    rest (Some y) h = ap (drop 1) h
