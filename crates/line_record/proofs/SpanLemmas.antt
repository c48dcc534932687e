-- Spans that adjoin: which of them stand, and what they stand for, where the list changes after them.
use Rattle.std.proofs.Common.{◌≡◌, ℕ, zero, suc, ◌+◌, ◌-◌, ◌<◌, ◌≤◌, List, [], ◌∷◌, ◌++◌, length, take, drop, map, refl, sym, ap, ◌∙◌, arith, get_or, slice_range, subst}
use Rattle.std.proofs.lemmas.List.{take-take, drop-take, take-map, length-take-le, map_push}
use Rattle.line_record.specs.Log.{Adjoin}
use Rattle.std.specs.Prelude.{unwrap_or, option_map, slice_get}

-- where the span of an index begins; the end of all spans if there is none
abbrev pub place_of_span : {S : Type 0} → (S → ℕ) → List S → ℕ → ℕ → ℕ
place_of_span first spans n to = unwrap_or (option_map first (slice_get spans n)) to

pub take_lower : {A : Type 0} (i j : ℕ) (xs ys : List A) → i ≤ j → take j xs ≡ take j ys → take i xs ≡ take i ys
take_lower i j xs ys le e = sym (take-take i j xs le) ∙ ap (take i) e ∙ take-take i j ys le

slice_of_take : {A : Type 0} (i j : ℕ) (xs : List A) → i ≤ j → slice_range xs i j ≡ drop i (take j xs)
slice_of_take i j xs le =
    let n : i + (j - i) ≡ j = omega arith in
    sym (drop-take i (j - i) xs) ∙ ap (λ k. drop i (take k xs)) n

pub slice_same : {A : Type 0} (i j : ℕ) (xs ys : List A) → i ≤ j → take j xs ≡ take j ys → slice_range xs i j ≡ slice_range ys i j
slice_same i j xs ys le e = slice_of_take i j xs le ∙ ap (drop i) e ∙ sym (slice_of_take i j ys le)

module _ {A S : Type 0} (first last : S → ℕ) (Fits : List A → S → Type 0) where
  pub adjoin_le : (all : List A) (spans : List S) (from to : ℕ) → Adjoin first last Fits all from spans to → from ≤ to
  adjoin_le all [] from to h = omega (arith, h)
  adjoin_le all (s ∷ spans) from to h = omega (arith, h.1, adjoin_le all spans (last s) to h.3)

  -- the first n of them
  pub adjoin_cut : (n : ℕ) (all : List A) (spans : List S) (from to : ℕ) → Adjoin first last Fits all from spans to
      → Adjoin first last Fits all from (take n spans) (place_of_span first spans n to)
  adjoin_cut zero all [] from to h = h
  adjoin_cut zero all (s ∷ spans) from to h = sym h.0
  adjoin_cut (suc n) all [] from to h = h
  adjoin_cut (suc n) all (s ∷ spans) from to h = (h.0, h.1, h.2, adjoin_cut n all spans (last s) to h.3)

  pub adjoin_drop : (n : ℕ) (all : List A) (spans : List S) (from to : ℕ) → Adjoin first last Fits all from spans to
      → Adjoin first last Fits all (place_of_span first spans n to) (drop n spans) to
  adjoin_drop zero all [] from to h = refl
  adjoin_drop zero all (s ∷ spans) from to h = (refl, omega (arith, h.0, h.1), h.2, h.3)
  adjoin_drop (suc n) all [] from to h = refl
  adjoin_drop (suc n) all (s ∷ spans) from to h = adjoin_drop n all spans (last s) to h.3

  pub place_le : (n : ℕ) (all : List A) (spans : List S) (from to : ℕ) → Adjoin first last Fits all from spans to → place_of_span first spans n to ≤ to
  place_le n all spans from to h = adjoin_le all (drop n spans) (place_of_span first spans n to) to (adjoin_drop n all spans from to h)

  -- where one of them begins, or all end
  pub place_fits : (P : ℕ → Type 0) → (all : List A) → ((s : S) → Fits all s → P (first s)) → (n : ℕ) (spans : List S) (from to : ℕ) → P to → Adjoin first last Fits all from spans to
      → P (place_of_span first spans n to)
  place_fits P all at zero [] from to p h = p
  place_fits P all at zero (s ∷ spans) from to p h = at s h.2
  place_fits P all at (suc n) [] from to p h = p
  place_fits P all at (suc n) (s ∷ spans) from to p h = place_fits P all at n spans (last s) to p h.3

  -- one more
  pub adjoin_push : (all : List A) (spans : List S) (from to : ℕ) (s : S) → Adjoin first last Fits all from spans to → first s ≡ to → to ≤ last s → Fits all s
      → Adjoin first last Fits all from (spans ++ (s ∷ [])) (last s)
  adjoin_push all [] from to s h f l k = (f ∙ sym h, omega (arith, h), k, refl)
  adjoin_push all (t ∷ spans) from to s h f l k = (h.0, h.1, h.2, adjoin_push all spans (last t) to s h.3 f l k)

  -- the one of an index
  pub record SpanOf (all : List A) (spans : List S) (to n : ℕ) (s : S) : Type 0 where
    pub order : first s ≤ last s
    pub inside : last s ≤ to
    pub fits : Fits all s
    pub place : place_of_span first spans n to ≡ first s
    pub next : place_of_span first spans (suc n) to ≡ last s

  next_place : (all : List A) (spans : List S) (from to : ℕ) → Adjoin first last Fits all from spans to → place_of_span first spans 0 to ≡ from
  next_place all [] from to h = sym h
  next_place all (s ∷ spans) from to h = h.0

  pub adjoin_at : (n : ℕ) (all : List A) (spans : List S) (from to : ℕ) (d : S) → Adjoin first last Fits all from spans to → n < length spans → SpanOf all spans to n (get_or spans n d)
  adjoin_at n all [] from to d h l = absurd (omega (arith, l))
  adjoin_at zero all (s ∷ spans) from to d h l = record {
    order = omega (arith, h.0, h.1);
    inside = adjoin_le all spans (last s) to h.3;
    fits = h.2;
    place = refl;
    next = next_place all spans (last s) to h.3;
  }
  adjoin_at (suc n) all (s ∷ spans) from to d h l =
      let r = adjoin_at n all spans (last s) to d h.3 (omega (arith, l)) in
      record { order = r.order; inside = r.inside; fits = r.fits; place = r.place; next = r.next }

  -- a list that begins alike
  pub adjoin_kept : ((s : S) (xs ys : List A) → first s ≤ last s → take (last s) xs ≡ take (last s) ys → Fits xs s → Fits ys s) → (xs ys : List A) (spans : List S) (from to : ℕ)
      → Adjoin first last Fits xs from spans to → take to xs ≡ take to ys → Adjoin first last Fits ys from spans to
  adjoin_kept fits xs ys [] from to h e = h
  adjoin_kept fits xs ys (s ∷ spans) from to h e =
      (h.0, h.1, fits s xs ys (omega (arith, h.0, h.1)) (take_lower (last s) to xs ys (adjoin_le xs spans (last s) to h.3) e) h.2, adjoin_kept fits xs ys spans (last s) to h.3 e)

  pub views_kept : {B : Type 0} (make : List A → S → B) → ((s : S) (xs ys : List A) → first s ≤ last s → take (last s) xs ≡ take (last s) ys → Fits xs s → make ys s ≡ make xs s)
      → (xs ys : List A) (spans : List S) (from to : ℕ) → Adjoin first last Fits xs from spans to → take to xs ≡ take to ys → map (make ys) spans ≡ map (make xs) spans
  views_kept make same xs ys [] from to h e = refl
  views_kept make same xs ys (s ∷ spans) from to h e =
      ap (λ b. b ∷ map (make ys) spans) (same s xs ys (omega (arith, h.0, h.1)) (take_lower (last s) to xs ys (adjoin_le xs spans (last s) to h.3) e) h.2)
      ∙ ap (λ bs. make xs s ∷ bs) (views_kept make same xs ys spans (last s) to h.3 e)

-- where one of them begins, by what the code reads
pub place_is : {A S : Type 0} (first : S → ℕ) (all : List A) (seen spans : List S) (n place count : ℕ) → place ≡ place_of_span first seen n count → seen ≡ spans → count ≡ length all
    → place ≡ place_of_span first spans n (length all)
place_is first all seen spans n place count is same long = is ∙ ap (λ ss. place_of_span first ss n count) same ∙ ap (place_of_span first spans n) long

-- spans of a list, and what they stand for in it
pub record SpansAre {A S B : Type 0} (first last : S → ℕ) (Fits : List A → S → Type 0) (make : List A → S → B) (all : List A) (spans : List S) (to : ℕ) (views : List B) : Type 0 where
  pub are : Adjoin first last Fits all 0 spans to
  pub items : map (make all) spans ≡ views

module _ {A S B : Type 0} (first last : S → ℕ) (Fits : List A → S → Type 0) (make : List A → S → B)
    (fits_kept : (s : S) (xs ys : List A) → first s ≤ last s → take (last s) xs ≡ take (last s) ys → Fits xs s → Fits ys s)
    (make_kept : (s : S) (xs ys : List A) → first s ≤ last s → take (last s) xs ≡ take (last s) ys → Fits xs s → make ys s ≡ make xs s)
    (all after : List A) (spans : List S) (n place : ℕ) (h : Adjoin first last Fits all 0 spans (length all)) (is : place ≡ place_of_span first spans n (length all)) where
  pub place_inside : place ≤ length all
  place_inside = omega (arith, is, place_le first last Fits n all spans 0 (length all) h)

  -- the first n, in a list that begins as theirs does
  spans_kept : take place all ≡ take place after → SpansAre first last Fits make after (take n spans) place (take n (map (make all) spans))
  spans_kept same =
      let cut : Adjoin first last Fits all 0 (take n spans) place = subst (Adjoin first last Fits all 0 (take n spans)) (sym is) (adjoin_cut first last Fits n all spans 0 (length all) h) in
      record {
        are = adjoin_kept first last Fits fits_kept all after (take n spans) 0 place cut same;
        items = views_kept first last Fits make make_kept all after (take n spans) 0 place cut same ∙ sym (take-map (make all) n spans);
      }

  -- cut off
  pub spans_cut : (left : List S) → after ≡ take place all → left ≡ take n spans → SpansAre first last Fits make after left (length after) (take n (map (make all) spans))
  spans_cut left cut kept =
      let count : length after ≡ place = ap length cut ∙ length-take-le place all place_inside in
      let k = spans_kept (sym (ap (take place) cut ∙ take-take place place all (omega arith))) in
      subst (λ ss. SpansAre first last Fits make after ss (length after) (take n (map (make all) spans))) (sym kept)
      (subst (λ m. SpansAre first last Fits make after (take n spans) m (take n (map (make all) spans))) (sym count) k)

  -- one more
  pub span_pushed : (s : S) (new : List S) (view : B) → first s ≡ place → take place all ≡ take place after → first s ≤ last s → Fits after s → last s ≡ length after → make after s ≡ view → new ≡ take n spans ++ (s ∷ [])
      → SpansAre first last Fits make after new (length after) (take n (map (make all) spans) ++ (view ∷ []))
  span_pushed s new view at same order fits end meant pushed =
      let k = spans_kept same in
      record {
        are = subst (λ ss. Adjoin first last Fits after 0 ss (length after)) (sym pushed)
            (subst (Adjoin first last Fits after 0 (take n spans ++ (s ∷ []))) end (adjoin_push first last Fits after (take n spans) 0 place s k.are at (omega (arith, at, order)) fits));
        items = ap (map (make after)) pushed ∙ map_push (make after) (take n spans) s ∙ ap (λ xs. xs ++ (make after s ∷ [])) k.items
            ∙ ap (λ x. take n (map (make all) spans) ++ (x ∷ [])) meant;
      }
