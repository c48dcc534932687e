-- A list that is sorted and keeps the order of what ties is the one that placing its elements one by one gives.
use Rattle.std.proofs.Common.{◌≡◌, ◌∙◌, ℕ, suc, ◌<◌, ◌≤◌, Bool, true, false, not, cond, List, [], ◌∷◌, length, get_or, refl, sym, ap, arith}
use Rattle.std.proofs.lemmas.Bool.{and_parts, cond_both, false_from_ne_true, not-true, true_from_ne_false}
use Rattle.std.specs.List.{filter}
use Rattle.std.specs.List.Sorted.{IsSortedBy, IsStableBy, ties}
use Rattle.std.specs.Cmp.{IsStrictWeakOrder}
use Rattle.std.proofs.lemmas.List.Sorted.{sorted_far}
use Rattle.line_help.specs.FileNames.{insert_in_order_by, list_in_order_by}

-- no element is less than x
NoneBefore : {X : Type 0} → (X → X → Bool) → X → List X → Type 0
NoneBefore lt x [] = Unit {0}
NoneBefore lt x (y ∷ ys) = (lt y x ≡ false) × NoneBefore lt x ys

Up : {X : Type 0} → (X → X → Bool) → List X → Type 0
Up lt [] = Unit {0}
Up lt (x ∷ xs) = NoneBefore lt x xs × Up lt xs

none_before : {X : Type 0} (lt : X → X → Bool) (x : X) (ys : List X) → ((k : ℕ) → k < length ys → lt (get_or ys k x) x ≡ false) → NoneBefore lt x ys
unfolding NoneBefore
none_before lt x [] h = tt
none_before lt x (y ∷ ys) h = (h 0 (omega arith), none_before lt x ys (λ k l. h (suc k) (omega arith)))

up_from : {X : Type 0} (lt : X → X → Bool) (xs : List X) → ((i j : ℕ) (d : X) → i ≤ j → j < length xs → lt (get_or xs j d) (get_or xs i d) ≡ false) → Up lt xs
unfolding Up
up_from lt [] h = tt
up_from lt (x ∷ xs) h =
    (none_before lt x xs (λ k l. h 0 (suc k) x (omega arith) (omega arith)), up_from lt xs (λ i j d le l. h (suc i) (suc j) d (omega arith) (omega arith)))

irreflexive : {X : Type 0} (lt : X → X → Bool) → IsStrictWeakOrder lt → (x : X) → lt x x ≡ false
irreflexive lt o x = false_from_ne_true (lt x x) (λ e. let never : lt x x ≡ false = o.one_way x x e in absurd cc)

ties_itself : {X : Type 0} (lt : X → X → Bool) → IsStrictWeakOrder lt → (x : X) → ties lt x x ≡ true
ties_itself lt o x = rw (irreflexive lt o x) refl

no_tie : {X : Type 0} (lt : X → X → Bool) (x y : X) → lt x y ≡ true → ties lt x y ≡ false
no_tie lt x y e = rw e refl

-- placing keeps the order
none_placed : {X : Type 0} (lt : X → X → Bool) (y x : X) (ys : List X) → lt x y ≡ false → NoneBefore lt y ys → NoneBefore lt y (insert_in_order_by lt x ys)
unfolding NoneBefore
none_placed lt y x [] e h = (e, tt)
none_placed lt y x (z ∷ zs) e h =
    cond_both (lt z x) (z ∷ insert_in_order_by lt x zs) (x ∷ (z ∷ zs)) (NoneBefore lt y) (λ _. (h.0, none_placed lt y x zs e h.1)) (λ _. (e, h))

none_chain : {X : Type 0} (lt : X → X → Bool) → IsStrictWeakOrder lt → (x y : X) (ys : List X) → lt y x ≡ false → NoneBefore lt y ys → NoneBefore lt x ys
unfolding NoneBefore
none_chain lt o x y [] e h = tt
none_chain lt o x y (z ∷ zs) e h = (o.chain z y x h.0 e, none_chain lt o x y zs e h.1)

up_placed : {X : Type 0} (lt : X → X → Bool) → IsStrictWeakOrder lt → (x : X) (ys : List X) → Up lt ys → Up lt (insert_in_order_by lt x ys)
unfolding Up NoneBefore
up_placed lt o x [] h = (tt, tt)
up_placed lt o x (y ∷ ys) h =
    cond_both (lt y x) (y ∷ insert_in_order_by lt x ys) (x ∷ (y ∷ ys)) (Up lt)
    (λ e. (none_placed lt y x ys (o.one_way y x e) h.0, up_placed lt o x ys h.1)) (λ e. ((e, none_chain lt o x y ys e h.0), h))

up_sorted : {X : Type 0} (lt : X → X → Bool) → IsStrictWeakOrder lt → (xs : List X) → Up lt (list_in_order_by lt xs)
unfolding Up
up_sorted lt o [] = tt
up_sorted lt o (x ∷ xs) = up_placed lt o x (list_in_order_by lt xs) (up_sorted lt o xs)

-- and what ties keeps its order
exchanged : {X : Type 0} (a b : Bool) (x y : X) (rest : List X) → (a ≡ true → b ≡ false) → cond b (y ∷ cond a (x ∷ rest) rest) (cond a (x ∷ rest) rest) ≡ cond a (x ∷ cond b (y ∷ rest) rest) (cond b (y ∷ rest) rest)
exchanged true b x y rest h = rw (h refl) refl
exchanged false true x y rest h = refl
exchanged false false x y rest h = refl

tied_placed : {X : Type 0} (lt : X → X → Bool) → IsStrictWeakOrder lt → (w x : X) (ys : List X) → filter (ties lt w) (insert_in_order_by lt x ys) ≡ filter (ties lt w) (x ∷ ys)
tied_placed lt o w x [] = refl
tied_placed lt o w x (y ∷ ys) = go (lt y x) refl (tied_placed lt o w x ys)
  where
    apart : lt y x ≡ true → ties lt w x ≡ true → ties lt w y ≡ false
    apart e t = false_from_ne_true (ties lt w y) (λ s. let never : lt y x ≡ false = o.chain y w x (not-true (lt y w) (and_parts (not (lt w y)) (not (lt y w)) s).1) (not-true (lt w x) (and_parts (not (lt w x)) (not (lt x w)) t).0) in absurd cc)

    go : (b : Bool) → lt y x ≡ b → filter (ties lt w) (insert_in_order_by lt x ys) ≡ filter (ties lt w) (x ∷ ys) → filter (ties lt w) (cond b (y ∷ insert_in_order_by lt x ys) (x ∷ (y ∷ ys))) ≡ filter (ties lt w) (x ∷ (y ∷ ys))
    go true e rest =
        ap (λ zs. cond (ties lt w y) (y ∷ zs) zs) rest
        ∙ exchanged (ties lt w x) (ties lt w y) x y (filter (ties lt w) ys) (apart e)
    go false e rest = refl

tied_sorted : {X : Type 0} (lt : X → X → Bool) → IsStrictWeakOrder lt → (w : X) (xs : List X) → filter (ties lt w) (list_in_order_by lt xs) ≡ filter (ties lt w) xs
tied_sorted lt o w [] = refl
tied_sorted lt o w (x ∷ xs) = tied_placed lt o w x (list_in_order_by lt xs) ∙ ap (λ ys. cond (ties lt w x) (x ∷ ys) ys) (tied_sorted lt o w xs)

-- no element of a sorted list ties with what is less than its first
none_tie : {X : Type 0} (lt : X → X → Bool) → IsStrictWeakOrder lt → (y z : X) (zs : List X) → lt y z ≡ true → NoneBefore lt z zs → filter (ties lt y) zs ≡ []
unfolding NoneBefore
none_tie lt o y z [] e h = refl
none_tie lt o y z (w ∷ ws) e h =
    let less : lt y w ≡ true = true_from_ne_false (lt y w) (λ f. let never : lt y z ≡ false = o.chain y w z f h.0 in absurd cc) in
    rw (no_tie lt y w less) (none_tie lt o y z ws e h.1)

-- of two sorted lists in which the same ties, neither begins with less
not_less : {X : Type 0} (lt : X → X → Bool) → IsStrictWeakOrder lt → (y z : X) (ys zs : List X) → NoneBefore lt z zs → filter (ties lt y) (y ∷ ys) ≡ filter (ties lt y) (z ∷ zs) → lt y z ≡ false
not_less lt o y z ys zs h same = false_from_ne_true (lt y z) (λ e.
    let there : filter (ties lt y) (y ∷ ys) ≡ y ∷ filter (ties lt y) ys = rw (ties_itself lt o y) refl in
    let none : filter (ties lt y) (z ∷ zs) ≡ [] = rw (no_tie lt y z e) (none_tie lt o y z zs e h) in
    let never : y ∷ filter (ties lt y) ys ≡ [] = sym there ∙ same ∙ none in absurd cc)

tail_same : {X : Type 0} (b : Bool) (y : X) (xs ys : List X) → cond b (y ∷ xs) xs ≡ cond b (y ∷ ys) ys → xs ≡ ys
tail_same true y xs ys e = cc
tail_same false y xs ys e = e

only_one : {X : Type 0} (lt : X → X → Bool) → IsStrictWeakOrder lt → (ys zs : List X) → Up lt ys → Up lt zs → ((w : X) → filter (ties lt w) ys ≡ filter (ties lt w) zs) → ys ≡ zs
unfolding Up
only_one lt o [] [] h k same = refl
only_one lt o [] (z ∷ zs) h k same =
    let there : filter (ties lt z) (z ∷ zs) ≡ z ∷ filter (ties lt z) zs = rw (ties_itself lt o z) refl in
    let never : [] ≡ z ∷ filter (ties lt z) zs = same z ∙ there in cc
only_one lt o (y ∷ ys) [] h k same =
    let there : filter (ties lt y) (y ∷ ys) ≡ y ∷ filter (ties lt y) ys = rw (ties_itself lt o y) refl in
    let never : y ∷ filter (ties lt y) ys ≡ [] = sym there ∙ same y in cc
only_one lt o (y ∷ ys) (z ∷ zs) h k same =
    let a : lt y z ≡ false = not_less lt o y z ys zs k.0 (same y) in
    let b : lt z y ≡ false = not_less lt o z y zs ys h.0 (sym (same z)) in
    let tied : ties lt y z ≡ true = rw (a, b) refl in
    let left : filter (ties lt y) (y ∷ ys) ≡ y ∷ filter (ties lt y) ys = rw (ties_itself lt o y) refl in
    let right : filter (ties lt y) (z ∷ zs) ≡ z ∷ filter (ties lt y) zs = rw tied refl in
    let heads : y ∷ filter (ties lt y) ys ≡ z ∷ filter (ties lt y) zs = sym left ∙ same y ∙ right in
    let one : z ≡ y = cc in
    let tails : ys ≡ zs = only_one lt o ys zs h.1 k.1 (λ w. tail_same (ties lt w y) y (filter (ties lt w) ys) (filter (ties lt w) zs)
    (same w ∙ ap (λ v. cond (ties lt w v) (v ∷ filter (ties lt w) zs) (filter (ties lt w) zs)) one)) in
    cc

pub sorted_is : {X : Type 0} (lt : X → X → Bool) → IsStrictWeakOrder lt → (xs ys : List X) → IsSortedBy lt ys → IsStableBy lt xs ys → ys ≡ list_in_order_by lt xs
sorted_is lt o xs ys up stable =
    only_one lt o ys (list_in_order_by lt xs) (up_from lt ys (sorted_far lt o ys up)) (up_sorted lt o xs) (λ w. stable w ∙ sym (tied_sorted lt o w xs))
