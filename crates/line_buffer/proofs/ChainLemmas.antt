-- What a chain over the clusters of a text gives.
use Rattle.std.proofs.Common.{◌≡◌, ℕ, suc, ◌-◌, ◌<◌, Bool, true, filter, List, [], ◌∷◌, ◌++◌, length, map, reverse, take, Option, None, Some, refl, sym, ap, ◌∙◌, subst, arith, option_map, IfSome, All}
use Rattle.std.specs.List.{last_or}
use Rattle.std.specs.Iterator.{Drains}
use Rattle.std.specs.Iterator.Adapters.{rev_source, rev_steps}
use Rattle.std.specs.declared.iter.Rev.{Rev}
use Rattle.std.proofs.lemmas.Iterator.{YieldsList, items_from_drains}
use Rattle.std.proofs.lemmas.Iterator.Consumers.{YieldsList-from_shown}
use Rattle.std.proofs.lemmas.List.{reverse-append, length-reverse, get_or-reverse, take-map}
use Rattle.std.proofs.lemmas.List.Elements.{All-map, All-filter, filter_passes}
use Rattle.std.proofs.Math.Seq.{take-nil}
use Rattle.unicode_segmentation.specs.Segments.{GivesLast}

pub option_map-last_or : {A B : Type 0} (v : A → B) (o : Option A) (xs : List A) → option_map v (last_or o xs) ≡ last_or (option_map v o) (map v xs)
option_map-last_or v o [] = refl
option_map-last_or v o (x ∷ xs) = option_map-last_or v (Some x) xs

pub last_or-append : {A : Type 0} (o : Option A) (xs ys : List A) → last_or o (xs ++ ys) ≡ last_or (last_or o xs) ys
last_or-append o [] ys = refl
last_or-append o (x ∷ xs) ys = last_or-append (Some x) xs ys

-- `last` gives the last of the list that the chain yields
pub last_from_yields_List : {S A B : Type 0} {steps : S → Option A → S → Type 0} {v : A → B} {s : S} {all : List B} (r : Option A)
    → (xs : List A) × Drains steps s xs × (r ≡ last_or None xs) → YieldsList steps v s all → option_map v r ≡ last_or None all
last_from_yields_List {v = v} r h e =
    let d = h.1 in
    ap (option_map v) h.2 ∙ option_map-last_or v None h.0 ∙ ap (last_or None) (items_from_drains h.0 (d.1.0, d.1.1, λ _. (d.0, d.1.2)) e)

-- a source that is read from its back
pub YieldsList-from_back : {S A B : Type 0} (view : A → B) (left : S → List B) (s : Rev S) → YieldsList (rev_steps (GivesLast view left)) view s (reverse (left (rev_source s)))
YieldsList-from_back view left =
    YieldsList-from_shown (rev_steps (GivesLast view left)) view (λ s. reverse (left (rev_source s)))
    (λ s t h. ap (λ xs. length (reverse xs)) h.0)
    (λ s x t h. ap reverse h ∙ reverse-append (left (rev_source t)) (view x ∷ []))

-- what holds of each member holds of the last, and of each in the other order
pub All-last_or : {A : Type 0} (P : A → Type 0) (xs : List A) → All P xs → IfSome (last_or None xs) P
All-last_or P [] h = tt
All-last_or P (x ∷ []) h = h 0 x (omega arith)
All-last_or P (x ∷ (y ∷ xs)) h = All-last_or P (y ∷ xs) (λ k d l. h (suc k) d (omega (arith, l)))

pub All-reverse : {A : Type 0} (P : A → Type 0) (xs : List A) → All P xs → All P (reverse xs)
All-reverse P xs h = λ k d l.
    let l2 : k < length xs = omega (arith, l, length-reverse xs) in
    subst P (sym (get_or-reverse xs k d l2)) (h (length xs - 1 - k) d (omega (arith, l2)))

-- the n-th of mapped items
pub nth_or_last-map : {A B : Type 0} (f : A → B) (n : ℕ) (xs : List A) → last_or None (take n (map f xs)) ≡ option_map f (last_or None (take n xs))
nth_or_last-map f n xs = ap (last_or None) (take-map f n xs) ∙ sym (option_map-last_or f None (take n xs))

-- what passes a test and is mapped
pub All-passing : {A B : Type 0} (P : B → Type 0) (f : A → B) (p : A → Bool) (xs : List A) → All (λ x. p x ≡ true → P (f x)) xs → All P (map f (filter p xs))
All-passing P f p xs h = All-map P f (filter p xs) (λ k d l. All-filter p (λ x. p x ≡ true → P (f x)) xs h k d l (filter_passes p xs k d l))

-- a search takes one place after the other, and keeps the last that it took: none is left, or no more is wanted
pub search_ended : (v found : Option ℕ) (left : List ℕ) (missing : ℕ) → v ≡ last_or found (take missing left) → left ≡ [] → found ≡ v
search_ended v found left missing so_far e = sym (so_far ∙ ap (λ xs. last_or found (take missing xs)) e ∙ ap (last_or found) (take-nil missing))

pub search_spent : (v found : Option ℕ) (left : List ℕ) (missing : ℕ) → v ≡ last_or found (take missing left) → missing ≡ 0 → found ≡ v
search_spent v found left missing so_far e = sym (so_far ∙ ap (λ k. last_or found (take k left)) e)
