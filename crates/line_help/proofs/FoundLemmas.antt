-- The nearest hit of a search.
use Rattle.std.proofs.Common.{◌≡◌, ◌≢◌, ℕ, suc, ◌+◌, ◌-◌, ◌<◌, ◌≤◌, ◌⊎◌, inl, inr, Bool, true, false, List, [], ◌∷◌, ◌++◌, length, drop, take, reverse, eqb, refl, sym, ap, ◌∙◌, subst, append_assoc, Option, Some, None, option_map, arith, length-append, length-drop, true≢false, ne_eqb}
use Rattle.std.specs.Prelude.{if◌then◌else◌, ◌||◌, ◌==◌, nat_le, unwrap_or}
use Rattle.std.proofs.lemmas.Bool.{cond_both, eqb-true, or_from, or_parts}
use Rattle.std.proofs.lemmas.Option.{cond_some, none-some}
use Rattle.std.specs.List.{starts_with, All}
use Rattle.std.proofs.Math.Seq.{take-append-add}
use Rattle.std.proofs.lemmas.Bool.Decides.{Decides-eqb, nat_tests}
use Rattle.std.proofs.lemmas.List.{drop-append-le, drop_at, take_at, take-append-drop, length-take-le, length-reverse, reverse-append, reverse-reverse}
use Rattle.std.proofs.lemmas.List.Elements.{All-append, All-cons, All-head, All-nil, All-tail}
use Rattle.std.proofs.lemmas.Slice.Eq.{starts_is}
use Rattle.line_help.specs.Search.{Hit, hit_or, hit_by, first_hit, first_from, first_back, nearest, TermAt, HasTerm, IsHit, IsNearest, NearestIsFound}
use Rattle.line_help.specs.declared.history.search.SearchDirection.{SearchDirection, TheVariants.Forward, TheVariants.Reverse}
use Rattle.line_help.proofs.SearchLemmas.{begins_with_itself, unless_none}

some_if : (b : Bool) (n pos : ℕ) (other : Option ℕ) → (if b then Some n else other) ≡ Some pos → ((b ≡ true) × (n ≡ pos)) ⊎ ((b ≡ false) × (other ≡ Some pos))
some_if true n pos other e = inl (refl, ap (λ o. unwrap_or o n) e)
some_if false n pos other e = inr (refl, e)

pub mapped : (f : ℕ → ℕ) (x : Option ℕ) (y : ℕ) → option_map f x ≡ Some y → (n : ℕ) × (x ≡ Some n) × (y ≡ f n)
mapped f None y e = absurd (none-some _ e)
mapped f (Some n) y e = (n, refl, sym (ap (λ o. unwrap_or o y) e))

value_of : (o : Option ℕ) → (o ≡ None) ⊎ ((pos : ℕ) × (o ≡ Some pos))
value_of None = inl refl
value_of (Some pos) = inr (pos, refl)

begins : (term text : List ℕ) → starts_with eqb text term ≡ true → text ≡ term ++ drop (length term) text
begins term text e = (starts_is Decides-eqb text term (starts_with eqb text term) refl).0 e

-- ---- a term in a text

first_found : (term text : List ℕ) (pos : ℕ) → first_hit term text ≡ Some pos → TermAt term text pos
first_found [] [] pos e = ([], [], refl, sym (ap (λ o. unwrap_or o pos) e))
first_found (t ∷ term) [] pos e =
    absurd (let f : length (t ∷ term) ≡ 0 = eqb-true (length (t ∷ term)) 0 (cond_some (length (t ∷ term) == 0) 0 pos e).0 in omega arith)
first_found term (b ∷ bs) pos e = elim (some_if (starts_with eqb (b ∷ bs) term) 0 pos (option_map suc (first_hit term bs)) e) [
  | inl h ↦ ([], drop (length term) (b ∷ bs), begins term (b ∷ bs) h.0, sym h.1)
  | inr h ↦ (
      let m = mapped suc (first_hit term bs) pos h.1 in
      let f = first_found term bs m.0 m.1 in
      (b ∷ f.0, f.1, ap (λ t. b ∷ t) f.2, m.2 ∙ ap suc f.3))
]

-- it is found there or before
abbrev FoundUpTo : ℕ → Option ℕ → Type 0
FoundUpTo n found = (pos : ℕ) × (found ≡ Some pos) × (pos ≤ n)

up_to : (term front rest text : List ℕ) → text ≡ front ++ (term ++ rest) → FoundUpTo (length front) (first_hit term text)
up_to [] [] rest [] e = (0, refl, omega arith)
up_to (t ∷ term) [] rest [] e = absurd cc
up_to term [] rest (b ∷ bs) e =
    let all : starts_with eqb (b ∷ bs) term ≡ true = subst (λ t. starts_with eqb t term ≡ true) (sym e) (begins_with_itself term rest) in
    (0, rw all refl, omega arith)
up_to term (f ∷ front) rest [] e = absurd cc
up_to term (f ∷ front) rest (b ∷ bs) e =
    let later : bs ≡ front ++ (term ++ rest) = cc in
    let found = up_to term front rest bs later in
    cond_both (starts_with eqb (b ∷ bs) term) (Some 0) (option_map suc (first_hit term bs)) (FoundUpTo (suc (length front))) (λ _. (0, refl, omega arith))
    (λ _. (suc found.0, ap (option_map suc) found.1, omega (arith, found.2)))

least : (term text : List ℕ) (pos other : ℕ) → first_hit term text ≡ Some pos → TermAt term text other → pos ≤ other
least term text pos other e at =
    let found = up_to term at.0 at.1 text at.2 in
    let same : found.0 ≡ pos = ap (λ o. unwrap_or o pos) (sym found.1 ∙ e) in
    omega (arith, found.2, at.3)

-- ---- a search's test of an entry

test_hits : (anchored : Bool) (term entry : List ℕ) (pos : ℕ) → hit_by anchored term entry ≡ Some pos → IsHit anchored term entry pos
test_hits false term entry pos e = (first_found term entry pos e, λ other at. least term entry pos other e at)
test_hits true term entry pos e =
    let h = cond_some (starts_with eqb entry term) (length term) pos e in (([], drop (length term) entry, begins term entry h.0, refl), sym h.1)

starts_at_zero : (term entry : List ℕ) → TermAt term entry 0 → entry ≡ term ++ drop (length term) entry
starts_at_zero term entry at = go at.0 at.2 at.3
  where
    go : (front : List ℕ) → entry ≡ front ++ (term ++ at.1) → 0 ≡ length front → entry ≡ term ++ drop (length term) entry
    go [] e h = begins term entry (subst (λ t. starts_with eqb t term ≡ true) (sym e) (begins_with_itself term at.1))
    go (f ∷ front) e h = absurd (omega arith)

test_none : (anchored : Bool) (term entry : List ℕ) → hit_by anchored term entry ≡ None → ¬ HasTerm anchored term entry
test_none false term entry e has = let found = up_to term has.1.0 has.1.1 entry has.1.2 in none-some _ (sym e ∙ found.1)
test_none true term entry e has =
    let whole = starts_at_zero term entry has in
    let all : starts_with eqb entry term ≡ true = subst (λ t. starts_with eqb t term ≡ true) (sym whole) (begins_with_itself term (drop (length term) entry)) in
    none-some _ (sym e ∙ ap (λ b. if b then Some (length term) else None) all)

has_hit : (anchored : Bool) (term entry : List ℕ) (pos : ℕ) → IsHit anchored term entry pos → HasTerm anchored term entry
has_hit false term entry pos h = (pos, h.0)
has_hit true term entry pos h = h.0

same_hit : (anchored : Bool) (term entry : List ℕ) (pos other : ℕ) → IsHit anchored term entry pos → IsHit anchored term entry other → pos ≡ other
same_hit false term entry pos other h k =
    let le : pos ≤ other = h.1 other k.0 in
    let ge : other ≤ pos = k.1 pos h.0 in
    omega arith
same_hit true term entry pos other h k = h.1 ∙ sym k.1

hits_test : (anchored : Bool) (term entry : List ℕ) (pos : ℕ) → IsHit anchored term entry pos → hit_by anchored term entry ≡ Some pos
hits_test anchored term entry pos h = elim (value_of (hit_by anchored term entry)) [
  | inl none ↦ absurd (test_none anchored term entry none (has_hit anchored term entry pos h))
  | inr found ↦ found.1 ∙ ap (λ n. Some n) (same_hit anchored term entry found.0 pos (test_hits anchored term entry found.0 found.1) h)
]

lacks_test : (anchored : Bool) (term entry : List ℕ) → ¬ HasTerm anchored term entry → hit_by anchored term entry ≡ None
lacks_test anchored term entry lacks = elim (value_of (hit_by anchored term entry)) [
  | inl none ↦ none
  | inr found ↦ absurd (lacks (has_hit anchored term entry found.0 (test_hits anchored term entry found.0 found.1)))
]

-- ---- the first of some entries

abbrev NoHit : (List ℕ → Option ℕ) → List ℕ → Type 0
NoHit test entry = test entry ≡ None

-- the first entry of these with a hit, with the entries before and after it
record FirstOf (test : List ℕ → Option ℕ) (xs : List (List ℕ)) (hit : Hit) : Type 0 where
  front : List (List ℕ)
  back : List (List ℕ)
  split : xs ≡ front ++ (hit.entry ∷ back)
  here : test hit.entry ≡ Some hit.pos
  missed : All (NoHit test) front

hit_cases : (o : Option ℕ) (entry : List ℕ) (idx : ℕ) (other : Option Hit) (hit : Hit) → hit_or o entry idx other ≡ Some hit
    → ((hit.idx ≡ idx) × (hit.entry ≡ entry) × (o ≡ Some hit.pos)) ⊎ ((o ≡ None) × (other ≡ Some hit))
hit_cases None entry idx other hit e = inr (refl, e)
hit_cases (Some pos) entry idx other hit e =
    let is : record { entry = entry; idx = idx; pos = pos } ≡ hit = ap (λ (o : Option Hit). unwrap_or o hit) e in
    inl (sym (ap (λ (h : Hit). h.idx) is), sym (ap (λ (h : Hit). h.entry) is), ap (λ (h : Hit). Some h.pos) is)

abbrev at_head : (test : List ℕ → Option ℕ) (x : List ℕ) (xs : List (List ℕ)) (hit : Hit) → hit.entry ≡ x → test x ≡ Some hit.pos → FirstOf test (x ∷ xs) hit
at_head test x xs hit e h = record { front = []; back = xs; split = ap (λ y. y ∷ xs) (sym e); here = ap test e ∙ h; missed = All-nil (NoHit test) }

abbrev behind_head : (test : List ℕ → Option ℕ) (x : List ℕ) (xs : List (List ℕ)) (hit : Hit) → test x ≡ None → FirstOf test xs hit → FirstOf test (x ∷ xs) hit
behind_head test x xs hit none f = record { front = x ∷ f.front; back = f.back; split = ap (λ ys. x ∷ ys) f.split; here = f.here; missed = All-cons (NoHit test) x f.front none f.missed }

from_parts : (test : List ℕ → Option ℕ) (idx : ℕ) (xs : List (List ℕ)) (hit : Hit) → first_from test idx xs ≡ Some hit → (f : FirstOf test xs hit) × (hit.idx ≡ idx + length f.front)
from_parts test idx [] hit e = absurd (none-some _ e)
from_parts test idx (x ∷ xs) hit e = elim (hit_cases (test x) x idx (first_from test (idx + 1) xs) hit e) [
  | inl h ↦ (at_head test x xs hit h.1 h.2, let i : hit.idx ≡ idx = h.0 in omega arith)
  | inr h ↦ (
      let later = from_parts test (idx + 1) xs hit h.1 in
      (behind_head test x xs hit h.0 later.0, let i : hit.idx ≡ idx + 1 + length later.0.front = later.1 in omega arith))
]

back_parts : (test : List ℕ → Option ℕ) (xs : List (List ℕ)) (hit : Hit) → first_back test xs ≡ Some hit → (f : FirstOf test xs hit) × (hit.idx ≡ length f.back)
back_parts test [] hit e = absurd (none-some _ e)
back_parts test (x ∷ xs) hit e = elim (hit_cases (test x) x (length xs) (first_back test xs) hit e) [
  | inl h ↦ (at_head test x xs hit h.1 h.2, h.0)
  | inr h ↦ (
      let later = back_parts test xs hit h.1 in
      (behind_head test x xs hit h.0 later.0, later.1))
]

from_is : (test : List ℕ → Option ℕ) (idx : ℕ) (front : List (List ℕ)) (entry : List ℕ) (back : List (List ℕ)) (pos : ℕ) → All (NoHit test) front → test entry ≡ Some pos
    → first_from test idx (front ++ (entry ∷ back)) ≡ Some (record { entry = entry; idx = idx + length front; pos = pos })
from_is test idx [] entry back pos missed here =
    ap (λ o. hit_or o entry idx (first_from test (idx + 1) back)) here ∙ ap (λ i. let h : Hit = record { entry = entry; idx = i; pos = pos } in Some h) (omega arith)
from_is test idx (x ∷ front) entry back pos missed here =
    let count : idx + 1 + length front ≡ idx + suc (length front) = omega arith in
    ap (λ o. hit_or o x idx (first_from test (idx + 1) (front ++ (entry ∷ back)))) (All-head (NoHit test) x front missed)
    ∙ from_is test (idx + 1) front entry back pos (All-tail (NoHit test) x front missed) here
    ∙ ap (λ i. let h : Hit = record { entry = entry; idx = i; pos = pos } in Some h) count

back_is : (test : List ℕ → Option ℕ) (front : List (List ℕ)) (entry : List ℕ) (back : List (List ℕ)) (pos : ℕ) → All (NoHit test) front → test entry ≡ Some pos
    → first_back test (front ++ (entry ∷ back)) ≡ Some (record { entry = entry; idx = length back; pos = pos })
back_is test [] entry back pos missed here = ap (λ o. hit_or o entry (length back) (first_back test back)) here
back_is test (x ∷ front) entry back pos missed here =
    ap (λ o. hit_or o x (length (front ++ (entry ∷ back))) (first_back test (front ++ (entry ∷ back)))) (All-head (NoHit test) x front missed)
    ∙ back_is test front entry back pos (All-tail (NoHit test) x front missed) here

-- ---- lists read from the end

all_turned : (P : List ℕ → Type 0) (xs : List (List ℕ)) → All P xs → All P (reverse xs)
all_turned P [] all = all
all_turned P (x ∷ xs) all =
    let turned = All-append P (reverse xs) (x ∷ []) (all_turned P xs (All-tail P x xs all)) (All-cons P x [] (All-head P x xs all) (All-nil P)) in
    subst (All P) (sym (reverse-append (x ∷ []) xs)) turned

turned_at : (front : List (List ℕ)) (entry : List ℕ) (back : List (List ℕ)) → reverse (front ++ (entry ∷ back)) ≡ reverse back ++ (entry ∷ reverse front)
turned_at front entry back = rw (reverse-append front (entry ∷ back), reverse-append (entry ∷ []) back, append_assoc) refl

-- ---- the nearest hit

searching : (term : List ℕ) (start : ℕ) (entries : List (List ℕ)) → (length term == 0 || nat_le (length entries) start) ≡ false → (term ≢ []) × (start < length entries)
searching term start entries e =
    let parts = or_parts (length term == 0) (nat_le (length entries) start) e in
    let low : nat_le (length entries) start ≡ false = parts.1 in (
      λ none. true≢false (sym (ap (λ (t : List ℕ). length t == 0) none) ∙ parts.0),
      grind arith,
    )

is_searching : (term : List ℕ) (start : ℕ) (entries : List (List ℕ)) → term ≢ [] → start < length entries → (length term == 0 || nat_le (length entries) start) ≡ false
is_searching [] start entries some low = absurd (some refl)
is_searching (t ∷ term) start entries some low =
    or_from (length (t ∷ term) == 0) (nat_le (length entries) start) (ne_eqb (length (t ∷ term)) 0 (λ g. absurd (omega arith))) (grind (arith, nat_tests))

module _ (anchored : Bool) (term : List ℕ) (start : ℕ) (entries : List (List ℕ)) (hit : Hit) where
  abbrev test : List ℕ → Option ℕ
  test entry = hit_by anchored term entry

  found_so : (direction : SearchDirection) → term ≢ [] → start < length entries → nearest direction test start entries ≡ Some hit
      → IsNearest anchored term start direction entries hit
  found_so Forward some low e =
      let found = from_parts test start (drop start entries) hit e in
      let f = found.0 in
      let first = take start entries in
      let count : length first ≡ start = length-take-le start entries (omega arith) in
      let sum = length-append first f.front in
      let rest : drop start (first ++ f.front) ≡ f.front = drop_at first f.front start count in
      record {
        some = some;
        within = low;
        before = first ++ f.front;
        after = f.back;
        split = sym (take-append-drop start entries) ∙ ap (λ xs. first ++ xs) f.split ∙ sym (append_assoc first f.front (hit.entry ∷ f.back));
        place = let i : hit.idx ≡ start + length f.front = found.1 in omega arith;
        here = test_hits anchored term hit.entry hit.pos f.here;
        none_nearer = (omega arith, subst (All (λ entry. ¬ HasTerm anchored term entry)) (sym rest) (λ k d low. test_none anchored term _ (f.missed k d low)));
      }
  found_so Reverse some low e =
      let first = take (start + 1) entries in
      let last = drop (start + 1) entries in
      let found = back_parts test (reverse first) hit e in
      let f = found.0 in
      let parts : first ≡ reverse f.back ++ (hit.entry ∷ reverse f.front) = sym (reverse-reverse first) ∙ ap reverse f.split ∙ turned_at f.front hit.entry f.back in
      let count : length first ≡ start + 1 = length-take-le (start + 1) entries (omega arith) in
      let turned : length (reverse f.back) ≡ length f.back = length-reverse f.back in
      let sum : length first ≡ length (reverse f.back) + suc (length (reverse f.front)) = ap length parts ∙ length-append (reverse f.back) (hit.entry ∷ reverse f.front) in
      let rest : take (start - length (reverse f.back)) (reverse f.front ++ last) ≡ reverse f.front = take_at (reverse f.front) last (start - length (reverse f.back)) (omega arith) in
      record {
        some = some;
        within = low;
        before = reverse f.back;
        after = reverse f.front ++ last;
        split = sym (take-append-drop (start + 1) entries) ∙ ap (λ xs. xs ++ last) parts ∙ append_assoc (reverse f.back) (hit.entry ∷ reverse f.front) last;
        place = found.1 ∙ sym turned;
        here = test_hits anchored term hit.entry hit.pos f.here;
        none_nearer = (omega arith, subst (All (λ entry. ¬ HasTerm anchored term entry)) (sym rest) (all_turned (λ entry. ¬ HasTerm anchored term entry) f.front (λ k d low. test_none anchored term _ (f.missed k d low))));
      }

  so_found : (direction : SearchDirection) → IsNearest anchored term start direction entries hit → nearest direction test start entries ≡ Some hit
  so_found Forward n =
      let ahead : start ≤ length n.before = n.none_nearer.0 in
      let place : hit.idx ≡ length n.before = n.place in
      let count = length-drop start n.before in
      let idx : start + length (drop start n.before) ≡ hit.idx = omega arith in
      ap (λ xs. first_from test start (drop start xs)) n.split
      ∙ ap (first_from test start) (drop-append-le start n.before (hit.entry ∷ n.after) ahead)
      ∙ from_is test start (drop start n.before) hit.entry n.after hit.pos
      (λ k d low. lacks_test anchored term _ (n.none_nearer.1 k d low)) (hits_test anchored term hit.entry hit.pos n.here)
      ∙ ap (λ i. let h : Hit = record { entry = hit.entry; idx = i; pos = hit.pos } in Some h) idx
  so_found Reverse n =
      let ahead : length n.before ≤ start = n.none_nearer.0 in
      let place : hit.idx ≡ length n.before = n.place in
      let nearer = take (start - length n.before) n.after in
      let count : start + 1 ≡ length n.before + suc (start - length n.before) = omega arith in
      let first : take (start + 1) entries ≡ n.before ++ (hit.entry ∷ nearer) =
      ap (λ xs. take (start + 1) xs) n.split ∙ ap (λ k. take k (n.before ++ (hit.entry ∷ n.after))) count ∙ take-append-add n.before (hit.entry ∷ n.after) (suc (start - length n.before)) in
      let turned : length (reverse n.before) ≡ length n.before = length-reverse n.before in
      ap (λ xs. first_back test (reverse xs)) first
      ∙ ap (first_back test) (turned_at n.before hit.entry nearer)
      ∙ back_is test (reverse nearer) hit.entry (reverse n.before) hit.pos
      (all_turned (NoHit test) nearer (λ k d low. lacks_test anchored term _ (n.none_nearer.1 k d low))) (hits_test anchored term hit.entry hit.pos n.here)
      ∙ ap (λ i. let h : Hit = record { entry = hit.entry; idx = i; pos = hit.pos } in Some h) (turned ∙ sym place)

pub nearest_is_found : NearestIsFound
nearest_is_found anchored term start direction entries hit = (
  λ e.
      let u = unless_none (length term == 0 || nat_le (length entries) start) (nearest direction (hit_by anchored term) start entries) hit e in
      let s = searching term start entries u.0 in
      found_so anchored term start entries hit direction s.0 s.1 u.1,
  λ n.
      ap (λ b. if b then None else nearest direction (hit_by anchored term) start entries) (is_searching term start entries n.some n.within) ∙ so_found anchored term start entries hit direction n,
)
