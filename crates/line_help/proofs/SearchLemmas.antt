-- Searches: what the library's `find` and `starts_with` give, and one step of each direction.
use Rattle.std.proofs.Common.{◌≡◌, ℕ, zero, suc, ◌+◌, ◌-◌, ◌<◌, ◌≤◌, Bool, true, false, List, [], ◌∷◌, ◌++◌, length, drop, take, reverse, refl, ◌∙◌, Option, Some, None, slice_index_or, arith, eqb}
use Rattle.std.specs.Prelude.{bytes_eq, if◌then◌else◌, ◌==◌, ◌||◌, nat_le}
use Rattle.std.specs.List.{starts_with}
use Rattle.std.specs.Str.Pattern.{LacksTextAt}
use Rattle.std.proofs.lemmas.Str.Pattern.{starts_text}
use Rattle.std.proofs.lemmas.Bool.{cond_both, eq-eqb}
use Rattle.std.proofs.lemmas.List.{drop_more, take_more, reverse-append, length-reverse, length-take}
use Rattle.line_help.specs.History.{newest_is}
use Rattle.line_help.specs.Search.{Hit, first_hit, hit_by, hit_or, first_from, first_back, search_hit}
use Rattle.line_help.specs.declared.history.search.SearchDirection.TheVariants.{Reverse}

pub newest_last : (text : List ℕ) (xs : List (List ℕ)) (d : List ℕ) → 0 < length xs → newest_is text xs ≡ bytes_eq (slice_index_or xs (length xs - 1) d) text
newest_last text [] d some = absurd (omega arith)
newest_last text (x ∷ []) d some = refl
newest_last text (x ∷ (y ∷ xs)) d some =
    (let e : suc (length xs) - 1 ≡ length xs = omega arith in
    let f : suc (suc (length xs)) - 1 ≡ suc (length xs) = omega arith in
    newest_last text (y ∷ xs) d (omega arith) ∙ rw (e, f) refl)

pub begins_with_itself : (term rest : List ℕ) → starts_with eqb (term ++ rest) term ≡ true
begins_with_itself [] rest = refl
begins_with_itself (t ∷ term) rest = rw (eq-eqb t t refl) (begins_with_itself term rest)

pub nowhere : (term text : List ℕ) → ((i : ℕ) → i ≤ length text → LacksTextAt term text i) → first_hit term text ≡ None
nowhere [] [] lacks = absurd (lacks 0 (omega arith) [] refl)
nowhere (t ∷ term) [] lacks = grind arith
nowhere term (b ∷ bs) lacks =
    rw (← starts_text false term (b ∷ bs) (lacks 0 (omega arith)))
    (rw (nowhere term bs (λ i h. lacks (suc i) (omega arith))) refl)

pub first_place : (term text : List ℕ) (i : ℕ) (rest : List ℕ) → i ≤ length text → ((k : ℕ) → k < i → LacksTextAt term text k) → drop i text ≡ term ++ rest → first_hit term text ≡ Some i
first_place [] [] zero rest in_text lacks here = refl
first_place (t ∷ term) [] zero rest in_text lacks here = cc
first_place term [] (suc i) rest in_text lacks here = absurd (omega arith)
first_place term (b ∷ bs) zero rest in_text lacks here = rw (here, begins_with_itself term rest) refl
first_place term (b ∷ bs) (suc i) rest in_text lacks here =
    rw (← starts_text false term (b ∷ bs) (lacks 0 (omega arith)))
    (rw (first_place term bs i rest (omega arith) (λ k h. lacks (suc k) (omega arith)) here) refl)

pub from_step : (test : List ℕ → Option ℕ) (entries : List (List ℕ)) (i : ℕ) (d : List ℕ) → i < length entries
    → first_from test i (drop i entries) ≡ hit_or (test (slice_index_or entries i d)) (slice_index_or entries i d) i (first_from test (i + 1) (drop (i + 1) entries))
from_step test entries i d within = rw (drop_more entries i d within) refl

pub back_step : (test : List ℕ → Option ℕ) (entries : List (List ℕ)) (i : ℕ) (d : List ℕ) → i < length entries
    → first_back test (reverse (take (i + 1) entries)) ≡ hit_or (test (slice_index_or entries i d)) (slice_index_or entries i d) i (first_back test (reverse (take i entries)))
back_step test entries i d within =
    let e : length (reverse (take i entries)) ≡ i = simp (length-reverse, length-take) (omega arith) in
    rw (take_more entries i d within, reverse-append (take i entries) (slice_index_or entries i d ∷ []), e) refl

back_begins : (term : List ℕ) (entries : List (List ℕ)) (hit : Hit) → first_back (hit_by true term) entries ≡ Some hit → starts_with eqb hit.entry term ≡ true
back_begins term [] hit h = cc
back_begins term (entry ∷ entries) hit h =
    cond_both (starts_with eqb entry term) (Some (length term)) None
    (λ o. hit_or o entry (length entries) (first_back (hit_by true term) entries) ≡ Some hit → starts_with eqb hit.entry term ≡ true)
    (λ e found. let same : entry ≡ hit.entry = cc in rw same at e) (λ _ later. back_begins term entries hit later) h

pub unless_none : (none : Bool) (found : Option Hit) (hit : Hit) → (if none then None else found) ≡ Some hit → (none ≡ false) × (found ≡ Some hit)
unless_none true found hit h = cc
unless_none false found hit h = (refl, h)

pub anchored_begins : (term : List ℕ) (start : ℕ) (entries : List (List ℕ)) (hit : Hit) → search_hit true term start Reverse entries ≡ Some hit → starts_with eqb hit.entry term ≡ true
anchored_begins term start entries hit h =
    back_begins term (reverse (take (start + 1) entries)) hit
    (unless_none (length term == 0 || nat_le (length entries) start) (first_back (hit_by true term) (reverse (take (start + 1) entries))) hit h).1

pub ruleset from_steps = (from_step)

pub ruleset back_steps = (back_step)
