-- Characters by the ranges that hold them.
use Rattle.std.proofs.Common.{◌≡◌, ℕ, ◌==◌, nat_lt, ⊎_elim, Bool, true, false, not, ◌||◌, List, [], ◌∷◌, sym, ap, ◌∙◌, arith, eqb-true}
use Rattle.std.specs.Int.{is_in_range}
use Rattle.std.specs.List.{list_all}
use Rattle.std.proofs.Math.Bool.{or-false}
use Rattle.std.proofs.lemmas.Bool.{and_parts, or_cases, false_from_ne_true, true≢false}
use Rattle.std.proofs.lemmas.Bool.Decides.{nat_tests}
use Rattle.ucd_table.specs.Rows.{Range, in_ranges}

pub implied : (a b : Bool) → a ≡ true → (not a || b) ≡ true → b ≡ true
implied a b e h = grind (arith, nat_tests)

-- in the first range, or in one of the others
abbrev pub in_some : Range → List Range → ℕ → Bool
in_some r [] c = is_in_range r.0 r.1 c
in_some r (s ∷ rs) c = is_in_range r.0 r.1 c || in_some s rs c

pub in_ranges-some : (r : Range) (rs : List Range) (c : ℕ) → in_some r rs c ≡ in_ranges (r ∷ rs) c
unfolding in_ranges
in_ranges-some r [] c = sym (or-false (is_in_range r.0 r.1 c))
in_ranges-some r (s ∷ rs) c = ap (λ b. is_in_range r.0 r.1 c || b) (in_ranges-some s rs c)

-- no character of the range is one from a to b
abbrev pub is_beside : ℕ → ℕ → Range → Bool
is_beside a b r = nat_lt b r.0 || nat_lt r.1 a

beside_one : (a b c : ℕ) (r : Range) → is_beside a b r ≡ true → is_in_range r.0 r.1 c ≡ true → is_in_range a b c ≡ false
beside_one a b c r h k = grind (arith, nat_tests)

pub beside : (a b c : ℕ) (rs : List Range) → list_all (is_beside a b) rs ≡ true → in_ranges rs c ≡ true → is_in_range a b c ≡ false
unfolding in_ranges
beside a b c [] h k = cc
beside a b c (r ∷ rs) h k =
    let parts = and_parts (is_beside a b r) (list_all (is_beside a b) rs) h in
    ⊎_elim (beside_one a b c r parts.0) (beside a b c rs parts.1) (or_cases (is_in_range r.0 r.1 c) (in_ranges rs c) k)

-- a character that passes a test is none that fails it
pub apart : (p : ℕ → Bool) (c d : ℕ) → p c ≡ true → p d ≡ false → (c == d) ≡ false
apart p c d h k = false_from_ne_true (c == d) (λ e. true≢false (sym h ∙ ap p (eqb-true c d e) ∙ k))
