-- Where a common beginning ends.
use Rattle.std.proofs.Common.{◌++◌, length-drop, ◌≡◌, ℕ, zero, suc, ◌+◌, ◌-◌, ◌<◌, ◌≤◌, ◌⊎◌, true, false, List, [], ◌∷◌, length, take, drop, get_or, refl, sym, ap, ◌∙◌, subst, inl, inr, Some, arith, nat_eq}
use Rattle.std.specs.Prelude.{IsUtf8, IsCharBoundary, slice_index}
use Rattle.std.proofs.lemmas.Bool.{cond_both}
use Rattle.std.specs.List.{common_prefix_len}
use Rattle.std.proofs.lemmas.List.{nil_from_length, get_or_past}
use Rattle.std.proofs.lemmas.Bool.Decides.{nat_tests}
use Rattle.std.proofs.lemmas.Str.{IsCharBoundary-start}
use Rattle.line_buffer.proofs.InsertionLemmas.{is_cut, not_cut}
use Rattle.line_help.specs.Completion.{common_to_all, unless_empty, longest_common_prefix}
use Rattle.std.specs.Fmt.Cut.{floor_char_boundary}
use Rattle.std.specs.Fmt.{is_char_start}

above_or_at : (r n : ℕ) → r ≤ suc n → (r ≡ suc n) ⊎ (r ≤ n)
above_or_at r n le = grind arith

-- the last place at which a text may be cut
pub cut_at_floor : (text : List ℕ) (n r : ℕ) → IsUtf8 text → n ≤ length text → r ≤ n → IsCharBoundary text r → ((i : ℕ) → r < i → i ≤ n → IsCharBoundary text i → ⊥) → floor_char_boundary text n ≡ r
unfolding floor_char_boundary
cut_at_floor text zero r u inside le here none = omega arith
cut_at_floor text (suc n) r u inside le here none = elim (above_or_at r n le) [
  | inl e ↦ is_cut text (suc n) true (λ _. subst (IsCharBoundary text) e here, λ _. refl) refl ∙ sym e
  | inr below ↦
      let never : IsCharBoundary text (suc n) → ⊥ = λ b. none (suc n) (omega arith) (omega arith) b in
      let back = (not_cut text (suc n) false (λ t. absurd (let k : false ≡ true = t in cc), λ b. absurd (never b)) refl u inside).1 in
      let one : suc n - 1 ≡ n = omega arith in
      sym back ∙ ap (floor_char_boundary text) one ∙ cut_at_floor text n r u (omega arith) below here (λ i lo hi b. none i lo (omega arith) b)
]

beside_nothing : (xs : List ℕ) → common_prefix_len nat_eq xs [] ≡ 0
beside_nothing [] = refl
beside_nothing (x ∷ xs) = refl

-- nothing is alike after the other text
pub behind_other : (text other : List ℕ) (len : ℕ) → length other ≤ len → common_prefix_len nat_eq (drop len text) (drop len other) ≡ 0
behind_other text other len le = let none : drop len other ≡ [] = nil_from_length (drop len other) (omega (arith, length-drop len other)) in rw none (beside_nothing (drop len text))

-- the longest beginning of texts of which there are two or more
pub of_several : (text : List ℕ) (others : List (List ℕ)) → 0 < length others → longest_common_prefix (text ∷ others) ≡ unless_empty (common_to_all text others)
of_several text [] some = absurd (omega arith)
of_several text (other ∷ others) some = refl

pub kept_unless_empty : (text : List ℕ) → 0 < length text → unless_empty text ≡ Some text
kept_unless_empty [] some = absurd (omega arith)
kept_unless_empty (b ∷ bs) some = refl

-- the last place at which a text may be cut, as what it is
pub last_cut_le : (text : List ℕ) (n : ℕ) → floor_char_boundary text n ≤ n
unfolding floor_char_boundary
last_cut_le text zero = omega arith
last_cut_le text (suc n) =
    let le = last_cut_le text n in
    cond_both (is_char_start (slice_index text (suc n))) (suc n) (floor_char_boundary text n) (λ k. k ≤ suc n) (λ e. omega arith) (λ e. omega arith)

outside : (text : List ℕ) (n : ℕ) → n ≤ length text → is_char_start (slice_index text n) ≡ true → n < length text → 128 ≤ get_or text n 0 → 192 ≤ get_or text n 0
outside text n le e inside high = grind (arith, nat_tests)

not_inside : (text : List ℕ) (n : ℕ) → IsCharBoundary text n → is_char_start (slice_index text n) ≡ true
not_inside text n b = grind (arith, nat_tests, get_or_past text n 0)

pub last_cut_boundary : (text : List ℕ) (n : ℕ) → IsUtf8 text → n ≤ length text → IsCharBoundary text (floor_char_boundary text n)
unfolding floor_char_boundary
last_cut_boundary text zero u le = IsCharBoundary-start text u
last_cut_boundary text (suc n) u le =
    cond_both (is_char_start (slice_index text (suc n))) (suc n) (floor_char_boundary text n) (IsCharBoundary text) (λ e. (le, outside text (suc n) le e)) (λ e. last_cut_boundary text n u (omega arith))

pub last_cut_greatest : (text : List ℕ) (i n : ℕ) → IsCharBoundary text i → i ≤ n → i ≤ floor_char_boundary text n
unfolding floor_char_boundary
last_cut_greatest text i zero b le = le
last_cut_greatest text i (suc n) b le =
    cond_both (is_char_start (slice_index text (suc n))) (suc n) (floor_char_boundary text n) (λ k. i ≤ k) (λ e. le)
    (λ e. elim (above_or_at i n le) [
      | inl same ↦ let never : is_char_start (slice_index text (suc n)) ≡ true = ap (λ k. is_char_start (slice_index text k)) (sym same) ∙ not_inside text i b in cc
      | inr below ↦ last_cut_greatest text i n b below
    ])

-- as far as texts are alike
pub alike : (m : ℕ) (text other : List ℕ) → m ≤ common_prefix_len nat_eq text other → take m text ≡ take m other
alike zero text other le = refl
alike (suc m) [] other le = absurd (omega arith)
alike (suc m) (x ∷ xs) [] le = absurd (omega arith)
alike (suc m) (x ∷ xs) (y ∷ ys) le =
    cond_both (nat_eq x y) (1 + common_prefix_len nat_eq xs ys) 0 (λ n. suc m ≤ n → x ∷ take m xs ≡ y ∷ take m ys)
    (λ e more.
    let same : x ≡ y = grind (arith, nat_tests) in
    let rest : take m xs ≡ take m ys = alike m xs ys (omega arith) in cc)
    (λ e more. absurd (omega arith)) le

itself : (n : ℕ) → nat_eq n n ≡ true
itself n = grind arith

pub long : (front r s : List ℕ) → length front ≤ common_prefix_len nat_eq (front ++ r) (front ++ s)
long [] r s = omega arith
long (f ∷ fs) r s = let le = long fs r s in rw (itself f) (omega arith)

pub ruleset prefixes = (of_several, kept_unless_empty)
