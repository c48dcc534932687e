-- The greatest place at which a text may be cut, and what is kept of it.
use Rattle.std.proofs.Common.{◌≡◌, ℕ, zero, suc, ◌≤◌, true, ◌||◌, List, [], length, take, drop, sym, ap, subst, ◌∙◌, arith, append-nil, take-append-drop, length-append, IsUtf8, IsCharBoundary, nat_le, if◌then◌else◌}
use Rattle.std.proofs.lemmas.List.{length-take-le}
use Rattle.std.proofs.lemmas.Bool.Decides.{nat_tests}
use Rattle.std.proofs.lemmas.Str.{IsCharBoundary-start, IsCharBoundary-from_take, IsUtf8-take}
use Rattle.line_buffer.specs.Laws.{IsLongestThatFits, KeepsTheLongestThatFits}
use Rattle.std.specs.Fmt.Cut.{floor_char_boundary}
use Rattle.std.specs.Fmt.{is_char_start}
use Rattle.std.specs.Prelude.{slice_index}
use Rattle.std.proofs.Math.Seq.{take-append_seam}
use Rattle.std.proofs.lemmas.Bool.{leb-true, leb-false, true≢false, cond_both}
use Rattle.line_buffer.proofs.InsertionLemmas.{not_inside}

record IsGreatestCut (text : List ℕ) (room cut : ℕ) : Type 0 where
  boundary : IsCharBoundary text cut
  fits : cut ≤ room
  greatest : (i : ℕ) → i ≤ room → IsCharBoundary text i → i ≤ cut

outside : (text : List ℕ) (n : ℕ) → n ≤ length text → is_char_start (slice_index text n) ≡ true → IsCharBoundary text n
outside text n le e = (le, λ less high. grind (arith, nat_tests))

greatest_cut : (text : List ℕ) (room : ℕ) → IsUtf8 text → room ≤ length text → IsGreatestCut text room (floor_char_boundary text room)
unfolding floor_char_boundary
greatest_cut text zero u le = record { boundary = IsCharBoundary-start text u; fits = omega arith; greatest = λ i l b. l }
greatest_cut text (suc n) u le =
    let h = greatest_cut text n u (omega arith) in
    cond_both (is_char_start (slice_index text (suc n))) (suc n) (floor_char_boundary text n) (IsGreatestCut text (suc n))
    (λ e. record { boundary = outside text (suc n) le e; fits = omega arith; greatest = λ i l b. l })
    (λ e. record {
      boundary = h.boundary;
      fits = omega (arith, h.fits);
      greatest = λ i l b.
          let other : i ≡ suc n → ⊥ = λ same. true≢false (sym (not_inside text (suc n) (subst (IsCharBoundary text) same b)) ∙ e) in
          h.greatest i (omega (arith, l, other)) b;
    })

cut_is_longest : (text : List ℕ) (room : ℕ) → IsUtf8 text → room ≤ length text → IsLongestThatFits text (take (floor_char_boundary text room) text) room
cut_is_longest text room u le =
    let cut = greatest_cut text room u le in
    let long : length (take (floor_char_boundary text room) text) ≡ floor_char_boundary text room = length-take-le (floor_char_boundary text room) text cut.boundary.0 in
    record {
      rest = drop (floor_char_boundary text room) text;
      begins = sym (take-append-drop (floor_char_boundary text room) text);
      whole = IsUtf8-take text (floor_char_boundary text room) u cut.boundary;
      fits = omega (arith, long, cut.fits);
      longest = λ other more e v l.
          let front : take (length other) text ≡ other = ap (take (length other)) e ∙ take-append_seam other more in
          let at : IsCharBoundary text (length other) = IsCharBoundary-from_take text (length other) u (omega (arith, ap length e, length-append other more)) (subst IsUtf8 (sym front) v) in
          omega (arith, long, cut.greatest (length other) l at);
    }

whole_is_longest : (text : List ℕ) (room : ℕ) → IsUtf8 text → length text ≤ room → IsLongestThatFits text text room
whole_is_longest text room u le = record {
  rest = [];
  begins = sym (append-nil text);
  whole = u;
  fits = le;
  longest = λ other more e v l. omega (arith, ap length e, length-append other more);
}

pub keeps_the_longest_that_fits : KeepsTheLongestThatFits
keeps_the_longest_that_fits text l u small =
    subst (λ g. IsLongestThatFits text (if g || nat_le (length text) l.limit then text else take (floor_char_boundary text l.limit) text) l.limit) (sym small)
    (cond_both (nat_le (length text) l.limit) text (take (floor_char_boundary text l.limit) text) (λ kept. IsLongestThatFits text kept l.limit)
    (λ e. whole_is_longest text l.limit u (leb-true (length text) l.limit e))
    (λ e. cut_is_longest text l.limit u (omega (arith, leb-false (length text) l.limit e))))
