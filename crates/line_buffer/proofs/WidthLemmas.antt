-- Sums of columns that stop at the most that a number of columns can be, and the parts of a text between joiners.
use Rattle.std.proofs.Common.{◌≡◌, ℕ, ◌+◌, ◌<◌, ◌≤◌, ◌==◌, min, Bool, true, false, cond, ◌&&◌, List, [], ◌∷◌, ◌++◌, length, take, drop, Option, None, Some, refl, sym, ap, ◌∙◌, subst, arith, append_assoc, take-append-drop, chars, encode_utf8, encode_utf8_all, sum_by, IsUtf8, MatchOption, All, eq-eqb, true≢false}
use Rattle.std.specs.List.{fold, slice_split}
use Rattle.std.specs.Str.{NonePass, NoCharPasses}
use Rattle.std.specs.Str.Pattern.{FindsChar}
use Rattle.std.specs.Str.Iter.{split_steps, split_text, split_has_more, split_pattern}
use Rattle.std.proofs.lemmas.Bool.{and_parts}
use Rattle.std.proofs.lemmas.Iterator.{YieldsList}
use Rattle.std.proofs.lemmas.Iterator.Splits.{YieldsList-from_shown_while}
use Rattle.std.proofs.lemmas.List.Elements.{All-nil, All-cons}
use Rattle.std.proofs.lemmas.List.Splits.{slice_split_none, slice_split_at}
use Rattle.std.proofs.lemmas.List.Sums.{sum_by-cons}
use Rattle.std.proofs.lemmas.Str.{chars-encodes, chars_from_encodes, encodes-chars, scalars-chars, cons_from_encodes, len_utf8_bounds}
use lib.Utf8.{scalar, scalars}

-- ---- sums that stop

stops_from : {A : Type 0} (w : A → ℕ) (most a : ℕ) (xs : List A) → a ≤ most → fold (λ t x. min (t + w x) most) a xs ≡ min (a + sum_by w xs) most
stops_from w most a [] h = omega arith
stops_from w most a (x ∷ xs) h = stops_from w most (min (a + w x) most) xs (omega arith) ∙ omega (arith, sum_by-cons w x xs)

pub stopped_sum : {A : Type 0} (w : A → ℕ) (most : ℕ) (xs : List A) → fold (λ t x. min (t + w x) most) 0 xs ≡ min (sum_by w xs) most
stopped_sum w most xs = stops_from w most 0 xs (omega arith) ∙ omega arith

-- ---- a text cut at a character

All-from_NonePass : (p : ℕ → Bool) (cs : List ℕ) → NonePass p cs → All (λ c. p c ≡ false) cs
All-from_NonePass p [] h = All-nil (λ c. p c ≡ false)
All-from_NonePass p (c ∷ cs) h = All-cons (λ x. p x ≡ false) c cs h.0 (All-from_NonePass p cs h.1)

record Fronted (ds cs : List ℕ) (rest : List ℕ) : Type 0 where
  back : List ℕ
  whole : ds ≡ cs ++ back
  bytes : encode_utf8_all back ≡ rest
  front_ok : scalars cs ≡ true
  back_ok : scalars back ≡ true

fronted : (cs ds rest : List ℕ) → scalars ds ≡ true → encode_utf8_all ds ≡ encode_utf8_all cs ++ rest → Fronted ds cs rest
fronted [] ds rest u e = record { back = ds; whole = refl; bytes = e; front_ok = refl; back_ok = u }
fronted (c ∷ cs) ds rest u e =
    let m = cons_from_encodes ds (encode_utf8_all cs ++ rest) c (e ∙ append_assoc (encode_utf8 c) (encode_utf8_all cs) rest) in
    let parts = and_parts (scalar c) (scalars m.0) (ap scalars (sym m.1) ∙ u) in
    let k = fronted cs m.0 rest parts.1 m.2 in
    record {
      back = k.back;
      whole = m.1 ∙ ap (λ l. c ∷ l) k.whole;
      bytes = k.bytes;
      front_ok = ap (λ b. b && scalars cs) parts.0 ∙ k.front_ok;
      back_ok = k.back_ok;
    }

-- the characters before the first c, and the text after it
record CutAt (c : ℕ) (w x rest : List ℕ) : Type 0 where
  whole : chars w ≡ chars x ++ (c ∷ chars rest)
  none : All (λ d. (d == c) ≡ false) (chars x)
  utf8 : IsUtf8 rest

cut_at : (c : ℕ) (w x rest : List ℕ) → IsUtf8 w → NoCharPasses (λ d. d == c) x → w ≡ x ++ (encode_utf8 c ++ rest) → CutAt c w x rest
cut_at c w x rest u h e =
    let all = fronted h.0 (chars w) (encode_utf8 c ++ rest) (scalars-chars w u) (encodes-chars w u ∙ e ∙ ap (λ t. t ++ (encode_utf8 c ++ rest)) (sym h.1)) in
    let m = cons_from_encodes all.back rest c all.bytes in
    let parts = and_parts (scalar c) (scalars m.0) (ap scalars (sym m.1) ∙ all.back_ok) in
    let front : h.0 ≡ chars x = sym (chars-encodes h.0 all.front_ok) ∙ ap chars h.1 in
    let back : m.0 ≡ chars rest = sym (chars-encodes m.0 parts.1) ∙ ap chars m.2 in
    record {
      whole = all.whole ∙ ap (λ l. h.0 ++ l) (m.1 ∙ ap (λ l. c ∷ l) back) ∙ ap (λ l. l ++ (c ∷ chars rest)) front;
      none = subst (All (λ d. (d == c) ≡ false)) front (All-from_NonePass (λ d. d == c) h.0 h.2);
      utf8 = (m.0, (parts.1, m.2));
    }

part_off : (c : ℕ) (w x rest : List ℕ) (live : Bool) (o : Option (ℕ × ℕ)) → IsUtf8 w → FindsChar c w o
    → MatchOption o ((x ≡ w) × (live ≡ false)) (λ q. 0 < q.1 → (x ≡ take q.0 w) × (live ≡ true) × (rest ≡ drop q.1 w))
    → (slice_split (λ d. d == c) (chars w) ≡ chars x ∷ cond live (slice_split (λ d. d == c) (chars rest)) []) × (live ≡ true → IsUtf8 rest)
part_off c w x rest live None u h is = (
  slice_split_none (λ d. d == c) (chars w) (subst (All (λ d. (d == c) ≡ false)) (chars_from_encodes h.0 w u h.1) (All-from_NonePass (λ d. d == c) h.0 h.2))
      ∙ ap (λ t. chars t ∷ []) (sym is.0) ∙ ap (λ b. chars x ∷ cond b (slice_split (λ d. d == c) (chars rest)) []) (sym is.1),
  λ yes. absurd (true≢false (sym yes ∙ is.1)),
)
part_off c w x rest live (Some q) u h is =
    let some : 0 < q.1 = omega (arith, h.1.ends, (len_utf8_bounds c).0) in
    let found = is some in
    let whole : w ≡ x ++ (encode_utf8 c ++ rest) = sym (take-append-drop q.0 w) ∙ ap (λ t. t ++ drop q.0 w) (sym found.0) ∙ ap (λ t. x ++ t) (h.1.split ∙ ap (λ t. encode_utf8 c ++ t) (sym found.2)) in
    let cut = cut_at c w x rest u (subst (NoCharPasses (λ d. d == c)) (sym found.0) h.0) whole in (
      ap (slice_split (λ d. d == c)) cut.whole ∙ slice_split_at (λ d. d == c) (chars x) c (chars rest) cut.none (eq-eqb c c refl)
          ∙ ap (λ b. chars x ∷ cond b (slice_split (λ d. d == c) (chars rest)) []) (sym found.1),
      λ _. cut.utf8,
    )

-- the parts of a text, as characters; the last three facts are the clauses `text`, `has_more` and `pattern` of `split`
pub YieldsList-from_split_char : {s : _} (c : ℕ) (bs : List ℕ) → IsUtf8 bs → split_text s ≡ bs → split_has_more s ≡ true → split_pattern s ≡ c
    → YieldsList (split_steps FindsChar (λ a b. b ≡ a)) (λ x. chars x.now) s (slice_split (λ d. d == c) (chars bs))
YieldsList-from_split_char {s} c bs u text more pattern =
    let parts = λ (t : List ℕ). slice_split (λ d. d == c) (chars t) in
    let shown = λ (t : _). cond (split_has_more t) (parts (split_text t)) [] in
    subst (YieldsList (split_steps FindsChar (λ a b. b ≡ a)) (λ x. chars x.now) s) (λ i. cond (more i) (parts (text i)) [])
    (YieldsList-from_shown_while (split_steps FindsChar (λ a b. b ≡ a)) (λ x. chars x.now) shown (λ t. (split_pattern t ≡ c) × (split_has_more t ≡ true → IsUtf8 (split_text t)))
    (λ t v h k. ap (λ b. length (cond b (parts (split_text t)) [])) (sym k.0))
    (λ t x v h k.
    let cut = k.1.1.1 in
    let off = part_off c (split_text t) x.now (split_text v) (split_has_more v) cut.0 (h.1 (sym k.0)) (subst (λ d. FindsChar d (split_text t) cut.0) h.0 cut.1) cut.2 in (
      (k.1.0 ∙ h.0, off.1),
      ap (λ b. cond b (parts (split_text t)) []) (sym k.0) ∙ off.0,
    ))
    s (pattern, λ _. subst IsUtf8 (sym text) u))
