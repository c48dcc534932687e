-- Styles that a line has in two drawings.
use Rattle.std.proofs.Common.{◌≡◌, ℕ, zero, suc, ◌+◌, ◌-◌, ◌==◌, ◌<◌, ◌≤◌, Bool, true, false, cond, List, [], ◌∷◌, ◌++◌, take, drop, length, length-append, replicate, Some, None, refl, sym, ap, ap₂, ◌∙◌, subst, append_assoc, append-nil, arith, if◌then◌else◌, set, slice_get}
use Rattle.std.proofs.lemmas.Bool.{eqb-true}
use Rattle.std.proofs.lemmas.List.{length-replicate, length-drop, length-take, drop-replicate, take-replicate, replicate-append-replicate, take-append-drop, take-append-le, drop-append-le}
use Rattle.std.proofs.Math.Seq.{take-append-add, set-append_seam}
use Rattle.std.proofs.lemmas.Grind.{flat_map-append}
use Rattle.std.proofs.lemmas.Option.{same_Some}
use Rattle.std.proofs.lemmas.List.Sums.{common_prefix_len-le}
use Rattle.line_help.specs.Paints.{plain, span_styles}
use Rattle.line_help.specs.declared.helpers.style.Span.{Span}
use Rattle.line_help.specs.declared.helpers.style.Style.{Style}
use Rattle.line_help.proofs.SameStyles.{same_style-equal}
use Rattle.line_editor.specs.SharedStyles.{styles_to, most_spans, told_styles, same_style, plain_rest, is_used}
use Rattle.std.specs.List.{common_prefix_len}

-- ---- the front that two lists share

abbrev pub shared_styles : List Style → List Style → ℕ
shared_styles old new = common_prefix_len same_style old new

-- what both share is the same
same_step : (x y : Style) (xs ys : List Style) (k : ℕ) (b : Bool) → same_style x y ≡ b → take k xs ≡ take k ys → take (cond b (1 + k) 0) (x ∷ xs) ≡ take (cond b (1 + k) 0) (y ∷ ys)
same_step x y xs ys k true is h =
    let next : 1 + k ≡ suc k = omega arith in
    rw next (ap₂ (λ z zs. z ∷ zs) (same_style-equal x y is) h)
same_step x y xs ys k false is h = refl

shared_same : (old new : List Style) → take (shared_styles old new) old ≡ take (shared_styles old new) new
shared_same [] new = refl
shared_same (x ∷ xs) [] = refl
shared_same (x ∷ xs) (y ∷ ys) = same_step x y xs ys (shared_styles xs ys) (same_style x y) refl (shared_same xs ys)

abbrev shared_in : ℕ → List Style → List Style → ℕ
shared_in m xs ys = shared_styles (take m xs) (take m ys)

-- a run of equal styles, and what both share behind it
run_shared : (k m : ℕ) (a b : Style) (xs ys : List Style) → (0 < k → same_style a b ≡ true) → k ≤ m
    → shared_in m (replicate k a ++ xs) (replicate k b ++ ys) ≡ k + shared_in (m - k) xs ys
run_shared zero m a b xs ys h low =
    let all : m - 0 ≡ m = omega arith in omega (arith, ap (λ n. shared_in n xs ys) all)
run_shared (suc k) zero a b xs ys h low = absurd (omega (arith, low))
run_shared (suc k) (suc m) a b xs ys h low =
    let is = h (omega arith) in
    let rest = run_shared k m a b xs ys (λ some. is) (omega (arith, low)) in
    let less : suc m - suc k ≡ m - k = omega arith in
    rw is (omega (arith, rest, ap (λ n. shared_in n xs ys) less))

-- two runs that are long enough
run_full : (m k l : ℕ) (a b : Style) (xs ys : List Style) → (0 < m → same_style a b ≡ true) → m ≤ k → m ≤ l
    → shared_in m (replicate k a ++ xs) (replicate l b ++ ys) ≡ m
run_full zero k l a b xs ys h low short = refl
run_full (suc m) (suc k) (suc l) a b xs ys h low short =
    let is = h (omega arith) in
    let rest = run_full m k l a b xs ys (λ some. is) (omega (arith, low)) (omega (arith, short)) in
    rw is (omega (arith, rest))
run_full m k l a b xs ys h low short = absurd (omega (arith, low, short))

-- two runs of other styles
run_stops : (m k l : ℕ) (a b : Style) (xs ys : List Style) → same_style a b ≡ false → 0 < k → 0 < l
    → shared_in m (replicate k a ++ xs) (replicate l b ++ ys) ≡ 0
run_stops zero k l a b xs ys h some more = refl
run_stops (suc m) (suc k) (suc l) a b xs ys h some more = rw h
run_stops m k l a b xs ys h some more = absurd (omega (arith, some, more))

-- ---- spans, of the first of which some bytes are behind

abbrev first_len : List Span → ℕ
first_len [] = 0
first_len (s ∷ rest) = s.len

abbrev left_in : ℕ → List Span → List Style
left_in used spans = drop used (span_styles spans)

opened : (used : ℕ) (s : Span) (rest : List Span) → used ≤ s.len → left_in used (s ∷ rest) ≡ replicate (s.len - used) s.style ++ span_styles rest
opened used s rest low =
    drop-append-le used (replicate s.len s.style) (span_styles rest) (omega (arith, low, length-replicate s.len s.style))
    ∙ ap (λ xs. xs ++ span_styles rest) (drop-replicate used s.len s.style)

-- the loop that compares: what is shared of all is what was passed, and what is shared of what is left
pub record Walked (upto : ℕ) (old new : List Span) (left : ℕ) (o : List Span) (i : ℕ) (n : List Span) (j : ℕ) : Type 0 where
  pub low : left ≤ upto
  pub old_low : i ≤ first_len o
  pub new_low : j ≤ first_len n
  pub shared : shared_in upto (span_styles old) (span_styles new) ≡ (upto - left) + shared_in left (left_in i o) (left_in j n)

abbrev spans_behind : ℕ → List Span → List Span
spans_behind used spans = if is_used used spans then drop 1 spans else spans

abbrev used_behind : ℕ → List Span → ℕ
used_behind used spans = if is_used used spans then 0 else used

passed : (used : ℕ) (s : Span) (rest : List Span) → used ≤ s.len
    → (left_in (used_behind used (s ∷ rest)) (spans_behind used (s ∷ rest)) ≡ left_in used (s ∷ rest)) × (used_behind used (s ∷ rest) ≤ first_len (spans_behind used (s ∷ rest)))
passed used s rest low = by_test (used == s.len) refl
  where
    by_test : (b : Bool) → (used == s.len) ≡ b
        → (left_in (if b then 0 else used) (if b then rest else s ∷ rest) ≡ left_in used (s ∷ rest)) × ((if b then 0 else used) ≤ first_len (if b then rest else s ∷ rest))
    by_test true is =
        let none : s.len - used ≡ 0 = omega (arith, eqb-true used s.len is) in
        (sym (opened used s rest low ∙ ap (λ n. replicate n s.style ++ span_styles rest) none), omega arith)
    by_test false is = (refl, low)

head_is : (xs : List Span) (a : Span) → Some a ≡ slice_get xs 0 → (rest : List Span) × (xs ≡ a ∷ rest)
head_is [] a h = cc
head_is (x ∷ xs) a h = (xs, ap (λ y. y ∷ xs) (sym (same_Some a x h)))

-- a run, cut in two
cut_at : (k : ℕ) (s : Span) (rest : List Span) (used : ℕ) → used ≤ s.len → k ≤ s.len - used
    → left_in used (s ∷ rest) ≡ replicate k s.style ++ left_in (used + k) (s ∷ rest)
cut_at k s rest used low near =
    let more : k + (s.len - (used + k)) ≡ s.len - used = omega (arith, low, near) in
    let runs = replicate-append-replicate k (s.len - (used + k)) s.style in
    let joined = append_assoc (replicate k s.style) (replicate (s.len - (used + k)) s.style) (span_styles rest) in
    rw (opened used s rest low, opened (used + k) s rest (omega (arith, low, near)), ← more, ← runs) joined

-- the first spans have `k` bytes in common that aren't behind
module _ (upto : ℕ) (old new : List Span) (left : ℕ) (o : List Span) (i : ℕ) (n : List Span) (j : ℕ) (h : Walked upto old new left o i n j)
    (a b : Span) (e : Some a ≡ slice_get o 0) (f : Some b ≡ slice_get n 0) (k : ℕ) (near : k ≤ a.len - i) (close : k ≤ b.len - j) where
  abbrev old_rest : List Span
  old_rest = (head_is o a e).0

  abbrev new_rest : List Span
  new_rest = (head_is n b f).0

  walk : Walked upto old new left (a ∷ old_rest) i (b ∷ new_rest) j
  walk = subst (λ xs. Walked upto old new left xs i (b ∷ new_rest) j) (head_is o a e).1 (subst (λ xs. Walked upto old new left o i xs j) (head_is n b f).1 h)

  both_opened : shared_in left (left_in i (a ∷ old_rest)) (left_in j (b ∷ new_rest)) ≡ shared_in left (replicate (a.len - i) a.style ++ span_styles old_rest) (replicate (b.len - j) b.style ++ span_styles new_rest)
  both_opened = ap₂ (shared_in left) (opened i a old_rest walk.old_low) (opened j b new_rest walk.new_low)

  -- other styles end it
  pub stops_by : 0 < k → same_style a.style b.style ≡ false → upto - left ≡ shared_in upto (span_styles old) (span_styles new)
  stops_by some other =
      let none = both_opened ∙ run_stops left (a.len - i) (b.len - j) a.style b.style (span_styles old_rest) (span_styles new_rest) other (omega (arith, some, near)) (omega (arith, some, close)) in
      omega (arith, walk.shared, none)

  -- all that is asked for is the same
  pub ends_by : (0 < k → same_style a.style b.style ≡ true) → left ≤ k → upto ≡ shared_in upto (span_styles old) (span_styles new)
  ends_by same all =
      let whole = both_opened
      ∙ run_full left (a.len - i) (b.len - j) a.style b.style (span_styles old_rest) (span_styles new_rest) (λ some. same (omega (arith, some, all))) (omega (arith, all, near)) (omega (arith, all, close)) in
      omega (arith, walk.shared, whole, walk.low)

  -- a step on
  goes : (0 < k → same_style a.style b.style ≡ true) → k ≤ left
      → Walked upto old new (left - k) (spans_behind (i + k) (a ∷ old_rest)) (used_behind (i + k) (a ∷ old_rest)) (spans_behind (j + k) (b ∷ new_rest)) (used_behind (j + k) (b ∷ new_rest))
  goes same low =
      let old_behind = passed (i + k) a old_rest (omega (arith, near, walk.old_low)) in
      let new_behind = passed (j + k) b new_rest (omega (arith, close, walk.new_low)) in
      let run = ap₂ (shared_in left) (cut_at k a old_rest i walk.old_low near) (cut_at k b new_rest j walk.new_low close)
      ∙ run_shared k left a.style b.style (left_in (i + k) (a ∷ old_rest)) (left_in (j + k) (b ∷ new_rest)) same low in
      let sum : shared_in upto (span_styles old) (span_styles new) ≡ (upto - (left - k)) + shared_in (left - k) (left_in (i + k) (a ∷ old_rest)) (left_in (j + k) (b ∷ new_rest)) =
      omega (arith, walk.shared, run, walk.low, low) in
      record {
        low = omega (arith, walk.low);
        old_low = old_behind.1;
        new_low = new_behind.1;
        shared = sum ∙ ap₂ (λ xs ys. (upto - (left - k)) + shared_in (left - k) xs ys) (sym old_behind.0) (sym new_behind.0);
      }

  pub goes_by : (0 < k → same_style a.style b.style ≡ true) → k ≤ left → (o2 : List Span) (i2 : ℕ) (n2 : List Span) (j2 : ℕ)
      → o2 ≡ spans_behind (a.len - ((a.len - i) - k)) o → i2 ≡ used_behind (a.len - ((a.len - i) - k)) o
      → n2 ≡ spans_behind (b.len - ((b.len - j) - k)) n → j2 ≡ used_behind (b.len - ((b.len - j) - k)) n → Walked upto old new (left - k) o2 i2 n2 j2
  goes_by same low o2 i2 n2 j2 os is ns js =
      let u : a.len - ((a.len - i) - k) ≡ i + k = omega (arith, near, walk.old_low) in
      let w : b.len - ((b.len - j) - k) ≡ j + k = omega (arith, close, walk.new_low) in
      let po = os ∙ ap₂ spans_behind u (head_is o a e).1 in
      let pi = is ∙ ap₂ used_behind u (head_is o a e).1 in
      let pn = ns ∙ ap₂ spans_behind w (head_is n b f).1 in
      let pj = js ∙ ap₂ used_behind w (head_is n b f).1 in
      rw (po, pi, pn, pj) (goes same low)

-- one of them has no more
none_left : (xs : List Span) (used : ℕ) → None ≡ slice_get xs 0 → length (left_in used xs) ≡ 0
none_left [] used h = omega (arith, length-drop used (span_styles []))
none_left (x ∷ xs) used h = cc

module _ (upto : ℕ) (old new : List Span) (left : ℕ) (o : List Span) (i : ℕ) (n : List Span) (j : ℕ) (h : Walked upto old new left o i n j) where
  abbrev shares : (shared_in left (left_in i o) (left_in j n) ≤ length (take left (left_in i o))) × (shared_in left (left_in i o) (left_in j n) ≤ length (take left (left_in j n)))
  shares = common_prefix_len-le same_style (take left (left_in i o)) (take left (left_in j n))

  pub spent_old_by : None ≡ slice_get o 0 → upto - left ≡ shared_in upto (span_styles old) (span_styles new)
  spent_old_by none = omega (arith, h.shared, shares.0, length-take left (left_in i o), none_left o i none)

  pub spent_new_by : None ≡ slice_get n 0 → upto - left ≡ shared_in upto (span_styles old) (span_styles new)
  spent_new_by none = omega (arith, h.shared, shares.1, length-take left (left_in j n), none_left n j none)

-- ---- what the first spans tell

abbrev styles_of : Span → List Style
styles_of s = replicate s.len s.style

abbrev full : ℕ → List Span → List Style
full n spans = span_styles spans ++ replicate n plain

-- what is told is a front of the line's styles
told_front : (n : ℕ) (spans : List Span) → (rest : List Style) × (told_styles n spans ++ rest ≡ full n spans)
told_front n spans =
    let all = spans ++ plain_rest n ∷ [] in
    let some = span_styles (take most_spans all) in
    let more = span_styles (drop most_spans all) in (
      drop n some ++ more,
      sym (append_assoc (take n some) (drop n some) more)
          ∙ ap (λ xs. xs ++ more) (take-append-drop n some)
          ∙ sym (flat_map-append styles_of (take most_spans all) (drop most_spans all))
          ∙ ap span_styles (take-append-drop most_spans all)
          ∙ flat_map-append styles_of spans (plain_rest n ∷ [])
          ∙ ap (λ xs. span_styles spans ++ xs) (append-nil (replicate n plain)),
    )

told_short : (n : ℕ) (spans : List Span) → length (told_styles n spans) ≤ n
told_short n spans = omega (arith, length-take n (span_styles (take most_spans (spans ++ plain_rest n ∷ []))))

styles_front : (k n : ℕ) (spans : List Span) → k ≤ n → styles_to k spans ≡ take k (full n spans)
styles_front k n spans low =
    let all = span_styles spans in
    let sum : k + (n - k) ≡ n = omega (arith, low) in
    let parts : replicate k plain ++ replicate (n - k) plain ≡ replicate n plain = replicate-append-replicate k (n - k) plain ∙ ap (λ m. replicate m plain) sum in
    rw (← parts, ← append_assoc)
    (sym (take-append-le k (all ++ replicate k plain) (replicate (n - k) plain) (omega (arith, length-append all (replicate k plain), length-replicate k plain))))

told_is : (k n : ℕ) (spans : List Span) → k ≤ length (told_styles n spans) → styles_to k spans ≡ take k (told_styles n spans)
told_is k n spans low =
    let front = told_front n spans in
    styles_front k n spans (omega (arith, low, told_short n spans))
    ∙ ap (take k) (sym front.1)
    ∙ take-append-le k (told_styles n spans) front.0 low

-- the bytes before the kept place keep their styles
pub kept_styles : (n : ℕ) (old new : List Span) (k : ℕ) → k ≡ shared_styles (told_styles n old) (told_styles n new) → (k ≤ n) × (styles_to k new ≡ styles_to k old)
kept_styles n old new k is =
    let low = common_prefix_len-le same_style (told_styles n old) (told_styles n new) in
    let same : take k (told_styles n old) ≡ take k (told_styles n new) = subst (λ m. take m (told_styles n old) ≡ take m (told_styles n new)) (sym is) (shared_same (told_styles n old) (told_styles n new)) in (
      omega (arith, is, low.0, told_short n old),
      told_is k n new (omega (arith, is, low.1)) ∙ sym same ∙ sym (told_is k n old (omega (arith, is, low.0))),
    )

shared_plain : (n : ℕ) → shared_styles (replicate n plain) (replicate n plain) ≡ n
shared_plain zero = refl
shared_plain (suc n) =
    rw (shared_plain n) (omega arith)

-- a line that had no spans and has none keeps all
pub plain_kept : (n : ℕ) (styles : List Style) (spans : List Span) → styles ≡ replicate n plain → spans ≡ [] → n ≡ shared_styles styles (told_styles n spans)
plain_kept n styles spans was is =
    rw (was, is, append-nil (replicate n plain), take-replicate n n plain (omega arith)) (sym (shared_plain n))

-- ---- how they are collected

pub record Collected (n : ℕ) (all first : List Span) (count left : ℕ) (rest : List Span) : Type 0 where
  pub seen : List Span
  pub size : length seen ≡ count
  pub low : count ≤ most_spans
  pub covered : left ≡ n - length (span_styles seen)
  pub array : first ≡ seen ++ replicate (most_spans - count) (plain_rest n)
  pub whole : seen ++ rest ≡ all

-- the same behind a front
front_same : (n : ℕ) (front xs ys : List Style) → take (n - length front) xs ≡ take (n - length front) ys → take n (front ++ xs) ≡ take n (front ++ ys)
front_same n [] xs ys h =
    let all : n - 0 ≡ n = omega arith in subst (λ m. take m xs ≡ take m ys) all h
front_same zero (s ∷ front) xs ys h = refl
front_same (suc n) (s ∷ front) xs ys h =
    let less : suc n - length (s ∷ front) ≡ n - length front = omega arith in
    ap (λ zs. s ∷ zs) (front_same n front xs ys (subst (λ m. take m xs ≡ take m ys) less h))

module _ (n : ℕ) (all first : List Span) (count left : ℕ) (rest : List Span) (h : Collected n all first count left rest) where
  pub one_collected : (s : Span) (later : List Span) (after : ℕ) → rest ≡ s ∷ later → after ≡ left - s.len → count < most_spans → Collected n all (set first count s) (count + 1) after later
  one_collected s later after is less room =
      let more = most_spans - (count + 1) in
      let next : most_spans - count ≡ suc more = omega (arith, room) in
      let styles : length (span_styles (h.seen ++ s ∷ [])) ≡ length (span_styles h.seen) + s.len =
      ap length (flat_map-append styles_of h.seen (s ∷ []) ∙ ap (λ xs. span_styles h.seen ++ xs) (append-nil (styles_of s)))
      ∙ length-append (span_styles h.seen) (styles_of s)
      ∙ ap (λ m. length (span_styles h.seen) + m) (length-replicate s.len s.style) in
      record {
        seen = h.seen ++ s ∷ [];
        size = omega (arith, length-append h.seen (s ∷ []), h.size);
        low = omega (arith, room);
        covered = omega (arith, h.covered, styles, less);
        array = ap (λ xs. set xs count s) (h.array ∙ ap (λ m. h.seen ++ replicate m (plain_rest n)) next)
            ∙ ap (λ m. set (h.seen ++ plain_rest n ∷ replicate more (plain_rest n)) m s) (sym h.size)
            ∙ set-append_seam h.seen (plain_rest n) (replicate more (plain_rest n)) s
            ∙ sym (append_assoc h.seen (s ∷ []) (replicate more (plain_rest n)));
        whole = append_assoc h.seen (s ∷ []) later ∙ ap (λ xs. h.seen ++ xs) (sym is) ∙ h.whole;
      }

  -- what stands in the array behind the spans that were seen, and what the line has there
  abbrev unused : List Span
  unused = replicate (most_spans - count) (plain_rest n)

  abbrev unseen : List Span
  unseen = take (most_spans - count) (rest ++ plain_rest n ∷ [])

  collected_is : take left (span_styles unused) ≡ take left (span_styles unseen) → take n (span_styles first) ≡ told_styles n all
  collected_is same =
      let none = plain_rest n ∷ [] in
      let size : length h.seen + (most_spans - count) ≡ most_spans = omega (arith, h.size, h.low) in
      let told : take most_spans (all ++ none) ≡ h.seen ++ unseen =
      ap (λ xs. take most_spans (xs ++ none)) (sym h.whole)
      ∙ ap (take most_spans) (append_assoc h.seen rest none)
      ∙ ap (λ m. take m (h.seen ++ (rest ++ none))) (sym size)
      ∙ take-append-add h.seen (rest ++ none) (most_spans - count) in
      ap (λ xs. take n (span_styles xs)) h.array
      ∙ ap (take n) (flat_map-append styles_of h.seen unused)
      ∙ front_same n (span_styles h.seen) (span_styles unused) (span_styles unseen) (subst (λ m. take m (span_styles unused) ≡ take m (span_styles unseen)) h.covered same)
      ∙ ap (take n) (sym (flat_map-append styles_of h.seen unseen))
      ∙ ap (λ xs. take n (span_styles xs)) (sym told)

  -- the array is full
  pub many_collected : most_spans ≤ count → take n (span_styles first) ≡ told_styles n all
  many_collected full =
      let none : most_spans - count ≡ 0 = omega (arith, full) in
      collected_is
      (ap (λ m. take left (span_styles (replicate m (plain_rest n)))) none
      ∙ ap (λ m. take left (span_styles (take m (rest ++ plain_rest n ∷ [])))) (sym none))

  -- all bytes are covered
  pub enough_collected : left ≡ 0 → take n (span_styles first) ≡ told_styles n all
  enough_collected none = collected_is (ap (λ m. take m (span_styles unused)) none ∙ ap (λ m. take m (span_styles unseen)) (sym none))

  -- there are no more
  pub all_collected : rest ≡ [] → count < most_spans → take n (span_styles first) ≡ told_styles n all
  all_collected is room =
      let more = 63 - count in
      let next : most_spans - count ≡ suc more = omega (arith, room) in
      let low : left ≤ length (replicate n plain) = omega (arith, h.covered, length-replicate n plain) in
      collected_is
      (ap (λ m. take left (span_styles (replicate m (plain_rest n)))) next
      ∙ take-append-le left (replicate n plain) (span_styles (replicate more (plain_rest n))) low
      ∙ sym (take-append-le left (replicate n plain) (span_styles (take more [])) low)
      ∙ ap (λ m. take left (span_styles (take m (plain_rest n ∷ [])))) (sym next)
      ∙ ap (λ xs. take left (span_styles (take (most_spans - count) (xs ++ plain_rest n ∷ [])))) (sym is))
