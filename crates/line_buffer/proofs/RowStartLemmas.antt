-- Where the rows of a text start and end.
use Rattle.std.proofs.Common.{inl, inr, ⊎_elim, subst, zero-add, add-zero, ◌≡◌, ◌≢◌, ℕ, zero, suc, ◌+◌, ◌-◌, ◌<◌, ◌≤◌, ◌==◌, true, false, not, List, [], ◌∷◌, ◌++◌, length, map, reverse, take, drop, get_or, refl, sym, ap, ◌∙◌, arith, le_refl, length-take, length-drop, take_all, take-take, take-append-drop, get_or-take, get_or-drop, IsUtf8, IsCharBoundary, ne_eqb, eq-eqb}
use Rattle.std.specs.List.{list_all, prefix_len, suffix_len}
use Rattle.std.proofs.lemmas.Bool.{cases_lt, cases_Bool}
use Rattle.std.proofs.lemmas.Str.{IsCharBoundary-after_ascii, IsCharBoundary-before_ascii, IsCharBoundary-start, IsCharBoundary-end}
use Rattle.std.proofs.lemmas.List.{reverse-append, length-reverse, get_or-reverse, drop_more, length-take-le}
use Rattle.std.proofs.lemmas.List.Sums.{prefix_len_is, prefix_len_passes, prefix_len_stops, prefix_len-le-length, suffix_len_is, AllPass-from_list_all}
use Rattle.line_buffer.specs.Rows.{FindsPlace, is_in_row, row_start, row_end, behind_newlines, row_starts, row_close}

-- the last row of a text
pub record OpensLastRow (text : List ℕ) (start : ℕ) : Type 0 where
  pub fits : start ≤ length text
  pub newline : 0 < start → get_or text (start - 1) 0 ≡ 10
  pub none : (i : ℕ) → start ≤ i → i < length text → get_or text i 0 ≢ 10

pub row_start_is : (bs : List ℕ) (start : ℕ) → OpensLastRow bs start → row_start bs (length bs) ≡ start
row_start_is bs start h =
    let len = suffix_len_is is_in_row bs start 0 h.fits (λ i l m. ap not (ne_eqb _ 10 (h.none i l m))) (λ l. ap not (eq-eqb _ 10 (h.newline l))) in
    ap (λ t. length bs - suffix_len is_in_row t) (take_all (length bs) bs (le_refl _)) ∙ omega (arith, len, h.fits)

not_newline : (b : ℕ) → is_in_row b ≡ true → b ≢ 10
not_newline b h e = grind (arith)

pub is_newline : (b : ℕ) → is_in_row b ≡ false → b ≡ 10
is_newline b h = grind (arith)

-- after a newline a text may be cut
pub behind_newline : (text : List ℕ) (start : ℕ) → IsUtf8 text → (0 < start → (start - 1 < length text) × (get_or text (start - 1) 0 ≡ 10)) → IsCharBoundary text start
behind_newline text zero u h = IsCharBoundary-start text u
behind_newline text (suc k) u h =
    let same : suc k - 1 ≡ k = omega arith in
    let next : k + 1 ≡ suc k = omega arith in
    let here = h (omega arith) in
    let inside : k < length text = omega (arith, here.0) in
    let low : get_or text k 0 < 128 = omega (arith, ap (λ j. get_or text j 0) (sym same) ∙ here.1) in
    subst (IsCharBoundary text) next (IsCharBoundary-after_ascii text k u inside low)

pub finds_row_start : (text bytes : List ℕ) (start : ℕ) → bytes ≡ text → IsUtf8 text → start ≤ length bytes → (0 < start → get_or bytes (start - 1) 0 ≡ 10) → list_all is_in_row (drop start bytes) ≡ true
    → FindsPlace (row_start text (length text)) text start
finds_row_start text bytes start same u fits newline in_row =
    subst (λ bs. FindsPlace (row_start bs (length bs)) bs start) same (record {
      value = sym (row_start_is bytes start (record { fits = fits; newline = newline; none = none }));
      boundary = behind_newline bytes start (subst IsUtf8 (sym same) u) (λ l. (omega (arith, l, fits), newline l));
    })
  where
    none : (i : ℕ) → start ≤ i → i < length bytes → get_or bytes i 0 ≢ 10
    none i l m =
        let place : start + (i - start) ≡ i = omega (arith, l) in
        not_newline (get_or bytes i 0) (ap (λ k. is_in_row (get_or bytes k 0)) (sym place) ∙ ap is_in_row (sym (get_or-drop start bytes (i - start) 0))
        ∙ AllPass-from_list_all is_in_row (drop start bytes) in_row (i - start) 0 (omega (arith, l, m, length-drop start bytes)))

pub finds_row_end : (text bytes : List ℕ) (end : ℕ) → bytes ≡ text → end ≤ length bytes → (end < length bytes → get_or bytes end 0 ≡ 10) → list_all is_in_row (take end bytes) ≡ true → FindsPlace (row_end text 0) text end
finds_row_end text bytes end same fits newline in_row =
    subst (λ bs. FindsPlace (row_end bs 0) bs end) same (record {
      value = sym (zero-add _ ∙ prefix_len_is is_in_row bytes end 0 fits inside (λ l. ap not (eq-eqb _ 10 (newline l))));
      boundary = elim (cases_lt end (length bytes)) [
        | inl l ↦ IsCharBoundary-before_ascii bytes end l (omega (arith, newline l))
        | inr e ↦ subst (IsCharBoundary bytes) (let last : length bytes ≡ end = omega (arith, e, fits) in last) (IsCharBoundary-end bytes)
      ];
    })
  where
    inside : (k : ℕ) → k < end → is_in_row (get_or bytes k 0) ≡ true
    inside k l =
        ap is_in_row (sym (get_or-take end bytes k 0 l))
        ∙ AllPass-from_list_all is_in_row (take end bytes) in_row k 0 (omega (arith, l, length-take-le end bytes fits))

pub row_close_some : (bs : List ℕ) (k : ℕ) → (k < length bs) × (get_or bs k 0 ≡ 10) × ((i : ℕ) → i < k → get_or bs i 0 ≢ 10) → row_close bs 0 ≡ k + 1
row_close_some bs k h =
    let len = prefix_len_is is_in_row bs k 0 (omega (arith, h.0)) (λ i l. ap not (ne_eqb _ 10 (h.2 i l))) (λ l. ap not (eq-eqb _ 10 h.1)) in
    omega (arith, len, h.0)

pub row_close_none : (bs : List ℕ) → ((i : ℕ) → i < length bs → get_or bs i 0 ≢ 10) → row_close bs 0 ≡ length bs
row_close_none bs h =
    let len = prefix_len_is is_in_row bs (length bs) 0 (le_refl _) (λ i l. ap not (ne_eqb _ 10 (h i l))) (λ l. absurd (omega arith)) in omega (arith, len)

pub opens_from : (text : List ℕ) (start : ℕ) → start ≡ length text - prefix_len is_in_row (reverse text) → OpensLastRow text start
opens_from text start e = record {
  fits = omega arith;
  newline = λ l.
      let few : prefix_len is_in_row (reverse text) < length (reverse text) = omega (arith, length-reverse text) in
      let inside : prefix_len is_in_row (reverse text) < length text = omega (arith, length-reverse text) in
      let at : length text - 1 - prefix_len is_in_row (reverse text) ≡ start - 1 = omega arith in
      ap (λ j. get_or text j 0) (sym at) ∙ sym (get_or-reverse text (prefix_len is_in_row (reverse text)) 0 inside)
      ∙ is_newline _ (prefix_len_stops is_in_row (reverse text) 0 few);
  none = λ i l m.
      let back : length text - 1 - i < length text = omega arith in
      let near : length text - 1 - i < prefix_len is_in_row (reverse text) = omega (arith, prefix_len-le-length is_in_row (reverse text), length-reverse text) in
      let at : length text - 1 - (length text - 1 - i) ≡ i = omega arith in
      λ is. not_newline _ (prefix_len_passes is_in_row (reverse text) (length text - 1 - i) 0 near)
      (get_or-reverse text (length text - 1 - i) 0 back ∙ ap (λ j. get_or text j 0) at ∙ is);
}

-- what the definition of a row's start says of the text
pub opens_last_row : (text : List ℕ) (start : ℕ) → start ≡ row_start text (length text) → OpensLastRow text start
opens_last_row text start e = opens_from text start (e ∙ ap (λ t. length text - suffix_len is_in_row t) (take_all (length text) text (le_refl _)))

-- ---- the places after newlines

pub behind-nil : (from : ℕ) → behind_newlines from [] ≡ []
unfolding behind_newlines
behind-nil from = refl

behind-newline : (from b : ℕ) (bs : List ℕ) → b ≡ 10 → behind_newlines from (b ∷ bs) ≡ (from + 1) ∷ behind_newlines (from + 1) bs
unfolding behind_newlines
behind-newline from b bs e = rw (eq-eqb b 10 e)

behind-other : (from b : ℕ) (bs : List ℕ) → b ≢ 10 → behind_newlines from (b ∷ bs) ≡ behind_newlines (from + 1) bs
unfolding behind_newlines
behind-other from b bs e = rw (ne_eqb b 10 e)

pub behind_none : (from : ℕ) (bs : List ℕ) → ((i : ℕ) → i < length bs → get_or bs i 0 ≢ 10) → behind_newlines from bs ≡ []
behind_none from [] h = behind-nil from
behind_none from (b ∷ bs) h = behind-other from b bs (h 0 (omega arith)) ∙ behind_none (from + 1) bs (λ i l. h (suc i) (omega (arith, l)))

pub behind-append : (from : ℕ) (xs ys : List ℕ) → behind_newlines from (xs ++ ys) ≡ behind_newlines from xs ++ behind_newlines (from + length xs) ys
unfolding behind_newlines
behind-append from [] ys = simp add-zero
behind-append from (x ∷ xs) ys =
    let e : (from + 1) + length xs ≡ from + suc (length xs) = omega arith in
    let rest = rw e at (behind-append (from + 1) xs ys) in
    ⊎_elim (λ (t : (x == 10) ≡ true). rw t (ap (λ l. (from + 1) ∷ l) rest)) (λ (t : (x == 10) ≡ false). rw t rest) (cases_Bool (x == 10))

-- a text that begins further on
pub behind-shift : (at from : ℕ) (bs : List ℕ) → behind_newlines (at + from) bs ≡ map (λ i. at + i) (behind_newlines from bs)
unfolding behind_newlines
behind-shift at from [] = refl
behind-shift at from (b ∷ bs) =
    let e : (at + from) + 1 ≡ at + (from + 1) = omega arith in
    let rest = behind-shift at (from + 1) bs in
    ⊎_elim (λ (t : (b == 10) ≡ true). rw (t, e) (ap (λ l. (at + (from + 1)) ∷ l) rest)) (λ (t : (b == 10) ≡ false). rw (t, e) rest) (cases_Bool (b == 10))

-- at a newline the text falls into what stands before it and what stands after it
pub split_at_newline : (bs : List ℕ) (k : ℕ) → k < length bs → get_or bs k 0 ≡ 10 → bs ≡ take k bs ++ (10 ∷ drop (k + 1) bs)
split_at_newline bs k l e = sym (take-append-drop k bs) ∙ ap (λ t. take k bs ++ t) (drop_more bs k 0 l ∙ ap (λ b. b ∷ drop (k + 1) bs) e)

behind_split : (from : ℕ) (bs : List ℕ) (k : ℕ) → k < length bs → get_or bs k 0 ≡ 10
    → behind_newlines from bs ≡ behind_newlines from (take k bs) ++ (((from + k) + 1) ∷ behind_newlines ((from + k) + 1) (drop (k + 1) bs))
behind_split from bs k l e =
    let len : length (take k bs) ≡ k = omega (arith, length-take k bs) in
    ap (behind_newlines from) (split_at_newline bs k l e)
    ∙ behind-append from (take k bs) (10 ∷ drop (k + 1) bs)
    ∙ ap (λ n. behind_newlines from (take k bs) ++ behind_newlines (from + n) (10 ∷ drop (k + 1) bs)) len
    ∙ ap (λ t. behind_newlines from (take k bs) ++ t) (behind-newline (from + k) 10 (drop (k + 1) bs) refl)

pub behind_first : (from : ℕ) (bs : List ℕ) (k : ℕ) → (k < length bs) × (get_or bs k 0 ≡ 10) × ((i : ℕ) → i < k → get_or bs i 0 ≢ 10)
    → behind_newlines from bs ≡ ((from + k) + 1) ∷ behind_newlines ((from + k) + 1) (drop (k + 1) bs)
behind_first from bs k h =
    behind_split from bs k h.0 h.1
    ∙ ap (λ t. t ++ (((from + k) + 1) ∷ behind_newlines ((from + k) + 1) (drop (k + 1) bs)))
    (behind_none from (take k bs) (λ i l e. h.2 i (omega (arith, l, length-take k bs)) (sym (get_or-take k bs i 0 (omega (arith, l, length-take k bs))) ∙ e)))

-- ---- the rows of a text from its last one back

abbrev pub rows_back : List ℕ → List ℕ
rows_back text = reverse (row_starts text)

-- those above the row that starts at a place
abbrev pub rows_over : List ℕ → ℕ → List ℕ
rows_over text zero = []
rows_over text (suc k) = rows_back (take k text)

rows_back_opened : (text : List ℕ) (start : ℕ) → OpensLastRow text start → rows_back text ≡ start ∷ rows_over text start
rows_back_opened text zero h = ap (λ l. reverse (0 ∷ l)) (behind_none 0 text (λ i l. h.none i (omega arith) l))
rows_back_opened text (suc k) h =
    let inside : k < length text = omega (arith, h.fits) in
    let same : suc k - 1 ≡ k = omega arith in
    let here : get_or text k 0 ≡ 10 = ap (λ j. get_or text j 0) (sym same) ∙ h.newline (omega arith) in
    let first : (0 + k) + 1 ≡ suc k = omega arith in
    let last : behind_newlines ((0 + k) + 1) (drop (k + 1) text) ≡ []
    = behind_none ((0 + k) + 1) (drop (k + 1) text) (λ i l e. h.none ((k + 1) + i) (omega arith) (omega (arith, l, length-drop (k + 1) text)) (sym (get_or-drop (k + 1) text i 0) ∙ e)) in
    ap (λ l. reverse (0 ∷ l)) (behind_split 0 text k inside here
    ∙ ap (λ l. behind_newlines 0 (take k text) ++ (((0 + k) + 1) ∷ l)) last ∙ ap (λ n. behind_newlines 0 (take k text) ++ (n ∷ [])) first)
    ∙ reverse-append (row_starts (take k text)) (suc k ∷ [])

pub rows_back_is : (text : List ℕ) (start : ℕ) → start ≡ row_start text (length text) → rows_back text ≡ start ∷ rows_over text start
rows_back_is text start e = rows_back_opened text start (opens_last_row text start e)

pub rows_over-take : (text : List ℕ) (k r : ℕ) → r ≤ k → rows_over (take k text) r ≡ rows_over text r
rows_over-take text k zero h = refl
rows_over-take text k (suc j) h = ap rows_back (take-take j k text (omega arith))
