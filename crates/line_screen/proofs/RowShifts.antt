-- What a cell that is opened in a row, or cells that are taken out, make of the clusters there and elsewhere.
use Rattle.std.proofs.Common.{◌≡◌, ℕ, ◌+◌, ◌-◌, ◌<◌, ◌≤◌, ◌==◌, nat_lt, Bool, true, false, cond, not, ◌&&◌, ◌||◌, List, [], ◌∷◌, ◌++◌, map, refl, sym, ap, ap₂, ◌∙◌, arith, if◌then◌else◌}
use Rattle.std.specs.List.{list_all, filter}
use Rattle.std.proofs.lemmas.Bool.{and_parts, not-true}
use Rattle.std.proofs.lemmas.Bool.Decides.{nat_tests}
use Rattle.line_buffer.specs.declared.layout.Position.{Position}
use Rattle.line_screen.specs.Display.{Placed, cluster_placed_at, placed_in, right, ends_before, is_cut, touches, is_in_rest, is_pushed_out, goes_right, can_go_right, goes_left, is_uncut, is_taken_out}
use Rattle.line_screen.specs.Drawing.{next_row, lay_run}
use Rattle.line_screen.proofs.LetterRows.{is_below}

-- ---- maps and filters

pub map_same : {A : Type 0} (f : A → A) (q : A → Bool) → ((x : A) → q x ≡ true → f x ≡ x) → (xs : List A) → list_all q xs ≡ true → map f xs ≡ xs
map_same f q same [] h = refl
map_same f q same (x ∷ xs) h =
    let parts = and_parts (q x) (list_all q xs) h in
    ap₂ ◌∷◌ (same x parts.0) (map_same f q same xs parts.1)

map_cond : {A : Type 0} (f : A → A) (x : A) (ys : List A) (b : Bool) → cond b (f x ∷ map f ys) (map f ys) ≡ map f (cond b (x ∷ ys) ys)
map_cond f x ys true = refl
map_cond f x ys false = refl

pub filter_mapped : {A : Type 0} (t : A → Bool) (f : A → A) → ((x : A) → t (f x) ≡ t x) → (xs : List A) → filter t (map f xs) ≡ map f (filter t xs)
filter_mapped t f same [] = refl
filter_mapped t f same (x ∷ xs) =
    ap (λ b. cond b (f x ∷ filter t (map f xs)) (filter t (map f xs))) (same x)
    ∙ ap (λ ys. cond (t x) (f x ∷ ys) ys) (filter_mapped t f same xs)
    ∙ map_cond f x (filter t xs) (t x)

-- ---- a new cluster among others

pub placed_between : (at : Position) (new : Placed) (xs ys : List Placed) → list_all (ends_before at) xs ≡ true → list_all (λ p. not (ends_before at p)) ys ≡ true → placed_in at new (xs ++ ys) ≡ xs ++ (new ∷ ys)
placed_between at new [] [] h k = refl
placed_between at new [] (p ∷ ps) h k =
    ap (λ b. if b then p ∷ placed_in at new ps else (new ∷ (p ∷ ps))) (not-true (ends_before at p) (and_parts (not (ends_before at p)) (list_all (λ x. not (ends_before at x)) ps) k).0)
placed_between at new (x ∷ xs) ys h k =
    let parts = and_parts (ends_before at x) (list_all (ends_before at) xs) h in
    ap (λ b. if b then x ∷ placed_in at new (xs ++ ys) else (new ∷ (x ∷ (xs ++ ys)))) parts.0 ∙ ap (λ zs. x ∷ zs) (placed_between at new xs ys parts.1 k)

module _ (t : Placed → Bool) (at : Position) (new : Placed) where
  kept_at : (p : Placed) (ps : List Placed) (b : Bool) → t p ≡ b → filter t (p ∷ ps) ≡ cond b (p ∷ filter t ps) (filter t ps)
  kept_at p ps b e = ap (λ x. cond x (p ∷ filter t ps) (filter t ps)) e

  new_kept : t new ≡ true → (ps : List Placed) → filter t (new ∷ ps) ≡ new ∷ filter t ps
  new_kept is ps = ap (λ b. cond b (new ∷ filter t ps) (filter t ps)) is

  new_lost : t new ≡ false → (ps : List Placed) → filter t (new ∷ ps) ≡ filter t ps
  new_lost is ps = ap (λ b. cond b (new ∷ filter t ps) (filter t ps)) is

  placed_if : (p : Placed) (ps : List Placed) (b : Bool) → ends_before at p ≡ b → placed_in at new (p ∷ ps) ≡ (if b then p ∷ placed_in at new ps else (new ∷ (p ∷ ps)))
  placed_if p ps b e = ap (λ x. if x then p ∷ placed_in at new ps else (new ∷ (p ∷ ps))) e

  filter_placed_if : t new ≡ true → (p : Placed) (ps : List Placed) → (t p ≡ false → ends_before at p ≡ true) → filter t (placed_in at new ps) ≡ placed_in at new (filter t ps)
      → (a b : Bool) → ends_before at p ≡ a → t p ≡ b → filter t (if a then p ∷ placed_in at new ps else (new ∷ (p ∷ ps))) ≡ placed_in at new (cond b (p ∷ filter t ps) (filter t ps))
  filter_placed_if is p ps f ih true true e k = kept_at p (placed_in at new ps) true k ∙ ap (λ xs. p ∷ xs) ih ∙ sym (placed_if p (filter t ps) true e)
  filter_placed_if is p ps f ih true false e k = kept_at p (placed_in at new ps) false k ∙ ih
  filter_placed_if is p ps f ih false true e k = new_kept is (p ∷ ps) ∙ ap (λ xs. new ∷ xs) (kept_at p ps true k) ∙ sym (placed_if p (filter t ps) false e)
  filter_placed_if is p ps f ih false false e k = let h = sym e ∙ f k in cc

  -- those that are left out end before the new one
  pub filter_placed : t new ≡ true → ((p : Placed) → t p ≡ false → ends_before at p ≡ true) → (xs : List Placed) → filter t (placed_in at new xs) ≡ placed_in at new (filter t xs)
  filter_placed is f [] = new_kept is []
  filter_placed is f (p ∷ ps) = filter_placed_if is p ps (f p) (filter_placed is f ps) (ends_before at p) (t p) refl refl

  filter_lost_if : t new ≡ false → (p : Placed) (ps : List Placed) → filter t (placed_in at new ps) ≡ filter t ps → (a : Bool) → filter t (if a then p ∷ placed_in at new ps else (new ∷ (p ∷ ps))) ≡ filter t (p ∷ ps)
  filter_lost_if is p ps ih true = ap (λ xs. cond (t p) (p ∷ xs) xs) ih
  filter_lost_if is p ps ih false = new_lost is (p ∷ ps)

  pub filter_lost : t new ≡ false → (xs : List Placed) → filter t (placed_in at new xs) ≡ filter t xs
  filter_lost is [] = new_lost is []
  filter_lost is (p ∷ ps) = filter_lost_if is p ps (filter_lost is ps) (ends_before at p)

-- ---- outside the rest of a place's row

abbrev pub is_elsewhere : Position → Placed → Bool
is_elsewhere at p = ends_before at p || is_below at p

pub ended_elsewhere : (at : Position) (p : Placed) → ends_before at p ≡ true → is_elsewhere at p ≡ true
ended_elsewhere at p h = ap (λ b. b || is_below at p) h

pub below_elsewhere : (at : Position) (p : Placed) → is_below at p ≡ true → is_elsewhere at p ≡ true
below_elsewhere at p h = grind (arith, nat_tests)

not_in_rest : (at : Position) (p : Placed) → is_elsewhere at p ≡ true → is_in_rest at p ≡ false
not_in_rest at p h = grind (arith, nat_tests)

not_cut_elsewhere : (at : Position) (p : Placed) → is_elsewhere at p ≡ true → not (is_cut at p) ≡ true
not_cut_elsewhere at p h = grind (arith, nat_tests)

further_elsewhere : (count : ℕ) (at : Position) (p : Placed) → is_elsewhere at p ≡ true → is_elsewhere (right count at) p ≡ true
further_elsewhere count at p h = grind (arith, nat_tests)

-- behind the place's cell, or below
abbrev pub is_beyond : Position → Placed → Bool
is_beyond at p = is_below at p || ((p.row == at.row) && nat_lt at.col p.col)

pub below_beyond : (at : Position) (p : Placed) → is_below at p ≡ true → is_beyond at p ≡ true
below_beyond at p h = ap (λ b. b || ((p.row == at.row) && nat_lt at.col p.col)) h

pub beyond_apart : (at : Position) (p : Placed) → is_beyond at p ≡ true → not (touches at 1 p) ≡ true
beyond_apart at p h = grind (arith, nat_tests)

pub beyond_not_ended : (at : Position) (p : Placed) → is_beyond at p ≡ true → not (ends_before at p) ≡ true
beyond_not_ended at p h = grind (arith, nat_tests)

pub letter_beyond : (at : Position) (c col : ℕ) → at.col + 1 ≤ col → is_beyond at (cluster_placed_at [] (c ∷ []) 1 (record { col = col; row = at.row })) ≡ true
letter_beyond at c col low = grind (arith, nat_tests)

pub letter_ends_on : (at : Position) (c col : ℕ) → col < at.col → ends_before at (cluster_placed_at [] (c ∷ []) 1 (record { col = col; row = at.row })) ≡ true
letter_ends_on at c col low = grind (arith, nat_tests)

pub letter_ends_above : (at : Position) (c col : ℕ) → ends_before (next_row at) (cluster_placed_at [] (c ∷ []) 1 (record { col = col; row = at.row })) ≡ true
letter_ends_above at c col = grind (arith, nat_tests)

in_rest : (at : Position) (c : ℕ) (from : Position) → from.row ≡ at.row → at.col ≤ from.col → is_in_rest at (cluster_placed_at [] (c ∷ []) 1 from) ≡ true
in_rest at c from row low = grind (arith, nat_tests)

-- ---- a cell that is opened

pub can_go_elsewhere : (columns : ℕ) (at : Position) (p : Placed) → is_elsewhere at p ≡ true → can_go_right columns at p ≡ true
can_go_elsewhere columns at p h =
    ap (λ b. b && (not (is_pushed_out columns at p) || (p.width == 1))) (not_cut_elsewhere at p h)
    ∙ ap (λ b. not (b && (p.col + p.width == columns)) || (p.width == 1)) (not_in_rest at p h)

pub stays_elsewhere : (columns : ℕ) (at : Position) (p : Placed) → is_elsewhere at p ≡ true → not (is_pushed_out columns at p) ≡ true
stays_elsewhere columns at p h = ap (λ b. not (b && (p.col + p.width == columns))) (not_in_rest at p h)

pub right_unmoved : (at : Position) (p : Placed) → is_elsewhere at p ≡ true → goes_right at p ≡ p
right_unmoved at p h = ap (λ b. if b then record p { col = p.col + 1 } else p) (not_in_rest at p h)

pub letter_can_go : (columns : ℕ) (at : Position) (c col : ℕ) → can_go_right columns at (cluster_placed_at [] (c ∷ []) 1 (record { col = col; row = at.row })) ≡ true
letter_can_go columns at c col = grind (arith, nat_tests)

pub letter_stays : (columns : ℕ) (at : Position) (c col : ℕ) → col + 1 < columns → not (is_pushed_out columns at (cluster_placed_at [] (c ∷ []) 1 (record { col = col; row = at.row }))) ≡ true
letter_stays columns at c col room = grind (arith, nat_tests)

pub letter_pushed_out : (columns : ℕ) (at : Position) (c col : ℕ) → at.col ≤ col → col + 1 ≡ columns → is_pushed_out columns at (cluster_placed_at [] (c ∷ []) 1 (record { col = col; row = at.row })) ≡ true
letter_pushed_out columns at c col low full = grind (arith, nat_tests)

pub run_goes_right : (at : Position) (cs : List ℕ) (from : Position) → from.row ≡ at.row → at.col ≤ from.col → map (goes_right at) (lay_run [] cs from) ≡ lay_run [] cs (right 1 from)
run_goes_right at [] from row low = refl
run_goes_right at (c ∷ cs) from row low =
    ap₂ ◌∷◌ (ap (λ b. if b then cluster_placed_at [] (c ∷ []) 1 (right 1 from) else cluster_placed_at [] (c ∷ []) 1 from) (in_rest at c from row low)) (run_goes_right at cs (right 1 from) row (omega arith))

row_of_right : (at : Position) (p : Placed) (b : Bool) → (if b then record p { col = p.col + 1 } else p).row ≡ p.row
row_of_right at p true = refl
row_of_right at p false = refl

pub goes_right_row : (at : Position) (p : Placed) → (goes_right at p).row ≡ p.row
goes_right_row at p = row_of_right at p (is_in_rest at p)

-- ---- cells that are taken out

pub left_unmoved : (count : ℕ) (at : Position) (p : Placed) → is_elsewhere at p ≡ true → goes_left count at p ≡ p
left_unmoved count at p h = ap (λ b. if b then record p { col = p.col - count } else p) (not_in_rest (right count at) p (further_elsewhere count at p h))

pub uncut_elsewhere : (count : ℕ) (at : Position) (p : Placed) → is_elsewhere at p ≡ true → is_uncut count at p ≡ true
uncut_elsewhere count at p h =
    ap (λ b. b && not (is_cut (right count at) p)) (not_cut_elsewhere at p h) ∙ not_cut_elsewhere (right count at) p (further_elsewhere count at p h)

pub letter_uncut : (count : ℕ) (at : Position) (c col : ℕ) → is_uncut count at (cluster_placed_at [] (c ∷ []) 1 (record { col = col; row = at.row })) ≡ true
letter_uncut count at c col = grind (arith, nat_tests)

pub kept_elsewhere : (count : ℕ) (at : Position) (p : Placed) → is_elsewhere at p ≡ true → not (is_taken_out count at p) ≡ true
kept_elsewhere count at p h = ap (λ b. not (b && not (is_in_rest (right count at) p))) (not_in_rest at p h)

pub letter_taken_out : (count : ℕ) (at : Position) (c col : ℕ) → at.col ≤ col → col < at.col + count → not (not (is_taken_out count at (cluster_placed_at [] (c ∷ []) 1 (record { col = col; row = at.row })))) ≡ true
letter_taken_out count at c col low high = grind (arith, nat_tests)

pub letter_kept : (count : ℕ) (at : Position) (c col : ℕ) → at.col + count ≤ col → not (is_taken_out count at (cluster_placed_at [] (c ∷ []) 1 (record { col = col; row = at.row }))) ≡ true
letter_kept count at c col low = grind (arith, nat_tests)

back : (col n : ℕ) (from : Position) → from.col ≡ col + n → from.col - n ≡ col
back col n from e = omega arith

pub run_goes_left : (count : ℕ) (at : Position) (cs : List ℕ) (from to : Position) → from.row ≡ at.row → at.col + count ≤ from.col → from ≡ right count to → map (goes_left count at) (lay_run [] cs from) ≡ lay_run [] cs to
run_goes_left count at [] from to row low is = refl
run_goes_left count at (c ∷ cs) from to row low is =
    let col_is : from.col ≡ to.col + count = ap (λ p. p.col) is in
    let row_is : from.row ≡ to.row = ap (λ p. p.row) is in
    let moved : Placed = record { row = from.row; col = from.col - count; width = 1; bytes = c ∷ []; style = [] } in
    let there : moved ≡ cluster_placed_at [] (c ∷ []) 1 to = (λ i. let p : Placed = record { row = row_is i; col = back to.col count from col_is i; width = 1; bytes = c ∷ []; style = [] } in p) in
    let next : right 1 from ≡ right count (right 1 to) = ap (right 1) is ∙ ap (λ n. let p : Position = record { col = n; row = to.row } in p) (swap to.col count) in
    ap₂ ◌∷◌ (ap (λ b. if b then moved else cluster_placed_at [] (c ∷ []) 1 from) (in_rest (right count at) c from row low) ∙ there)
    (run_goes_left count at cs (right 1 from) (right 1 to) row (omega arith) next)
  where
    swap : (col n : ℕ) → col + n + 1 ≡ col + 1 + n
    swap col n = omega arith

row_of_left : (count : ℕ) (p : Placed) (b : Bool) → (if b then record p { col = p.col - count } else p).row ≡ p.row
row_of_left count p true = refl
row_of_left count p false = refl

pub goes_left_row : (count : ℕ) (at : Position) (p : Placed) → (goes_left count at p).row ≡ p.row
goes_left_row count at p = row_of_left count p (is_in_rest (right count at) p)
