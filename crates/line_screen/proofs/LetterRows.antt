-- Letters over rows: where they end, and their cells row by row.
use Rattle.std.proofs.Common.{◌≡◌, ℕ, zero, suc, ◌+◌, ◌<◌, ◌≤◌, nat_lt, Bool, true, List, [], ◌∷◌, ◌++◌, map, length, refl, ap, ◌∙◌, arith, if◌then◌else◌}
use Rattle.std.specs.List.{list_all}
use Rattle.std.proofs.lemmas.Bool.{and_from, eq-eqb, ne_eqb, lt-ltb}
use Rattle.std.proofs.lemmas.Bool.Decides.{nat_tests}
use Rattle.line_buffer.specs.declared.layout.Position.{Position}
use Rattle.line_screen.specs.Display.{Placed, cluster_placed_at, right}
use Rattle.line_screen.specs.Drawing.{next_row, leave, place_after, lay_run}
use Rattle.line_screen.specs.Drawing.DrawnItem.{Letter}
use Rattle.line_screen.specs.StyledTexts.{lay}
use Rattle.line_screen.proofs.Ends.{plain_letters, same_place, next_col}
use Rattle.line_screen.proofs.RowsKept.{leave_grows}

-- ---- where letters end

pub not_left : (columns : ℕ) (at : Position) → at.col + 1 < columns → leave columns (right 1 at) ≡ right 1 at
not_left columns at room = ap (λ b. if b then next_row (right 1 at) else right 1 at) (ne_eqb (at.col + 1) columns (λ e. omega arith))

pub leave_low : (columns : ℕ) (at : Position) → at.col < columns → (leave columns (right 1 at)).col < columns
leave_low columns at low = grind (arith, nat_tests)

pub letters_low : (columns : ℕ) (cs : List ℕ) (at : Position) → at.col < columns → (place_after columns (map Letter cs) at).col < columns
letters_low columns [] at low = low
letters_low columns (c ∷ cs) at low = letters_low columns cs (leave columns (right 1 at)) (leave_low columns at low)

-- a letter before others puts their end on as one behind them
pub one_behind : (columns : ℕ) (cs : List ℕ) (at : Position) → place_after columns (map Letter cs) (leave columns (right 1 at)) ≡ leave columns (right 1 (place_after columns (map Letter cs) at))
one_behind columns [] at = refl
one_behind columns (c ∷ cs) at = one_behind columns cs (leave columns (right 1 at))

-- and so do several
pub some_behind : (columns : ℕ) (xs ys : List ℕ) (at : Position) → place_after columns (map Letter ys) (place_after columns (map Letter xs) at) ≡ place_after columns (map Letter xs) (place_after columns (map Letter ys) at)
some_behind columns [] ys at = refl
some_behind columns (x ∷ xs) ys at = some_behind columns xs ys (leave columns (right 1 at)) ∙ ap (place_after columns (map Letter xs)) (one_behind columns ys at)

-- ---- their cells

-- those that don't fill their row
pub letters_laid : (columns : ℕ) (cs : List ℕ) (at : Position) → at.col + length cs < columns → lay columns (plain_letters cs) at ≡ lay_run [] cs at
letters_laid columns [] at room = refl
letters_laid columns (c ∷ cs) at room =
    ap (λ xs. cluster_placed_at [] (c ∷ []) 1 at ∷ xs)
    (ap (lay columns (plain_letters cs)) (not_left columns at (omega arith)) ∙ letters_laid columns cs (right 1 at) (omega arith))

-- those that do, and others in the rows below
pub record Fills (columns : ℕ) (now more : List ℕ) (at : Position) : Type 0 where
  pub cells : lay columns (plain_letters (now ++ more)) at ≡ lay_run [] now at ++ lay columns (plain_letters more) (next_row at)
  pub ends : place_after columns (map Letter (now ++ more)) at ≡ place_after columns (map Letter more) (next_row at)

pub fills : (columns : ℕ) (now more : List ℕ) (at : Position) → at.col < columns → at.col + length now ≡ columns → Fills columns now more at
fills columns [] more at low full = absurd (omega arith)
fills columns (x ∷ []) more at low full =
    let next : leave columns (right 1 at) ≡ next_row at = ap (λ b. if b then next_row (right 1 at) else right 1 at) (eq-eqb (at.col + 1) columns (omega arith)) in
    record { cells = ap (λ p. cluster_placed_at [] (x ∷ []) 1 at ∷ lay columns (plain_letters more) p) next; ends = ap (place_after columns (map Letter more)) next }
fills columns (x ∷ (y ∷ now)) more at low full =
    let next = not_left columns at (omega arith) in
    let rest = fills columns (y ∷ now) more (right 1 at) (omega arith) (omega arith) in
    record {
      cells = ap (λ p. cluster_placed_at [] (x ∷ []) 1 at ∷ lay columns (plain_letters (y ∷ (now ++ more))) p) next ∙ ap (λ ps. cluster_placed_at [] (x ∷ []) 1 at ∷ ps) rest.cells;
      ends = ap (place_after columns (map Letter (y ∷ (now ++ more)))) next ∙ rest.ends;
    }

-- in a row below
abbrev pub is_below : Position → Placed → Bool
is_below at p = nat_lt at.row p.row

pub letters_below : (columns : ℕ) (cs : List ℕ) (at from : Position) → at.row < from.row → list_all (is_below at) (lay columns (plain_letters cs) from) ≡ true
letters_below columns [] at from low = refl
letters_below columns (c ∷ cs) at from low =
    and_from (nat_lt at.row from.row) _ (lt-ltb at.row from.row low) (letters_below columns cs at (leave columns (right 1 from)) (omega (arith, leave_grows columns (right 1 from))))

pub run_both : (xs ys : List ℕ) (at : Position) → lay_run [] (xs ++ ys) at ≡ lay_run [] xs at ++ lay_run [] ys (right (length xs) at)
run_both [] ys at = ap (lay_run [] ys) (same_place at)
run_both (x ∷ xs) ys at =
    ap (λ zs. cluster_placed_at [] (x ∷ []) 1 at ∷ zs) (run_both xs ys (right 1 at) ∙ ap (λ n. lay_run [] xs (right 1 at) ++ lay_run [] ys (record { col = n; row = at.row })) (next_col at.col (length xs)))

-- what holds of each letter of a row from a column on, up to another
pub run_all : (q : Placed → Bool) (row low high : ℕ) → ((c col : ℕ) → low ≤ col → col < high → q (cluster_placed_at [] (c ∷ []) 1 (record { col = col; row = row })) ≡ true)
    → (cs : List ℕ) (from : Position) → from.row ≡ row → low ≤ from.col → from.col + length cs ≤ high → list_all q (lay_run [] cs from) ≡ true
run_all q row low high each [] from is here room = refl
run_all q row low high each (c ∷ cs) from is here room =
    and_from (q (cluster_placed_at [] (c ∷ []) 1 from)) _
    (ap (λ r. q (cluster_placed_at [] (c ∷ []) 1 (record { col = from.col; row = r }))) is ∙ each c from.col here (omega arith))
    (run_all q row low high each cs (right 1 from) is (omega arith) (omega arith))

-- ---- a text in two parts, the first of this length

pub record Split (n : ℕ) (xs : List ℕ) : Type 0 where
  pub first : List ℕ
  pub rest : List ℕ
  pub is : xs ≡ first ++ rest
  pub size : length first ≡ n

pub split_at : (n : ℕ) (xs : List ℕ) → n ≤ length xs → Split n xs
split_at zero xs room = record { first = []; rest = xs; is = refl; size = refl }
split_at (suc n) [] room = absurd (omega arith)
split_at (suc n) (x ∷ xs) room =
    let s = split_at n xs (omega arith) in
    let size = s.size in
    record { first = x ∷ s.first; rest = s.rest; is = ap (λ ys. x ∷ ys) s.is; size = omega arith }
