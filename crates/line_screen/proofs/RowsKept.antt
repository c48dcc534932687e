-- No item goes up a row. What ends in the row where it begins is in this row, from there on.
use Rattle.std.proofs.Common.{◌≡◌, ℕ, ◌+◌, ◌≤◌, ◌==◌, nat_le, nat_lt, Bool, true, false, ◌&&◌, List, [], ◌∷◌, map, Option, refl, ◌∙◌, zero, suc, arith, if◌then◌else◌}
use Rattle.std.specs.List.{list_all}
use Rattle.std.proofs.lemmas.Bool.{and_from}
use Rattle.std.proofs.lemmas.Bool.Decides.{nat_tests}
use Rattle.std.proofs.lemmas.List.Folds.{list_all-append}
use Rattle.line_buffer.specs.declared.layout.Position.{Position}
use Rattle.line_buffer.specs.Width.{tab_width}
use Rattle.line_screen.specs.Display.{Placed, cluster_placed_at, right}
use Rattle.line_screen.specs.Drawing.{DrawnItem, next_row, fit, leave, after_one, place_after, lay_one, blanks, lay_run, DrawnItem.NewRow, DrawnItem.Letter, DrawnItem.Cluster, DrawnItem.Tab}
use Rattle.line_screen.specs.StyledTexts.{StyledItem, lay}
use Rattle.line_screen.proofs.Draws.{list_all_since, Fits, AllFit}
use Rattle.line_screen.proofs.SequenceLemmas.{either}

-- ---- rows

pub leave_grows : (columns : ℕ) (at : Position) → at.row ≤ (leave columns at).row
leave_grows columns at = either (λ (p : Position). at.row ≤ p.row) (at.col == columns) (omega arith) (omega arith)

fit_grows : (columns width : ℕ) (at : Position) → at.row ≤ (fit columns width at).row
fit_grows columns width at = either (λ (p : Position). at.row ≤ p.row) (nat_le (at.col + width) columns) (omega arith) (omega arith)

one_grows : (columns : ℕ) (item : DrawnItem) (at : Position) → at.row ≤ (after_one columns item at).row
one_grows columns NewRow at = omega arith
one_grows columns (Letter c) at = leave_grows columns (right 1 at)
one_grows columns (Cluster bytes width) at = omega (arith, fit_grows columns width at, leave_grows columns (right width (fit columns width at)))
one_grows columns (Tab apart) at = leave_grows columns (right (tab_width columns apart at.col) at)

pub all_grow : (columns : ℕ) (items : List DrawnItem) (at : Position) → at.row ≤ (place_after columns items at).row
all_grow columns [] at = omega arith
all_grow columns (item ∷ items) at = omega (arith, one_grows columns item at, all_grow columns items (after_one columns item at))

-- ---- the cells of one row

-- in some cells of the place's row, from the place on
abbrev pub is_behind : Position → Placed → Bool
is_behind at p = (p.row == at.row) && (nat_le at.col p.col && nat_lt 0 p.width)

behind_itself : (at : Position) (style bytes : List ℕ) (width : ℕ) → 1 ≤ width → is_behind at (cluster_placed_at style bytes width at) ≡ true
behind_itself at style bytes width some = grind (arith, nat_tests)

-- from a place further on in the row
behind_on : (at to : Position) (p : Placed) → to.row ≡ at.row → at.col ≤ to.col → is_behind to p ≡ true → is_behind at p ≡ true
behind_on at to p row col h = grind (arith, nat_tests)

right_behind : (n : ℕ) (at : Position) (p : Placed) → is_behind (right n at) p ≡ true → is_behind at p ≡ true
right_behind n at p h = behind_on at (right n at) p refl (omega arith) h

run_behind : (style : List ℕ) (n : ℕ) (at : Position) → list_all (is_behind at) (lay_run style (blanks n) at) ≡ true
run_behind style zero at = refl
run_behind style (suc n) at =
    and_from _ _ (behind_itself at style (0x20 ∷ []) 1 (omega arith)) (list_all_since (is_behind (right 1 at)) (is_behind at) (right_behind 1 at) (lay_run style (blanks n) (right 1 at)) (run_behind style n (right 1 at)))

left_on : (width : ℕ) (at : Position) (b : Bool) → (if b then next_row (right width at) else right width at).row ≡ at.row → at.col ≤ (if b then next_row (right width at) else right width at).col
left_on width at true e = absurd (omega (arith, e))
left_on width at false e = omega arith

-- an item, and its end
record InRow (columns : ℕ) (style : List ℕ) (item : DrawnItem) (at : Position) : Type 0 where
  cells : list_all (is_behind at) (lay_one columns style item at) ≡ true
  on : at.col ≤ (after_one columns item at).col

cluster_in_row : (columns : ℕ) (style bytes : List ℕ) (width : ℕ) (at : Position) → 1 ≤ width → (b : Bool) → (leave columns (right width (if b then at else next_row at))).row ≡ at.row
    → (list_all (is_behind at) (cluster_placed_at style bytes width (if b then at else next_row at) ∷ []) ≡ true) × (at.col ≤ (leave columns (right width (if b then at else next_row at))).col)
cluster_in_row columns style bytes width at some true e = (and_from _ true (behind_itself at style bytes width some) refl, left_on width at ((right width at).col == columns) e)
cluster_in_row columns style bytes width at some false e = absurd (omega (arith, e, leave_grows columns (right width (next_row at))))

one_in_row : (columns : ℕ) (wide : List ℕ → Option ℕ) (style : List ℕ) (item : DrawnItem) (at : Position) → Fits columns wide item → (after_one columns item at).row ≡ at.row → InRow columns style item at
one_in_row columns wide style NewRow at h e = absurd (omega (arith, e))
one_in_row columns wide style (Letter c) at h e = record { cells = and_from _ true (behind_itself at style (c ∷ []) 1 (omega arith)) refl; on = left_on 1 at ((right 1 at).col == columns) e }
one_in_row columns wide style (Cluster bytes width) at h e = let both = cluster_in_row columns style bytes width at h.some (nat_le (at.col + width) columns) e in record { cells = both.0; on = both.1 }
one_in_row columns wide style (Tab apart) at h e =
    let width = tab_width columns apart at.col in
    record { cells = run_behind style width at; on = left_on width at ((right width at).col == columns) e }

pub row_behind : (columns : ℕ) (wide : List ℕ → Option ℕ) (xs : List StyledItem) (at : Position) → AllFit columns wide (map (λ x. x.item) xs) → (place_after columns (map (λ x. x.item) xs) at).row ≡ at.row → list_all (is_behind at) (lay columns xs at) ≡ true
row_behind columns wide [] at h e = refl
row_behind columns wide (x ∷ xs) at h e =
    let next = after_one columns x.item at in
    let items = map (λ (x : StyledItem). x.item) xs in
    let grown = one_grows columns x.item at in
    let more = all_grow columns items next in
    let here : next.row ≡ at.row = omega (arith, grown, more, e) in
    let one = one_in_row columns wide x.style x.item at h.0 here in
    list_all-append (is_behind at) (lay_one columns x.style x.item at) (lay columns xs next)
    ∙ and_from (list_all (is_behind at) (lay_one columns x.style x.item at)) (list_all (is_behind at) (lay columns xs next)) one.cells
    (list_all_since (is_behind next) (is_behind at) (λ p k. behind_on at next p here one.on k) (lay columns xs next) (row_behind columns wide xs next h.1 (omega (arith, here, e))))
