-- What is laid begins at its place or after it, and takes some cells.
use Rattle.std.proofs.Common.{◌≡◌, ℕ, ◌==◌, nat_le, nat_lt, Bool, true, not, ◌&&◌, ◌||◌, List, [], ◌∷◌, map, Option, refl, ◌∙◌, zero, suc, arith}
use Rattle.std.specs.List.{list_all}
use Rattle.std.proofs.lemmas.Bool.{and_from, lt-ltb}
use Rattle.std.proofs.lemmas.Bool.Decides.{nat_tests}
use Rattle.std.proofs.lemmas.List.Folds.{list_all-append}
use Rattle.line_buffer.specs.declared.layout.Position.{Position}
use Rattle.line_buffer.specs.Width.{tab_width}
use Rattle.line_screen.specs.Display.{Placed, cluster_placed_at, right, starts_before}
use Rattle.line_screen.specs.Drawing.{DrawnItem, after_one, lay_one, blanks, lay_run, DrawnItem.NewRow, DrawnItem.Letter, DrawnItem.Cluster, DrawnItem.Tab}
use Rattle.line_screen.specs.StyledTexts.{StyledItem, lay}
use Rattle.line_screen.proofs.Draws.{list_all_since, Fits, AllFit}

abbrev pub begins_at : Position → Placed → Bool
begins_at at p = not (starts_before at p)

abbrev pub has_cells : Placed → Bool
has_cells p = nat_lt 0 p.width

-- ---- places

-- a place, or one after it
abbrev is_on : Position → Position → Bool
is_on at to = nat_lt at.row to.row || ((at.row == to.row) && nat_le at.col to.col)

begins_on : (at to : Position) → is_on at to ≡ true → (p : Placed) → begins_at to p ≡ true → begins_at at p ≡ true
begins_on at to on p h = grind (arith, nat_tests)

right_on : (n : ℕ) (at : Position) → is_on at (right n at) ≡ true
right_on n at = grind (arith, nat_tests)

one_on : (columns : ℕ) (item : DrawnItem) (at : Position) → is_on at (after_one columns item at) ≡ true
one_on columns item at = grind (arith, nat_tests)

-- ---- where cells begin

begins_itself : (style bytes : List ℕ) (width : ℕ) (at : Position) → begins_at at (cluster_placed_at style bytes width at) ≡ true
begins_itself style bytes width at = grind (arith, nat_tests)

run_begins : (style : List ℕ) (n : ℕ) (at : Position) → list_all (begins_at at) (lay_run style (blanks n) at) ≡ true
run_begins style zero at = refl
run_begins style (suc n) at =
    and_from _ _ (begins_itself style (0x20 ∷ []) 1 at) (list_all_since (begins_at (right 1 at)) (begins_at at) (begins_on at (right 1 at) (right_on 1 at)) (lay_run style (blanks n) (right 1 at)) (run_begins style n (right 1 at)))

one_begins : (columns : ℕ) (style : List ℕ) (item : DrawnItem) (at : Position) → list_all (begins_at at) (lay_one columns style item at) ≡ true
one_begins columns style NewRow at = refl
one_begins columns style (Letter c) at = and_from _ true (begins_itself style (c ∷ []) 1 at) refl
one_begins columns style (Cluster bytes width) at = grind (arith, nat_tests)
one_begins columns style (Tab apart) at = run_begins style (tab_width columns apart at.col) at

pub lay_begins : (columns : ℕ) (xs : List StyledItem) (at : Position) → list_all (begins_at at) (lay columns xs at) ≡ true
lay_begins columns [] at = refl
lay_begins columns (x ∷ xs) at =
    let one = lay_one columns x.style x.item at in
    let next = after_one columns x.item at in
    list_all-append (begins_at at) one (lay columns xs next)
    ∙ and_from (list_all (begins_at at) one) (list_all (begins_at at) (lay columns xs next)) (one_begins columns x.style x.item at)
    (list_all_since (begins_at next) (begins_at at) (begins_on at next (one_on columns x.item at)) (lay columns xs next) (lay_begins columns xs next))

-- ---- how many there are

run_has : (style : List ℕ) (n : ℕ) (at : Position) → list_all has_cells (lay_run style (blanks n) at) ≡ true
run_has style zero at = refl
run_has style (suc n) at = run_has style n (right 1 at)

one_has : (columns : ℕ) (wide : List ℕ → Option ℕ) (style : List ℕ) (item : DrawnItem) (at : Position) → Fits columns wide item → list_all has_cells (lay_one columns style item at) ≡ true
one_has columns wide style NewRow at h = refl
one_has columns wide style (Letter c) at h = refl
one_has columns wide style (Cluster bytes width) at h = and_from _ true (lt-ltb 0 width h.some) refl
one_has columns wide style (Tab apart) at h = run_has style (tab_width columns apart at.col) at

pub lay_has : (columns : ℕ) (wide : List ℕ → Option ℕ) (xs : List StyledItem) (at : Position) → AllFit columns wide (map (λ x. x.item) xs) → list_all has_cells (lay columns xs at) ≡ true
lay_has columns wide [] at h = refl
lay_has columns wide (x ∷ xs) at h =
    let one = lay_one columns x.style x.item at in
    let next = after_one columns x.item at in
    list_all-append has_cells one (lay columns xs next)
    ∙ and_from (list_all has_cells one) (list_all has_cells (lay columns xs next)) (one_has columns wide x.style x.item at h.0) (lay_has columns wide xs next h.1)
