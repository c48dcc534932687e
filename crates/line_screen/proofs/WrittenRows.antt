-- Letters written over as many others in their row.
use Rattle.std.proofs.Common.{◌≡◌, ℕ, suc, ◌+◌, ◌<◌, ◌≤◌, ◌==◌, nat_le, Bool, true, false, cond, not, ◌&&◌, ◌||◌, List, [], ◌∷◌, ◌++◌, map, length, Option, Some, None, refl, sym, ap, ap₂, ◌∙◌, subst, append_assoc, append-nil, arith, if◌then◌else◌}
use Rattle.std.specs.List.{list_all, filter}
use Rattle.std.proofs.lemmas.Bool.{and_parts, and_from, le-leb}
use Rattle.std.proofs.lemmas.Bool.Decides.{nat_tests}
use Rattle.std.proofs.lemmas.List.{map-append}
use Rattle.std.proofs.lemmas.List.Elements.{filter-append}
use Rattle.std.proofs.lemmas.List.Folds.{list_all-append}
use Rattle.line_buffer.specs.Printable.{is_printable}
use Rattle.line_buffer.specs.declared.layout.Position.{Position}
use Rattle.line_screen.specs.Chain.{above, from_top}
use Rattle.line_screen.specs.Display.{Placed, cluster_placed_at, Display, reading_after_bytes, start, right, ends_before, is_uncut, put_cells, placed_in, touches}
use Rattle.line_screen.specs.Drawing.{DrawnItem, next_row, leave, place_after, lay_run, DrawnItem.NewRow, DrawnItem.Letter}
use Rattle.line_screen.specs.StyledTexts.{StyledItem, lay}
use Rattle.line_screen.proofs.Draws.{D, list_all_since, apart_uncut, ends_apart, ends_right, ends_itself}
use Rattle.line_screen.proofs.Ends.{plain_letters, row_after}
use Rattle.line_screen.proofs.Items.{plain_item, letters_plain}
use Rattle.line_screen.proofs.LetterRows.{is_below, letters_laid, run_all}
use Rattle.line_screen.proofs.ListLemmas.{filter_all, list_all_filter, all_by_parts, filter_comm}
use Rattle.line_screen.proofs.Moves.{place}
use Rattle.line_screen.proofs.RowShifts.{placed_between, filter_placed, filter_lost, is_beyond, beyond_apart, beyond_not_ended, letter_beyond, letter_uncut}
use Rattle.line_screen.proofs.RowSteps.{Holds, stands_on, lost_ended, above_ended, not_above}
use Rattle.line_screen.proofs.Shift.{lay-append}
use Rattle.line_screen.proofs.Standing.{step_letter}

-- ---- tests

letter_touched : (at : Position) (c : ℕ) → not (touches at 1 (cluster_placed_at [] (c ∷ []) 1 at)) ≡ false
letter_touched at c = grind (arith, nat_tests)

-- so many cells on in a place's row, or below
abbrev pub is_past : ℕ → Position → Placed → Bool
is_past n at p = is_below at p || ((p.row == at.row) && nat_le (at.col + n) p.col)

past_beyond : (n : ℕ) (at : Position) (p : Placed) → is_past (suc n) at p ≡ true → is_beyond at p ≡ true
past_beyond n at p h = grind (arith, nat_tests)

past_next : (n : ℕ) (at : Position) (p : Placed) → is_past (suc n) at p ≡ true → is_past n (right 1 at) p ≡ true
past_next n at p h = grind (arith, nat_tests)

past_right : (n : ℕ) (at : Position) (p : Placed) → is_past 0 (right n at) p ≡ true → is_past n at p ≡ true
past_right n at p h = grind (arith, nat_tests)

past_row : (at : Position) (p : Placed) → is_past 0 (next_row at) p ≡ true → is_past 0 at p ≡ true
past_row at p h = grind (arith, nat_tests)

past_itself : (at : Position) (c : ℕ) → is_past 0 at (cluster_placed_at [] (c ∷ []) 1 at) ≡ true
past_itself at c = grind (arith, nat_tests)

past_one : (at : Position) (p : Placed) → is_past 0 (right 1 at) p ≡ true → is_past 0 at p ≡ true
past_one at p h = grind (arith, nat_tests)

past_leave : (at : Position) (p : Placed) (b : Bool) → is_past 0 (if b then next_row (right 1 at) else right 1 at) p ≡ true → is_past 0 at p ≡ true
past_leave at p true h = past_one at p (past_row (right 1 at) p h)
past_leave at p false h = past_one at p h

-- ---- letters and newlines from a place on

abbrev pub unstyled : List DrawnItem → List StyledItem
unstyled items = map (λ item. let x : StyledItem = record { item = item; style = [] } in x) items

unstyled_items : (items : List DrawnItem) → map (λ (x : StyledItem). x.item) (unstyled items) ≡ items
unstyled_items [] = refl
unstyled_items (item ∷ items) = ap (λ is. item ∷ is) (unstyled_items items)

past_if : (columns c : ℕ) (text : List ℕ) (at : Position) → ((from : Position) → list_all (is_past 0 from) (lay columns (unstyled (map plain_item text)) from) ≡ true)
    → (b : Bool) → list_all (is_past 0 at) (lay columns (unstyled ((if b then NewRow else Letter c) ∷ map plain_item text)) at) ≡ true
past_if columns c text at ih true = list_all_since (is_past 0 (next_row at)) (is_past 0 at) (past_row at) (lay columns (unstyled (map plain_item text)) (next_row at)) (ih (next_row at))
past_if columns c text at ih false =
    let next = leave columns (right 1 at) in
    and_from (is_past 0 at (cluster_placed_at [] (c ∷ []) 1 at)) (list_all (is_past 0 at) (lay columns (unstyled (map plain_item text)) next)) (past_itself at c)
    (list_all_since (is_past 0 next) (is_past 0 at) (λ p k. past_leave at p (at.col + 1 == columns) k) (lay columns (unstyled (map plain_item text)) next) (ih next))

plain_past : (columns : ℕ) (text : List ℕ) (at : Position) → list_all (is_past 0 at) (lay columns (unstyled (map plain_item text)) at) ≡ true
plain_past columns [] at = refl
plain_past columns (c ∷ text) at = past_if columns c text at (plain_past columns text) (c == 0x0A)

-- letters that don't fill their row, and others behind them
pub laid_before : (columns : ℕ) (letters rest : List ℕ) (at : Position) → list_all is_printable letters ≡ true → at.col + length letters < columns
    → lay columns (unstyled (map plain_item (letters ++ rest))) at ≡ lay_run [] letters at ++ lay columns (unstyled (map plain_item rest)) (right (length letters) at)
laid_before columns letters rest at printable room =
    let behind = unstyled (map plain_item rest) in
    ap (λ is. lay columns (unstyled is) at) (map-append plain_item letters rest ∙ ap (λ is. is ++ map plain_item rest) (letters_plain letters printable))
    ∙ ap (λ xs. lay columns xs at) (map-append (λ item. let x : StyledItem = record { item = item; style = [] } in x) (map Letter letters) (map plain_item rest))
    ∙ lay-append columns (plain_letters letters) behind at
    ∙ ap₂ ◌++◌ (letters_laid columns letters at room) (ap (lay columns behind) (ap (λ is. place_after columns is at) (unstyled_items (map Letter letters)) ∙ row_after columns letters at room))

pub rest_past : (columns n : ℕ) (rest : List ℕ) (at : Position) → list_all (is_past n at) (lay columns (unstyled (map plain_item rest)) (right n at)) ≡ true
rest_past columns n rest at = list_all_since (is_past 0 (right n at)) (is_past n at) (past_right n at) (lay columns (unstyled (map plain_item rest)) (right n at)) (plain_past columns rest (right n at))

-- ---- what the bytes leave

module _ (columns : ℕ) (wide : List ℕ → Option ℕ) (over : List Placed) (top : ℕ) where
  -- in the cell of another letter
  puts_over : (bytes : List ℕ) (c old : ℕ) (xs ys : List Placed) (at : Position) → is_printable c ≡ true → at.col + 1 ≤ columns → top ≤ at.row → list_all (ends_before at) xs ≡ true → list_all (is_beyond at) ys ≡ true
      → Holds columns wide bytes over top (xs ++ cluster_placed_at [] (old ∷ []) 1 at ∷ ys) at → Holds columns wide (bytes ++ c ∷ []) over top (xs ++ cluster_placed_at [] (c ∷ []) 1 at ∷ ys) (right 1 at)
  puts_over bytes c old xs ys at printable room low ends beyond h =
      let new = cluster_placed_at [] (c ∷ []) 1 at in
      let gone = cluster_placed_at [] (old ∷ []) 1 at in
      let apart = λ (p : Placed). not (touches at 1 p) in
      let uncut = is_uncut 1 at in
      let e : Display = D (placed_in at new (filter apart h.placed)) (right 1 at) [] in
      let xs_apart : list_all apart xs ≡ true = list_all_since (ends_before at) apart (ends_apart at 1) xs ends in
      let ys_apart : list_all apart ys ≡ true = list_all_since (is_beyond at) apart (beyond_apart at) ys beyond in
      let shown_uncut : list_all uncut (xs ++ gone ∷ ys) ≡ true =
      list_all-append uncut xs (gone ∷ ys)
      ∙ and_from (list_all uncut xs) (list_all uncut (gone ∷ ys)) (list_all_since apart uncut (apart_uncut at 1) xs xs_apart)
      (and_from (uncut gone) (list_all uncut ys) (letter_uncut 1 at old at.col) (list_all_since apart uncut (apart_uncut at 1) ys ys_apart)) in
      let all_uncut : list_all uncut h.placed ≡ true =
      all_by_parts (from_top top) uncut h.placed (ap (list_all uncut) h.shown ∙ shown_uncut) (λ p k. apart_uncut at 1 p (ends_apart at 1 p (lost_ended top at low p k))) in
      let put_is : put_cells columns 1 (c ∷ []) (D h.placed at []) ≡ Some e =
      ap (λ b. if b then Some e else None) (and_from (nat_le (at.col + 1) columns) (list_all uncut h.placed) (le-leb (at.col + 1) columns room) all_uncut) in
      let left : filter apart (xs ++ gone ∷ ys) ≡ xs ++ ys =
      filter-append apart xs (gone ∷ ys)
      ∙ ap₂ ◌++◌ (filter_all apart xs xs_apart) (ap (λ b. cond b (gone ∷ filter apart ys) (filter apart ys)) (letter_touched at old) ∙ filter_all apart ys ys_apart) in
      record {
        placed = placed_in at new (filter apart h.placed);
        stands = stands_on columns wide over top bytes (c ∷ []) e (step_letter columns wide (reading_after_bytes columns wide start bytes) (D h.placed at []) e c h.stands printable put_is);
        shown = filter_placed (from_top top) at new (le-leb top at.row low) (lost_ended top at low) (filter apart h.placed)
            ∙ ap (placed_in at new) (filter_comm (from_top top) apart h.placed ∙ ap (filter apart) h.shown ∙ left)
            ∙ placed_between at new xs ys ends (list_all_since (is_beyond at) (λ p. not (ends_before at p)) (beyond_not_ended at) ys beyond);
        over_is = filter_lost (above top) at new (not_above top at.row low) (filter apart h.placed)
            ∙ filter_comm (above top) apart h.placed
            ∙ filter_all apart (filter (above top) h.placed) (list_all_filter (above top) apart (λ p k. ends_apart at 1 p (above_ended top at low p k)) h.placed) ∙ h.over_is;
      }

  -- and so on in the row
  pub writes_over : (ws olds : List ℕ) (bytes : List ℕ) (xs ys : List Placed) (at : Position) → list_all is_printable ws ≡ true → length ws ≡ length olds → at.col + length ws ≤ columns → top ≤ at.row
      → list_all (ends_before at) xs ≡ true → list_all (is_past (length ws) at) ys ≡ true → Holds columns wide bytes over top (xs ++ (lay_run [] olds at ++ ys)) at
      → Holds columns wide (bytes ++ ws) over top (xs ++ (lay_run [] ws at ++ ys)) (right (length ws) at)
  writes_over [] [] bytes xs ys at printable same room low ends past h =
      subst (λ p. Holds columns wide (bytes ++ []) over top (xs ++ ys) p) (ap (λ n. place n at.row) none) (subst (λ x. Holds columns wide x over top (xs ++ ys) at) (sym (append-nil bytes)) h)
    where
      none : at.col ≡ at.col + 0
      none = omega arith
  writes_over [] (old ∷ olds) bytes xs ys at printable same room low ends past h = absurd (omega arith)
  writes_over (w ∷ ws) [] bytes xs ys at printable same room low ends past h = absurd (omega arith)
  writes_over (w ∷ ws) (old ∷ olds) bytes xs ys at printable same room low ends past h =
      let new = cluster_placed_at [] (w ∷ []) 1 at in
      let parts = and_parts (is_printable w) (list_all is_printable ws) printable in
      let behind = lay_run [] olds (right 1 at) in
      let beyond : list_all (is_beyond at) (behind ++ ys) ≡ true =
      list_all-append (is_beyond at) behind ys
      ∙ and_from (list_all (is_beyond at) behind) (list_all (is_beyond at) ys)
      (run_all (is_beyond at) at.row (at.col + 1) (at.col + 1 + length olds) (λ x col here there. letter_beyond at x col here) olds (right 1 at) refl (omega arith) (omega arith))
      (list_all_since (is_past (suc (length ws)) at) (is_beyond at) (past_beyond (length ws) at) ys past) in
      let first = puts_over bytes w old xs (behind ++ ys) at parts.0 (omega arith) low ends beyond h in
      let ends_on : list_all (ends_before (right 1 at)) (xs ++ new ∷ []) ≡ true =
      list_all-append (ends_before (right 1 at)) xs (new ∷ [])
      ∙ and_from (list_all (ends_before (right 1 at)) xs) (list_all (ends_before (right 1 at)) (new ∷ [])) (list_all_since (ends_before at) (ends_before (right 1 at)) (ends_right at 1) xs ends)
      (and_from (ends_before (right 1 at) new) true (ends_itself at [] 1 (w ∷ [])) refl) in
      let cells : xs ++ new ∷ (behind ++ ys) ≡ (xs ++ new ∷ []) ++ (behind ++ ys) = sym (append_assoc xs (new ∷ []) (behind ++ ys)) in
      let rest : Holds columns wide ((bytes ++ w ∷ []) ++ ws) over top ((xs ++ new ∷ []) ++ (lay_run [] ws (right 1 at) ++ ys)) (right (length ws) (right 1 at)) =
      writes_over ws olds (bytes ++ w ∷ []) (xs ++ new ∷ []) ys (right 1 at) parts.1 (omega arith) (omega arith) low ends_on
      (list_all_since (is_past (suc (length ws)) at) (is_past (length ws) (right 1 at)) (past_next (length ws) at) ys past)
      (subst (λ ps. Holds columns wide (bytes ++ w ∷ []) over top ps (right 1 at)) cells first) in
      let count : at.col + 1 + length ws ≡ at.col + length (w ∷ ws) = omega arith in
      subst (λ n. Holds columns wide (bytes ++ w ∷ ws) over top (xs ++ (lay_run [] (w ∷ ws) at ++ ys)) (place n at.row)) count
      (subst (λ ps. Holds columns wide (bytes ++ w ∷ ws) over top ps (right (length ws) (right 1 at))) (append_assoc xs (new ∷ []) (lay_run [] ws (right 1 at) ++ ys))
      (subst (λ x. Holds columns wide x over top ((xs ++ new ∷ []) ++ (lay_run [] ws (right 1 at) ++ ys)) (right (length ws) (right 1 at))) (append_assoc bytes (w ∷ []) ws) rest))
