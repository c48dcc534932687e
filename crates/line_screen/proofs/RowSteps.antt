-- What bytes make of the cells that a display shows from a row on: in the cursor's row a cell is opened, cells are taken out, letters are written; and the cursor moves.
use Rattle.std.proofs.Common.{◌≡◌, ℕ, ◌+◌, ◌^◌, ◌<◌, ◌≤◌, nat_le, nat_lt, Bool, true, false, not, List, [], ◌∷◌, ◌++◌, map, length, Option, Some, refl, sym, ap, ap₂, ◌∙◌, subst, append_assoc, append-nil, arith, if◌then◌else◌}
use Rattle.std.specs.List.{list_all, filter}
use Rattle.std.proofs.lemmas.Bool.{and_parts, and_from, lt-ltb, le-leb}
use Rattle.std.proofs.lemmas.Bool.Decides.{nat_tests}
use Rattle.std.proofs.lemmas.List.{map-append}
use Rattle.std.proofs.lemmas.List.Elements.{filter-append}
use Rattle.std.proofs.lemmas.List.Folds.{list_all-append}
use Rattle.line_buffer.specs.Printable.{is_printable}
use Rattle.line_buffer.specs.declared.layout.Position.{Position}
use Rattle.line_screen.specs.Chain.{Stands, above, from_top}
use Rattle.line_screen.specs.Display.{Placed, cluster_placed_at, Display, reading_after_bytes, start, right, ends_before, put_cells, placed_in, touches, is_pushed_out, goes_right, can_go_right, cell_opened, goes_left, is_uncut, is_taken_out}
use Rattle.line_screen.specs.Display.DisplayReading.{Text, Lost}
use Rattle.line_screen.specs.Drawing.{next_row, row_break, lay_run, take_cells_out, col_move}
use Rattle.line_screen.proofs.Draws.{D, list_all_since, put_blank, ends_apart, ends_right, ends_itself}
use Rattle.line_screen.proofs.LetterRows.{run_both, run_all, is_below}
use Rattle.line_screen.proofs.ListLemmas.{filter_all, filter_none, list_all_filter, all_by_parts, filter_comm}
use Rattle.line_screen.proofs.Moves.{place, cells_out_read, col_move_stands}
use Rattle.line_screen.proofs.RowShifts.{map_same, filter_mapped, placed_between, filter_placed, filter_lost, is_elsewhere, ended_elsewhere, below_elsewhere, is_beyond, below_beyond, beyond_apart, beyond_not_ended, can_go_elsewhere, stays_elsewhere, right_unmoved, letter_can_go, letter_stays, run_goes_right, goes_right_row, left_unmoved, uncut_elsewhere, letter_uncut, kept_elsewhere, letter_taken_out, letter_kept, run_goes_left, goes_left_row}
use Rattle.line_screen.proofs.Standing.{stands_text, read-append, step_control, step_letter, read_break}
use Rattle.line_screen.proofs.Parts.{open_cell}

-- ---- tests

pub lost_ended : (top : ℕ) (at : Position) → top ≤ at.row → (p : Placed) → from_top top p ≡ false → ends_before at p ≡ true
lost_ended top at low p h = grind (arith, nat_tests)

pub above_ended : (top : ℕ) (at : Position) → top ≤ at.row → (p : Placed) → above top p ≡ true → ends_before at p ≡ true
above_ended top at low p h = grind (arith, nat_tests)

pub not_above : (top row : ℕ) → top ≤ row → nat_lt row top ≡ false
not_above top row low = grind (arith, nat_tests)

-- ---- what the bytes so far mean

-- a display with these cells from the row `top` on, and with `over` in the rows above; no style stands
pub record Holds (columns : ℕ) (wide : List ℕ → Option ℕ) (bytes : List ℕ) (over : List Placed) (top : ℕ) (cells : List Placed) (at : Position) : Type 0 where
  pub placed : List Placed
  pub stands : Stands columns (reading_after_bytes columns wide start bytes) (D placed at [])
  pub shown : filter (from_top top) placed ≡ cells
  pub over_is : filter (above top) placed ≡ over

-- cells before a place, and cells in the rows below it
pub record Around (top : ℕ) (at : Position) (front lows : List Placed) : Type 0 where
  pub low : top ≤ at.row
  pub ends : list_all (ends_before at) front ≡ true
  pub below : list_all (is_below at) lows ≡ true

-- cells that stay, and those that don't
module _ (f : Placed → Placed) (keeps : Placed → Bool) where
  both_moved : (xs ys : List Placed) → map f (filter keeps (xs ++ ys)) ≡ map f (filter keeps xs) ++ map f (filter keeps ys)
  both_moved xs ys = ap (map f) (filter-append keeps xs ys) ∙ map-append f (filter keeps xs) (filter keeps ys)

  unmoved : (at : Position) → ((p : Placed) → is_elsewhere at p ≡ true → keeps p ≡ true) → ((p : Placed) → is_elsewhere at p ≡ true → f p ≡ p)
      → (xs : List Placed) → list_all (is_elsewhere at) xs ≡ true → map f (filter keeps xs) ≡ xs
  unmoved at stays same xs h = ap (map f) (filter_all keeps xs (list_all_since (is_elsewhere at) keeps stays xs h)) ∙ map_same f (is_elsewhere at) same xs h

module _ (columns : ℕ) (wide : List ℕ → Option ℕ) (over : List Placed) (top : ℕ) where
  pub stands_on : (bytes new : List ℕ) (d : Display) → Stands columns (reading_after_bytes columns wide (reading_after_bytes columns wide start bytes) new) d → Stands columns (reading_after_bytes columns wide start (bytes ++ new)) d
  stands_on bytes new d s = subst (λ r. Stands columns r d) (sym (read-append columns wide start bytes new)) s

  text_on : (bytes new : List ℕ) (d : Display) → reading_after_bytes columns wide (reading_after_bytes columns wide start bytes) new ≡ Text d [] → Stands columns (reading_after_bytes columns wide start (bytes ++ new)) d
  text_on bytes new d is = stands_on bytes new d (subst (λ r. Stands columns r d) (sym is) (stands_text columns d))

  -- ---- moves

  pub breaks : (bytes : List ℕ) (cells : List Placed) (at : Position) → 1 ≤ columns → Holds columns wide bytes over top cells at → Holds columns wide (bytes ++ row_break) over top cells (next_row at)
  breaks bytes cells at some h =
      record {
        placed = h.placed;
        stands = text_on bytes row_break (D h.placed (next_row at) []) (read_break columns wide (reading_after_bytes columns wide start bytes) (D h.placed at []) h.stands some refl);
        shown = h.shown;
        over_is = h.over_is;
      }

  pub goes_along : (bytes : List ℕ) (cells : List Placed) (at : Position) (col : ℕ) → at.col < columns → col < columns → columns < 2 ^ 64 → Holds columns wide bytes over top cells at
      → Holds columns wide (bytes ++ col_move at.col col) over top cells (place col at.row)
  goes_along bytes cells at col here there few h =
      record {
        placed = h.placed;
        stands = stands_on bytes (col_move at.col col) (D h.placed (place col at.row) []) (col_move_stands columns wide (reading_after_bytes columns wide start bytes) (D h.placed at []) col h.stands here there few);
        shown = h.shown;
        over_is = h.over_is;
      }

  -- ---- letters written on blank cells

  pub puts : (bytes : List ℕ) (c : ℕ) (xs ys : List Placed) (at : Position) → is_printable c ≡ true → at.col + 1 ≤ columns → top ≤ at.row → list_all (ends_before at) xs ≡ true → list_all (is_beyond at) ys ≡ true
      → Holds columns wide bytes over top (xs ++ ys) at → Holds columns wide (bytes ++ c ∷ []) over top (xs ++ cluster_placed_at [] (c ∷ []) 1 at ∷ ys) (right 1 at)
  puts bytes c xs ys at printable room low ends beyond h =
      let new = cluster_placed_at [] (c ∷ []) 1 at in
      let apart = λ (p : Placed). not (touches at 1 p) in
      let e : Display = D (placed_in at new h.placed) (right 1 at) [] in
      let shown_apart : list_all apart (xs ++ ys) ≡ true =
      list_all-append apart xs ys ∙ and_from (list_all apart xs) (list_all apart ys) (list_all_since (ends_before at) apart (ends_apart at 1) xs ends) (list_all_since (is_beyond at) apart (beyond_apart at) ys beyond) in
      let all_apart : list_all apart h.placed ≡ true = all_by_parts (from_top top) apart h.placed (ap (list_all apart) h.shown ∙ shown_apart) (λ p k. ends_apart at 1 p (lost_ended top at low p k)) in
      let put_is : put_cells columns 1 (c ∷ []) (D h.placed at []) ≡ Some e = put_blank columns 1 (c ∷ []) (D h.placed at []) all_apart room in
      record {
        placed = placed_in at new h.placed;
        stands = stands_on bytes (c ∷ []) e (step_letter columns wide (reading_after_bytes columns wide start bytes) (D h.placed at []) e c h.stands printable put_is);
        shown = filter_placed (from_top top) at new (le-leb top at.row low) (lost_ended top at low) h.placed ∙ ap (placed_in at new) h.shown
            ∙ placed_between at new xs ys ends (list_all_since (is_beyond at) (λ p. not (ends_before at p)) (beyond_not_ended at) ys beyond);
        over_is = filter_lost (above top) at new (not_above top at.row low) h.placed ∙ h.over_is;
      }

  -- up to the row's end
  pub writes : (ws : List ℕ) (bytes : List ℕ) (xs lows : List Placed) (at : Position) → list_all is_printable ws ≡ true → at.col + length ws ≤ columns → Around top at xs lows
      → Holds columns wide bytes over top (xs ++ lows) at → Holds columns wide (bytes ++ ws) over top (xs ++ (lay_run [] ws at ++ lows)) (right (length ws) at)
  writes [] bytes xs lows at printable room around h =
      subst (λ p. Holds columns wide (bytes ++ []) over top (xs ++ lows) p) (ap (λ n. place n at.row) none) (subst (λ x. Holds columns wide x over top (xs ++ lows) at) (sym (append-nil bytes)) h)
    where
      none : at.col ≡ at.col + 0
      none = omega arith
  writes (w ∷ ws) bytes xs lows at printable room around h =
      let new = cluster_placed_at [] (w ∷ []) 1 at in
      let parts = and_parts (is_printable w) (list_all is_printable ws) printable in
      let first = puts bytes w xs lows at parts.0 (omega arith) around.low around.ends (list_all_since (is_below at) (is_beyond at) (below_beyond at) lows around.below) h in
      let ends : list_all (ends_before (right 1 at)) (xs ++ new ∷ []) ≡ true =
      list_all-append (ends_before (right 1 at)) xs (new ∷ [])
      ∙ and_from (list_all (ends_before (right 1 at)) xs) (list_all (ends_before (right 1 at)) (new ∷ [])) (list_all_since (ends_before at) (ends_before (right 1 at)) (ends_right at 1) xs around.ends)
      (and_from (ends_before (right 1 at) new) true (ends_itself at [] 1 (w ∷ [])) refl) in
      let cells : xs ++ new ∷ lows ≡ (xs ++ new ∷ []) ++ lows = sym (append_assoc xs (new ∷ []) lows) in
      let rest : Holds columns wide ((bytes ++ w ∷ []) ++ ws) over top ((xs ++ new ∷ []) ++ (lay_run [] ws (right 1 at) ++ lows)) (right (length ws) (right 1 at)) =
      writes ws (bytes ++ w ∷ []) (xs ++ new ∷ []) lows (right 1 at) parts.1 (omega arith) (record { low = around.low; ends = ends; below = around.below })
      (subst (λ ps. Holds columns wide (bytes ++ w ∷ []) over top ps (right 1 at)) cells first) in
      let same : at.col + 1 + length ws ≡ at.col + length (w ∷ ws) = omega arith in
      subst (λ n. Holds columns wide (bytes ++ w ∷ ws) over top (xs ++ (lay_run [] (w ∷ ws) at ++ lows)) (place n at.row)) same
      (subst (λ ps. Holds columns wide (bytes ++ w ∷ ws) over top ps (right (length ws) (right 1 at))) (append_assoc xs (new ∷ []) (lay_run [] ws (right 1 at) ++ lows))
      (subst (λ x. Holds columns wide x over top ((xs ++ new ∷ []) ++ (lay_run [] ws (right 1 at) ++ lows)) (right (length ws) (right 1 at))) (append_assoc bytes (w ∷ []) ws) rest))

  -- ---- the rest of the cursor's row

  module _ (bytes : List ℕ) (front run lows : List Placed) (at : Position) (around : Around top at front lows) (h : Holds columns wide bytes over top (front ++ (run ++ lows)) at) where
    front_elsewhere : list_all (is_elsewhere at) front ≡ true
    front_elsewhere = list_all_since (ends_before at) (is_elsewhere at) (ended_elsewhere at) front around.ends

    lows_elsewhere : list_all (is_elsewhere at) lows ≡ true
    lows_elsewhere = list_all_since (is_below at) (is_elsewhere at) (below_elsewhere at) lows around.below

    -- what holds elsewhere, and in the rest of the row, holds of all
    everywhere : (q : Placed → Bool) → ((p : Placed) → is_elsewhere at p ≡ true → q p ≡ true) → list_all q run ≡ true → list_all q h.placed ≡ true
    everywhere q f k =
        all_by_parts (from_top top) q h.placed
        (ap (list_all q) h.shown ∙ list_all-append q front (run ++ lows)
        ∙ and_from (list_all q front) (list_all q (run ++ lows)) (list_all_since (is_elsewhere at) q f front front_elsewhere)
        (list_all-append q run lows ∙ and_from (list_all q run) (list_all q lows) k (list_all_since (is_elsewhere at) q f lows lows_elsewhere)))
        (λ p e. f p (ended_elsewhere at p (lost_ended top at around.low p e)))

    -- bytes that move it, and nothing elsewhere
    shifts : (new : List ℕ) (f : Placed → Placed) (keeps : Placed → Bool) (moved : List Placed) → ((p : Placed) → (f p).row ≡ p.row)
        → ((p : Placed) → is_elsewhere at p ≡ true → keeps p ≡ true) → ((p : Placed) → is_elsewhere at p ≡ true → f p ≡ p) → map f (filter keeps run) ≡ moved
        → reading_after_bytes columns wide (reading_after_bytes columns wide start bytes) new ≡ Text (D (map f (filter keeps h.placed)) at []) []
        → Holds columns wide (bytes ++ new) over top (front ++ (moved ++ lows)) at
    shifts new f keeps moved rows stays same moves is_read =
        let over_elsewhere : list_all (is_elsewhere at) (filter (above top) h.placed) ≡ true =
        list_all_filter (above top) (is_elsewhere at) (λ p e. ended_elsewhere at p (above_ended top at around.low p e)) h.placed in
        record {
          placed = map f (filter keeps h.placed);
          stands = text_on bytes new (D (map f (filter keeps h.placed)) at []) is_read;
          shown = filter_mapped (from_top top) f (λ p. ap (nat_le top) (rows p)) (filter keeps h.placed)
              ∙ ap (map f) (filter_comm (from_top top) keeps h.placed ∙ ap (filter keeps) h.shown)
              ∙ both_moved f keeps front (run ++ lows)
              ∙ ap₂ ◌++◌ (unmoved f keeps at stays same front front_elsewhere) (both_moved f keeps run lows ∙ ap₂ ◌++◌ moves (unmoved f keeps at stays same lows lows_elsewhere));
          over_is = filter_mapped (above top) f (λ p. ap (λ n. nat_lt n top) (rows p)) (filter keeps h.placed)
              ∙ ap (map f) (filter_comm (above top) keeps h.placed) ∙ unmoved f keeps at stays same (filter (above top) h.placed) over_elsewhere ∙ h.over_is;
        }

  -- a cell is opened; letters in the row's last cell are lost
  pub opens : (bytes : List ℕ) (front lows : List Placed) (mid gone : List ℕ) (at : Position) → Around top at front lows → at.col + 1 + length mid ≤ columns
      → list_all (is_pushed_out columns at) (lay_run [] gone (right (length mid) at)) ≡ true
      → Holds columns wide bytes over top (front ++ (lay_run [] (mid ++ gone) at ++ lows)) at
      → Holds columns wide (bytes ++ open_cell) over top (front ++ (lay_run [] mid (right 1 at) ++ lows)) at
  opens bytes front lows mid gone at around room out h =
      let run = lay_run [] (mid ++ gone) at in
      let first = lay_run [] mid at in
      let last = lay_run [] gone (right (length mid) at) in
      let keeps = λ (p : Placed). not (is_pushed_out columns at p) in
      let opened : Display = D (map (goes_right at) (filter keeps h.placed)) at [] in
      let can_open : list_all (can_go_right columns at) h.placed ≡ true =
      everywhere bytes front run lows at around h (can_go_right columns at) (can_go_elsewhere columns at)
      (run_all (can_go_right columns at) at.row at.col (at.col + length (mid ++ gone)) (λ x col here there. letter_can_go columns at x col) (mid ++ gone) at refl (omega arith) (omega arith)) in
      let is_read : reading_after_bytes columns wide (reading_after_bytes columns wide start bytes) open_cell ≡ Text opened [] =
      ap (λ x. reading_after_bytes columns wide x (0x5B ∷ 0x40 ∷ [])) (step_control columns wide (reading_after_bytes columns wide start bytes) (D h.placed at []) h.stands 0x1B refl)
      ∙ ap (λ b. if not b then Lost else cell_opened columns (D h.placed at [])) (lt-ltb at.col columns (omega arith))
      ∙ ap (λ b. if b then Text opened [] else Lost) (and_from (list_all (can_go_right columns at) h.placed) true can_open refl) in
      let first_stays : filter keeps first ≡ first =
      filter_all keeps first (run_all keeps at.row at.col (at.col + length mid) (λ x col here there. letter_stays columns at x col (omega arith)) mid at refl (omega arith) (omega arith)) in
      let last_lost : filter keeps last ≡ [] = filter_none keeps last (list_all_since (is_pushed_out columns at) (λ p. not (keeps p)) (λ p e. ap (λ b. not (not b)) e) last out) in
      let moves : map (goes_right at) (filter keeps run) ≡ lay_run [] mid (right 1 at) =
      ap (λ ps. map (goes_right at) (filter keeps ps)) (run_both mid gone at) ∙ both_moved (goes_right at) keeps first last
      ∙ ap₂ ◌++◌ (ap (map (goes_right at)) first_stays ∙ run_goes_right at mid at refl (omega arith)) (ap (map (goes_right at)) last_lost)
      ∙ append-nil (lay_run [] mid (right 1 at)) in
      shifts bytes front run lows at around h open_cell (goes_right at) keeps (lay_run [] mid (right 1 at)) (goes_right_row at) (stays_elsewhere columns at) (right_unmoved at) moves is_read

  -- letters' cells are taken out
  pub takes_out : (bytes : List ℕ) (front lows : List Placed) (killed mid : List ℕ) (at : Position) → Around top at front lows → 1 ≤ length killed → at.col + length killed ≤ columns → columns < 2 ^ 64
      → Holds columns wide bytes over top (front ++ (lay_run [] (killed ++ mid) at ++ lows)) at
      → Holds columns wide (bytes ++ take_cells_out (length killed)) over top (front ++ (lay_run [] mid at ++ lows)) at
  takes_out bytes front lows killed mid at around some room few h =
      let count = length killed in
      let run = lay_run [] (killed ++ mid) at in
      let first = lay_run [] killed at in
      let rest = lay_run [] mid (right count at) in
      let keeps = λ (p : Placed). not (is_taken_out count at p) in
      let taken : Display = D (map (goes_left count at) (filter keeps h.placed)) at [] in
      let can_cut : list_all (is_uncut count at) h.placed ≡ true =
      everywhere bytes front run lows at around h (is_uncut count at) (uncut_elsewhere count at)
      (run_all (is_uncut count at) at.row at.col (at.col + length (killed ++ mid)) (λ x col here there. letter_uncut count at x col) (killed ++ mid) at refl (omega arith) (omega arith)) in
      let is_read : reading_after_bytes columns wide (reading_after_bytes columns wide start bytes) (take_cells_out count) ≡ Text taken [] =
      cells_out_read columns wide (reading_after_bytes columns wide start bytes) (D h.placed at []) count h.stands (omega arith) (omega arith) some
      ∙ ap (λ b. if b then Text taken [] else Lost)
      (and_from (nat_le (at.col + count) columns) _ (le-leb (at.col + count) columns room) (and_from (list_all (is_uncut count at) h.placed) true can_cut refl)) in
      let first_gone : filter keeps first ≡ [] =
      filter_none keeps first (run_all (λ p. not (keeps p)) at.row at.col (at.col + count) (λ x col here there. letter_taken_out count at x col here there) killed at refl (omega arith) (omega arith)) in
      let rest_kept : filter keeps rest ≡ rest =
      filter_all keeps rest (run_all keeps at.row (at.col + count) (at.col + count + length mid) (λ x col here there. letter_kept count at x col here) mid (right count at) refl (omega arith) (omega arith)) in
      let moves : map (goes_left count at) (filter keeps run) ≡ lay_run [] mid at =
      ap (λ ps. map (goes_left count at) (filter keeps ps)) (run_both killed mid at) ∙ both_moved (goes_left count at) keeps first rest
      ∙ ap₂ ◌++◌ (ap (map (goes_left count at)) first_gone) (ap (map (goes_left count at)) rest_kept ∙ run_goes_left count at mid (right count at) at refl (omega arith) refl) in
      shifts bytes front run lows at around h (take_cells_out count) (goes_left count at) keeps (lay_run [] mid at) (goes_left_row count at) (kept_elsewhere count at) (left_unmoved count at) moves is_read
