-- A letter put before others: row by row a cell is opened, and a letter written there.
use Rattle.std.proofs.Common.{◌≡◌, ℕ, zero, suc, ◌+◌, ◌-◌, ◌<◌, ◌≤◌, ◌==◌, true, false, ◌⊎◌, inl, inr, List, [], ◌∷◌, ◌++◌, map, length, length-append, Option, refl, sym, ap, ◌∙◌, subst, append_assoc, append-nil, arith, if◌then◌else◌}
use Rattle.std.specs.List.{list_all}
use Rattle.std.proofs.lemmas.Bool.{and_parts, and_from, cases_lt, eq-eqb, ne_eqb}
use Rattle.std.proofs.lemmas.List.Folds.{list_all-append}
use Rattle.line_buffer.specs.Printable.{is_printable}
use Rattle.line_buffer.specs.declared.layout.Position.{Position}
use Rattle.line_screen.specs.Display.{Placed, right, ends_before, is_pushed_out}
use Rattle.line_screen.specs.Drawing.{next_row, place_after, row_break, break_if, left_col, lay_run, pushed_on, put_and_pushed}
use Rattle.line_screen.specs.Drawing.DrawnItem.{Letter}
use Rattle.line_screen.specs.StyledTexts.{lay}
use Rattle.line_screen.proofs.Draws.{list_all_since, ends_next}
use Rattle.line_screen.proofs.Ends.{plain_letters, row_after}
use Rattle.line_screen.proofs.LetterRows.{letters_laid, fills, is_below, letters_below, run_all, split_at}
use Rattle.line_screen.proofs.RowShifts.{is_beyond, below_beyond, letter_beyond, letter_pushed_out, letter_ends_above}
use Rattle.line_screen.proofs.RowSteps.{Holds, Around, breaks, puts, opens}
use Rattle.line_screen.proofs.Parts.{open_cell}

-- ---- the bytes, by rows

-- what follows a letter in this column
abbrev on_from : ℕ → ℕ → List ℕ → List ℕ
on_from columns col rest = break_if (col + 1 == columns) ++ pushed_on false columns (left_col columns (col + 1)) rest

on_in_row : (columns col : ℕ) (rest : List ℕ) → col + 1 < columns → on_from columns col rest ≡ pushed_on false columns (col + 1) rest
on_in_row columns col rest room = rw (ne_eqb (col + 1) columns (λ e. omega arith))

-- in a column that isn't the first
on_next : (columns col c : ℕ) (cs : List ℕ) → pushed_on false columns (col + 1) (c ∷ cs) ≡ on_from columns (col + 1) cs
on_next columns col c cs = rw (ne_eqb (col + 1) 0 (λ e. omega arith))

on_none : (columns : ℕ) (rest : List ℕ) (col : ℕ) → col + 1 + length rest < columns → on_from columns col rest ≡ []
on_none columns [] col room = on_in_row columns col [] (omega arith)
on_none columns (c ∷ cs) col room = on_in_row columns col (c ∷ cs) (omega arith) ∙ on_next columns col c cs ∙ on_none columns cs (col + 1) (omega arith)

on_full : (columns : ℕ) (mid behind : List ℕ) (col : ℕ) → col + 1 + length mid ≡ columns → on_from columns col (mid ++ behind) ≡ row_break ++ pushed_on false columns 0 behind
on_full columns [] behind col full = rw (eq-eqb (col + 1) columns (omega arith))
on_full columns (c ∷ cs) behind col full =
    on_in_row columns col (c ∷ (cs ++ behind)) (omega arith) ∙ on_next columns col c (cs ++ behind) ∙ on_full columns cs behind (col + 1) (omega arith)

inserted : (columns col c : ℕ) (rest : List ℕ) → put_and_pushed false columns col (c ∷ []) rest ≡ (open_cell ++ c ∷ []) ++ on_from columns col rest
inserted columns col c rest = append_assoc (open_cell ++ c ∷ []) (break_if (col + 1 == columns)) (pushed_on false columns (left_col columns (col + 1)) rest)

-- ---- what they leave

-- letters that don't fill their row, with none lost and none below
alone : (columns : ℕ) (cs : List ℕ) (at : Position) → at.col + length cs < columns → lay columns (plain_letters cs) at ≡ lay_run [] (cs ++ []) at ++ []
alone columns cs at room = letters_laid columns cs at room ∙ sym (append-nil (lay_run [] cs at)) ∙ ap (λ xs. lay_run [] xs at ++ []) (sym (append-nil cs))

-- behind the first letter of the row where letters end, or at the row's start if it has none
abbrev pub behind_first : Position → Position
behind_first finish = record { col = if finish.col == 0 then 0 else 1; row = finish.row }

-- where the cursor is then, if so many letters end at `finish`
abbrev pub IsBehind : ℕ → ℕ → Position → Position → Position → Type 0
IsBehind columns count at finish last =
    ((finish ≡ right count at) × (at.col + count < columns) × (last ≡ right 1 at)) ⊎ ((at.row < finish.row) × (last ≡ behind_first finish))

pub record Pushed (columns : ℕ) (wide : List ℕ → Option ℕ) (over : List Placed) (top : ℕ) (bytes : List ℕ) (front : List Placed) (letters : List ℕ) (at : Position) : Type 0 where
  pub last : Position
  pub holds : Holds columns wide bytes over top (front ++ lay columns (plain_letters letters) at) last
  pub inside : last.col < columns
  pub is_behind : IsBehind columns (length letters) at (place_after columns (map Letter letters) at) last

module _ (columns : ℕ) (wide : List ℕ → Option ℕ) (over : List Placed) (top : ℕ) (some : 1 ≤ columns) where
  -- in one row, of which a letter may be lost
  written : (bytes : List ℕ) (c : ℕ) (front lows : List Placed) (mid gone : List ℕ) (at : Position) → is_printable c ≡ true → Around top at front lows → at.col + 1 + length mid ≤ columns
      → list_all (is_pushed_out columns at) (lay_run [] gone (right (length mid) at)) ≡ true
      → Holds columns wide bytes over top (front ++ (lay_run [] (mid ++ gone) at ++ lows)) at
      → Holds columns wide (bytes ++ (open_cell ++ c ∷ [])) over top (front ++ (lay_run [] (c ∷ mid) at ++ lows)) (right 1 at)
  written bytes c front lows mid gone at printable around room out h =
      let moved = lay_run [] mid (right 1 at) in
      let beyond : list_all (is_beyond at) (moved ++ lows) ≡ true =
      list_all-append (is_beyond at) moved lows
      ∙ and_from (list_all (is_beyond at) moved) (list_all (is_beyond at) lows)
      (run_all (is_beyond at) at.row (at.col + 1) (at.col + 1 + length mid) (λ x col here there. letter_beyond at x col here) mid (right 1 at) refl (omega arith) (omega arith))
      (list_all_since (is_below at) (is_beyond at) (below_beyond at) lows around.below) in
      subst (λ x. Holds columns wide x over top (front ++ (lay_run [] (c ∷ mid) at ++ lows)) (right 1 at)) (append_assoc bytes open_cell (c ∷ []))
      (puts columns wide over top (bytes ++ open_cell) c front (moved ++ lows) at printable (omega arith) around.low around.ends beyond (opens columns wide over top bytes front lows mid gone at around room out h))

  abbrev Pushes : List ℕ → ℕ → List ℕ → List Placed → Position → Type 0
  Pushes bytes c rest front at = Pushed columns wide over top (bytes ++ put_and_pushed false columns at.col (c ∷ []) rest) front (c ∷ rest) at

  -- what is shown before a letter is put before these letters, from this place on
  pub record Before (bytes : List ℕ) (rest : List ℕ) (front : List Placed) (at : Position) : Type 0 where
    pub inside : at.col < columns
    pub low : top ≤ at.row
    pub ends : list_all (ends_before at) front ≡ true
    pub holds : Holds columns wide bytes over top (front ++ lay columns (plain_letters rest) at) at

  -- all fit into the row
  pushes_in_row : (bytes : List ℕ) (c : ℕ) (rest : List ℕ) (front : List Placed) (at : Position) → is_printable c ≡ true → at.col + 1 + length rest < columns → Before bytes rest front at → Pushes bytes c rest front at
  pushes_in_row bytes c rest front at printable room b =
      let done = written bytes c front [] rest [] at printable (record { low = b.low; ends = b.ends; below = refl }) (omega arith) refl
      (subst (λ ps. Holds columns wide bytes over top (front ++ ps) at) (alone columns rest at (omega arith)) b.holds) in
      let bytes_are : put_and_pushed false columns at.col (c ∷ []) rest ≡ open_cell ++ c ∷ [] =
      inserted columns at.col c rest ∙ ap (λ x. (open_cell ++ c ∷ []) ++ x) (on_none columns rest at.col room) ∙ append-nil (open_cell ++ c ∷ []) in
      let new_cells : lay_run [] (c ∷ rest) at ++ [] ≡ lay columns (plain_letters (c ∷ rest)) at = append-nil (lay_run [] (c ∷ rest) at) ∙ sym (letters_laid columns (c ∷ rest) at (omega arith)) in
      record {
        last = right 1 at;
        holds = subst (λ x. Holds columns wide (bytes ++ x) over top (front ++ lay columns (plain_letters (c ∷ rest)) at) (right 1 at)) (sym bytes_are)
            (subst (λ ps. Holds columns wide (bytes ++ (open_cell ++ c ∷ [])) over top (front ++ ps) (right 1 at)) new_cells done);
        inside = omega arith;
        is_behind = inl (row_after columns (c ∷ rest) at (omega arith), omega arith, refl);
      }

  -- the row becomes full, and no letter is lost
  pushes_to_end : (bytes : List ℕ) (c : ℕ) (mid : List ℕ) (front : List Placed) (at : Position) → is_printable c ≡ true → at.col + 1 + length mid ≡ columns → Before bytes mid front at → Pushes bytes c mid front at
  pushes_to_end bytes c mid front at printable full b =
      let one = written bytes c front [] mid [] at printable (record { low = b.low; ends = b.ends; below = refl }) (omega arith) refl
      (subst (λ ps. Holds columns wide bytes over top (front ++ ps) at) (alone columns mid at (omega arith)) b.holds) in
      let done = breaks columns wide over top (bytes ++ (open_cell ++ c ∷ [])) (front ++ (lay_run [] (c ∷ mid) at ++ [])) (right 1 at) some one in
      let new = fills columns (c ∷ mid) [] at b.inside (omega arith) in
      let bytes_are : (bytes ++ (open_cell ++ c ∷ [])) ++ row_break ≡ bytes ++ put_and_pushed false columns at.col (c ∷ []) mid =
      append_assoc bytes (open_cell ++ c ∷ []) row_break
      ∙ ap (λ x. bytes ++ ((open_cell ++ c ∷ []) ++ x)) (sym (ap (on_from columns at.col) (sym (append-nil mid)) ∙ on_full columns mid [] at.col full))
      ∙ ap (λ x. bytes ++ x) (sym (inserted columns at.col c mid)) in
      let same = append-nil (c ∷ mid) in
      let ends : place_after columns (map Letter (c ∷ mid)) at ≡ next_row at = ap (λ xs. place_after columns (map Letter xs) at) (sym same) ∙ new.ends in
      let new_cells : lay_run [] (c ∷ mid) at ++ [] ≡ lay columns (plain_letters (c ∷ mid)) at = sym new.cells ∙ ap (λ xs. lay columns (plain_letters xs) at) same in
      record {
        last = next_row at;
        holds = subst (λ x. Holds columns wide x over top (front ++ lay columns (plain_letters (c ∷ mid)) at) (next_row at)) bytes_are
            (subst (λ ps. Holds columns wide ((bytes ++ (open_cell ++ c ∷ [])) ++ row_break) over top (front ++ ps) (next_row at)) new_cells done);
        inside = some;
        is_behind = subst (λ p. IsBehind columns (length (c ∷ mid)) at p (next_row at)) (sym ends) (inr (omega arith, refl));
      }

  -- where letters from the next row's start end
  behind_row : (at finish last : Position) (count : ℕ) → 1 ≤ count → (n : ℕ) → IsBehind columns count (next_row at) finish last → IsBehind columns n at finish last
  behind_row at finish last count one n (inl (ends, room, is)) =
      let col_is : false ≡ (finish.col == 0) = sym (ne_eqb finish.col 0 (λ e. let k = ap (λ p. p.col) ends in omega arith)) in
      let row_is : at.row + 1 ≡ finish.row = ap (λ p. p.row) (sym ends) in
      inr (omega (arith, row_is), is ∙ (λ i. let p : Position = record { col = if col_is i then 0 else 1; row = row_is i } in p))
  behind_row at finish last count one n (inr (below, is)) = inr (omega (arith, below), is)

  -- a letter is lost, and put before those of the next row
  pushes_on : (bytes : List ℕ) (c : ℕ) (mid : List ℕ) (z : ℕ) (more : List ℕ) (front : List Placed) (at : Position) → is_printable c ≡ true → at.col + 1 + length mid ≡ columns
      → ((bytes : List ℕ) (front : List Placed) (at : Position) → Before bytes more front at → Pushes bytes z more front at)
      → Before bytes (mid ++ z ∷ more) front at → Pushes bytes c (mid ++ z ∷ more) front at
  pushes_on bytes c mid z more front at printable full ih b =
      let one_more = length-append mid (z ∷ []) in
      let old = fills columns (mid ++ z ∷ []) more at b.inside (omega arith) in
      let lows = lay columns (plain_letters more) (next_row at) in
      let run = lay_run [] (c ∷ mid) at in
      let cells : lay columns (plain_letters (mid ++ z ∷ more)) at ≡ lay_run [] (mid ++ z ∷ []) at ++ lows =
      ap (λ xs. lay columns (plain_letters xs) at) (sym (append_assoc mid (z ∷ []) more)) ∙ old.cells in
      let out : list_all (is_pushed_out columns at) (lay_run [] (z ∷ []) (right (length mid) at)) ≡ true =
      and_from _ true (letter_pushed_out columns at z (at.col + length mid) (omega arith) (omega arith)) refl in
      let one = written bytes c front lows mid (z ∷ []) at printable (record { low = b.low; ends = b.ends; below = letters_below columns more at (next_row at) (omega arith) }) (omega arith) out
      (subst (λ ps. Holds columns wide bytes over top (front ++ ps) at) cells b.holds) in
      let here = bytes ++ (open_cell ++ c ∷ []) ++ row_break in
      let next = breaks columns wide over top (bytes ++ (open_cell ++ c ∷ [])) (front ++ (run ++ lows)) (right 1 at) some one in
      let ends : list_all (ends_before (next_row at)) (front ++ run) ≡ true =
      list_all-append (ends_before (next_row at)) front run
      ∙ and_from (list_all (ends_before (next_row at)) front) (list_all (ends_before (next_row at)) run) (list_all_since (ends_before at) (ends_before (next_row at)) (ends_next at) front b.ends)
      (run_all (ends_before (next_row at)) at.row at.col (at.col + length (c ∷ mid)) (λ x col from upto. letter_ends_above at x col) (c ∷ mid) at refl (omega arith) (omega arith)) in
      let rest = ih here (front ++ run) (next_row at)
      (record { inside = some; low = omega (arith, b.low); ends = ends; holds = subst (λ ps. Holds columns wide here over top ps (next_row at)) (sym (append_assoc front run lows)) next }) in
      let new = fills columns (c ∷ mid) (z ∷ more) at b.inside (omega arith) in
      let bytes_are : here ++ put_and_pushed false columns 0 (z ∷ []) more ≡ bytes ++ put_and_pushed false columns at.col (c ∷ []) (mid ++ z ∷ more) =
      append_assoc (bytes ++ (open_cell ++ c ∷ [])) row_break (pushed_on false columns 0 (z ∷ more))
      ∙ append_assoc bytes (open_cell ++ c ∷ []) (row_break ++ pushed_on false columns 0 (z ∷ more))
      ∙ ap (λ x. bytes ++ ((open_cell ++ c ∷ []) ++ x)) (sym (on_full columns mid (z ∷ more) at.col full))
      ∙ ap (λ x. bytes ++ x) (sym (inserted columns at.col c (mid ++ z ∷ more))) in
      let new_cells : (front ++ run) ++ lay columns (plain_letters (z ∷ more)) (next_row at) ≡ front ++ lay columns (plain_letters (c ∷ (mid ++ z ∷ more))) at =
      append_assoc front run (lay columns (plain_letters (z ∷ more)) (next_row at)) ∙ ap (λ ps. front ++ ps) (sym new.cells) in
      record {
        last = rest.last;
        holds = subst (λ x. Holds columns wide x over top (front ++ lay columns (plain_letters (c ∷ (mid ++ z ∷ more))) at) rest.last) bytes_are
            (subst (λ ps. Holds columns wide (here ++ put_and_pushed false columns 0 (z ∷ []) more) over top ps rest.last) new_cells rest.holds);
        inside = rest.inside;
        is_behind = subst (λ p. IsBehind columns (length (c ∷ (mid ++ z ∷ more))) at p rest.last) (sym new.ends)
            (behind_row at (place_after columns (map Letter (z ∷ more)) (next_row at)) rest.last (length (z ∷ more)) (omega arith) (length (c ∷ (mid ++ z ∷ more))) rest.is_behind);
      }

  -- for shorter texts it is known
  abbrev Shorter : List ℕ → Type 0
  Shorter rest =
      (z : ℕ) (more : List ℕ) → length (z ∷ more) ≤ length rest → list_all is_printable (z ∷ more) ≡ true → (bytes : List ℕ) (front : List Placed) (at : Position) → Before bytes more front at → Pushes bytes z more front at

  pushes_past : (bytes : List ℕ) (c : ℕ) (mid behind : List ℕ) (front : List Placed) (at : Position) → is_printable c ≡ true → at.col + 1 + length mid ≡ columns
      → list_all is_printable (mid ++ behind) ≡ true → Shorter (mid ++ behind) → Before bytes (mid ++ behind) front at → Pushes bytes c (mid ++ behind) front at
  pushes_past bytes c mid [] front at printable full letters ih b =
      let same = append-nil mid in
      subst (λ xs. Pushes bytes c xs front at) (sym same) (pushes_to_end bytes c mid front at printable full (subst (λ xs. Before bytes xs front at) same b))
  pushes_past bytes c mid (z ∷ more) front at printable full letters ih b =
      let count = length-append mid (z ∷ more) in
      let rest = (and_parts (list_all is_printable mid) (list_all is_printable (z ∷ more)) (sym (list_all-append is_printable mid (z ∷ more)) ∙ letters)).1 in
      pushes_on bytes c mid z more front at printable full (ih z more (omega arith) rest) b

  pushes_by : (c : ℕ) (rest : List ℕ) → list_all is_printable (c ∷ rest) ≡ true → Shorter rest → (bytes : List ℕ) (front : List Placed) (at : Position) → Before bytes rest front at → Pushes bytes c rest front at
  pushes_by c rest printable ih bytes front at b =
      let parts = and_parts (is_printable c) (list_all is_printable rest) printable in
      let inside = b.inside in
      elim (cases_lt (at.col + 1 + length rest) columns) [
        | inl fits ↦ pushes_in_row bytes c rest front at parts.0 fits b
        | inr past ↦
            let s = split_at (columns - (at.col + 1)) rest (omega arith) in
            let size = s.size in
            let full : at.col + 1 + length s.first ≡ columns = omega arith in
            subst (λ xs. list_all is_printable xs ≡ true → Shorter xs → Before bytes xs front at → Pushes bytes c xs front at) (sym s.is)
            (λ letters shorter before. pushes_past bytes c s.first s.rest front at parts.0 full letters shorter before) parts.1 ih b
      ]

  pub pushes : (n : ℕ) (c : ℕ) (rest : List ℕ) → length rest ≤ n → list_all is_printable (c ∷ rest) ≡ true → (bytes : List ℕ) (front : List Placed) (at : Position) → Before bytes rest front at → Pushes bytes c rest front at
  pushes zero c rest few printable = pushes_by c rest printable (λ z more less. absurd (omega arith))
  pushes (suc n) c rest few printable = pushes_by c rest printable (λ z more less. pushes n z more (omega arith))
