-- Letters taken out before others: row by row their cells are taken out, and the row's end is filled from the next row.
use Rattle.std.proofs.Common.{◌≡◌, ℕ, zero, suc, ◌+◌, ◌-◌, ◌^◌, ◌<◌, ◌≤◌, true, ◌⊎◌, inl, inr, List, [], ◌∷◌, ◌++◌, map, length, length-append, Option, refl, sym, ap, ◌∙◌, subst, append_assoc, append-nil, arith}
use Rattle.std.specs.List.{list_all}
use Rattle.std.proofs.lemmas.Bool.{and_parts, and_from, cases_lt, eq-eqb, ne_eqb, le-leb, lt-leb}
use Rattle.std.proofs.lemmas.List.Folds.{list_all-append}
use Rattle.line_buffer.specs.Printable.{is_printable}
use Rattle.line_buffer.specs.declared.layout.Position.{Position}
use Rattle.line_screen.specs.Display.{Placed, right, ends_before}
use Rattle.line_screen.specs.Drawing.{next_row, place_after, row_break, lay_run, take_cells_out, col_move, pulled_back}
use Rattle.line_screen.specs.Drawing.DrawnItem.{Letter}
use Rattle.line_screen.specs.StyledTexts.{lay}
use Rattle.line_screen.proofs.Draws.{list_all_since, ends_next, ends_right}
use Rattle.line_screen.proofs.Ends.{plain_letters, row_after, col_bound}
use Rattle.line_screen.proofs.LetterRows.{letters_laid, fills, letters_below, run_all, run_both, split_at}
use Rattle.line_screen.proofs.Moves.{place}
use Rattle.line_screen.proofs.RowShifts.{letter_ends_above, letter_ends_on}
use Rattle.line_screen.proofs.RowSteps.{Holds, breaks, goes_along, writes, takes_out}
use Rattle.line_screen.proofs.Parts.{deletion_bytes}

-- ---- the bytes, by rows

-- letters that stay in the row
back_stays : (columns count start col c : ℕ) (cs : List ℕ) → 1 ≤ count → col + count < columns → pulled_back columns count start col (c ∷ cs) ≡ pulled_back columns count start (col + 1) cs
back_stays columns count start col c cs some room =
    rw (ne_eqb (col + count) columns (λ e. omega arith), lt-leb columns (col + count) room, ne_eqb (col + 1) columns (λ e. omega arith))

back_none : (columns count start : ℕ) (rest : List ℕ) (col : ℕ) → 1 ≤ count → col + count + length rest ≤ columns → pulled_back columns count start col rest ≡ take_cells_out count
back_none columns count start [] col some room = refl
back_none columns count start (c ∷ cs) col some room = back_stays columns count start col c cs some (omega arith) ∙ back_none columns count start cs (col + 1) some (omega arith)

back_from : (columns count start : ℕ) (mid behind : List ℕ) (col gap : ℕ) → 1 ≤ count → col + length mid ≡ gap → gap + count ≡ columns → pulled_back columns count start col (mid ++ behind) ≡ pulled_back columns count start gap behind
back_from columns count start [] behind col gap some there full = ap (λ n. pulled_back columns count start n behind) (omega arith)
back_from columns count start (c ∷ cs) behind col gap some there full =
    back_stays columns count start col c (cs ++ behind) some (omega arith) ∙ back_from columns count start cs behind (col + 1) gap some (omega arith) full

-- letters from the next row, which fill this one
back_new : (columns count start : ℕ) (x : ℕ) (xs more : List ℕ) (col : ℕ) → columns < col + count → col + length (x ∷ xs) ≡ columns
    → pulled_back columns count start col (x ∷ (xs ++ more)) ≡ (x ∷ xs) ++ (row_break ++ deletion_bytes columns count 0 more)
back_new columns count start x [] more col past full =
    rw (ne_eqb (col + count) columns (λ e. omega arith), le-leb columns (col + count) (omega arith), eq-eqb (col + 1) columns (omega arith))
back_new columns count start x (y ∷ ys) more col past full =
    rw (ne_eqb (col + count) columns (λ e. omega arith), le-leb columns (col + count) (omega arith), ne_eqb (col + 1) columns (λ e. omega arith))
    (ap (λ bytes. x ∷ bytes) (back_new columns count start y ys more (col + 1) (omega arith) (omega arith)))

back_full : (columns count start : ℕ) (x : ℕ) (xs more : List ℕ) (gap : ℕ) → length (x ∷ xs) ≡ count → gap + count ≡ columns
    → pulled_back columns count start gap (x ∷ (xs ++ more)) ≡ (take_cells_out count ++ col_move start gap) ++ ((x ∷ xs) ++ (row_break ++ deletion_bytes columns count 0 more))
back_full columns count start x [] more gap size full =
    rw (eq-eqb (gap + count) columns full, le-leb columns (gap + count) (omega arith), eq-eqb (gap + 1) columns (omega arith))
    (append_assoc (take_cells_out count ++ col_move start gap) (x ∷ []) (row_break ++ deletion_bytes columns count 0 more))
back_full columns count start x (y ∷ ys) more gap size full =
    rw (eq-eqb (gap + count) columns full, le-leb columns (gap + count) (omega arith), ne_eqb (gap + 1) columns (λ e. omega arith))
    (append_assoc (take_cells_out count ++ col_move start gap) (x ∷ []) (pulled_back columns count start (gap + 1) (y ∷ (ys ++ more)))
    ∙ ap (λ bytes. (take_cells_out count ++ col_move start gap) ++ (x ∷ bytes)) (back_new columns count start y ys more (gap + 1) (omega arith) (omega arith)))

deleted : (columns count col : ℕ) (mid : List ℕ) (pulled more : List ℕ) → 1 ≤ count → length pulled ≡ count → col + length mid + count ≡ columns
    → deletion_bytes columns count col (mid ++ (pulled ++ more)) ≡ (take_cells_out count ++ col_move col (col + length mid)) ++ (pulled ++ (row_break ++ deletion_bytes columns count 0 more))
deleted columns count col mid [] more some size full = absurd (omega arith)
deleted columns count col mid (x ∷ xs) more some size full =
    back_from columns count col mid (x ∷ (xs ++ more)) col (col + length mid) some refl full ∙ back_full columns count col x xs more (col + length mid) size full

-- ---- what they leave

-- where the cursor is then, if the letters end at `finish`
abbrev pub IsAtStart : Position → Position → Position → Type 0
IsAtStart at finish last = ((finish.row ≡ at.row) × (last ≡ at)) ⊎ ((at.row < finish.row) × (last ≡ place 0 finish.row))

pub record Pulled (columns : ℕ) (wide : List ℕ → Option ℕ) (over : List Placed) (top : ℕ) (bytes : List ℕ) (front : List Placed) (letters : List ℕ) (at : Position) : Type 0 where
  pub last : Position
  pub holds : Holds columns wide bytes over top (front ++ lay columns (plain_letters letters) at) last
  pub inside : last.col < columns
  pub is_at : IsAtStart at (place_after columns (map Letter letters) at) last

module _ (columns : ℕ) (wide : List ℕ → Option ℕ) (over : List Placed) (top : ℕ) (few : columns < 2 ^ 64) (count : ℕ) (some : 1 ≤ count) where
  abbrev Pulls : List ℕ → List ℕ → List Placed → Position → Type 0
  Pulls bytes rest front at = Pulled columns wide over top (bytes ++ deletion_bytes columns count at.col rest) front rest at

  -- what is shown before letters are taken out before others, from this place on; the last row has as many
  pub record Doomed (bytes : List ℕ) (killed rest : List ℕ) (front : List Placed) (at : Position) : Type 0 where
    pub size : length killed ≡ count
    pub fits : at.col + count ≤ columns
    pub low : top ≤ at.row
    pub ends : list_all (ends_before at) front ≡ true
    pub enough : count ≤ (place_after columns (map Letter (killed ++ rest)) at).col
    pub holds : Holds columns wide bytes over top (front ++ lay columns (plain_letters (killed ++ rest)) at) at

  -- all stand in one row
  pulls_in_row : (bytes killed rest : List ℕ) (front : List Placed) (at : Position) → at.col + count + length rest < columns → Doomed bytes killed rest front at → Pulls bytes rest front at
  pulls_in_row bytes killed rest front at room d =
      let size = d.size in
      let both = length-append killed rest in
      let cells : lay columns (plain_letters (killed ++ rest)) at ≡ lay_run [] (killed ++ rest) at ++ [] = letters_laid columns (killed ++ rest) at (omega arith) ∙ sym (append-nil (lay_run [] (killed ++ rest) at)) in
      let done = takes_out columns wide over top bytes front [] killed rest at (record { low = d.low; ends = d.ends; below = refl }) (omega arith) (omega arith) few
      (subst (λ ps. Holds columns wide bytes over top (front ++ ps) at) cells d.holds) in
      let new_cells : lay_run [] rest at ++ [] ≡ lay columns (plain_letters rest) at = append-nil (lay_run [] rest at) ∙ sym (letters_laid columns rest at (omega arith)) in
      let bytes_are : take_cells_out (length killed) ≡ deletion_bytes columns count at.col rest = ap take_cells_out size ∙ sym (back_none columns count at.col rest at.col some (omega arith)) in
      record {
        last = at;
        holds = subst (λ x. Holds columns wide (bytes ++ x) over top (front ++ lay columns (plain_letters rest) at) at) bytes_are
            (subst (λ ps. Holds columns wide (bytes ++ take_cells_out (length killed)) over top (front ++ ps) at) new_cells done);
        inside = omega arith;
        is_at = inl (ap (λ p. p.row) (row_after columns rest at (omega arith)), refl);
      }

  at_row_start : (at finish last : Position) → IsAtStart (next_row at) finish last → IsAtStart at finish last
  at_row_start at finish last (inl (same, is)) =
      inr (omega (arith, same), is ∙ ap (place 0) (sym same))
  at_row_start at finish last (inr (below, is)) = inr (omega (arith, below), is)

  -- a full row: its end is filled from the next row, where the same letters are to go then
  pulls_on : (bytes killed mid pulled more : List ℕ) (front : List Placed) (at : Position) → length pulled ≡ count → at.col + count + length mid ≡ columns → list_all is_printable pulled ≡ true
      → ((bytes : List ℕ) (front : List Placed) (at : Position) → Doomed bytes pulled more front at → Pulls bytes more front at)
      → Doomed bytes killed (mid ++ (pulled ++ more)) front at → Pulls bytes (mid ++ (pulled ++ more)) front at
  pulls_on bytes killed mid pulled more front at enough full printable ih d =
      let size = d.size in
      let first_size = length-append killed mid in
      let new_size = length-append mid pulled in
      let old = fills columns (killed ++ mid) (pulled ++ more) at (omega arith) (omega arith) in
      let same = append_assoc killed mid (pulled ++ more) in
      let lows = lay columns (plain_letters (pulled ++ more)) (next_row at) in
      let cells : lay columns (plain_letters (killed ++ (mid ++ (pulled ++ more)))) at ≡ lay_run [] (killed ++ mid) at ++ lows =
      ap (λ xs. lay columns (plain_letters xs) at) (sym same) ∙ old.cells in
      let below = letters_below columns (pulled ++ more) at (next_row at) (omega arith) in
      -- cells are taken out
      let cut = takes_out columns wide over top bytes front lows killed mid at (record { low = d.low; ends = d.ends; below = below }) (omega arith) (omega arith) few
      (subst (λ ps. Holds columns wide bytes over top (front ++ ps) at) cells d.holds) in
      let b1 = bytes ++ take_cells_out count in
      let stay = lay_run [] mid at in
      let one : Holds columns wide b1 over top ((front ++ stay) ++ lows) at =
      subst (λ n. Holds columns wide (bytes ++ take_cells_out n) over top ((front ++ stay) ++ lows) at) size
      (subst (λ ps. Holds columns wide (bytes ++ take_cells_out (length killed)) over top ps at) (sym (append_assoc front stay lows)) cut) in
      -- the gap at the row's end
      let gap = right (length mid) at in
      let b2 = b1 ++ col_move at.col gap.col in
      let two = goes_along columns wide over top b1 ((front ++ stay) ++ lows) at gap.col (omega arith) (omega arith) few one in
      let ends : list_all (ends_before gap) (front ++ stay) ≡ true =
      list_all-append (ends_before gap) front stay
      ∙ and_from (list_all (ends_before gap) front) (list_all (ends_before gap) stay) (list_all_since (ends_before at) (ends_before gap) (ends_right at (length mid)) front d.ends)
      (run_all (ends_before gap) at.row at.col (at.col + length mid) (λ x col from upto. letter_ends_on gap x col upto) mid at refl (omega arith) (omega arith)) in
      let three = writes columns wide over top pulled b2 (front ++ stay) lows gap printable (omega arith) (record { low = d.low; ends = ends; below = below }) two in
      let here = b2 ++ pulled ++ row_break in
      let filled = lay_run [] (mid ++ pulled) at in
      let all_cells : (front ++ stay) ++ (lay_run [] pulled gap ++ lows) ≡ (front ++ filled) ++ lows =
      append_assoc front stay (lay_run [] pulled gap ++ lows) ∙ ap (λ ps. front ++ ps) (sym (append_assoc stay (lay_run [] pulled gap) lows) ∙ ap (λ ps. ps ++ lows) (sym (run_both mid pulled at)))
      ∙ sym (append_assoc front filled lows) in
      let next = subst (λ ps. Holds columns wide here over top ps (next_row at)) all_cells
      (breaks columns wide over top (b2 ++ pulled) ((front ++ stay) ++ (lay_run [] pulled gap ++ lows)) (right (length pulled) gap) (omega arith) three) in
      let row_ends : list_all (ends_before (next_row at)) (front ++ filled) ≡ true =
      list_all-append (ends_before (next_row at)) front filled
      ∙ and_from (list_all (ends_before (next_row at)) front) (list_all (ends_before (next_row at)) filled) (list_all_since (ends_before at) (ends_before (next_row at)) (ends_next at) front d.ends)
      (run_all (ends_before (next_row at)) at.row at.col (at.col + length (mid ++ pulled)) (λ x col from upto. letter_ends_above at x col) (mid ++ pulled) at refl (omega arith) (omega arith)) in
      let old_end : place_after columns (map Letter (killed ++ (mid ++ (pulled ++ more)))) at ≡ place_after columns (map Letter (pulled ++ more)) (next_row at) =
      ap (λ xs. place_after columns (map Letter xs) at) (sym same) ∙ old.ends in
      let rest = ih here (front ++ filled) (next_row at)
      (record { size = enough; fits = omega arith; low = omega (arith, d.low); ends = row_ends; enough = subst (λ p. count ≤ p.col) old_end d.enough; holds = next }) in
      -- all together
      let new = fills columns (mid ++ pulled) more at (omega arith) (omega arith) in
      let again = append_assoc mid pulled more in
      let text = mid ++ (pulled ++ more) in
      let new_cells : (front ++ filled) ++ lay columns (plain_letters more) (next_row at) ≡ front ++ lay columns (plain_letters text) at =
      append_assoc front filled (lay columns (plain_letters more) (next_row at)) ∙ ap (λ ps. front ++ ps) (sym new.cells ∙ ap (λ xs. lay columns (plain_letters xs) at) again) in
      let new_end : place_after columns (map Letter more) (next_row at) ≡ place_after columns (map Letter text) at = sym new.ends ∙ ap (λ xs. place_after columns (map Letter xs) at) again in
      let later = deletion_bytes columns count 0 more in
      let bytes_are : here ++ later ≡ bytes ++ deletion_bytes columns count at.col text =
      append_assoc (b2 ++ pulled) row_break later ∙ append_assoc b2 pulled (row_break ++ later) ∙ ap (λ x. x ++ (pulled ++ (row_break ++ later))) (append_assoc bytes (take_cells_out count) (col_move at.col gap.col))
      ∙ append_assoc bytes (take_cells_out count ++ col_move at.col gap.col) (pulled ++ (row_break ++ later))
      ∙ ap (λ x. bytes ++ x) (sym (deleted columns count at.col mid pulled more some enough (omega arith))) in
      record {
        last = rest.last;
        holds = subst (λ x. Holds columns wide x over top (front ++ lay columns (plain_letters text) at) rest.last) bytes_are
            (subst (λ ps. Holds columns wide (here ++ later) over top ps rest.last) new_cells rest.holds);
        inside = rest.inside;
        is_at = subst (λ p. IsAtStart at p rest.last) new_end (at_row_start at (place_after columns (map Letter more) (next_row at)) rest.last rest.is_at);
      }

  -- for shorter texts it is known
  abbrev Shorter : List ℕ → Type 0
  Shorter rest =
      (pulled more : List ℕ) → length pulled ≡ count → length more < length rest → list_all is_printable more ≡ true → (bytes : List ℕ) (front : List Placed) (at : Position) → Doomed bytes pulled more front at → Pulls bytes more front at

  -- the last row has enough letters
  enough_behind : (bytes killed mid behind : List ℕ) (front : List Placed) (at : Position) → at.col + count + length mid ≡ columns → Doomed bytes killed (mid ++ behind) front at → count ≤ length behind
  enough_behind bytes killed mid behind front at full d =
      let size = d.size in
      let first_size = length-append killed mid in
      let ends : place_after columns (map Letter (killed ++ (mid ++ behind))) at ≡ place_after columns (map Letter behind) (next_row at) =
      ap (λ xs. place_after columns (map Letter xs) at) (sym (append_assoc killed mid behind)) ∙ (fills columns (killed ++ mid) behind at (omega arith) (omega arith)).ends in
      let known : count ≤ (place_after columns (map Letter behind) (next_row at)).col = subst (λ p. count ≤ p.col) ends d.enough in
      let bound = col_bound columns behind (next_row at) in
      omega arith

  pulls_past : (bytes killed mid behind : List ℕ) (front : List Placed) (at : Position) → at.col + count + length mid ≡ columns → list_all is_printable (mid ++ behind) ≡ true → Shorter (mid ++ behind)
      → Doomed bytes killed (mid ++ behind) front at → Pulls bytes (mid ++ behind) front at
  pulls_past bytes killed mid behind front at full letters ih d =
      let s = split_at count behind (enough_behind bytes killed mid behind front at full d) in
      subst (λ xs. list_all is_printable (mid ++ xs) ≡ true → Shorter (mid ++ xs) → Doomed bytes killed (mid ++ xs) front at → Pulls bytes (mid ++ xs) front at) (sym s.is)
      (λ printable shorter doomed.
      let after = and_parts (list_all is_printable mid) (list_all is_printable (s.first ++ s.rest)) (sym (list_all-append is_printable mid (s.first ++ s.rest)) ∙ printable) in
      let parts = and_parts (list_all is_printable s.first) (list_all is_printable s.rest) (sym (list_all-append is_printable s.first s.rest) ∙ after.1) in
      let size = s.size in
      let all_size = length-append mid (s.first ++ s.rest) in
      let both_size = length-append s.first s.rest in
      pulls_on bytes killed mid s.first s.rest front at s.size full parts.0 (shorter s.first s.rest s.size (omega arith) parts.1) doomed) letters ih d

  pulls_by : (killed rest : List ℕ) → list_all is_printable rest ≡ true → Shorter rest → (bytes : List ℕ) (front : List Placed) (at : Position) → Doomed bytes killed rest front at → Pulls bytes rest front at
  pulls_by killed rest printable ih bytes front at d =
      let fits = d.fits in
      elim (cases_lt (at.col + count + length rest) columns) [
        | inl room ↦ pulls_in_row bytes killed rest front at room d
        | inr past ↦
            let s = split_at (columns - (at.col + count)) rest (omega arith) in
            let size = s.size in
            let full : at.col + count + length s.first ≡ columns = omega arith in
            subst (λ xs. list_all is_printable xs ≡ true → Shorter xs → Doomed bytes killed xs front at → Pulls bytes xs front at) (sym s.is)
            (λ letters shorter doomed. pulls_past bytes killed s.first s.rest front at full letters shorter doomed) printable ih d
      ]

  pub pulls : (n : ℕ) (killed rest : List ℕ) → length rest ≤ n → list_all is_printable rest ≡ true → (bytes : List ℕ) (front : List Placed) (at : Position) → Doomed bytes killed rest front at → Pulls bytes rest front at
  pulls zero killed rest small printable = pulls_by killed rest printable (λ pulled more size less. absurd (omega arith))
  pulls (suc n) killed rest small printable = pulls_by killed rest printable (λ pulled more size less. pulls n pulled more (omega arith))
