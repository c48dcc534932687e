-- What letters leave that are put in by insert mode: the same as in cells opened for them.
use Rattle.std.proofs.Common.{◌≡◌, ℕ, ◌+◌, ◌<◌, ◌==◌, Bool, true, false, not, ◌&&◌, List, [], ◌∷◌, ◌++◌, map, length, Option, Some, None, refl, sym, ap, ◌∙◌, subst, if◌then◌else◌}
use Rattle.std.specs.List.{list_all, filter}
use Rattle.std.proofs.lemmas.Bool.{and_parts, lt-ltb}
use Rattle.line_buffer.specs.Printable.{is_printable}
use Rattle.line_buffer.specs.declared.layout.Position.{Position}
use Rattle.line_screen.specs.Chain.{Stands}
use Rattle.line_screen.specs.Display.{Placed, Display, DisplayReading, start, put_cells, put_letters, put_run, is_inside, is_plain_pen, at_cursor, plain_sequence, can_go_right, goes_right, is_pushed_out, step, letter_inserted, after_control, control_in_insert_mode, reading_after_bytes, display_of_reading}
use Rattle.line_screen.proofs.Puts.{then_put, on_run, in_insert_mode}
use Rattle.line_screen.specs.Display.DisplayReading.{Text, Inserts, Lost}
use Rattle.line_screen.specs.Drawing.{next_row, row_break, break_if, left_col, put_in, pushed_on, put_and_pushed, insertion_bytes}
use Rattle.line_screen.proofs.Draws.{D}
use Rattle.line_screen.proofs.RowSteps.{Holds}
use Rattle.line_screen.proofs.Standing.{printable_text, read-append, step_control, stands_text, stands_settled}
use Rattle.line_screen.proofs.Parts.{begin_inserting, end_inserting, begins_two_rows}

module _ (columns : ℕ) (wide : List ℕ → Option ℕ) where
  abbrev read : DisplayReading → List ℕ → DisplayReading
  read r bytes = reading_after_bytes columns wide r bytes

  -- what was read shows this display, or nothing, and a control character may come
  record Shows (r : DisplayReading) (o : Option Display) : Type 0 where
    pub shown : display_of_reading columns wide r ≡ o
    pub escape : step columns wide r 0x1B ≡ on_run columns 0x1B o
    pub return : step columns wide r 0x0D ≡ on_run columns 0x0D o

  text_shows : (d : Display) (run : List ℕ) → Shows (Text d run) (put_run columns wide run d)
  text_shows d run = record { shown = refl; escape = refl; return = refl }

  lost_shows : Shows Lost None
  lost_shows = record { shown = refl; escape = refl; return = refl }

  -- some bytes do to the display what others do in insert mode
  record Alike (r : DisplayReading) (o : Option Display) (xs ys : List ℕ) : Type 0 where
    pub left : Option Display
    pub shows : Shows (read r xs) left
    pub inserts : read (in_insert_mode o) ys ≡ in_insert_mode left

  abbrev Same : List ℕ → List ℕ → Type 0
  Same xs ys = (r : DisplayReading) (o : Option Display) → Shows r o → Alike r o xs ys

  none_same : (r : DisplayReading) (o : Option Display) → Shows r o → Alike r o [] []
  none_same r o s = record { left = o; shows = s; inserts = refl }

  both_same : (xs ys zs ws : List ℕ) → Same xs ys → Same zs ws → (r : DisplayReading) (o : Option Display) → Shows r o → Alike r o (xs ++ zs) (ys ++ ws)
  both_same xs ys zs ws first second r o s =
      let a = first r o s in
      let b = second (read r xs) a.left a.shows in
      record {
        left = b.left;
        shows = subst (λ x. Shows x b.left) (sym (read-append columns wide r xs zs)) b.shows;
        inserts = read-append columns wide (in_insert_mode o) ys ws ∙ ap (λ x. read x ws) a.inserts ∙ b.inserts;
      }

  alike_by : (r t : DisplayReading) (o left : Option Display) (xs ys : List ℕ) → read r xs ≡ t → Shows t left → read (in_insert_mode o) ys ≡ in_insert_mode left → Alike r o xs ys
  alike_by r t o left xs ys is shows inserts = record { left = left; shows = subst (λ x. Shows x left) (sym is) shows; inserts = inserts }

  -- ---- a row break

  abbrev text_if : Bool → Display → DisplayReading
  text_if b d = if b then Text d [] else Lost

  fed : (b : Bool) (d : Display) → (left : Option Display) × Shows (text_if b d) left × (control_in_insert_mode (text_if b d) ≡ in_insert_mode left)
  fed true d = (Some d, text_shows d [], refl)
  fed false d = (None, lost_shows, refl)

  break_same : (r : DisplayReading) (o : Option Display) → Shows r o → Alike r o row_break row_break
  break_same r None s = alike_by r Lost None None row_break row_break (ap (λ x. read x (0x0A ∷ [])) s.return) lost_shows refl
  break_same r (Some d) s =
      let front = at_cursor (record { col = 0; row = d.cursor.row }) d in
      let f = fed (is_inside columns front && is_plain_pen front) (at_cursor (next_row d.cursor) d) in
      alike_by r (after_control columns front 0x0A) (Some d) f.0 row_break row_break (ap (λ x. read x (0x0A ∷ [])) s.return) f.1 f.2

  break_if_same : (b : Bool) → Same (break_if b) (break_if b)
  break_if_same true = break_same
  break_if_same false = none_same

  -- ---- a letter

  module _ (c : ℕ) (printable : is_printable c ≡ true) where
    then_none : (o : Option Display) → o ≡ then_put o (put_letters columns [])
    then_none None = refl
    then_none (Some d) = refl

    abbrev opened : Bool → Bool → Display → DisplayReading
    opened outside b d = if outside then Lost else text_if b d

    put_one : (outside b : Bool) (d : Display) → (left : Option Display) × Shows (step columns wide (opened outside b d) c) left × (letter_inserted columns c (opened outside b d) ≡ in_insert_mode left)
    put_one true b d = (None, lost_shows, refl)
    put_one false false d = (None, lost_shows, refl)
    put_one false true d =
        let read_it : step columns wide (Text d []) c ≡ Text d (c ∷ []) = ap (λ b. if b then Text d (c ∷ []) else on_run columns c (put_run columns wide [] d)) (printable_text c printable) in
        let one : put_run columns wide (c ∷ []) d ≡ then_put (put_cells columns 1 (c ∷ []) d) (put_letters columns []) = rw printable refl in (
          put_run columns wide (c ∷ []) d,
          subst (λ x. Shows x (put_run columns wide (c ∷ []) d)) (sym read_it) (text_shows d (c ∷ [])),
          ap in_insert_mode (then_none (put_cells columns 1 (c ∷ []) d) ∙ sym one),
        )

    letter_same : (r : DisplayReading) (o : Option Display) → Shows r o → Alike r o (put_in false (c ∷ [])) (put_in true (c ∷ []))
    letter_same r None s = alike_by r Lost None None (put_in false (c ∷ [])) (c ∷ []) (ap (λ x. read x (0x5B ∷ 0x40 ∷ c ∷ [])) s.escape) lost_shows refl
    letter_same r (Some d) s =
        let all = list_all (can_go_right columns d.cursor) d.placed && is_plain_pen d in
        let e : Display = record {
          placed = map (goes_right d.cursor) (filter (λ p. not (is_pushed_out columns d.cursor p)) d.placed);
          cursor = d.cursor;
          pen = d.pen;
        } in
        let p = put_one (not (is_inside columns d)) all e in
        alike_by r (step columns wide (plain_sequence columns d 0x40) c) (Some d) p.0 (put_in false (c ∷ [])) (c ∷ []) (ap (λ x. read x (0x5B ∷ 0x40 ∷ c ∷ [])) s.escape) p.1
        (ap (λ b. if b then letter_inserted columns c (plain_sequence columns d 0x40) else control_in_insert_mode (after_control columns d c)) printable ∙ p.2)

    letter_if_same : (b : Bool) → Same (if b then put_in false (c ∷ []) else []) (if b then put_in true (c ∷ []) else [])
    letter_if_same true = letter_same
    letter_if_same false = none_same

  -- ---- all of them

  pushed_same : (letters : List ℕ) (col : ℕ) → list_all is_printable letters ≡ true → Same (pushed_on false columns col letters) (pushed_on true columns col letters)
  pushed_same [] col printable = none_same
  pushed_same (c ∷ cs) col printable =
      let parts = and_parts (is_printable c) (list_all is_printable cs) printable in
      let first = λ (inserting : Bool). if col == 0 then put_in inserting (c ∷ []) else [] in
      let end = break_if (col + 1 == columns) in
      let behind = λ (inserting : Bool). pushed_on inserting columns (left_col columns (col + 1)) cs in
      both_same (first false ++ end) (first true ++ end) (behind false) (behind true)
      (both_same (first false) (first true) end end (letter_if_same c parts.0 (col == 0)) (break_if_same (col + 1 == columns)))
      (pushed_same cs (left_col columns (col + 1)) parts.1)

  put_same : (col c : ℕ) (rest : List ℕ) → list_all is_printable (c ∷ rest) ≡ true → Same (put_and_pushed false columns col (c ∷ []) rest) (put_and_pushed true columns col (c ∷ []) rest)
  put_same col c rest printable =
      let parts = and_parts (is_printable c) (list_all is_printable rest) printable in
      let first = λ (inserting : Bool). put_in inserting (c ∷ []) in
      let end = break_if (col + 1 == columns) in
      let behind = λ (inserting : Bool). pushed_on inserting columns (left_col columns (col + 1)) rest in
      both_same (first false ++ end) (first true ++ end) (behind false) (behind true)
      (both_same (first false) (first true) end end (letter_same c parts.0) (break_if_same (col + 1 == columns)))
      (pushed_same rest (left_col columns (col + 1)) parts.1)

  begun : (r : DisplayReading) (d : Display) → Stands columns r d → d.cursor.col < columns → d.pen ≡ [] → read r begin_inserting ≡ Inserts d []
  begun r d s inside plain =
      let pen : is_plain_pen d ≡ true = ap (λ p. length p == 0) plain in
      ap (λ x. read x (0x5B ∷ 0x34 ∷ 0x68 ∷ [])) (step_control columns wide r d s 0x1B refl)
      ∙ rw (lt-ltb d.cursor.col columns inside, pen) refl

  -- in insert mode, from this display on
  mode_stands : (col c : ℕ) (rest : List ℕ) (r : DisplayReading) (d e : Display) → list_all is_printable (c ∷ rest) ≡ true → Stands columns r d → d.cursor.col < columns → d.pen ≡ []
      → Stands columns (read r (put_and_pushed false columns col (c ∷ []) rest)) e
      → Stands columns (read r (begin_inserting ++ (put_and_pushed true columns col (c ∷ []) rest ++ end_inserting))) e
  mode_stands col c rest r d e printable s inside plain h =
      let bytes = put_and_pushed true columns col (c ∷ []) rest in
      let shows : Shows r (Some d) = record { shown = stands_settled columns wide r d s; escape = step_control columns wide r d s 0x1B refl; return = step_control columns wide r d s 0x0D refl } in
      let a = put_same col c rest printable r (Some d) shows in
      let left_is : a.left ≡ Some e = sym a.shows.shown ∙ stands_settled columns wide (read r (put_and_pushed false columns col (c ∷ []) rest)) e h in
      let is : read r (begin_inserting ++ (bytes ++ end_inserting)) ≡ Text e [] =
      read-append columns wide r begin_inserting (bytes ++ end_inserting)
      ∙ ap (λ x. read x (bytes ++ end_inserting)) (begun r d s inside plain)
      ∙ read-append columns wide (Inserts d []) bytes end_inserting
      ∙ ap (λ x. read x end_inserting) (a.inserts ∙ ap in_insert_mode left_is) in
      subst (λ x. Stands columns x e) (sym is) (stands_text columns e)

  -- what cells opened for them leave, the insertion leaves
  pub inserted_holds : (bytes : List ℕ) (over : List Placed) (top : ℕ) (old new : List Placed) (at next : Position) (c : ℕ) (rest : List ℕ) → list_all is_printable (c ∷ rest) ≡ true → at.col < columns
      → Holds columns wide bytes over top old at → Holds columns wide (bytes ++ put_and_pushed false columns at.col (c ∷ []) rest) over top new next
      → Holds columns wide (bytes ++ insertion_bytes columns at.col (c ∷ []) rest) over top new next
  inserted_holds bytes over top old new at next c rest printable inside h k =
      let slow = put_and_pushed false columns at.col (c ∷ []) rest in
      let d : Display = D h.placed at [] in
      let e : Display = D k.placed next [] in
      let before = subst (λ x. Stands columns x e) (read-append columns wide start bytes slow) k.stands in
      let fast = begin_inserting ++ (put_and_pushed true columns at.col (c ∷ []) rest ++ end_inserting) in
      let after = elim (begins_two_rows columns at.col rest) as (λ b. Stands columns (read (read start bytes) (if b then fast else slow)) e) [
        | true ↦ mode_stands at.col c rest (read start bytes) d e printable h.stands inside refl before
        | false ↦ before
      ] in
      record {
        placed = k.placed;
        stands = subst (λ x. Stands columns x e) (sym (read-append columns wide start bytes (insertion_bytes columns at.col (c ∷ []) rest))) after;
        shown = k.shown;
        over_is = k.over_is;
      }
