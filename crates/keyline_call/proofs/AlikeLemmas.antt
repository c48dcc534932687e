-- Two displays that show the same have the same cells, and the same styles if the highlighter gives the same.
use Rattle.std.proofs.Common.{◌≡◌, ℕ, ◌+◌, ◌-◌, ◌<◌, ◌==◌, nat_lt, nat_le, Bool, true, false, cond, ◌&&◌, List, [], ◌∷◌, ◌++◌, map, Option, Some, refl, sym, ap, ◌∙◌, subst, arith, if◌then◌else◌}
use Rattle.std.specs.List.{filter}
use Rattle.std.proofs.lemmas.Bool.Decides.{nat_tests}
use Rattle.std.proofs.lemmas.List.{map-append}
use Rattle.line_buffer.specs.Cells.{origin}
use Rattle.line_buffer.specs.Width.{tab_width}
use Rattle.line_buffer.specs.declared.layout.Position.{Position}
use Rattle.line_config.specs.declared.memory.VecSink.{VecSink}
use Rattle.line_editor.specs.Redraws.{info_text}
use Rattle.line_editor.specs.Sights.{Sight}
use Rattle.line_screen.specs.ScreenCalls.{Screen, styles_of, widths}
use Rattle.line_screen.specs.Chain.{Picture, Shows, above, cells_of, cursor_of, down, shown_items, styled_items}
use Rattle.line_screen.specs.Display.{Cell, Display, Placed, cell_at, meaning, cluster_placed_at, right, style_at}
use Rattle.line_screen.specs.Display.Cell.{Head, Tail}
use Rattle.line_screen.specs.Drawing.{DrawnItem, Widths, after_one, blanks, lay_one, lay_run}
use Rattle.line_screen.specs.Drawing.DrawnItem.{Tab}
use Rattle.line_screen.specs.StyledTexts.{StyledItem, lay}
use Rattle.line_screen.proofs.LawLemmas.{cells_are_shown}
use Rattle.line_screen.proofs.Leading.{shown_styled}
use Rattle.keyline.specs.Shows.{picture}
use Rattle.keyline_call.specs.Laws.{LookAlike, SameLinesLookAlike, StyledAlike, last_drawing, sight_in}
use Rattle.keyline_call.proofs.LastLemmas.{last_shows, line_shown, place_shown}

-- ---- cells without styles

-- a cluster without its style
abbrev bare : Placed → Placed
bare p = record p { style = [] }

abbrev bare_lay : ℕ → List DrawnItem → Position → List Placed
bare_lay columns [] at = []
bare_lay columns (item ∷ items) at = lay_one columns [] item at ++ bare_lay columns items (after_one columns item at)

run_bare : (style cs : List ℕ) (at : Position) → map bare (lay_run style cs at) ≡ lay_run [] cs at
run_bare style [] at = refl
run_bare style (c ∷ cs) at = ap (λ ps. cluster_placed_at [] (c ∷ []) 1 at ∷ ps) (run_bare style cs (right 1 at))

one_bare : (columns : ℕ) (style : List ℕ) (item : DrawnItem) (at : Position) → map bare (lay_one columns style item at) ≡ lay_one columns [] item at
one_bare columns style (Tab apart) at = run_bare style (blanks (tab_width columns apart at.col)) at
one_bare columns style item at = refl

lay_is_bare : (columns : ℕ) (xs : List StyledItem) (at : Position) → map bare (lay columns xs at) ≡ bare_lay columns (map (λ (x : StyledItem). x.item) xs) at
lay_is_bare columns [] at = refl
lay_is_bare columns (x ∷ xs) at =
    let next = after_one columns x.item at in
    map-append bare (lay_one columns x.style x.item at) (lay columns xs next)
    ∙ ap (λ ps. ps ++ map bare (lay columns xs next)) (one_bare columns x.style x.item at)
    ∙ ap (λ ps. lay_one columns [] x.item at ++ ps) (lay_is_bare columns xs next)

abbrev tested : Placed → ℕ → Bool → Cell → Cell
tested p col b rest = if b && (p.col == col) then Head p.bytes else if b && (nat_lt p.col col && nat_lt col (p.col + p.width)) then Tail else rest

-- what a cell has doesn't depend on styles
cell_bare : (ps : List Placed) (row col : ℕ) → cell_at (map bare ps) row col ≡ cell_at ps row col
cell_bare [] row col = refl
cell_bare (p ∷ ps) row col = ap (tested p col (p.row == row)) (cell_bare ps row col)

cells_bare : (columns : ℕ) (wide : Widths) (v : Picture) (row col : ℕ) → cell_at (bare_lay columns (shown_items wide v) origin) row col ≡ cell_at (cells_of columns wide v) row col
cells_bare columns wide v row col =
    ap (λ items. cell_at (bare_lay columns items origin) row col) (sym (shown_styled columns wide v))
    ∙ ap (λ ps. cell_at ps row col) (sym (lay_is_bare columns (styled_items wide v) origin))
    ∙ cell_bare (cells_of columns wide v) row col

-- ---- cells in the rows above

other_row : (top row : ℕ) (p : Placed) → row < top → above top p ≡ false → (p.row == row) ≡ false
other_row top row p low h = grind (arith, nat_tests)

-- what is found in a row by a test of each cluster
module _ {X : Type 0} (f : List Placed → ℕ → ℕ → X) (test : Placed → ℕ → Bool → X → X) (first : (row col : ℕ) (p : Placed) (ps : List Placed) → f (p ∷ ps) row col ≡ test p col (p.row == row) (f ps row col))
    (other : (p : Placed) (col : ℕ) (x : X) → test p col false x ≡ x) (top row col : ℕ) (low : row < top) where
  kept_if : (p : Placed) (ps : List Placed) → f ps row col ≡ f (filter (above top) ps) row col → (b : Bool) → above top p ≡ b
      → test p col (p.row == row) (f ps row col) ≡ f (cond b (p ∷ filter (above top) ps) (filter (above top) ps)) row col
  kept_if p ps ih true e = ap (test p col (p.row == row)) ih ∙ sym (first row col p (filter (above top) ps))
  kept_if p ps ih false e = ap (λ b. test p col b (f ps row col)) (other_row top row p low e) ∙ other p col (f ps row col) ∙ ih

  found_above : (ps : List Placed) → f ps row col ≡ f (filter (above top) ps) row col
  found_above [] = refl
  found_above (p ∷ ps) = first row col p ps ∙ kept_if p ps (found_above ps) (above top p) refl

abbrev styled : Placed → ℕ → Bool → List ℕ → List ℕ
styled p col b rest = if b && (nat_le p.col col && nat_lt col (p.col + p.width)) then p.style else rest

-- ---- all cells

-- the same except the styles
pub record SameTexts (v w : Picture) : Type 0 where
  pub prompt : v.prompt ≡ w.prompt
  pub line : v.line ≡ w.line
  pub place : v.place ≡ w.place
  pub info : v.info ≡ w.info

same_items : (wide : Widths) (v w : Picture) → SameTexts v w → shown_items wide v ≡ shown_items wide w
same_items wide v w same = rw (same.prompt, same.line, same.info) refl

same_cursor : (columns : ℕ) (wide : Widths) (v w : Picture) → SameTexts v w → cursor_of columns wide v ≡ cursor_of columns wide w
same_cursor columns wide v w same = rw (same.prompt, same.line, same.place) refl

same_picture : (v w : Picture) → SameTexts v w → v.styles ≡ w.styles → v ≡ w
same_picture v w same styles =
    let is : (let q : Picture = record { prompt = v.prompt; line = v.line; place = v.place; info = v.info; styles = v.styles } in q)
    ≡ (let q : Picture = record { prompt = w.prompt; line = w.line; place = w.place; info = w.info; styles = w.styles } in q) = cc in is

module _ (s : Screen) (top : ℕ) (over : List Placed) (v w : Picture) (d e : Display) where
  abbrev wide : Widths
  wide = widths s

  -- row by row
  by_rows : {X : Type 0} (f : List Placed → ℕ → ℕ → X) → ((row col : ℕ) → row < top → (ps : List Placed) → f ps row col ≡ f (filter (above top) ps) row col)
      → filter (above top) d.placed ≡ over → filter (above top) e.placed ≡ over → ((row col : ℕ) → f d.placed (top + row) col ≡ f e.placed (top + row) col)
      → (row col : ℕ) → f d.placed row col ≡ f e.placed row col
  by_rows f up same too on row col = by (nat_lt row top) refl
    where
      by : (b : Bool) → nat_lt row top ≡ b → f d.placed row col ≡ f e.placed row col
      by true is =
          let low : row < top = grind (arith, nat_tests) in
          up row col low d.placed ∙ ap (λ ps. f ps row col) (same ∙ sym too) ∙ sym (up row col low e.placed)
      by false is =
          let row_is : top + (row - top) ≡ row = grind (arith, nat_tests) in
          subst (λ r. f d.placed r col ≡ f e.placed r col) row_is (on (row - top) col)

  alike : SameTexts v w → Shows s.columns wide v top d → Shows s.columns wide w top e → filter (above top) d.placed ≡ over → filter (above top) e.placed ≡ over → LookAlike d e
  alike texts h k same too = record {
    cells = by_rows cell_at (found_above cell_at tested (λ row col p ps. refl) (λ p col x. refl) top) same too
        (λ row col. (cells_are_shown s v top d h row col).0 ∙ sym (cells_bare s.columns wide v row col)
        ∙ ap (λ items. cell_at (bare_lay s.columns items origin) row col) (same_items wide v w texts)
        ∙ cells_bare s.columns wide w row col ∙ sym (cells_are_shown s w top e k row col).0);
    cursor = h.cursor ∙ ap (down top) (same_cursor s.columns wide v w texts) ∙ sym k.cursor;
  }

  styled_alike : v ≡ w → Shows s.columns wide v top d → Shows s.columns wide w top e → filter (above top) d.placed ≡ over → filter (above top) e.placed ≡ over → StyledAlike d e
  styled_alike texts h k same too =
      by_rows style_at (found_above style_at styled (λ row col p ps. refl) (λ p col x. refl) top) same too
      (λ row col. (cells_are_shown s v top d h row col).1 ∙ ap (λ u. style_at (cells_of s.columns wide u) row col) texts ∙ sym (cells_are_shown s w top e k row col).1)

-- ---- two lines

-- there is one last drawing, and bytes have one meaning
one_display : (s : Screen) (before bytes again : List ℕ) (c : Option (List ℕ)) (d e : Display) → c ≡ Some bytes → c ≡ Some again
    → meaning s.columns (widths s).cluster (before ++ bytes) ≡ Some d → meaning s.columns (widths s).cluster (before ++ again) ≡ Some e → d ≡ e
one_display s before bytes again c d e is too means mean =
    let same : bytes ≡ again = (let both : Some bytes ≡ Some again = sym is ∙ too in cc) in
    let one : Some d ≡ Some e = sym means ∙ ap (λ xs. meaning s.columns (widths s).cluster (before ++ xs)) same ∙ mean in cc

module _ (held : VecSink → List ℕ) where
  pub same_lines_look_alike : SameLinesLookAlike held
  same_lines_look_alike n g x y left other before over top d e w v same rest dx dy =
      let s = g.screen in
      let seen : Sight = sight_in n g x in
      let too : Sight = sight_in n g y in
      let one = last_shows held n g x left before over top w rest in
      let two = last_shows held n g y other before over top v rest in
      let Alike : Display → Display → Type 0 = λ a b. LookAlike a b × (seen.spans ≡ too.spans → StyledAlike a b) in
      let first : one.shown.display ≡ d = one_display s before one.bytes dx.bytes (last_drawing (held left.display)) one.shown.display d one.last dx.last one.shown.means dx.means in
      let second : two.shown.display ≡ e = one_display s before two.bytes dy.bytes (last_drawing (held other.display)) two.shown.display e two.last dy.last two.shown.means dy.means in
      let texts : SameTexts (picture seen) (picture too) = record {
        prompt = same.prompt;
        line = line_shown held n g x left w one.seen ∙ same.text ∙ sym (line_shown held n g y other v two.seen);
        place = place_shown held n g x left w one.seen ∙ same.place ∙ sym (place_shown held n g y other v two.seen);
        info = ap info_text same.info;
      } in
      subst (λ z. Alike z e) first (subst (λ z. Alike one.shown.display z) second ((
        alike s top over (picture seen) (picture too) one.shown.display two.shown.display texts one.shown.shows two.shown.shows one.shown.over_is two.shown.over_is,
        λ spans. styled_alike s top over (picture seen) (picture too) one.shown.display two.shown.display (same_picture (picture seen) (picture too) texts (ap styles_of spans)) one.shown.shows two.shown.shows one.shown.over_is two.shown.over_is,
      )))
