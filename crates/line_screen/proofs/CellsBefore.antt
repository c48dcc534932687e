-- The place at which a text ends, from that of the text with a character apart from it at its end, and the other way round.
use Rattle.std.proofs.Common.{◌≡◌, ℕ, ◌+◌, ◌<◌, ◌≤◌, ◌==◌, min, Bool, true, false, ◌&&◌, List, [], ◌∷◌, ◌++◌, Option, Some, None, refl, sym, ap, ◌∙◌, subst, arith, if◌then◌else◌}
use Rattle.std.specs.Prelude.{chars, encode_utf8, slice_index}
use Rattle.std.specs.List.{last_or}
use Rattle.std.specs.Str.{is_utf8}
use Rattle.std.proofs.lemmas.Bool.{and_parts, false≢true, le-leb}
use Rattle.std.proofs.lemmas.Bool.Decides.{nat_tests}
use lib.Utf8.{encode}
use Rattle.line_buffer.specs.Cells.{origin}
use Rattle.line_buffer.specs.declared.layout.GraphemeClusterMode.{GraphemeClusterMode}
use Rattle.line_buffer.specs.declared.layout.Position.{Position}
use Rattle.line_buffer.proofs.ListedRanges.{apart}
use Rattle.line_editor.specs.Characters.{is_apart, is_wide, ends_apart, stands_apart, begins_apart}
use Rattle.line_screen.specs.Display.{right}
use Rattle.line_screen.specs.Drawing.{DrawnItem, Widths, drawn_cluster, is_letter, is_tab, item_of_cluster, drawn_item, text_items, next_row, fit, leave, after_one, place_after}
use Rattle.line_screen.specs.Drawing.DrawnItem.{NewRow, Letter, Cluster, Tab}
use Rattle.line_screen.specs.Measure.{widths_by, position_within_limit, in_row, measure_of}
use Rattle.line_screen.proofs.ApartLemmas.{apart_scalar}
use Rattle.line_screen.proofs.Draws.{Fits, AllFit, after_col}
use Rattle.line_screen.proofs.Fitting.{after_inside, items_fit, one_inside}
use Rattle.line_screen.proofs.Items.{drawn_by, other_by}
use Rattle.line_screen.proofs.ItemsApart.{char_items, items_apart, items_parted}
use Rattle.line_screen.proofs.KnownLemmas.{start_inside, stays_inside_row}
use Rattle.line_screen.proofs.Saturating.{after_saturated}
use Rattle.line_screen.proofs.Shift.{after-append}
use Rattle.line_screen.proofs.WideLemmas.{wide_item}
use Rattle.line_screen.proofs.WideRuns.{wide_col}

-- ---- an item whose columns don't depend on its place

abbrev is_untabbed : DrawnItem → Bool
is_untabbed (Tab apart) = false
is_untabbed _ = true

-- from a row's start
own_width : (columns width : ℕ) → (leave columns (right width (fit columns width origin))).row ≡ 0 → (leave columns (right width (fit columns width origin))).col ≡ width
own_width columns width e = grind (arith, nat_tests)

own_letter : (columns : ℕ) → (leave columns (right 1 origin)).row ≡ 0 → (leave columns (right 1 origin)).col ≡ 1
own_letter columns e = grind (arith, nat_tests)

-- from any place on: a row was left neither before the item nor after it
end_stays : (columns width : ℕ) (at : Position) → width < (leave columns (right width at)).col → leave columns (right width at) ≡ right width at
end_stays columns width at h = grind (arith, nat_tests)

cluster_stays : (columns width : ℕ) (at : Position) → width < (leave columns (right width (fit columns width at))).col → leave columns (right width (fit columns width at)) ≡ right width at
cluster_stays columns width at h = grind (arith, nat_tests)

-- its own drawing ends in its first row, in a lower column
item_stays : (columns : ℕ) (item : DrawnItem) (at : Position) → is_untabbed item ≡ true → (after_one columns item origin).row ≡ 0 → (after_one columns item origin).col < (after_one columns item at).col
    → after_one columns item at ≡ right (after_one columns item origin).col at
item_stays columns NewRow at h row more = absurd (omega (arith, row))
item_stays columns (Letter c) at h row more =
    let own : (after_one columns (Letter c) origin).col ≡ 1 = own_letter columns row in
    end_stays columns 1 at (omega (arith, own, more)) ∙ ap (λ n. right n at) (sym own)
item_stays columns (Cluster bytes width) at h row more =
    let own : (after_one columns (Cluster bytes width) origin).col ≡ width = own_width columns width row in
    cluster_stays columns width at (omega (arith, own, more)) ∙ ap (λ n. right n at) (sym own)
item_stays columns (Tab apart) at h row more = absurd (false≢true h)

-- ---- any place of such an item

one_fits : (columns : ℕ) (at : Position) → at.col < columns → leave columns (right 1 at) ≡ leave columns (right 1 (fit columns 1 at))
one_fits columns at low = ap (λ b. leave columns (right 1 (if b then at else next_row at))) (sym (le-leb (at.col + 1) columns (omega (arith, low))))

-- its own drawing ends in its first row, behind its columns
record Cells (columns : ℕ) (item : DrawnItem) (width : ℕ) : Type 0 where
  some : 1 ≤ width
  narrow : width < columns
  last : (at : Position) → at.col < columns → after_one columns item at ≡ leave columns (right width (fit columns width at))

cells_of : (columns : ℕ) (clusters : List ℕ → Option ℕ) (item : DrawnItem) → 1 ≤ columns → Fits columns clusters item → is_untabbed item ≡ true → (after_one columns item origin).row ≡ 0
    → Cells columns item (after_one columns item origin).col
cells_of columns clusters NewRow some h untabbed row = absurd (omega (arith, row))
cells_of columns clusters (Letter c) some h untabbed row =
    let own : (after_one columns (Letter c) origin).col ≡ 1 = own_letter columns row in
    record {
      some = omega (arith, own);
      narrow = one_inside columns clusters (Letter c) origin h some;
      last = λ at low. one_fits columns at low ∙ ap (λ n. leave columns (right n (fit columns n at))) (sym own);
    }
cells_of columns clusters (Cluster bytes width) some h untabbed row =
    let own : (after_one columns (Cluster bytes width) origin).col ≡ width = own_width columns width row in
    record {
      some = omega (arith, own, h.some);
      narrow = one_inside columns clusters (Cluster bytes width) origin h some;
      last = λ at low. ap (λ n. leave columns (right n (fit columns n at))) (sym own);
    }
cells_of columns clusters (Tab stops) some h untabbed row = absurd (false≢true untabbed)

-- ---- a character apart is one

other_bytes : (c : ℕ) → (c == 0x09) ≡ false → is_tab (encode_utf8 c) ≡ false
unfolding encode
other_bytes c h = grind (arith, nat_tests)

no_tab : (c : ℕ) → is_apart c ≡ true → is_tab (encode_utf8 c) ≡ false
no_tab c h = other_bytes c (apart is_apart c 0x09 h refl)

pub apart_of : (front : List ℕ) (c : ℕ) → stands_apart front c ≡ true → is_apart c ≡ true
apart_of front c h = (and_parts (is_apart c) (ends_apart (last_or None (chars front))) (and_parts (is_utf8 front) (is_apart c && ends_apart (last_or None (chars front))) h).1).0

drawn_untabbed : (bytes : List ℕ) (o : Option ℕ) → is_untabbed (drawn_cluster bytes o) ≡ true
drawn_untabbed bytes None = refl
drawn_untabbed bytes (Some width) = refl

item_untabbed : (wide : Widths) (bytes : List ℕ) (b : Bool) → is_tab bytes ≡ false → is_untabbed (if b then Letter (slice_index bytes 0) else item_of_cluster wide.cluster wide.tab bytes) ≡ true
item_untabbed wide bytes true h = refl
item_untabbed wide bytes false h =
    ap is_untabbed (other_by wide.cluster wide.tab bytes ∙ ap (λ b. drawn_by wide.cluster bytes (if b then wide.tab else None)) h) ∙ drawn_untabbed bytes (wide.cluster bytes)

-- ---- measures

module _ (mode : GraphemeClusterMode) (tab : Option ℕ) (columns : ℕ) (some : 1 ≤ columns) where
  abbrev wide : Widths
  wide = widths_by mode tab columns

  own_end : (c : ℕ) → is_apart c ≡ true → measure_of mode tab columns (encode_utf8 c) origin ≡ position_within_limit (after_one columns (drawn_item wide (encode_utf8 c)) origin)
  own_end c h =
      ap (λ p. position_within_limit (place_after columns (text_items wide (encode_utf8 c)) p)) (stays_inside_row columns origin some)
      ∙ ap (λ is. position_within_limit (place_after columns is origin)) (char_items wide c h)

  -- the character's cells end in their row, with others before them
  pub cells_before : (c : ℕ) (at : Position) → is_apart c ≡ true
      → let end = measure_of mode tab columns (encode_utf8 c) origin in
      let last = place_after columns (text_items wide (encode_utf8 c)) at in
      end.row ≡ 0 → end.col < last.col → last ≡ right end.col at
  cells_before c at h row more =
      let bytes = encode_utf8 c in
      let item = drawn_item wide bytes in
      let own = after_one columns item origin in
      let last : place_after columns (text_items wide bytes) at ≡ after_one columns item at = ap (λ is. place_after columns is at) (char_items wide c h) in
      let end_row : min own.row 65535 ≡ 0 = ap (λ p. p.row) (sym (own_end c h)) ∙ row in
      let end_col : (measure_of mode tab columns bytes origin).col ≡ own.col = ap (λ p. p.col) (own_end c h) in
      let last_col : (place_after columns (text_items wide bytes) at).col ≡ (after_one columns item at).col = ap (λ p. p.col) last in
      last
      ∙ item_stays columns item at (item_untabbed wide bytes (is_letter bytes) (no_tab c h)) (omega (arith, end_row)) (omega (arith, end_col, last_col, more))
      ∙ ap (λ n. right n at) (sym end_col)

  both_end : (front : List ℕ) (c : ℕ) (from : Position) → stands_apart front c ≡ true
      → place_after columns (text_items wide (front ++ encode_utf8 c)) from ≡ place_after columns (text_items wide (encode_utf8 c)) (place_after columns (text_items wide front) from)
  both_end front c from h =
      ap (λ is. place_after columns is from) (items_apart wide front c h) ∙ after-append columns (text_items wide front) (text_items wide (encode_utf8 c)) from

  -- a text that begins apart, from where the one before it ends
  pub more_behind : (front rest : List ℕ) (from : Position) → begins_apart front rest ≡ true
      → measure_of mode tab columns rest (measure_of mode tab columns front from) ≡ measure_of mode tab columns (front ++ rest) from
  more_behind front rest from h =
      let start = in_row columns from in
      let items = text_items wide rest in
      let there = place_after columns (text_items wide front) start in
      let inside : there.col < columns = after_inside columns wide.cluster (text_items wide front) start (items_fit mode tab columns some front) (start_inside columns from some) in
      ap (λ p. position_within_limit (place_after columns items p)) (stays_inside_row columns (position_within_limit there) inside)
      ∙ after_saturated columns items there
      ∙ ap position_within_limit (sym (ap (λ is. place_after columns is start) (items_parted wide front rest h) ∙ after-append columns (text_items wide front) items start))

  -- the columns of a character whose own drawing ends in its first row
  char_cells : (c : ℕ) (end : Position) → is_apart c ≡ true → end ≡ measure_of mode tab columns (encode_utf8 c) origin → end.row ≡ 0
      → Cells columns (drawn_item wide (encode_utf8 c)) end.col
  char_cells c end h end_is row =
      let bytes = encode_utf8 c in
      let item = drawn_item wide bytes in
      let own = after_one columns item origin in
      let own_is : end ≡ position_within_limit own = end_is ∙ own_end c h in
      let own_row : min own.row 65535 ≡ 0 = ap (λ (p : Position). p.row) (sym own_is) ∙ row in
      let all : AllFit columns wide.cluster (item ∷ []) = subst (AllFit columns wide.cluster) (char_items wide c h) (items_fit mode tab columns some bytes) in
      subst (Cells columns item) (ap (λ (p : Position). p.col) (sym own_is))
      (cells_of columns wide.cluster item some all.0 (item_untabbed wide bytes (is_letter bytes) (no_tab c h)) (omega (arith, own_row)))

  pub own_some : (c : ℕ) (end : Position) → is_apart c ≡ true → end ≡ measure_of mode tab columns (encode_utf8 c) origin → end.row ≡ 0 → 0 < end.col
  own_some c end h end_is row = (char_cells c end h end_is row).some

  pub own_narrow : (c : ℕ) (end : Position) → is_apart c ≡ true → end ≡ measure_of mode tab columns (encode_utf8 c) origin → end.row ≡ 0 → end.col < columns
  own_narrow c end h end_is row = (char_cells c end h end_is row).narrow

  -- the place before a character, if it is known by the columns and the end of the character's drawing
  pub one_less : (front : List ℕ) (c : ℕ) (from at end before : Position) → stands_apart front c ≡ true
      → at ≡ measure_of mode tab columns (front ++ encode_utf8 c) from → end ≡ measure_of mode tab columns (encode_utf8 c) origin → end.row ≡ 0
      → ((there : Position) → there.col < columns → position_within_limit there ≡ measure_of mode tab columns front from → at ≡ position_within_limit (leave columns (right end.col (fit columns end.col there))) → before ≡ position_within_limit there)
      → before ≡ measure_of mode tab columns front from
  one_less front c from at end before h at_is end_is row known =
      let start = in_row columns from in
      let there = place_after columns (text_items wide front) start in
      let inside : there.col < columns = after_inside columns wide.cluster (text_items wide front) start (items_fit mode tab columns some front) (start_inside columns from some) in
      let cells = char_cells c end (apart_of front c h) end_is row in
      known there inside refl
      (at_is ∙ ap position_within_limit (both_end front c start h)
      ∙ ap (λ is. position_within_limit (place_after columns is there)) (char_items wide c (apart_of front c h))
      ∙ ap position_within_limit (cells.last there inside))

  -- a wide character at the end
  pub wide_more : 2 ≤ columns → (front : List ℕ) (c : ℕ) (from : Position) → stands_apart front c ≡ true → is_wide c ≡ true
      → (measure_of mode tab columns (front ++ encode_utf8 c) from).col ≡ wide_col columns (measure_of mode tab columns front from).col
  wide_more room front c from h w =
      let start = in_row columns from in
      let bytes = encode_utf8 c in
      let there = place_after columns (text_items wide front) start in
      let one = apart_of front c h in
      ap (λ (p : Position). p.col)
      (both_end front c start h
      ∙ ap (λ is. place_after columns is there) (char_items wide c one ∙ ap (λ item. item ∷ []) (wide_item mode tab columns c room (apart_scalar c one) w)))
      ∙ after_col columns (Cluster bytes 2) there

  pub wide_inside : (text : List ℕ) (from : Position) → (measure_of mode tab columns text from).col < columns
  wide_inside text from = after_inside columns wide.cluster (text_items wide text) (in_row columns from) (items_fit mode tab columns some text) (start_inside columns from some)
