-- From the last whole drawing on, the bytes of a line's steps show by themselves what all of them show.
use Rattle.std.proofs.Common.{◌≡◌, ◌⊎◌, inl, inr, ℕ, zero, suc, ◌+◌, ◌-◌, ◌/◌, ◌%◌, ◌≤◌, ◌==◌, nat_lt, nat_le, Bool, true, false, not, List, [], ◌∷◌, ◌++◌, take, drop, Option, None, Some, refl, sym, ap, ◌∙◌, subst, append_assoc, append-nil, arith, true≢false, if◌then◌else◌}
use Rattle.std.specs.Prelude.{⊤, codes, encode_utf8, length, replicate, slice_range}
use Rattle.std.specs.Fmt.{digits, digit_glyph, digits_onto}
use Rattle.std.specs.List.{flat_map, list_all}
use Rattle.std.specs.Option.{option_or}
use Rattle.std.proofs.lemmas.Bool.{and_parts}
use Rattle.std.proofs.lemmas.Bool.Decides.{nat_tests}
use Rattle.std.proofs.lemmas.Str.{encode_ascii}
use Rattle.std.proofs.lemmas.Grind.{flat_map-append}
use Rattle.line_buffer.specs.Cells.{origin, same_cell}
use Rattle.line_buffer.specs.Printable.{is_printable, at_simple_end}
use Rattle.line_buffer.specs.Width.{tab_width}
use Rattle.line_buffer.specs.declared.layout.GraphemeClusterMode.{GraphemeClusterMode}
use Rattle.line_buffer.specs.declared.layout.Layout.{Layout}
use Rattle.line_buffer.specs.declared.layout.Position.{Position}
use Rattle.line_buffer.specs.declared.layout.TabStops.{TabStops}
use Rattle.line_config.specs.declared.settings.BellStyle.{BellStyle}
use Rattle.line_config.specs.declared.settings.BellStyle.TheVariants as Bell
use Rattle.line_editor.specs.RenderCalls.{Marks, Ruler}
use Rattle.line_editor.specs.Redraws.{RedrawCalls, info_text, fresh, full, nothing_asked, erase_call, rest_call, layout_of, cell_on, column_back, may_write_over, may_take, may_erase, may_put_in, may_take_out}
use Rattle.line_editor.proofs.ShortCalls.{move_call, char_call, append_call, put_in_short, taken_out_short, write_over_call}
use Rattle.line_editor.specs.Redraws.Redraw.{Drawn, Moved, Typed, Appended, Taken, Erased, PutIn, TakenOut, DrawnFrom, Bared, ToEnd, Beeped, Cleared, Rewritten}
use Rattle.line_editor.specs.Sights.{Sight, sight_with, no_sight, sight, sight_all, drawn_spans, Fits, FitsAll, TypedFits, Replaces}
use Rattle.line_editor.specs.EditSteps.{one, calls_of_steps}
use Rattle.line_editor.specs.Values.{EditStep, Value, shown_marks}
use Rattle.line_editor.specs.Values.EditStep.{Draws}
use Rattle.line_screen.specs.ScreenCalls.{Screen, bell_bytes, bytes_of, ruler_of, styles_of, line_styles, widths}
use Rattle.line_screen.specs.Chain.{Good, empty_view}
use Rattle.line_screen.specs.Colours.{AreStyles, PaintedItem, Styles, skip, is_style, bytes_of_all_painted, bytes_of_painted, bytes_of_painted_texts, painted_text, style_bytes, items_without_style, SgrSpan, are_styles, end_of}
use Rattle.line_screen.specs.Colours.PaintedItem.{Bare as Plain, Begins, Shaded, Fenced, Padded}
use Rattle.line_screen.specs.Display.{Placed, is_parameter, is_text, right}
use Rattle.line_screen.specs.Drawing.{DrawnItem, Widths, text_items, no_style, break_if, fitted_col, bytes_of_item, bytes_of_items, col_after_one, col_after, control_sequence, erase_to_end, erase_to_row_end, in_fence, take_cells_out, col_move, move_bytes, left_col, pushed_on, insertion_bytes, pulled_back, place_after_insertion, place_after_deletion, short_move, put_in, put_and_pushed}
use Rattle.line_screen.specs.Drawing.DrawnItem.{NewRow, Letter, Cluster, Tab}
use Rattle.line_screen.specs.Measure.{in_row}
use Rattle.line_screen.proofs.Draws.{AllFit, AllPainted, Fits as ItemFits, FitsPainted}
use Rattle.line_screen.proofs.Fitting.{items_fit}
use Rattle.line_screen.proofs.LawLemmas.{start_is_empty}
use Rattle.line_screen.proofs.StyleLemmas.{styles_are}
use Rattle.line_screen.proofs.StyledTextLemmas.{skip_styles, text_painted}
use Rattle.keyline.specs.Shows.{DisplayHolds, Low, LowStep, LowAll, bytes_for, kept_by}
use Rattle.keyline.proofs.ShowSteps.{drawn_holds, fresh_holds, if_none, rewritten_letters, small, step}
use Rattle.keyline_call.specs.Laws.{drawing_start, begins_drawing, last_drawing}
use Rattle.line_screen.proofs.Parts.{painted_drawing, open_cell, is_step_back, begin_inserting, end_inserting, begins_two_rows}

-- ---- bytes in which no drawing begins: each CR is before an LF

pub data Calm : List ℕ → Type 0 where
  no_bytes : Calm []
  byte : (b : ℕ) {bs : List ℕ} → not (b == 0x0D) ≡ true → Calm bs → Calm (b ∷ bs)
  broken : {bs : List ℕ} → Calm bs → Calm (0x0D ∷ 0x0A ∷ bs)

both : {xs ys : List ℕ} → Calm xs → Calm ys → Calm (xs ++ ys)
both no_bytes k = k
both (byte b h q) k = byte b h (both q k)
both (broken q) k = broken (both q k)

either : {xs ys : List ℕ} (b : Bool) → Calm xs → Calm ys → Calm (if b then xs else ys)
either true h k = h
either false h k = k

calm_all : (f : ℕ → Bool) → ((b : ℕ) → f b ≡ true → not (b == 0x0D) ≡ true) → (bs : List ℕ) → list_all f bs ≡ true → Calm bs
calm_all f plain [] h = no_bytes
calm_all f plain (b ∷ bs) h = let parts = and_parts (f b) (list_all f bs) h in byte b (plain b parts.0) (calm_all f plain bs parts.1)

-- sequences without a CR
these : (bs : List ℕ) → list_all (λ b. not (b == 0x0D)) bs ≡ true → Calm bs
these bs h = calm_all (λ b. not (b == 0x0D)) (λ b h. h) bs h

letter_plain : (b : ℕ) → is_printable b ≡ true → not (b == 0x0D) ≡ true
letter_plain b h = grind (arith, nat_tests)

text_plain : (b : ℕ) → is_text b ≡ true → not (b == 0x0D) ≡ true
text_plain b h = grind (arith, nat_tests)

parameter_plain : (b : ℕ) → is_parameter b ≡ true → not (b == 0x0D) ≡ true
parameter_plain b h = grind (arith, nat_tests)

copies : (n b : ℕ) → not (b == 0x0D) ≡ true → Calm (replicate n b)
copies zero b h = no_bytes
copies (suc n) b h = byte b h (copies n b h)

calm_break : (b : Bool) → Calm (break_if b)
calm_break b = either b (broken no_bytes) no_bytes

-- ---- the bytes of texts, without and with styles

calm_style : (style : List ℕ) → is_style style ≡ true → Calm (style_bytes style)
calm_style [] h = these no_style refl
calm_style (c ∷ style) h =
    byte 0x1B refl (byte 0x5B refl (byte 0x30 refl (both (calm_all is_parameter parameter_plain (c ∷ style) h) (these (0x6D ∷ []) refl))))

calm_fenced : (style : List ℕ) {bytes : List ℕ} → is_style style ≡ true → Calm bytes → Calm (style_bytes style ++ bytes ++ no_style)
calm_fenced style h k = both (both (calm_style style h) k) (these no_style refl)

module _ (columns : ℕ) (wide : List ℕ → Option ℕ) where
  -- a cluster with its row breaks
  calm_cluster : (style bytes : List ℕ) (width col : ℕ) → is_style style ≡ true → list_all is_text bytes ≡ true → Calm (bytes_of_painted columns (Fenced style bytes width) col)
  calm_cluster style bytes width col h k =
      both (both (either (nat_le (col + width) columns) no_bytes (broken no_bytes)) (calm_fenced style h (calm_all is_text text_plain bytes k))) (calm_break (fitted_col columns width col + width == columns))

  calm_one : (item : DrawnItem) (col : ℕ) → ItemFits columns wide item → Calm (bytes_of_item columns item col)
  calm_one NewRow col h = broken no_bytes
  calm_one (Letter c) col h = byte c (letter_plain c h) (calm_break (col + 1 == columns))
  calm_one (Cluster bytes width) col h = calm_cluster [] bytes width col refl h.text
  calm_one (Tab apart) col h = let width = tab_width columns apart col in both (copies width 0x20 refl) (calm_break (col + width == columns))

  calm_sent : (items : List DrawnItem) (col : ℕ) → AllFit columns wide items → Calm (bytes_of_items columns items col)
  calm_sent [] col h = no_bytes
  calm_sent (item ∷ items) col h = both (calm_one item col h.0) (calm_sent items (col_after_one columns item col) h.1)

  calm_painted_one : (item : PaintedItem) (col : ℕ) → FitsPainted columns wide item → Calm (bytes_of_painted columns item col)
  calm_painted_one (Plain item) col h = calm_one item col h
  calm_painted_one (Begins style) col h = calm_style style h
  calm_painted_one (Shaded style c) col h =
      byte c (letter_plain c h.1) (either (col + 1 == columns) (both (these no_style refl) (broken (calm_style style h.0))) no_bytes)
  calm_painted_one (Fenced style bytes width) col h = calm_cluster style bytes width col h.0 h.1.text
  calm_painted_one (Padded style apart) col h =
      let width = tab_width columns apart col in both (calm_fenced style h (copies width 0x20 refl)) (calm_break (col + width == columns))

  calm_painted : (items : List PaintedItem) (col : ℕ) → AllPainted columns wide items → Calm (bytes_of_all_painted columns items col)
  calm_painted [] col h = no_bytes
  calm_painted (item ∷ items) col h = both (calm_painted_one item col h.0) (calm_painted items (col_after columns (items_without_style item) col) h.1)

-- three texts, one after another
calm_three : {xs ys zs : List ℕ} → Calm xs → Calm ys → Calm zs → Calm (no_style ++ xs ++ no_style ++ ys ++ no_style ++ zs ++ no_style)
calm_three a b c = let end = these no_style refl in both (both (both (both (both (both end a) end) b) end) c) end

-- ---- the bytes of moves

glyph_plain : (d : ℕ) (b : Bool) → not ((if b then 48 + d else 87 + d) == 0x0D) ≡ true
glyph_plain d true = grind (arith, nat_tests)
glyph_plain d false = grind (arith, nat_tests)

calm_digits : (k n : ℕ) {acc : List ℕ} → Calm acc → Calm (digits_onto k 10 false n acc)
calm_digits zero n h = h
calm_digits (suc k) n h =
    let more = byte (digit_glyph false (n % 10)) (glyph_plain (n % 10) (nat_lt (n % 10) 10)) h in either (n / 10 == 0) more (calm_digits k (n / 10) more)

calm_sequence : (count final : ℕ) → not (final == 0x0D) ≡ true → Calm (control_sequence count final)
unfolding digits
calm_sequence count final h = either (count == 0) no_bytes (byte 0x1B refl (byte 0x5B refl (both (calm_digits 64 count no_bytes) (byte final h no_bytes))))

calm_cols : (old new : ℕ) → Calm (col_move old new)
calm_cols old new = either (nat_lt new old) (calm_sequence (old - new) 0x44 refl) (calm_sequence (new - old) 0x43 refl)

calm_move : (old new : Position) → Calm (move_bytes old new)
calm_move old new =
    both (either (nat_lt new.row old.row) (calm_sequence (old.row - new.row) 0x41 refl) (calm_sequence (new.row - old.row) 0x42 refl)) (calm_cols old.col new.col)

calm_short : (old new : Position) → Calm (short_move old new)
calm_short old new = either (is_step_back old new) (copies (old.col - new.col) 0x08 refl) (calm_move old new)

-- ---- the bytes of letters that move in their rows

calm_put : (inserting : Bool) {character : List ℕ} → Calm character → Calm (put_in inserting character)
calm_put inserting h = either inserting h (both (these open_cell refl) h)

calm_pushed : (inserting : Bool) (columns col : ℕ) (rest : List ℕ) → list_all is_printable rest ≡ true → Calm (pushed_on inserting columns col rest)
calm_pushed inserting columns col [] h = no_bytes
calm_pushed inserting columns col (c ∷ cs) h =
    let parts = and_parts (is_printable c) (list_all is_printable cs) h in
    both (both (either (col == 0) (calm_put inserting (byte c (letter_plain c parts.0) no_bytes)) no_bytes) (calm_break (col + 1 == columns)))
    (calm_pushed inserting columns (left_col columns (col + 1)) cs parts.1)

calm_inserted : (columns col : ℕ) {character : List ℕ} (rest : List ℕ) → Calm character → list_all is_printable rest ≡ true → Calm (insertion_bytes columns col character rest)
calm_inserted columns col {character} rest h k =
    either (begins_two_rows columns col rest) (both (these begin_inserting refl) (both (put true) (these end_inserting refl))) (put false)
  where
    put : (inserting : Bool) → Calm (put_and_pushed inserting columns col character rest)
    put inserting = both (both (calm_put inserting h) (calm_break (col + 1 == columns))) (calm_pushed inserting columns (left_col columns (col + 1)) rest k)

calm_cells_out : (count : ℕ) → Calm (take_cells_out count)
calm_cells_out count = either (count == 1) (these (0x1B ∷ codes "[P") refl) (calm_sequence count 0x50 refl)

calm_pulled : (columns count start col : ℕ) (rest : List ℕ) → list_all is_printable rest ≡ true → Calm (pulled_back columns count start col rest)
calm_pulled columns count start col [] h = calm_cells_out count
calm_pulled columns count start col (c ∷ cs) h =
    let parts = and_parts (is_printable c) (list_all is_printable cs) h in
    both (both (either (col + count == columns) (both (calm_cells_out count) (calm_cols start col)) no_bytes) (either (nat_le columns (col + count)) (byte c (letter_plain c parts.0) no_bytes) no_bytes))
    (either (col + 1 == columns) (broken (calm_pulled columns count 0 0 cs parts.1)) (calm_pulled columns count start (col + 1) cs parts.1))

-- what may move is printable
pushed_printable : (r : Ruler) (l : Layout) (rest : List ℕ) → may_put_in r l rest ≡ true → list_all is_printable rest ≡ true
pushed_printable r l rest h =
    let a = and_parts (not l.has_info) _ h in
    let b = and_parts _ _ a.1 in
    let c = and_parts (nat_le l.cursor.row l.end.row) _ b.1 in
    (and_parts (nat_lt l.end.row r.rows) (list_all is_printable rest) c.1).1

pulled_printable : (r : Ruler) (l : Layout) (at : Position) (count : ℕ) (rest : List ℕ) → may_take_out r l at count rest ≡ true → list_all is_printable rest ≡ true
pulled_printable r l at count rest h =
    let a = and_parts (not l.has_info) _ h in
    let b = and_parts (nat_lt 0 count) _ a.1 in
    let c = and_parts (nat_le (at.col + count) r.columns) _ b.1 in
    (and_parts (nat_le count l.end.col) (list_all is_printable rest) c.1).1

-- ---- where the last drawing begins

none_begins : (b : ℕ) (bs : List ℕ) → not (b == 0x0D) ≡ true → begins_drawing (b ∷ bs) ≡ false
none_begins b bs h = grind (arith, nat_tests)

calm_none : {bs : List ℕ} → Calm bs → last_drawing bs ≡ None
calm_none no_bytes = refl
calm_none (byte b {bs} h q) = rw (calm_none q, none_begins b bs h) refl
calm_none (broken q) = ap (λ o. option_or (option_or o None) None) (calm_none q)

-- whatever is before it
pub last_behind : (a b c : List ℕ) → last_drawing b ≡ Some c → last_drawing (a ++ b) ≡ Some c
last_behind [] b c h = h
last_behind (x ∷ a) b c h = ap (λ o. option_or o (if begins_drawing (x ∷ (a ++ b)) then Some (x ∷ (a ++ b)) else None)) (last_behind a b c h)

last_here : (later : List ℕ) → Calm later → last_drawing (drawing_start ++ later) ≡ Some (drawing_start ++ later)
last_here later h = ap (λ o. option_or (option_or (option_or (option_or o None) None) None) (Some (drawing_start ++ later))) (calm_none h)

-- ---- steps

abbrev NotCleared : EditStep → Type 0
NotCleared (Draws v m Cleared) = ⊥
NotCleared step = ⊤

-- nothing is shown, or only a cursor was moved since
pub record Bare (x : Sight) : Type 0 where
  pub given : x.given ≡ false
  pub prompt : x.prompt ≡ []

cleared_or : (r : EditStep) → NotCleared r ⊎ ((x : Sight) → Bare (sight x r))
cleared_or (Draws v m Cleared) = inr (λ x. record { given = refl; prompt = refl })
cleared_or r = inl tt

-- without it the rows above stay
rows_stay : (r : EditStep) → NotCleared r → (over : List Placed) (top : ℕ) → (kept_by r over [] ≡ over) × (kept_by r top 0 ≡ top)
rows_stay (Draws v m Cleared) none over top = absurd none
rows_stay r none over top = (refl, refl)

module _ (s : Screen) (low : 2 ≤ s.columns) (high : s.columns ≤ 1000) (own : List ℕ) where
  some : 1 ≤ s.columns
  some = omega arith

  abbrev wide : Widths
  wide = widths s

  -- what a layout is measured by
  abbrev pub measured_by : Layout → Option TabStops × GraphemeClusterMode
  measured_by l = (l.tab_stops, l.grapheme_cluster_mode)

  abbrev measure : Option TabStops × GraphemeClusterMode
  measure = ((ruler_of s).tabs, s.mode)

  fits_in : (text : List ℕ) → AllFit s.columns wide.cluster (text_items wide text)
  fits_in = items_fit s.mode s.tab s.columns some

  calm_spans : (spans : List SgrSpan) (text : List ℕ) (col : ℕ) → are_styles spans ≡ true → Calm (bytes_of_all_painted s.columns (painted_text wide spans text) col)
  calm_spans spans text col are = calm_painted s.columns wide.cluster (painted_text wide spans text) col (text_painted s.columns wide spans text are (fits_in text))

  calm_styled : (styles : Styles) (prompt line info : List ℕ) → AreStyles styles → Calm (bytes_of_painted_texts s.columns wide styles prompt line info)
  calm_styled styles prompt line info are =
      let end = end_of s.columns (painted_text wide styles.prompt prompt) 0 in
      calm_three (calm_spans styles.prompt prompt 0 are.prompt) (calm_spans styles.line line end are.line)
      (calm_spans styles.info info (end_of s.columns (painted_text wide styles.line line) end) are.info)

  -- from the last whole drawing on they show it, on any blank rows
  pub record Anew (bytes : List ℕ) (l : Layout) (x : Sight) : Type 0 where
    pub earlier : List ℕ
    pub later : List ℕ
    pub bytes_are : bytes ≡ earlier ++ (drawing_start ++ later)
    pub calm_is : Calm later
    pub holds : (before : List ℕ) (over : List Placed) (top : ℕ) → Good s.columns wide before over (empty_view top)
        → DisplayHolds s (before ++ (drawing_start ++ later)) over top l x
    pub measure_is : measured_by l ≡ measure

  pub anew_last : (bytes : List ℕ) (l : Layout) (x : Sight) (a : Anew bytes l x) → last_drawing bytes ≡ Some (drawing_start ++ a.later)
  anew_last bytes l x a = ap last_drawing a.bytes_are ∙ last_behind a.earlier (drawing_start ++ a.later) (drawing_start ++ a.later) (last_here a.later a.calm_is)

  -- a whole drawing of these texts, whatever came before
  drawn_anew : (bytes : List ℕ) (row : ℕ) (l : Layout) (x : Sight) (texts : List ℕ) → measured_by l ≡ measure → Calm texts
      → ((before : List ℕ) (over : List Placed) (top : ℕ) → Good s.columns wide before over (empty_view top) → DisplayHolds s (before ++ (drawing_start ++ texts ++ [])) over top l x)
      → Anew (bytes ++ (control_sequence row 0x41 ++ drawing_start ++ texts ++ [])) l x
  drawn_anew bytes row l x texts same quiet on =
      let up = control_sequence row 0x41 in
      record {
        earlier = bytes ++ up;
        later = texts;
        bytes_are = ap (λ z. bytes ++ z) (append-nil (up ++ drawing_start ++ texts) ∙ append_assoc up drawing_start texts) ∙ sym (append_assoc bytes up (drawing_start ++ texts));
        calm_is = quiet;
        holds = λ before over top good. subst (λ z. DisplayHolds s (before ++ z) over top l x) (append-nil (drawing_start ++ texts)) (on before over top good);
        measure_is = same;
      }

  whole : (bytes : List ℕ) (m : Option Marks) (l : Layout) (prompt : List ℕ) (given : Bool) (text : List ℕ) (at : ℕ) (info : Option (List ℕ)) → Low s (sight_with m given prompt text at info)
      → (let a = full (ruler_of s) m l prompt given text at info in Anew (bytes ++ flat_map (bytes_of s) a.calls) a.layout (sight_with m given prompt text at info))
  whole bytes m l prompt given text at info rows =
      let new = (full (ruler_of s) m l prompt given text at info).layout in
      let spans = drawn_spans m given prompt text at (info_text info) in
      drawn_anew bytes l.cursor.row new (sight_with m given prompt text at info) (painted_drawing s.columns wide (styles_of spans) prompt text (info_text info) new.end new.cursor) refl
      (both (calm_styled (styles_of spans) prompt text (info_text info) (styles_are spans)) (calm_move new.end new.cursor))
      (λ before over top good. (let h = fresh_holds s low high before over top (fresh s.mode) good in drawn_holds s low high before over top m (fresh s.mode) no_sight prompt given text at info h.good h.cursor rows))

  -- calls that begin no drawing, and leave what is measured by
  abbrev Quiet : Layout → RedrawCalls → Type 0
  Quiet l q = (measured_by q.layout ≡ measured_by l) × Calm (flat_map (bytes_of s) q.calls)

  quiet_bell : (b : BellStyle) → Calm (bell_bytes b ++ [])
  quiet_bell Bell.Audible = these (0x07 ∷ []) refl
  quiet_bell _ = no_bytes

  quiet_move : (l : Layout) (to : Position) (b : Bool) → Quiet l (if b then nothing_asked l else move_call l to)
  quiet_move l to true = (refl, no_bytes)
  quiet_move l to false = (refl, both (calm_move l.cursor to) no_bytes)

  calm_letter : (c : ℕ) → is_printable c ≡ true → Calm (encode_utf8 c)
  calm_letter c h = subst Calm (sym (encode_ascii c (small c h))) (byte c (letter_plain c h) no_bytes)

  quiet_taken : (l : Layout) (count : ℕ) → Quiet l (erase_call l count)
  quiet_taken l count = (refl, both (both (calm_move l.cursor (erase_call l count).layout.end) (these erase_to_row_end refl)) no_bytes)

  quiet_put_in : (l : Layout) (c : ℕ) (rest : List ℕ) → is_printable c ≡ true → list_all is_printable rest ≡ true → Quiet l (put_in_short (ruler_of s) l c rest)
  quiet_put_in l c rest h k =
      let new = cell_on s.columns l.cursor in
      (refl, both (both (calm_inserted s.columns l.cursor.col rest (calm_letter c h) k) (calm_move (place_after_insertion l.cursor new (cell_on s.columns l.end)) new)) no_bytes)

  quiet_taken_out : (l : Layout) (cell : Position) (count : ℕ) (rest : List ℕ) → list_all is_printable rest ≡ true → Quiet l (taken_out_short l cell count rest)
  quiet_taken_out l cell count rest k =
      let from = place_after_deletion cell (column_back count l.end) in
      (refl, both (both (calm_move l.cursor cell) (both (calm_pulled s.columns count cell.col cell.col rest k) (calm_move from cell))) no_bytes)

  calm_in_fence : (text : List ℕ) {bytes : List ℕ} → Calm bytes → Calm (in_fence text bytes)
  calm_in_fence [] h = no_bytes
  calm_in_fence (b ∷ text) h = calm_fenced [] refl h

  calm_rest : (l : Layout) (m : Option Marks) (from : ℕ) (text : List ℕ) (at : ℕ) (info : Option (List ℕ)) → Calm (flat_map (bytes_of s) (rest_call (ruler_of s) m l from text at info).calls)
  calm_rest l m from text at info =
      let behind = info_text info in
      let styles = line_styles m text at behind in
      let are = styles_are (drawn_spans m true [] text at behind) in
      let cell = (ruler_of s).measure (take from text) l.prompt_size in
      let new = layout_of (ruler_of s) l.prompt_size true text at info in
      let col = (in_row s.columns cell).col in
      let end = end_of s.columns (painted_text wide (skip from styles.line) (drop from text)) col in
      let line = calm_spans (skip from styles.line) (drop from text) col (skip_styles from styles.line are.line) in
      both (both (both (calm_move l.cursor cell) (both (these erase_to_end refl) (both line (calm_in_fence behind (calm_spans styles.info behind end are.info))))) (calm_move new.end new.cursor)) no_bytes

  abbrev After : List ℕ → Layout → EditStep → Sight → Type 0
  After bytes l r x = Anew (bytes ++ flat_map (bytes_of s) (one (ruler_of s) l r).calls) (one (ruler_of s) l r).layout (sight x r)

  -- a step whose bytes begin no drawing
  kept_on_step : (r : EditStep) (bytes : List ℕ) (l : Layout) (x : Sight) → Quiet l (one (ruler_of s) l r) → Anew bytes l x → Fits own x r → LowStep s x r → NotCleared r → After bytes l r x
  kept_on_step r bytes l x quiet a fits rows none =
      let q = one (ruler_of s) l r in
      let more = flat_map (bytes_of s) q.calls in
      let y = sight x r in
      record {
        earlier = a.earlier;
        later = a.later ++ more;
        bytes_are = ap (λ z. z ++ more) a.bytes_are ∙ append_assoc a.earlier (drawing_start ++ a.later) more;
        calm_is = both a.calm_is quiet.1;
        holds = λ before over top good.
            let stay = rows_stay r none over top in
            let drawn = before ++ (drawing_start ++ a.later) in
            let h = step s low high own drawn over top l x r (a.holds before over top good) fits rows in
            subst (λ z. DisplayHolds s z over top q.layout y) (append_assoc before (drawing_start ++ a.later) more)
            (subst (λ t. DisplayHolds s (drawn ++ more) over t q.layout y) stay.1 (subst (λ ps. DisplayHolds s (drawn ++ more) ps (kept_by r top 0) q.layout y) stay.0 h));
        measure_is = quiet.0 ∙ a.measure_is;
      }

  -- the same, if its calls are these
  kept_on_as : (r : EditStep) (bytes : List ℕ) (l : Layout) (x : Sight) (q : RedrawCalls) → one (ruler_of s) l r ≡ q → Quiet l q → Anew bytes l x → Fits own x r → LowStep s x r → NotCleared r → After bytes l r x
  kept_on_as r bytes l x q is quiet a fits rows none = kept_on_step r bytes l x (subst (Quiet l) (sym is) quiet) a fits rows none

  abbrev by_whole : Value → Option Marks → Layout → List ℕ → List ℕ → ℕ → RedrawCalls
  by_whole v m l prompt text at = full (ruler_of s) (shown_marks v m) l prompt true text at None

  -- a step of one call, or drawn whole
  short_or : (r : EditStep) (bytes : List ℕ) (l : Layout) (x : Sight) (short drawn : RedrawCalls) (b : Bool) → one (ruler_of s) l r ≡ (if b then short else drawn)
      → (b ≡ true → Quiet l short) → Anew (bytes ++ flat_map (bytes_of s) drawn.calls) drawn.layout (sight x r) → Anew bytes l x → Fits own x r → LowStep s x r → NotCleared r → After bytes l r x
  short_or r bytes l x short drawn true is quiet w a fits rows none = kept_on_as r bytes l x short is (quiet refl) a fits rows none
  short_or r bytes l x short drawn false is quiet w a fits rows none = subst (λ (q : RedrawCalls). Anew (bytes ++ flat_map (bytes_of s) q.calls) q.layout (sight x r)) (sym is) w

  -- or drawn from a place on
  short_or_rest : (r : EditStep) (bytes : List ℕ) (l : Layout) (x : Sight) (short : RedrawCalls) (m : Option Marks) (from : ℕ) (text : List ℕ) (at : ℕ) (b : Bool)
      → one (ruler_of s) l r ≡ (if b then short else rest_call (ruler_of s) m l from text at None) → (b ≡ true → Quiet l short)
      → Anew bytes l x → Fits own x r → LowStep s x r → NotCleared r → After bytes l r x
  short_or_rest r bytes l x short m from text at true is quiet a fits rows none = kept_on_as r bytes l x short is (quiet refl) a fits rows none
  short_or_rest r bytes l x short m from text at false is quiet a fits rows none =
      kept_on_as r bytes l x (rest_call (ruler_of s) m l from text at None) is (sym a.measure_is, calm_rest l m from text at None) a fits rows none

  -- a step with no clearing of the screen
  step_anew : (r : EditStep) (bytes : List ℕ) (l : Layout) (x : Sight) → Anew bytes l x → Fits own x r → LowStep s x r → NotCleared r → After bytes l r x
  step_anew (Draws v m (Drawn prompt given text at info)) bytes l x a fits rows none = whole bytes (shown_marks v m) l prompt given text at info rows
  step_anew (Draws v m (Moved text at)) bytes l x a fits rows none =
      let to = (ruler_of s).measure (take at text) l.prompt_size in kept_on_step (Draws v m (Moved text at)) bytes l x (quiet_move l to (same_cell l.cursor to)) a fits rows none
  step_anew (Draws v m (Typed prompt c text at)) bytes l x a fits rows none =
      let typed = (let t : TypedFits x c text at = fits.2 in t.typed) in
      short_or (Draws v m (Typed prompt c text at)) bytes l x (char_call l c) (by_whole v m l prompt text at) (may_write_over (ruler_of s) l l.cursor 1) refl
      (λ is. (refl, both (calm_letter c (and_parts (is_printable c) (at_simple_end true x.line x.place) typed).0) no_bytes)) (whole bytes (shown_marks v m) l prompt true text at None rows) a fits rows none
  step_anew (Draws v m (Appended prompt c text at)) bytes l x a fits rows none =
      let drawn = by_whole v m l prompt text at in
      let tail = encode_utf8 c in
      short_or (Draws v m (Appended prompt c text at)) bytes l x (append_call (ruler_of s) l c) drawn (not l.has_info) (if_none l.has_info drawn (append_call (ruler_of s) l c))
      (λ is. (refl, both (calm_sent s.columns wide.cluster (text_items wide tail) (in_row s.columns l.cursor).col (fits_in tail)) no_bytes)) (whole bytes (shown_marks v m) l prompt true text at None rows) a fits rows none
  step_anew (Draws v m (Taken prompt count true text at)) bytes l x a fits rows none =
      short_or_rest (Draws v m (Taken prompt count true text at)) bytes l x (erase_call l count) (shown_marks v m) at text at (may_take l count) refl (λ is. quiet_taken l count) a fits rows none
  step_anew (Draws v m (Taken prompt count false text at)) bytes l x a fits rows none =
      short_or (Draws v m (Taken prompt count false text at)) bytes l x (erase_call l count) (by_whole v m l prompt text at) (may_take l count) refl
      (λ is. quiet_taken l count) (whole bytes (shown_marks v m) l prompt true text at None rows) a fits rows none
  step_anew (Draws v m (Erased prompt c text at)) bytes l x a fits rows none =
      let count = ((ruler_of s).measure (encode_utf8 c) origin).col in
      short_or_rest (Draws v m (Erased prompt c text at)) bytes l x (erase_call l count) (shown_marks v m) at text at (may_erase (ruler_of s) l c) refl (λ is. quiet_taken l count) a fits rows none
  step_anew (Draws v m (PutIn prompt c text at)) bytes l x a fits rows none =
      let rest = drop at text in
      let printable : is_printable c ≡ true = (let t : Replaces x x.place [] (c ∷ []) text = fits.2 in (and_parts (is_printable c) true t.printable).0) in
      short_or (Draws v m (PutIn prompt c text at)) bytes l x (put_in_short (ruler_of s) l c rest) (by_whole v m l prompt text at) (may_put_in (ruler_of s) l rest) refl
      (λ is. quiet_put_in l c rest printable (pushed_printable (ruler_of s) l rest is)) (whole bytes (shown_marks v m) l prompt true text at None rows) a fits rows none
  step_anew (Draws v m (TakenOut prompt count text at)) bytes l x a fits rows none =
      let rest = drop at text in
      let cell = (ruler_of s).measure (take at text) l.prompt_size in
      short_or_rest (Draws v m (TakenOut prompt count text at)) bytes l x (taken_out_short l cell count rest) (shown_marks v m) at text at (may_take_out (ruler_of s) l cell count rest) refl
      (λ is. quiet_taken_out l cell count rest (pulled_printable (ruler_of s) l cell count rest is)) a fits rows none
  step_anew (Draws v m (DrawnFrom prompt from text at info)) bytes l x a fits rows none =
      kept_on_step (Draws v m (DrawnFrom prompt from text at info)) bytes l x (sym a.measure_is, calm_rest l (shown_marks v m) from text at info) a fits rows none
  step_anew (Draws v m (Rewritten prompt from upto text at)) bytes l x a fits rows none =
      let cell = (ruler_of s).measure (take from text) l.prompt_size in
      let cursor = (ruler_of s).measure (take at text) l.prompt_size in
      let letters = slice_range text from upto in
      let t : (gone letters : List ℕ) × Replaces x from gone letters text × (length letters ≡ length gone) × (upto ≡ from + length letters) = fits.1 in
      let printable = ap (list_all is_printable) (rewritten_letters x from upto text t) ∙ t.2.printable in
      let written = both (calm_short l.cursor cell) (both (calm_all is_printable letter_plain letters printable) (calm_short (right (length letters) cell) cursor)) in
      short_or_rest (Draws v m (Rewritten prompt from upto text at)) bytes l x (write_over_call l letters cell cursor) (shown_marks v m) from text at (may_write_over (ruler_of s) l cell (length letters)) refl
      (λ is. (refl, both written no_bytes)) a fits rows none
  step_anew (Draws v m (Bared prompt text at)) bytes l x a fits rows none =
      let h : DisplayHolds s ([] ++ (drawing_start ++ a.later)) [] 0 l x = a.holds [] [] 0 (start_is_empty s low high) in
      let is = ap (λ b. if b then nothing_asked l else by_whole v m l prompt text at) (h.tells.given_is ∙ fits) in
      kept_on_as (Draws v m (Bared prompt text at)) bytes l x (nothing_asked l) is (refl, no_bytes) a fits rows none
  step_anew (Draws v m ToEnd) bytes l x a fits rows none = kept_on_step (Draws v m ToEnd) bytes l x (quiet_move l l.end (same_cell l.cursor l.end)) a fits rows none
  step_anew (Draws v m Beeped) bytes l x a fits rows none = kept_on_step (Draws v m Beeped) bytes l x (refl, quiet_bell s.bell) a fits rows none
  step_anew (Draws v m Cleared) bytes l x a fits rows none = absurd none
  step_anew r bytes l x a fits rows none = kept_on_step r bytes l x (refl, no_bytes) a fits rows none

  -- they show it so, or nothing is shown
  abbrev pub Either : List ℕ → Layout → Sight → Type 0
  Either bytes l x = Anew bytes l x ⊎ Bare x

  abbrev EitherAfter : List ℕ → Layout → EditStep → Sight → Type 0
  EitherAfter bytes l r x = Either (bytes ++ flat_map (bytes_of s) (one (ruler_of s) l r).calls) (one (ruler_of s) l r).layout (sight x r)

  not_given : (x : Sight) → Bare x → x.given ≡ true → ⊥
  not_given x b is = true≢false (sym is ∙ b.given)

  step_bare : (r : EditStep) (bytes : List ℕ) (l : Layout) (x : Sight) → Bare x → Fits own x r → LowStep s x r → EitherAfter bytes l r x
  step_bare (Draws v m (Drawn prompt given text at info)) bytes l x b fits rows = inl (whole bytes (shown_marks v m) l prompt given text at info rows)
  step_bare (Draws v m (Moved text at)) bytes l x b fits rows = inr (record { given = b.given; prompt = b.prompt })
  step_bare (Draws v m (Bared prompt text at)) bytes l x b fits rows = absurd (not_given x b fits)
  step_bare (Draws v m ToEnd) bytes l x b fits rows = inr (record { given = b.given; prompt = b.prompt })
  step_bare (Draws v m Cleared) bytes l x b fits rows = inr (record { given = refl; prompt = refl })
  step_bare (Draws v m Beeped) bytes l x b fits rows = inr b
  step_bare (Draws v m (DrawnFrom prompt from text at info)) bytes l x b fits rows = absurd (not_given x b fits.0)
  step_bare (Draws v m redraw) bytes l x b fits rows = absurd (not_given x b fits.0.given)
  step_bare r bytes l x b fits rows = inr b

  step_either : (r : EditStep) (bytes : List ℕ) (l : Layout) (x : Sight) → Either bytes l x → Fits own x r → LowStep s x r → EitherAfter bytes l r x
  step_either r bytes l x (inr b) fits rows = step_bare r bytes l x b fits rows
  step_either r bytes l x (inl a) fits rows = by (cleared_or r)
    where
      by : NotCleared r ⊎ ((x : Sight) → Bare (sight x r)) → EitherAfter bytes l r x
      by (inl none) = inl (step_anew r bytes l x a fits rows none)
      by (inr bare) = inr (bare x)

  joined : (r : EditStep) (rs : List EditStep) (bytes : List ℕ) (l : Layout)
      → (bytes ++ flat_map (bytes_of s) (one (ruler_of s) l r).calls) ++ bytes_for s (one (ruler_of s) l r).layout rs ≡ bytes ++ bytes_for s l (r ∷ rs)
  joined r rs bytes l =
      let q = one (ruler_of s) l r in
      append_assoc bytes (flat_map (bytes_of s) q.calls) (bytes_for s q.layout rs) ∙ ap (λ b. bytes ++ b) (sym (flat_map-append (bytes_of s) q.calls (calls_of_steps (ruler_of s) q.layout rs).calls))

  pub all_either : (rs : List EditStep) (bytes : List ℕ) (l : Layout) (x : Sight) → Either bytes l x → FitsAll own x rs → LowAll s x rs
      → Either (bytes ++ bytes_for s l rs) (calls_of_steps (ruler_of s) l rs).layout (sight_all x rs)
  all_either [] bytes l x h fits rows = subst (λ b. Either b l x) (sym (append-nil bytes)) h
  all_either (r ∷ rs) bytes l x h fits rows =
      let q = one (ruler_of s) l r in
      subst (λ b. Either b (calls_of_steps (ruler_of s) l (r ∷ rs)).layout (sight_all x (r ∷ rs))) (joined r rs bytes l)
      (all_either rs (bytes ++ flat_map (bytes_of s) q.calls) q.layout (sight x r) (step_either r bytes l x h fits.0 rows.0) fits.1 rows.1)

  -- none of the steps clears the screen
  abbrev pub NoneCleared : List EditStep → Type 0
  NoneCleared [] = ⊤
  NoneCleared (r ∷ rs) = NotCleared r × NoneCleared rs

  pub all_anew : (rs : List EditStep) (bytes : List ℕ) (l : Layout) (x : Sight) → Anew bytes l x → FitsAll own x rs → LowAll s x rs → NoneCleared rs
      → Anew (bytes ++ bytes_for s l rs) (calls_of_steps (ruler_of s) l rs).layout (sight_all x rs)
  all_anew [] bytes l x h fits rows none = subst (λ b. Anew b l x) (sym (append-nil bytes)) h
  all_anew (r ∷ rs) bytes l x h fits rows none =
      let q = one (ruler_of s) l r in
      subst (λ b. Anew b (calls_of_steps (ruler_of s) l (r ∷ rs)).layout (sight_all x (r ∷ rs))) (joined r rs bytes l)
      (all_anew rs (bytes ++ flat_map (bytes_of s) q.calls) q.layout (sight x r) (step_anew r bytes l x h fits.0 rows.0 none.0) fits.1 rows.1 none.1)
