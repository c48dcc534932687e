-- Drawings with styles: texts with a style for each cluster, and the bytes that draw them. Each
-- cluster has the cells that it has without styles.
use Rattle.std.specs.Prelude.{◌≡◌, option_map, option_copied, option_to_list, Result, ℕ, ◌+◌, ◌-◌, ◌==◌, nat_lt, nat_le, Bool, true, false, List, [], ◌∷◌, ◌++◌, length, take, drop, Option, if◌then◌else◌, map}
use Rattle.std.specs.List.{list_all, flat_map}
use Rattle.std.specs.Option.{option_map_or}
use Rattle.unicode_segmentation.specs.Grapheme.{graphemes}
use Rattle.line_buffer.specs.declared.layout.Position.{Position}
use Rattle.line_buffer.specs.Width.{tab_width}
use Rattle.line_screen.specs.Display.{is_printable, is_parameter}
use Rattle.line_config.specs.declared.device.DeviceFailed.{DeviceFailed}
use Rattle.line_help.specs.declared.helpers.style.Mark.{Mark}
use Rattle.line_help.specs.declared.helpers.style.Span as span
use Rattle.line_help.specs.Paints.{Marks, first_mark}
use Rattle.line_screen.specs.declared.drawing.painted.Brush as brush
use Rattle.line_screen.specs.declared.drawing.painted.Spans as spans
use Rattle.line_screen.specs.declared.drawing.whole.Painting as painting
use Rattle.line_screen.specs.declared.drawing.rest.Rest as rest
use Rattle.line_screen.specs.Styles.{numbers}
use Rattle.line_screen.specs.Drawing.{SendsTo, DrawnItem, Widths, blanks, is_letter, drawn_item, split_rows, row_break, no_style, break_if, break_unless, fitted_col, bytes_of_item, col_after, in_fence, erase_to_end, clearing_bytes, move_bytes, NewRow, Letter, Cluster, Tab}
use Rattle.line_screen.specs.Measure.{in_row}

-- ---- styles

-- so many bytes of a text have this style: the rest of the control sequence SGR after its 0, as
-- `;1;34`; nothing: no style
pub record SgrSpan : Type 0 where
  pub len : ℕ
  pub style : List ℕ

-- digits and semicolons
abbrev pub is_style : List ℕ → Bool
is_style style = list_all is_parameter style

abbrev pub are_styles : List SgrSpan → Bool
are_styles spans = list_all (λ s. is_style s.style) spans

-- what is left of them after so many bytes
abbrev pub skip : ℕ → List SgrSpan → List SgrSpan
skip n [] = []
skip n (s ∷ spans) =
    if nat_lt n s.len then record s { len = s.len - n } ∷ spans else skip (n - s.len) spans

-- the style of the first byte; what stands after the last span has none
abbrev pub first_style : List SgrSpan → List ℕ
first_style [] = []
first_style (s ∷ spans) = if s.len == 0 then first_style spans else s.style

-- ESC [ 0 ; 1 ; 34 m sets this style and no other, ESC [ m none
abbrev pub style_bytes : List ℕ → List ℕ
style_bytes [] = no_style
style_bytes (c ∷ style) = 0x1B ∷ 0x5B ∷ 0x30 ∷ c ∷ style ++ 0x6D ∷ []

-- ---- a text as items with styles

-- an item without style; a style that begins, or ends; a letter between these; and a cluster, or a
-- tab, with a style of its own
pub data PaintedItem : Type 0 where
  Bare : (item : DrawnItem) → PaintedItem
  Begins : (style : List ℕ) → PaintedItem
  Shaded : (style : List ℕ) (c : ℕ) → PaintedItem
  Fenced : (style : List ℕ) (bytes : List ℕ) (width : ℕ) → PaintedItem
  Padded : (style : List ℕ) (apart : ℕ) → PaintedItem

-- the same without styles
abbrev pub items_without_style : PaintedItem → List DrawnItem
items_without_style (Bare item) = item ∷ []
items_without_style (Begins style) = []
items_without_style (Shaded style c) = Letter c ∷ []
items_without_style (Fenced style bytes width) = Cluster bytes width ∷ []
items_without_style (Padded style apart) = Tab apart ∷ []

-- the column after items
abbrev pub end_of : ℕ → List PaintedItem → ℕ → ℕ
end_of columns xs col = col_after columns (flat_map items_without_style xs) col

abbrev pub bare_letters : List ℕ → List PaintedItem
bare_letters letters = map Bare (map Letter letters)

-- letters of one style, between its beginning and its end
abbrev pub letters_in_style : List ℕ → List ℕ → List PaintedItem
letters_in_style style [] = []
letters_in_style [] (c ∷ letters) = bare_letters (c ∷ letters)
letters_in_style (p ∷ style) (c ∷ letters) =
    Begins (p ∷ style) ∷ (map (Shaded (p ∷ style)) (c ∷ letters) ++ Begins [] ∷ [])

-- a row of printable ASCII, span by span
abbrev pub painted_letters : List SgrSpan → List ℕ → List PaintedItem
painted_letters [] letters = bare_letters letters
painted_letters (s ∷ spans) letters =
    letters_in_style s.style (take s.len letters) ++ painted_letters spans (drop s.len letters)

-- a cluster has the style of its first byte
abbrev pub painted_item : List ℕ → DrawnItem → List PaintedItem
painted_item [] item = Bare item ∷ []
painted_item (p ∷ style) NewRow = Bare NewRow ∷ []
painted_item (p ∷ style) (Letter c) = letters_in_style (p ∷ style) (c ∷ [])
painted_item (p ∷ style) (Cluster bytes width) = Fenced (p ∷ style) bytes width ∷ []
painted_item (p ∷ style) (Tab apart) = Padded (p ∷ style) apart ∷ []

-- the clusters of a row, after letters: letters side by side are drawn span by span, too
abbrev pub painted_clusters : Widths → List SgrSpan → List ℕ → List (List ℕ) → List PaintedItem
painted_clusters wide spans letters [] = painted_letters spans letters
painted_clusters wide spans letters (cluster ∷ clusters) =
    if is_letter cluster then painted_clusters wide spans (letters ++ cluster) clusters
    else ((painted_letters spans letters
    ++ painted_item (first_style (skip (length letters) spans)) (drawn_item wide cluster))
    ++ painted_clusters wide (skip (length cluster) (skip (length letters) spans)) [] clusters)

abbrev pub painted_row : Widths → List SgrSpan → List ℕ → List PaintedItem
painted_row wide spans row = if list_all is_printable row then painted_letters spans row
    else painted_clusters wide spans [] (graphemes true row)

-- the first row, or a row after another, and those after it with what is left of the spans
abbrev pub painted_rows : Widths → Bool → List SgrSpan → List (List ℕ) → List PaintedItem
painted_rows wide is_first spans [] = []
painted_rows wide is_first spans (row ∷ rows) =
    (if is_first then painted_row wide spans row
    else Bare NewRow ∷ painted_row wide (skip 1 spans) row)
    ++ painted_rows wide false (skip (length row) (if is_first then spans else skip 1 spans)) rows

abbrev pub painted_text : Widths → List SgrSpan → List ℕ → List PaintedItem
painted_text wide spans text = painted_rows wide true spans (split_rows text)

-- ---- the bytes that draw them

-- a row begins without style, so that a terminal that fills new rows fills them plain
abbrev pub bytes_of_painted : ℕ → PaintedItem → ℕ → List ℕ
bytes_of_painted columns (Bare item) col = bytes_of_item columns item col
bytes_of_painted columns (Begins style) col = style_bytes style
bytes_of_painted columns (Shaded style c) col =
    c ∷ (if col + 1 == columns then no_style ++ row_break ++ style_bytes style else [])
bytes_of_painted columns (Fenced style bytes width) col =
    break_unless (nat_le (col + width) columns) ++ (style_bytes style ++ bytes ++ no_style)
    ++ break_if (fitted_col columns width col + width == columns)
bytes_of_painted columns (Padded style apart) col =
    let width = tab_width columns apart col in
    (style_bytes style ++ blanks width ++ no_style) ++ break_if (col + width == columns)

abbrev pub bytes_of_all_painted : ℕ → List PaintedItem → ℕ → List ℕ
bytes_of_all_painted columns [] col = []
bytes_of_all_painted columns (x ∷ xs) col = bytes_of_painted columns x col
    ++ bytes_of_all_painted columns xs (col_after columns (items_without_style x) col)

-- printable ASCII that doesn't fill its row, without rows: letters of one style, between its
-- beginning and its end
abbrev pub letters_within : List ℕ → List ℕ → List ℕ
letters_within style [] = []
letters_within [] (c ∷ letters) = c ∷ letters
letters_within (p ∷ style) (c ∷ letters) = style_bytes (p ∷ style) ++ (c ∷ letters) ++ no_style

-- the same span by span
abbrev pub spans_within : List SgrSpan → List ℕ → List ℕ
spans_within [] letters = letters
spans_within (s ∷ spans) letters =
    letters_within s.style (take s.len letters) ++ spans_within spans (drop s.len letters)

-- ---- whole drawings

-- the styles of prompt, line, and the hint or message after it
pub record Styles : Type 0 where
  pub prompt : List SgrSpan
  pub line : List SgrSpan
  pub info : List SgrSpan

abbrev pub no_styles : Styles
no_styles = record { prompt = []; line = []; info = [] }

pub record AreStyles (styles : Styles) : Type 0 where
  pub prompt : are_styles styles.prompt ≡ true
  pub line : are_styles styles.line ≡ true
  pub info : are_styles styles.info ≡ true

abbrev pub bytes_of_painted_texts : ℕ → Widths → Styles → List ℕ → List ℕ → List ℕ → List ℕ
bytes_of_painted_texts columns wide styles prompt line info =
    let a = painted_text wide styles.prompt prompt in let b = painted_text wide styles.line line in
    let c = painted_text wide styles.info info in let end = end_of columns a 0 in
    no_style ++ bytes_of_all_painted columns a 0 ++ no_style ++ bytes_of_all_painted columns b end
    ++ no_style ++ bytes_of_all_painted columns c (end_of columns b end) ++ no_style

-- in place of an older drawing with its cursor in this row, if there is one; and then the way from
-- the end to the cursor
abbrev pub painted_bytes : ℕ → Widths → Styles → Option ℕ → List ℕ → List ℕ → List ℕ
    → Position → Position → List ℕ
painted_bytes columns wide styles old_row prompt line info finish cursor =
    option_map_or clearing_bytes old_row []
    ++ (bytes_of_painted_texts columns wide styles prompt line info ++ move_bytes finish cursor)

-- the rest of a line from a place on, with what is left of its spans there, in a column, and what
-- stands after it
abbrev pub rest_bytes : ℕ → Widths → Styles → List ℕ → ℕ → List ℕ → ℕ → List ℕ
rest_bytes columns wide styles text from info col =
    let items = painted_text wide (skip from styles.line) (drop from text) in
    let behind = painted_text wide styles.info info in
    bytes_of_all_painted columns items col
    ++ in_fence info (bytes_of_all_painted columns behind (end_of columns items col))

-- a move, everything from there on erased, the rest drawn there, and the move to the cursor
abbrev pub rest_drawing : ℕ → Widths → Styles → List ℕ → ℕ → List ℕ → Position → Position
    → Position → Position → List ℕ
rest_drawing columns wide styles text from info old at finish cursor =
    (move_bytes old at
    ++ (erase_to_end ++ rest_bytes columns wide styles text from info (in_row columns at).col))
    ++ move_bytes finish cursor

-- ---- the spans of a highlighter

abbrev pub span_of : span.Span → SgrSpan
span_of s = record { len = s.len; style = numbers s.style }

-- the spans of a text from a mark on, if there is a highlighter
abbrev pub brush_paints : {H : Type 0} → (H → Marks) → brush.Brush H → Mark → List span.Span
brush_paints marks b from = option_map_or (λ (m : Marks). m.paints b.part b.text.now from)
    (option_map marks (option_copied b.highlighter)) []

-- the remaining spans: what is left of one, and those from a mark on
abbrev pub spans_in : (Mark → List span.Span) → spans.Spans → List SgrSpan
spans_in paints s = map span_of (option_to_list s.first ++ paints s.mark)

abbrev pub brush_spans : {H : Type 0} → (H → Marks) → brush.Brush H → List SgrSpan
brush_spans marks b = map span_of (brush_paints marks b first_mark)

abbrev pub styles_in : {H : Type 0} → (H → Marks) → painting.Painting H → Styles
styles_in marks p =
    let of = brush_spans marks in
    record { prompt = of p.prompt; line = of p.line; info = of p.info }

-- the styles of a line and of what stands after it
abbrev pub styles_after : {H : Type 0} → (H → Marks) → rest.Rest H → Styles
styles_after marks r =
    record { prompt = []; line = brush_spans marks r.line; info = brush_spans marks r.info }

-- a call sends the bytes of items with styles, from a column on
abbrev pub SendsPainted : {D : Type 0} → List PaintedItem → ℕ → ℕ → (D → List ℕ) → (D → Bool)
    → D → D → Result ℕ DeviceFailed → Type 0
SendsPainted xs start columns = SendsTo (bytes_of_all_painted columns xs start)
    (end_of columns xs start) columns
