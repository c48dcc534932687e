-- A text with styles as items, and their cells: each cluster has the style of its first byte.
use Rattle.std.specs.Prelude.{Bool, true, false, ℕ, replicate, List, [], ◌∷◌, ◌++◌, map, take, drop, length, if◌then◌else◌}
use Rattle.std.specs.List.{flat_map, list_all}
use Rattle.unicode_segmentation.specs.Grapheme.{graphemes}
use Rattle.line_buffer.specs.declared.layout.Position.{Position}
use Rattle.line_screen.specs.Colours.{SgrSpan}
use Rattle.line_screen.specs.Display.{Placed, is_printable}
use Rattle.line_screen.specs.Drawing.{Widths, DrawnItem, NewRow, drawn_item, split_rows, lay_one, after_one}

-- of each byte of a text; those after the last span have none
abbrev pub byte_styles : List SgrSpan → List (List ℕ)
byte_styles spans = flat_map (λ s. replicate s.len s.style) spans

-- of the first `n` bytes
abbrev pub first_styles : ℕ → List SgrSpan → List (List ℕ)
first_styles n spans = take n (byte_styles spans ++ replicate n [])

abbrev pub first_of : List (List ℕ) → List ℕ
first_of [] = []
first_of (style ∷ styles) = style

pub record StyledItem : Type 0 where
  pub item : DrawnItem
  pub style : List ℕ

-- of a row: its characters if all are printable ASCII
abbrev pub row_clusters : List ℕ → List (List ℕ)
row_clusters row = if list_all is_printable row then map (λ c. c ∷ []) row else graphemes true row

-- `styles`: those of the bytes from the first cluster on
abbrev pub styled_clusters : Widths → List (List ℕ) → List (List ℕ) → List StyledItem
styled_clusters wide styles [] = []
styled_clusters wide styles (cluster ∷ clusters) =
    record { item = drawn_item wide cluster; style = first_of styles }
    ∷ styled_clusters wide (drop (length cluster) styles) clusters

-- the newline before each row but the first has a style that is drawn nowhere
abbrev pub styled_rows : Widths → Bool → List (List ℕ) → List (List ℕ) → List StyledItem
styled_rows wide is_first styles [] = []
styled_rows wide is_first styles (row ∷ rows) =
    let own = if is_first then styles else drop 1 styles in
    (if is_first then [] else record { item = NewRow; style = [] } ∷ [])
    ++ styled_clusters wide own (row_clusters row)
    ++ styled_rows wide false (drop (length row) own) rows

abbrev pub styled_text : Widths → List SgrSpan → List ℕ → List StyledItem
styled_text wide spans text = styled_rows wide true (byte_styles spans) (split_rows text)

-- the cells that they take
abbrev pub lay : ℕ → List StyledItem → Position → List Placed
lay columns [] at = []
lay columns (x ∷ xs) at =
    lay_one columns x.style x.item at ++ lay columns xs (after_one columns x.item at)
