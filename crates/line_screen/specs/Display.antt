-- The meaning of bytes on a display: the part of ECMA-48 that a line editor sends. The display has
-- unlimited rows of `columns` columns. `wide` says of a text whether it is one cluster that fits on
-- a row, and how many columns it takes.
use Rattle.std.specs.Prelude.{ℕ, ◌+◌, ◌-◌, ◌*◌, ◌==◌, nat_lt, nat_le, Bool, not, ◌&&◌, ◌||◌, List, [], ◌∷◌, ◌++◌, length, map, codes, Option, Some, None, if◌then◌else◌}
use Rattle.std.specs.List.{list_all, filter}
use Rattle.std.specs.Option.{option_and_then, option_map_or}
use Rattle.line_buffer.specs.Cells.{origin}
use Rattle.line_buffer.specs.declared.layout.Position.{Position}
pub use Rattle.line_buffer.specs.Printable.{is_printable}

-- ---- cells

-- a cluster, the cell where it begins, the number of its cells, and its style: the numbers of the
-- control sequence SGR after its 0, each behind a semicolon; nothing if it has none. Every cell
-- without a cluster is blank
pub record Placed : Type 0 where
  pub row : ℕ
  pub col : ℕ
  pub width : ℕ
  pub bytes : List ℕ
  pub style : List ℕ

-- the cursor is after the last cell of its row if its column is the number of columns. `pen`: the
-- style of the text that follows
pub record Display : Type 0 where
  pub placed : List Placed
  pub cursor : Position
  pub pen : List ℕ

abbrev pub blank : Display
blank = record { placed = []; cursor = origin; pen = [] }

-- a cluster is in a place's row and ends at the place or before, or is in a row above
abbrev pub ends_before : Position → Placed → Bool
ends_before at p = nat_lt p.row at.row || ((p.row == at.row) && nat_le (p.col + p.width) at.col)

abbrev pub starts_before : Position → Placed → Bool
starts_before at p = nat_lt p.row at.row || ((p.row == at.row) && nat_lt p.col at.col)

-- the place is inside the cluster
abbrev pub is_cut : Position → Placed → Bool
is_cut at p = starts_before at p && not (ends_before at p)

-- they share a cell
abbrev pub touches : Position → ℕ → Placed → Bool
touches at width p =
    (p.row == at.row) && (nat_lt p.col (at.col + width) && nat_lt at.col (p.col + p.width))

-- ---- the effect of a piece of text

abbrev pub right : ℕ → Position → Position
right width at = record at { col = at.col + width }

-- neither the first nor the last of so many cells cuts the cluster
abbrev pub is_uncut : ℕ → Position → Placed → Bool
is_uncut width at p = not (is_cut at p) && not (is_cut (right width at) p)

abbrev pub cluster_placed_at : List ℕ → List ℕ → ℕ → Position → Placed
cluster_placed_at style bytes width at =
    record { row = at.row; col = at.col; width = width; bytes = bytes; style = style }

-- a new cluster at this place, after those that end before it
abbrev pub placed_in : Position → Placed → List Placed → List Placed
placed_in at new [] = new ∷ []
placed_in at new (p ∷ ps) =
    if ends_before at p then p ∷ placed_in at new ps else new ∷ p ∷ ps

-- in the cursor's row, in place of the clusters that stand there, of which none may be cut
abbrev pub put_cells : ℕ → ℕ → List ℕ → Display → Option Display
put_cells columns width bytes d =
    if nat_le (d.cursor.col + width) columns && list_all (is_uncut width d.cursor) d.placed
    then (let stay = filter (λ p. not (touches d.cursor width p)) d.placed in
    let new = cluster_placed_at d.pen bytes width d.cursor in
    Some (record d { placed = placed_in d.cursor new stay; cursor = right width d.cursor }))
    else None

-- one cell for each
abbrev pub put_letters : ℕ → List ℕ → Display → Option Display
put_letters columns [] d = Some d
put_letters columns (c ∷ cs) d =
    option_and_then (put_letters columns cs) (put_cells columns 1 (c ∷ []) d)

-- a run of text: printable ASCII alone, or one cluster
abbrev pub put_run : ℕ → (List ℕ → Option ℕ) → List ℕ → Display → Option Display
put_run columns wide run d =
    if list_all is_printable run then put_letters columns run d
    else option_and_then (λ width. put_cells columns width run d) (wide run)

-- ---- bytes, one after the other

-- what was read: a display, and after it the run of text that is still open; or a sequence that
-- isn't finished; or a display in insert mode, and the bytes that a sequence still needs. If bytes
-- have no meaning, neither has anything that follows.
pub data DisplayReading : Type 0 where
  Text : (display : Display) (run : List ℕ) → DisplayReading
  Escape : (display : Display) → DisplayReading
  Bracket : (display : Display) → DisplayReading
  Number : (display : Display) (count : ℕ) → DisplayReading
  Style : (display : Display) (parameters : List ℕ) → DisplayReading
  Inserts : (display : Display) (awaited : List ℕ) → DisplayReading
  Lost : DisplayReading

-- no ASCII control character
abbrev pub is_text : ℕ → Bool
is_text byte = nat_le 0x20 byte && not (byte == 0x7F)

abbrev pub is_digit : ℕ → Bool
is_digit byte = nat_le 0x30 byte && nat_le byte 0x39

abbrev pub at_cursor : Position → Display → Display
at_cursor at d = record d { cursor = at }

abbrev pub is_inside : ℕ → Display → Bool
is_inside columns d = nat_lt d.cursor.col columns

-- a terminal may fill what it erases, and a new row, with the style: so none may stand there
abbrev pub is_plain_pen : Display → Bool
is_plain_pen d = length d.pen == 0

-- CR goes to the row's start, LF a row down, BS a column to the left, BEL changes nothing; after
-- the last cell only CR or ESC may come
abbrev pub after_control : ℕ → Display → ℕ → DisplayReading
after_control columns d byte =
    if byte == 0x0D then Text (at_cursor (record { col = 0; row = d.cursor.row }) d) []
    else if byte == 0x1B then Escape d
    else if (byte == 0x0A) && (is_inside columns d && is_plain_pen d)
    then Text (at_cursor (record d.cursor { row = d.cursor.row + 1 }) d) []
    else if (byte == 0x08) && (is_inside columns d && nat_lt 0 d.cursor.col)
    then Text (at_cursor (record d.cursor { col = d.cursor.col - 1 }) d) []
    else if (byte == 0x07) && is_inside columns d then Text d []
    else Lost

abbrev pub stays_in_row : Position → Placed → Bool
stays_in_row at p = not (p.row == at.row) || nat_le (p.col + p.width) at.col

-- the display after an erasure, if the cursor is inside no cluster and no style stands
abbrev pub reading_after_erasure : (Position → Placed → Bool) → Display → DisplayReading
reading_after_erasure stays d =
    if list_all (λ p. not (is_cut d.cursor p)) d.placed && is_plain_pen d
    then Text (record d { placed = filter (stays d.cursor) d.placed }) [] else Lost

-- in a place's row, and not before the place
abbrev pub is_in_rest : Position → Placed → Bool
is_in_rest at p = (p.row == at.row) && nat_lt at.col (p.col + p.width)

-- the rest of the row goes a cell to the right, and the cluster in the row's last cell is lost
abbrev pub is_pushed_out : ℕ → Position → Placed → Bool
is_pushed_out columns at p = is_in_rest at p && (p.col + p.width == columns)

abbrev pub goes_right : Position → Placed → Placed
goes_right at p = if is_in_rest at p then record p { col = p.col + 1 } else p

-- no cluster is cut, neither at the cursor nor at the row's end
abbrev pub can_go_right : ℕ → Position → Placed → Bool
can_go_right columns at p =
    not (is_cut at p) && (not (is_pushed_out columns at p) || (p.width == 1))

abbrev pub cell_opened : ℕ → Display → DisplayReading
cell_opened columns d =
    if list_all (can_go_right columns d.cursor) d.placed && is_plain_pen d
    then (let stay = filter (λ p. not (is_pushed_out columns d.cursor p)) d.placed in
    Text (record d { placed = map (goes_right d.cursor) stay }) []) else Lost

-- the first `count` cells of the rest of the row go, and what follows goes that far to the left
abbrev pub is_taken_out : ℕ → Position → Placed → Bool
is_taken_out count at p = is_in_rest at p && not (is_in_rest (right count at) p)

abbrev pub goes_left : ℕ → Position → Placed → Placed
goes_left count at p = if is_in_rest (right count at) p then record p { col = p.col - count } else p

abbrev pub cells_taken_out : ℕ → ℕ → Display → DisplayReading
cells_taken_out columns count d =
    if nat_le (d.cursor.col + count) columns
    && (list_all (is_uncut count d.cursor) d.placed && is_plain_pen d)
    then (let stay = filter (λ p. not (is_taken_out count d.cursor p)) d.placed in
    Text (record d { placed = map (goes_left count d.cursor) stay }) []) else Lost

-- ESC [ m (SGR) ends the style that stands, ESC [ 0 ; .. m sets one. ESC [ J (ED) keeps everything
-- that begins before the cursor. ESC [ K (EL) keeps everything except what ends after the cursor in
-- its row. ESC [ H (CUP) goes to the first cell. ESC [ @ (ICH) opens a cell at the cursor, and
-- ESC [ P (DCH) takes one out
abbrev pub plain_sequence : ℕ → Display → ℕ → DisplayReading
plain_sequence columns d byte =
    if byte == 0x6D then Text (record d { pen = [] }) []
    else if byte == 0x30 then Style d []
    else if not (is_inside columns d) then Lost
    else if byte == 0x4A then reading_after_erasure starts_before d
    else if byte == 0x4B then reading_after_erasure stays_in_row d
    else if byte == 0x48 then Text (at_cursor origin d) []
    else if byte == 0x40 then cell_opened columns d
    else if byte == 0x50 then cells_taken_out columns 1 d
    else Lost

-- ESC [ n A (CUU) up, B (CUD) down, C (CUF) right, D (CUB) left, without leaving the display; there
-- is no last row. ESC [ n P (DCH) takes cells out of the cursor's row. ESC [ 4 h (SM, IRM) begins
-- insert mode
abbrev pub numbered_sequence : ℕ → Display → ℕ → ℕ → DisplayReading
numbered_sequence columns d count final =
    let at = d.cursor in
    if not (is_inside columns d) then Lost
    else if (final == 0x41) && nat_le count at.row
    then Text (at_cursor (record at { row = at.row - count }) d) []
    else if final == 0x42 then Text (at_cursor (record at { row = at.row + count }) d) []
    else if (final == 0x43) && nat_lt (at.col + count) columns
    then Text (at_cursor (record at { col = at.col + count }) d) []
    else if (final == 0x44) && nat_le count at.col
    then Text (at_cursor (record at { col = at.col - count }) d) []
    else if final == 0x50 then cells_taken_out columns count d
    else if (final == 0x68) && ((count == 4) && is_plain_pen d) then Inserts d [] else Lost

-- the parameters of a style: digits and semicolons
abbrev pub is_parameter : ℕ → Bool
is_parameter byte = is_digit byte || (byte == 0x3B)

abbrev pub style_sequence : Display → List ℕ → ℕ → DisplayReading
style_sequence d parameters byte =
    if is_parameter byte then Style d (parameters ++ byte ∷ [])
    else if byte == 0x6D then Text (record d { pen = parameters }) []
    else Lost

-- a letter in the cell that was opened for it
abbrev pub letter_inserted : ℕ → ℕ → DisplayReading → DisplayReading
letter_inserted columns c (Text d run) =
    option_map_or (λ put. Inserts put []) (put_cells columns 1 (c ∷ []) d) Lost
letter_inserted columns c reading = Lost

-- control characters keep their meaning, and ESC begins ESC [ 4 l (RM, IRM), which ends insert mode
abbrev pub control_in_insert_mode : DisplayReading → DisplayReading
control_in_insert_mode (Text d run) = Inserts d []
control_in_insert_mode (Escape d) = Inserts d (codes "[4l")
control_in_insert_mode reading = Lost

-- in insert mode printable ASCII is put in as by ESC [ @ and the letter, each at once
abbrev pub step_in_insert_mode : ℕ → Display → List ℕ → ℕ → DisplayReading
step_in_insert_mode columns d [] byte =
    if is_printable byte then letter_inserted columns byte (plain_sequence columns d 0x40)
    else control_in_insert_mode (after_control columns d byte)
step_in_insert_mode columns d (next ∷ []) byte = if byte == next then Text d [] else Lost
step_in_insert_mode columns d (next ∷ more) byte = if byte == next then Inserts d more else Lost

-- a number is written without leading zeros, so it is at least 1
abbrev pub step : ℕ → (List ℕ → Option ℕ) → DisplayReading → ℕ → DisplayReading
step columns wide (Text d run) byte =
    if is_text byte then Text d (run ++ byte ∷ [])
    else option_map_or (λ put. after_control columns put byte) (put_run columns wide run d) Lost
step columns wide (Escape d) byte = if byte == 0x5B then Bracket d else Lost
step columns wide (Bracket d) byte =
    if nat_le 0x31 byte && nat_le byte 0x39 then Number d (byte - 0x30)
    else plain_sequence columns d byte
step columns wide (Number d count) byte =
    if is_digit byte then Number d (count * 10 + (byte - 0x30))
    else numbered_sequence columns d count byte
step columns wide (Style d parameters) byte = style_sequence d parameters byte
step columns wide (Inserts d awaited) byte = step_in_insert_mode columns d awaited byte
step columns wide Lost byte = Lost

abbrev pub reading_after_bytes : ℕ → (List ℕ → Option ℕ) → DisplayReading → List ℕ → DisplayReading
reading_after_bytes columns wide r [] = r
reading_after_bytes columns wide r (byte ∷ bytes) = reading_after_bytes columns wide
    (step columns wide r byte) bytes

abbrev pub display_of_reading : ℕ → (List ℕ → Option ℕ) → DisplayReading → Option Display
display_of_reading columns wide (Text d run) = put_run columns wide run d
display_of_reading columns wide reading = None

abbrev pub start : DisplayReading
start = Text blank []

-- the meaning of bytes on a blank display, if they have one
abbrev pub meaning : ℕ → (List ℕ → Option ℕ) → List ℕ → Option Display
meaning columns wide bytes = display_of_reading columns wide
    (reading_after_bytes columns wide start bytes)

-- a cell of a display: blank, the first of a cluster, or a further one
pub data Cell : Type 0 where
  Blank : Cell
  Head : (bytes : List ℕ) → Cell
  Tail : Cell

abbrev pub cell_at : List Placed → ℕ → ℕ → Cell
cell_at [] row col = Blank
cell_at (p ∷ ps) row col =
    if (p.row == row) && (p.col == col) then Head p.bytes
    else if (p.row == row) && (nat_lt p.col col && nat_lt col (p.col + p.width)) then Tail
    else cell_at ps row col

-- of the cluster that a cell belongs to; a blank cell has none
abbrev pub style_at : List Placed → ℕ → ℕ → List ℕ
style_at [] row col = []
style_at (p ∷ ps) row col =
    if (p.row == row) && (nat_le p.col col && nat_lt col (p.col + p.width)) then p.style
    else style_at ps row col
