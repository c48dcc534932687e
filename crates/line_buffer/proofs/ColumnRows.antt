-- Widths, ranges of rows, and motions up and down, computed at some lines.
use Rattle.std.proofs.Common.{◌≡◌, ℕ, true, List, [], ◌∷◌, ◌++◌, Some, None, refl, codes, encode_utf8_all, Option}
use Rattle.unicode_segmentation.proofs.Computing.{unicode_segmentation}
use Rattle.unicode_width.proofs.Computing.{unicode_width}
use Rattle.line_buffer.specs.declared.layout.GraphemeClusterMode.TheVariants.{Unicode, WcWidth, NoZwj}
use Rattle.line_buffer.specs.declared.layout.TabStops.{TabStops}
use Rattle.line_buffer.specs.Columns.{cursor_column, place_in_row, place_at_column, line_up, line_down}
use Rattle.line_buffer.specs.Line.{Line}
use Rattle.line_buffer.specs.Rows.{behind_newlines, rows_up, rows_down}
use Rattle.line_buffer.specs.Width.{width_of}

abbrev at : List ℕ → ℕ → Line
at text place = record { text = text; place = place; growth = true; limit = 0 }

-- a woman and a microscope, joined: a scientist
abbrev scientist : List ℕ
scientist = encode_utf8_all (0x1F469 ∷ 0x200D ∷ 0x1F52C ∷ [])

-- by clusters, by characters, and unjoined
scientist_widths :
    (width_of Unicode scientist ≡ 2)
    × (width_of WcWidth scientist ≡ 4)
    × (width_of NoZwj scientist ≡ 4)
unfolding unicode_width
scientist_widths = (refl, refl, refl)

-- a character without a width of its own
newline_alone : width_of WcWidth (10 ∷ []) ≡ 0
unfolding unicode_width
newline_alone = refl

abbrev three : List ℕ
three = codes "abc\n\nvwxyz"

-- up by 2, 1 and too many rows, and in the first row
ranges_up :
    (rows_up 2 (at three 8) ≡ Some (0, 10))
    × (rows_up 1 (at three 8) ≡ Some (4, 10))
    × (rows_up 9 (at three 8) ≡ Some (0, 10))
    × (rows_up 1 (at three 3) ≡ None)
unfolding behind_newlines
ranges_up = (refl, refl, refl, refl)

-- down by 1 and too many rows, and in the last row
ranges_down :
    (rows_down 1 (at three 2) ≡ Some (0, 5))
    × (rows_down 9 (at three 2) ≡ Some (0, 10))
    × (rows_down 1 (at three 5) ≡ None)
unfolding behind_newlines
ranges_down = (refl, refl, refl)

-- the column is kept, also behind a prompt, from behind one, and under one
columns_kept :
    (line_up Unicode None 0 2 (at three 7) ≡ Some 2)
    × (line_up Unicode None 2 2 (at three 8) ≡ Some 1)
    × (line_down Unicode None 2 2 (at three 1) ≡ Some 8)
    × (line_up Unicode None 7 2 (at three 8) ≡ Some 0)
unfolding unicode_width unicode_segmentation behind_newlines line_up line_down cursor_column place_in_row place_at_column
columns_kept = (refl, refl, refl, refl)

-- two characters of two columns each above three of one
abbrev wide : List ℕ
wide = encode_utf8_all (0x6F22 ∷ 0x5B57 ∷ 10 ∷ 0x61 ∷ 0x62 ∷ 0x63 ∷ [])

-- into one, and from one
wide_characters :
    (line_up Unicode None 0 1 (at wide 10) ≡ Some 3)
    × (line_down Unicode None 0 1 (at wide 3) ≡ Some 9)
unfolding unicode_width unicode_segmentation behind_newlines line_up line_down cursor_column place_in_row place_at_column
wide_characters = (refl, refl)

abbrev scientist_above : List ℕ
scientist_above = scientist ++ codes "z\nabcd"

-- by clusters, by characters, and unjoined
up_by_modes :
    (line_up Unicode None 0 1 (at scientist_above 16) ≡ Some 12)
    × (line_up WcWidth None 0 1 (at scientist_above 16) ≡ Some 0)
    × (line_up NoZwj None 0 1 (at scientist_above 17) ≡ Some 11)
unfolding unicode_width unicode_segmentation behind_newlines line_up line_down cursor_column place_in_row place_at_column
up_by_modes = (refl, refl, refl)

-- tabs that are drawn as blanks, on a display of so many columns
abbrev tabs : ℕ → ℕ → Option TabStops
tabs columns apart = Some (record { columns = columns; apart = apart })

abbrev under_a_tab : List ℕ
under_a_tab = codes "\tx\nabcdefghijkl"

-- from column 10, and from columns 8 and 7 to the tab's end and before it
up_around_a_tab :
    (line_up Unicode (tabs 80 8) 0 1 (at under_a_tab 13) ≡ Some 2)
    × (line_up Unicode (tabs 80 8) 0 1 (at under_a_tab 11) ≡ Some 1)
    × (line_up Unicode (tabs 80 8) 0 1 (at under_a_tab 10) ≡ Some 0)
unfolding unicode_width unicode_segmentation behind_newlines line_up line_down cursor_column place_in_row place_at_column
up_around_a_tab = (refl, refl, refl)

-- stops are counted from the first column: after a prompt of 2 the tab has 6 blanks
from_a_prompt :
    (line_up Unicode (tabs 80 8) 2 1 (at under_a_tab 11) ≡ Some 1)
    × (line_down Unicode (tabs 80 8) 0 1 (at under_a_tab 1) ≡ Some 11)
unfolding unicode_width unicode_segmentation behind_newlines line_up line_down cursor_column place_in_row place_at_column
from_a_prompt = (refl, refl)

-- a row of 5 columns: the tab ends with it
up_to_a_rows_end : line_up Unicode (tabs 5 8) 0 1 (at under_a_tab 8) ≡ Some 1
unfolding unicode_width unicode_segmentation behind_newlines line_up line_down cursor_column place_in_row place_at_column
up_to_a_rows_end = refl

-- a stop in each 0 columns is one in each column
up_without_stops : line_up Unicode (tabs 80 0) 0 1 (at under_a_tab 4) ≡ Some 1
unfolding unicode_width unicode_segmentation behind_newlines line_up line_down cursor_column place_in_row place_at_column
up_without_stops = refl
