-- The columns that a text takes in a terminal, depending on how the terminal counts those of a
-- cluster, and with tabs that are drawn as blanks. And the characters before which a text may be
-- parted: nothing that follows them changes the columns of what precedes them.
use Rattle.std.specs.Prelude.{ℕ, ◌==◌, min, false, List, chars, sum_by, unwrap_or, ◌+◌, ◌-◌, ◌%◌, max, [], ◌∷◌, Option, Some, None, Bool, true, not, ◌&&◌, ◌||◌, nat_le, nat_lt}
use Rattle.std.specs.List.{slice_split}
use Rattle.unicode_width.specs.Width.{str_width, char_width}
use Rattle.line_buffer.specs.declared.layout.GraphemeClusterMode.{GraphemeClusterMode}
use Rattle.line_buffer.specs.declared.layout.GraphemeClusterMode.TheVariants.{Unicode, WcWidth, NoZwj}
use Rattle.line_buffer.specs.declared.layout.TabStops.{TabStops}
use Rattle.std.specs.Int.{is_in_range}
use Rattle.std.specs.Option.{option_map_or}
use Rattle.ucd_emoji.specs.Binary.{is_emoji_variation_base}

-- a character by itself, 0 if it has no width
abbrev pub char_columns_of : ℕ → ℕ
char_columns_of c = unwrap_or (char_width false c) 0

-- of characters; by `NoZwj` of each part between joiners
abbrev pub columns_of : GraphemeClusterMode → List ℕ → ℕ
columns_of Unicode cs = str_width false cs
columns_of WcWidth cs = sum_by char_columns_of cs
columns_of NoZwj cs = sum_by (str_width false) (slice_split (λ c. c == 0x200D) cs)

-- of a text: at most the greatest number of columns
abbrev pub width_of : GraphemeClusterMode → List ℕ → ℕ
width_of mode text = min (columns_of mode (chars text)) 65535

-- the blanks of a tab in a column of a row of so many columns: up to the next stop, or to the row's
-- end. Stops 0 columns apart count as stops 1 apart
abbrev pub tab_width : ℕ → ℕ → ℕ → ℕ
tab_width columns apart col = min (max 1 apart - col % max 1 apart) (columns - col)

-- the column after a tab, in a row that goes on over several rows of the display
abbrev pub tab_end : TabStops → ℕ → ℕ
tab_end stops col =
    let columns = max 1 stops.columns in
    col + tab_width columns stops.apart (col % columns)

-- the column after the parts of a text between tabs
abbrev pub parts_end : GraphemeClusterMode → TabStops → ℕ → List (List ℕ) → ℕ
parts_end mode stops col [] = col
parts_end mode stops col (part ∷ []) = col + width_of mode part
parts_end mode stops col (part ∷ parts) =
    parts_end mode stops (tab_end stops (col + width_of mode part)) parts

-- the column after a text that begins in a column
abbrev pub column_after : GraphemeClusterMode → Option TabStops → ℕ → List ℕ → ℕ
column_after mode None col text = col + width_of mode text
column_after mode (Some stops) col text =
    parts_end mode stops col (slice_split (λ byte. byte == 0x09) text)

abbrev pub is_flag_letter : ℕ → Bool
is_flag_letter = is_in_range 0x1F1E6 0x1F1FF

-- a newline, the joiner of Tifinagh, vowel signs of Kirat Rai, letters of flags
abbrev pub looks_ahead : ℕ → Bool
looks_ahead c =
    ((c == 0x0A) || (c == 0x2D7F)) || (is_in_range 0x16D67 0x16D68 c || is_flag_letter c)

-- any other character that has columns by itself, and control characters
abbrev pub is_solid : ℕ → Bool
is_solid c = not (looks_ahead c) && (nat_le c 0xA0 || nat_lt 0 (char_columns_of c))

-- it is read in another way before a mark that has no columns: characters that a selector makes an
-- emoji, and consonants of Tifinagh
abbrev pub takes_marks : ℕ → Bool
takes_marks c = is_emoji_variation_base c || (is_in_range 0x2D31 0x2D65 c || (c == 0x2D6F))

-- no mark follows, and no tone of skin
abbrev pub is_bare : Option ℕ → Bool
is_bare next = option_map_or (λ c. is_solid c && not (is_in_range 0x1F3FB 0x1F3FF c)) next true

-- by the character and the one that follows it
abbrev pub parts : ℕ → Option ℕ → Bool
parts c next = is_solid c && (not (takes_marks c) || is_bare next)

-- a selector that makes the character an emoji follows
abbrev pub is_selected : ℕ → Option ℕ → Bool
is_selected c next = option_map_or (λ s. is_emoji_variation_base c && (s == 0xFE0F)) next false
