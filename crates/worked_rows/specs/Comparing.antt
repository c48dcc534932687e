-- Where what the definition gives and what a row tells part.
use Rattle.std.specs.Prelude.{ℕ, Bool, not, List, [], Option, None, Some, bytes_eq, nat_eq}
use Rattle.std.specs.List.{common_prefix_len}
use Rattle.worked_rows.specs.Playing.{Row, display_in, is_told, lines_in, course_of, same_ending, saved_in}

abbrev pub text_or_none : Option (List ℕ) → List ℕ
text_or_none None = []
text_or_none (Some text) = text

-- ---- whether a part is another one

abbrev pub other_lines : Row → Bool
other_lines row = not (bytes_eq row.lines (lines_in (course_of row)))

abbrev pub other_ending : Row → Bool
other_ending row = not (same_ending row.ends (course_of row).answer)

abbrev pub other_history : Row → Bool
other_history row = not (is_told row.saves (saved_in row (course_of row)))

abbrev pub other_display : Row → Bool
other_display row = not (is_told row.shows (display_in (course_of row)))

-- ---- how many bytes are the same, before the first that isn't

abbrev pub same_lines : Row → ℕ
same_lines row = common_prefix_len nat_eq row.lines (lines_in (course_of row))

abbrev pub same_history : Row → ℕ
same_history row = common_prefix_len nat_eq (text_or_none row.saves) (saved_in row (course_of row))

abbrev pub same_display : Row → ℕ
same_display row = common_prefix_len nat_eq (text_or_none row.shows) (display_in (course_of row))
