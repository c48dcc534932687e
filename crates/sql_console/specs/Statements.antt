-- Whether a line of the console is whole, and what its empty last row says.
use Rattle.std.specs.Prelude.{ℕ, ◌-◌, ◌==◌, ◌||◌, ◌&&◌, Bool, not, if◌then◌else◌, List, length, slice_index}
use Rattle.std.specs.Prelude.{Option, None, Some, codes}
use Rattle.line_help.specs.Hints.{Hinted}
use Rattle.line_help.specs.declared.helpers.validate.ValidationResult.{ValidationResult}
use Rattle.line_help.specs.declared.helpers.validate.ValidationResult.TheVariants.{Incomplete, Valid}

-- a semicolon, or a newline, which is before an empty row
abbrev pub ends_line : ℕ → Bool
ends_line byte = (byte == 0x3B) || (byte == 0x0A)

-- it is empty, begins with a dot, or ends in one of these
abbrev pub is_whole : List ℕ → Bool
is_whole text =
    (length text == 0)
    || ((slice_index text 0 == 0x2E) || ends_line (slice_index text (length text - 1)))

abbrev pub statement_verdict : List ℕ → ValidationResult
statement_verdict text = if is_whole text then Valid None else Incomplete

-- nothing is in the last row, and another is before it
abbrev pub has_empty_row : List ℕ → Bool
has_empty_row text = not (length text == 0) && (slice_index text (length text - 1) == 0x0A)

-- a hint that can't be taken
abbrev pub how_it_ends : Hinted
how_it_ends = record { display = codes "(; ends the statement)"; completion = None }

-- in an empty last row, with the cursor there
abbrev pub hint_in : List ℕ → ℕ → Option Hinted
hint_in text place =
    if (place == length text) && has_empty_row text then Some how_it_ends else None
