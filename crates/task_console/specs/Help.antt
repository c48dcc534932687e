-- What a line of the console is shown while it is typed, and whether it goes on.
use Rattle.std.specs.Prelude.{ℕ, ◌-◌, ◌==◌, ◌&&◌, Bool, not, if◌then◌else◌, List, length, slice_index, bytes_eq, codes}
use Rattle.std.specs.Prelude.{Option, None, Some}
use Rattle.line_help.specs.Hints.{Hinted}
use Rattle.line_help.specs.declared.helpers.validate.ValidationResult.{ValidationResult}
use Rattle.line_help.specs.declared.helpers.validate.ValidationResult.TheVariants.{Incomplete, Valid}

-- a hint that is shown and never goes into the line
abbrev pub shown_only : List ℕ → Hinted
shown_only text = record { display = text; completion = None }

-- the usage of a command, once the command and a space are typed
abbrev pub usage : List ℕ → Option Hinted
usage line = if bytes_eq line (codes "add ") then Some (shown_only (codes "TEXT"))
    else if bytes_eq line (codes "done ") then Some (shown_only (codes "NUMBER")) else None

-- the last byte is a backslash
abbrev pub goes_on : List ℕ → Bool
goes_on text = not (length text == 0) && (slice_index text (length text - 1) == 0x5C)

-- a text that goes on isn't whole yet
abbrev pub verdict : List ℕ → ValidationResult
verdict text = if goes_on text then Incomplete else Valid None
