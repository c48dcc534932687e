-- Entries that are kept as they come: which lines became entries, and the rows that a sink took of
-- them.
use Rattle.std.specs.Prelude.{◌≡◌, ℕ, Bool, true, false, ◌&&◌, List, Result, Ok, Err, IsTrue}
use Rattle.line_config.specs.Sending.{TakesBytes}
use Rattle.line_config.specs.declared.errors.ReadlineError.{ReadlineError}
use Rattle.line_config.specs.declared.errors.ReadlineError.TheVariants.{Display, Memory}
use Rattle.line_help.specs.History.{Filed, history_with_line, history_with_lines, newest, takes, takes_all}
use Rattle.line_help.specs.HistoryText.{rows_text}
use Rattle.keyline.specs.Sessions.{history_after}

-- an accepted line is to become an entry
abbrev pub is_added : Bool → Filed → Result (List ℕ) ReadlineError → Bool
is_added adds history (Ok text) = adds && takes history text
is_added adds history (Err e) = false

-- the end of a line wasn't cut before the history took it
abbrev pub is_ended : Result (List ℕ) ReadlineError → Bool
is_ended (Err Display) = false
is_ended (Err Memory) = false
is_ended result = true

-- what the end of a line leaves of a history, by the line's outcome and by the result of its end
abbrev pub history_ended : Bool → Result (List ℕ) ReadlineError → Result (List ℕ) ReadlineError
    → Filed → Filed
history_ended adds outcome (Err Display) history = history
history_ended adds outcome (Err Memory) history = history
history_ended adds outcome result history = history_after adds outcome history

-- a line became an entry, or the history stays
abbrev pub AddsEntry : Bool → Filed → Filed → Type 0
AddsEntry true old new =
    (line : List ℕ) × IsTrue (takes old line) × (new ≡ history_with_line old line)
AddsEntry false old new = new ≡ old

-- the row of a history's newest entry is handed to a sink, if the last line became that entry. A
-- sink that works has taken it
abbrev pub KeepsNewest : {K : Type 0} → (K → List ℕ) → (K → Bool) → Bool → Filed → K → K → Type 0
KeepsNewest held failed true history old new = (failed old ≡ true → failed new ≡ true)
    × (failed new ≡ false → TakesBytes held old new (rows_text (newest 1 history.kept.entries)))
KeepsNewest held failed false history old new = new ≡ old

-- lines became entries, one after the other, and a sink that works has taken the rows of exactly
-- these
pub record KeepsRows {K : Type 0} (held : K → List ℕ) (failed : K → Bool) (history left : Filed)
    (old new : K) : Type 0 where
  pub added : List (List ℕ)
  pub all_taken : takes_all history added ≡ true
  pub entries_are : left.kept ≡ (history_with_lines history added).kept
  pub sends : failed new ≡ false → TakesBytes held old new (rows_text added)
