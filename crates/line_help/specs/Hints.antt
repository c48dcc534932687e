-- Hints, which a hinter shows after a line.
use Rattle.std.specs.Prelude.{ℕ, ◌-◌, ◌==◌, ◌||◌, not, true, if◌then◌else◌, List, length, drop, bytes_eq, Option, Some, None, is_some, option_map}
use Rattle.std.specs.Option.{option_and_then}
use Rattle.line_keys.specs.Replies.{Reply}
use Rattle.line_help.specs.Search.{search_hit}
use Rattle.line_help.specs.declared.history.search.SearchDirection.TheVariants.{Reverse}

-- a hint: the text to show, and the text that accepting it inserts, if any
pub record Hinted : Type 0 where
  pub display : List ℕ
  pub completion : Option (List ℕ)

-- the reply of a hinter, by the line, the place, the history's entries and the place in the history
abbrev pub ByLine : Type 0 → Type 0
ByLine A = List ℕ → ℕ → List (List ℕ) → ℕ → A

abbrev pub text_hint : List ℕ → Hinted
text_hint text = record { display = text; completion = Some text }

-- the rest of the nearest entry at or before the place in the history that begins with the line;
-- none if the entry is the line. The search begins at the last entry if the place is the end
abbrev pub history_hint : List ℕ → ℕ → List (List ℕ) → ℕ → Option (List ℕ)
history_hint line pos entries place =
    let start : ℕ = if place == length entries then place - 1 else place in
    if length line == 0 || not (pos == length line) then None
    else option_and_then (λ hit. if bytes_eq hit.entry line then None
    else Some (drop (length line) hit.entry)) (search_hit true line start Reverse entries)

-- the reply of `HistoryHinter`; a hint takes memory
abbrev pub hint_of_history : List ℕ → ℕ → List (List ℕ) → ℕ → Reply (Option Hinted)
hint_of_history line pos entries place =
    let rest : Option (List ℕ) = history_hint line pos entries place in
    record { answer = Some (option_map text_hint rest); takes = is_some rest }
