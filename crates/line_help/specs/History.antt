-- A history: its entries, oldest first, and which lines become entries.
use Rattle.std.specs.Prelude.{◌≡◌, ℕ, ◌-◌, ◌+◌, ◌==◌, ◌&&◌, ◌||◌, not, min, Bool, true, false, if◌then◌else◌, List, [], ◌∷◌, ◌++◌, length, drop, chars, bytes_eq, Result, IfErr, OnOk, OnErr, slice_get}
use Rattle.std.specs.Char.{is_whitespace}
use Rattle.std.specs.Option.{option_map_or}
use Rattle.line_config.specs.declared.config.Config.{Config}
use Rattle.line_config.specs.declared.errors.ReadlineError.{ReadlineError}
use Rattle.line_config.specs.declared.errors.ReadlineError.TheVariants.{Memory}
use Rattle.line_config.specs.declared.settings.HistoryDuplicates.{HistoryDuplicates}
use Rattle.line_config.specs.declared.settings.HistoryDuplicates.TheVariants.{AlwaysAdd, IgnoreConsecutive}
use Rattle.std.specs.VecDeque.Iter.{deque_iter_rest}
use Rattle.line_help.specs.declared.history.history_iter.HistoryIter.{HistoryIter}

-- the most entries, and which lines are left out
pub record Settings : Type 0 where
  pub max_len : ℕ
  pub ignore_space : Bool
  pub ignore_dups : Bool

-- a history in memory
pub record Kept : Type 0 where
  pub entries : List (List ℕ)
  pub settings : Settings

-- a history that can be saved: how many of its entries, the newest ones, are not saved yet
pub record Filed : Type 0 where
  pub kept : Kept
  pub unsaved : ℕ

abbrev pub ignores_repeated : HistoryDuplicates → Bool
ignores_repeated AlwaysAdd = false
ignores_repeated IgnoreConsecutive = true

abbrev pub settings_of : Config → Settings
settings_of config = record {
  max_len = config.max_history_size;
  ignore_space = config.history_ignore_space;
  ignore_dups = ignores_repeated config.history_duplicates;
}

-- whether the text's first character is whitespace
abbrev pub begins_with_space : List ℕ → Bool
begins_with_space text = option_map_or is_whitespace (slice_get (chars text) 0) false

-- whether the newest entry is this text
abbrev pub newest_is : List ℕ → List (List ℕ) → Bool
newest_is text [] = false
newest_is text (entry ∷ []) = bytes_eq entry text
newest_is text (entry ∷ (next ∷ entries)) = newest_is text (next ∷ entries)

-- whether the line doesn't become an entry
abbrev pub ignores_line : Settings → List (List ℕ) → List ℕ → Bool
ignores_line settings entries line =
    ((settings.max_len == 0 || length line == 0)
    || (settings.ignore_space && begins_with_space line))
    || (settings.ignore_dups && newest_is line entries)

-- the last n of these
abbrev pub newest : ℕ → List (List ℕ) → List (List ℕ)
newest count entries = drop (length entries - count) entries

abbrev pub entries_after : Settings → List (List ℕ) → List ℕ → List (List ℕ)
entries_after settings entries line =
    if ignores_line settings entries line then entries
    else newest settings.max_len (entries ++ line ∷ [])

-- with this entry after the others
abbrev pub entries_with : Kept → List ℕ → Kept
entries_with kept entry =
    record kept { entries = newest kept.settings.max_len (kept.entries ++ entry ∷ []) }

-- the effect of a line on a history that can be saved
abbrev pub history_with_line : Filed → List ℕ → Filed
history_with_line filed line =
    let kept : Kept = filed.kept in
    let entries : List (List ℕ) = entries_after kept.settings kept.entries line in record {
      kept = record kept { entries = entries };
      unsaved = if ignores_line kept.settings kept.entries line then filed.unsaved
          else min (filed.unsaved + 1) (length entries);
    }

-- a call has this effect on a value, or memory ran out and the value stays
pub record Grows {V A : Type 0} (before wanted after : V) (result : Result A ReadlineError)
    : Type 0 where
  pub added : OnOk result (after ≡ wanted)
  pub kept : OnErr result (after ≡ before)
  pub fault : IfErr result (λ e. e ≡ Memory)

-- these lines, one after the other
abbrev pub history_with_lines : Filed → List (List ℕ) → Filed
history_with_lines filed [] = filed
history_with_lines filed (line ∷ lines) = history_with_lines (history_with_line filed line) lines

-- whether a line isn't ignored, and whether none of these is
abbrev pub takes : Filed → List ℕ → Bool
takes filed line = not (ignores_line filed.kept.settings filed.kept.entries line)

abbrev pub takes_all : Filed → List (List ℕ) → Bool
takes_all filed [] = true
takes_all filed (line ∷ lines) = takes filed line && takes_all (history_with_line filed line) lines

abbrev pub history_with_max_len : ℕ → Filed → Filed
history_with_max_len len filed =
    let settings : Settings = record filed.kept.settings { max_len = len } in record {
      kept = record { entries = newest len filed.kept.entries; settings = settings };
      unsaved = min filed.unsaved len;
    }

abbrev pub nothing_kept : Settings → Kept
nothing_kept settings = record { entries = []; settings = settings }

abbrev pub nothing_filed : Settings → Filed
nothing_filed settings = record { kept = nothing_kept settings; unsaved = 0 }

-- the same history, with nothing to save
abbrev pub all_saved : Filed → Filed
all_saved filed = record filed { unsaved = 0 }

-- the entries that are left, oldest first
abbrev pub entries_left : HistoryIter → List (List ℕ)
entries_left iter = deque_iter_rest iter.entries
