-- A history and its text over a course of steps, under unchanged settings.
use Rattle.std.specs.Prelude.{◌==◌, ℕ, if◌then◌else◌, List, [], ◌∷◌, ◌++◌, ◌≡◌, true, ◌≢◌}
use Rattle.line_help.specs.History.{Settings, Filed, history_with_line, all_saved, history_with_lines, nothing_filed, newest}
use Rattle.line_help.specs.HistoryText.{saved_text, text_to_append, without_return, text_rows, load_leaves, text_to_save}
use Rattle.std.specs.List.{fold, AllByRecursion}
use Rattle.std.specs.Str.{is_utf8}
use Rattle.line_config.specs.declared.device.Last.TheVariants.{End}

-- each entry is UTF-8, as a text is, and none ends in a carriage return
abbrev pub CanComeBack : List (List ℕ) → Type 0
CanComeBack entries =
    AllByRecursion (λ entry. (is_utf8 entry ≡ true) × (without_return entry ≡ entry)) entries

-- a new history, after a text was loaded into it
abbrev pub history_from_text : Settings → List ℕ → Filed
history_from_text settings text = load_leaves End (text_rows End text) (nothing_filed settings)

-- a new history, after these lines were added, and with nothing to save
abbrev pub history_made_of : Settings → List (List ℕ) → Filed
history_made_of settings lines = all_saved (history_with_lines (nothing_filed settings) lines)

-- a history, and the text that was written from it
pub record WrittenHistory : Type 0 where
  pub text : List ℕ
  pub history : Filed

-- a line is added; the text is saved; new rows are appended to it; a new history is loaded from it
pub data HistoryStep : Type 0 where
  Adds : (line : List ℕ) → HistoryStep
  Saves : HistoryStep
  Appends : HistoryStep
  Loads : HistoryStep

-- nothing is saved if no entry is new: then the text stays
abbrev pub after_step : Settings → HistoryStep → WrittenHistory → WrittenHistory
after_step settings (Adds line) now = record now { history = history_with_line now.history line }
after_step settings Saves now = record {
  text = if now.history.unsaved == 0 then now.text else saved_text now.history.kept.entries;
  history = all_saved now.history;
}
after_step settings Appends now =
    record { text = now.text ++ text_to_append now.history; history = all_saved now.history }
after_step settings Loads now = record now { history = history_from_text settings now.text }

-- the written text can be loaded again
abbrev pub CanStep : HistoryStep → WrittenHistory → Type 0
CanStep Saves now = CanComeBack now.history.kept.entries
CanStep Appends now = CanComeBack now.history.kept.entries
CanStep step now = Unit {0}

abbrev pub CanMake : Settings → List HistoryStep → WrittenHistory → Type 0
CanMake settings [] now = Unit {0}
CanMake settings (step ∷ steps) now =
    CanStep step now × CanMake settings steps (after_step settings step now)

-- loading a saved text that isn't empty gives the same as adding its entries, none of them new
abbrev pub Reload : Type 0
Reload =
    (settings : Settings) (filed : Filed) → text_to_save filed ≢ [] → CanComeBack filed.kept.entries
    → history_from_text settings (text_to_save filed) ≡ history_made_of settings filed.kept.entries

-- with appended rows after it, it gives the same as adding the saved entries and then the new ones
abbrev pub ReloadAppended : Type 0
ReloadAppended = (settings : Settings) (saved later : Filed)
    → text_to_save saved ≢ [] → text_to_append later ≢ []
    → CanComeBack saved.kept.entries → CanComeBack (newest later.unsaved later.kept.entries)
    → history_from_text settings (text_to_save saved ++ text_to_append later)
    ≡ history_made_of settings (saved.kept.entries ++ newest later.unsaved later.kept.entries)

-- under unchanged settings, whatever is added, saved, appended and loaded after a first save: if no
-- entry is new, the text, loaded into a new history, gives the history
abbrev pub TextKeepsUp : Type 0
TextKeepsUp = (settings : Settings) (lines : List (List ℕ)) (steps : List HistoryStep)
    → let made : Filed = history_made_of settings lines in
    let start : WrittenHistory = record { text = saved_text made.kept.entries; history = made } in
    let now = fold (λ now step. after_step settings step now) start steps in
    CanComeBack made.kept.entries → CanMake settings steps start → now.history.unsaved ≡ 0
    → history_from_text settings now.text ≡ now.history
