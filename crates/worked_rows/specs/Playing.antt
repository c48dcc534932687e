-- A row of a table of sessions, and whether the definition of a session gives what the row says.
use Rattle.std.specs.Prelude.{ℕ, ◌+◌, ◌&&◌, Bool, true, if◌then◌else◌, List, [], ◌∷◌, Option, None, Some, length, bytes_eq}
use Rattle.std.specs.List.{flat_map}
use Rattle.line_config.specs.Feed.{fresh_feed}
use Rattle.line_config.specs.declared.device.Last.TheVariants.{End}
use Rattle.line_config.specs.declared.errors.ReadlineError.{ReadlineError}
use Rattle.line_config.specs.declared.errors.ReadlineError.TheVariants.{Eof}
use Rattle.line_config.specs.Refusals.{refusal_text}
use Rattle.line_help.specs.History.{Filed}
use Rattle.line_help.specs.HistoryText.{text_to_save}
use Rattle.line_record.specs.Ring.{new_ring}
use Rattle.line_screen.specs.ScreenCalls.{Screen}
use Rattle.keyline.specs.Events.{Course, bytes_drawn, lines_kept, lines_written, session}
use Rattle.keyline.specs.SessionCalls.{history_loaded_from}
use Rattle.keyline.specs.Sessions.{Given, SessionState, each, coming_from, given_of, screen_by, state_at, lines_text, history_with_if}
use Rattle.worked_rows.specs.Settings.{Settings}

-- A row is known by the number of its line in the table. `lines` are the bytes of the accepted
-- lines; `saves` is the history's text, and `shows` the display bytes, where the row tells them.
pub record Row : Type 0 where
  pub number : ℕ
  pub settings : Settings
  pub keys : List ℕ
  pub lines : List ℕ
  pub ends : ReadlineError
  pub saves : Option (List ℕ)
  pub shows : Option (List ℕ)

-- a row that tells only its lines, of a session that the end of the keys ends
abbrev pub row : ℕ → Settings → List ℕ → List ℕ → Row
row number settings keys lines = record {
  number = number;
  settings = settings;
  keys = keys;
  lines = lines;
  ends = Eof;
  saves = None;
  shows = None;
}

-- ---- what the definition gives

abbrev pub screen_in : Row → Screen
screen_in row = screen_by row.settings.config row.settings.columns

abbrev pub given_in : Row → Given
given_in row = let s = row.settings in
    given_of s.config s.custom s.prompt (screen_in row) s.helping

abbrev pub history_in : Row → Filed
history_in row = history_loaded_from row.settings.config (fresh_feed row.settings.loaded End)

abbrev pub start_in : Row → SessionState
start_in row = let s = row.settings in
    state_at (new_ring 60) [] (history_in row) (coming_from s.config.edit_mode row.keys s.last)

-- THE session of a row. Each key and each paste has a byte at least, so this is fuel enough
abbrev pub course_of : Row → Course ReadlineError
course_of row = let g = given_in row in session (length row.keys + 2) g (each g) (start_in row)

abbrev pub lines_in : Course ReadlineError → List ℕ
lines_in course = lines_text (flat_map lines_written course.events)

abbrev pub saved_in : Row → Course ReadlineError → List ℕ
saved_in row course = text_to_save (history_with_if row.settings.config.auto_add_history
    (flat_map lines_kept course.events) (history_in row))

abbrev pub display_in : Course ReadlineError → List ℕ
display_in course = flat_map bytes_drawn course.events

-- ---- whether it is what the row says

abbrev pub same_ending : ReadlineError → ReadlineError → Bool
same_ending a b = bytes_eq (refusal_text a) (refusal_text b)

abbrev pub is_told : Option (List ℕ) → List ℕ → Bool
is_told None given = true
is_told (Some told) given = bytes_eq told given

abbrev pub agrees : Row → Course ReadlineError → Bool
agrees row course = bytes_eq row.lines (lines_in course)
    && (same_ending row.ends course.answer
    && (is_told row.saves (saved_in row course) && is_told row.shows (display_in course)))

-- the numbers of the rows of which the definition gives something else
abbrev pub differing : List Row → List ℕ
differing [] = []
differing (row ∷ rows) =
    if agrees row (course_of row) then differing rows else row.number ∷ differing rows
