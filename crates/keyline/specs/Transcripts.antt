-- The result of a session over memory, as equations with the definition of a session.
use Rattle.std.specs.Prelude.{◌≡◌, ℕ, ◌<◌, Bool, true, false, List, [], Option, Some, length, option_map}
use Rattle.std.specs.List.{flat_map}
use Rattle.line_config.specs.declared.errors.ReadlineError.{ReadlineError}
use Rattle.line_help.specs.HistoryText.{text_to_save}
use Rattle.line_keys.specs.KeyFeeds.{bytes_to_come}
use Rattle.keyline.specs.Program.{EditHelper, helper_with}
use Rattle.keyline.specs.Events.{Course, bytes_drawn, coming_after_events, lines_kept, lines_written, session}
use Rattle.keyline.specs.SessionEffects.{error_of}
use Rattle.keyline.specs.Sessions.{Given, SessionState, each, lines_text, history_with_if}
use Rattle.keyline.specs.Shows.{EachShown, Face, IsAtRest}
use Rattle.keyline.specs.declared.ending.Ending.{Ending}
use Rattle.keyline.specs.declared.ending.Ending.TheVariants.{Eof, Interrupted, NotUtf8, PasteOutOfPlace, Handler}
use Rattle.keyline.specs.declared.over_memory.Transcript.{Transcript}

-- completes these words, and has no styles of a prompt
abbrev pub word_helper : Option (List (List ℕ)) → Option EditHelper
word_helper words = option_map (λ texts. helper_with (Some texts) [] false) words

-- ---- result

-- a session that its keys did not end
abbrev pub is_cut : Ending → Bool
is_cut Eof = false
is_cut Interrupted = false
is_cut NotUtf8 = false
is_cut PasteOutOfPlace = false
is_cut Handler = false
is_cut ending = true

pub record IsTranscript (g : Given) (start : SessionState) (course : Course ReadlineError)
    (t : Transcript) : Type 0 where
  pub lines_are : t.lines.items ≡ lines_text (flat_map lines_written course.events)
  pub display_is : t.display.items ≡ flat_map bytes_drawn course.events
  pub history_is : t.history.items ≡ text_to_save
      (history_with_if g.config.auto_add_history (flat_map lines_kept course.events) start.history)
  pub ending_is : error_of t.ending ≡ course.answer
  pub unread_is : t.unread.items ≡ bytes_to_come (coming_after_events start.coming course.events)

-- THE relation of a session over memory: it is the definition's, for more fuel than there are bytes
-- of keys. On any display between two lines, such as a blank one, each moment is shown
pub record Transcribes (g : Given) (start : SessionState) (keys : List ℕ) (t : Transcript)
    : Type 0 where
  pub gives : (n : ℕ) → length keys < n → IsTranscript g start (session n g (each g) start) t
  pub shows : (n : ℕ) → length keys < n → (f : Face) → IsAtRest f
      → EachShown f (session n g (each g) start).events
