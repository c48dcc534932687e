-- The bytes of each drawing call on a screen, and the effect of a call on the screen and its sink.
use Rattle.std.specs.Prelude.{◌≡◌, ℕ, Bool, true, false, encode_utf8, IsTrue, List, [], ◌∷◌, ◌++◌, Option, length, map, option_map, Result}
use Rattle.line_buffer.specs.declared.layout.GraphemeClusterMode.{GraphemeClusterMode}
use Rattle.line_buffer.specs.declared.layout.Layout.{Layout}
use Rattle.line_config.specs.declared.errors.ReadlineError.{ReadlineError}
use Rattle.line_config.specs.Sending.{TakesBytes, TakesSome}
use Rattle.line_config.specs.declared.settings.BellStyle.{BellStyle}
use Rattle.line_config.specs.declared.settings.BellStyle.TheVariants.{Audible}
use Rattle.line_editor.specs.RenderCalls.{Call, Canvas, Ruler, Draw, Move, Write, Beep, ClearScreen, ClearRows, ClearToEol, MoveAndClearToEol, InsertChar, MoveAndDelete, Append, DrawRest, WriteOver}
use Rattle.line_editor.specs.Redraws.{info_text}
use Rattle.line_screen.specs.Drawing.{Widths, text_items, bytes_of_items, clearing_bytes, move_bytes, erase_to_end, erase_to_row_end, go_home, insertion_bytes, pulled_back, place_after_insertion, place_after_deletion, short_move}
use Rattle.line_screen.specs.Display.{right}
use Rattle.line_editor.specs.Sights.{PartSpans, drawn_spans}
use Rattle.line_help.specs.Paints.{Marks}
use Rattle.line_screen.specs.Colours.{Styles, span_of, painted_bytes, rest_drawing}
use Rattle.line_screen.specs.Measure.{widths_by, measure_of, in_row}
use Rattle.line_screen.specs.declared.renderer.ScreenRenderer.{ScreenRenderer}
use Rattle.script.specs.Scripts.{Goes}
use Rattle.line_keys.specs.CustomBindings.{Custom}
use Rattle.line_editor.specs.LineScripts.{LineStage, line_script, line_world}
use Rattle.line_editor.specs.Values.{Setting}

-- what doesn't change over a screen's calls
pub record Screen : Type 0 where
  pub columns : ℕ
  pub mode : GraphemeClusterMode
  pub bell : BellStyle
  pub colours : Bool
  -- how many columns apart tab stops are, if tabs are drawn as blanks
  pub tab : Option ℕ

abbrev pub screen_of : {D : Type 0} → ScreenRenderer D → Screen
screen_of r = record {
  columns = r.grid.columns;
  mode = r.grid.mode;
  bell = r.bell_style;
  colours = r.colours;
  tab = r.grid.tab;
}

abbrev pub sink_of : {D : Type 0} → ScreenRenderer D → D
sink_of r = r.sink

-- the columns of its clusters and tabs
abbrev pub widths : Screen → Widths
widths s = widths_by s.mode s.tab s.columns

-- its measures: it has the most rows that can be counted
abbrev pub ruler_of : Screen → Ruler
ruler_of s = record {
  measure = measure_of s.mode s.tab s.columns;
  columns = s.columns;
  rows = 65535;
  colours = s.colours;
  mode = s.mode;
  tabs = option_map (λ apart. record { columns = s.columns; apart = apart }) s.tab;
}

-- the row of the cursor of an older drawing, if there is one
abbrev pub old_row : Option Layout → Option ℕ
old_row old = option_map (λ l. l.cursor.row) old

abbrev pub styles_of : PartSpans → Styles
styles_of x = let of = map span_of in
    record { prompt = of x.prompt; line = of x.line; info = of x.info }

-- the styles of a line and of what stands after it
abbrev pub line_styles : Option Marks → List ℕ → ℕ → List ℕ → Styles
line_styles marks text place info =
    record (styles_of (drawn_spans marks true [] text place info)) { prompt = [] }

abbrev pub bell_bytes : BellStyle → List ℕ
bell_bytes Audible = 0x07 ∷ []
bell_bytes style = []

-- a drawing ends in its own cells, so none leaves the cursor elsewhere; the helper's draws nothing
abbrev pub bytes_of : Screen → Call → List ℕ
bytes_of s (Draw prompt text place info old new marks) =
    let spans = drawn_spans marks new.default_prompt prompt text place (info_text info) in
    painted_bytes s.columns (widths s) (styles_of spans) (old_row old) prompt text (info_text info)
    new.end new.cursor
bytes_of s (Move old new) = move_bytes old new
bytes_of s (Write text) = text
bytes_of s Beep = bell_bytes s.bell
bytes_of s ClearScreen = go_home ++ erase_to_end
bytes_of s (ClearRows layout) = clearing_bytes layout.cursor.row
bytes_of s ClearToEol = erase_to_row_end
bytes_of s (MoveAndClearToEol old new) = move_bytes old new ++ erase_to_row_end
bytes_of s (InsertChar c rest old new finish) =
    insertion_bytes s.columns old.col (encode_utf8 c) rest
    ++ move_bytes (place_after_insertion old new finish) new
bytes_of s (MoveAndDelete old new count rest finish) = move_bytes old new
    ++ (pulled_back s.columns count new.col new.col rest
    ++ move_bytes (place_after_deletion new finish) new)
bytes_of s (Append text at) =
    bytes_of_items s.columns (text_items (widths s) text) (in_row s.columns at).col
bytes_of s (DrawRest text from place info old at new marks) =
    rest_drawing s.columns (widths s) (line_styles marks text place (info_text info)) text from
    (info_text info) old at new.end new.cursor
bytes_of s (WriteOver letters old at new) =
    short_move old at ++ (letters ++ short_move (right (length letters) at) new)
bytes_of s call = []

-- bytes were sent and passed on: if nothing was buffered before, nothing is buffered now. The sink
-- works as before, and the screen stays as it is
pub record Sent {D : Type 0} (held waits : D → List ℕ) (failed : D → Bool) (bytes : List ℕ)
    (old new : ScreenRenderer D) : Type 0 where
  pub takes : TakesBytes held (sink_of old) (sink_of new) bytes
  pub passes : waits (sink_of old) ≡ [] → waits (sink_of new) ≡ []
  pub works : failed (sink_of new) ≡ failed (sink_of old)
  pub screen : screen_of new ≡ screen_of old

-- the sink has failed, and has taken a prefix of these bytes; the screen stays as it is
pub record CutSending {D : Type 0} (held : D → List ℕ) (failed : D → Bool) (bytes : List ℕ)
    (old new : ScreenRenderer D) : Type 0 where
  pub begins : TakesSome held (sink_of old) (sink_of new) bytes
  pub fails : IsTrue (failed (sink_of new))
  pub screen : screen_of new ≡ screen_of old

-- a screen as a renderer: a call that succeeds sends the call's bytes, and passes them on
abbrev pub canvas_of : {D : Type 0} → (D → List ℕ) → (D → List ℕ) → (D → Bool)
    → Canvas (ScreenRenderer D)
canvas_of held waits failed = record {
  made = λ old call new. Sent held waits failed (bytes_of (screen_of old) call) old new;
  refused = λ old call new. CutSending held failed (bytes_of (screen_of old) call) old new;
  failed = λ r. failed (sink_of r);
  ruler = λ r. ruler_of (screen_of r);
}

-- a sink that works has passed on everything that it took
abbrev pub NothingWaits : {D : Type 0} → (D → List ℕ) → (D → Bool) → D → Type 0
NothingWaits waits failed d = failed d ≡ false → waits d ≡ []

-- if nothing is buffered as a line begins, nothing is buffered at any request of its script, such
-- as the read of a key. Nor is it at the script's end, whether it goes to its answer or a fault
-- cuts it
abbrev pub ReadsFindNothingWaiting : {D : Type 0} → (D → List ℕ) → (D → List ℕ) → (D → Bool)
    → Type 0
ReadsFindNothingWaiting {D} held waits failed =
    let Rests : LineStage (ScreenRenderer D) → Type 0 =
    λ x. NothingWaits waits failed (sink_of x.drawn.out) in
    (n : ℕ) (custom : Custom) (r : Ruler) (s : Setting)
    (x y : LineStage (ScreenRenderer D)) (result : Result (List ℕ) ReadlineError)
    → let w = line_world (canvas_of held waits failed) r s in Rests x
    → Goes w (line_script n custom) x result y
    → let resting = record w {
      made = λ x ask a y. Rests x × w.made x ask a y × Rests y;
      cut = λ x ask e y. Rests x × w.cut x ask e y × Rests y;
    } in
    Goes resting (line_script n custom) x result y × Rests y
