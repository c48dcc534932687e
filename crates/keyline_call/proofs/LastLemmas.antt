-- What a program draws anew shows the open line; and what is kept of a drawing is known from what it shows.
use Rattle.std.proofs.Common.{◌≡◌, inr, ℕ, ◌≤◌, true, false, List, [], ◌++◌, Option, Some, Result, Err, refl, sym, ap, ◌∙◌, subst, append-nil, is_some}
use Rattle.std.specs.Prelude.{string_bytes}
use Rattle.std.specs.List.{filter, flat_map}
use Rattle.std.proofs.lemmas.Grind.{flat_map-append}
use Rattle.line_buffer.specs.Line.{Line}
use Rattle.line_buffer.specs.declared.layout.Layout.{Layout}
use Rattle.line_config.specs.declared.errors.ReadlineError.{ReadlineError}
use Rattle.line_config.specs.declared.errors.ReadlineError.TheVariants.{Handler, Reader}
use Rattle.line_config.specs.declared.memory.VecSink.{VecSink}
use Rattle.line_editor.specs.RenderCalls.{Marks}
use Rattle.line_editor.specs.LineScripts.{LineState, line_script}
use Rattle.line_editor.specs.Redraws.{fresh, info_text}
use Rattle.line_editor.specs.LineRun.{IsOpen, first_line_state}
use Rattle.line_editor.specs.Sights.{Sight, drawn_spans, no_sight, sight_with}
use Rattle.line_editor.specs.Values.{Setting, Value}
use Rattle.line_editor.proofs.LineLeads.{lines_lead}
use Rattle.line_editor.proofs.ToldLemmas.{rest_along}
use Rattle.line_keys.specs.KeyFeeds.{answer_map}
use Rattle.line_keys.specs.InputStates.{new_input}
use Rattle.line_screen.specs.ScreenCalls.{Screen, ruler_of, widths}
use Rattle.line_screen.specs.Chain.{Shows, above, cursor_of, finish_of}
use Rattle.line_screen.specs.Display.{Display, Placed, meaning}
use Rattle.line_screen.proofs.LawLemmas.{shown_is_meant, start_is_empty}
use Rattle.keyline.proofs.EventLemmas.{asks_bytes}
use Rattle.keyline.specs.Events.{asks_events, bytes_drawn, end_events, line_course, line_play_in}
use Rattle.keyline.specs.SessionLaws.{steps_in}
use Rattle.keyline.specs.Sessions.{Given, SessionState, setting_in}
use Rattle.keyline.specs.Shows.{DisplayHolds, IsAtRest, LowAll, bytes_for, face, picture, place_in, view_in}
use Rattle.keyline_call.specs.Laws.{IsOpenAt, LastDrawingsShow, drawing_start, layout_in, last_drawing, marks_in, sight_in, SameLinesGoOnAlike}
use Rattle.keyline_call.specs.Lines.{value_first}
use Rattle.keyline_call.specs.Statuses.{status_of_ending, is_open}
use Rattle.keyline_call.specs.CallSteps.{open_place, open_text}
use Rattle.keyline_call.specs.declared.line.Left.{Left}
use Rattle.keyline_call.proofs.AnewLemmas.{Anew, anew_last}
use Rattle.keyline_call.proofs.OpenLemmas.{At, IsOfPhrase, Seen, in_phrase, line_ends, walk}
use Rattle.line_buffer.specs.Cells.{origin}
use Rattle.line_buffer.specs.declared.layout.GraphemeClusterMode.{GraphemeClusterMode}
use Rattle.line_buffer.specs.declared.layout.TabStops.{TabStops}
use Rattle.line_screen.specs.Measure.{measure_of}

-- a line continues only if an error of a phrase cut it, which draws nothing
pub record CutShort {X : Type 0} (o : Result X ReadlineError) : Type 0 where
  pub error : ReadlineError
  pub is : o ≡ Err error
  pub of_phrase : IsOfPhrase error
  pub quiet : end_events (Err error) ≡ []

cut_short : {T X : Type 0} (f : T → X) (o : Result T ReadlineError) → is_open (status_of_ending o) ≡ true → CutShort (answer_map f o)
cut_short f (Err Reader) is = record { error = Reader; is = refl; of_phrase = tt; quiet = refl }
cut_short f (Err Handler) is = record { error = Handler; is = refl; of_phrase = tt; quiet = refl }
cut_short f _ is = cc

open_so : {T : Type 0} (o : Result T ReadlineError) (first v : Value) (it : Option Line) → is_open (status_of_ending o) ≡ true → IsOpen o first v it → it ≡ Some v.line
open_so (Err Reader) first v it is h = h
open_so (Err Handler) first v it is h = h
open_so _ first v it is h = cc

module _ (n : ℕ) (g : Given) (x : SessionState) where
  abbrev s : Screen
  s = g.screen

  abbrev a : Setting
  a = setting_in g x.history.kept.entries

  abbrev first : LineState
  first = first_line_state a x.ring x.query x.coming

  -- the line's display bytes are those of its steps
  pub line_bytes : CutShort (line_play_in n g x).answer → flat_map bytes_drawn (line_course n g x).events ≡ bytes_for s (fresh s.mode) (steps_in n g x)
  line_bytes cut =
      let p = line_play_in n g x in
      let asks = asks_events s a (fresh s.mode) first p.asks in
      flat_map-append bytes_drawn asks (end_events p.answer)
      ∙ ap (λ q. flat_map bytes_drawn asks ++ flat_map bytes_drawn (end_events q)) cut.is
      ∙ ap (λ events. flat_map bytes_drawn asks ++ flat_map bytes_drawn events) cut.quiet
      ∙ append-nil (flat_map bytes_drawn asks)
      ∙ asks_bytes s a (fresh s.mode) first p.asks

-- the picture with the open line, drawn with these marks
seen_is : (m : Option Marks) (x : Sight) (text : List ℕ) (place : ℕ) → x.line ≡ text → x.place ≡ place → x.spans ≡ drawn_spans m x.given x.prompt x.line x.place (info_text x.info)
    → picture x ≡ picture (sight_with m x.given x.prompt text place x.info)
seen_is m x text place line_is place_is spans_are = rw (spans_are, line_is, place_is) refl

place_open : (s : Screen) (x : Sight) → x.ended ≡ false → place_in s x ≡ cursor_of s.columns (widths s) (picture x)
place_open s x e = rw e refl

-- these bytes show it on any blank rows
pub record ShownBy (s : Screen) (before bytes : List ℕ) (over : List Placed) (top : ℕ) (x : Sight) : Type 0 where
  pub display : Display
  pub means : meaning s.columns (widths s).cluster (before ++ bytes) ≡ Some display
  pub shows : Shows s.columns (widths s) (picture x) top display
  pub over_is : filter (above top) display.placed ≡ over

shown_by : (s : Screen) (before bytes : List ℕ) (over : List Placed) (top : ℕ) (l : Layout) (x : Sight) → DisplayHolds s (before ++ bytes) over top l x → x.ended ≡ false → ShownBy s before bytes over top x
shown_by s before bytes over top l x h rests =
    let m = shown_is_meant s (before ++ bytes) over (view_in s top x) h.good in
    record { display = m.0; means = m.1; shows = m.4 (place_open s x rests); over_is = m.3 }

-- a line that continues shows its value, also by the bytes from its last drawing on
pub record StandsAnew (n : ℕ) (g : Given) (x : SessionState) (low : 2 ≤ g.screen.columns) (high : g.screen.columns ≤ 1000) : Type 0 where
  pub anew : Anew g.screen low high g.prompt (bytes_for g.screen (fresh g.screen.mode) (steps_in n g x)) (layout_in n g x) (sight_in n g x)
  pub seen : Seen (setting_in g x.history.kept.entries) (line_play_in n g x).rest.value (sight_in n g x)

pub stands_anew : (n : ℕ) (g : Given) (x : SessionState) (low : 2 ≤ g.screen.columns) (high : g.screen.columns ≤ 1000) → CutShort (line_play_in n g x).answer → LowAll g.screen no_sight (steps_in n g x)
    → StandsAnew n g x low high
stands_anew n g x low high cut rows =
    let s = g.screen in
    let a : Setting = setting_in g x.history.kept.entries in
    let k : LineState = first_line_state a x.ring x.query x.coming in
    let p = line_play_in n g x in
    let steps = steps_in n g x in
    let lead = lines_lead n a g.custom (new_input g.config) x.ring g.config x.query x.coming in
    let ends : in_phrase false p.asks ≡ true = line_ends a n g.custom k cut.error cut.is cut.of_phrase in
    let at : At s low high a (in_phrase false p.asks) ([] ++ bytes_for s (fresh s.mode) steps) (layout_in n g x) (sight_in n g x) _ =
    walk s low high a p.answer p.asks k false [] (fresh s.mode) no_sight (record { either = inr (record { given = refl; prompt = refl }); anew = λ e. cc; seen = λ e. cc }) lead rows in
    record { anew = at.anew ends; seen = subst (λ (j : LineState). Seen a j.value (sight_in n g x)) (rest_along a (line_script n g.custom) k) (at.seen ends) }

module _ (held : VecSink → List ℕ) where
  pub is_cut : (n : ℕ) (g : Given) (x : SessionState) (left : Left) → IsOpenAt held n g x left → CutShort (line_play_in n g x).answer
  is_cut n g x left w = subst CutShort w.reads.outcome_is (cut_short string_bytes left.outcome w.continues)

  pub stands_open : (n : ℕ) (g : Given) (x : SessionState) (left : Left) → IsOpenAt held n g x left → left.open_line ≡ Some (line_play_in n g x).rest.value.line
  stands_open n g x left w = open_so left.outcome (value_first g x) (line_play_in n g x).rest.value left.open_line w.continues w.reads.line_is

  -- what is shown is the open line
  pub line_shown : (n : ℕ) (g : Given) (x : SessionState) (left : Left) → IsOpenAt held n g x left → Seen (setting_in g x.history.kept.entries) (line_play_in n g x).rest.value (sight_in n g x) → (sight_in n g x).line ≡ open_text left.open_line
  line_shown n g x left w seen = seen.line ∙ sym (ap open_text (stands_open n g x left w))

  pub place_shown : (n : ℕ) (g : Given) (x : SessionState) (left : Left) → IsOpenAt held n g x left → Seen (setting_in g x.history.kept.entries) (line_play_in n g x).rest.value (sight_in n g x) → (sight_in n g x).place ≡ open_place left.open_line
  place_shown n g x left w seen = seen.place ∙ sym (ap open_place (stands_open n g x left w))

  -- its last drawing, and that this shows it
  pub record LastShows (n : ℕ) (g : Given) (x : SessionState) (left : Left) (before : List ℕ) (over : List Placed) (top : ℕ) : Type 0 where
    pub bytes : List ℕ
    pub last : last_drawing (held left.display) ≡ Some bytes
    pub shown : ShownBy g.screen before bytes over top (sight_in n g x)
    pub seen : Seen (setting_in g x.history.kept.entries) (line_play_in n g x).rest.value (sight_in n g x)

  pub last_shows : (n : ℕ) (g : Given) (x : SessionState) (left : Left) (before : List ℕ) (over : List Placed) (top : ℕ) → IsOpenAt held n g x left → IsAtRest (face g.screen before top over no_sight)
      → LastShows n g x left before over top
  last_shows n g x left before over top w rest =
      let s = g.screen in
      let low = rest.screen.least in
      let high = rest.screen.most in
      let l = layout_in n g x in
      let y : Sight = sight_in n g x in
      let cut = is_cut n g x left w in
      let stands = stands_anew n g x low high cut w.low in
      let a = stands.anew in
      let bytes = drawing_start ++ a.later in
      let steps = bytes_for s (fresh s.mode) (steps_in n g x) in
      record {
        bytes = bytes;
        last = ap last_drawing (w.reads.drawn ∙ line_bytes n g x cut) ∙ anew_last s low high g.prompt steps l y a;
        shown = shown_by s before bytes over top l y (a.holds before over top rest.good) stands.seen.rests;
        seen = stands.seen;
      }

  pub last_drawings_show : LastDrawingsShow held
  last_drawings_show n g x left before over top w rest =
      let s = g.screen in
      let y : Sight = sight_in n g x in
      let h = last_shows n g x left before over top w rest in
      let same = seen_is (marks_in n g x) y (open_text left.open_line) (open_place left.open_line) (line_shown n g x left w h.seen) (place_shown n g x left w h.seen) h.seen.spans in (
        h.bytes,
        h.last,
        record {
          means = record { display = h.shown.display; means = h.shown.means; over_is = h.shown.over_is };
          shows = subst (λ v. Shows s.columns (widths s) v top h.shown.display) same h.shown.shows;
        },
      )

-- ---- what is kept of a drawing

abbrev layout_for : Screen → Sight → Layout
layout_for s x = record {
  grapheme_cluster_mode = s.mode;
  prompt_size = measure_of s.mode s.tab s.columns x.prompt origin;
  default_prompt = x.given;
  cursor = place_in s x;
  end = finish_of s.columns (widths s) (picture x);
  has_info = is_some x.info;
  tab_stops = (ruler_of s).tabs;
}

layout_is : (s : Screen) (bytes : List ℕ) (over : List Placed) (top : ℕ) (l : Layout) (x : Sight) → DisplayHolds s bytes over top l x → ◌≡◌ {A = Option TabStops × GraphemeClusterMode} (l.tab_stops, l.grapheme_cluster_mode) ((ruler_of s).tabs, s.mode)
    → l ≡ layout_for s x
layout_is s bytes over top l x h is =
    let tabs : l.tab_stops ≡ (ruler_of s).tabs = ap (λ m. m.0) is in
    let mode : l.grapheme_cluster_mode ≡ s.mode = ap (λ m. m.1) is in
    let of_fields : (let q : Layout = record {
      grapheme_cluster_mode = l.grapheme_cluster_mode;
      prompt_size = l.prompt_size;
      default_prompt = l.default_prompt;
      cursor = l.cursor;
      end = l.end;
      has_info = l.has_info;
      tab_stops = l.tab_stops;
    } in q) ≡ layout_for s x = cc in
    of_fields

-- no layout depends on styles
alike : (s : Screen) (x y : Sight) → x.prompt ≡ y.prompt → x.line ≡ y.line → x.place ≡ y.place → x.info ≡ y.info → x.given ≡ y.given → x.ended ≡ y.ended → layout_for s x ≡ layout_for s y
alike s x y prompt line place info given ended = rw (prompt, line, place, info, given, ended) refl

module _ (held : VecSink → List ℕ) where
  pub same_lines_go_on_alike : SameLinesGoOnAlike held
  same_lines_go_on_alike n g x y left other w v same given screen =
      let s = g.screen in
      let low = screen.least in
      let high = screen.most in
      let one : StandsAnew n g x low high = stands_anew n g x low high (is_cut held n g x left w) w.low in
      let two : StandsAnew n g y low high = stands_anew n g y low high (is_cut held n g y other v) v.low in
      let a = one.anew in
      let b = two.anew in
      let text = line_shown held n g x left w one.seen ∙ same.text ∙ sym (line_shown held n g y other v two.seen) in
      let place = place_shown held n g x left w one.seen ∙ same.place ∙ sym (place_shown held n g y other v two.seen) in
      let start = start_is_empty s low high in
      layout_is s _ _ _ (layout_in n g x) (sight_in n g x) (a.holds [] [] 0 start) a.measure_is
      ∙ alike s (sight_in n g x) (sight_in n g y) same.prompt text place same.info given (one.seen.rests ∙ sym two.seen.rests)
      ∙ sym (layout_is s _ _ _ (layout_in n g y) (sight_in n g y) (b.holds [] [] 0 start) b.measure_is)
