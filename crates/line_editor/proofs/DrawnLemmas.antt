-- One redraw in place of another that asks the same.
use Rattle.std.proofs.Common.{◌≡◌, ◌≢◌, ℕ, ◌≤◌, ◌==◌, ◌&&◌, nat_lt, Bool, List, take, drop, true, false, [], refl, sym, ap, subst, ◌∙◌, if◌then◌else◌, slice_range, length}
use Rattle.std.proofs.Math.Bool.{and-false}
use Rattle.std.specs.Prelude.{encode_utf8, not, Option, None, Some, is_some, option_map, Result, Ok, Err, OnOk, IsErrAnd, IsTrue}
use Rattle.std.specs.List.{FoldsTo}
use Rattle.std.proofs.lemmas.Bool.{and_parts, le-ltb}
use Rattle.line_buffer.specs.Cells.{origin, same_cell}
use Rattle.line_buffer.specs.declared.layout.Layout.{Layout}
use Rattle.line_buffer.specs.declared.layout.Position.{Position}
use Rattle.line_config.specs.declared.errors.ReadlineError.{ReadlineError, TheVariants.Display}
use Rattle.line_help.specs.declared.completion as completions
use Rattle.line_help.specs.declared.helpers.hint as hints
use Rattle.line_help.specs.declared.helpers.highlight as highlights
use Rattle.line_help.specs.declared.helpers.validate as verdicts
use Rattle.line_help.specs.declared.history as histories
use Rattle.line_help.specs.Hints.{Hinted}
use Rattle.line_editor.specs.RenderCalls.{Ruler, MadeIn, CutCalls}
use Rattle.line_editor.specs.RenderCalls.Call.{Move}
use Rattle.line_editor.specs.Drawing.{draw_effect_with}
use Rattle.line_editor.specs.Inserting.{is_bare, way_if_bare}
use Rattle.line_editor.specs.Redraws.{Redraw, RedrawCalls, calls_of_redraw, nothing_asked, move_calls, then_asked, rest_call, may_write_over, may_take, may_erase, may_put_in, may_take_out}
use Rattle.line_editor.specs.Redraws.Redraw.{Drawn, DrawnFrom, Typed, Appended, Taken, Erased, PutIn, TakenOut, Rewritten, Bared}
use Rattle.line_editor.specs.States.{value_of, setting_of, surface_of, Stays, Does, Renders}
use Rattle.line_editor.specs.EditSteps.{Surface}
use Rattle.line_editor.specs.Values.{Setting, Value, Transition, draw_effect, shown_hint, shown_marks}
use Rattle.line_editor.specs.declared.renderer as renderers
use Rattle.line_editor.specs.declared.state.State.{State}
use Rattle.line_editor.specs.declared.way.Way.{Way, TheVariants.Whole}
use Rattle.line_editor.proofs.DoesLemmas.{does_refused, if_refused, is_err}
use Rattle.line_editor.proofs.StopsLemmas.{broken_refused, stops_drawing, stops_drawn_as}

-- a bare line has no hint
no_hint : (v : Value) → is_bare v ≡ true → shown_hint v ≡ None
no_hint v bare = by_hint v.hint (and_parts (not (is_some v.hint)) (not v.marked) bare).0
  where
    by_hint : (o : Option Hinted) → not (is_some o) ≡ true → option_map (λ h. h.display) o ≡ None
    by_hint None h = refl
    by_hint (Some hint) h = cc

-- a way that isn't whole was chosen in one
pub bare_if : (way shown : Way) (v : Value) → way_if_bare way v ≡ shown → shown ≢ Whole → is_bare v ≡ true
bare_if way shown v is other = by_test (is_bare v) is
  where
    by_test : (b : Bool) → (if b then way else Whole) ≡ shown → b ≡ true
    by_test true h = refl
    by_test false h = absurd (other (sym h))

-- the rest, from a place on
abbrev rest_drawn : ℕ → Transition
rest_drawn from a v = draw_effect (DrawnFrom a.prompt from v.line.text v.line.place (shown_hint v)) a v

-- the calls and the layout of one redraw
abbrev asks : RedrawCalls → RedrawCalls
asks a = then_asked a (nothing_asked a.layout)

-- ---- whether a character's cells can be erased, by their number in one row

abbrev columns_are : Ruler → ℕ → Option ℕ
columns_are r c = let end = r.measure (encode_utf8 c) origin in if end.row == 0 then Some end.col else None

abbrev room : Bool → Option ℕ → ℕ → Bool
room bare None end = false
room bare (Some width) end = bare && nat_lt width end

room_by : (bare one : Bool) (width end : ℕ) → (bare && (one && nat_lt width end)) ≡ room bare (if one then Some width else None) end
room_by bare true width end = refl
room_by true false width end = refl
room_by false false width end = refl

room_for : (r : Ruler) (l : Layout) (c : ℕ) (columns : Option ℕ) → columns ≡ columns_are r c → may_erase r l c ≡ room (not l.has_info) columns l.end.col
room_for r l c columns is =
    let end = r.measure (encode_utf8 c) origin in
    room_by (not l.has_info) (end.row == 0) end.col l.end.col ∙ ap (λ o. room (not l.has_info) o l.end.col) (sym is)

pub no_columns : (r : Ruler) (l : Layout) (c : ℕ) (columns : Option ℕ) → columns ≡ columns_are r c → columns ≡ None → may_erase r l c ≡ false
no_columns r l c columns are is = room_for r l c columns are ∙ ap (λ o. room (not l.has_info) o l.end.col) is

pub too_few_columns : (r : Ruler) (l : Layout) (c width : ℕ) (columns : Option ℕ) → columns ≡ columns_are r c → columns ≡ Some width → l.end.col ≤ width → may_erase r l c ≡ false
too_few_columns r l c width columns are is low =
    room_for r l c columns are ∙ ap (λ o. room (not l.has_info) o l.end.col) is ∙ ap (λ b. not l.has_info && b) (le-ltb width l.end.col low) ∙ and-false (not l.has_info)

pub told_after : (r : Ruler) (l : Layout) (c : ℕ) → l.has_info ≡ true → may_erase r l c ≡ false
told_after r l c told = let end = r.measure (encode_utf8 c) origin in ap (λ b. not b && ((end.row == 0) && nat_lt end.col l.end.col)) told

module _ {Out H Hi K T : Type 0} {renderer : renderers.Renderer.Ghosts Out} {completer : completions.Completer.Ghosts H K} {candidate : completions.Candidate.Ghosts K}
    {hinter : hints.Hinter.Ghosts H T} {hint : hints.Hint.Ghosts T} {highlighter : highlights.Highlighter.Ghosts H} {validator : verdicts.Validator.Ghosts H} {history : histories.History.Ghosts Hi} where
  drawn_as : {A : Type 0} (x y : Setting → Value → Redraw) (s t : State Out H Hi K T renderer completer candidate hinter hint highlighter validator history) (result : Result A ReadlineError)
      → (let r : Ruler = renderer.canvas.ruler s.out in calls_of_redraw r (shown_marks (value_of s) (setting_of s).marks) s.layout (x (setting_of s) (value_of s)) ≡ calls_of_redraw r (shown_marks (value_of s) (setting_of s).marks) s.layout (y (setting_of s) (value_of s)))
      → Does (λ a v. draw_effect (x a v) a v) s t result → Does (λ a v. draw_effect (y a v) a v) s t result
  drawn_as x y s t result same h = record {
    value = h.value;
    calls = subst (λ (a : RedrawCalls). OnOk result (FoldsTo (MadeIn renderer.canvas) s.out (asks a).calls t.out)) same h.calls;
    layout = subst (λ (a : RedrawCalls). OnOk result (t.layout ≡ (asks a).layout)) same h.layout;
    stays = h.stays;
    reason = h.reason;
    stops = if_refused result (λ fault c. stops_drawn_as renderer.canvas (renderer.canvas.ruler s.out) (value_of s) (setting_of s).marks (x (setting_of s) (value_of s)) (y (setting_of s) (value_of s))
        (surface_of s) (surface_of t) fault (value_of t) same c) h.stops;
  }

  pub typed_drawn : {A : Type 0} (c : ℕ) (s t : State Out H Hi K T renderer completer candidate hinter hint highlighter validator history) (result : Result A ReadlineError)
      → may_write_over (renderer.canvas.ruler s.out) s.layout s.layout.cursor 1 ≡ false → Does (draw_effect_with None) s t result → Does (λ a v. draw_effect (Typed a.prompt c v.line.text v.line.place) a v) s t result
  typed_drawn c s t result is h = drawn_as (λ a v. Drawn a.prompt true v.line.text v.line.place None) (λ a v. Typed a.prompt c v.line.text v.line.place) s t result
      (rw is) h

  pub appended_drawn : {A : Type 0} (c : ℕ) (s t : State Out H Hi K T renderer completer candidate hinter hint highlighter validator history) (result : Result A ReadlineError)
      → s.layout.has_info ≡ true → Does (draw_effect_with None) s t result → Does (λ a v. draw_effect (Appended a.prompt c v.line.text v.line.place) a v) s t result
  appended_drawn c s t result is h = drawn_as (λ a v. Drawn a.prompt true v.line.text v.line.place None) (λ a v. Appended a.prompt c v.line.text v.line.place) s t result
      (rw is) h

  abbrev rest_asked : ℕ → Option (List ℕ) → State Out H Hi K T renderer completer candidate hinter hint highlighter validator history → RedrawCalls
  rest_asked from info s = rest_call (renderer.canvas.ruler s.out) (shown_marks (value_of s) (setting_of s).marks) s.layout from s.recorded.line.text s.recorded.line.place info

  bare_rest : (from place : ℕ) (s : State Out H Hi K T renderer completer candidate hinter hint highlighter validator history) → is_bare (value_of s) ≡ true → from ≡ place → rest_asked from (shown_hint (value_of s)) s ≡ rest_asked place None s
  bare_rest from place s bare at = ap (λ n. rest_asked n (shown_hint (value_of s)) s) at ∙ ap (λ o. rest_asked place o s) (no_hint (value_of s) bare)

  pub taken_drawn : {A : Type 0} (count : ℕ) (s t : State Out H Hi K T renderer completer candidate hinter hint highlighter validator history) (result : Result A ReadlineError)
      → may_take s.layout count ≡ false → (setting_of s).config.partial_redraw ≡ false → Does (draw_effect_with None) s t result
      → Does (λ a v. draw_effect (Taken a.prompt count a.config.partial_redraw v.line.text v.line.place) a v) s t result
  taken_drawn count s t result is whole h =
      drawn_as (λ a v. Drawn a.prompt true v.line.text v.line.place None) (λ a v. Taken a.prompt count a.config.partial_redraw v.line.text v.line.place) s t result (rw (is, whole)) h

  pub taken_rest : {A : Type 0} (count from : ℕ) (s t : State Out H Hi K T renderer completer candidate hinter hint highlighter validator history) (result : Result A ReadlineError)
      → may_take s.layout count ≡ false → (setting_of s).config.partial_redraw ≡ true → is_bare (value_of s) ≡ true → from ≡ s.recorded.line.place → Does (rest_drawn from) s t result
      → Does (λ a v. draw_effect (Taken a.prompt count a.config.partial_redraw v.line.text v.line.place) a v) s t result
  taken_rest count from s t result is partial bare at h =
      drawn_as (λ a v. DrawnFrom a.prompt from v.line.text v.line.place (shown_hint v)) (λ a v. Taken a.prompt count a.config.partial_redraw v.line.text v.line.place) s t result
      (bare_rest from s.recorded.line.place s bare at ∙ rw (is, partial)) h

  pub erased_rest : {A : Type 0} (c from : ℕ) (s t : State Out H Hi K T renderer completer candidate hinter hint highlighter validator history) (result : Result A ReadlineError)
      → may_erase (renderer.canvas.ruler s.out) s.layout c ≡ false → is_bare (value_of s) ≡ true → from ≡ s.recorded.line.place → Does (rest_drawn from) s t result
      → Does (λ a v. draw_effect (Erased a.prompt c v.line.text v.line.place) a v) s t result
  erased_rest c from s t result is bare at h =
      drawn_as (λ a v. DrawnFrom a.prompt from v.line.text v.line.place (shown_hint v)) (λ a v. Erased a.prompt c v.line.text v.line.place) s t result
      (bare_rest from s.recorded.line.place s bare at ∙ rw is) h

  pub put_in_drawn : {A : Type 0} (c : ℕ) (rest : List ℕ) (s t : State Out H Hi K T renderer completer candidate hinter hint highlighter validator history) (result : Result A ReadlineError)
      → rest ≡ drop s.recorded.line.place s.recorded.line.text → may_put_in (renderer.canvas.ruler s.out) s.layout rest ≡ false
      → Does (draw_effect_with None) s t result → Does (λ a v. draw_effect (PutIn a.prompt c v.line.text v.line.place) a v) s t result
  put_in_drawn c rest s t result left is h =
      drawn_as (λ a v. Drawn a.prompt true v.line.text v.line.place None) (λ a v. PutIn a.prompt c v.line.text v.line.place) s t result (rw (rw left at is)) h

  pub taken_out_rest : {A : Type 0} (count from : ℕ) (at : Position) (rest : List ℕ) (s t : State Out H Hi K T renderer completer candidate hinter hint highlighter validator history) (result : Result A ReadlineError)
      → at ≡ (renderer.canvas.ruler s.out).measure (take s.recorded.line.place s.recorded.line.text) s.layout.prompt_size → rest ≡ drop s.recorded.line.place s.recorded.line.text
      → may_take_out (renderer.canvas.ruler s.out) s.layout at count rest ≡ false → is_bare (value_of s) ≡ true → from ≡ s.recorded.line.place
      → Does (rest_drawn from) s t result → Does (λ a v. draw_effect (TakenOut a.prompt count v.line.text v.line.place) a v) s t result
  taken_out_rest count from at rest s t result cell left is bare here h =
      drawn_as (λ a v. DrawnFrom a.prompt from v.line.text v.line.place (shown_hint v)) (λ a v. TakenOut a.prompt count v.line.text v.line.place) s t result
      (bare_rest from s.recorded.line.place s bare here ∙ rw (rw (cell, left) at is)) h

  pub rewritten_rest : {A : Type 0} (from upto : ℕ) (at : Position) (letters : List ℕ) (s t : State Out H Hi K T renderer completer candidate hinter hint highlighter validator history) (result : Result A ReadlineError)
      → at ≡ (renderer.canvas.ruler s.out).measure (take from s.recorded.line.text) s.layout.prompt_size → letters ≡ slice_range s.recorded.line.text from upto
      → may_write_over (renderer.canvas.ruler s.out) s.layout at (length letters) ≡ false → is_bare (value_of s) ≡ true
      → Does (rest_drawn from) s t result → Does (λ a v. draw_effect (Rewritten a.prompt from upto v.line.text v.line.place) a v) s t result
  rewritten_rest from upto at letters s t result cell part is bare h =
      drawn_as (λ a v. DrawnFrom a.prompt from v.line.text v.line.place (shown_hint v)) (λ a v. Rewritten a.prompt from upto v.line.text v.line.place) s t result
      (bare_rest from from s bare refl ∙ rw (rw (cell, part) at is)) h

  pub bared_drawn : {A : Type 0} (s t : State Out H Hi K T renderer completer candidate hinter hint highlighter validator history) (result : Result A ReadlineError)
      → s.layout.default_prompt ≡ false → Does (draw_effect_with None) s t result → Does (λ a v. draw_effect (Bared a.prompt v.line.text v.line.place) a v) s t result
  bared_drawn s t result is h =
      drawn_as (λ a v. Drawn a.prompt true v.line.text v.line.place None) (λ a v. Bared a.prompt v.line.text v.line.place) s t result (rw is) h

  -- ---- the cursor moved to a cell

  -- it stands there
  pub cursor_rests : {A : Type 0} (x : Setting → Value → Redraw) (p : Position) (s t : State Out H Hi K T renderer completer candidate hinter hint highlighter validator history) (y : A)
      → move_calls s.layout p ≡ calls_of_redraw (renderer.canvas.ruler s.out) (shown_marks (value_of s) (setting_of s).marks) s.layout (x (setting_of s) (value_of s)) → same_cell s.layout.cursor p ≡ true
      → value_of t ≡ value_of s → surface_of t ≡ surface_of s → Stays s t → Renders (λ a v. draw_effect (x a v) a v) s t (Ok y)
  cursor_rests x p s t y is same value surface stays =
      let asked = rw same at is in
      record {
        does = record {
          value = value;
          calls = subst (λ (a : RedrawCalls). FoldsTo (MadeIn renderer.canvas) s.out (asks a).calls t.out) asked (sym (ap (λ (u : Surface Out). u.out) surface));
          layout = subst (λ (a : RedrawCalls). t.layout ≡ (asks a).layout) asked (ap (λ (u : Surface Out). u.layout) surface);
          stays = stays;
          reason = tt;
          stops = tt;
        };
        fault = tt;
      }

  -- it was moved
  pub cursor_goes : {A : Type 0} (x : Setting → Value → Redraw) (p : Position) (s t : State Out H Hi K T renderer completer candidate hinter hint highlighter validator history) (y : A)
      → move_calls s.layout p ≡ calls_of_redraw (renderer.canvas.ruler s.out) (shown_marks (value_of s) (setting_of s).marks) s.layout (x (setting_of s) (value_of s)) → same_cell s.layout.cursor p ≡ false
      → value_of t ≡ value_of s → renderer.canvas.made s.out (Move s.layout.cursor p) t.out → t.layout ≡ record s.layout { cursor = p } → Stays s t → Renders (λ a v. draw_effect (x a v) a v) s t (Ok y)
  cursor_goes x p s t y is same value made layout stays =
      let asked = rw same at is in
      record {
        does = record {
          value = value;
          calls = subst (λ (a : RedrawCalls). FoldsTo (MadeIn renderer.canvas) s.out (asks a).calls t.out) asked (t.out, made, refl);
          layout = subst (λ (a : RedrawCalls). t.layout ≡ (asks a).layout) asked layout;
          stays = stays;
          reason = tt;
          stops = tt;
        };
        fault = tt;
      }

  -- it failed
  pub cursor_refused : {A : Type 0} (x : Setting → Value → Redraw) (p : Position) (s t : State Out H Hi K T renderer completer candidate hinter hint highlighter validator history)
      (e : ReadlineError) (result : Result A ReadlineError) → IsErrAnd result (λ y. y ≡ e) → e ≡ Display
      → move_calls s.layout p ≡ calls_of_redraw (renderer.canvas.ruler s.out) (shown_marks (value_of s) (setting_of s).marks) s.layout (x (setting_of s) (value_of s)) → same_cell s.layout.cursor p ≡ false
      → value_of t ≡ value_of s → renderer.canvas.refused s.out (Move s.layout.cursor p) t.out → IsTrue (renderer.canvas.failed t.out) → t.layout ≡ s.layout → Stays s t
      → Renders (λ a v. draw_effect (x a v) a v) s t result
  cursor_refused {A} x p s t e result failed fault is same value refused why layout stays =
      let asked = rw same at is in
      let edit : Transition = λ a v. draw_effect (x a v) a v in
      subst (λ (r : Result A ReadlineError). Renders edit s t r) (sym (is_err e result failed ∙ ap Err fault)) (record {
        does = does_refused edit s t Display stays why
            (stops_drawing renderer.canvas (renderer.canvas.ruler s.out) (value_of s) (setting_of s).marks (x (setting_of s) (value_of s)) [] (surface_of s) (surface_of t) Display (value_of t) refl
            (subst (λ (a : RedrawCalls). CutCalls renderer.canvas a.calls s.out t.out) asked (broken_refused renderer.canvas (Move s.layout.cursor p) [] s.out t.out refl refused)) layout value);
        fault = refl;
      })
