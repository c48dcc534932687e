-- A drawing after the highlighter was called: it shows the new mark.
use Rattle.std.proofs.Common.{◌≡◌, Bool, true, false, true≢false, ◌||◌, ◌==◌, not, ℕ, List, refl, sym, ap, subst, ◌∙◌, if◌then◌else◌, arith}
use Rattle.std.proofs.lemmas.Bool.Decides.{nat_tests}
use Rattle.std.specs.Prelude.{Option, Some, None, is_some, Result}
use Rattle.line_config.specs.declared.errors.ReadlineError.{ReadlineError}
use Rattle.line_help.specs.declared.completion as completions
use Rattle.line_help.specs.declared.helpers.hint as hints
use Rattle.line_help.specs.declared.helpers.highlight as highlights
use Rattle.line_help.specs.declared.helpers.validate as verdicts
use Rattle.line_help.specs.declared.history as histories
use Rattle.line_keys.specs.declared.command.CmdKind.{CmdKind, TheVariants.ForcedRefresh}
use Rattle.line_buffer.specs.Line.{Line, with_cursor_at}
use Rattle.line_record.specs.Items.{record_on}
use Rattle.line_editor.specs.Accepting.{bare}
use Rattle.line_editor.specs.Moving.{cursor_moved_if}
use Rattle.line_editor.specs.Drawing.{draw_effect_with, cursor_moved, effect_if}
use Rattle.line_editor.specs.Redraws.Redraw.{Drawn, Moved, Bared}
use Rattle.line_editor.specs.States.{value_of, setting_of, surface_of, Stays, Does}
use Rattle.line_editor.specs.EditSteps.{surface}
use Rattle.line_editor.specs.Values.{at_line, no_effect, Setting, Value, Transition, draw_effect, with_mark, without_hint}
use Rattle.line_editor.specs.declared.renderer as renderers
use Rattle.line_editor.specs.declared.state.State.{State}
use Rattle.line_editor.proofs.DoesLemmas.{does_from, setting_stays}

pub same_text : (found : Option ℕ) (l : Line) → (with_cursor_at found l).text ≡ l.text
same_text None l = refl
same_text (Some place) l = refl

same_line : (found : Option ℕ) (l : Line) → is_some found ≡ false → with_cursor_at found l ≡ l
same_line None l none = refl
same_line (Some place) l none = absurd (true≢false none)

same_place : (m n : ℕ) → not (m == n) ≡ false → m ≡ n
same_place m n h = grind (arith, nat_tests)

same_test : (m n : ℕ) → not (m == n) ≡ not (n == m)
same_test m n = grind (arith, nat_tests)

module _ {Out H Hi K T : Type 0} {renderer : renderers.Renderer.Ghosts Out} {completer : completions.Completer.Ghosts H K} {candidate : completions.Candidate.Ghosts K}
    {hinter : hints.Hinter.Ghosts H T} {hint : hints.Hint.Ghosts T} {highlighter : highlights.Highlighter.Ghosts H} {validator : verdicts.Validator.Ghosts H} {history : histories.History.Ghosts Hi} where
  pub marked_does : {A : Type 0} (edit other : Transition) (kind : CmdKind) (s m t : State Out H Hi K T renderer completer candidate hinter hint highlighter validator history) (result : Result A ReadlineError)
      → value_of m ≡ with_mark kind (setting_of s) (value_of s) → m.out ≡ s.out → m.layout ≡ s.layout → Stays s m
      → edit (setting_of s) (with_mark kind (setting_of s) (value_of s)) ≡ other (setting_of s) (value_of s) → Does edit m t result → Does other s t result
  marked_does edit other kind s m t result value out layout stays is h =
      does_from edit other s m t result
      (ap (λ (a : Setting). edit a (value_of m)) (setting_stays s m stays) ∙ ap (edit (setting_of s)) value ∙ is)
      (ap (λ o. surface o m.layout) out ∙ ap (surface s.out) layout)
      stays h

  -- after a hint was dropped
  pub marked_from : {A : Type 0} (edit other : Transition) (kind : CmdKind) (s0 s m t : State Out H Hi K T renderer completer candidate hinter hint highlighter validator history) (result : Result A ReadlineError)
      → value_of s ≡ without_hint (value_of s0) → setting_of s ≡ setting_of s0 → surface_of s ≡ surface_of s0 → Stays s0 s
      → value_of m ≡ with_mark kind (setting_of s) (value_of s) → m.out ≡ s.out → m.layout ≡ s.layout → Stays s m
      → edit (setting_of s0) (with_mark kind (setting_of s0) (without_hint (value_of s0))) ≡ other (setting_of s0) (value_of s0) → Does edit m t result → Does other s0 t result
  marked_from edit other kind s0 s m t result dropped same looks kept value out layout stays is h =
      let marked : Transition = λ a v. edit a (with_mark kind a v) in
      does_from marked other s0 s t result
      (ap (λ (a : Setting). marked a (value_of s)) same ∙ ap (marked (setting_of s0)) dropped ∙ is) looks kept
      (marked_does edit marked kind s m t result value out layout stays refl h)

  -- the cursor moved, and something is marked, or was
  pub moved_marked : {A : Type 0} (kind : CmdKind) (s m t : State Out H Hi K T renderer completer candidate hinter hint highlighter validator history) (result : Result A ReadlineError)
      → value_of m ≡ with_mark kind (setting_of s) (value_of s) → m.out ≡ s.out → m.layout ≡ s.layout → Stays s m
      → (s.highlight_char || m.highlight_char) ≡ true → Does (draw_effect_with None) m t result → Does (cursor_moved kind) s t result
  moved_marked kind s m t result value out layout stays some h =
      let w = with_mark kind (setting_of s) (value_of s) in
      let cond : (s.highlight_char || w.marked) ≡ true = ap (λ b. s.highlight_char || b) (sym (ap (λ (v : Value). v.marked) value)) ∙ some in
      marked_does (draw_effect_with None) (cursor_moved kind) kind s m t result value out layout stays
      (ap (λ b. draw_effect (if b then Drawn s.prompt.now true w.line.text w.line.place None else Moved w.line.text w.line.place) (setting_of s) w) (sym cond)) h

  -- a line that is to be accepted: drawn, or left as it is
  bare_if : (s m : State Out H Hi K T renderer completer candidate hinter hint highlighter validator history) (b : Bool) → value_of m ≡ with_mark ForcedRefresh (setting_of s) (without_hint (value_of s)) → (is_some (value_of s).hint || (s.highlight_char || m.highlight_char)) ≡ b
      → (let w = with_mark ForcedRefresh (setting_of s) (without_hint (value_of s)) in draw_effect (if b then Drawn s.prompt.now true w.line.text w.line.place None else Bared s.prompt.now w.line.text w.line.place) (setting_of s) w ≡ bare (setting_of s) (value_of s))
  bare_if s m b value is =
      let w = with_mark ForcedRefresh (setting_of s) (without_hint (value_of s)) in
      let cond : (is_some (value_of s).hint || (s.highlight_char || w.marked)) ≡ b = ap (λ x. is_some (value_of s).hint || (s.highlight_char || x)) (sym (ap (λ (v : Value). v.marked) value)) ∙ is in
      ap (λ x. draw_effect (if x then Drawn s.prompt.now true w.line.text w.line.place None else Bared s.prompt.now w.line.text w.line.place) (setting_of s) w) (sym cond)

  pub bare_drawn : {A : Type 0} (s0 s m t : State Out H Hi K T renderer completer candidate hinter hint highlighter validator history) (result : Result A ReadlineError)
      → value_of s ≡ without_hint (value_of s0) → setting_of s ≡ setting_of s0 → surface_of s ≡ surface_of s0 → Stays s0 s
      → value_of m ≡ with_mark ForcedRefresh (setting_of s) (value_of s) → m.out ≡ s.out → m.layout ≡ s.layout → Stays s m
      → (is_some (value_of s0).hint || (s0.highlight_char || m.highlight_char)) ≡ true → Does (draw_effect_with None) m t result → Does bare s0 t result
  bare_drawn s0 s m t result dropped same looks kept value out layout stays some h =
      marked_from (draw_effect_with None) bare ForcedRefresh s0 s m t result dropped same looks kept value out layout stays
      (bare_if s0 m true (value ∙ ap (λ (a : Setting). with_mark ForcedRefresh a (value_of s)) same ∙ ap (with_mark ForcedRefresh (setting_of s0)) dropped) some) h

  pub bare_kept : {A : Type 0} (s0 s m t : State Out H Hi K T renderer completer candidate hinter hint highlighter validator history) (result : Result A ReadlineError)
      → value_of s ≡ without_hint (value_of s0) → setting_of s ≡ setting_of s0 → surface_of s ≡ surface_of s0 → Stays s0 s
      → value_of m ≡ with_mark ForcedRefresh (setting_of s) (value_of s) → m.out ≡ s.out → m.layout ≡ s.layout → Stays s m
      → (is_some (value_of s0).hint || (s0.highlight_char || m.highlight_char)) ≡ false
      → Does (λ a v. draw_effect (Bared a.prompt v.line.text v.line.place) a v) m t result → Does bare s0 t result
  bare_kept s0 s m t result dropped same looks kept value out layout stays none h =
      marked_from (λ a v. draw_effect (Bared a.prompt v.line.text v.line.place) a v) bare ForcedRefresh s0 s m t result dropped same looks kept value out layout stays
      (bare_if s0 m false (value ∙ ap (λ (a : Setting). with_mark ForcedRefresh a (value_of s)) same ∙ ap (with_mark ForcedRefresh (setting_of s0)) dropped) none) h

  -- the cursor moved in the line, and then on the display, or it stayed
  moved_on : {A : Type 0} (kind : CmdKind) (moves : Bool) (l : Line) (other : Transition) (s m t : State Out H Hi K T renderer completer candidate hinter hint highlighter validator history) (result : Result A ReadlineError)
      → value_of m ≡ at_line l (value_of s) → (moves ≡ false → l ≡ s.recorded.line) → surface_of m ≡ surface_of s → Stays s m
      → cursor_moved_if kind moves l (setting_of s) (value_of s) ≡ other (setting_of s) (value_of s) → Does (effect_if moves (cursor_moved kind)) m t result → Does other s t result
  moved_on kind true l other s m t result value same looks stays is h =
      does_from (cursor_moved kind) other s m t result
      (ap (λ (a : Setting). cursor_moved kind a (value_of m)) (setting_stays s m stays) ∙ ap (cursor_moved kind (setting_of s)) value ∙ is) looks stays h
  moved_on kind false l other s m t result value same looks stays is h =
      does_from no_effect other s m t result
      (ap (λ (a : Setting). no_effect a (value_of m)) (setting_stays s m stays) ∙ ap (no_effect (setting_of s)) (value ∙ ap (λ (x : Line). at_line x (value_of s)) (same refl)) ∙ is) looks stays h

  -- line and record alone are another
  abbrev Moves : (State Out H Hi K T renderer completer candidate hinter hint highlighter validator history)
      → (State Out H Hi K T renderer completer candidate hinter hint highlighter validator history) → Type 0
  Moves s m = value_of m ≡ record (value_of s) { line = m.recorded.line; held = record_on s.recorded.changes m.recorded.line.text }

  moves_to : (l : Line) (s m : State Out H Hi K T renderer completer candidate hinter hint highlighter validator history) → Moves s m → m.recorded.line ≡ l → l.text ≡ s.recorded.line.text
      → value_of m ≡ at_line l (value_of s)
  moves_to l s m moves line same =
      moves ∙ ap (λ (x : Line). let v : Value = record (value_of s) { line = x; held = record_on s.recorded.changes x.text } in v) line
      ∙ ap (λ (t : List ℕ). let v : Value = record (value_of s) { line = l; held = record_on s.recorded.changes t } in v) same

  -- to a place that was found, if one was
  pub follows_found : {A : Type 0} (kind : CmdKind) (found : Option ℕ) (other : Transition) (s m t : State Out H Hi K T renderer completer candidate hinter hint highlighter validator history) (moved : Bool) (result : Result A ReadlineError)
      → moved ≡ is_some found → m.recorded.line ≡ with_cursor_at found s.recorded.line → Moves s m → surface_of m ≡ surface_of s → Stays s m
      → cursor_moved_if kind (is_some found) (with_cursor_at found s.recorded.line) (setting_of s) (value_of s) ≡ other (setting_of s) (value_of s)
      → Does (effect_if moved (cursor_moved kind)) m t result → Does other s t result
  follows_found kind found other s m t moved result answer line moves looks stays is h =
      moved_on kind (is_some found) (with_cursor_at found s.recorded.line) other s m t result (moves_to (with_cursor_at found s.recorded.line) s m moves line (same_text found s.recorded.line))
      (same_line found s.recorded.line) looks stays is (subst (λ b. Does (effect_if b (cursor_moved kind)) m t result) answer h)

  -- to a place, if it is another one
  pub follows_place : {A : Type 0} (kind : CmdKind) (place : ℕ) (other : Transition) (s m t : State Out H Hi K T renderer completer candidate hinter hint highlighter validator history) (moved : Bool) (result : Result A ReadlineError)
      → moved ≡ not (place == s.recorded.line.place) → m.recorded.line ≡ record s.recorded.line { place = place } → Moves s m → surface_of m ≡ surface_of s → Stays s m
      → cursor_moved_if kind (not (place == s.recorded.line.place)) (record s.recorded.line { place = place }) (setting_of s) (value_of s) ≡ other (setting_of s) (value_of s)
      → Does (effect_if moved (cursor_moved kind)) m t result → Does other s t result
  follows_place kind place other s m t moved result answer line moves looks stays is h =
      moved_on kind (not (place == s.recorded.line.place)) (record s.recorded.line { place = place }) other s m t result (moves_to (record s.recorded.line { place = place }) s m moves line refl)
      (λ stood. ap (λ n. let l : Line = record s.recorded.line { place = n } in l) (same_place place s.recorded.line.place stood)) looks stays is
      (subst (λ b. Does (effect_if b (cursor_moved kind)) m t result) answer h)

  pub follows_from : {A : Type 0} (kind : CmdKind) (place : ℕ) (other : Transition) (s m t : State Out H Hi K T renderer completer candidate hinter hint highlighter validator history) (moved : Bool) (result : Result A ReadlineError)
      → moved ≡ not (s.recorded.line.place == place) → m.recorded.line ≡ record s.recorded.line { place = place } → Moves s m → surface_of m ≡ surface_of s → Stays s m
      → cursor_moved_if kind (not (place == s.recorded.line.place)) (record s.recorded.line { place = place }) (setting_of s) (value_of s) ≡ other (setting_of s) (value_of s)
      → Does (effect_if moved (cursor_moved kind)) m t result → Does other s t result
  follows_from kind place other s m t moved result answer line moves looks stays is h =
      follows_place kind place other s m t moved result (answer ∙ same_test s.recorded.line.place place) line moves looks stays is h
