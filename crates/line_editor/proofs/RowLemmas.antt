-- Motions by rows, or through the history if there is no such row.
use Rattle.std.proofs.Common.{◌≡◌, ℕ, Bool, true, false, List, [], refl, sym, ap, subst, if◌then◌else◌}
use Rattle.std.specs.Prelude.{Option, is_some, Result, Err, IsErrAnd}
use Rattle.line_buffer.specs.Columns.{line_up, line_down}
use Rattle.line_config.specs.declared.errors.ReadlineError.{ReadlineError}
use Rattle.line_help.specs.declared.completion as completions
use Rattle.line_help.specs.declared.helpers.hint as hints
use Rattle.line_help.specs.declared.helpers.highlight as highlights
use Rattle.line_help.specs.declared.helpers.validate as verdicts
use Rattle.line_help.specs.declared.history as histories
use Rattle.line_keys.specs.declared.command.CmdKind.TheVariants.{MoveCursor}
use Rattle.line_buffer.specs.Line.{with_cursor_at}
use Rattle.line_editor.specs.Commands.{line_up_or_previous, line_down_or_next}
use Rattle.line_editor.specs.Moving.{cursor_moved_if, to_found, move_by}
use Rattle.line_editor.specs.History.{history_step}
use Rattle.line_editor.specs.States.{value_of, setting_of, surface_of, Does}
use Rattle.line_editor.specs.EditSteps.{CutEditSteps}
use Rattle.line_editor.specs.Values.{EditStep, Transition}
use Rattle.line_editor.specs.declared.renderer as renderers
use Rattle.line_editor.specs.declared.state.State.{State}
use Rattle.line_editor.proofs.DoesLemmas.{does_as, is_err}
use Rattle.line_editor.proofs.StopsLemmas.{never_stops}
use Rattle.line_buffer.specs.declared.types.Movement.TheVariants.{LineUp, LineDown}

abbrev either : Bool → Transition → Transition → Transition
either b edit other s v = if b then edit s v else other s v

module _ {Out H Hi K T : Type 0} {renderer : renderers.Renderer.Ghosts Out} {completer : completions.Completer.Ghosts H K} {candidate : completions.Candidate.Ghosts K}
    {hinter : hints.Hinter.Ghosts H T} {hint : hints.Hint.Ghosts T} {highlighter : highlights.Highlighter.Ghosts H} {validator : verdicts.Validator.Ghosts H} {history : histories.History.Ghosts Hi} where
  -- a motion that isn't made has no step that fails
  either_cut : {A B : Type 0} (b : Bool) (edit other : Transition) (s t : State Out H Hi K T renderer completer candidate hinter hint highlighter validator history) (e : ReadlineError)
      → (b ≡ false → (edit (setting_of s) (value_of s)).steps ≡ []) → Does {A = A} edit s t (Err e) → Does {A = B} (either b edit other) s t (Err e)
  either_cut true edit other s t e none h = record { value = tt; calls = tt; layout = tt; stays = h.stays; reason = h.reason; stops = h.stops }
  either_cut false edit other s t e none h = never_stops renderer.canvas (renderer.canvas.ruler s.out) e (value_of t) (surface_of s) (surface_of t)
      (subst (λ (xs : List EditStep). CutEditSteps renderer.canvas (renderer.canvas.ruler s.out) xs (surface_of s) e (value_of t) (surface_of t)) (none refl) h.stops)

  rows_cut : {A B : Type 0} (found : Option ℕ) (other : Transition) (s t : State Out H Hi K T renderer completer candidate hinter hint highlighter validator history) (e : ReadlineError)
      → Does {A = A} (to_found found) s t (Err e) → Does {A = B} (either (is_some found) (to_found found) other) s t (Err e)
  rows_cut {A} {B} found other s t e h = either_cut {A = A} {B = B} (is_some found) (to_found found) other s t e
      (λ none. ap (λ (b : Bool). (cursor_moved_if MoveCursor b (with_cursor_at found (value_of s).line) (setting_of s) (value_of s)).steps) none) h

  pub up_cut : {A B : Type 0} (n : ℕ) (s t : State Out H Hi K T renderer completer candidate hinter hint highlighter validator history) (e : ReadlineError) (r : Result B ReadlineError)
      → IsErrAnd r (λ x. x ≡ e) → Does {A = A} (move_by (LineUp n)) s t (Err e) → Does (line_up_or_previous n) s t r
  up_cut {A} {B} n s t e r is h =
      let found : Option ℕ = line_up (setting_of s).mode (setting_of s).tabs (setting_of s).column n s.recorded.line in
      subst (λ (x : Result B ReadlineError). Does (line_up_or_previous n) s t x) (sym (is_err e r is))
      (does_as {A = B} (either (is_some found) (to_found found) (history_step true)) (line_up_or_previous n) s t (Err e) refl
      (rows_cut {A = A} {B = B} found (history_step true) s t e (does_as {A = A} (move_by (LineUp n)) (to_found found) s t (Err e) refl h)))

  pub down_cut : {A B : Type 0} (n : ℕ) (s t : State Out H Hi K T renderer completer candidate hinter hint highlighter validator history) (e : ReadlineError) (r : Result B ReadlineError)
      → IsErrAnd r (λ x. x ≡ e) → Does {A = A} (move_by (LineDown n)) s t (Err e) → Does (line_down_or_next n) s t r
  down_cut {A} {B} n s t e r is h =
      let found : Option ℕ = line_down (setting_of s).mode (setting_of s).tabs (setting_of s).column n s.recorded.line in
      subst (λ (x : Result B ReadlineError). Does (line_down_or_next n) s t x) (sym (is_err e r is))
      (does_as {A = B} (either (is_some found) (to_found found) (history_step false)) (line_down_or_next n) s t (Err e) refl
      (rows_cut {A = A} {B = B} found (history_step false) s t e (does_as {A = A} (move_by (LineDown n)) (to_found found) s t (Err e) refl h)))
