-- What a search makes of the line, part after part.
use Rattle.std.proofs.Common.{◌≡◌, ℕ, ◌==◌, Bool, true, false, List, [], length, refl, sym, ap, subst, ◌∙◌}
use Rattle.std.specs.Prelude.{Option, Some, Result, Ok, Err, IsErrAnd}
use Rattle.line_config.specs.declared.errors.ReadlineError.{ReadlineError, TheVariants.Memory}
use Rattle.line_help.specs.Search.{Hit}
use Rattle.line_keys.specs.declared.command.Cmd.{Cmd, TheVariants.Unknown}
use Rattle.line_help.specs.declared.completion as completions
use Rattle.line_help.specs.declared.helpers.hint as hints
use Rattle.line_help.specs.declared.helpers.highlight as highlights
use Rattle.line_help.specs.declared.helpers.validate as verdicts
use Rattle.line_help.specs.declared.history as histories
use Rattle.line_help.specs.declared.history.search.SearchDirection.{SearchDirection}
use Rattle.line_record.specs.Items.{record_on}
use Rattle.line_editor.specs.Drawing.{refresh_effect_behind}
use Rattle.line_editor.specs.Modal.{Modal, Meeting, next_of}
use Rattle.line_editor.specs.Searching.{search_prompt, search_drawn, hit_undo_effect, put_hit_effect, look, modal_after_look, search_for, modal_with_char, looks_again, modal_after_erase, act_of, looks_typed}
use Rattle.line_editor.specs.ModalCommands.{meeting_in, meeting, meeting_effect, meeting_in_search}
use Rattle.line_editor.specs.States.{value_of, setting_of, surface_of, Stays, Does, Meets}
use Rattle.line_editor.specs.Values.{Value, Setting, Transition, memory_effect, then_do}
use Rattle.line_editor.specs.declared.modal_state.Act.TheVariants.{Erases}
use Rattle.line_editor.specs.declared.modal_state.Next.TheVariants.{Nothing}
use Rattle.line_editor.specs.declared.modal_state.Standing.TheVariants.{Searches}
use Rattle.line_editor.specs.declared.renderer as renderers
use Rattle.line_editor.specs.declared.state.State.{State}
use Rattle.line_editor.proofs.DoesLemmas.{does_as, does_both, does_cut_by, does_refused, is_err, stays_same}
use Rattle.line_editor.proofs.StopsLemmas.{stops_taking, stops_taking_back}
use Rattle.line_editor.proofs.UndoLemmas.{CutUndoItems, undone_partly}

abbrev search_shown_effect : SearchDirection → Option Hit → Modal → Transition
search_shown_effect dir hit x = then_do (put_hit_effect x.put hit) (search_drawn (modal_after_look dir hit x))

again_next : (empty : Bool) (q : Modal) (s : Setting) (v : Value) → (looks_again empty q s v).next ≡ Unknown
again_next true q s v = refl
again_next false q s v = refl

module _ {Out H Hi K T : Type 0} {renderer : renderers.Renderer.Ghosts Out} {completer : completions.Completer.Ghosts H K} {candidate : completions.Candidate.Ghosts K}
    {hinter : hints.Hinter.Ghosts H T} {hint : hints.Hint.Ghosts T} {highlighter : highlights.Highlighter.Ghosts H} {validator : verdicts.Validator.Ghosts H} {history : histories.History.Ghosts Hi} where
  -- an entry isn't undone
  pub back_refused : {A : Type 0} (put : Bool) (s t : State Out H Hi K T renderer completer candidate hinter hint highlighter validator history) (result : Result A ReadlineError)
      → put ≡ true → IsErrAnd result (λ e. e ≡ Memory) → CutUndoItems 1 s.recorded.line t.recorded.line s.recorded.changes t.recorded.changes
      → value_of t ≡ record (value_of s) { line = t.recorded.line; held = record_on t.recorded.changes t.recorded.line.text }
      → surface_of t ≡ surface_of s → Stays s t → Does (hit_undo_effect put) s t result
  back_refused {A} put s t result stands is part left same stays =
      subst (λ b. Does {A = A} (hit_undo_effect b) s t result) (sym stands) (subst (λ (r : Result A ReadlineError). Does {A = A} (hit_undo_effect true) s t r) (sym (is_err Memory result is))
      (does_refused (hit_undo_effect true) s t Memory stays tt
      (stops_taking_back renderer.canvas (renderer.canvas.ruler s.out) (value_of s) 1 [] (surface_of s) (surface_of t) Memory (value_of t) refl same (undone_partly 1 s t part left))))

  -- memory ran out before anything was done
  pub unmade : {A : Type 0} (second : Transition) (s : State Out H Hi K T renderer completer candidate hinter hint highlighter validator history) (result : Result A ReadlineError)
      → IsErrAnd result (λ e. e ≡ Memory) → Does (then_do memory_effect second) s s result
  unmade {A} second s result is =
      let canvas = renderer.canvas in
      let v = value_of s in
      subst (λ (r : Result A ReadlineError). Does {A = A} (then_do memory_effect second) s s r) (sym (is_err Memory result is))
      (does_refused (then_do memory_effect second) s s Memory (stays_same s) tt
      (stops_taking canvas (canvas.ruler s.out) v (second (setting_of s) v).steps (surface_of s) (surface_of s) Memory v refl refl refl))

  -- memory was taken, and then this was done
  pub taken_then : {A : Type 0} (second : Transition) (s t : State Out H Hi K T renderer completer candidate hinter hint highlighter validator history) (result : Result A ReadlineError)
      → Does second s t result → Does (then_do memory_effect second) s t result
  taken_then second s t result h =
      does_both memory_effect second s s t (tt {0}) result (record { value = refl; calls = refl; layout = refl; stays = stays_same s; reason = tt; stops = tt }) h

  -- the line after the search's prompt
  pub search_shown : {A : Type 0} (q : Modal) (prompt : List ℕ) (s t : State Out H Hi K T renderer completer candidate hinter hint highlighter validator history) (result : Result A ReadlineError)
      → prompt ≡ search_prompt q → Does (refresh_effect_behind prompt) s t result → Does (search_drawn q) s t result
  search_shown {A} q prompt s t result is h =
      taken_then (refresh_effect_behind (search_prompt q)) s t result (subst (λ p. Does {A = A} (refresh_effect_behind p) s t result) is h)

  -- what was found, or nothing
  pub look_as : {A : Type 0} (dir : SearchDirection) (from : Option ℕ) (q : Modal) (hit : Option Hit) (s t : State Out H Hi K T renderer completer candidate hinter hint highlighter validator history) (result : Result A ReadlineError)
      → search_for q.query dir from (setting_of s).entries ≡ hit → Does (search_shown_effect dir hit q) s t result → Does (look dir from q) s t result
  look_as dir from q hit s t result is h =
      does_as (search_shown_effect dir hit q) (look dir from q) s t result (ap (λ o. search_shown_effect dir o q (setting_of s) (value_of s)) (sym is)) h

  pub found_shown : {A B : Type 0} (dir : SearchDirection) (hit : Hit) (q : Modal) (s m t : State Out H Hi K T renderer completer candidate hinter hint highlighter validator history) (x : B) (result : Result A ReadlineError)
      → Does (put_hit_effect q.put (Some hit)) s m (Ok x) → Does (search_drawn (modal_after_look dir (Some hit) q)) m t result → Does (search_shown_effect dir (Some hit) q) s t result
  found_shown dir hit q s m t x result h k = does_both (put_hit_effect q.put (Some hit)) (search_drawn (modal_after_look dir (Some hit) q)) s m t x result h k

  pub found_cut : {A B : Type 0} (dir : SearchDirection) (hit : Hit) (q : Modal) (s t : State Out H Hi K T renderer completer candidate hinter hint highlighter validator history) (e : ReadlineError) (result : Result A ReadlineError)
      → IsErrAnd result (λ x. x ≡ e) → Does {A = B} (put_hit_effect q.put (Some hit)) s t (Err e) → Does (search_shown_effect dir (Some hit) q) s t result
  found_cut dir hit q s t e result is h = does_cut_by (put_hit_effect q.put (Some hit)) (search_drawn (modal_after_look dir (Some hit) q)) s t e result is h

  -- a character more
  pub typed_shown : {A : Type 0} (c : ℕ) (q z : Modal) (s t : State Out H Hi K T renderer completer candidate hinter hint highlighter validator history) (result : Result A ReadlineError)
      → z ≡ modal_with_char c q → Does (look z.dir (Some z.at) z) s t result → Does (λ a v. (looks_typed c q a v).effect) s t result
  typed_shown {A} c q z s t result is h =
      taken_then (look q.dir (Some q.at) (modal_with_char c q)) s t result (subst (λ (y : Modal). Does {A = A} (look y.dir (Some y.at) y) s t result) is h)

  -- a character less
  pub erased_taken : {A : Type 0} (cmd : Cmd) (q q' : Modal) (s t : State Out H Hi K T renderer completer candidate hinter hint highlighter validator history) (x : A)
      → q.standing ≡ Searches → act_of cmd ≡ Erases → Does (λ a v. (meeting_in_search Erases q cmd a v).effect) s t (Ok x) → q' ≡ (meeting_in_search Erases q cmd (setting_of s) (value_of s)).modal
      → Meets (meeting q cmd) (next_of cmd) s t q' (Ok Nothing)
  erased_taken cmd q q' s t x standing act does modal_is =
      let a = setting_of s in
      let v = value_of s in
      let same : meeting_in_search Erases q cmd a v ≡ meeting q cmd a v = ap (λ k. meeting_in_search k q cmd a v) (sym act) ∙ ap (λ at. meeting_in at q cmd a v) (sym standing) in
      let met = does_as (λ b w. (meeting_in_search Erases q cmd b w).effect) (meeting_effect q cmd) s t (Ok x) (ap (λ (m : Meeting). m.effect) same) does in
      record {
        does = record { value = met.value; calls = met.calls; layout = met.layout; stays = met.stays; reason = tt; stops = tt };
        modal_is = modal_is ∙ ap (λ (m : Meeting). m.modal) same;
        next = sym (again_next (length (modal_after_erase q).query == 0) (modal_after_erase q) a v) ∙ ap (λ (m : Meeting). m.next) same;
      }
