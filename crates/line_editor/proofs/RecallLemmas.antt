-- An entry in place of the line, or the line that was left.
use Rattle.std.proofs.Common.{◌≡◌, ℕ, true, List, take, refl, sym, ap, ◌∙◌}
use Rattle.std.specs.Prelude.{⊤, Option, Some, length, Result, Err, Ok, IsErrAnd}
use Rattle.line_config.specs.declared.errors.ReadlineError.{ReadlineError, TheVariants.Memory}
use Rattle.line_edits.specs.Edits.{update_group, update_steps}
use Rattle.line_edits.specs.WriteSteps.{Edits as EditsRecorded}
use Rattle.line_record.specs.Items.{record_on}
use Rattle.line_help.specs.Search.{Hit, entry_at, search_hit}
use Rattle.line_help.specs.declared.completion as completions
use Rattle.line_help.specs.declared.helpers.hint as hints
use Rattle.line_help.specs.declared.helpers.highlight as highlights
use Rattle.line_help.specs.declared.helpers.validate as verdicts
use Rattle.line_help.specs.declared.history as histories
use Rattle.line_help.specs.declared.history.search.SearchDirection.{SearchDirection}
use Rattle.line_editor.specs.Drawing.{refresh_effect, beep_effect}
use Rattle.line_editor.specs.History.{at_place, leave_effect, come_back_effect, entry_shown, recall, recall_earlier_effect, search_from}
use Rattle.line_editor.specs.States.{value_of, setting_of, surface_of, Stays, Does}
use Rattle.line_editor.specs.Values.{Transition, then_do, edit_effect}
use Rattle.line_editor.specs.declared.renderer as renderers
use Rattle.line_editor.specs.declared.state.State.{State}
use Rattle.line_editor.proofs.DoesLemmas.{does_as, does_both, does_cut_by, does_from, setting_stays}
use Rattle.line_editor.proofs.EditLemmas.{edit_then, edit_refused}
use Rattle.std.specs.Option.{option_map_or}

-- the saved line restored
abbrev restore_effect : Transition
restore_effect s v = edit_effect (update_steps v.saved.text v.saved.place) s v

module _ {Out H Hi K T : Type 0} {renderer : renderers.Renderer.Ghosts Out} {completer : completions.Completer.Ghosts H K} {candidate : completions.Candidate.Ghosts K}
    {hinter : hints.Hinter.Ghosts H T} {hint : hints.Hint.Ghosts T} {highlighter : highlights.Highlighter.Ghosts H} {validator : verdicts.Validator.Ghosts H} {history : histories.History.Ghosts Hi} where
  -- the line wasn't saved
  pub recall_cut : {A B : Type 0} (index : ℕ) (s t : State Out H Hi K T renderer completer candidate hinter hint highlighter validator history) (e : ReadlineError) (result : Result B ReadlineError)
      → IsErrAnd result (λ x. x ≡ e) → Does {A = A} leave_effect s t (Err e) → Does (recall_earlier_effect index) s t result
  recall_cut index s t e result is h =
      let shown = recall index (entry_at index (setting_of s).entries) in
      does_as (then_do leave_effect shown) (recall_earlier_effect index) s t result refl (does_cut_by leave_effect shown s t e result is h)

  pub recall_shown : {A B : Type 0} (index : ℕ) (hit : Hit) (s m t : State Out H Hi K T renderer completer candidate hinter hint highlighter validator history) (x : A) (result : Result B ReadlineError)
      → entry_at index (setting_of s).entries ≡ Some hit → Does leave_effect s m (Ok x) → Does (entry_shown index hit.entry (length hit.entry)) m t result → Does (recall_earlier_effect index) s t result
  recall_shown index hit s m t x result found h k =
      let shown = recall index (entry_at index (setting_of s).entries) in
      does_as (then_do leave_effect shown) (recall_earlier_effect index) s t result refl (does_both leave_effect shown s m t x result h
      (does_as (entry_shown index hit.entry (length hit.entry)) shown m t result (ap (λ (o : Option Hit). recall index o (setting_of m) (value_of m)) (sym found)) k))

  -- where the place was moved before
  from_place : (edit : Transition) (place : ℕ) (s m : State Out H Hi K T renderer completer candidate hinter hint highlighter validator history)
      → value_of m ≡ at_place place (value_of s) → Stays s m → edit (setting_of m) (value_of m) ≡ edit (setting_of s) (at_place place (value_of s))
  from_place edit place s m value stays = ap (λ a. edit a (value_of m)) (setting_stays s m stays) ∙ ap (edit (setting_of s)) value

  -- the line that was left wasn't put back
  pub back_cut : {A B : Type 0} (s m t : State Out H Hi K T renderer completer candidate hinter hint highlighter validator history) (e : ReadlineError) (result : Result B ReadlineError)
      → IsErrAnd result (λ x. x ≡ e) → value_of m ≡ at_place (length (setting_of s).entries) (value_of s) → surface_of m ≡ surface_of s → Stays s m → Does {A = A} restore_effect m t (Err e) → Does come_back_effect s t result
  back_cut s m t e result is value same stays h =
      does_from (then_do restore_effect refresh_effect) come_back_effect s m t result (from_place (then_do restore_effect refresh_effect) (length (setting_of s).entries) s m value stays) same stays
      (does_cut_by restore_effect refresh_effect m t e result is h)

  -- an entry was found
  pub found_shown : {A : Type 0} (dir : SearchDirection) (place : ℕ) (hit : Hit) (s m t : State Out H Hi K T renderer completer candidate hinter hint highlighter validator history) (result : Result A ReadlineError)
      → search_hit true (take s.recorded.line.place s.recorded.line.text) place dir (setting_of s).entries ≡ Some hit → value_of m ≡ at_place place (value_of s) → surface_of m ≡ surface_of s → Stays s m
      → Does (entry_shown hit.idx hit.entry hit.pos) m t result → Does (search_from dir place) s t result
  found_shown dir place hit s m t result found value same stays h =
      let shown : Transition = entry_shown hit.idx hit.entry hit.pos in
      does_from shown (search_from dir place) s m t result
      (from_place shown place s m value stays ∙ sym (ap (λ (o : Option Hit). option_map_or (λ (hit : Hit). entry_shown hit.idx hit.entry hit.pos) o beep_effect (setting_of s) (at_place place (value_of s))) found)) same stays h

  -- ---- an entry put in place of the line

  pub entry_put : {A E : Type 0} (index : ℕ) (entry : List ℕ) (pos : ℕ) (s m t : State Out H Hi K T renderer completer candidate hinter hint highlighter validator history) (answer : ⊤) (result : Result A ReadlineError)
      → m.ctx.place ≡ index → EditsRecorded {E = E} (update_group entry pos s.recorded.line) s.recorded m.recorded (Ok answer)
      → value_of m ≡ record (value_of s) { line = m.recorded.line; held = record_on m.recorded.changes m.recorded.line.text; history = m.ctx.place }
      → surface_of m ≡ surface_of s → Stays s m → Does refresh_effect m t result → Does (entry_shown index entry pos) s t result
  entry_put index entry pos s m t answer result place wrote rest same stays h =
      edit_then (entry_shown index entry pos) refresh_effect (update_group entry pos) (at_place index (value_of s)) s m t s.recorded m.recorded answer result refl refl wrote
      (rest ∙ ap (λ at. record (value_of s) { line = m.recorded.line; held = record_on m.recorded.changes m.recorded.line.text; history = at }) place) same stays h

  -- memory ran out for it
  pub entry_refused : {A E : Type 0} (index : ℕ) (entry : List ℕ) (pos : ℕ) (s t : State Out H Hi K T renderer completer candidate hinter hint highlighter validator history) (result : Result A ReadlineError) (fault : E)
      → IsErrAnd result (λ x. x ≡ Memory) → t.ctx.place ≡ index → EditsRecorded {A = ⊤} (update_group entry pos s.recorded.line) s.recorded t.recorded (Err fault)
      → value_of t ≡ record (value_of s) { line = t.recorded.line; held = record_on t.recorded.changes t.recorded.line.text; history = t.ctx.place }
      → surface_of t ≡ surface_of s → Stays s t → Does (entry_shown index entry pos) s t result
  entry_refused index entry pos s t result fault failed place wrote rest same stays =
      edit_refused (entry_shown index entry pos) refresh_effect (update_group entry pos) (at_place index (value_of s)) s t s.recorded result fault failed refl refl wrote
      (rest ∙ ap (λ at. record (value_of s) { line = t.recorded.line; held = record_on t.recorded.changes t.recorded.line.text; history = at }) place) same stays
