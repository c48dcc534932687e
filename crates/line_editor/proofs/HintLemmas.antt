-- The hint taken into the line.
use Rattle.std.proofs.Common.{◌≡◌, ℕ, Bool, true, false, List, sym, ap, ◌∙◌, if◌then◌else◌}
use Rattle.std.specs.Prelude.{Option, Some, is_some, option_map, Result, Ok, Err, IsErrAnd}
use Rattle.line_buffer.specs.Insertions.{yank as yanked_in}
use Rattle.line_buffer.specs.Line.{Line}
use Rattle.line_config.specs.declared.errors.ReadlineError.{ReadlineError, TheVariants.Memory}
use Rattle.line_edits.specs.Edits.{yank_steps, by}
use Rattle.line_edits.specs.WriteSteps.{Edits as EditsRecorded, Written, line_and_record, line_and_record_in}
use Rattle.line_edits.specs.declared.recorded_line.RecordedLine.{RecordedLine}
use Rattle.line_record.specs.Items.{record_on}
use Rattle.line_help.specs.Hints.{Hinted}
use Rattle.line_help.specs.declared.completion as completions
use Rattle.line_help.specs.declared.helpers.hint as hints
use Rattle.line_help.specs.declared.helpers.highlight as highlights
use Rattle.line_help.specs.declared.helpers.validate as verdicts
use Rattle.line_help.specs.declared.history as histories
use Rattle.line_editor.specs.Drawing.{beep_effect, refresh_effect}
use Rattle.line_editor.specs.Completing.{at_row_end, complete_hint}
use Rattle.line_editor.specs.States.{value_of, setting_of, surface_of, Stays, Does}
use Rattle.line_editor.specs.Values.{Value, Setting, then_do, value_with_edit, edit_effect, line_and_record_of}
use Rattle.line_editor.specs.declared.renderer as renderers
use Rattle.line_editor.specs.declared.state.State.{State}
use Rattle.line_editor.proofs.DoesLemmas.{does_from, setting_stays}
use Rattle.line_editor.proofs.EditLemmas.{edit_is, edit_then, edit_refused}
use Rattle.line_editor.proofs.YankLemmas.{is_put}

-- by whether its text was put in
taken_is : (b : Bool) (hint : Hinted) (text : List ℕ) (s : Setting) (v : Value) → v.hint ≡ Some hint → hint.completion ≡ Some text → is_some (yanked_in text 1 (at_row_end v).line).answer ≡ b
    → (if b then then_do (edit_effect (yank_steps text 1)) refresh_effect s (at_row_end v) else then_do beep_effect refresh_effect s (value_with_edit (by (yank_steps text 1)) (at_row_end v))) ≡ complete_hint s v
taken_is b hint text s v shown is put = rw (← put, shown, is)

module _ {Out H Hi K T : Type 0} {renderer : renderers.Renderer.Ghosts Out} {completer : completions.Completer.Ghosts H K} {candidate : completions.Candidate.Ghosts K}
    {hinter : hints.Hinter.Ghosts H T} {hint : hints.Hint.Ghosts T} {highlighter : highlights.Highlighter.Ghosts H} {validator : verdicts.Validator.Ghosts H} {history : histories.History.Ghosts Hi} where
  pub at_end : (s : State Out H Hi K T renderer completer candidate hinter hint highlighter validator history) (l : Line) → l ≡ (at_row_end (value_of s)).line
      → line_and_record l s.recorded.changes ≡ line_and_record_of (at_row_end (value_of s))
  at_end s l is = ap (λ (l : Line). line_and_record l s.recorded.changes) is

  beeps : {A : Type 0} (v : Value) (s m t : State Out H Hi K T renderer completer candidate hinter hint highlighter validator history) (result : Result A ReadlineError)
      → then_do beep_effect refresh_effect (setting_of s) v ≡ complete_hint (setting_of s) (value_of s) → value_of m ≡ v → surface_of m ≡ surface_of s → Stays s m
      → Does (then_do beep_effect refresh_effect) m t result → Does complete_hint s t result
  beeps v s m t result is value surface stays done =
      does_from (then_do beep_effect refresh_effect) complete_hint s m t result
      (ap (λ a. then_do beep_effect refresh_effect a (value_of m)) (setting_stays s m stays) ∙ ap (then_do beep_effect refresh_effect (setting_of s)) value ∙ is) surface stays done

  -- its text isn't put in
  pub hint_unput : {A E : Type 0} (x : T) (text : List ℕ) (s m t : State Out H Hi K T renderer completer candidate hinter hint highlighter validator history) (old : RecordedLine) (put : Option Bool)
      (result : Result A ReadlineError) → s.hint ≡ Some x → (hint.says x).completion ≡ Some text → line_and_record_in old ≡ line_and_record_of (at_row_end (value_of s))
      → EditsRecorded {E = E} (yank_steps text 1 old.line) old m.recorded (Ok put) → is_some put ≡ false → value_of m ≡ record (value_of s) { line = m.recorded.line; held = record_on m.recorded.changes m.recorded.line.text }
      → surface_of m ≡ surface_of s → Stays s m → Does (then_do beep_effect refresh_effect) m t result → Does complete_hint s t result
  hint_unput x text s m t old put result shown is same wrote none rest surface stays done =
      let v = at_row_end (value_of s) in
      beeps (value_with_edit (by (yank_steps text 1)) v) s m t result
      (taken_is false (hint.says x) text (setting_of s) (value_of s) (ap (option_map hint.says) shown) is (is_put false text 1 v old m.recorded put same wrote none))
      (edit_is (yank_steps text 1) v (value_of m) old m.recorded put same wrote rest) surface stays done

  -- it is
  pub hint_taken : {A E : Type 0} (x : T) (text : List ℕ) (s m t : State Out H Hi K T renderer completer candidate hinter hint highlighter validator history) (old : RecordedLine) (put : Option Bool)
      (result : Result A ReadlineError) → s.hint ≡ Some x → (hint.says x).completion ≡ Some text → line_and_record_in old ≡ line_and_record_of (at_row_end (value_of s))
      → EditsRecorded {E = E} (yank_steps text 1 old.line) old m.recorded (Ok put) → is_some put ≡ true → value_of m ≡ record (value_of s) { line = m.recorded.line; held = record_on m.recorded.changes m.recorded.line.text }
      → surface_of m ≡ surface_of s → Stays s m → Does refresh_effect m t result → Does complete_hint s t result
  hint_taken x text s m t old put result shown is same wrote some rest surface stays done =
      let v = at_row_end (value_of s) in
      edit_then complete_hint refresh_effect (yank_steps text 1) v s m t old m.recorded put result
      (taken_is true (hint.says x) text (setting_of s) (value_of s) (ap (option_map hint.says) shown) is (is_put true text 1 v old m.recorded put same wrote some))
      same wrote rest surface stays done

  -- memory ran out for it
  pub hint_refused : {A E : Type 0} (x : T) (text : List ℕ) (s t : State Out H Hi K T renderer completer candidate hinter hint highlighter validator history) (old : RecordedLine)
      (result : Result A ReadlineError) (fault : E) → IsErrAnd result (λ e. e ≡ Memory) → s.hint ≡ Some x → (hint.says x).completion ≡ Some text → line_and_record_in old ≡ line_and_record_of (at_row_end (value_of s))
      → EditsRecorded {A = Option Bool} (yank_steps text 1 old.line) old t.recorded (Err fault) → is_some (yanked_in text 1 old.line).answer ≡ true
      → value_of t ≡ record (value_of s) { line = t.recorded.line; held = record_on t.recorded.changes t.recorded.line.text }
      → surface_of t ≡ surface_of s → Stays s t → Does complete_hint s t result
  hint_refused x text s t old result fault failed shown is same wrote some rest surface stays =
      let v = at_row_end (value_of s) in
      edit_refused complete_hint refresh_effect (yank_steps text 1) v s t old result fault failed
      (taken_is true (hint.says x) text (setting_of s) (value_of s) (ap (option_map hint.says) shown) is (ap (λ (w : Written). is_some (yanked_in text 1 w.line).answer) (sym same) ∙ some))
      same wrote rest surface stays
