-- A line that is accepted, or gets a newline.
use Rattle.std.proofs.Common.{◌≡◌, Bool, subst, refl}
use Rattle.std.specs.Prelude.{Result, Ok, Err, IsErrAnd}
use Rattle.line_config.specs.declared.errors.ReadlineError.{ReadlineError}
use Rattle.line_help.specs.declared.completion as completions
use Rattle.line_help.specs.declared.helpers.hint as hints
use Rattle.line_help.specs.declared.helpers.highlight as highlights
use Rattle.line_help.specs.declared.helpers.validate as verdicts
use Rattle.line_help.specs.declared.history as histories
use Rattle.line_help.specs.declared.helpers.validate.ValidationResult.{ValidationResult}
use Rattle.line_editor.specs.Accepting.{accept, verdict, accepts, newline_if, accept_or_insert}
use Rattle.line_editor.specs.States.{value_of, setting_of, Does}
use Rattle.line_editor.specs.Values.{Value, Setting, Transition, then_do}
use Rattle.line_editor.specs.declared.renderer as renderers
use Rattle.line_editor.specs.declared.state.State.{State}
use Rattle.line_editor.proofs.DoesLemmas.{does_as, does_both, does_both_by, does_cut_by}

abbrev behind : Bool → Setting → Value → Transition
behind middle s v = newline_if (accepts middle (verdict s v) v.line) (verdict s v)

module _ {Out H Hi K T : Type 0} {renderer : renderers.Renderer.Ghosts Out} {completer : completions.Completer.Ghosts H K} {candidate : completions.Candidate.Ghosts K}
    {hinter : hints.Hinter.Ghosts H T} {hint : hints.Hint.Ghosts T} {highlighter : highlights.Highlighter.Ghosts H} {validator : verdicts.Validator.Ghosts H} {history : histories.History.Ghosts Hi} where
  -- what was found decides what comes after it
  newline_is : {B : Type 0} (middle accepted : Bool) (found : ValidationResult) (s m t : State Out H Hi K T renderer completer candidate hinter hint highlighter validator history) (r : Result B ReadlineError)
      → found ≡ verdict (setting_of s) (value_of s) → m.recorded.line ≡ s.recorded.line → accepted ≡ accepts middle found m.recorded.line
      → Does (newline_if accepted found) m t r → Does (behind middle (setting_of s) (value_of s)) m t r
  newline_is middle accepted found s m t r is same test k =
      let by : newline_if accepted found ≡ behind middle (setting_of s) (value_of s) = rw (test, same, is) in subst (λ (edit : Transition). Does edit m t r) by k

  pub accept_cut : {A B : Type 0} (middle : Bool) (s t : State Out H Hi K T renderer completer candidate hinter hint highlighter validator history) (e : ReadlineError) (r : Result B ReadlineError)
      → IsErrAnd r (λ x. x ≡ e) → Does {A = A} accept s t (Err e) → Does (accept_or_insert middle) s t r
  accept_cut middle s t e r is h =
      does_as (then_do accept (behind middle (setting_of s) (value_of s))) (accept_or_insert middle) s t r refl
      (does_cut_by accept (behind middle (setting_of s) (value_of s)) s t e r is h)

  -- what is answered is nothing to it
  made_as : {A B : Type 0} (edit : Transition) (s t : State Out H Hi K T renderer completer candidate hinter hint highlighter validator history) (x : A) (y : B) → Does edit s t (Ok x) → Does edit s t (Ok y)
  made_as edit s t x y h = record { value = h.value; calls = h.calls; layout = h.layout; stays = h.stays; reason = tt; stops = tt }

  pub accept_newline : {A B C : Type 0} (middle accepted : Bool) (found : ValidationResult) (s m t : State Out H Hi K T renderer completer candidate hinter hint highlighter validator history) (x : A) (y : B)
      → Does accept s m (Ok x) → found ≡ verdict (setting_of s) (value_of s) → m.recorded.line ≡ s.recorded.line → accepted ≡ accepts middle found m.recorded.line
      → (z : C) → Does (newline_if accepted found) m t (Ok z) → Does (accept_or_insert middle) s t (Ok y)
  accept_newline middle accepted found s m t x y h is same test z k =
      does_as (then_do accept (behind middle (setting_of s) (value_of s))) (accept_or_insert middle) s t (Ok y) refl
      (does_both accept (behind middle (setting_of s) (value_of s)) s m t x (Ok y) h
      (newline_is middle accepted found s m t (Ok y) is same test (made_as (newline_if accepted found) m t z y k)))

  pub accept_newline_cut : {A B C : Type 0} (middle accepted : Bool) (found : ValidationResult) (s m t : State Out H Hi K T renderer completer candidate hinter hint highlighter validator history) (x : A) (e : ReadlineError) (r : Result C ReadlineError)
      → IsErrAnd r (λ y. y ≡ e) → Does accept s m (Ok x) → found ≡ verdict (setting_of s) (value_of s) → m.recorded.line ≡ s.recorded.line → accepted ≡ accepts middle found m.recorded.line
      → Does {A = B} (newline_if accepted found) m t (Err e) → Does (accept_or_insert middle) s t r
  accept_newline_cut {A} {B} {C} middle accepted found s m t x e r fault h is same test k =
      does_as (then_do accept (behind middle (setting_of s) (value_of s))) (accept_or_insert middle) s t r refl
      (does_both_by accept (behind middle (setting_of s) (value_of s)) s m t x e r fault h (newline_is {B = B} middle accepted found s m t (Err e) is same test k))
