-- What a state makes of asking its helper.
use Rattle.std.proofs.Common.{◌≡◌, ◌⊎◌, inl, inr, ℕ, Bool, true, [], refl, sym, ap, subst, ◌∙◌, if◌then◌else◌, ◌&&◌}
use Rattle.std.specs.Prelude.{Option, Some, None, is_some, option_map, Result, Ok, Err, IsErrAnd, IsTrue}
use Rattle.std.specs.List.{FoldsTo}
use Rattle.line_config.specs.declared.errors.ReadlineError.{ReadlineError, TheVariants.Helper, TheVariants.Memory}
use Rattle.line_edits.specs.WriteSteps.{group_opened}
use Rattle.line_config.specs.declared.errors.HookFault.{HookFault}
use Rattle.line_config.specs.declared.errors.HookFault.TheVariants.{Failed as HookFailed, Memory as HookMemory}
use Rattle.line_keys.specs.Replies.{Reply, fails, IsFaultOf}
use Rattle.line_help.specs.declared.completion as completions
use Rattle.line_help.specs.declared.helpers.hint as hints
use Rattle.line_help.specs.declared.helpers.highlight as highlights
use Rattle.line_help.specs.declared.helpers.validate as verdicts
use Rattle.line_help.specs.declared.helpers.validate.ValidationResult.{ValidationResult}
use Rattle.line_help.specs.declared.history as histories
use Rattle.line_keys.specs.declared.command.CmdKind.TheVariants.{Other}
use Rattle.line_editor.specs.Accepting.{verdict, group_and_verdict_effect, verdict_effect, validate}
use Rattle.line_editor.specs.RenderCalls.{MadeIn}
use Rattle.line_editor.specs.Drawing.{Since, draw_effect_since, hint_asked, ask_anew_effect, redraw_of}
use Rattle.line_editor.specs.Inserting.{way_if_bare, put_redraw, show_inserted_effect}
use Rattle.line_editor.specs.Killing.{taken_redraw, show_killed_effect}
use Rattle.line_editor.specs.EditSteps.{calls_of_steps}
use Rattle.line_editor.specs.declared.way.Way.{Way, TheVariants.Alone, TheVariants.Back, TheVariants.Whole}
use Rattle.line_editor.specs.Redraws.Redraw.{Rewritten}
use Rattle.line_editor.specs.Transforms.{has_letters, show_rewritten_effect, refresh_over_effect}
use Rattle.line_editor.specs.States.{hooks_of, value_of, setting_of, error_of, reason_of, surface_of, Stays, Does}
use Rattle.line_editor.specs.Values.{Value, Setting, Hooks, Effect, draw_effect, then_do, hint_reply, verdict_reply, help_steps, IsFailing, with_mark, value_with_edit, Transition}
use Rattle.line_editor.specs.Values.EditStep.{Takes}
use Rattle.line_editor.specs.declared.renderer as renderers
use Rattle.line_editor.specs.declared.state.State.{State}
use Rattle.line_editor.proofs.StopsLemmas.{stops_asking, stops_after, IsHelpFault}
use Rattle.line_editor.proofs.DoesLemmas.{is_err, does_as, does_both, does_both_by, does_cut_by, does_refused, setting_stays, stays_same, stays_both}

-- ---- a hook that fails at what it is shown fails at something

-- by a hook that is shown a line, entries, a place in them, and a text to be put in from a start
pub hook_reason : {A : Type 0} (hook : Hooks → Reply A) (hooks : Option Hooks) (failed : Bool) (e : ReadlineError) → ((h : Hooks) → IsTrue (fails (hook h)) → IsFailing (Some h))
    → IsHelpFault (option_map hook hooks) e → reason_of failed (IsFailing hooks) e
hook_reason hook None failed e at why = absurd why
hook_reason hook (Some h) failed Helper at why = at h why
hook_reason hook (Some h) failed Memory at why = tt
hook_reason hook (Some h) failed _ at why = absurd why

-- ---- one of two drawings

abbrev put : ℕ → Way → Option Since → Setting → Value → Effect
put c way from s v = draw_effect (put_redraw way c from s v) s v

abbrev taken : ℕ → Way → Option Since → Setting → Value → Effect
taken count way from s v = draw_effect (taken_redraw way count from s v) s v

abbrev rewritten : ℕ → ℕ → Bool → Setting → Value → Effect
rewritten from upto b s v = draw_effect (if b then Rewritten s.prompt from upto v.line.text v.line.place else redraw_of s v) s v

-- ---- with a helper

pub has_hooks : {A B : Type 0} (f : A → B) (o : Option A) → is_some (option_map f o) ≡ is_some o
has_hooks f None = refl
has_hooks f (Some x) = refl

-- a hook's fault, told as an error
pub fault_told : {A : Type 0} (reply : Reply A) (fault : HookFault) → IsFaultOf reply fault → IsHelpFault (Some reply) (error_of fault)
fault_told reply HookFailed why = why
fault_told reply HookMemory why = why

module _ {Out H Hi K T : Type 0} {renderer : renderers.Renderer.Ghosts Out} {completer : completions.Completer.Ghosts H K} {candidate : completions.Candidate.Ghosts K}
    {hinter : hints.Hinter.Ghosts H T} {hint : hints.Hint.Ghosts T} {highlighter : highlights.Highlighter.Ghosts H} {validator : verdicts.Validator.Ghosts H} {history : histories.History.Ghosts Hi} where
  -- ---- a hint

  pub hint_refused : {A : Type 0} (s : State Out H Hi K T renderer completer candidate hinter hint highlighter validator history) (e : ReadlineError) (result : Result A ReadlineError)
      → IsErrAnd result (λ x. x ≡ e) → IsHelpFault (hint_reply (setting_of s) (value_of s)) e → Does hint_asked s s result
  hint_refused {A} s e result is why = subst (λ (r : Result A ReadlineError). Does {A = A} hint_asked s s r) (sym (is_err e result is))
      (does_refused hint_asked s s e (stays_same s) (let v = value_of s in hook_reason (λ h. h.hints v.line.text v.line.place (setting_of s).entries v.history) (setting_of s).hooks (renderer.canvas.failed s.out) e
      (λ h k. (v.line, (setting_of s).entries, v.history, 0, [], inl k)) why)
      (stops_asking renderer.canvas (renderer.canvas.ruler s.out) (value_of s) (hint_reply (setting_of s) (value_of s)) (surface_of s) (surface_of s) e (value_of s) why refl refl))

  -- and highlighted characters
  pub anew_made : {A B : Type 0} (s m t : State Out H Hi K T renderer completer candidate hinter hint highlighter validator history) (x : A) (y : B) → Does hint_asked s m (Ok x)
      → value_of t ≡ with_mark Other (setting_of m) (value_of m) → t.out ≡ m.out → t.layout ≡ m.layout → Stays m t → Does ask_anew_effect s t (Ok y)
  anew_made s m t x y h value out layout stays = record {
    value = value ∙ ap (λ a. with_mark Other a (value_of m)) (setting_stays s m h.stays) ∙ ap (with_mark Other (setting_of s)) h.value;
    calls = subst (λ o. FoldsTo (MadeIn renderer.canvas) s.out (calls_of_steps (renderer.canvas.ruler s.out) s.layout (help_steps (value_of s) (hint_reply (setting_of s) (value_of s)))).calls o) (sym out) h.calls;
    layout = layout ∙ h.layout;
    stays = stays_both s m t h.stays stays;
    reason = tt;
    stops = tt;
  }

  pub anew_refused : {A B : Type 0} (s t : State Out H Hi K T renderer completer candidate hinter hint highlighter validator history) (e : ReadlineError) (result : Result B ReadlineError)
      → IsErrAnd result (λ x. x ≡ e) → Does {A = A} hint_asked s t (Err e) → Does ask_anew_effect s t result
  anew_refused {A} {B} s t e result is h = subst (λ (r : Result B ReadlineError). Does {A = B} ask_anew_effect s t r) (sym (is_err e result is))
      (record { value = tt; calls = tt; layout = tt; stays = h.stays; reason = h.reason; stops = h.stops })

  -- ---- what is drawn then

  asked_then : {A B : Type 0} (drawn shown : Transition) (s m t : State Out H Hi K T renderer completer candidate hinter hint highlighter validator history) (x : A) (result : Result B ReadlineError)
      → Does ask_anew_effect s m (Ok x) → shown (setting_of m) (value_of m) ≡ drawn (setting_of m) (value_of m) → Does shown m t result → Does (then_do ask_anew_effect drawn) s t result
  asked_then drawn shown s m t x result h is k = does_both ask_anew_effect drawn s m t x result h (does_as shown drawn m t result is k)

  module _ (c : ℕ) (way : Way) (from : Option Since) where
    -- in one of the ways, or by a drawing of the line
    pub put_made : {A B : Type 0} (shown : Way) (s m t : State Out H Hi K T renderer completer candidate hinter hint highlighter validator history) (x : A) (result : Result B ReadlineError)
        → way_if_bare way (value_of m) ≡ shown → Does ask_anew_effect s m (Ok x) → Does (put c shown from) m t result → Does (show_inserted_effect c way from) s t result
    put_made shown s m t x result is h k =
        asked_then (λ s v. put c (way_if_bare way v) from s v) (put c shown from) s m t x result h (ap (λ w. put c w from (setting_of m) (value_of m)) (sym is)) k

    pub put_drawn : {A B : Type 0} (s m t : State Out H Hi K T renderer completer candidate hinter hint highlighter validator history) (x : A) (result : Result B ReadlineError)
        → ((d : ℕ) × (way_if_bare way (value_of m) ≡ Back d)) ⊎ (way_if_bare way (value_of m) ≡ Whole) → Does ask_anew_effect s m (Ok x)
        → Does (draw_effect_since from) m t result → Does (show_inserted_effect c way from) s t result
    put_drawn s m t x result (inl is) h k = put_made (Back is.0) s m t x result is.1 h (does_as (draw_effect_since from) (put c (Back is.0) from) m t result refl k)
    put_drawn s m t x result (inr is) h k = put_made Whole s m t x result is h (does_as (draw_effect_since from) (put c Whole from) m t result refl k)

  module _ (count : ℕ) (way : Way) (from : Option Since) where
    pub taken_made : {A B : Type 0} (shown : Way) (s m t : State Out H Hi K T renderer completer candidate hinter hint highlighter validator history) (x : A) (result : Result B ReadlineError)
        → way_if_bare way (value_of m) ≡ shown → Does ask_anew_effect s m (Ok x) → Does (taken count shown from) m t result → Does (show_killed_effect count way from) s t result
    taken_made shown s m t x result is h k =
        asked_then (λ s v. taken count (way_if_bare way v) from s v) (taken count shown from) s m t x result h (ap (λ w. taken count w from (setting_of m) (value_of m)) (sym is)) k

    pub killed_drawn : {A B : Type 0} (s m t : State Out H Hi K T renderer completer candidate hinter hint highlighter validator history) (x : A) (result : Result B ReadlineError)
        → (way_if_bare way (value_of m) ≡ Alone) ⊎ (way_if_bare way (value_of m) ≡ Whole) → Does ask_anew_effect s m (Ok x)
        → Does (draw_effect_since from) m t result → Does (show_killed_effect count way from) s t result
    killed_drawn s m t x result (inl is) h k = taken_made Alone s m t x result is h (does_as (draw_effect_since from) (taken count Alone from) m t result refl k)
    killed_drawn s m t x result (inr is) h k = taken_made Whole s m t x result is h (does_as (draw_effect_since from) (taken count Whole from) m t result refl k)

  module _ (over : Bool) (from upto : ℕ) where
    -- written over, or drawn anew
    pub rewritten_made : {A B : Type 0} (b : Bool) (s m t : State Out H Hi K T renderer completer candidate hinter hint highlighter validator history) (x : A) (result : Result B ReadlineError)
        → (over && has_letters from upto (value_of m)) ≡ b → Does ask_anew_effect s m (Ok x) → Does (rewritten from upto b) m t result → Does (refresh_over_effect over from upto) s t result
    rewritten_made b s m t x result is h k =
        asked_then (show_rewritten_effect over from upto) (rewritten from upto b) s m t x result h (ap (λ d. rewritten from upto d (setting_of m) (value_of m)) (sym is)) k

  -- ---- a verdict

  pub judging_refused : {A : Type 0} (s t : State Out H Hi K T renderer completer candidate hinter hint highlighter validator history) (e : ReadlineError) (result : Result A ReadlineError)
      → IsErrAnd result (λ x. x ≡ e) → IsHelpFault (verdict_reply (setting_of s) (value_of s)) e → value_of t ≡ value_with_edit group_opened (value_of s) → surface_of t ≡ surface_of s → Stays s t → Does group_and_verdict_effect s t result
  judging_refused {A} s t e result is why value same stays = subst (λ (r : Result A ReadlineError). Does {A = A} group_and_verdict_effect s t r) (sym (is_err e result is)) (
      let opened : Value = value_with_edit group_opened (value_of s) in
      let reply = verdict_reply (setting_of s) (value_of s) in
      let ruler = renderer.canvas.ruler s.out in
      does_refused group_and_verdict_effect s t e stays
      (hook_reason (λ h. h.judge s.recorded.line.text) (setting_of s).hooks (renderer.canvas.failed t.out) e (λ h k. (s.recorded.line, [], 0, 0, [], inr (inl k))) why)
      (stops_after renderer.canvas ruler (Takes (value_of s)) (help_steps opened reply) (surface_of s) (surface_of s) (surface_of t) e (value_of t) (refl, refl)
      (stops_asking renderer.canvas ruler opened reply (surface_of s) (surface_of t) e (value_of t) why same value)))

  pub validated : (s : State Out H Hi K T renderer completer candidate hinter hint highlighter validator history) → is_some s.helper ≡ true
      → then_do group_and_verdict_effect (verdict_effect (verdict (setting_of s) (value_of s))) (setting_of s) (value_of s) ≡ validate (setting_of s) (value_of s)
  validated s some = rw (has_hooks (hooks_of completer hinter validator) s.helper, some) refl

  pub validate_unasked : {A B : Type 0} (s t : State Out H Hi K T renderer completer candidate hinter hint highlighter validator history) (e : ReadlineError) (result : Result B ReadlineError)
      → is_some s.helper ≡ true → IsErrAnd result (λ x. x ≡ e) → Does {A = A} group_and_verdict_effect s t (Err e) → Does validate s t result
  validate_unasked s t e result some is h =
      let told = verdict_effect (verdict (setting_of s) (value_of s)) in
      does_as (then_do group_and_verdict_effect told) validate s t result (validated s some) (does_cut_by group_and_verdict_effect told s t e result is h)

  pub validate_untold : {A B C : Type 0} (found : ValidationResult) (s m t : State Out H Hi K T renderer completer candidate hinter hint highlighter validator history) (x : A) (e : ReadlineError) (result : Result C ReadlineError)
      → is_some s.helper ≡ true → IsErrAnd result (λ y. y ≡ e) → found ≡ verdict (setting_of s) (value_of s) → Does group_and_verdict_effect s m (Ok x)
      → Does {A = B} (verdict_effect found) m t (Err e) → Does validate s t result
  validate_untold {A} {B} found s m t x e result some is found_is h k =
      let told = verdict_effect (verdict (setting_of s) (value_of s)) in
      does_as (then_do group_and_verdict_effect told) validate s t result (validated s some)
      (let second : Does {A = B} told m t (Err e) = subst (λ (f : ValidationResult). Does {A = B} (verdict_effect f) m t (Err e)) found_is k in
      does_both_by {B = B} group_and_verdict_effect told s m t x e result is h second)

  pub validate_made : {A B C : Type 0} (found : ValidationResult) (s m t : State Out H Hi K T renderer completer candidate hinter hint highlighter validator history) (x : A) (y : B) (z : C)
      → is_some s.helper ≡ true → found ≡ verdict (setting_of s) (value_of s) → Does group_and_verdict_effect s m (Ok x)
      → Does (verdict_effect found) m t (Ok y) → Does validate s t (Ok z)
  validate_made {A} {B} {C} found s m t x y z some found_is h k =
      let told = verdict_effect (verdict (setting_of s) (value_of s)) in
      let second : Does {A = B} told m t (Ok y) = subst (λ (f : ValidationResult). Does {A = B} (verdict_effect f) m t (Ok y)) found_is k in
      does_as (then_do group_and_verdict_effect told) validate s t (Ok z) (validated s some)
      (does_both {B = C} group_and_verdict_effect told s m t x (Ok z) h (record { value = second.value; calls = second.calls; layout = second.layout; stays = second.stays; reason = tt; stops = tt }))
