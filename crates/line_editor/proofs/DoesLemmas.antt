-- One edit, then another.
use Rattle.std.proofs.Common.{◌≡◌, Bool, [], ◌∷◌, ◌++◌, refl, sym, ap, subst, ◌∙◌}
use Rattle.std.specs.Prelude.{⊤, ℕ, Result, Ok, Err, OnOk, IfErr, IsErrAnd, option_map}
use Rattle.std.proofs.lemmas.Result.{on_ok_weaker}
use Rattle.line_buffer.specs.declared.types.Movement.{Movement}
use Rattle.std.specs.List.{FoldsTo}
use Rattle.line_config.specs.declared.errors.ReadlineError.{ReadlineError, TheVariants.Display}
use Rattle.line_help.specs.declared.completion as completions
use Rattle.line_help.specs.declared.helpers.hint as hints
use Rattle.line_help.specs.declared.helpers.highlight as highlights
use Rattle.line_help.specs.declared.helpers.validate as verdicts
use Rattle.line_help.specs.declared.history as histories
use Rattle.line_edits.specs.WriteSteps.{WriteSteps}
use Rattle.line_editor.specs.RenderCalls.{Ruler, MadeIn}
use Rattle.line_editor.specs.Redraws.{RedrawCalls, then_asked}
use Rattle.line_editor.specs.EditSteps.{calls_of_steps, Surface, surface, CutEditSteps}
use Rattle.line_editor.specs.Transforms.{indent_effect, indent_by_setting}
use Rattle.line_editor.specs.States.{value_of, setting_of, reason_of, surface_of, Stays, Does, Renders, hooks_of}
use Rattle.line_editor.specs.Values.{Value, Setting, Effect, Transition, IsFailing, then_do}
use Rattle.line_editor.specs.Values.EditStep.{Edits}
use Rattle.line_editor.specs.declared.renderer as renderers
use Rattle.line_editor.specs.declared.state.State.{State}
use Rattle.line_editor.proofs.StopsLemmas.{asked_both, folds_both, stops_before, stops_behind}

pub is_err : {A E : Type 0} (e : E) (result : Result A E) → IsErrAnd result (λ x. x ≡ e) → result ≡ Err e
is_err e (Ok x) h = elim h [ ]
is_err e (Err x) h = ap Err h

pub if_refused : {A : Type 0} {Q R : ReadlineError → Type 0} (result : Result A ReadlineError) → ((e : ReadlineError) → Q e → R e) → IfErr result Q → IfErr result R
if_refused (Ok x) go k = tt
if_refused (Err e) go k = go e k

module _ {Out H Hi K T : Type 0} {renderer : renderers.Renderer.Ghosts Out} {completer : completions.Completer.Ghosts H K} {candidate : completions.Candidate.Ghosts K}
    {hinter : hints.Hinter.Ghosts H T} {hint : hints.Hint.Ghosts T} {highlighter : highlights.Highlighter.Ghosts H} {validator : verdicts.Validator.Ghosts H} {history : histories.History.Ghosts Hi} where
  pub setting_stays : (s t : State Out H Hi K T renderer completer candidate hinter hint highlighter validator history) → Stays s t → setting_of t ≡ setting_of s
  setting_stays s t h = cc

  -- what was passed in stays, part after part
  pub stays_by : {s t : State Out H Hi K T renderer completer candidate hinter hint highlighter validator history} → renderer.canvas.ruler t.out ≡ renderer.canvas.ruler s.out → t.prompt.now ≡ s.prompt.now → t.ctx.history.now ≡ s.ctx.history.now
      → option_map (hooks_of completer hinter validator) t.helper ≡ option_map (hooks_of completer hinter validator) s.helper
      → option_map highlighter.marks t.helper ≡ option_map highlighter.marks s.helper → t.config.now ≡ s.config.now → Stays s t
  stays_by r p h k m c = record { ruler = r; prompt = p; history_is = h; hooks_are = k; marks_are = m; config_is = c }

  pub stays_same : (s : State Out H Hi K T renderer completer candidate hinter hint highlighter validator history) → Stays s s
  stays_same s = assumption

  pub stays_both : (s m t : State Out H Hi K T renderer completer candidate hinter hint highlighter validator history) → Stays s m → Stays m t → Stays s t
  stays_both s m t h k = record { ruler = cc; prompt = cc; history_is = cc; hooks_are = cc; marks_are = cc; config_is = cc }

  -- the second edit is that of the value which the first one leaves
  second_is : {A : Type 0} (first second : Transition) (s m : State Out H Hi K T renderer completer candidate hinter hint highlighter validator history) (x : A) → Does first s m (Ok x)
      → second (setting_of m) (value_of m) ≡ second (setting_of s) (first (setting_of s) (value_of s)).value
  second_is first second s m x h = ap (λ a. second a (value_of m)) (setting_stays s m h.stays) ∙ ap (second (setting_of s)) h.value

  asked_is : {A : Type 0} (first second : Transition) (s m : State Out H Hi K T renderer completer candidate hinter hint highlighter validator history) (x : A) → Does first s m (Ok x)
      → calls_of_steps (renderer.canvas.ruler m.out) m.layout (second (setting_of m) (value_of m)).steps
      ≡ calls_of_steps (renderer.canvas.ruler s.out) (calls_of_steps (renderer.canvas.ruler s.out) s.layout (first (setting_of s) (value_of s)).steps).layout
      (second (setting_of s) (first (setting_of s) (value_of s)).value).steps
  asked_is first second s m x h = cc (second_is first second s m x h, h.stays.ruler, h.layout)

  -- an error says nothing of the answer that would have been
  pub refused_as : {A B : Type 0} (edit : Transition) (s t : State Out H Hi K T renderer completer candidate hinter hint highlighter validator history) (e : ReadlineError) → Does {A = A} edit s t (Err e) → Does {A = B} edit s t (Err e)
  refused_as edit s t e h = record { value = tt; calls = tt; layout = tt; stays = h.stays; reason = h.reason; stops = h.stops }

  -- failed for a reason that the arguments give, and the place where its steps stop
  pub does_refused : {A : Type 0} (edit : Transition) (s t : State Out H Hi K T renderer completer candidate hinter hint highlighter validator history) (e : ReadlineError)
      → Stays s t → reason_of (renderer.canvas.failed t.out) (IsFailing (setting_of s).hooks) e
      → CutEditSteps renderer.canvas (renderer.canvas.ruler s.out) (edit (setting_of s) (value_of s)).steps (surface_of s) e (value_of t) (surface_of t) → Does {A = A} edit s t (Err e)
  does_refused edit s t e stays why stops = record {
    value = tt;
    calls = tt;
    layout = tt;
    stays = stays;
    reason = subst (λ (a : Setting). reason_of (renderer.canvas.failed t.out) (IsFailing a.hooks) e) (sym (setting_stays s t stays)) why;
    stops = stops;
  }

  -- both were made, or the second failed
  pub does_both : {A B : Type 0} (first second : Transition) (s m t : State Out H Hi K T renderer completer candidate hinter hint highlighter validator history) (x : A) (result : Result B ReadlineError)
      → Does first s m (Ok x) → Does second m t result → Does (then_do first second) s t result
  does_both first second s m t x result h k =
      let u : Ruler = renderer.canvas.ruler s.out in
      let e : Effect = first (setting_of s) (value_of s) in
      let f : Effect = second (setting_of s) e.value in
      let a : RedrawCalls = calls_of_steps u s.layout e.steps in
      let b : RedrawCalls = calls_of_steps u a.layout f.steps in
      let whole : calls_of_steps u s.layout (e.steps ++ f.steps) ≡ then_asked a b = asked_both u s.layout e.steps f.steps in
      let same : second (setting_of m) (value_of m) ≡ f = second_is first second s m x h in
      let is : calls_of_steps (renderer.canvas.ruler m.out) m.layout (second (setting_of m) (value_of m)).steps ≡ b = asked_is first second s m x h in
      record {
        value = subst (λ y. OnOk result (value_of t ≡ y.value)) same k.value;
        calls = on_ok_weaker result (λ c. subst (λ y. FoldsTo (MadeIn renderer.canvas) s.out y.calls t.out) (sym whole)
            (folds_both (MadeIn renderer.canvas) a.calls b.calls s.out m.out t.out h.calls (subst (λ y. FoldsTo (MadeIn renderer.canvas) m.out y.calls t.out) is c))) k.calls;
        layout = on_ok_weaker result (λ c. c ∙ ap (λ y. y.layout) is ∙ ap (λ y. y.layout) (sym whole)) k.layout;
        stays = stays_both s m t h.stays k.stays;
        reason = k.reason;
        stops = if_refused result (λ fault c. stops_behind renderer.canvas u e.steps f.steps s.layout s.out m.out (surface_of t) fault (value_of t) h.calls
            (subst (λ l. CutEditSteps renderer.canvas u f.steps (surface m.out l) fault (value_of t) (surface_of t)) h.layout
            (subst (λ (y : Effect). CutEditSteps renderer.canvas u y.steps (surface_of m) fault (value_of t) (surface_of t)) same
            (subst (λ r. CutEditSteps renderer.canvas r (second (setting_of m) (value_of m)).steps (surface_of m) fault (value_of t) (surface_of t)) h.stays.ruler c)))) k.stops;
      }

  -- the first one failed
  pub does_cut : {A B : Type 0} (first second : Transition) (s t : State Out H Hi K T renderer completer candidate hinter hint highlighter validator history) (e : ReadlineError)
      → Does {A = A} first s t (Err e) → Does {A = B} (then_do first second) s t (Err e)
  does_cut first second s t e h =
      let x : Effect = first (setting_of s) (value_of s) in
      let stop = stops_before renderer.canvas (renderer.canvas.ruler s.out) x.steps (second (setting_of s) x.value).steps (surface_of s) (surface_of t) e (value_of t) h.stops in
      record { value = tt; calls = tt; layout = tt; stays = h.stays; reason = h.reason; stops = stop }

  -- the same, as a question mark returns the error
  pub does_cut_by : {A B : Type 0} (first second : Transition) (s t : State Out H Hi K T renderer completer candidate hinter hint highlighter validator history) (e : ReadlineError) (result : Result B ReadlineError)
      → IsErrAnd result (λ x. x ≡ e) → Does {A = A} first s t (Err e) → Does (then_do first second) s t result
  does_cut_by {A} {B} first second s t e result is h =
      subst (λ r. Does {A = B} (then_do first second) s t r) (sym (is_err e result is)) (does_cut first second s t e h)

  -- and so does one of drawings
  pub renders_cut_by : {A B : Type 0} (first second : Transition) (s t : State Out H Hi K T renderer completer candidate hinter hint highlighter validator history) (e : ReadlineError) (result : Result B ReadlineError)
      → IsErrAnd result (λ x. x ≡ e) → Renders {A = A} first s t (Err e) → Renders (then_do first second) s t result
  renders_cut_by {A} {B} first second s t e result is h = record {
    does = does_cut_by {A = A} first second s t e result is h.does;
    fault = subst (λ (r : Result B ReadlineError). IfErr r (λ x. x ≡ Display)) (sym (is_err e result is)) h.fault;
  }

  pub does_both_by : {A B C : Type 0} (first second : Transition) (s m t : State Out H Hi K T renderer completer candidate hinter hint highlighter validator history) (x : A) (e : ReadlineError) (result : Result C ReadlineError)
      → IsErrAnd result (λ y. y ≡ e) → Does first s m (Ok x) → Does {A = B} second m t (Err e) → Does (then_do first second) s t result
  does_both_by {A} {B} {C} first second s m t x e result is h k =
      subst (λ r. Does {A = C} (then_do first second) s t r) (sym (is_err e result is)) (does_both {B = C} first second s m t x (Err e) h (refused_as {A = B} {B = C} second m t e k))

  -- an edit of the line was made, and nothing is drawn
  pub edit_made : {A : Type 0} (edit : Transition) (stands : Value) (steps : WriteSteps ⊤) (s m : State Out H Hi K T renderer completer candidate hinter hint highlighter validator history) (x : A)
      → edit (setting_of s) (value_of s) ≡ record { value = value_of m; steps = Edits stands steps ∷ [] } → surface_of m ≡ surface_of s → Stays s m → Does edit s m (Ok x)
  edit_made edit stands steps s m x is same stays = record {
    value = sym (ap (λ (e : Effect). e.value) is);
    calls = subst (λ (e : Effect). FoldsTo (MadeIn renderer.canvas) s.out (calls_of_steps (renderer.canvas.ruler s.out) s.layout e.steps).calls m.out) (sym is) (sym (ap (λ (u : Surface Out). u.out) same));
    layout = ap (λ (u : Surface Out). u.layout) same ∙ ap (λ (e : Effect). (calls_of_steps (renderer.canvas.ruler s.out) s.layout e.steps).layout) (sym is);
    stays = stays;
    reason = tt;
    stops = tt;
  }

  -- one that does so from a state that looks the same
  pub does_from : {A : Type 0} (edit other : Transition) (s m t : State Out H Hi K T renderer completer candidate hinter hint highlighter validator history) (result : Result A ReadlineError)
      → edit (setting_of m) (value_of m) ≡ other (setting_of s) (value_of s) → surface_of m ≡ surface_of s → Stays s m → Does edit m t result → Does other s t result
  does_from edit other s m t result is same stays h =
      let e : Effect = edit (setting_of m) (value_of m) in
      record {
        value = subst (λ (x : Effect). OnOk result (value_of t ≡ x.value)) is h.value;
        calls = subst (λ (x : Effect). OnOk result (FoldsTo (MadeIn renderer.canvas) s.out (calls_of_steps (renderer.canvas.ruler s.out) s.layout x.steps).calls t.out)) is
            (subst (λ (x : Surface Out). OnOk result (FoldsTo (MadeIn renderer.canvas) x.out (calls_of_steps (renderer.canvas.ruler x.out) x.layout e.steps).calls t.out)) same h.calls);
        layout = subst (λ (x : Effect). OnOk result (t.layout ≡ (calls_of_steps (renderer.canvas.ruler s.out) s.layout x.steps).layout)) is
            (subst (λ (x : Surface Out). OnOk result (t.layout ≡ (calls_of_steps (renderer.canvas.ruler x.out) x.layout e.steps).layout)) same h.layout);
        stays = stays_both s m t stays h.stays;
        reason = h.reason;
        stops = subst (λ (x : Effect). IfErr result (λ fault. CutEditSteps renderer.canvas (renderer.canvas.ruler s.out) x.steps (surface_of s) fault (value_of t) (surface_of t))) is
            (subst (λ (x : Surface Out). IfErr result (λ fault. CutEditSteps renderer.canvas (renderer.canvas.ruler x.out) e.steps x fault (value_of t) (surface_of t))) same h.stops);
      }

  -- an edit that does the same here
  pub does_as : {A : Type 0} (edit other : Transition) (s t : State Out H Hi K T renderer completer candidate hinter hint highlighter validator history) (result : Result A ReadlineError)
      → edit (setting_of s) (value_of s) ≡ other (setting_of s) (value_of s) → Does edit s t result → Does other s t result
  does_as edit other s t result is h = does_from edit other s s t result is refl (stays_same s) h

  -- indented by as many spaces as the setting says
  pub indent_does : {A : Type 0} (movement : Movement) (dedent : Bool) (n : ℕ) (s t : State Out H Hi K T renderer completer candidate hinter hint highlighter validator history) (result : Result A ReadlineError)
      → n ≡ s.config.now.indent_size → Does (indent_effect movement n dedent) s t result → Does (indent_by_setting movement dedent) s t result
  indent_does movement dedent n s t result is h =
      does_from (indent_effect movement n dedent) (indent_by_setting movement dedent) s s t result (ap (λ n. indent_effect movement n dedent (setting_of s) (value_of s)) is) refl (stays_same s) h
