-- What the states of a line make of its asks: each edit and each phrase goes as its script says.
use Rattle.std.proofs.Common.{◌≡◌, inl, inr, [], refl, sym, ap, subst, ◌∙◌}
use Rattle.std.specs.Prelude.{Result, Ok, Err}
use Rattle.std.specs.List.{FoldsTo}
use Rattle.line_config.specs.declared.errors.ReadlineError.{ReadlineError}
use Rattle.line_help.specs.declared.completion as completions
use Rattle.line_help.specs.declared.helpers.hint as hints
use Rattle.line_help.specs.declared.helpers.highlight as highlights
use Rattle.line_help.specs.declared.helpers.validate as verdicts
use Rattle.line_help.specs.declared.history as histories
use Rattle.script.specs.Scripts.{Ends, Asks, Goes}
use Rattle.line_keys.specs.KeyFeeds.{behind}
use Rattle.line_keys.specs.InputStates.{key_world, Stage as KeyStage}
use Rattle.line_keys.specs.PhraseScripts.{KeyScript, Needs, Shows, Reads, Becomes, Refuses}
use Rattle.line_record.specs.Ring.{Ring}
use Rattle.line_editor.specs.Drawing.{shown_in, ask_effect}
use Rattle.line_editor.specs.RenderCalls.{Ruler, MadeIn}
use Rattle.line_editor.specs.LineScripts.{LineScript, script_of_keys, line_state, LineStage, line_world}
use Rattle.line_editor.specs.Modal.{Modal}
use Rattle.line_editor.specs.States.{value_of, setting_of, surface_of, display_of, Stays, Does, stage_of, world_of}
use Rattle.line_editor.specs.EditSteps.{calls_of_steps, CutEditSteps, CallsMade}
use Rattle.line_editor.specs.Values.{Setting, Transition}
use Rattle.line_editor.specs.declared.renderer as renderers
use Rattle.line_editor.specs.declared.state.State.{State}
use Rattle.line_editor.proofs.DoesLemmas.{setting_stays, stays_both}
use Rattle.line_editor.proofs.StopsLemmas.{stops_taking}

module _ {Out H Hi K T : Type 0} {renderer : renderers.Renderer.Ghosts Out} {completer : completions.Completer.Ghosts H K} {candidate : completions.Candidate.Ghosts K}
    {hinter : hints.Hinter.Ghosts H T} {hint : hints.Hint.Ghosts T} {highlighter : highlights.Highlighter.Ghosts H} {validator : verdicts.Validator.Ghosts H} {history : histories.History.Ghosts Hi} where
  -- a world stays where what was handed in stays
  pub world_stays : (s m : State Out H Hi K T renderer completer candidate hinter hint highlighter validator history) → Stays s m → world_of m ≡ world_of s
  world_stays s m stays =
      ap (λ u. line_world renderer.canvas u (setting_of m)) stays.ruler ∙ ap (λ a. line_world renderer.canvas (renderer.canvas.ruler s.out) a) (setting_stays s m stays)

  -- ---- edits, from where the line began

  module _ (s m t : State Out H Hi K T renderer completer candidate hinter hint highlighter validator history) (stays : Stays s m) (edit : Transition) where
    abbrev u : Ruler
    u = renderer.canvas.ruler s.out

    pub edit_drawn : {A : Type 0} (x : A) → Does edit m t (Ok x) → CallsMade renderer.canvas (calls_of_steps u (surface_of m).layout (edit (setting_of s) (value_of m)).steps) (surface_of m) (surface_of t)
    edit_drawn x h =
        let P : Ruler → Setting → Type 0 = λ r a. FoldsTo (MadeIn renderer.canvas) m.out (calls_of_steps r m.layout (edit a (value_of m)).steps).calls t.out × (t.layout ≡ (calls_of_steps r m.layout (edit a (value_of m)).steps).layout) in
        subst (λ r. P r (setting_of s)) stays.ruler (subst (λ a. P (renderer.canvas.ruler m.out) a) (setting_stays s m stays) (h.calls, h.layout))

    pub edit_value : {A : Type 0} (x : A) → Does edit m t (Ok x) → value_of t ≡ (edit (setting_of s) (value_of m)).value
    edit_value x h = h.value ∙ ap (λ a. (edit a (value_of m)).value) (setting_stays s m stays)

    pub edit_stops : {A : Type 0} (e : ReadlineError) → Does {A = A} edit m t (Err e) → CutEditSteps renderer.canvas u (edit (setting_of s) (value_of m)).steps (surface_of m) e (value_of t) (surface_of t)
    edit_stops e h =
        let P : Ruler → Setting → Type 0 = λ r a. CutEditSteps renderer.canvas r (edit a (value_of m)).steps (surface_of m) e (value_of t) (surface_of t) in
        subst (λ r. P r (setting_of s)) stays.ruler (subst (λ a. P (renderer.canvas.ruler m.out) a) (setting_stays s m stays) h.stops)

  -- ---- a phrase

  module _ (s : State Out H Hi K T renderer completer candidate hinter hint highlighter validator history) (k : Ring) (modal : Modal) where
    abbrev at : KeyStage (State Out H Hi K T renderer completer candidate hinter hint highlighter validator history) → LineStage Out
    at x = stage_of x.wrt x.input k modal x.coming

    -- it goes, and what was handed in stays
    abbrev GoesOn : {X : Type 0} → LineScript X → LineStage Out → Result X ReadlineError → KeyStage (State Out H Hi K T renderer completer candidate hinter hint highlighter validator history) → Type 0
    GoesOn script x r y = Goes (world_of s) script x r (at y) × Stays s y.wrt

    pub phrase_goes_on : {X : Type 0} (script : KeyScript X) (x y : KeyStage (State Out H Hi K T renderer completer candidate hinter hint highlighter validator history)) (r : Result X ReadlineError) → Stays s x.wrt
        → Goes (key_world display_of) script x r y → GoesOn (script_of_keys script) (at x) r y
    phrase_goes_on (Ends answer) x y r stays is = ((is.0, ap at is.1), subst (λ z. Stays s z.wrt) (sym is.1) stays)
    phrase_goes_on {X} (Asks Needs later) x y r stays (inl (none, v, made, goes)) =
        let rest = subst (λ z. GoesOn (script_of_keys (later none)) (at z) r y) made (phrase_goes_on (later none) v y r (subst (λ z. Stays s z.wrt) (sym made) stays) goes) in
        (inl (none, at x, (refl, refl, (refl, refl)), rest.0), rest.1)
    phrase_goes_on {X} (Asks Needs later) x y r stays (inr (e, (is, same), refused)) =
        subst (λ z. GoesOn (script_of_keys (Asks Needs later)) (at x) r z) (sym same)
        (inr (e, inr (inl (stops_taking renderer.canvas (renderer.canvas.ruler s.out) (value_of x.wrt) [] (surface_of x.wrt) (surface_of x.wrt) e (value_of x.wrt) is refl refl, refl)), refused), stays)
    phrase_goes_on {X} (Asks (Shows ask) later) x y r stays (inl (seen, v, (made, shown, same), goes)) =
        let value = edit_value s x.wrt v.wrt stays (ask_effect ask) (tt {0}) made in
        let rest = phrase_goes_on (later seen) v y r (stays_both s x.wrt v.wrt stays made.stays) goes in (
          inl (
            seen,
            at v,
            (
              ap (λ b. Ok b) (sym (shown ∙ ap shown_in value)),
              ap (λ z. line_state (value_of v.wrt) z.input k modal z.coming) same ∙ ap (λ b. line_state b x.input k modal x.coming) value,
              edit_drawn s x.wrt v.wrt stays (ask_effect ask) (tt {0}) made,
            ),
            rest.0,
          ),
          rest.1,
        )
    phrase_goes_on {X} (Asks (Shows ask) later) x y r stays (inr (e, (fault, refused, same), is)) =
        (inr (e, inr (inl (edit_stops s x.wrt y.wrt stays (ask_effect ask) e refused, ap (λ z. line_state (value_of y.wrt) z.input k modal z.coming) same)), is), stays_both s x.wrt y.wrt stays refused.stays)
    phrase_goes_on {X} (Asks (Reads item) later) x y r stays (inl (read, v, (is, same), goes)) =
        let on : KeyStage (State Out H Hi K T renderer completer candidate hinter hint highlighter validator history) = record x { coming = behind item x.coming } in
        let rest = subst (λ z. GoesOn (script_of_keys (later read)) (at z) r y) same (phrase_goes_on (later read) v y r (subst (λ z. Stays s z.wrt) (sym same) stays) goes) in
        (inl (read, at on, (is, refl, (refl, refl)), rest.0), rest.1)
    phrase_goes_on {X} (Asks (Reads item) later) x y r stays (inr (e, inl (is, same), refused)) =
        subst (λ z. GoesOn (script_of_keys (Asks (Reads item) later)) (at x) r z) (sym same) (inr (e, inl (is, refl, (refl, refl)), refused), stays)
    phrase_goes_on {X} (Asks (Reads item) later) x y r stays (inr (e, inr (left, fault, same), refused)) =
        subst (λ z. GoesOn (script_of_keys (Asks (Reads item) later)) (at x) r z) (sym same) (inr (e, inr (inr (item, left, refl, fault, refl)), refused), stays)
    phrase_goes_on {X} (Asks (Becomes input) later) x y r stays (inl (none, v, same, goes)) =
        let on : KeyStage (State Out H Hi K T renderer completer candidate hinter hint highlighter validator history) = record x { input = input } in
        let rest = subst (λ z. GoesOn (script_of_keys (later none)) (at z) r y) same (phrase_goes_on (later none) v y r (subst (λ z. Stays s z.wrt) (sym same) stays) goes) in
        (inl (none, at on, (refl, refl, (refl, refl)), rest.0), rest.1)
    phrase_goes_on (Asks (Becomes input) later) x y r stays (inr (e, cut, is)) = elim cut [ ]
    phrase_goes_on (Asks (Refuses why) later) x y r stays (inl (none, v, made, goes)) = elim made [ ]
    phrase_goes_on {X} (Asks (Refuses why) later) x y r stays (inr (e, (why_is, same), refused)) =
        subst (λ z. GoesOn (script_of_keys (Asks (Refuses why) later)) (at x) r z) (sym same)
        (inr (e, inl (ap (λ f. Err f) (sym why_is), refl, (refl, refl)), refused), stays)
