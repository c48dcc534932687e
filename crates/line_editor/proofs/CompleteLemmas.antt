-- What is put in place of a word, and what a state makes of completing one.
use Rattle.std.specs.Prelude.{⊤, Option, Some, is_some, option_map, Result, Ok, Err, OnErr, IfErr, IsErrAnd, IsFalse, IsUtf8}
use Rattle.std.proofs.Common.{◌≡◌, ◌⊎◌, inl, inr, ℕ, true, List, map, refl, sym, ap, subst, ◌∙◌, []}
use Rattle.std.proofs.lemmas.Simd.{map-map}
use Rattle.line_buffer.specs.Line.{Line}
use Rattle.line_buffer.specs.Event.{replacement}
use Rattle.line_config.specs.declared.errors.ReadlineError.{ReadlineError, TheVariants.Memory}
use Rattle.line_config.specs.declared.errors.HookFault.{HookFault}
use Rattle.line_config.specs.declared.errors.HookFault.TheVariants.{Memory as HookMemory}
use Rattle.line_edits.specs.WriteSteps.{Written, Writes, group_opened, line_and_record, line_and_record_in}
use Rattle.line_edits.proofs.WrittenLemmas.{recorded_one}
use Rattle.line_help.specs.Completion.{Offered, Completion, Updates}
use Rattle.line_help.specs.declared.completion as completions
use Rattle.line_help.specs.declared.helpers.hint as hints
use Rattle.line_help.specs.declared.helpers.highlight as highlights
use Rattle.line_help.specs.declared.helpers.validate as verdicts
use Rattle.line_help.specs.declared.history as histories
use Rattle.line_keys.specs.Replies.{Reply, IsFaultOf}
use Rattle.line_record.specs.Items.{Items, ItemsStand, RecordsEventIn, record_refuses, record_on}
use Rattle.line_record.proofs.StepLemmas.{items_with_mark}
use Rattle.line_editor.specs.Drawing.{effect_if, beep_effect}
use Rattle.line_editor.specs.Completing.{common_text, word_put, CutWord, word_updated, complete_effect, candidates_given, candidates_asked, complete, word_completed}
use Rattle.line_editor.specs.States.{hooks_of, value_of, setting_of, fails_by, error_of, surface_of, Stays, Does}
use Rattle.line_editor.proofs.StopsLemmas.{IsHelpFault, help_made, help_layout, stops_asking, stops_marking, stops_updating}
use Rattle.line_editor.specs.Values.{Value, Setting, Hooks, then_do, completion_reply, update_reply}
use Rattle.line_editor.specs.declared.renderer as renderers
use Rattle.line_editor.specs.declared.state.State.{State}
use Rattle.line_editor.proofs.DoesLemmas.{does_as, does_both, does_cut_by, does_refused, stays_same}
use Rattle.line_editor.proofs.HelpedLemmas.{fault_told, hook_reason, has_hooks}
use Rattle.std.specs.Option.{option_map_or}

-- the texts that candidates put in
pub replacements : {A : Type 0} (offers : A → Offered) (candidates : List A) → map (λ (o : Offered). o.replacement) (map offers candidates) ≡ map (λ c. (offers c).replacement) candidates
replacements offers candidates = map-map (λ (o : Offered). o.replacement) offers candidates

stays_by : {R : Type 0} (old new : Items) → (new ≡ old) ⊎ ((new ≡ old) × R) → new ≡ old
stays_by old new (inl same) = same
stays_by old new (inr refused) = refused.0

pub put_writes : {E : Type 0} (start : ℕ) (text : List ℕ) (before after : Line) (old new : Items) (result : Result ⊤ E) → IsUtf8 before.text → ItemsStand old before.text
    → Updates RecordsEventIn record_refuses start text old new before after result → Writes (word_put start text) (tt {0}) before after old new result
put_writes start text before after old new (Ok a) utf8 stand u =
    let told = u.told.on _ _ stand utf8 u.replays in
    record {
      answers = refl;
      line = u.becomes;
      held = told.held ∙ recorded_one (replacement start before.place text before.text) before.text (record_on old before.text);
      stand = told.stand;
    }
put_writes start text before after old new (Err e) utf8 stand u = record {
  answers = tt;
  line = tt;
  held = tt;
  stand = subst (λ (l : Line). ItemsStand new l.text) (sym u.stays) (subst (λ (x : Items). ItemsStand x before.text) (sym (stays_by old new u.refused)) stand);
}

-- what failed left line and record
pub put_left : {E : Type 0} (start : ℕ) (text : List ℕ) (before after : Line) (old new : Items) (result : Result ⊤ E)
    → Updates RecordsEventIn record_refuses start text old new before after result → OnErr result ((after ≡ before) × (new ≡ old))
put_left start text before after old new (Ok a) u = tt
put_left start text before after old new (Err e) u = (u.stays, stays_by old new u.refused)

-- memory ran out for the mark
pub mark_wanting : {A : Type 0} (reply : Reply ⊤) (line : Line) (old new : Items) (result : Result A HookFault) → IsErrAnd result (λ e. e ≡ HookMemory) → new ≡ old
    → IfErr result (CutWord reply (line_and_record line old) (line_and_record line new))
mark_wanting reply line old new (Ok x) is same = tt
mark_wanting reply line old new (Err e) is same = inl (is, ap (line_and_record line) same)

-- the completer failed
pub put_refused : {A : Type 0} (reply : Reply ⊤) (before after : Line) (old marked new : Items) (fault : HookFault) (result : Result A HookFault) → IsErrAnd result (λ e. e ≡ fault) → IsFaultOf reply fault
    → marked ≡ items_with_mark old → (after ≡ before) × (new ≡ marked) → IfErr result (CutWord reply (line_and_record before old) (line_and_record after new))
put_refused reply before after old marked new fault (Ok x) is why mark left = tt
put_refused reply before after old marked new fault (Err e) is why mark left =
    inr (subst (IsFaultOf reply) (sym is) why, ap (λ (l : Line). line_and_record l new) left.0 ∙ ap (line_and_record before) (left.1 ∙ mark))

-- ---- with a helper

completed_is : (found given : Completion) (o : Option (List ℕ)) (s : Setting) (v : Value) → found ≡ given → common_text found v.line ≡ o → option_map_or (word_completed found.start) o beep_effect s v ≡ complete_effect given s v
completed_is found given o s v same is = ap (λ x. option_map_or (word_completed found.start) x beep_effect s v) (sym is) ∙ ap (λ f. complete_effect f s v) same

module _ {Out H Hi K T : Type 0} {renderer : renderers.Renderer.Ghosts Out} {completer : completions.Completer.Ghosts H K} {candidate : completions.Candidate.Ghosts K}
    {hinter : hints.Hinter.Ghosts H T} {hint : hints.Hint.Ghosts T} {highlighter : highlights.Highlighter.Ghosts H} {validator : verdicts.Validator.Ghosts H} {history : histories.History.Ghosts Hi} where
  -- ---- the update

  update_faults : (s : State Out H Hi K T renderer completer candidate hinter hint highlighter validator history) (h : H) (start : ℕ) (text : List ℕ) (e : ReadlineError) → s.helper ≡ Some h
      → IsHelpFault (Some (completer.update_of h s.recorded.line start text)) e → IsHelpFault (update_reply start text (setting_of s) (value_of s)) e
  update_faults s h start text e is why =
      subst (λ (o : Option H). IsHelpFault (option_map (λ (k : Hooks). k.updates s.recorded.line start text) (option_map (hooks_of completer hinter validator) o)) e) (sym is) why

  -- line and record alone are another
  abbrev Touches : (State Out H Hi K T renderer completer candidate hinter hint highlighter validator history)
      → (State Out H Hi K T renderer completer candidate hinter hint highlighter validator history) → Type 0
  Touches s t = value_of t ≡ record (value_of s) { line = t.recorded.line; held = record_on t.recorded.changes t.recorded.line.text }

  touched : (s t : State Out H Hi K T renderer completer candidate hinter hint highlighter validator history) (w : Written) → Touches s t → line_and_record_in t.recorded ≡ w
      → value_of t ≡ record (value_of s) { line = w.line; held = w.held }
  touched s t w touches is = touches ∙ ap (λ (x : Written). record (value_of s) { line = x.line; held = x.held }) is

  -- the completer failed, after the mark
  refused_behind : {A : Type 0} (start : ℕ) (text : List ℕ) (s t : State Out H Hi K T renderer completer candidate hinter hint highlighter validator history) (h : H) (e : ReadlineError) → s.helper ≡ Some h
      → IsHelpFault (Some (completer.update_of h s.recorded.line start text)) e → line_and_record_in t.recorded ≡ group_opened (line_and_record_in s.recorded) → surface_of t ≡ surface_of s → Stays s t → Touches s t
      → Does {A = A} (word_updated start text) s t (Err e)
  refused_behind start text s t h e is why marked same stays touches =
      let reply = update_reply start text (setting_of s) (value_of s) in
      let fault : IsHelpFault reply e = update_faults s h start text e is why in
      does_refused (word_updated start text) s t e stays (hook_reason (λ h. h.updates s.recorded.line start text) (setting_of s).hooks (renderer.canvas.failed t.out) e
      (λ h k. (s.recorded.line, [], 0, start, text, inr (inr (inr k)))) fault)
      (stops_updating renderer.canvas (renderer.canvas.ruler s.out) (value_of s) reply (surface_of s) (surface_of t) e (value_of t) fault same
      (touched s t (group_opened (line_and_record_in s.recorded)) touches marked))

  -- memory ran out for the mark
  unmarked : {A : Type 0} (start : ℕ) (text : List ℕ) (s t : State Out H Hi K T renderer completer candidate hinter hint highlighter validator history) (h : H) → s.helper ≡ Some h
      → line_and_record_in t.recorded ≡ line_and_record_in s.recorded → surface_of t ≡ surface_of s → Stays s t → Touches s t → Does {A = A} (word_updated start text) s t (Err Memory)
  unmarked start text s t h is stood same stays touches =
      let reply = update_reply start text (setting_of s) (value_of s) in
      does_refused (word_updated start text) s t Memory stays tt
      (stops_marking renderer.canvas (renderer.canvas.ruler s.out) (value_of s) reply (surface_of s) (surface_of t) Memory (value_of t)
      (ap (λ (o : Option H). is_some (option_map (λ (k : Hooks). k.updates s.recorded.line start text) (option_map (hooks_of completer hinter validator) o))) is) refl same (touched s t (line_and_record_in s.recorded) touches stood))

  -- the same of what the call has told
  pub updating_cut : {A : Type 0} (start : ℕ) (text : List ℕ) (s t : State Out H Hi K T renderer completer candidate hinter hint highlighter validator history) (h : H) (fault : HookFault) → s.helper ≡ Some h
      → CutWord (completer.update_of h s.recorded.line start text) (line_and_record_in s.recorded) (line_and_record_in t.recorded) fault → surface_of t ≡ surface_of s → Stays s t → Touches s t
      → Does {A = A} (word_updated start text) s t (Err (error_of fault))
  updating_cut {A} start text s t h fault is (inl left) same stays touches =
      subst (λ f. Does {A = A} (word_updated start text) s t (Err (error_of f))) (sym left.0) (unmarked start text s t h is left.1 same stays touches)
  updating_cut start text s t h fault is (inr left) same stays touches =
      refused_behind start text s t h (error_of fault) is (fault_told (completer.update_of h s.recorded.line start text) fault left.0) left.1 same stays touches

  -- ---- the candidates

  pub asked_made : {A : Type 0} (s : State Out H Hi K T renderer completer candidate hinter hint highlighter validator history) (x : A)
      → IsFalse (fails_by (completion_reply (setting_of s) (value_of s))) → Does candidates_asked s s (Ok x)
  asked_made s x works =
      let reply = completion_reply (setting_of s) (value_of s) in
      let calls = help_made renderer.canvas (renderer.canvas.ruler s.out) s.layout (value_of s) reply s.out s.out works refl in
      let layout = sym (help_layout (renderer.canvas.ruler s.out) s.layout (value_of s) reply) in
      record { value = refl; calls = calls; layout = layout; stays = stays_same s; reason = tt; stops = tt }

  pub asked_refused : (s : State Out H Hi K T renderer completer candidate hinter hint highlighter validator history) (e : ReadlineError)
      → IsHelpFault (completion_reply (setting_of s) (value_of s)) e → Does {A = ⊤} candidates_asked s s (Err e)
  asked_refused s e why = does_refused candidates_asked s s e (stays_same s)
      (let v = value_of s in hook_reason (λ h. h.completes v.line.text v.line.place (setting_of s).entries v.history) (setting_of s).hooks (renderer.canvas.failed s.out) e
      (λ h k. (v.line, (setting_of s).entries, v.history, 0, [], inr (inr (inl k)))) why)
      (stops_asking renderer.canvas (renderer.canvas.ruler s.out) (value_of s) (completion_reply (setting_of s) (value_of s)) (surface_of s) (surface_of s) e (value_of s) why refl refl)

  complete_is : (s : State Out H Hi K T renderer completer candidate hinter hint highlighter validator history) → is_some s.helper ≡ true
      → then_do candidates_asked (complete_effect (candidates_given (completion_reply (setting_of s) (value_of s)))) (setting_of s) (value_of s) ≡ complete (setting_of s) (value_of s)
  complete_is s some =
      ap (λ b. effect_if b (then_do candidates_asked (complete_effect (candidates_given (completion_reply (setting_of s) (value_of s))))) (setting_of s) (value_of s))
      (sym (has_hooks (hooks_of completer hinter validator) s.helper ∙ some))

  pub complete_refused : {A : Type 0} (s : State Out H Hi K T renderer completer candidate hinter hint highlighter validator history) (e : ReadlineError) (result : Result A ReadlineError) → is_some s.helper ≡ true
      → IsErrAnd result (λ x. x ≡ e) → IsHelpFault (completion_reply (setting_of s) (value_of s)) e → Does complete s s result
  complete_refused s e result some is why =
      let done = complete_effect (candidates_given (completion_reply (setting_of s) (value_of s))) in
      does_as (then_do candidates_asked done) complete s s result (complete_is s some) (does_cut_by candidates_asked done s s e result is (asked_refused s e why))

  pub complete_made : {A : Type 0} (start : ℕ) (items : List K) (o : Option (List ℕ)) (s t : State Out H Hi K T renderer completer candidate hinter hint highlighter validator history) (result : Result A ReadlineError)
      → is_some s.helper ≡ true → (let found : Completion = record { start = start; candidates = map candidate.offers items } in
      found ≡ candidates_given (completion_reply (setting_of s) (value_of s)) → common_text found s.recorded.line ≡ o → IsFalse (fails_by (completion_reply (setting_of s) (value_of s)))
      → Does (option_map_or (word_completed start) o beep_effect) s t result → Does complete s t result)
  complete_made {A} start items o s t result some same is works does =
      let found : Completion = record { start = start; candidates = map candidate.offers items } in
      let given : Completion = candidates_given (completion_reply (setting_of s) (value_of s)) in
      does_as (then_do candidates_asked (complete_effect given)) complete s t result (complete_is s some)
      (does_both {A = ⊤} candidates_asked (complete_effect given) s s t (tt {0}) result (asked_made s (tt {0}) works)
      (does_as (option_map_or (word_completed start) o beep_effect) (complete_effect given) s t result (completed_is found given o (setting_of s) (value_of s) same is) does))
