-- A whole line.
use Rattle.std.proofs.Common.{◌≡◌, inl, inr, ℕ, ◌<◌, Bool, List, refl, sym, ap, subst, ◌∙◌, IsTrue, le_refl}
use Rattle.std.specs.Prelude.{Option, None, Result, Ok, Err, length, string_bytes, IfErr, OnOk}
use Rattle.script.specs.Scripts.{Goes}
use Rattle.std.specs.Result.{result_and}
use Rattle.line_config.specs.declared.config.Config.{Config}
use Rattle.line_config.specs.declared.errors.ReadlineError.{ReadlineError, TheVariants.Display, TheVariants.Helper, TheVariants.Memory}
use Rattle.script.proofs.ScriptLaws.{ok_not_err, fault_or}
use Rattle.line_help.specs.declared.completion as completions
use Rattle.line_help.specs.declared.helpers.hint as hints
use Rattle.line_help.specs.declared.helpers.highlight as highlights
use Rattle.line_help.specs.declared.helpers.validate as verdicts
use Rattle.line_help.specs.declared.history as histories
use Rattle.line_keys.specs.CustomBindings.{Custom}
use Rattle.line_keys.specs.KeyFeeds.{KeyFeed, Coming, answer_map}
use Rattle.line_keys.specs.InputStates.{new_input}
use Rattle.line_keys.specs.PhraseScripts.{Input}
use Rattle.line_record.specs.Ring.{Ring}
use Rattle.line_editor.specs.RenderCalls.{Canvas, Ruler}
use Rattle.line_editor.specs.LineScripts.{LineStage, line_state, line_script, line_world, line_stage}
use Rattle.line_editor.specs.Redraws.{fresh}
use Rattle.line_editor.specs.LineRun.{Helping, helper_from_hooks, setting_by, stage_first, outcome_of, open_or, IsOpen, Runs}
use Rattle.line_editor.specs.Modal.{Modal, modal_first}
use Rattle.line_editor.specs.States.{value_of, setting_of, Stays, Starts, cause_of, Cause, RunsScript, stage_of, world_of}
use Rattle.line_editor.specs.EditSteps.{surface}
use Rattle.line_editor.specs.Values.{Value, Setting, IsFailing, empty_at, first_value}
use Rattle.line_editor.specs.declared.line_run.Ran.{Ran}
use Rattle.line_editor.specs.declared.renderer as renderers
use Rattle.line_editor.specs.declared.state.State.{State}
use Rattle.line_editor.proofs.StopsLemmas.{stops_taking}

-- no memory before the first drawing
undrawn : {R : Type 0} (canvas : Canvas R) (r : Ruler) (s : Setting) (n : ℕ) (custom : Custom) (out : R) (ring : Ring) (query : List ℕ) (c : Coming)
    → let first = stage_first out r s ring query c in Goes (line_world canvas r s) (line_script n custom) first (Err Memory) first
unfolding line_script
undrawn canvas r s n custom out ring query c =
    inr (Memory, inr (inl (stops_taking canvas r (first_value s) _ (surface out (fresh r.mode)) (surface out (fresh r.mode)) Memory (first_value s) refl refl refl, refl)), refl)

-- no memory for a line, and nothing was read or drawn
pub not_begun : {R H K T : Type 0} (canvas : Canvas R) (helps : Option H → Helping) (custom : Custom) (prompt : List ℕ) (helper : Option H) (entries : List (List ℕ)) (config : Config) (out : R)
    (ring : Ring) (query : List ℕ) (feed : KeyFeed) → Runs {K = K} {T = T} canvas helps custom prompt helper entries config out ring query feed (record { out = out; helper = helper; outcome = Err Memory; open_line = None }) ring query feed
not_begun canvas helps custom prompt helper entries config out ring query feed = record {
  value = first_value (setting_by (canvas.ruler out) prompt (helps helper) entries config);
  input = new_input config;
  modal = modal_first config query;
  layout = fresh (canvas.ruler out).mode;
  goes = λ told n h. undrawn canvas (canvas.ruler out) (setting_by (canvas.ruler out) prompt (helps helper) entries config) n custom out ring query feed.coming;
  last = refl;
  told = λ told. told;
  keeps = le_refl feed.bound;
  falls = tt;
  line_is = inr (refl, refl);
  helper_stays = λ told. refl;
  ruler_stays = λ told. refl;
  reason = tt;
}

pub not_begun_by : {R H K T : Type 0} (canvas : Canvas R) (helps : Option H → Helping) (custom : Custom) (prompt : List ℕ) (helper : Option H) (entries : List (List ℕ)) (config : Config) (out : R)
    (ring : Ring) (query : List ℕ) (feed : KeyFeed) (ran : Ran R H K T) → ran ≡ record { out = out; helper = helper; outcome = Err Memory; open_line = None } → Runs canvas helps custom prompt helper entries config out ring query feed ran ring query feed
not_begun_by {K = K} {T = T} canvas helps custom prompt helper entries config out ring query feed ran is =
    subst (λ x. Runs canvas helps custom prompt helper entries config out ring query feed x ring query feed) (sym is) (not_begun {K = K} {T = T} canvas helps custom prompt helper entries config out ring query feed)

-- ---- results, with a text or without

same_reason : {X : Type 0} (f : X → List ℕ) (o : Result X ReadlineError) (q : Result (List ℕ) ReadlineError) (P Q : ReadlineError → Type 0)
    → answer_map f o ≡ q → ((e : ReadlineError) → P e → Q e) → IfErr q P → IfErr o Q
same_reason f (Ok x) q P Q is go h = tt
same_reason f (Err e) (Ok text) P Q is go h = ok_not_err text e (sym is)
same_reason f (Err e) (Err x) P Q is go h = subst Q (sym (ap (fault_or e) is)) (go x h)

same_fall : {X : Type 0} (P : Type 0) (f : X → List ℕ) (o : Result X ReadlineError) (q : Result (List ℕ) ReadlineError) → answer_map f o ≡ q → OnOk q P → OnOk o P
same_fall P f (Err e) q is h = tt
same_fall P f (Ok x) (Ok y) is h = h
same_fall P f (Ok x) (Err e) is h = ok_not_err (f x) e is

-- a line that isn't accepted is the one that stands
line_left : {A X : Type 0} (f : X → List ℕ) (o : Result X ReadlineError) (read : Result A ReadlineError) (text : List ℕ) (first v : Value) → answer_map f o ≡ result_and read (Ok text) → IsOpen o first v (open_or read v.line)
line_left f (Ok x) (Ok y) text first v is = refl
line_left f (Ok x) (Err e) text first v is = ok_not_err (f x) e is
line_left f (Err e) (Ok y) text first v is = ok_not_err text e (sym is)
line_left f (Err Memory) (Err e) text first v is = inl refl
line_left f (Err _) (Err e) text first v is = refl

-- ---- causes

cause_to : (custom : Custom) (b c : Bool) (P Q : Type 0) (feed : KeyFeed) (e : ReadlineError) → b ≡ c → (P → Q) → cause_of custom b P feed e → cause_of custom c Q feed e
cause_to custom b c P Q feed Display same go why = subst IsTrue same why
cause_to custom b c P Q feed Helper same go why = go why
cause_to custom b c P Q feed _ same go why = why

-- ---- the line's setting

abbrev Failing : Helping → Type 0
Failing h = IsFailing h.hooks

module _ {Out H Hi K T : Type 0} {renderer : renderers.Renderer.Ghosts Out} {completer : completions.Completer.Ghosts H K} {candidate : completions.Candidate.Ghosts K}
    {hinter : hints.Hinter.Ghosts H T} {hint : hints.Hint.Ghosts T} {highlighter : highlights.Highlighter.Ghosts H} {validator : verdicts.Validator.Ghosts H} {history : histories.History.Ghosts Hi} where
  abbrev helps : State Out H Hi K T renderer completer candidate hinter hint highlighter validator history → Option H → Helping
  helps s helper = helper_from_hooks hinter.hint_of validator.verdict_of completer.completion_of completer.update_of highlighter.marks helper

  helper_same : (s t : State Out H Hi K T renderer completer candidate hinter hint highlighter validator history) → Stays s t → helps s t.helper ≡ helps s s.helper
  helper_same s t h = cc

  -- bindings that stayed
  pub same_reads : (kept custom : Custom) (i i' : Input) (ring ring' : Ring) (modal modal' : Modal) (s t : State Out H Hi K T renderer completer candidate hinter hint highlighter validator history) (feed feed' : KeyFeed)
      (result : Result (List ℕ) ReadlineError) → kept ≡ custom → RunsScript line_script kept s i ring modal feed t i' ring' modal' feed' result → RunsScript line_script custom s i ring modal feed t i' ring' modal' feed' result
  same_reads kept custom i i' ring ring' modal modal' s t feed feed' result same reads = subst (λ x. RunsScript line_script x s i ring modal feed t i' ring' modal' feed' result) same reads

  module _ {A : Type 0} (prompt : List ℕ) (helper : Option H) (hist : Hi) (config : Config) (out : Out) (s t : State Out H Hi K T renderer completer candidate hinter hint highlighter validator history)
      (shown : Hi) (place : ℕ) (starts : Starts out prompt helper shown place config s) (shown_is : shown ≡ hist) (place_is : place ≡ length (history.entries hist))
      (custom : Custom) (i i' : Input) (input_is : i ≡ new_input config) (ring ring' : Ring) (modal modal' : Modal) (query query' : List ℕ) (modal_is : modal ≡ modal_first config query) (query_is : query' ≡ modal'.query) (feed feed' : KeyFeed) (result : Result A ReadlineError)
      (reads : RunsScript line_script custom s i ring modal feed t i' ring' modal' feed' (result_and result (Ok t.recorded.line.text)))
      (ran : Ran Out H K T) (out_is : ran.out ≡ t.out) (helper_is : ran.helper ≡ t.helper) (outcome_is : outcome_of ran ≡ result_and result (Ok t.recorded.line.text))
      (line_is : ran.open_line ≡ open_or result t.recorded.line) where
    abbrev setting : Setting
    setting = setting_by (renderer.canvas.ruler out) prompt (helps s helper) (history.entries hist) config

    setting_same : setting_of s ≡ setting
    setting_same = cc

    helper_same_as : Stays s t → helps s ran.helper ≡ helps s helper
    helper_same_as stays = ap (helps s) helper_is ∙ helper_same s t stays ∙ ap (helps s) starts.helper_is

    abbrev last : Out → LineStage Out
    last o = line_stage (surface o t.layout) (line_state (value_of t) i' ring' modal' feed'.coming)

    first_same : stage_of s i ring modal feed.coming ≡ stage_first out (renderer.canvas.ruler out) setting ring query feed.coming
    first_same = cc (starts.out_is, starts.layout, starts.value ∙ ap empty_at place_is, input_is, modal_is)

    goes_by : (n : ℕ) → Goes (world_of s) (line_script n custom) (stage_of s i ring modal feed.coming) (result_and result (Ok t.recorded.line.text)) (stage_of t i' ring' modal' feed'.coming)
        → Goes (line_world renderer.canvas (renderer.canvas.ruler out) setting) (line_script n custom)
        (stage_first out (renderer.canvas.ruler out) setting ring query feed.coming) (outcome_of ran) (last ran.out)
    goes_by n goes =
        let world : world_of s ≡ line_world renderer.canvas (renderer.canvas.ruler out) setting =
        ap (λ o. line_world renderer.canvas (renderer.canvas.ruler o) (setting_of s)) starts.out_is ∙ ap (line_world renderer.canvas (renderer.canvas.ruler out)) setting_same in
        let first = stage_first out (renderer.canvas.ruler out) setting ring query feed.coming in
        subst (λ w. Goes w (line_script n custom) first (outcome_of ran) (last ran.out)) world
        (subst (λ x. Goes (world_of s) (line_script n custom) x (outcome_of ran) (last ran.out)) first_same
        (subst (λ q. Goes (world_of s) (line_script n custom) (stage_of s i ring modal feed.coming) q (last ran.out)) (sym outcome_is) (rw out_is goes)))

    pub runs_by : Runs renderer.canvas (helps s) custom prompt helper (history.entries hist) config out ring query feed ran ring' query' feed'
    runs_by = record {
      value = value_of t;
      input = i';
      modal = modal';
      layout = t.layout;
      goes = λ told n h. goes_by n (reads.goes told n h);
      last = query_is;
      told = reads.told;
      keeps = reads.keeps;
      falls = same_fall (feed'.bound < feed.bound) string_bytes ran.outcome (result_and result (Ok t.recorded.line.text)) outcome_is reads.falls;
      line_is = subst (IsOpen ran.outcome (first_value setting) (value_of t)) (sym line_is) (line_left string_bytes ran.outcome result t.recorded.line.text (first_value setting) (value_of t) outcome_is);
      helper_stays = λ told. helper_same_as (reads.stays told);
      ruler_stays = λ told. ap renderer.canvas.ruler out_is ∙ (reads.stays told).ruler ∙ ap renderer.canvas.ruler starts.out_is;
      reason = same_reason string_bytes ran.outcome (result_and result (Ok t.recorded.line.text)) (Cause custom t feed')
          (cause_of custom (renderer.canvas.failed ran.out) (Failing (helps s ran.helper)) feed') outcome_is
          (λ e. cause_to custom (renderer.canvas.failed t.out) (renderer.canvas.failed ran.out) (Failing (helps s t.helper)) (Failing (helps s ran.helper)) feed' e
          (ap renderer.canvas.failed (sym out_is)) (λ fails. subst (λ h. Failing (helps s h)) (sym helper_is) fails))
          reads.reason;
    }
