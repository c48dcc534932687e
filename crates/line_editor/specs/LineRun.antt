-- A whole line: what is passed in for it, what is returned, and what was read and drawn.
use Rattle.std.specs.Prelude.{◌≡◌, ◌⊎◌, ℕ, Bool, true, false, ◌<◌, ◌≤◌, List, Option, Some, None, Result, Ok, Err, string_bytes, IsTrue, IfErr, OnOk, length}
use Rattle.line_buffer.specs.Line.{Line}
use Rattle.line_buffer.specs.declared.layout.Layout.{Layout}
use Rattle.script.specs.Scripts.{Goes}
use Rattle.line_config.specs.declared.config.Config.{Config}
use Rattle.line_config.specs.declared.errors.ReadlineError.{ReadlineError}
use Rattle.line_config.specs.declared.errors.ReadlineError.TheVariants.{Eof, Interrupted, Memory}
use Rattle.line_keys.specs.CustomBindings.{Custom}
use Rattle.line_keys.specs.KeyFeeds.{KeyFeed, Coming, answer_map}
use Rattle.line_keys.specs.InputStates.{new_input}
use Rattle.line_keys.specs.PhraseScripts.{Input}
use Rattle.line_record.specs.Ring.{Ring}
use Rattle.line_editor.specs.RenderCalls.{Canvas, Ruler}
use Rattle.line_editor.specs.LineScripts.{LineState, LineStage, line_state, line_script, line_world, line_stage}
use Rattle.line_editor.specs.Modal.{Modal, modal_first}
use Rattle.line_editor.specs.Redraws.{fresh}
use Rattle.line_editor.specs.EditSteps.{surface}
use Rattle.line_editor.specs.States.{cause_of}
use Rattle.line_editor.specs.Values.{Value, Setting, first_value, IsFailing, empty_at}
pub use Rattle.line_editor.specs.Values.{Helping, setting_by, helper_from_hooks}
use Rattle.line_editor.specs.declared.line_run.Ran.{Ran}

-- the state as a line begins, with ring and last query of the lines before: nothing drawn or typed
abbrev pub first_line_state : Setting → Ring → List ℕ → Coming → LineState
first_line_state s ring query coming =
    line_state (first_value s) (new_input s.config) ring (modal_first s.config query) coming

abbrev pub stage_first : {R : Type 0} → R → Ruler → Setting → Ring → List ℕ → Coming → LineStage R
stage_first out r s ring query coming =
    line_stage (surface out (fresh r.mode)) (first_line_state s ring query coming)

-- a line that isn't accepted
abbrev pub open_or : {A : Type 0} → Result A ReadlineError → Line → Option Line
open_or (Ok x) line = None
open_or (Err e) line = Some line

-- a line that isn't accepted is returned as it stands. There is none if no memory was available for
-- it: its value is the first one
abbrev pub IsOpen : {A : Type 0} → Result A ReadlineError → Value → Value → Option Line → Type 0
IsOpen (Ok x) first v it = it ≡ None
IsOpen (Err Memory) first v it = (it ≡ Some v.line) ⊎ ((it ≡ None) × (v ≡ first))
IsOpen (Err e) first v it = it ≡ Some v.line

abbrev pub outcome_of : {R H K T : Type 0} → Ran R H K T → Result (List ℕ) ReadlineError
outcome_of ran = answer_map string_bytes ran.outcome

-- the endings of a line after which the display gets a new row
abbrev pub breaks_after : ReadlineError → Bool
breaks_after Eof = true
breaks_after Interrupted = true
breaks_after why = false

-- the relation of `run`: a line goes as its script says. More fuel than the reader has keys and
-- pastes is enough
pub record Runs {R H K T : Type 0} (canvas : Canvas R) (helps : Option H → Helping)
    (custom : Custom) (prompt : List ℕ) (helper : Option H) (entries : List (List ℕ))
    (config : Config) (out : R) (ring : Ring) (query : List ℕ) (feed : KeyFeed)
    (ran : Ran R H K T) (ring' : Ring) (query' : List ℕ) (feed' : KeyFeed) : Type 0 where
  -- its value at its end
  pub value : Value
  pub input : Input
  pub modal : Modal
  pub layout : Layout
  pub goes : IsTrue feed'.told → (n : ℕ) → feed.bound < n → let ruler = canvas.ruler out in
      let setting = setting_by ruler prompt (helps helper) entries config in
      Goes (line_world canvas ruler setting) (line_script n custom)
      (stage_first out ruler setting ring query feed.coming) (outcome_of ran)
      (line_stage (surface ran.out layout) (line_state value input ring' modal feed'.coming))
  -- the last query goes on
  pub last : query' ≡ modal.query
  pub told : IsTrue feed'.told → IsTrue feed.told
  pub keeps : feed'.bound ≤ feed.bound
  pub falls : OnOk ran.outcome (feed'.bound < feed.bound)
  pub line_is : IsOpen ran.outcome (empty_at (length entries)) value ran.open_line
  -- the helper's replies and the measures stay
  pub helper_stays : IsTrue feed'.told → helps ran.helper ≡ helps helper
  pub ruler_stays : IsTrue feed'.told → canvas.ruler ran.out ≡ canvas.ruler out
  -- why there is no line, in any case
  pub reason : IfErr ran.outcome (λ e. let hook = IsFailing (helps ran.helper).hooks in
      cause_of custom (canvas.failed ran.out) hook feed' e)
