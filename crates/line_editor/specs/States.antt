-- The value of a state, what was passed in for it, how a line begins, and the effect on it of an
-- edit, of a command, and of a line or a part of it.
use Rattle.std.specs.Prelude.{◌≡◌, ⊤, ℕ, Bool, false, List, Option, None, Some, option_map, Result, Ok, Err, string_bytes, IsTrue, IsFalse, IsSomeAnd, IfErr, OnOk, ◌⊎◌, ◌<◌, ◌≤◌, true, IfOk}
use Rattle.std.specs.List.{FoldsTo}
use Rattle.line_config.specs.declared.config.Config.{Config}
use Rattle.line_config.specs.declared.errors.HookFault.{HookFault}
use Rattle.line_config.specs.declared.errors.HookFault.TheVariants.{Failed, Memory as OutOfMemory}
use Rattle.line_config.specs.declared.errors.ReadlineError.{ReadlineError}
use Rattle.line_config.specs.declared.errors.ReadlineError.TheVariants.{Display, Helper, Memory, Eof, Interrupted, NotUtf8, PasteOutOfPlace, Reader, Handler}
use Rattle.line_keys.specs.Refreshing.{KnownDisplay}
use Rattle.line_keys.specs.Replies.{Reply, fails}
use Rattle.line_help.specs.declared.completion.Completer as completers
use Rattle.line_help.specs.declared.completion.Candidate as candidates
use Rattle.line_help.specs.declared.helpers.hint.Hinter as hinters
use Rattle.line_help.specs.declared.helpers.hint.Hint as hints
use Rattle.line_help.specs.declared.helpers.highlight.Highlighter as highlighters
use Rattle.line_help.specs.declared.helpers.validate.Validator as validators
use Rattle.line_help.specs.declared.history.History as histories
use Rattle.line_record.specs.Items.{record_on}
use Rattle.line_editor.specs.Drawing.{shown_in, ask_effect}
use Rattle.line_editor.specs.RenderCalls.{MadeIn}
use Rattle.line_editor.specs.Redraws.{fresh}
use Rattle.line_editor.specs.EditSteps.{calls_of_steps, Surface, surface, CutHelp, CutEditSteps}
use Rattle.line_editor.specs.Values.{Value, Setting, Hooks, empty_at, hooks_by, setting_by, Transition, IsFailing}
use Rattle.line_editor.specs.declared.renderer.Renderer as renderers
use Rattle.line_editor.specs.declared.state.State.{State}
use Rattle.script.specs.Scripts.{World, Goes}
use Rattle.line_keys.specs.CustomBindings.{Custom, HandlerFails}
use Rattle.line_keys.specs.KeyFeeds.{KeyFeed, Coming}
use Rattle.line_keys.specs.PhraseScripts.{Input}
use Rattle.line_keys.specs.declared.command.Cmd.{Cmd}
use Rattle.line_keys.specs.declared.command.Cmd.TheVariants.{AcceptLine, AcceptOrInsertLine, EndOfFile, Interrupt, Kill, Replace, ViYankTo}
use Rattle.line_record.specs.Ring.{Ring}
use Rattle.line_editor.specs.Commands.{means_of, effect, ring_after_command, CutRing, outcome}
use Rattle.line_editor.specs.LineScripts.{LineAsk, LineAnswer, LineScript, LineStage, line_state, line_world, line_stage}
use Rattle.line_editor.specs.Modal.{Modal, Meeting}
use Rattle.line_editor.specs.declared.commands.Status.{Status}

-- a call of a hook answers unless it fails, or returns one of its faults: Helper if it fails,
-- Memory if it takes memory. Without a helper it answers
abbrev pub fails_by : {A : Type 0} → Option (Reply A) → Bool
fails_by None = false
fails_by (Some reply) = fails reply

pub record Helps {A B : Type 0} (reply : Option (Reply A)) (result : Result B ReadlineError)
    : Type 0 where
  pub works : OnOk result (IsFalse (fails_by reply))
  pub fault : IfErr result (λ why. IsSomeAnd reply (λ r. CutHelp (fails r) r.takes why))

-- the error of a hook's fault
abbrev pub error_of : HookFault → ReadlineError
error_of Failed = Helper
error_of OutOfMemory = Memory

-- why an edit fails: the display has failed, a hook fails, or memory ran out
abbrev pub reason_of : Bool → Type 0 → ReadlineError → Type 0
reason_of failed hook Display = IsTrue failed
reason_of failed hook Helper = hook
reason_of failed hook Memory = ⊤
reason_of failed hook why = ⊥

-- the replies of a helper's hooks, by its traits
abbrev pub hooks_of : {H K T : Type 0} → completers.Ghosts H K
    → hinters.Ghosts H T → validators.Ghosts H → H → Hooks
hooks_of completer hinter validator =
    hooks_by hinter.hint_of validator.verdict_of completer.completion_of completer.update_of

-- a command that neither ends a line nor kills
abbrev pub is_obeyed : Cmd → Bool
is_obeyed EndOfFile = false
is_obeyed AcceptLine = false
is_obeyed (AcceptOrInsertLine middle) = false
is_obeyed Interrupt = false
is_obeyed (Kill movement) = false
is_obeyed (Replace movement text) = false
is_obeyed (ViYankTo movement) = false
is_obeyed cmd = true

-- why a call that reads and edits fails, in any case; commands end a line too
abbrev pub cause_of : Custom → Bool → Type 0 → KeyFeed → ReadlineError → Type 0
cause_of custom failed hook feed Eof = ⊤
cause_of custom failed hook feed Interrupted = ⊤
cause_of custom failed hook feed NotUtf8 = feed.reason NotUtf8
cause_of custom failed hook feed PasteOutOfPlace = feed.reason PasteOutOfPlace
cause_of custom failed hook feed Reader = feed.reason Reader
cause_of custom failed hook feed Handler = HandlerFails custom
cause_of custom failed hook feed why = reason_of failed hook why

module _ {Out H Hi K T : Type 0} {renderer : renderers.Ghosts Out}
    {completer : completers.Ghosts H K} {candidate : candidates.Ghosts K}
    {hinter : hinters.Ghosts H T} {hint : hints.Ghosts T}
    {highlighter : highlighters.Ghosts H} {validator : validators.Ghosts H}
    {history : histories.Ghosts Hi} where
  module _ (s : State Out H Hi K T renderer completer candidate hinter hint highlighter validator
      history) where
    abbrev pub value_of : Value
    value_of = record {
      line = s.recorded.line;
      held = record_on s.recorded.changes s.recorded.line.text;
      saved = record { text = string_bytes s.saved.text; place = s.saved.pos };
      history = s.ctx.place;
      hint = option_map hint.says s.hint;
      marked = s.highlight_char;
    }

    abbrev pub setting_of : Setting
    setting_of = setting_by (renderer.canvas.ruler s.out) s.prompt.now (record {
      hooks = option_map (hooks_of completer hinter validator) s.helper;
      marks = option_map highlighter.marks s.helper;
    }) (history.entries s.ctx.history.now) s.config.now

    abbrev pub Reason : ReadlineError → Type 0
    Reason e = reason_of (renderer.canvas.failed s.out) (IsFailing setting_of.hooks) e

    abbrev pub surface_of : Surface Out
    surface_of = surface s.out s.layout

    -- what is passed on in a line, if it has this state
    abbrev pub stage_of : Input → Ring → Modal → Coming → LineStage Out
    stage_of input ring modal coming =
        line_stage surface_of (line_state value_of input ring modal coming)

    abbrev pub world_of : World LineAsk LineAnswer (LineStage Out) ReadlineError
    world_of = line_world renderer.canvas (renderer.canvas.ruler s.out) setting_of

  -- what was passed in stays
  pub record Stays
      (s t : State Out H Hi K T renderer completer candidate hinter hint highlighter validator
      history) : Type 0 where
    pub ruler : renderer.canvas.ruler t.out ≡ renderer.canvas.ruler s.out
    pub prompt : t.prompt.now ≡ s.prompt.now
    pub history_is : t.ctx.history.now ≡ s.ctx.history.now
    pub config_is : t.config.now ≡ s.config.now
    pub hooks_are : option_map (hooks_of completer hinter validator) t.helper
        ≡ option_map (hooks_of completer hinter validator) s.helper
    pub marks_are : option_map highlighter.marks t.helper ≡ option_map highlighter.marks s.helper

  -- an edit was made, with its calls in order; or it failed for a reason after its first steps
  pub record Does {A : Type 0} (edit : Transition)
      (s t : State Out H Hi K T renderer completer candidate hinter hint highlighter validator
      history) (result : Result A ReadlineError) : Type 0 where
    pub value : OnOk result (value_of t ≡ (edit (setting_of s) (value_of s)).value)
    pub calls : OnOk result (FoldsTo (MadeIn renderer.canvas) s.out
        (calls_of_steps (renderer.canvas.ruler s.out) s.layout
        (edit (setting_of s) (value_of s)).steps).calls t.out)
    pub layout : OnOk result (t.layout
        ≡ (calls_of_steps (renderer.canvas.ruler s.out) s.layout
        (edit (setting_of s) (value_of s)).steps).layout)
    pub stays : Stays s t
    pub reason : IfErr result (Reason t)
    pub stops : IfErr result (λ fault. CutEditSteps renderer.canvas (renderer.canvas.ruler s.out)
        (edit (setting_of s) (value_of s)).steps (surface_of s) fault (value_of t) (surface_of t))

  -- an edit that only draws: only the display can make it fail
  pub record Renders {A : Type 0} (edit : Transition)
      (s t : State Out H Hi K T renderer completer candidate hinter hint highlighter validator
      history) (result : Result A ReadlineError) : Type 0 where
    pub does : Does edit s t result
    pub fault : IfErr result (λ e. e ≡ Display)

  -- a display for the key tables: a call is an edit; a failed one is an edit that was begun
  abbrev pub display_of : KnownDisplay
      (State Out H Hi K T renderer completer candidate hinter hint highlighter validator history)
  display_of = record {
    shown = λ s. shown_in (value_of s);
    asked = λ s ask t. Does {A = Unit {0}} (ask_effect ask) s t (Ok (tt {0}));
    refused = λ s ask e t. Does {A = Unit {0}} (ask_effect ask) s t (Err e);
  }

  -- nothing is drawn, and nothing typed
  pub record Starts (out : Out) (prompt : List ℕ) (helper : Option H) (entries : Hi) (place : ℕ)
      (config : Config)
      (s : State Out H Hi K T renderer completer candidate hinter hint highlighter validator
      history) : Type 0 where
    pub value : value_of s ≡ empty_at place
    pub layout : s.layout ≡ fresh (renderer.canvas.ruler out).mode
    pub out_is : s.out ≡ out
    pub prompt_is : s.prompt.now ≡ prompt
    pub helper_is : s.helper ≡ helper
    pub history_is : s.ctx.history.now ≡ entries
    pub config_is : s.config.now ≡ config

  -- the command was run to its end and ends as it says, or a fault stopped it
  abbrev pub Executes : Cmd → Input
      → State Out H Hi K T renderer completer candidate hinter hint highlighter validator history
      → Ring
      → State Out H Hi K T renderer completer candidate hinter hint highlighter validator history
      → Ring → Result Status ReadlineError → Type 0
  Executes cmd input s ring t ring' result = let m = means_of input ring in
      (Does {A = Unit {0}} (effect m cmd) s t (Ok (tt {0}))
      × (result ≡ outcome m cmd (setting_of s) (value_of s))
      × (ring' ≡ ring_after_command cmd (value_of s) ring))
      ⊎ ((e : ReadlineError) × (result ≡ Err e)
      × Does {A = Unit {0}} (effect m cmd) s t (Err e) × CutRing cmd (value_of s) ring ring' e)

  -- a command came, and what stands between commands made this of it; the answer says which command
  -- is done in its place
  pub record Meets {A : Type 0} (met : Setting → Value → Meeting) (said : A → Cmd)
      (s t : State Out H Hi K T renderer completer candidate hinter hint highlighter validator
      history) (modal' : Modal) (result : Result A ReadlineError) : Type 0 where
    pub does : Does (λ a v. (met a v).effect) s t result
    pub modal_is : OnOk result (modal' ≡ (met (setting_of s) (value_of s)).modal)
    pub next : IfOk result (λ x. said x ≡ (met (setting_of s) (value_of s)).next)

  abbrev pub Cause : Custom
      → State Out H Hi K T renderer completer candidate hinter hint highlighter validator history
      → KeyFeed → ReadlineError → Type 0
  Cause custom t feed e =
      cause_of custom (renderer.canvas.failed t.out) (IsFailing (setting_of t).hooks) feed e

  -- the relation of a line, or of a part of it, from a state on: it goes as its script says. More
  -- fuel than the reader has keys and pastes is enough
  pub record RunsScript {X : Type 0} (script : ℕ → Custom → LineScript X) (custom : Custom)
      (s : State Out H Hi K T renderer completer candidate hinter hint highlighter validator
      history) (input : Input) (ring : Ring) (modal : Modal) (feed : KeyFeed)
      (t : State Out H Hi K T renderer completer candidate hinter hint highlighter validator
      history) (input' : Input) (ring' : Ring) (modal' : Modal) (feed' : KeyFeed)
      (result : Result X ReadlineError) : Type 0 where
    pub goes : IsTrue feed'.told → (n : ℕ) → feed.bound < n
        → Goes (world_of s) (script n custom) (stage_of s input ring modal feed.coming)
        result (stage_of t input' ring' modal' feed'.coming)
    pub stays : IsTrue feed'.told → Stays s t
    pub told : IsTrue feed'.told → IsTrue feed.told
    pub keeps : feed'.bound ≤ feed.bound
    pub falls : OnOk result (feed'.bound < feed.bound)
    -- always Emacs or always Vi
    pub mode : input'.mode ≡ input.mode
    pub reason : IfErr result (λ e. Cause custom t feed' e)
