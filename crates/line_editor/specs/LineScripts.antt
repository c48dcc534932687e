-- A line as a script: its requests in order, depending on the input, and where a fault stops it.
use Rattle.std.specs.Prelude.{◌≡◌, ◌⊎◌, ℕ, zero, suc, List, [], ◌∷◌, ◌++◌, Result, Ok, Err}
use Rattle.script.specs.Played.{Plan, Played, play_of}
use Rattle.script.specs.Scripts.{Script, Ends, Asks, World, then}
use Rattle.line_config.specs.declared.errors.ReadlineError.{ReadlineError}
use Rattle.line_config.specs.declared.errors.ReadlineError.TheVariants.{Memory}
use Rattle.line_keys.specs.CustomBindings.{Custom}
use Rattle.line_keys.specs.KeyFeeds.{IsReadFault, item_at, behind, Coming, coming_after_error, InputItem}
use Rattle.line_keys.specs.Refreshing.{Shown}
use Rattle.line_keys.specs.PhraseScripts.{Input, KeyAsk, Answer, KeyScript, steps, Needs, Shows, Reads, Becomes, Refuses}
use Rattle.line_keys.specs.declared.command.Cmd.{Cmd}
use Rattle.line_record.specs.Ring.{Ring}
use Rattle.line_editor.specs.Accepting.{submit_effect}
use Rattle.line_editor.specs.RenderCalls.{Canvas, Ruler}
use Rattle.line_editor.specs.Commands.{means_of, effect, ring_after_command, CutRing, outcome}
use Rattle.line_editor.specs.Drawing.{refresh_effect, shown_in, ask_effect}
use Rattle.line_editor.specs.ModalCommands.{meeting, meeting_effect}
use Rattle.line_editor.specs.Modal.{Modal}
use Rattle.line_editor.specs.NextCommand.{line_phrase, ring_after_reset}
use Rattle.line_editor.specs.EditSteps.{calls_of_steps, Surface, CutEditSteps, CallsMade}
use Rattle.line_editor.specs.Values.{Value, Setting, EditStep, Effect, Transition, no_effect, memory_effect, then_do}
use Rattle.line_editor.specs.declared.commands.Status.{Status}
use Rattle.line_editor.specs.declared.commands.Status.TheVariants.{Proceed, Submit}

-- the state of a line, passed on from request to request
pub record LineState : Type 0 where
  pub value : Value
  pub input : Input
  pub ring : Ring
  pub modal : Modal
  pub coming : Coming

abbrev pub line_state : Value → Input → Ring → Modal → Coming → LineState
line_state value input ring modal coming =
    record { value = value; input = input; ring = ring; modal = modal; coming = coming }

-- what a turn begins on
pub record TurnStart : Type 0 where
  pub input : Input
  pub shown : Shown

abbrev pub turn_start : LineState → TurnStart
turn_start k = record { input = k.input; shown = shown_in k.value }

pub data LineAsk : Type 0 where
  -- a turn begins; nothing is made
  Begins : LineAsk
  -- a request of a phrase
  Keys : (ask : KeyAsk) → LineAsk
  -- a command comes: what stands between commands may take it
  Meets : (cmd : Cmd) → LineAsk
  -- a command is run
  Obeys : (cmd : Cmd) → LineAsk
  -- an edit that belongs to no command: a line's first drawing, or its close
  Makes : (edit : Transition) → LineAsk

abbrev pub LineAnswer : LineAsk → Type 0
LineAnswer Begins = TurnStart
LineAnswer (Keys ask) = Answer ask
LineAnswer (Meets cmd) = Cmd
LineAnswer (Obeys cmd) = Status
LineAnswer (Makes edit) = Value

abbrev pub LineScript : Type 0 → Type 0
LineScript X = Script LineAsk LineAnswer X

-- ---- the scripts; more fuel than a reader has keys and pastes is enough

abbrev pub script_of_keys : {X : Type 0} → KeyScript X → LineScript X
script_of_keys (Ends x) = Ends x
script_of_keys (Asks ask later) = Asks (Keys ask) (λ x. script_of_keys (later x))

abbrev pub phrase_script : ℕ → Custom → TurnStart → LineScript Cmd
phrase_script n custom at = script_of_keys (steps (line_phrase custom at.input at.shown) n)

-- a command, or what is left of it
abbrev pub meet_script : Cmd → LineScript Status
meet_script cmd = Asks (Meets cmd) (λ next. Asks (Obeys next) (λ status. Ends status))

-- a phrase, and the command that it gives
unfoldable pub turn_script : ℕ → Custom → LineScript Status
turn_script n custom = Asks Begins (λ at. then (phrase_script n custom at) meet_script)

-- an accepted line is closed, and its text is the answer
abbrev pub line_script_after : LineScript (List ℕ) → Status → LineScript (List ℕ)
line_script_after next Proceed = next
line_script_after next Submit = Asks (Makes submit_effect) (λ v. Ends v.line.text)

-- turn after turn, until one ends the line
unfoldable pub turns_script : ℕ → Custom → LineScript (List ℕ)
turns_script zero custom = Asks (Keys (Refuses Memory)) (λ none. absurd none)
turns_script (suc n) custom = then (turn_script (suc n) custom)
    (line_script_after (turns_script n custom))

-- drawn once memory has been taken for a line
unfoldable pub line_script : ℕ → Custom → LineScript (List ℕ)
line_script n custom =
    Asks (Makes (then_do memory_effect refresh_effect)) (λ v. turns_script n custom)

-- ---- the meaning of each request

module _ (s : Setting) where
  -- the edit that it makes
  abbrev pub effect_at : LineState → LineAsk → Effect
  effect_at k (Keys Needs) = memory_effect s k.value
  effect_at k (Keys (Shows ask)) = ask_effect ask s k.value
  effect_at k (Meets cmd) = meeting_effect k.modal cmd s k.value
  effect_at k (Obeys cmd) = effect (means_of k.input (ring_after_reset cmd k.ring)) cmd s k.value
  effect_at k (Makes edit) = edit s k.value
  effect_at k ask = no_effect s k.value

  -- its answer, or why it fails: because of the input, or because of a command that ends the line
  abbrev pub answer_at : LineState → (ask : LineAsk) → Result (LineAnswer ask) ReadlineError
  answer_at k Begins = Ok (turn_start k)
  answer_at k (Keys Needs) = Ok tt
  answer_at k (Keys (Shows ask)) = Ok (shown_in (ask_effect ask s k.value).value)
  answer_at k (Keys (Reads item)) = item_at item k.coming
  answer_at k (Keys (Becomes input)) = Ok tt
  answer_at k (Keys (Refuses why)) = Err why
  answer_at k (Meets cmd) = Ok (meeting k.modal cmd s k.value).next
  answer_at k (Obeys cmd) = outcome (means_of k.input (ring_after_reset cmd k.ring)) cmd s k.value
  answer_at k (Makes edit) = Ok (edit s k.value).value

  -- what it leaves
  abbrev pub left_at : LineState → LineAsk → LineState
  left_at k (Keys (Reads item)) = record k { coming = behind item k.coming }
  left_at k (Keys (Becomes input)) = record k { input = input }
  left_at k (Meets cmd) = let m = meeting k.modal cmd s k.value in
      record k { value = m.effect.value; modal = m.modal }
  left_at k (Obeys cmd) = let ring = ring_after_command cmd k.value (ring_after_reset cmd k.ring) in
      record k { value = (effect_at k (Obeys cmd)).value; ring = ring }
  left_at k ask = record k { value = (effect_at k ask).value }

  -- the steps of some requests, in order
  abbrev pub steps_along : LineState → List LineAsk → List EditStep
  steps_along k [] = []
  steps_along k (ask ∷ asks) = (effect_at k ask).steps ++ steps_along (left_at k ask) asks

  abbrev pub line_plan : Plan LineAsk LineAnswer LineState ReadlineError
  line_plan = record { answer = answer_at; left = left_at }

  -- ---- the result of a script without faults

  abbrev pub played_from : {X : Type 0} → LineScript X → LineState
      → Played LineAsk LineState ReadlineError X
  played_from script k = play_of line_plan script k

  -- its effect on the value
  abbrev pub made_from : {X : Type 0} → LineScript X → LineState → Effect
  made_from script k = let p = played_from script k in
      record { value = p.rest.value; steps = steps_along k p.asks }

-- ---- where a fault stops it

-- what a fault leaves of the value, of what stands between commands, and of the ring of a command
abbrev pub CutLineAsk : LineAsk → LineState → ReadlineError → LineState → Type 0
CutLineAsk (Meets cmd) k e l = l ≡ record k { value = l.value; modal = l.modal }
CutLineAsk (Obeys cmd) k e l = (l ≡ record k { value = l.value; ring = l.ring })
    × CutRing cmd k.value (ring_after_reset cmd k.ring) l.ring e
CutLineAsk ask k e l = l ≡ record k { value = l.value }

-- a renderer with the stored layout, and the state that is passed on
pub record LineStage (R : Type 0) : Type 0 where
  pub drawn : Surface R
  pub kept : LineState

abbrev pub line_stage : {R : Type 0} → Surface R → LineState → LineStage R
line_stage drawn kept = record { drawn = drawn; kept = kept }

module _ {R : Type 0} (canvas : Canvas R) (r : Ruler) (s : Setting) where
  -- the edit was made whole, and the answer is its own
  abbrev pub Answered : LineStage R → (ask : LineAsk) → Result (LineAnswer ask) ReadlineError
      → LineStage R → Type 0
  Answered x ask result y = (answer_at s x.kept ask ≡ result) × (y.kept ≡ left_at s x.kept ask)
      × CallsMade canvas (calls_of_steps r x.drawn.layout (effect_at s x.kept ask).steps) x.drawn
      y.drawn

  -- a fault stopped the edit, or the read of a text, after which every read fails
  abbrev pub Stopped : LineStage R → LineAsk → ReadlineError → LineStage R → Type 0
  Stopped x ask e y =
      (CutEditSteps canvas r (effect_at s x.kept ask).steps x.drawn e y.kept.value y.drawn
      × CutLineAsk ask x.kept e y.kept)
      ⊎ ((item : InputItem) × (left : List ℕ) × (ask ≡ Keys (Reads item)) × IsReadFault item e
      × (y ≡ line_stage x.drawn (record x.kept { coming = coming_after_error e left })))

  abbrev pub line_world : World LineAsk LineAnswer (LineStage R) ReadlineError
  line_world = record {
    made = λ x ask a y. Answered x ask (Ok a) y;
    cut = λ x ask e y. Answered x ask (Err e) y ⊎ Stopped x ask e y;
  }
