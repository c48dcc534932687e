-- The drawings of commands lead from the sight of the value before to that of the value after.
use Rattle.std.specs.Prelude.{◌≡◌, ⊤, ℕ, true, List, [], ◌∷◌, Option, Result, Ok, OnOk, IsUtf8, IsCharBoundary}
use Rattle.line_buffer.specs.declared.layout.Layout.{Layout}
use Rattle.line_config.specs.declared.config.Config.{Config}
use Rattle.line_config.specs.declared.errors.ReadlineError.{ReadlineError}
use Rattle.line_keys.specs.Refreshing.{Ask}
use Rattle.line_keys.specs.Refreshing.Ask.{Line, Message, Prompted}
use Rattle.line_keys.specs.declared.command.Cmd.{Cmd}
use Rattle.line_keys.specs.declared.command.Cmd.TheVariants.{Interrupt}
use Rattle.line_record.specs.Held.{HeldItem}
use Rattle.line_record.specs.Held.HeldItem.{Opened, Stepped}
use Rattle.line_keys.specs.CustomBindings.{Custom}
use Rattle.line_keys.specs.KeyFeeds.{Coming}
use Rattle.line_keys.specs.PhraseScripts.{Input}
use Rattle.line_record.specs.Ring.{Ring}
use Rattle.line_editor.specs.Accepting.{submit_effect}
use Rattle.line_editor.specs.Drawing.{ask_effect}
use Rattle.line_editor.specs.Commands.{Means, effect}
use Rattle.line_editor.specs.LineScripts.{Begins, LineAsk, LineState, effect_at, line_state, left_at, line_script, made_from, played_from, turn_script}
use Rattle.line_editor.specs.ModalCommands.{modal_seen, sight_behind}
use Rattle.line_editor.specs.Modal.{Modal, modal_first}
use Rattle.line_editor.specs.Sights.{Sight, no_sight, sight_of, ended_sight, info_after, sight_all, FitsAll, Turns}
use Rattle.line_editor.specs.RenderCalls.{Ruler}
use Rattle.line_editor.specs.Redraws.{nothing_asked}
use Rattle.line_editor.specs.EditSteps.{calls_of_steps}
use Rattle.line_editor.specs.Values.{Value, Setting, Effect, first_value, shown_hint}
use Rattle.line_editor.specs.declared.commands.Status.{Status}

-- its text is UTF-8, its place a character boundary
pub record Sound (v : Value) : Type 0 where
  pub utf8 : IsUtf8 v.line.text
  pub boundary : IsCharBoundary v.line.text v.line.place

-- a record that gives a first text when all is undone, each mark on the text at which it was set
abbrev pub Reaches : List ℕ → List HeldItem → List ℕ → Type 0
Reaches first [] text = text ≡ first
Reaches first (Opened earlier ∷ held) text = (text ≡ earlier) × Reaches first held earlier
Reaches first (Stepped earlier place newest joinable ∷ held) text = Reaches first held earlier

-- with any information
abbrev pub Leads : Setting → Value → Effect → Type 0
Leads s v e = (info : Option (List ℕ)) → Turns s.prompt (sight_of s v info) e.steps
    (sight_of s e.value (info_after e.steps info))

-- then the display's cursor is at the drawing's end
abbrev pub LeadsToEnd : Setting → Value → Effect → Type 0
LeadsToEnd s v e = (info : Option (List ℕ)) → Turns s.prompt (sight_of s v info) e.steps
    (ended_sight (sight_of s e.value (info_after e.steps info)))

abbrev pub CommandLeads : Cmd → Setting → Value → Effect → Type 0
CommandLeads Interrupt s v e = LeadsToEnd s v e
CommandLeads cmd s v e = Leads s v e

abbrev pub CommandsLead : Type 0
CommandsLead =
    (m : Means) (cmd : Cmd) (s : Setting) (v : Value) → CommandLeads cmd s v (effect m cmd s v)

-- an accepted line leads to its end
abbrev pub SubmittingLeads : Type 0
SubmittingLeads = (s : Setting) (v : Value) → LeadsToEnd s v (submit_effect s v)

-- whatever was shown, even a count's prompt; a mark draws nothing, and calls no helper
abbrev pub AskLeads : Ask → Sight → Setting → Effect → Type 0
AskLeads Line x s e = Turns s.prompt x e.steps (sight_of s e.value (shown_hint e.value))
AskLeads (Message text kind) x s e = Turns s.prompt x e.steps (sight_of s e.value text)
AskLeads (Prompted prompt) x s e =
    Turns s.prompt x e.steps (sight_behind prompt s e.value (shown_hint e.value))
AskLeads mark x s e = (r : Ruler) (l : Layout) → calls_of_steps r l e.steps ≡ nothing_asked l

abbrev pub AsksLead : Type 0
AsksLead = (ask : Ask) (s : Setting) (v : Value) (x : Sight) → AskLeads ask x s (ask_effect ask s v)

-- a turn's steps are allowed if its value is shown; a turn that doesn't end the session leads to
-- its value after it. What stands between commands shows the value behind its own prompt
pub record TurnLeads (s : Setting) (x : Sight) (info : Option (List ℕ))
    (outcome : Result Status ReadlineError) (modal : Modal) (made : Effect) : Type 0 where
  pub fits : FitsAll s.prompt x made.steps
  pub leads : (status : Status) → outcome ≡ Ok status
      → Turns s.prompt x made.steps
      (modal_seen modal s made.value (info_after made.steps info))

abbrev pub EachTurnLeads : Type 0
EachTurnLeads = (n : ℕ) (s : Setting) (custom : Custom) (k : LineState) (info : Option (List ℕ))
    → let turn = turn_script n custom in let p = played_from s turn k in
    TurnLeads s (modal_seen k.modal s k.value info) info p.answer p.rest.modal (made_from s turn k)

module _ (s : Setting) where
  -- at the begin of a turn its value is shown, with the current information
  abbrev pub BeginShows : LineAsk → LineState → Sight → Type 0
  BeginShows Begins k x = x ≡ modal_seen k.modal s k.value x.info
  BeginShows ask k x = ⊤

  -- the steps of each request fit what those before it lead to; an accepted line leaves the cursor
  -- at the drawing's end
  abbrev pub LeadsAlong : Result (List ℕ) ReadlineError → LineState → Sight → List LineAsk → Type 0
  LeadsAlong o k x [] = OnOk o (x.ended ≡ true)
  LeadsAlong o k x (ask ∷ asks) =
      let steps = (effect_at s k ask).steps in let y = sight_all x steps in
      FitsAll s.prompt x steps × BeginShows ask k y × LeadsAlong o (left_at s k ask) y asks

-- whatever the input is, the requests of a line lead, in order, from a display without the line
abbrev pub LinesLead : Type 0
LinesLead = (n : ℕ) (s : Setting) (custom : Custom) (input : Input) (r : Ring)
    (config : Config) (query : List ℕ) (coming : Coming)
    → let k = line_state (first_value s) input r (modal_first config query) coming in
    let line = played_from s (line_script n custom) k in
    LeadsAlong s line.answer k no_sight line.asks
