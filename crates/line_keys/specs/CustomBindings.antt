-- What a handler is shown, and the answers of bindings, depending on it.
use Rattle.std.specs.Prelude.{◌≡◌, ℕ, Bool, List, Option, Some, None, Result, IfOk, IfErr, IsTrue, option_copied, option_map}
use Rattle.std.specs.declared.dyn_box.DynBox.{DynBox}
use Rattle.std.specs.declared.alloc.Global.{Global}
use Rattle.line_config.specs.declared.errors.ReadlineError.{ReadlineError}
use Rattle.line_config.specs.declared.errors.ReadlineError.TheVariants.{Handler, Memory}
use Rattle.line_config.specs.declared.settings.EditMode.{EditMode}
use Rattle.line_keys.specs.declared.command.Cmd.{Cmd}
use Rattle.line_keys.specs.declared.command.InputMode.{InputMode}
use Rattle.line_keys.specs.declared.handler.EventContext.{EventContext}
use Rattle.line_keys.specs.declared.handler.EventHandler.{EventHandler}
use Rattle.line_keys.specs.declared.handler.EventHandler.TheVariants.{Simple, Conditional}
use Rattle.line_keys.specs.declared.key.KeyEvent.{KeyEvent}
use Rattle.line_keys.specs.declared.events.Event.{Event}
use Rattle.line_keys.specs.Events.{find, begins as some_begins}
use Rattle.line_keys.specs.Commands.{holds_text}
use Rattle.line_keys.specs.Refreshing.{Shown}
use Rattle.line_keys.specs.Replies.{Reply, gives_at_once, fails}

-- the editor's state, as a handler sees it
pub record Seen : Type 0 where
  pub mode : EditMode
  pub input_mode : InputMode
  pub hinted : Bool
  pub completion : Option (List ℕ)
  pub line : List ℕ
  pub place : ℕ

-- all that a handler is shown
pub record Showing : Type 0 where
  pub event : Event
  -- the count, and whether it isn't negative
  pub count : ℕ
  pub positive : Bool
  pub seen : Seen

abbrev pub Meaning : Type 0
Meaning = Showing → Reply (Option Cmd)

abbrev pub handler_view_of : EditMode → InputMode → Shown → Seen
handler_view_of mode input s = record {
  mode = mode;
  input_mode = input;
  hinted = s.hinted;
  completion = s.completion;
  line = s.line;
  place = s.place;
}

abbrev pub handler_view_in : EventContext → Seen
handler_view_in c = record {
  mode = c.mode;
  input_mode = c.input_mode;
  hinted = c.has_hint;
  completion = option_copied c.hint_text;
  line = c.line.now;
  place = c.pos;
}

abbrev pub handler_arguments : Event → ℕ → Bool → EventContext → Showing
handler_arguments e n positive c =
    record { event = e; count = n; positive = positive; seen = handler_view_in c }

-- ---- the answers

-- a plain command answers with a copy of itself; a handler's meaning is a parameter, since it comes
-- with its box
abbrev pub handler_meaning : {X : Type 0} {F : X → Type 0} → (DynBox X Global F → Meaning)
    → EventHandler X F → Meaning
handler_meaning of_box (Simple cmd) =
    λ _. record { answer = Some (Some cmd); takes = holds_text cmd }
handler_meaning of_box (Conditional handler) = of_box handler

-- bindings as plain functions
pub record Custom : Type 0 where
  -- the answer of an event's binding, depending on what it is shown
  pub answers : Event → Option Meaning
  -- some bound sequence starts with these keys, or equals them
  pub begins : List KeyEvent → Bool

abbrev pub custom_of : {D : Type 0} → List (Event × D) → (D → Meaning) → Custom
custom_of bindings means = record {
  answers = λ e. option_map means (find e bindings);
  begins = λ keys. some_begins keys bindings;
}

-- a binding, if there is one, gives a command, nothing, or a failure
abbrev pub answer_by : Option Meaning → Showing → Reply (Option Cmd)
answer_by None s = gives_at_once None
answer_by (Some meaning) s = meaning s

-- a bound handler fails when it is shown this
abbrev pub HandlerFails : Custom → Type 0
HandlerFails custom = (e : Event) × (s : Showing) × IsTrue (fails (answer_by (custom.answers e) s))

-- the errors of a binding: Handler if it fails, Memory if it takes memory
abbrev pub IsRefusalOf : {A : Type 0} → Reply A → ReadlineError → Type 0
IsRefusalOf reply Handler = IsTrue (fails reply)
IsRefusalOf reply Memory = IsTrue reply.takes
IsRefusalOf reply why = ⊥

-- a call of a binding: its answer, or an error by its cause
pub record BindingAnswers {A : Type 0} (reply : Reply A)
    (result : Result A ReadlineError) : Type 0 where
  pub answer : IfOk result (λ answer. reply.answer ≡ Some answer)
  pub refusal : IfErr result (IsRefusalOf reply)
