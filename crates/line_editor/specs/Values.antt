-- The editor's value, what is passed in for a line, and the effect of an edit.
use Rattle.std.specs.Prelude.{◌⊎◌, ⊤, ℕ, Bool, true, false, List, [], ◌∷◌, ◌++◌, Option, Some, None, is_some, not, length, ◌==◌, if◌then◌else◌, option_map, option_and_then, IsTrue, IsSomeAnd, unwrap_or}
use Rattle.line_buffer.specs.Cells.{origin}
use Rattle.line_buffer.specs.Line.{Line}
use Rattle.line_buffer.specs.declared.layout.GraphemeClusterMode.{GraphemeClusterMode}
use Rattle.line_buffer.specs.declared.layout.TabStops.{TabStops}
use Rattle.line_config.specs.declared.config.Config.{Config}
use Rattle.line_edits.specs.Edits.{by}
use Rattle.line_edits.specs.WriteSteps.{WriteSteps, with_answer, Written, group_opened, group_closed}
use Rattle.line_help.specs.Completion.{Completion}
use Rattle.line_help.specs.Hints.{Hinted, ByLine}
use Rattle.line_help.specs.declared.helpers.style.Mark.{Mark}
use Rattle.line_help.specs.declared.helpers.style.Part.{Part}
use Rattle.line_help.specs.declared.helpers.style.Part.TheVariants.{Line as OfLine, Hint as OfHint, Message}
use Rattle.line_help.specs.declared.helpers.style.Span.{Span}
use Rattle.line_keys.specs.Replies.{Reply, fails}
use Rattle.line_help.specs.declared.helpers.validate.ValidationResult.{ValidationResult}
use Rattle.line_keys.specs.declared.command.CmdKind.{CmdKind}
use Rattle.line_record.specs.Held.{HeldItem}
use Rattle.line_editor.specs.RenderCalls.{Marks, Ruler}
use Rattle.line_editor.specs.Redraws.{Redraw}

-- the line saved on leaving the history's end
pub record Saved : Type 0 where
  pub text : List ℕ
  pub place : ℕ

pub record Value : Type 0 where
  pub line : Line
  pub held : List HeldItem
  pub saved : Saved
  -- the place in the history
  pub history : ℕ
  pub hint : Option Hinted
  -- a character was highlighted when the helper was last called for it
  pub marked : Bool

-- an empty line that may grow without limit, at a place of the history
abbrev pub empty_at : ℕ → Value
empty_at history = record {
  line = record { text = []; place = 0; growth = true; limit = 4096 };
  held = [];
  saved = record { text = []; place = 0 };
  history = history;
  hint = None;
  marked = false;
}

-- the replies of a helper's hooks
pub record Hooks : Type 0 where
  pub hints : ByLine (Reply (Option Hinted))
  pub judge : List ℕ → Reply ValidationResult
  pub completes : ByLine (Reply Completion)
  pub updates : Line → ℕ → List ℕ → Reply ⊤

-- the replies of a helper's hooks, and its marks, if there is one
pub record Helping : Type 0 where
  pub hooks : Option Hooks
  pub marks : Option Marks

-- a helper by its replies
module _ {H : Type 0} (hint_of : H → ByLine (Reply (Option Hinted)))
    (verdict_of : H → List ℕ → Reply ValidationResult)
    (completion_of : H → ByLine (Reply Completion))
    (update_of : H → Line → ℕ → List ℕ → Reply ⊤) where
  abbrev pub hooks_by : H → Hooks
  hooks_by helper = record {
    hints = hint_of helper;
    judge = verdict_of helper;
    completes = completion_of helper;
    updates = update_of helper;
  }

  abbrev pub helper_from_hooks : (H → Marks) → Option H → Helping
  helper_from_hooks marks helper =
      record { hooks = option_map hooks_by helper; marks = option_map marks helper }

pub record Setting : Type 0 where
  pub prompt : List ℕ
  -- the column at which the prompt ends, how clusters are counted, and where tabs end: what motions
  -- up and down use of the display
  pub column : ℕ
  pub mode : GraphemeClusterMode
  pub tabs : Option TabStops
  -- of the helper, if there is one; what it highlights only if the display has colours
  pub hooks : Option Hooks
  pub marks : Option Marks
  -- the history, oldest first
  pub entries : List (List ℕ)
  pub config : Config

-- what is passed in for a line
abbrev pub setting_by : Ruler → List ℕ → Helping → List (List ℕ) → Config → Setting
setting_by r prompt helping entries config = record {
  prompt = prompt;
  column = (r.measure prompt origin).col;
  mode = r.mode;
  tabs = r.tabs;
  hooks = helping.hooks;
  marks = if r.colours then helping.marks else None;
  entries = entries;
  config = config;
}

-- a line begins at the history's end
abbrev pub first_value : Setting → Value
first_value s = empty_at (length s.entries)

-- the steps of an edit, in order; each names the value that is current until it is made
pub data EditStep : Type 0 where
  -- this is drawn, highlighted by these marks, if there are any
  Draws : (value : Value) (marks : Option Marks) (redraw : Redraw) → EditStep
  -- the helper is called, and answers or fails; it may take memory
  Helped : (value : Value) (fails takes : Bool) → EditStep
  -- this edit of line and record is made, which takes memory
  Edits : (value : Value) (edit : WriteSteps ⊤) → EditStep
  -- as many of the last recorded items are undone
  TakesBack : (value : Value) (count : ℕ) → EditStep
  -- memory is taken for something else
  Takes : (value : Value) → EditStep

pub record Effect : Type 0 where
  pub value : Value
  pub steps : List EditStep

abbrev pub Transition : Type 0
Transition = Setting → Value → Effect

-- what a drawing takes of a highlighter's styles: those of the line only if it is marked, and those
-- of a message in place of a hint's if a message is drawn
abbrev pub seen_paints : Bool → Bool → (Part → List ℕ → Mark → List Span) → Part → List ℕ → Mark
    → List Span
seen_paints marked told paints (OfLine pos) text from =
    if marked then paints (OfLine pos) text from else []
seen_paints marked told paints OfHint text from =
    paints (if told then Message else OfHint) text from
seen_paints marked told paints part text from = paints part text from

abbrev pub marks_seen : Bool → Bool → Option Marks → Option Marks
marks_seen marked told marks =
    option_map (λ (m : Marks). record m { paints = seen_paints marked told m.paints }) marks

-- what the drawing of a value takes of them: a text after a line without a hint is a message
abbrev pub shown_marks : Value → Option Marks → Option Marks
shown_marks v marks = marks_seen v.marked (not (is_some v.hint)) marks

-- ---- one edit, then another

abbrev pub no_effect : Transition
no_effect s v = record { value = v; steps = [] }

abbrev pub then_do : Transition → Transition → Transition
then_do first second s v = record {
  value = (second s (first s v).value).value;
  steps = (first s v).steps ++ (second s (first s v).value).steps;
}

abbrev pub draw_effect : Redraw → Transition
draw_effect x s v = record { value = v; steps = Draws v s.marks x ∷ [] }

-- memory is taken for something that isn't part of the value
abbrev pub memory_effect : Transition
memory_effect s v = record { value = v; steps = Takes v ∷ [] }

-- ---- the line with its record

abbrev pub line_and_record_of : Value → Written
line_and_record_of v = record { line = v.line; held = v.held }

abbrev pub value_with_edit : (Written → Written) → Value → Value
value_with_edit edit v = record v
    { line = (edit (line_and_record_of v)).line; held = (edit (line_and_record_of v)).held }

-- the steps of an edit; nothing is drawn
abbrev pub edit_effect : {A : Type 0} → (Line → WriteSteps A) → Transition
edit_effect edit s v = record {
  value = value_with_edit (by edit) v;
  steps = Edits v (with_answer tt (edit v.line)) ∷ [];
}

-- a group opened, which takes memory, and all groups closed, which can't fail
abbrev pub open_group : Transition
open_group s v = record { value = value_with_edit group_opened v; steps = Takes v ∷ [] }

abbrev pub close_groups : Transition
close_groups s v = record { value = value_with_edit group_closed v; steps = [] }

abbrev pub at_line : Line → Value → Value
at_line line v = record v { line = line }

-- ---- the helper's hooks

-- its replies for a hint, for the line's text, for candidates, and for an inserted candidate
abbrev pub hint_reply : Setting → Value → Option (Reply (Option Hinted))
hint_reply s v = option_map (λ h. h.hints v.line.text v.line.place s.entries v.history) s.hooks

abbrev pub verdict_reply : Setting → Value → Option (Reply ValidationResult)
verdict_reply s v = option_map (λ h. h.judge v.line.text) s.hooks

abbrev pub completion_reply : Setting → Value → Option (Reply Completion)
completion_reply s v =
    option_map (λ h. h.completes v.line.text v.line.place s.entries v.history) s.hooks

abbrev pub update_reply : ℕ → List ℕ → Setting → Value → Option (Reply ⊤)
update_reply start text s v = option_map (λ h. h.updates v.line start text) s.hooks

-- a hook is called, if there is a helper
abbrev pub help_steps : {A : Type 0} → Value → Option (Reply A) → List EditStep
help_steps v None = []
help_steps v (Some reply) = Helped v (fails reply) reply.takes ∷ []

-- a hook fails at some input
abbrev pub IsFailing : Option Hooks → Type 0
IsFailing hooks = (line : Line) × (entries : List (List ℕ)) × (history start : ℕ) × (text : List ℕ)
    × IsSomeAnd hooks (λ h. IsTrue (fails (h.hints line.text line.place entries history))
    ⊎ (IsTrue (fails (h.judge line.text))
    ⊎ (IsTrue (fails (h.completes line.text line.place entries history))
    ⊎ IsTrue (fails (h.updates line start text)))))

-- ---- the hint

-- a new hint; an empty text is none
abbrev pub with_hint : Setting → Value → Value
with_hint s v = let hint = option_and_then (λ r. unwrap_or r.answer None) (hint_reply s v) in
    record v { hint = option_and_then (λ h. if length h.display == 0 then None else Some h) hint }

abbrev pub without_hint : Value → Value
without_hint v = record v { hint = None }

abbrev pub shown_hint : Value → Option (List ℕ)
shown_hint v = option_map (λ h. h.display) v.hint

-- ---- highlighted characters

abbrev pub is_marked_by : Option Marks → List ℕ → ℕ → CmdKind → Bool
is_marked_by None text place kind = false
is_marked_by (Some marks) text place kind = marks.marked text place kind

-- new marks
abbrev pub with_mark : CmdKind → Setting → Value → Value
with_mark kind s v = record v { marked = is_marked_by s.marks v.line.text v.line.place kind }
