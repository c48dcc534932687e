-- Phrases: what one command reads, draws and remembers, step by step, its answer, and the prompt
-- that is shown then.
use Rattle.std.specs.Prelude.{ℕ, zero, suc, ⊤, Bool, true, false, Option, Some, None, if◌then◌else◌, IsTrue}
use Rattle.std.specs.Option.{option_map_or}
use Rattle.script.specs.Scripts.{Script, Ends, Asks}
use Rattle.line_buffer.specs.declared.types.CharSearch.{CharSearch}
use Rattle.line_config.specs.declared.settings.EditMode.{EditMode}
use Rattle.line_config.specs.declared.settings.EditMode.TheVariants.{Emacs, Vi}
use Rattle.line_config.specs.declared.errors.ReadlineError.{ReadlineError}
use Rattle.line_config.specs.declared.errors.ReadlineError.TheVariants.{Handler, Memory}
use Rattle.line_keys.specs.declared.command.Cmd.{Cmd}
use Rattle.line_keys.specs.declared.command.InputMode.{InputMode}
use Rattle.line_keys.specs.declared.command.InputMode.TheVariants.{Command}
use Rattle.line_keys.specs.declared.key.KeyEvent.{KeyEvent}
use Rattle.line_keys.specs.Commands.{anew, holds_text}
use Rattle.line_keys.specs.KeyFeeds.{InputItem, InputOf, Key}
use Rattle.line_keys.specs.Refreshing.{Shown, Ask, Line, Message, Prompted}
use Rattle.line_keys.specs.Replies.{Reply}

-- what is remembered from one command to the next
pub record Input : Type 0 where
  pub mode : EditMode
  pub input_mode : InputMode
  -- Vi's last change
  pub last : Cmd
  -- Vi's last search for a character, if there was one
  pub search : Option CharSearch
  -- whether the commands act that go on over several keys
  pub modal_commands : Bool

abbrev pub is_emacs : EditMode → Bool
is_emacs Emacs = true
is_emacs Vi = false

abbrev pub takes_commands : InputMode → Bool
takes_commands Command = true
takes_commands mode = false

-- Vi is in command mode
abbrev pub is_vi_command : EditMode → InputMode → Bool
is_vi_command Emacs input_mode = false
is_vi_command Vi input_mode = takes_commands input_mode

-- ---- steps, in order, and the answer after them

pub data KeyAsk : Type 0 where
  -- memory is taken
  Needs : KeyAsk
  -- a call on the display; what follows may depend on what is shown then
  Shows : (ask : Ask) → KeyAsk
  -- a key or a paste is read
  Reads : (item : InputItem) → KeyAsk
  -- this is remembered from now on
  Becomes : (input : Input) → KeyAsk
  -- nothing answers it: it fails with this error
  Refuses : (why : ReadlineError) → KeyAsk

abbrev pub Answer : KeyAsk → Type 0
Answer Needs = ⊤
Answer (Shows ask) = Shown
Answer (Reads item) = InputOf item
Answer (Becomes input) = ⊤
Answer (Refuses why) = ⊥

abbrev pub KeyScript : Type 0 → Type 0
KeyScript X = Script KeyAsk Answer X

abbrev pub error_script : {X : Type 0} → ReadlineError → KeyScript X
error_script why = Asks (Refuses why) (λ none. absurd none)

-- the steps, by the most reads that they may take
pub data PhrasePart (X : Type 0) : Type 0 where
  Upto : (steps : ℕ → KeyScript X) → PhrasePart X

abbrev pub steps : {X : Type 0} → PhrasePart X → ℕ → KeyScript X
steps (Upto made) = made

unfoldable pub answer_part : {X : Type 0} → X → PhrasePart X
answer_part x = Upto (λ n. Ends x)

-- memory is taken only if this holds
abbrev pub needs_if : {X : Type 0} → Bool → KeyScript X → KeyScript X
needs_if takes later = if takes then Asks Needs (λ none. later) else later

unfoldable pub memory_then : {X : Type 0} → Bool → PhrasePart X → PhrasePart X
memory_then takes next = Upto (λ n. needs_if takes (steps next n))

-- a repeated command, with a copy of its text; if it can't be repeated, the other one
abbrev pub anew_or : Cmd → Option ℕ → Shown → Cmd → PhrasePart Cmd
anew_or other new shown cmd =
    let made = anew other new shown cmd in memory_then (holds_text made) (answer_part made)

abbrev pub read_upto : {Y : Type 0} → (item : InputItem) → (InputOf item → PhrasePart Y) → ℕ
    → KeyScript Y
read_upto item next zero = error_script Memory
read_upto item next (suc n) = Asks (Reads item) (λ x. steps (next x) n)

unfoldable pub with_read : {Y : Type 0} → (item : InputItem) → (InputOf item → PhrasePart Y)
    → PhrasePart Y
with_read item next = Upto (read_upto item next)

-- one key is read, and this is its result
unfoldable pub from_key : {X : Type 0} → (KeyEvent → X) → PhrasePart X
from_key f = with_read Key (λ k. answer_part (f k))

unfoldable pub show_then : {X : Type 0} → Ask → (Shown → PhrasePart X) → PhrasePart X
show_then ask next = Upto (λ n. Asks (Shows ask) (λ shown. steps (next shown) n))

unfoldable pub keep_then : {X : Type 0} → Input → PhrasePart X → PhrasePart X
keep_then input next = Upto (λ n. Asks (Becomes input) (λ none. steps next n))

-- a binding's answer leads on; if the binding fails, so does the part
abbrev pub reply_script : {X Y : Type 0} → (X → KeyScript Y) → Reply X → KeyScript Y
reply_script next reply =
    needs_if reply.takes (option_map_or next reply.answer (error_script Handler))

unfoldable pub reply_then : {X Y : Type 0} → (X → PhrasePart Y) → Reply X → PhrasePart Y
reply_then next reply = Upto (λ n. reply_script (λ x. steps (next x) n) reply)

abbrev pub input_after_ask : KeyAsk → Input → Input
input_after_ask (Becomes kept) input = kept
input_after_ask ask input = input

abbrev pub shown_after_ask : (ask : KeyAsk) → Answer ask → Shown → Shown
shown_after_ask (Shows ask) seen shown = seen
shown_after_ask ask answer shown = shown

abbrev pub after : {X Y : Type 0} → (X → Input → Shown → KeyScript Y) → Input → Shown → KeyScript X
    → KeyScript Y
after next input shown (Ends x) = next x input shown
after next input shown (Asks ask later) =
    Asks ask (λ x. after next (input_after_ask ask input) (shown_after_ask ask x shown) (later x))

-- a part, then what its answer leads to, which sees the line and the memory as the steps left them
unfoldable pub and_then : {X Y : Type 0} → Input → Shown → PhrasePart X →
    (X → Input → Shown → PhrasePart Y) → PhrasePart Y
and_then input shown p next =
    Upto (λ n. after (λ x input shown. steps (next x input shown) n) input shown (steps p n))

-- ---- which prompt is shown: the session's own, or that of a count

-- the session's own prompt is shown after the request, depending on whether it was before
abbrev pub own_by : Bool → KeyAsk → Bool
own_by own (Shows Line) = true
own_by own (Shows (Message text kind)) = true
own_by own (Shows (Prompted prompt)) = false
own_by own ask = own

-- if the steps lead to an answer, the session's own prompt is shown
abbrev pub Settles : {X : Type 0} → Bool → KeyScript X → Type 0
Settles own (Ends x) = IsTrue own
Settles own (Asks ask later) = (x : Answer ask) → Settles (own_by own ask) (later x)
