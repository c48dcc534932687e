-- The value of an input state, the surroundings of a key, the phrase at the front of its input, and
-- the effect of its calls: they make the steps of their definitions, in order, to the answer or to
-- the step at which a fault cuts them.
use Rattle.std.specs.Prelude.{◌≡◌, ℕ, ◌<◌, ◌≤◌, ◌⊎◌, ⊤, Bool, false, IsTrue, List, [], None, Result, Ok, Err, IfErr}
use Rattle.script.specs.Scripts.{World, Goes}
use Rattle.line_config.specs.declared.errors.ReadlineError.{ReadlineError}
use Rattle.line_config.specs.declared.errors.ReadlineError.TheVariants.{Handler, Memory}
use Rattle.line_config.specs.declared.config.Config.{Config}
use Rattle.line_config.specs.declared.settings.EditMode.{EditMode}
use Rattle.line_config.specs.declared.settings.EditMode.TheVariants.{Emacs, Vi}
use Rattle.line_keys.specs.declared.command.Cmd.{Cmd}
use Rattle.line_keys.specs.declared.command.Cmd.TheVariants.{Noop}
use Rattle.line_keys.specs.declared.command.InputMode.TheVariants.{Insert}
use Rattle.line_keys.specs.declared.keymap.InputState.{InputState}
use Rattle.line_keys.specs.declared.keymap.count.SignedCount.{SignedCount}
use Rattle.line_keys.specs.declared.key.KeyEvent.{KeyEvent}
use Rattle.line_keys.specs.CustomBindings.{Custom, BindingAnswers, HandlerFails, Meaning, custom_of}
use Rattle.line_keys.specs.CustomKeys.{Situation, situation}
use Rattle.line_keys.specs.Emacs.{emacs_phrase}
use Rattle.line_keys.specs.KeyFeeds.{Key, KeyFeed, item_at, behind, IsReadFault, IsReaderRefusal, Coming, coming_after_error}
use Rattle.line_keys.specs.PhraseScripts.{Input, KeyAsk, Answer, PhrasePart, steps, with_read, Needs, Shows, Reads, Becomes, Refuses}
use Rattle.line_keys.specs.Refreshing.{Shown, Ask, KnownDisplay, IsDrawFault}
use Rattle.line_keys.specs.Replies.{Reply}
use Rattle.line_keys.specs.Vi.{vi_phrase}

abbrev pub input_of : {D : Type 0} → InputState D → Input
input_of s = record {
  mode = s.mode;
  input_mode = s.input_mode;
  last = s.last_cmd;
  search = s.last_char_search;
  modal_commands = s.modal_commands;
}

-- its bindings; a handler's meaning is a parameter, since it comes with its box
abbrev pub custom_in : {D : Type 0} → InputState D → (D → Meaning) → Custom
custom_in s means = custom_of s.custom_bindings.now means

abbrev pub situation_in : {D : Type 0} → InputState D → (D → Meaning) → Shown → ℕ → Bool → Situation
situation_in s means shown n positive = situation (custom_in s means) (input_of s) shown n positive

-- the empty memory of a new state
abbrev pub new_input : Config → Input
new_input config = record {
  mode = config.edit_mode;
  input_mode = Insert;
  last = Noop;
  search = None;
  modal_commands = config.modal_commands;
}

-- ---- the phrase at the front of the remaining input

abbrev pub phrase_from : EditMode → Custom → Input → Shown → KeyEvent → PhrasePart Cmd
phrase_from Emacs = emacs_phrase
phrase_from Vi = vi_phrase

abbrev pub phrase : Custom → Input → Shown → PhrasePart Cmd
phrase custom input shown = with_read Key (phrase_from input.mode custom input shown)

-- ---- the steps of a call

-- the display, the memory of the state, and the remaining input
pub record Stage (S : Type 0) : Type 0 where
  pub wrt : S
  pub input : Input
  pub coming : Coming

abbrev pub stage : {S : Type 0} → S → Input → Coming → Stage S
stage wrt input coming = record { wrt = wrt; input = input; coming = coming }

-- the effect of each request on them, and its answer
abbrev pub KeyMade : {S : Type 0} → KnownDisplay S → Stage S → (ask : KeyAsk) → Answer ask
    → Stage S → Type 0
KeyMade d s Needs answer t = t ≡ s
KeyMade d s (Shows ask) shown t =
    d.asked s.wrt ask t.wrt × (shown ≡ d.shown t.wrt) × (t ≡ record s { wrt = t.wrt })
KeyMade d s (Reads item) read t =
    (item_at item s.coming ≡ Ok read) × (t ≡ record s { coming = behind item s.coming })
KeyMade d s (Becomes input) answer t = t ≡ record s { input = input }
KeyMade d s (Refuses why) answer t = ⊥

-- memory cuts only a request that takes it. A read is cut if the input has none to give, or if a
-- pasted text finds no memory. A call on the display is cut if it fails
abbrev pub CutKeyAsk : {S : Type 0} → KnownDisplay S → Stage S → KeyAsk → ReadlineError → Stage S
    → Type 0
CutKeyAsk d s Needs e t = (e ≡ Memory) × (t ≡ s)
CutKeyAsk d s (Shows ask) e t =
    IsDrawFault e × d.refused s.wrt ask e t.wrt × (t ≡ record s { wrt = t.wrt })
CutKeyAsk d s (Reads item) e t =
    ((item_at item s.coming ≡ Err e) × (t ≡ record s { coming = behind item s.coming }))
    ⊎ ((left : List ℕ) × IsReadFault item e × (t ≡ record s { coming = coming_after_error e left }))
CutKeyAsk d s (Becomes input) e t = ⊥
CutKeyAsk d s (Refuses why) e t = (e ≡ why) × (t ≡ s)

abbrev pub key_world : {S : Type 0} → KnownDisplay S → World KeyAsk Answer (Stage S) ReadlineError
key_world d = record { made = KeyMade d; cut = CutKeyAsk d }

-- the steps of a part, allowed to read more often than there is something to read
unfoldable pub Happens : {S X : Type 0} → KnownDisplay S → ℕ → PhrasePart X → Stage S
    → Result X ReadlineError → Stage S → Type 0
Happens d bound part s result t = (n : ℕ) → bound < n → Goes (key_world d) (steps part n) s result t

-- why a call fails, in any case: what has happened to the reader, a failed call on the display, or
-- a bound handler that fails. Any call may run out of memory
abbrev pub Because : {S : Type 0} → KnownDisplay S → Custom → S → KeyFeed → ReadlineError → Type 0
Because d custom wrt feed Handler = HandlerFails custom
Because d custom wrt feed Memory = ⊤
Because {S} d custom wrt feed why = (IsReaderRefusal why × feed.reason why)
    ⊎ (IsDrawFault why × (before : S) × (ask : Ask) × d.refused before ask why wrt)

-- the relation of a call that reads, draws and remembers
pub record Follows {S X : Type 0} (d : KnownDisplay S) (custom : Custom) (part : PhrasePart X)
    (wrt : S) (input : Input) (wrt' : S) (input' : Input)
    (feed feed' : KeyFeed) (result : Result X ReadlineError) : Type 0 where
  pub goes : IsTrue feed'.told → Happens d feed.bound part
      (stage wrt input feed.coming) result (stage wrt' input' feed'.coming)
  pub told : IsTrue feed'.told → IsTrue feed.told
  pub keeps : feed'.bound ≤ feed.bound
  -- always Emacs or always Vi
  pub mode : input'.mode ≡ input.mode
  pub reason : IfErr result (λ e. Because d custom wrt' feed' e)

-- the display isn't called
abbrev pub silent : KnownDisplay ⊤
silent = record {
  shown =
      λ s. record { line = []; place = 0; hinted = false; completion = None; last_insert = None };
  asked = λ s a t. ⊥;
  refused = λ s a e t. ⊥;
}

-- ---- the calls of an input state

-- a binding is called, and replies as the situation says
abbrev pub DecidesIn : {D A : Type 0} → (Situation → Reply A) → InputState D → (D → Meaning) → Shown
    → SignedCount → Result A ReadlineError → Type 0
DecidesIn reply s means shown count result =
    BindingAnswers (reply (situation_in s means shown count.n count.positive)) result

-- the part that bindings, memory and line say is followed
abbrev pub FollowsOn : {D S X : Type 0} → (Custom → Input → Shown → PhrasePart X)
    → (state state' : InputState D) → (D → Meaning) → KnownDisplay S → (wrt wrt' : S)
    → KeyFeed → KeyFeed → Result X ReadlineError → Type 0
FollowsOn part state state' means display wrt wrt' feed feed' result =
    let custom = custom_in state means in
    let input = input_of state in
    Follows display custom (part custom input (display.shown wrt))
    wrt input wrt' (input_of state') feed feed' result

-- the part that the situation says is followed; nothing is remembered, and the display isn't called
abbrev pub FollowsIn : {D S X : Type 0} → (Situation → PhrasePart X) → InputState D → (D → Meaning)
    → KnownDisplay S → S → SignedCount → KeyFeed → KeyFeed → Result X ReadlineError → Type 0
FollowsIn part state means display wrt count feed feed' result =
    let s = situation_in state means (display.shown wrt) count.n count.positive in
    Follows display s.custom (part s) wrt s.input wrt s.input feed feed' result
