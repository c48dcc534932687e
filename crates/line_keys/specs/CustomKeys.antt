-- The effect of custom bindings on keys: on one, and on the sequence that it starts.
use Rattle.std.specs.Prelude.{ℕ, Bool, List, [], ◌∷◌, ◌++◌, slice_get, if◌then◌else◌, Option, Some, None, option_map, zero, suc}
use Rattle.line_config.specs.declared.errors.ReadlineError.TheVariants.{Memory}
use Rattle.script.specs.Scripts.{Ends, Asks}
use Rattle.line_keys.specs.declared.command.Cmd.{Cmd}
use Rattle.line_keys.specs.declared.events.Event.{Event}
use Rattle.line_keys.specs.declared.events.Event.TheVariants.{Any, KeySeq}
use Rattle.line_keys.specs.declared.key.KeyEvent.{KeyEvent}
use Rattle.line_keys.specs.declared.keymap.custom.Followed.{Followed}
use Rattle.line_keys.specs.declared.keymap.custom.Followed.TheVariants.{Bound, Unbound}
use Rattle.line_keys.specs.CustomBindings.{Custom, answer_by, Meaning, Showing, handler_view_of}
use Rattle.line_keys.specs.Events.{single}
use Rattle.line_keys.specs.KeyFeeds.{Key}
use Rattle.line_keys.specs.PhraseScripts.{Input, Reads, KeyScript, PhrasePart, Upto, memory_then, error_script, reply_script}
use Rattle.line_keys.specs.Refreshing.{Shown}
use Rattle.line_keys.specs.Replies.{Reply, with_memory}

-- all that decides on a key after its count
pub record Situation : Type 0 where
  pub custom : Custom
  pub input : Input
  pub shown : Shown
  -- the count, and whether it isn't negative
  pub n : ℕ
  pub positive : Bool

abbrev pub situation : Custom → Input → Shown → ℕ → Bool → Situation
situation custom input shown n positive =
    record { custom = custom; input = input; shown = shown; n = n; positive = positive }

abbrev pub handler_arguments_for : Situation → Event → Showing
handler_arguments_for s e =
    let seen = handler_view_of s.input.mode s.input.input_mode s.shown in
    record { event = e; count = s.n; positive = s.positive; seen = seen }

-- the binding of one key, else that of any key, for which the key's event is built in memory
abbrev pub or_any : Custom → Option Meaning → Option Meaning
or_any custom (Some meaning) = Some meaning
or_any custom None = option_map (λ meaning s. with_memory (meaning s)) (custom.answers Any)

abbrev pub custom_answer : Situation → KeyEvent → Reply (Option Cmd)
custom_answer s k =
    answer_by (or_any s.custom (s.custom.answers (single k))) (handler_arguments_for s (single k))

-- the answer of the binding of a sequence of keys; the sequence is built in memory
abbrev pub sequence_answer : Situation → List KeyEvent → Reply (Option Cmd)
sequence_answer s keys =
    with_memory (answer_by (s.custom.answers (KeySeq keys)) (handler_arguments_for s (KeySeq keys)))

-- ---- sequences: as long as a bound one starts with the keys so far, or equals them, one more is
-- read

-- a command ends the sequence; without one the sequence continues
abbrev pub sequence_or : KeyScript Followed → Option Cmd → KeyScript Followed
sequence_or more (Some cmd) = Ends (Bound cmd)
sequence_or more None = more

-- the keys of an unbound sequence are lost, except for the second
abbrev pub in_vain : List KeyEvent → KeyScript Followed
in_vain keys = Ends (Unbound (slice_get keys 1))

abbrev pub sequence_upto : Situation → List KeyEvent → ℕ → KeyScript Followed
sequence_upto s keys zero = if s.custom.begins keys then error_script Memory else in_vain keys
sequence_upto s keys (suc n) =
    if s.custom.begins keys
    then Asks (Reads Key) (λ k. reply_script (sequence_or (sequence_upto s (keys ++ k ∷ []) n))
    (sequence_answer s (keys ++ k ∷ [])))
    else in_vain keys

unfoldable pub rest_of_sequence : Situation → List KeyEvent → PhrasePart Followed
rest_of_sequence s keys = Upto (sequence_upto s keys)

-- the sequence that starts with this key, which is stored in memory if a bound one starts so
unfoldable pub key_sequence : Situation → KeyEvent → PhrasePart Followed
key_sequence s k = memory_then (s.custom.begins (k ∷ [])) (rest_of_sequence s (k ∷ []))
