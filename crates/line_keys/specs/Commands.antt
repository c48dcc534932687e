-- What each command means for the kill ring, for Vi's repetition, and for memory; and how it is
-- repeated.
use Rattle.std.specs.Prelude.{◌≡◌, ℕ, ◌==◌, Bool, true, false, List, [], length, min, Option, Some, None, is_some, unwrap_or, if◌then◌else◌, Result, IfOk, IfErr, IsTrue}
use Rattle.line_config.specs.declared.errors.ReadlineError.{ReadlineError}
use Rattle.line_config.specs.declared.errors.ReadlineError.TheVariants.{Memory}
use Rattle.line_buffer.specs.declared.types.Movement.{Movement}
use Rattle.line_buffer.specs.declared.types.Movement.TheVariants.{BackwardChar, BackwardWord, ForwardChar, ForwardWord, LineDown, LineUp, ViCharSearch}
use Rattle.line_keys.specs.declared.command.Cmd.{Cmd}
use Rattle.line_keys.specs.declared.command.Cmd.TheVariants.{ClearScreen, Dedent, Indent, Insert, Kill, Move, Noop, ReplaceChar, Replace, SelfInsert, Suspend, ViYankTo, Yank, YankPop}
use Rattle.line_keys.specs.Refreshing.{Shown}

pub record CmdFlags : Type 0 where
  -- the ring is reset before it: a run of kills ends, and a yank can't be popped any more
  pub resets_ring : Bool
  -- it changes the text, and can be repeated
  pub is_change : Bool
  -- it can be repeated
  pub repeats : Bool

abbrev pub flags_by : Bool → Bool → Bool → CmdFlags
flags_by ring change repeats = record { resets_ring = ring; is_change = change; repeats = repeats }

-- a kill by characters is no part of a run of kills
abbrev pub is_by_char : Movement → Bool
is_by_char (BackwardChar n) = true
is_by_char (ForwardChar n) = true
is_by_char m = false

--                                       resets the ring, is a change, repeats
abbrev pub flags_of : Cmd → CmdFlags
flags_of ClearScreen = flags_by false false false
flags_of (Dedent m) = flags_by true true true
flags_of (Indent m) = flags_by true true true
flags_of (Insert n t) = flags_by true true true
flags_of (Kill m) = flags_by (is_by_char m) true true
flags_of (Move m) = flags_by true false true
flags_of Noop = flags_by false false false
flags_of (ReplaceChar n c) = flags_by true true true
flags_of (Replace m t) = flags_by false true true
flags_of (SelfInsert n c) = flags_by true true true
flags_of Suspend = flags_by false false false
flags_of (ViYankTo m) = flags_by true true true
flags_of (Yank n a) = flags_by false true true
flags_of YankPop = flags_by false false false
flags_of cmd = flags_by true false false

-- it contains a text, so each copy of it takes memory
abbrev pub holds_text : Cmd → Bool
holds_text (Insert n t) = true
holds_text (Replace m t) = is_some t
holds_text cmd = false

-- a call that copies this command: only its text takes memory
pub record Copied (cmd : Cmd) (result : Result Cmd ReadlineError) : Type 0 where
  pub ok : IfOk result (λ c. c ≡ cmd)
  pub err : IfErr result (λ e. (e ≡ Memory) × IsTrue (holds_text cmd))

-- ---- repeated commands, with a new count, if there is one, and the text that was inserted last

abbrev pub movement_with_count : Option ℕ → Movement → Movement
movement_with_count new (BackwardWord n word) = BackwardWord (unwrap_or new n) word
movement_with_count new (ForwardWord n at word) = ForwardWord (unwrap_or new n) at word
movement_with_count new (ViCharSearch n sought) = ViCharSearch (unwrap_or new n) sought
movement_with_count new (BackwardChar n) = BackwardChar (unwrap_or new n)
movement_with_count new (ForwardChar n) = ForwardChar (unwrap_or new n)
movement_with_count new (LineUp n) = LineUp (unwrap_or new n)
movement_with_count new (LineDown n) = LineDown (unwrap_or new n)
movement_with_count new m = m

-- what a text typed over a range covers: if the range has no character yet, as many as the text has
-- bytes
abbrev pub range_anew : Option ℕ → Option (List ℕ) → Movement → Movement
range_anew new last (ForwardChar n) =
    ForwardChar (if n == 0 then min (length (unwrap_or last [])) 65535 else unwrap_or new n)
range_anew new last m = movement_with_count new m

-- a typed character stands for all text inserted with it
abbrev pub command_anew : Option ℕ → Option (List ℕ) → Cmd → Cmd
command_anew new last (Dedent m) = Dedent (movement_with_count new m)
command_anew new last (Indent m) = Indent (movement_with_count new m)
command_anew new last (Insert n text) = Insert (unwrap_or new n) text
command_anew new last (Kill m) = Kill (movement_with_count new m)
command_anew new last (Move m) = Move (movement_with_count new m)
command_anew new last (ReplaceChar n c) = ReplaceChar (unwrap_or new n) c
command_anew new last (Replace m (Some text)) = Replace (movement_with_count new m) (Some text)
command_anew new last (Replace m None) = Replace (range_anew new last m) last
command_anew new (Some text) (SelfInsert n c) = Insert (unwrap_or new n) text
command_anew new None (SelfInsert n c) = SelfInsert (unwrap_or new n) c
command_anew new last (ViYankTo m) = ViYankTo (movement_with_count new m)
command_anew new last (Yank n anchor) = Yank (unwrap_or new n) anchor
command_anew new last c = c

-- a repeated command; if it can't be repeated, the other one
abbrev pub anew : Cmd → Option ℕ → Shown → Cmd → Cmd
anew other new shown cmd =
    if (flags_of cmd).repeats then command_anew new shown.last_insert cmd else other
