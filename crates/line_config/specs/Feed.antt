-- What is known of a source, and the effect of its calls.
use Rattle.std.specs.Prelude.{◌≡◌, ℕ, ◌+◌, ◌<◌, ◌≤◌, Bool, true, false, is_err, IsErr, IsTrue, List, [], ◌++◌, length, option_to_list, Option, Some, None, Result, Ok, IfOk, IfSome, OnErr, ◌∷◌, Err}
use Rattle.line_config.specs.declared.device.DeviceFailed.{DeviceFailed}
use Rattle.line_config.specs.declared.device.Last.{Last}
use Rattle.line_config.specs.declared.device.Last.TheVariants.{End, Failed}

-- the one value of the error
abbrev pub device_failed : DeviceFailed
device_failed = record {}

-- what a source answers if these bytes remain, and this follows them
abbrev pub front_of : List ℕ → Last → Result (Option ℕ) DeviceFailed
front_of (byte ∷ bytes) last = Ok (Some byte)
front_of [] End = Ok None
front_of [] Failed = Err device_failed

-- the bytes that a source is assumed to give from here on, and what follows them; and whether the
-- bytes given so far agree with the assumption. At most `bound` bytes are still given: the measure
-- of each loop that reads
pub record Feed : Type 0 where
  pub told : Bool
  pub coming : List ℕ
  pub last : Last
  pub bound : ℕ
  pub failed : Bool

-- a source over memory of these bytes, followed by this, before it gave any
abbrev pub fresh_feed : List ℕ → Last → Feed
fresh_feed bytes last =
    record { told = true; coming = bytes; last = last; bound = length bytes; failed = false }

-- a source that always agrees with the assumption, like one over memory
abbrev pub AlwaysTold : {F : Type 0} → (F → Feed) → Type 0
AlwaysTold {F} feed = (s : F) → IsTrue (feed s).told

-- one byte is requested. If the bytes given agree with the assumption, they agreed before, and this
-- one is the front of what remained. A failure gives nothing
pub record GivesByte (old new : Feed) (result : Result (Option ℕ) DeviceFailed) : Type 0 where
  pub told : IsTrue new.told → IsTrue old.told
  pub read : IsTrue new.told → IfOk result (λ b. old.coming ≡ option_to_list b ++ new.coming)
  pub end : IsTrue new.told → result ≡ Ok None → (old.coming ≡ []) × (old.last ≡ End)
  pub fault : IsTrue new.told → OnErr result (new.coming ≡ old.coming)
  pub front : IsTrue new.told → result ≡ front_of old.coming old.last
  pub last : new.last ≡ old.last
  pub failure : new.failed ≡ is_err result
  pub for_good : IsTrue old.failed → IsErr result
  pub falls : IfOk result (λ b. IfSome b (λ _. new.bound < old.bound))
  pub keeps : new.bound ≤ old.bound

-- a source that agrees with the assumption agreed before, and has given these bytes from the front
-- of what remained
abbrev pub GivesFront : Feed → Feed → List ℕ → Type 0
GivesFront old new bytes = IsTrue new.told → IsTrue old.told × (old.coming ≡ bytes ++ new.coming)

-- a source gave bytes that were available
pub record GivesBytes (old new : Feed) (bytes : List ℕ) : Type 0 where
  pub gives : GivesFront old new bytes
  pub last : new.last ≡ old.last
  pub failed : new.failed ≡ old.failed
  pub falls : new.bound + length bytes ≤ old.bound

-- a source reads on if nothing is left of its last read: the bytes that it is assumed to give stay.
-- If the read gave nothing, nothing remains, and it met what is assumed to follow
pub record Fills (old new : Feed) (unread : List ℕ) (met : Option Last) : Type 0 where
  pub told : IsTrue new.told → IsTrue old.told
  pub coming : IsTrue new.told → new.coming ≡ old.coming
  pub spent : unread ≡ [] → IsTrue new.told → (new.coming ≡ []) × (met ≡ Some new.last)
  pub last : new.last ≡ old.last
  pub bound : new.bound ≤ old.bound
