-- The reply of a hook, and the result of a call of it.
use Rattle.std.specs.Prelude.{◌≡◌, Bool, true, false, if◌then◌else◌, Option, Some, None, is_none, Result, IfOk, IfErr, IsTrue}
use Rattle.line_config.specs.declared.errors.HookFault.{HookFault}
use Rattle.line_config.specs.declared.errors.HookFault.TheVariants.{Failed, Memory}

-- the reply of a hook to what it is shown: its answer, none if it fails; and whether its call takes
-- memory, which may run out
pub record Reply (A : Type 0) : Type 0 where
  pub answer : Option A
  pub takes : Bool

-- an answer by a call that takes memory, and by one that takes none
abbrev pub gives : {A : Type 0} → A → Reply A
gives answer = record { answer = Some answer; takes = true }

abbrev pub gives_at_once : {A : Type 0} → A → Reply A
gives_at_once answer = record { answer = Some answer; takes = false }

-- an answer, unless the hook fails
abbrev pub gives_unless : {A : Type 0} → Bool → A → Reply A
gives_unless failing answer =
    record { answer = if failing then None else Some answer; takes = true }

-- a reply whose call takes memory
abbrev pub with_memory : {A : Type 0} → Reply A → Reply A
with_memory reply = record reply { takes = true }

abbrev pub fails : {A : Type 0} → Reply A → Bool
fails reply = is_none reply.answer

-- the faults of a call: Failed if the hook fails, Memory if it takes memory
abbrev pub IsFaultOf : {A : Type 0} → Reply A → HookFault → Type 0
IsFaultOf reply Failed = IsTrue (fails reply)
IsFaultOf reply Memory = IsTrue reply.takes

-- an answer that stands for itself
abbrev pub itself : {A : Type 0} → A → A
itself answer = answer

-- a call returns the hook's answer, or one of its faults
pub record Replies {A B : Type 0} (reply : Reply A) (value : B → A) (result : Result B HookFault)
    : Type 0 where
  pub answer : IfOk result (λ answer. reply.answer ≡ Some (value answer))
  pub fault : IfErr result (IsFaultOf reply)
