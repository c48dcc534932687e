-- The calls of a reader or a writer with their answers, the newest first.
use Rattle.std.specs.Prelude.{◌≡◌, ⊤, ℕ, ◌+◌, ◌-◌, ◌^◌, suc, zero, List, [], ◌∷◌, ◌++◌, take, Result, Ok, Err, MatchResult}
use Rattle.std.specs.IoError.{error_kind}
use Rattle.std.specs.declared.io.Error.{Error}
use Rattle.std.specs.declared.io.ErrorKind.{ErrorKind}
use Rattle.std.specs.declared.io.ErrorKind.TheVariants.{Interrupted}

-- a read or a write, with the bytes that it gave or took, or its error; and a flush
pub data DeviceCall : Type 0 where
  Moves : (answer : Result (List ℕ) ErrorKind) → DeviceCall
  Flushes : (answer : Result ⊤ ErrorKind) → DeviceCall

-- a read or a write over these bytes, with this answer
abbrev pub moves : Result ℕ Error → List ℕ → DeviceCall
moves (Ok n) bytes = Moves (Ok (take n bytes))
moves (Err e) bytes = Moves (Err (error_kind e))

-- the bytes that it moves
abbrev pub bytes_moved : {E : Type 0} → Result ℕ E → List ℕ → List ℕ
bytes_moved (Ok n) bytes = take n bytes
bytes_moved (Err e) bytes = []

abbrev pub flushes : Result ⊤ Error → DeviceCall
flushes (Ok x) = Flushes (Ok tt)
flushes (Err e) = Flushes (Err (error_kind e))

-- ---- repeated calls

-- a call that a signal interrupted
abbrev pub move_interrupted : DeviceCall
move_interrupted = Moves (Err Interrupted)

abbrev pub flush_interrupted : DeviceCall
flush_interrupted = Flushes (Err Interrupted)

-- so many calls like this one, after those before
unfoldable pub again : ℕ → DeviceCall → List DeviceCall → List DeviceCall
again zero call before = before
again (suc n) call before = call ∷ again n call before

-- a call was made, and repeated while a signal interrupted it. So only the last one isn't
-- interrupted, or 2^64 - 1 calls were. This holds of the last one
pub record Tries (interrupted : DeviceCall) (old new : List DeviceCall)
    (IsLast : DeviceCall → Type 0) : Type 0 where
  pub tries : ℕ
  pub call : DeviceCall
  pub noted : new ≡ call ∷ again tries interrupted old
  pub last : IsLast call
  pub given_up : call ≡ interrupted → tries + 1 ≡ 2 ^ 64 - 1

-- ---- what a call shows of its device

-- calls were made after those before
pub record MoreCalls (old new : List DeviceCall) : Type 0 where
  pub others : List DeviceCall
  pub noted : new ≡ others ++ old

-- calls were made, and of the last of them this holds
pub record EndsWithCall (IsLast : DeviceCall → Type 0) (old new : List DeviceCall) : Type 0 where
  pub call : DeviceCall
  pub others : List DeviceCall
  pub noted : new ≡ call ∷ (others ++ old)
  pub last : IsLast call

-- a read that failed
abbrev pub IsReadFailure : DeviceCall → Type 0
IsReadFailure (Moves (Err kind)) = ⊤
IsReadFailure call = ⊥

-- a write that failed or took nothing, or a flush that failed
abbrev pub IsWriteFailure : DeviceCall → Type 0
IsWriteFailure (Moves (Ok (byte ∷ bytes))) = ⊥
IsWriteFailure (Flushes (Ok x)) = ⊥
IsWriteFailure call = ⊤

abbrev pub IsFlush : DeviceCall → Type 0
IsFlush call = call ≡ Flushes (Ok tt)

-- the last call of a read, a write or a flush with this answer: this one, or one that failed so
abbrev pub Answers : {A E : Type 0} → DeviceCall → (DeviceCall → Type 0) → Result A E
    → DeviceCall → Type 0
Answers done IsFailure result call = MatchResult result (λ _. call ≡ done) (λ _. IsFailure call)
