-- The effect of calls on a sink.
use Rattle.std.specs.Prelude.{◌≡◌, ℕ, Bool, List, ◌++◌, IsTrue, Result, OnOk, OnErr}

-- a sink has taken these bytes after those that it held
abbrev pub TakesBytes : {D : Type 0} → (D → List ℕ) → D → D → List ℕ → Type 0
TakesBytes held old new bytes = held new ≡ held old ++ bytes

-- what is held now is what was held before, and then a prefix of these bytes
pub record AppendsSome (before bytes after : List ℕ) : Type 0 where
  pub taken : List ℕ
  pub rest : List ℕ
  pub split : bytes ≡ taken ++ rest
  pub held : after ≡ before ++ taken

-- a sink has taken a prefix of these bytes
abbrev pub TakesSome : {D : Type 0} → (D → List ℕ) → D → D → List ℕ → Type 0
TakesSome held old new bytes = AppendsSome (held old) bytes (held new)

-- a call that succeeds has sent these bytes, and the sink works as before. A call that returns an
-- error does so because the sink has failed, and has sent a prefix of them
pub record Sends {D A E : Type 0} (held : D → List ℕ) (failed : D → Bool) (bytes : List ℕ)
    (old new : D) (result : Result A E) : Type 0 where
  pub sent : OnOk result (TakesBytes held old new bytes)
  pub works : OnOk result (failed new ≡ failed old)
  pub err : OnErr result (IsTrue (failed new))
  pub begins : OnErr result (TakesSome held old new bytes)
