-- A value that is taken out only while it is used by value.
use Rattle.std.specs.Prelude.{Option, Some, None, IsSome}
use Rattle.std.proofs.Common.{true≢false, sym}

abbrev pub value_in : {A : Type 0} → (o : Option A) → IsSome o → A
value_in (Some x) here = x
value_in None here = absurd (true≢false (sym here))
