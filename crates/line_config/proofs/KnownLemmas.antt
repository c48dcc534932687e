-- std's words on known bytes, for calls one after the other.
use Rattle.std.proofs.Common.{ℕ, List, [], Option, Some, None, refl, sym, ◌∙◌}
use Rattle.std.specs.Io.KnownBytes.{Keeps, Consumes}

pub keeps_same : (a : Option (List ℕ)) → Keeps a a
keeps_same None = tt
keeps_same (Some xs) = refl

pub keeps_then : (a b c : Option (List ℕ)) → Keeps a b → Keeps b c → Keeps a c
keeps_then None b c first second = tt
keeps_then (Some xs) None c first second = absurd first
keeps_then (Some xs) (Some ys) None first second = absurd second
keeps_then (Some xs) (Some ys) (Some zs) first second = second ∙ first

pub keeps_consumes : (a b c : Option (List ℕ)) (bs : List ℕ) → Keeps a b → Consumes b c bs → Consumes a c bs
keeps_consumes None b c bs kept taken = tt
keeps_consumes (Some xs) None c bs kept taken = absurd kept
keeps_consumes (Some xs) (Some ys) None bs kept taken = absurd taken
keeps_consumes (Some xs) (Some ys) (Some zs) bs kept taken = sym kept ∙ taken

pub consumes_none : (a b : Option (List ℕ)) → Keeps a b → Consumes a b []
consumes_none None b kept = tt
consumes_none (Some xs) None kept = absurd kept
consumes_none (Some xs) (Some ys) kept = sym kept

pub ruleset on_known = (keeps_same, keeps_then, keeps_consumes, consumes_none)
