-- What is assumed of a reader, compared with what its reads gave.
use Rattle.std.specs.Prelude.{◌≡◌, refl, IsTrue, ℕ, ◌==◌, Bool, true, false, not, if◌then◌else◌, List, [], ◌∷◌, ◌++◌, Option, Some, None, unwrap_or}
use Rattle.std.proofs.Common.{ap, ◌∙◌, arith}
use Rattle.std.specs.Io.KnownBytes.{Consumes, IsAtEnd}
use Rattle.line_config.specs.declared.device.Last.{Last}
use Rattle.line_config.specs.declared.device.Last.TheVariants.{End, Failed}

-- what of all these bytes follows the given ones; nothing if those are no prefix of them
unfoldable pub rest_after_given : List ℕ → List ℕ → Option (List ℕ)
rest_after_given all [] = Some all
rest_after_given [] (byte ∷ given) = None
rest_after_given (next ∷ all) (byte ∷ given) =
    if next == byte then rest_after_given all given else None

-- whether reads that left this, and met this after them, agree with the assumption. An end or a
-- failure that was met must be the assumed one, with nothing left before it
abbrev pub agrees : Option (List ℕ) → Last → Option Last → Bool
agrees None last met = false
agrees (Some left) last None = true
agrees (Some []) End (Some End) = true
agrees (Some []) Failed (Some Failed) = true
agrees (Some left) last met = false

-- what reads gave, and the end or failure that they met, agree with themselves
abbrev pub EachRunAgrees : Type 0
EachRunAgrees = (given : List ℕ) (met : Option Last)
    → IsTrue (agrees (rest_after_given given given) (unwrap_or met End) met)

-- ---- what is said

abbrev pub is_failed : Option Last → Bool
is_failed (Some Failed) = true
is_failed met = false

-- what is said held before a read. Its bytes were the first of the remaining ones. After an end or
-- a failure nothing remains, and it is the one that was said
pub record HeldBefore {R : Type 0} (told : R → List ℕ → Option Last → Bool)
    (left : R → List ℕ → List ℕ) (last : Last) (old new : R) (given more : List ℕ)
    (met : Option Last) : Type 0 where
  pub told_before : IsTrue (told old given None)
  pub coming : left old given ≡ more ++ left new (given ++ more)
  pub spent : (x : Last) → met ≡ Some x → (left new (given ++ more) ≡ []) × (x ≡ last)

-- what is said of a reader is kept from read to read: if it holds after one, it held before. A read
-- gives no bytes if it meets the end or fails; and at the end none is left
abbrev pub Foretells : {R : Type 0} → (R → Option (List ℕ)) → (R → List ℕ → Option Last → Bool)
    → (R → List ℕ → List ℕ) → Last → Type 0
Foretells {R} remaining told left last = (old new : R) (given more : List ℕ) (met : Option Last)
    → Consumes (remaining old) (remaining new) more
    → ((x : Last) → met ≡ Some x → more ≡ []) → (met ≡ Some End → IsAtEnd (remaining new))
    → IsTrue (told new (given ++ more) met) → HeldBefore told left last old new given more met

-- an end or a failure that was met is the one that was said
abbrev pub EndsAsSaid : {R : Type 0} → (R → List ℕ → Option Last → Bool) → Last → Type 0
EndsAsSaid {R} told last = (r : R) (given : List ℕ) (met : Last)
    → IsTrue (told r given (Some met)) → met ≡ last

-- said of any reader: it gives these bytes, and then this
abbrev pub agrees_as_said : {R : Type 0} → List ℕ → Last → R → List ℕ → Option Last → Bool
agrees_as_said all last r given met = agrees (rest_after_given all given) last met

abbrev pub rest_as_said : {R : Type 0} → List ℕ → R → List ℕ → List ℕ
rest_as_said all r given = unwrap_or (rest_after_given all given) []

-- said of a reader that reports its bytes: it gives these, and doesn't fail
abbrev pub own_told : {R : Type 0} → R → List ℕ → Option Last → Bool
own_told r given met = not (is_failed met)

abbrev pub own_left : {R : Type 0} → (R → List ℕ) → R → List ℕ → List ℕ
own_left bytes r given = bytes r

-- any bytes can be said of any reader
abbrev pub AnyCanBeSaid : {R : Type 0} → (R → Option (List ℕ)) → Type 0
AnyCanBeSaid {R} remaining = (all : List ℕ) (last : Last)
    → Foretells remaining (agrees_as_said {R = R} all last) (rest_as_said {R = R} all) last

-- if what was read agrees, the rest is known, and empty once the end or a failure was met
agreed : (left : Option (List ℕ)) (last : Last) (met : Option Last) → IsTrue (agrees left last met)
    → (left ≡ Some (unwrap_or left []))
    × ((x : Last) → met ≡ Some x → (unwrap_or left [] ≡ []) × (x ≡ last))
agreed None last met is = absurd (cc)
agreed (Some left) last None is = (refl, λ x e. absurd (cc))
agreed (Some []) End (Some End) is = (refl, λ x e. (refl, cc))
agreed (Some []) Failed (Some Failed) is = (refl, λ x e. (refl, cc))
agreed (Some left) last met is = absurd (cc)

-- what is left after some more bytes was left before them, after these
left_before : (all given more left : List ℕ) → rest_after_given all (given ++ more) ≡ Some left
    → rest_after_given all given ≡ Some (more ++ left)
unfolding rest_after_given
left_before all [] [] left is = is
left_before [] [] (b ∷ more) left is = absurd (cc)
left_before (a ∷ all) [] (b ∷ more) left is = grind (arith, left_before all [] more left)
left_before [] (b ∷ given) more left is = absurd (cc)
left_before (a ∷ all) (b ∷ given) more left is = grind (arith, left_before all given more left)

pub any_said : {R : Type 0} (remaining : R → Option (List ℕ)) → AnyCanBeSaid remaining
any_said remaining all last old new given more met consumed none end t =
    let rest = rest_after_given all (given ++ more) in
    let after = agreed rest last met t in
    let before = left_before all given more (unwrap_or rest []) after.0 in
    record { told_before = rw before refl; coming = rw before refl; spent = after.1 }

pub said_ends : {R : Type 0} (all : List ℕ) (last : Last)
    → EndsAsSaid (agrees_as_said {R = R} all last) last
said_ends all last r given met t =
    ((agreed (rest_after_given all given) last (Some met) t).1 met refl).1

pub own_ends : {R : Type 0} → EndsAsSaid (own_told {R = R}) End
own_ends r given End t = refl
own_ends r given Failed t = absurd (cc)

-- of a reader that reports its bytes, these can be said
pub own_said : {R : Type 0} (remaining : R → Option (List ℕ)) (bytes : R → List ℕ)
    → ((r : R) → remaining r ≡ Some (bytes r))
    → Foretells remaining (own_told {R = R}) (own_left bytes) End
own_said remaining bytes tells old new given more met consumed none at_end t = record {
  told_before = refl;
  coming = rw (tells old, tells new) at consumed;
  spent = λ x is.
      let end = own_ends new given x (rw is at t) in
      (rw (tells new) at (at_end (is ∙ ap Some end)), end);
}
