-- What is said beforehand can be said of every run, whatever its reads gave.
use Rattle.std.proofs.Common.{◌≡◌, ℕ, List, [], ◌∷◌, Some, None, refl, arith}
use Rattle.line_config.specs.Foretold.{rest_after_given, EachRunAgrees}
use Rattle.line_config.specs.declared.device.Last.TheVariants.{End, Failed}

left_of_all : (all : List ℕ) → rest_after_given all all ≡ Some []
unfolding rest_after_given
left_of_all [] = refl
left_of_all (byte ∷ all) = grind (arith, left_of_all all)

pub agrees_with_itself : EachRunAgrees
agrees_with_itself given None = rw (left_of_all given) refl
agrees_with_itself given (Some End) = rw (left_of_all given) refl
agrees_with_itself given (Some Failed) = rw (left_of_all given) refl
