use Rattle.std.proofs.Common.{◌≡◌, ℕ, [], ◌++◌, List, drop, refl, subst, take}
use Rattle.worked_rows.specs.Refusals.{refusals_rows}
use Rattle.worked_rows.specs.Playing.{Row, differing}
use Rattle.worked_rows.specs.Showing.{AllShown, short, unshown}
use Rattle.worked_rows.proofs.Computing.{computing}
use Rattle.worked_rows.proofs.ShownLemmas.{all_shown, both_given, both_shown}
use Rattle.worked_rows.proofs.refusals.Goals as goal

-- some rows at a time: one computation takes only so many steps
abbrev part : ℕ → List Row
part n = take 6 (drop n refusals_rows)

abbrev from_18 : List Row
from_18 = drop 18 refusals_rows

abbrev from_12 : List Row
from_12 = part 12 ++ from_18

abbrev from_6 : List Row
from_6 = part 6 ++ from_12

abbrev from_0 : List Row
from_0 = part 0 ++ from_6

all-rows : from_0 ≡ refusals_rows
all-rows = refl

given-0 : differing (part 0) ≡ []
unfolding computing
given-0 = refl

unshown-0 : unshown (short (part 0)) ≡ []
unfolding computing
unshown-0 = refl

shown-0 : AllShown (short (part 0))
shown-0 = all_shown (short (part 0)) unshown-0

given-6 : differing (part 6) ≡ []
unfolding computing
given-6 = refl

unshown-6 : unshown (short (part 6)) ≡ []
unfolding computing
unshown-6 = refl

shown-6 : AllShown (short (part 6))
shown-6 = all_shown (short (part 6)) unshown-6

given-12 : differing (part 12) ≡ []
unfolding computing
given-12 = refl

unshown-12 : unshown (short (part 12)) ≡ []
unfolding computing
unshown-12 = refl

shown-12 : AllShown (short (part 12))
shown-12 = all_shown (short (part 12)) unshown-12

given-18 : differing from_18 ≡ []
unfolding computing
given-18 = refl

unshown-18 : unshown (short from_18) ≡ []
unfolding computing
unshown-18 = refl

shown-18 : AllShown (short from_18)
shown-18 = all_shown (short from_18) unshown-18

pub returns-clause-given : goal.returns-clause-given
returns-clause-given c = subst (λ rows. differing rows ≡ []) all-rows
    (both_given (part 0) from_6 given-0
    (both_given (part 6) from_12 given-6
    (both_given (part 12) from_18 given-12 given-18)))

pub returns-clause-shown : goal.returns-clause-shown
returns-clause-shown c = subst (λ rows. AllShown (short rows)) all-rows
    (both_shown (part 0) from_6 shown-0
    (both_shown (part 6) from_12 shown-6
    (both_shown (part 12) from_18 shown-12 shown-18)))
