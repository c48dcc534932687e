use Rattle.std.proofs.Common.{◌≡◌, ℕ, [], ◌++◌, List, drop, refl, subst, take}
use Rattle.worked_rows.specs.Tabs.{tabs_rows}
use Rattle.worked_rows.specs.Playing.{Row, differing}
use Rattle.worked_rows.specs.Showing.{AllShown, short, unshown}
use Rattle.worked_rows.proofs.Computing.{computing}
use Rattle.worked_rows.proofs.ShownLemmas.{all_shown, both_given, both_shown}
use Rattle.worked_rows.proofs.tabs.Goals as goal

-- some rows at a time: one computation takes only so many steps
abbrev part : ℕ → List Row
part n = take 4 (drop n tabs_rows)

abbrev from_60 : List Row
from_60 = drop 60 tabs_rows

abbrev from_56 : List Row
from_56 = part 56 ++ from_60

abbrev from_52 : List Row
from_52 = part 52 ++ from_56

abbrev from_48 : List Row
from_48 = part 48 ++ from_52

abbrev from_44 : List Row
from_44 = part 44 ++ from_48

abbrev from_40 : List Row
from_40 = part 40 ++ from_44

abbrev from_36 : List Row
from_36 = part 36 ++ from_40

abbrev from_32 : List Row
from_32 = part 32 ++ from_36

abbrev from_28 : List Row
from_28 = part 28 ++ from_32

abbrev from_24 : List Row
from_24 = part 24 ++ from_28

abbrev from_20 : List Row
from_20 = part 20 ++ from_24

abbrev from_16 : List Row
from_16 = part 16 ++ from_20

abbrev from_12 : List Row
from_12 = part 12 ++ from_16

abbrev from_8 : List Row
from_8 = part 8 ++ from_12

abbrev from_4 : List Row
from_4 = part 4 ++ from_8

abbrev from_0 : List Row
from_0 = part 0 ++ from_4

all-rows : from_0 ≡ tabs_rows
all-rows = refl

given-0 : differing (part 0) ≡ []
unfolding computing
given-0 = refl

unshown-0 : unshown (short (part 0)) ≡ []
unfolding computing
unshown-0 = refl

shown-0 : AllShown (short (part 0))
shown-0 = all_shown (short (part 0)) unshown-0

given-4 : differing (part 4) ≡ []
unfolding computing
given-4 = refl

unshown-4 : unshown (short (part 4)) ≡ []
unfolding computing
unshown-4 = refl

shown-4 : AllShown (short (part 4))
shown-4 = all_shown (short (part 4)) unshown-4

given-8 : differing (part 8) ≡ []
unfolding computing
given-8 = refl

unshown-8 : unshown (short (part 8)) ≡ []
unfolding computing
unshown-8 = refl

shown-8 : AllShown (short (part 8))
shown-8 = all_shown (short (part 8)) unshown-8

given-12 : differing (part 12) ≡ []
unfolding computing
given-12 = refl

unshown-12 : unshown (short (part 12)) ≡ []
unfolding computing
unshown-12 = refl

shown-12 : AllShown (short (part 12))
shown-12 = all_shown (short (part 12)) unshown-12

given-16 : differing (part 16) ≡ []
unfolding computing
given-16 = refl

unshown-16 : unshown (short (part 16)) ≡ []
unfolding computing
unshown-16 = refl

shown-16 : AllShown (short (part 16))
shown-16 = all_shown (short (part 16)) unshown-16

given-20 : differing (part 20) ≡ []
unfolding computing
given-20 = refl

unshown-20 : unshown (short (part 20)) ≡ []
unfolding computing
unshown-20 = refl

shown-20 : AllShown (short (part 20))
shown-20 = all_shown (short (part 20)) unshown-20

given-24 : differing (part 24) ≡ []
unfolding computing
given-24 = refl

unshown-24 : unshown (short (part 24)) ≡ []
unfolding computing
unshown-24 = refl

shown-24 : AllShown (short (part 24))
shown-24 = all_shown (short (part 24)) unshown-24

given-28 : differing (part 28) ≡ []
unfolding computing
given-28 = refl

unshown-28 : unshown (short (part 28)) ≡ []
unfolding computing
unshown-28 = refl

shown-28 : AllShown (short (part 28))
shown-28 = all_shown (short (part 28)) unshown-28

given-32 : differing (part 32) ≡ []
unfolding computing
given-32 = refl

unshown-32 : unshown (short (part 32)) ≡ []
unfolding computing
unshown-32 = refl

shown-32 : AllShown (short (part 32))
shown-32 = all_shown (short (part 32)) unshown-32

given-36 : differing (part 36) ≡ []
unfolding computing
given-36 = refl

unshown-36 : unshown (short (part 36)) ≡ []
unfolding computing
unshown-36 = refl

shown-36 : AllShown (short (part 36))
shown-36 = all_shown (short (part 36)) unshown-36

given-40 : differing (part 40) ≡ []
unfolding computing
given-40 = refl

unshown-40 : unshown (short (part 40)) ≡ []
unfolding computing
unshown-40 = refl

shown-40 : AllShown (short (part 40))
shown-40 = all_shown (short (part 40)) unshown-40

given-44 : differing (part 44) ≡ []
unfolding computing
given-44 = refl

unshown-44 : unshown (short (part 44)) ≡ []
unfolding computing
unshown-44 = refl

shown-44 : AllShown (short (part 44))
shown-44 = all_shown (short (part 44)) unshown-44

given-48 : differing (part 48) ≡ []
unfolding computing
given-48 = refl

unshown-48 : unshown (short (part 48)) ≡ []
unfolding computing
unshown-48 = refl

shown-48 : AllShown (short (part 48))
shown-48 = all_shown (short (part 48)) unshown-48

given-52 : differing (part 52) ≡ []
unfolding computing
given-52 = refl

unshown-52 : unshown (short (part 52)) ≡ []
unfolding computing
unshown-52 = refl

shown-52 : AllShown (short (part 52))
shown-52 = all_shown (short (part 52)) unshown-52

given-56 : differing (part 56) ≡ []
unfolding computing
given-56 = refl

unshown-56 : unshown (short (part 56)) ≡ []
unfolding computing
unshown-56 = refl

shown-56 : AllShown (short (part 56))
shown-56 = all_shown (short (part 56)) unshown-56

given-60 : differing from_60 ≡ []
unfolding computing
given-60 = refl

unshown-60 : unshown (short from_60) ≡ []
unfolding computing
unshown-60 = refl

shown-60 : AllShown (short from_60)
shown-60 = all_shown (short from_60) unshown-60

pub returns-clause-given : goal.returns-clause-given
returns-clause-given c = subst (λ rows. differing rows ≡ []) all-rows
    (both_given (part 0) from_4 given-0
    (both_given (part 4) from_8 given-4
    (both_given (part 8) from_12 given-8
    (both_given (part 12) from_16 given-12
    (both_given (part 16) from_20 given-16
    (both_given (part 20) from_24 given-20
    (both_given (part 24) from_28 given-24
    (both_given (part 28) from_32 given-28
    (both_given (part 32) from_36 given-32
    (both_given (part 36) from_40 given-36
    (both_given (part 40) from_44 given-40
    (both_given (part 44) from_48 given-44
    (both_given (part 48) from_52 given-48
    (both_given (part 52) from_56 given-52
    (both_given (part 56) from_60 given-56 given-60)))))))))))))))

pub returns-clause-shown : goal.returns-clause-shown
returns-clause-shown c = subst (λ rows. AllShown (short rows)) all-rows
    (both_shown (part 0) from_4 shown-0
    (both_shown (part 4) from_8 shown-4
    (both_shown (part 8) from_12 shown-8
    (both_shown (part 12) from_16 shown-12
    (both_shown (part 16) from_20 shown-16
    (both_shown (part 20) from_24 shown-20
    (both_shown (part 24) from_28 shown-24
    (both_shown (part 28) from_32 shown-28
    (both_shown (part 32) from_36 shown-32
    (both_shown (part 36) from_40 shown-36
    (both_shown (part 40) from_44 shown-40
    (both_shown (part 44) from_48 shown-44
    (both_shown (part 48) from_52 shown-48
    (both_shown (part 52) from_56 shown-52
    (both_shown (part 56) from_60 shown-56 shown-60)))))))))))))))
