use Rattle.std.proofs.Common.{◌≡◌, ℕ, [], ◌++◌, List, drop, refl, subst, take}
use Rattle.worked_rows.specs.Vi.{vi_rows}
use Rattle.worked_rows.specs.Playing.{Row, differing}
use Rattle.worked_rows.specs.Showing.{AllShown, short, unshown}
use Rattle.worked_rows.proofs.Computing.{computing}
use Rattle.worked_rows.proofs.ShownLemmas.{all_shown, both_given, both_shown}
use Rattle.worked_rows.proofs.vi.Goals as goal

-- some rows at a time: one computation takes only so many steps
abbrev part : ℕ → List Row
part n = take 6 (drop n vi_rows)

abbrev from_150 : List Row
from_150 = drop 150 vi_rows

abbrev from_144 : List Row
from_144 = part 144 ++ from_150

abbrev from_138 : List Row
from_138 = part 138 ++ from_144

abbrev from_132 : List Row
from_132 = part 132 ++ from_138

abbrev from_126 : List Row
from_126 = part 126 ++ from_132

abbrev from_120 : List Row
from_120 = part 120 ++ from_126

abbrev from_114 : List Row
from_114 = part 114 ++ from_120

abbrev from_108 : List Row
from_108 = part 108 ++ from_114

abbrev from_102 : List Row
from_102 = part 102 ++ from_108

abbrev from_96 : List Row
from_96 = part 96 ++ from_102

abbrev from_90 : List Row
from_90 = part 90 ++ from_96

abbrev from_84 : List Row
from_84 = part 84 ++ from_90

abbrev from_78 : List Row
from_78 = part 78 ++ from_84

abbrev from_72 : List Row
from_72 = part 72 ++ from_78

abbrev from_66 : List Row
from_66 = part 66 ++ from_72

abbrev from_60 : List Row
from_60 = part 60 ++ from_66

abbrev from_54 : List Row
from_54 = part 54 ++ from_60

abbrev from_48 : List Row
from_48 = part 48 ++ from_54

abbrev from_42 : List Row
from_42 = part 42 ++ from_48

abbrev from_36 : List Row
from_36 = part 36 ++ from_42

abbrev from_30 : List Row
from_30 = part 30 ++ from_36

abbrev from_24 : List Row
from_24 = part 24 ++ from_30

abbrev from_18 : List Row
from_18 = part 18 ++ from_24

abbrev from_12 : List Row
from_12 = part 12 ++ from_18

abbrev from_6 : List Row
from_6 = part 6 ++ from_12

abbrev from_0 : List Row
from_0 = part 0 ++ from_6

all-rows : from_0 ≡ vi_rows
all-rows = refl

given-0 : differing (part 0) ≡ []
unfolding computing
given-0 = refl

unshown-0 : unshown (short (part 0)) ≡ []
unfolding computing
unshown-0 = refl

shown-0 : AllShown (short (part 0))
shown-0 = all_shown (short (part 0)) unshown-0

given-6 : differing (part 6) ≡ []
unfolding computing
given-6 = refl

unshown-6 : unshown (short (part 6)) ≡ []
unfolding computing
unshown-6 = refl

shown-6 : AllShown (short (part 6))
shown-6 = all_shown (short (part 6)) unshown-6

given-12 : differing (part 12) ≡ []
unfolding computing
given-12 = refl

unshown-12 : unshown (short (part 12)) ≡ []
unfolding computing
unshown-12 = refl

shown-12 : AllShown (short (part 12))
shown-12 = all_shown (short (part 12)) unshown-12

given-18 : differing (part 18) ≡ []
unfolding computing
given-18 = refl

unshown-18 : unshown (short (part 18)) ≡ []
unfolding computing
unshown-18 = refl

shown-18 : AllShown (short (part 18))
shown-18 = all_shown (short (part 18)) unshown-18

given-24 : differing (part 24) ≡ []
unfolding computing
given-24 = refl

unshown-24 : unshown (short (part 24)) ≡ []
unfolding computing
unshown-24 = refl

shown-24 : AllShown (short (part 24))
shown-24 = all_shown (short (part 24)) unshown-24

given-30 : differing (part 30) ≡ []
unfolding computing
given-30 = refl

unshown-30 : unshown (short (part 30)) ≡ []
unfolding computing
unshown-30 = refl

shown-30 : AllShown (short (part 30))
shown-30 = all_shown (short (part 30)) unshown-30

given-36 : differing (part 36) ≡ []
unfolding computing
given-36 = refl

unshown-36 : unshown (short (part 36)) ≡ []
unfolding computing
unshown-36 = refl

shown-36 : AllShown (short (part 36))
shown-36 = all_shown (short (part 36)) unshown-36

given-42 : differing (part 42) ≡ []
unfolding computing
given-42 = refl

unshown-42 : unshown (short (part 42)) ≡ []
unfolding computing
unshown-42 = refl

shown-42 : AllShown (short (part 42))
shown-42 = all_shown (short (part 42)) unshown-42

given-48 : differing (part 48) ≡ []
unfolding computing
given-48 = refl

unshown-48 : unshown (short (part 48)) ≡ []
unfolding computing
unshown-48 = refl

shown-48 : AllShown (short (part 48))
shown-48 = all_shown (short (part 48)) unshown-48

given-54 : differing (part 54) ≡ []
unfolding computing
given-54 = refl

unshown-54 : unshown (short (part 54)) ≡ []
unfolding computing
unshown-54 = refl

shown-54 : AllShown (short (part 54))
shown-54 = all_shown (short (part 54)) unshown-54

given-60 : differing (part 60) ≡ []
unfolding computing
given-60 = refl

unshown-60 : unshown (short (part 60)) ≡ []
unfolding computing
unshown-60 = refl

shown-60 : AllShown (short (part 60))
shown-60 = all_shown (short (part 60)) unshown-60

given-66 : differing (part 66) ≡ []
unfolding computing
given-66 = refl

unshown-66 : unshown (short (part 66)) ≡ []
unfolding computing
unshown-66 = refl

shown-66 : AllShown (short (part 66))
shown-66 = all_shown (short (part 66)) unshown-66

given-72 : differing (part 72) ≡ []
unfolding computing
given-72 = refl

unshown-72 : unshown (short (part 72)) ≡ []
unfolding computing
unshown-72 = refl

shown-72 : AllShown (short (part 72))
shown-72 = all_shown (short (part 72)) unshown-72

given-78 : differing (part 78) ≡ []
unfolding computing
given-78 = refl

unshown-78 : unshown (short (part 78)) ≡ []
unfolding computing
unshown-78 = refl

shown-78 : AllShown (short (part 78))
shown-78 = all_shown (short (part 78)) unshown-78

given-84 : differing (part 84) ≡ []
unfolding computing
given-84 = refl

unshown-84 : unshown (short (part 84)) ≡ []
unfolding computing
unshown-84 = refl

shown-84 : AllShown (short (part 84))
shown-84 = all_shown (short (part 84)) unshown-84

given-90 : differing (part 90) ≡ []
unfolding computing
given-90 = refl

unshown-90 : unshown (short (part 90)) ≡ []
unfolding computing
unshown-90 = refl

shown-90 : AllShown (short (part 90))
shown-90 = all_shown (short (part 90)) unshown-90

given-96 : differing (part 96) ≡ []
unfolding computing
given-96 = refl

unshown-96 : unshown (short (part 96)) ≡ []
unfolding computing
unshown-96 = refl

shown-96 : AllShown (short (part 96))
shown-96 = all_shown (short (part 96)) unshown-96

given-102 : differing (part 102) ≡ []
unfolding computing
given-102 = refl

unshown-102 : unshown (short (part 102)) ≡ []
unfolding computing
unshown-102 = refl

shown-102 : AllShown (short (part 102))
shown-102 = all_shown (short (part 102)) unshown-102

given-108 : differing (part 108) ≡ []
unfolding computing
given-108 = refl

unshown-108 : unshown (short (part 108)) ≡ []
unfolding computing
unshown-108 = refl

shown-108 : AllShown (short (part 108))
shown-108 = all_shown (short (part 108)) unshown-108

given-114 : differing (part 114) ≡ []
unfolding computing
given-114 = refl

unshown-114 : unshown (short (part 114)) ≡ []
unfolding computing
unshown-114 = refl

shown-114 : AllShown (short (part 114))
shown-114 = all_shown (short (part 114)) unshown-114

given-120 : differing (part 120) ≡ []
unfolding computing
given-120 = refl

unshown-120 : unshown (short (part 120)) ≡ []
unfolding computing
unshown-120 = refl

shown-120 : AllShown (short (part 120))
shown-120 = all_shown (short (part 120)) unshown-120

given-126 : differing (part 126) ≡ []
unfolding computing
given-126 = refl

unshown-126 : unshown (short (part 126)) ≡ []
unfolding computing
unshown-126 = refl

shown-126 : AllShown (short (part 126))
shown-126 = all_shown (short (part 126)) unshown-126

given-132 : differing (part 132) ≡ []
unfolding computing
given-132 = refl

unshown-132 : unshown (short (part 132)) ≡ []
unfolding computing
unshown-132 = refl

shown-132 : AllShown (short (part 132))
shown-132 = all_shown (short (part 132)) unshown-132

given-138 : differing (part 138) ≡ []
unfolding computing
given-138 = refl

unshown-138 : unshown (short (part 138)) ≡ []
unfolding computing
unshown-138 = refl

shown-138 : AllShown (short (part 138))
shown-138 = all_shown (short (part 138)) unshown-138

given-144 : differing (part 144) ≡ []
unfolding computing
given-144 = refl

unshown-144 : unshown (short (part 144)) ≡ []
unfolding computing
unshown-144 = refl

shown-144 : AllShown (short (part 144))
shown-144 = all_shown (short (part 144)) unshown-144

given-150 : differing from_150 ≡ []
unfolding computing
given-150 = refl

unshown-150 : unshown (short from_150) ≡ []
unfolding computing
unshown-150 = refl

shown-150 : AllShown (short from_150)
shown-150 = all_shown (short from_150) unshown-150

pub returns-clause-given : goal.returns-clause-given
returns-clause-given c = subst (λ rows. differing rows ≡ []) all-rows
    (both_given (part 0) from_6 given-0
    (both_given (part 6) from_12 given-6
    (both_given (part 12) from_18 given-12
    (both_given (part 18) from_24 given-18
    (both_given (part 24) from_30 given-24
    (both_given (part 30) from_36 given-30
    (both_given (part 36) from_42 given-36
    (both_given (part 42) from_48 given-42
    (both_given (part 48) from_54 given-48
    (both_given (part 54) from_60 given-54
    (both_given (part 60) from_66 given-60
    (both_given (part 66) from_72 given-66
    (both_given (part 72) from_78 given-72
    (both_given (part 78) from_84 given-78
    (both_given (part 84) from_90 given-84
    (both_given (part 90) from_96 given-90
    (both_given (part 96) from_102 given-96
    (both_given (part 102) from_108 given-102
    (both_given (part 108) from_114 given-108
    (both_given (part 114) from_120 given-114
    (both_given (part 120) from_126 given-120
    (both_given (part 126) from_132 given-126
    (both_given (part 132) from_138 given-132
    (both_given (part 138) from_144 given-138
    (both_given (part 144) from_150 given-144 given-150)))))))))))))))))))))))))

pub returns-clause-shown : goal.returns-clause-shown
returns-clause-shown c = subst (λ rows. AllShown (short rows)) all-rows
    (both_shown (part 0) from_6 shown-0
    (both_shown (part 6) from_12 shown-6
    (both_shown (part 12) from_18 shown-12
    (both_shown (part 18) from_24 shown-18
    (both_shown (part 24) from_30 shown-24
    (both_shown (part 30) from_36 shown-30
    (both_shown (part 36) from_42 shown-36
    (both_shown (part 42) from_48 shown-42
    (both_shown (part 48) from_54 shown-48
    (both_shown (part 54) from_60 shown-54
    (both_shown (part 60) from_66 shown-60
    (both_shown (part 66) from_72 shown-66
    (both_shown (part 72) from_78 shown-72
    (both_shown (part 78) from_84 shown-78
    (both_shown (part 84) from_90 shown-84
    (both_shown (part 90) from_96 shown-90
    (both_shown (part 96) from_102 shown-96
    (both_shown (part 102) from_108 shown-102
    (both_shown (part 108) from_114 shown-108
    (both_shown (part 114) from_120 shown-114
    (both_shown (part 120) from_126 shown-120
    (both_shown (part 126) from_132 shown-126
    (both_shown (part 132) from_138 shown-132
    (both_shown (part 138) from_144 shown-138
    (both_shown (part 144) from_150 shown-144 shown-150)))))))))))))))))))))))))
