use Rattle.std.proofs.Common.{◌≡◌, ℕ, [], ◌++◌, List, drop, refl, subst, take}
use Rattle.worked_rows.specs.Candidates.{candidates_rows}
use Rattle.worked_rows.specs.Playing.{Row, differing}
use Rattle.worked_rows.specs.Showing.{AllShown, short, unshown}
use Rattle.worked_rows.proofs.Computing.{computing}
use Rattle.worked_rows.proofs.ShownLemmas.{all_shown, both_given, both_shown}
use Rattle.worked_rows.proofs.candidates.Goals as goal

-- some rows at a time: one computation takes only so many steps
abbrev part : ℕ → List Row
part n = take 7 (drop n candidates_rows)

abbrev from_133 : List Row
from_133 = drop 133 candidates_rows

abbrev from_126 : List Row
from_126 = part 126 ++ from_133

abbrev from_119 : List Row
from_119 = part 119 ++ from_126

abbrev from_112 : List Row
from_112 = part 112 ++ from_119

abbrev from_105 : List Row
from_105 = part 105 ++ from_112

abbrev from_98 : List Row
from_98 = part 98 ++ from_105

abbrev from_91 : List Row
from_91 = part 91 ++ from_98

abbrev from_84 : List Row
from_84 = part 84 ++ from_91

abbrev from_77 : List Row
from_77 = part 77 ++ from_84

abbrev from_70 : List Row
from_70 = part 70 ++ from_77

abbrev from_63 : List Row
from_63 = part 63 ++ from_70

abbrev from_56 : List Row
from_56 = part 56 ++ from_63

abbrev from_49 : List Row
from_49 = part 49 ++ from_56

abbrev from_42 : List Row
from_42 = part 42 ++ from_49

abbrev from_35 : List Row
from_35 = part 35 ++ from_42

abbrev from_28 : List Row
from_28 = part 28 ++ from_35

abbrev from_21 : List Row
from_21 = part 21 ++ from_28

abbrev from_14 : List Row
from_14 = part 14 ++ from_21

abbrev from_7 : List Row
from_7 = part 7 ++ from_14

abbrev from_0 : List Row
from_0 = part 0 ++ from_7

all-rows : from_0 ≡ candidates_rows
all-rows = refl

given-0 : differing (part 0) ≡ []
unfolding computing
given-0 = refl

unshown-0 : unshown (short (part 0)) ≡ []
unfolding computing
unshown-0 = refl

shown-0 : AllShown (short (part 0))
shown-0 = all_shown (short (part 0)) unshown-0

given-7 : differing (part 7) ≡ []
unfolding computing
given-7 = refl

unshown-7 : unshown (short (part 7)) ≡ []
unfolding computing
unshown-7 = refl

shown-7 : AllShown (short (part 7))
shown-7 = all_shown (short (part 7)) unshown-7

given-14 : differing (part 14) ≡ []
unfolding computing
given-14 = refl

unshown-14 : unshown (short (part 14)) ≡ []
unfolding computing
unshown-14 = refl

shown-14 : AllShown (short (part 14))
shown-14 = all_shown (short (part 14)) unshown-14

given-21 : differing (part 21) ≡ []
unfolding computing
given-21 = refl

unshown-21 : unshown (short (part 21)) ≡ []
unfolding computing
unshown-21 = refl

shown-21 : AllShown (short (part 21))
shown-21 = all_shown (short (part 21)) unshown-21

given-28 : differing (part 28) ≡ []
unfolding computing
given-28 = refl

unshown-28 : unshown (short (part 28)) ≡ []
unfolding computing
unshown-28 = refl

shown-28 : AllShown (short (part 28))
shown-28 = all_shown (short (part 28)) unshown-28

given-35 : differing (part 35) ≡ []
unfolding computing
given-35 = refl

unshown-35 : unshown (short (part 35)) ≡ []
unfolding computing
unshown-35 = refl

shown-35 : AllShown (short (part 35))
shown-35 = all_shown (short (part 35)) unshown-35

given-42 : differing (part 42) ≡ []
unfolding computing
given-42 = refl

unshown-42 : unshown (short (part 42)) ≡ []
unfolding computing
unshown-42 = refl

shown-42 : AllShown (short (part 42))
shown-42 = all_shown (short (part 42)) unshown-42

given-49 : differing (part 49) ≡ []
unfolding computing
given-49 = refl

unshown-49 : unshown (short (part 49)) ≡ []
unfolding computing
unshown-49 = refl

shown-49 : AllShown (short (part 49))
shown-49 = all_shown (short (part 49)) unshown-49

given-56 : differing (part 56) ≡ []
unfolding computing
given-56 = refl

unshown-56 : unshown (short (part 56)) ≡ []
unfolding computing
unshown-56 = refl

shown-56 : AllShown (short (part 56))
shown-56 = all_shown (short (part 56)) unshown-56

given-63 : differing (part 63) ≡ []
unfolding computing
given-63 = refl

unshown-63 : unshown (short (part 63)) ≡ []
unfolding computing
unshown-63 = refl

shown-63 : AllShown (short (part 63))
shown-63 = all_shown (short (part 63)) unshown-63

given-70 : differing (part 70) ≡ []
unfolding computing
given-70 = refl

unshown-70 : unshown (short (part 70)) ≡ []
unfolding computing
unshown-70 = refl

shown-70 : AllShown (short (part 70))
shown-70 = all_shown (short (part 70)) unshown-70

given-77 : differing (part 77) ≡ []
unfolding computing
given-77 = refl

unshown-77 : unshown (short (part 77)) ≡ []
unfolding computing
unshown-77 = refl

shown-77 : AllShown (short (part 77))
shown-77 = all_shown (short (part 77)) unshown-77

given-84 : differing (part 84) ≡ []
unfolding computing
given-84 = refl

unshown-84 : unshown (short (part 84)) ≡ []
unfolding computing
unshown-84 = refl

shown-84 : AllShown (short (part 84))
shown-84 = all_shown (short (part 84)) unshown-84

given-91 : differing (part 91) ≡ []
unfolding computing
given-91 = refl

unshown-91 : unshown (short (part 91)) ≡ []
unfolding computing
unshown-91 = refl

shown-91 : AllShown (short (part 91))
shown-91 = all_shown (short (part 91)) unshown-91

given-98 : differing (part 98) ≡ []
unfolding computing
given-98 = refl

unshown-98 : unshown (short (part 98)) ≡ []
unfolding computing
unshown-98 = refl

shown-98 : AllShown (short (part 98))
shown-98 = all_shown (short (part 98)) unshown-98

given-105 : differing (part 105) ≡ []
unfolding computing
given-105 = refl

unshown-105 : unshown (short (part 105)) ≡ []
unfolding computing
unshown-105 = refl

shown-105 : AllShown (short (part 105))
shown-105 = all_shown (short (part 105)) unshown-105

given-112 : differing (part 112) ≡ []
unfolding computing
given-112 = refl

unshown-112 : unshown (short (part 112)) ≡ []
unfolding computing
unshown-112 = refl

shown-112 : AllShown (short (part 112))
shown-112 = all_shown (short (part 112)) unshown-112

given-119 : differing (part 119) ≡ []
unfolding computing
given-119 = refl

unshown-119 : unshown (short (part 119)) ≡ []
unfolding computing
unshown-119 = refl

shown-119 : AllShown (short (part 119))
shown-119 = all_shown (short (part 119)) unshown-119

given-126 : differing (part 126) ≡ []
unfolding computing
given-126 = refl

unshown-126 : unshown (short (part 126)) ≡ []
unfolding computing
unshown-126 = refl

shown-126 : AllShown (short (part 126))
shown-126 = all_shown (short (part 126)) unshown-126

given-133 : differing from_133 ≡ []
unfolding computing
given-133 = refl

unshown-133 : unshown (short from_133) ≡ []
unfolding computing
unshown-133 = refl

shown-133 : AllShown (short from_133)
shown-133 = all_shown (short from_133) unshown-133

pub returns-clause-given : goal.returns-clause-given
returns-clause-given c = subst (λ rows. differing rows ≡ []) all-rows
    (both_given (part 0) from_7 given-0
    (both_given (part 7) from_14 given-7
    (both_given (part 14) from_21 given-14
    (both_given (part 21) from_28 given-21
    (both_given (part 28) from_35 given-28
    (both_given (part 35) from_42 given-35
    (both_given (part 42) from_49 given-42
    (both_given (part 49) from_56 given-49
    (both_given (part 56) from_63 given-56
    (both_given (part 63) from_70 given-63
    (both_given (part 70) from_77 given-70
    (both_given (part 77) from_84 given-77
    (both_given (part 84) from_91 given-84
    (both_given (part 91) from_98 given-91
    (both_given (part 98) from_105 given-98
    (both_given (part 105) from_112 given-105
    (both_given (part 112) from_119 given-112
    (both_given (part 119) from_126 given-119
    (both_given (part 126) from_133 given-126 given-133)))))))))))))))))))

pub returns-clause-shown : goal.returns-clause-shown
returns-clause-shown c = subst (λ rows. AllShown (short rows)) all-rows
    (both_shown (part 0) from_7 shown-0
    (both_shown (part 7) from_14 shown-7
    (both_shown (part 14) from_21 shown-14
    (both_shown (part 21) from_28 shown-21
    (both_shown (part 28) from_35 shown-28
    (both_shown (part 35) from_42 shown-35
    (both_shown (part 42) from_49 shown-42
    (both_shown (part 49) from_56 shown-49
    (both_shown (part 56) from_63 shown-56
    (both_shown (part 63) from_70 shown-63
    (both_shown (part 70) from_77 shown-70
    (both_shown (part 77) from_84 shown-77
    (both_shown (part 84) from_91 shown-84
    (both_shown (part 91) from_98 shown-91
    (both_shown (part 98) from_105 shown-98
    (both_shown (part 105) from_112 shown-105
    (both_shown (part 112) from_119 shown-112
    (both_shown (part 119) from_126 shown-119
    (both_shown (part 126) from_133 shown-126 shown-133)))))))))))))))))))
