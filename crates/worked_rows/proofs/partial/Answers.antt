use Rattle.std.proofs.Common.{◌≡◌, ℕ, [], ◌++◌, List, drop, refl, subst, take}
use Rattle.worked_rows.specs.Partial.{partial_rows}
use Rattle.worked_rows.specs.Playing.{Row, differing}
use Rattle.worked_rows.specs.Showing.{AllShown, short, unshown}
use Rattle.worked_rows.proofs.Computing.{computing}
use Rattle.worked_rows.proofs.ShownLemmas.{all_shown, both_given, both_shown}
use Rattle.worked_rows.proofs.partial.Goals as goal

-- some rows at a time: one computation takes only so many steps
abbrev part : ℕ → List Row
part n = take 5 (drop n partial_rows)

abbrev from_105 : List Row
from_105 = drop 105 partial_rows

abbrev from_100 : List Row
from_100 = part 100 ++ from_105

abbrev from_95 : List Row
from_95 = part 95 ++ from_100

abbrev from_90 : List Row
from_90 = part 90 ++ from_95

abbrev from_85 : List Row
from_85 = part 85 ++ from_90

abbrev from_80 : List Row
from_80 = part 80 ++ from_85

abbrev from_75 : List Row
from_75 = part 75 ++ from_80

abbrev from_70 : List Row
from_70 = part 70 ++ from_75

abbrev from_65 : List Row
from_65 = part 65 ++ from_70

abbrev from_60 : List Row
from_60 = part 60 ++ from_65

abbrev from_55 : List Row
from_55 = part 55 ++ from_60

abbrev from_50 : List Row
from_50 = part 50 ++ from_55

abbrev from_45 : List Row
from_45 = part 45 ++ from_50

abbrev from_40 : List Row
from_40 = part 40 ++ from_45

abbrev from_35 : List Row
from_35 = part 35 ++ from_40

abbrev from_30 : List Row
from_30 = part 30 ++ from_35

abbrev from_25 : List Row
from_25 = part 25 ++ from_30

abbrev from_20 : List Row
from_20 = part 20 ++ from_25

abbrev from_15 : List Row
from_15 = part 15 ++ from_20

abbrev from_10 : List Row
from_10 = part 10 ++ from_15

abbrev from_5 : List Row
from_5 = part 5 ++ from_10

abbrev from_0 : List Row
from_0 = part 0 ++ from_5

all-rows : from_0 ≡ partial_rows
all-rows = refl

given-0 : differing (part 0) ≡ []
unfolding computing
given-0 = refl

unshown-0 : unshown (short (part 0)) ≡ []
unfolding computing
unshown-0 = refl

shown-0 : AllShown (short (part 0))
shown-0 = all_shown (short (part 0)) unshown-0

given-5 : differing (part 5) ≡ []
unfolding computing
given-5 = refl

unshown-5 : unshown (short (part 5)) ≡ []
unfolding computing
unshown-5 = refl

shown-5 : AllShown (short (part 5))
shown-5 = all_shown (short (part 5)) unshown-5

given-10 : differing (part 10) ≡ []
unfolding computing
given-10 = refl

unshown-10 : unshown (short (part 10)) ≡ []
unfolding computing
unshown-10 = refl

shown-10 : AllShown (short (part 10))
shown-10 = all_shown (short (part 10)) unshown-10

given-15 : differing (part 15) ≡ []
unfolding computing
given-15 = refl

unshown-15 : unshown (short (part 15)) ≡ []
unfolding computing
unshown-15 = refl

shown-15 : AllShown (short (part 15))
shown-15 = all_shown (short (part 15)) unshown-15

given-20 : differing (part 20) ≡ []
unfolding computing
given-20 = refl

unshown-20 : unshown (short (part 20)) ≡ []
unfolding computing
unshown-20 = refl

shown-20 : AllShown (short (part 20))
shown-20 = all_shown (short (part 20)) unshown-20

given-25 : differing (part 25) ≡ []
unfolding computing
given-25 = refl

unshown-25 : unshown (short (part 25)) ≡ []
unfolding computing
unshown-25 = refl

shown-25 : AllShown (short (part 25))
shown-25 = all_shown (short (part 25)) unshown-25

given-30 : differing (part 30) ≡ []
unfolding computing
given-30 = refl

unshown-30 : unshown (short (part 30)) ≡ []
unfolding computing
unshown-30 = refl

shown-30 : AllShown (short (part 30))
shown-30 = all_shown (short (part 30)) unshown-30

given-35 : differing (part 35) ≡ []
unfolding computing
given-35 = refl

unshown-35 : unshown (short (part 35)) ≡ []
unfolding computing
unshown-35 = refl

shown-35 : AllShown (short (part 35))
shown-35 = all_shown (short (part 35)) unshown-35

given-40 : differing (part 40) ≡ []
unfolding computing
given-40 = refl

unshown-40 : unshown (short (part 40)) ≡ []
unfolding computing
unshown-40 = refl

shown-40 : AllShown (short (part 40))
shown-40 = all_shown (short (part 40)) unshown-40

given-45 : differing (part 45) ≡ []
unfolding computing
given-45 = refl

unshown-45 : unshown (short (part 45)) ≡ []
unfolding computing
unshown-45 = refl

shown-45 : AllShown (short (part 45))
shown-45 = all_shown (short (part 45)) unshown-45

given-50 : differing (part 50) ≡ []
unfolding computing
given-50 = refl

unshown-50 : unshown (short (part 50)) ≡ []
unfolding computing
unshown-50 = refl

shown-50 : AllShown (short (part 50))
shown-50 = all_shown (short (part 50)) unshown-50

given-55 : differing (part 55) ≡ []
unfolding computing
given-55 = refl

unshown-55 : unshown (short (part 55)) ≡ []
unfolding computing
unshown-55 = refl

shown-55 : AllShown (short (part 55))
shown-55 = all_shown (short (part 55)) unshown-55

given-60 : differing (part 60) ≡ []
unfolding computing
given-60 = refl

unshown-60 : unshown (short (part 60)) ≡ []
unfolding computing
unshown-60 = refl

shown-60 : AllShown (short (part 60))
shown-60 = all_shown (short (part 60)) unshown-60

given-65 : differing (part 65) ≡ []
unfolding computing
given-65 = refl

unshown-65 : unshown (short (part 65)) ≡ []
unfolding computing
unshown-65 = refl

shown-65 : AllShown (short (part 65))
shown-65 = all_shown (short (part 65)) unshown-65

given-70 : differing (part 70) ≡ []
unfolding computing
given-70 = refl

unshown-70 : unshown (short (part 70)) ≡ []
unfolding computing
unshown-70 = refl

shown-70 : AllShown (short (part 70))
shown-70 = all_shown (short (part 70)) unshown-70

given-75 : differing (part 75) ≡ []
unfolding computing
given-75 = refl

unshown-75 : unshown (short (part 75)) ≡ []
unfolding computing
unshown-75 = refl

shown-75 : AllShown (short (part 75))
shown-75 = all_shown (short (part 75)) unshown-75

given-80 : differing (part 80) ≡ []
unfolding computing
given-80 = refl

unshown-80 : unshown (short (part 80)) ≡ []
unfolding computing
unshown-80 = refl

shown-80 : AllShown (short (part 80))
shown-80 = all_shown (short (part 80)) unshown-80

given-85 : differing (part 85) ≡ []
unfolding computing
given-85 = refl

unshown-85 : unshown (short (part 85)) ≡ []
unfolding computing
unshown-85 = refl

shown-85 : AllShown (short (part 85))
shown-85 = all_shown (short (part 85)) unshown-85

given-90 : differing (part 90) ≡ []
unfolding computing
given-90 = refl

unshown-90 : unshown (short (part 90)) ≡ []
unfolding computing
unshown-90 = refl

shown-90 : AllShown (short (part 90))
shown-90 = all_shown (short (part 90)) unshown-90

given-95 : differing (part 95) ≡ []
unfolding computing
given-95 = refl

unshown-95 : unshown (short (part 95)) ≡ []
unfolding computing
unshown-95 = refl

shown-95 : AllShown (short (part 95))
shown-95 = all_shown (short (part 95)) unshown-95

given-100 : differing (part 100) ≡ []
unfolding computing
given-100 = refl

unshown-100 : unshown (short (part 100)) ≡ []
unfolding computing
unshown-100 = refl

shown-100 : AllShown (short (part 100))
shown-100 = all_shown (short (part 100)) unshown-100

given-105 : differing from_105 ≡ []
unfolding computing
given-105 = refl

unshown-105 : unshown (short from_105) ≡ []
unfolding computing
unshown-105 = refl

shown-105 : AllShown (short from_105)
shown-105 = all_shown (short from_105) unshown-105

pub returns-clause-given : goal.returns-clause-given
returns-clause-given c = subst (λ rows. differing rows ≡ []) all-rows
    (both_given (part 0) from_5 given-0
    (both_given (part 5) from_10 given-5
    (both_given (part 10) from_15 given-10
    (both_given (part 15) from_20 given-15
    (both_given (part 20) from_25 given-20
    (both_given (part 25) from_30 given-25
    (both_given (part 30) from_35 given-30
    (both_given (part 35) from_40 given-35
    (both_given (part 40) from_45 given-40
    (both_given (part 45) from_50 given-45
    (both_given (part 50) from_55 given-50
    (both_given (part 55) from_60 given-55
    (both_given (part 60) from_65 given-60
    (both_given (part 65) from_70 given-65
    (both_given (part 70) from_75 given-70
    (both_given (part 75) from_80 given-75
    (both_given (part 80) from_85 given-80
    (both_given (part 85) from_90 given-85
    (both_given (part 90) from_95 given-90
    (both_given (part 95) from_100 given-95
    (both_given (part 100) from_105 given-100 given-105)))))))))))))))))))))

pub returns-clause-shown : goal.returns-clause-shown
returns-clause-shown c = subst (λ rows. AllShown (short rows)) all-rows
    (both_shown (part 0) from_5 shown-0
    (both_shown (part 5) from_10 shown-5
    (both_shown (part 10) from_15 shown-10
    (both_shown (part 15) from_20 shown-15
    (both_shown (part 20) from_25 shown-20
    (both_shown (part 25) from_30 shown-25
    (both_shown (part 30) from_35 shown-30
    (both_shown (part 35) from_40 shown-35
    (both_shown (part 40) from_45 shown-40
    (both_shown (part 45) from_50 shown-45
    (both_shown (part 50) from_55 shown-50
    (both_shown (part 55) from_60 shown-55
    (both_shown (part 60) from_65 shown-60
    (both_shown (part 65) from_70 shown-65
    (both_shown (part 70) from_75 shown-70
    (both_shown (part 75) from_80 shown-75
    (both_shown (part 80) from_85 shown-80
    (both_shown (part 85) from_90 shown-85
    (both_shown (part 90) from_95 shown-90
    (both_shown (part 95) from_100 shown-95
    (both_shown (part 100) from_105 shown-100 shown-105)))))))))))))))))))))
