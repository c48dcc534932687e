use Rattle.std.proofs.Common.{◌≡◌, ℕ, [], ◌++◌, List, drop, refl, subst, take}
use Rattle.worked_rows.specs.Modal.{modal_rows}
use Rattle.worked_rows.specs.Playing.{Row, differing}
use Rattle.worked_rows.specs.Showing.{AllShown, short, unshown}
use Rattle.worked_rows.proofs.Computing.{computing}
use Rattle.worked_rows.proofs.ShownLemmas.{all_shown, both_given, both_shown}
use Rattle.worked_rows.proofs.modal.Goals as goal

-- some rows at a time: one computation takes only so many steps
abbrev part : ℕ → List Row
part n = take 1 (drop n modal_rows)

abbrev from_128 : List Row
from_128 = drop 128 modal_rows

abbrev from_127 : List Row
from_127 = part 127 ++ from_128

abbrev from_126 : List Row
from_126 = part 126 ++ from_127

abbrev from_125 : List Row
from_125 = part 125 ++ from_126

abbrev from_124 : List Row
from_124 = part 124 ++ from_125

abbrev from_123 : List Row
from_123 = part 123 ++ from_124

abbrev from_122 : List Row
from_122 = part 122 ++ from_123

abbrev from_121 : List Row
from_121 = part 121 ++ from_122

abbrev from_120 : List Row
from_120 = part 120 ++ from_121

abbrev from_119 : List Row
from_119 = part 119 ++ from_120

abbrev from_118 : List Row
from_118 = part 118 ++ from_119

abbrev from_117 : List Row
from_117 = part 117 ++ from_118

abbrev from_116 : List Row
from_116 = part 116 ++ from_117

abbrev from_115 : List Row
from_115 = part 115 ++ from_116

abbrev from_114 : List Row
from_114 = part 114 ++ from_115

abbrev from_113 : List Row
from_113 = part 113 ++ from_114

abbrev from_112 : List Row
from_112 = part 112 ++ from_113

abbrev from_111 : List Row
from_111 = part 111 ++ from_112

abbrev from_110 : List Row
from_110 = part 110 ++ from_111

abbrev from_109 : List Row
from_109 = part 109 ++ from_110

abbrev from_108 : List Row
from_108 = part 108 ++ from_109

abbrev from_107 : List Row
from_107 = part 107 ++ from_108

abbrev from_106 : List Row
from_106 = part 106 ++ from_107

abbrev from_105 : List Row
from_105 = part 105 ++ from_106

abbrev from_104 : List Row
from_104 = part 104 ++ from_105

abbrev from_103 : List Row
from_103 = part 103 ++ from_104

abbrev from_102 : List Row
from_102 = part 102 ++ from_103

abbrev from_101 : List Row
from_101 = part 101 ++ from_102

abbrev from_100 : List Row
from_100 = part 100 ++ from_101

abbrev from_99 : List Row
from_99 = part 99 ++ from_100

abbrev from_98 : List Row
from_98 = part 98 ++ from_99

abbrev from_97 : List Row
from_97 = part 97 ++ from_98

abbrev from_96 : List Row
from_96 = part 96 ++ from_97

abbrev from_95 : List Row
from_95 = part 95 ++ from_96

abbrev from_94 : List Row
from_94 = part 94 ++ from_95

abbrev from_93 : List Row
from_93 = part 93 ++ from_94

abbrev from_92 : List Row
from_92 = part 92 ++ from_93

abbrev from_91 : List Row
from_91 = part 91 ++ from_92

abbrev from_90 : List Row
from_90 = part 90 ++ from_91

abbrev from_89 : List Row
from_89 = part 89 ++ from_90

abbrev from_88 : List Row
from_88 = part 88 ++ from_89

abbrev from_87 : List Row
from_87 = part 87 ++ from_88

abbrev from_86 : List Row
from_86 = part 86 ++ from_87

abbrev from_85 : List Row
from_85 = part 85 ++ from_86

abbrev from_84 : List Row
from_84 = part 84 ++ from_85

abbrev from_83 : List Row
from_83 = part 83 ++ from_84

abbrev from_82 : List Row
from_82 = part 82 ++ from_83

abbrev from_81 : List Row
from_81 = part 81 ++ from_82

abbrev from_80 : List Row
from_80 = part 80 ++ from_81

abbrev from_79 : List Row
from_79 = part 79 ++ from_80

abbrev from_78 : List Row
from_78 = part 78 ++ from_79

abbrev from_77 : List Row
from_77 = part 77 ++ from_78

abbrev from_76 : List Row
from_76 = part 76 ++ from_77

abbrev from_75 : List Row
from_75 = part 75 ++ from_76

abbrev from_74 : List Row
from_74 = part 74 ++ from_75

abbrev from_73 : List Row
from_73 = part 73 ++ from_74

abbrev from_72 : List Row
from_72 = part 72 ++ from_73

abbrev from_71 : List Row
from_71 = part 71 ++ from_72

abbrev from_70 : List Row
from_70 = part 70 ++ from_71

abbrev from_69 : List Row
from_69 = part 69 ++ from_70

abbrev from_68 : List Row
from_68 = part 68 ++ from_69

abbrev from_67 : List Row
from_67 = part 67 ++ from_68

abbrev from_66 : List Row
from_66 = part 66 ++ from_67

abbrev from_65 : List Row
from_65 = part 65 ++ from_66

abbrev from_64 : List Row
from_64 = part 64 ++ from_65

abbrev from_63 : List Row
from_63 = part 63 ++ from_64

abbrev from_62 : List Row
from_62 = part 62 ++ from_63

abbrev from_61 : List Row
from_61 = part 61 ++ from_62

abbrev from_60 : List Row
from_60 = part 60 ++ from_61

abbrev from_59 : List Row
from_59 = part 59 ++ from_60

abbrev from_58 : List Row
from_58 = part 58 ++ from_59

abbrev from_57 : List Row
from_57 = part 57 ++ from_58

abbrev from_56 : List Row
from_56 = part 56 ++ from_57

abbrev from_55 : List Row
from_55 = part 55 ++ from_56

abbrev from_54 : List Row
from_54 = part 54 ++ from_55

abbrev from_53 : List Row
from_53 = part 53 ++ from_54

abbrev from_52 : List Row
from_52 = part 52 ++ from_53

abbrev from_51 : List Row
from_51 = part 51 ++ from_52

abbrev from_50 : List Row
from_50 = part 50 ++ from_51

abbrev from_49 : List Row
from_49 = part 49 ++ from_50

abbrev from_48 : List Row
from_48 = part 48 ++ from_49

abbrev from_47 : List Row
from_47 = part 47 ++ from_48

abbrev from_46 : List Row
from_46 = part 46 ++ from_47

abbrev from_45 : List Row
from_45 = part 45 ++ from_46

abbrev from_44 : List Row
from_44 = part 44 ++ from_45

abbrev from_43 : List Row
from_43 = part 43 ++ from_44

abbrev from_42 : List Row
from_42 = part 42 ++ from_43

abbrev from_41 : List Row
from_41 = part 41 ++ from_42

abbrev from_40 : List Row
from_40 = part 40 ++ from_41

abbrev from_39 : List Row
from_39 = part 39 ++ from_40

abbrev from_38 : List Row
from_38 = part 38 ++ from_39

abbrev from_37 : List Row
from_37 = part 37 ++ from_38

abbrev from_36 : List Row
from_36 = part 36 ++ from_37

abbrev from_35 : List Row
from_35 = part 35 ++ from_36

abbrev from_34 : List Row
from_34 = part 34 ++ from_35

abbrev from_33 : List Row
from_33 = part 33 ++ from_34

abbrev from_32 : List Row
from_32 = part 32 ++ from_33

abbrev from_31 : List Row
from_31 = part 31 ++ from_32

abbrev from_30 : List Row
from_30 = part 30 ++ from_31

abbrev from_29 : List Row
from_29 = part 29 ++ from_30

abbrev from_28 : List Row
from_28 = part 28 ++ from_29

abbrev from_27 : List Row
from_27 = part 27 ++ from_28

abbrev from_26 : List Row
from_26 = part 26 ++ from_27

abbrev from_25 : List Row
from_25 = part 25 ++ from_26

abbrev from_24 : List Row
from_24 = part 24 ++ from_25

abbrev from_23 : List Row
from_23 = part 23 ++ from_24

abbrev from_22 : List Row
from_22 = part 22 ++ from_23

abbrev from_21 : List Row
from_21 = part 21 ++ from_22

abbrev from_20 : List Row
from_20 = part 20 ++ from_21

abbrev from_19 : List Row
from_19 = part 19 ++ from_20

abbrev from_18 : List Row
from_18 = part 18 ++ from_19

abbrev from_17 : List Row
from_17 = part 17 ++ from_18

abbrev from_16 : List Row
from_16 = part 16 ++ from_17

abbrev from_15 : List Row
from_15 = part 15 ++ from_16

abbrev from_14 : List Row
from_14 = part 14 ++ from_15

abbrev from_13 : List Row
from_13 = part 13 ++ from_14

abbrev from_12 : List Row
from_12 = part 12 ++ from_13

abbrev from_11 : List Row
from_11 = part 11 ++ from_12

abbrev from_10 : List Row
from_10 = part 10 ++ from_11

abbrev from_9 : List Row
from_9 = part 9 ++ from_10

abbrev from_8 : List Row
from_8 = part 8 ++ from_9

abbrev from_7 : List Row
from_7 = part 7 ++ from_8

abbrev from_6 : List Row
from_6 = part 6 ++ from_7

abbrev from_5 : List Row
from_5 = part 5 ++ from_6

abbrev from_4 : List Row
from_4 = part 4 ++ from_5

abbrev from_3 : List Row
from_3 = part 3 ++ from_4

abbrev from_2 : List Row
from_2 = part 2 ++ from_3

abbrev from_1 : List Row
from_1 = part 1 ++ from_2

abbrev from_0 : List Row
from_0 = part 0 ++ from_1

all-rows : from_0 ≡ modal_rows
all-rows = refl

given-0 : differing (part 0) ≡ []
unfolding computing
given-0 = refl

unshown-0 : unshown (short (part 0)) ≡ []
unfolding computing
unshown-0 = refl

shown-0 : AllShown (short (part 0))
shown-0 = all_shown (short (part 0)) unshown-0

given-1 : differing (part 1) ≡ []
unfolding computing
given-1 = refl

unshown-1 : unshown (short (part 1)) ≡ []
unfolding computing
unshown-1 = refl

shown-1 : AllShown (short (part 1))
shown-1 = all_shown (short (part 1)) unshown-1

given-2 : differing (part 2) ≡ []
unfolding computing
given-2 = refl

unshown-2 : unshown (short (part 2)) ≡ []
unfolding computing
unshown-2 = refl

shown-2 : AllShown (short (part 2))
shown-2 = all_shown (short (part 2)) unshown-2

given-3 : differing (part 3) ≡ []
unfolding computing
given-3 = refl

unshown-3 : unshown (short (part 3)) ≡ []
unfolding computing
unshown-3 = refl

shown-3 : AllShown (short (part 3))
shown-3 = all_shown (short (part 3)) unshown-3

given-4 : differing (part 4) ≡ []
unfolding computing
given-4 = refl

unshown-4 : unshown (short (part 4)) ≡ []
unfolding computing
unshown-4 = refl

shown-4 : AllShown (short (part 4))
shown-4 = all_shown (short (part 4)) unshown-4

given-5 : differing (part 5) ≡ []
unfolding computing
given-5 = refl

unshown-5 : unshown (short (part 5)) ≡ []
unfolding computing
unshown-5 = refl

shown-5 : AllShown (short (part 5))
shown-5 = all_shown (short (part 5)) unshown-5

given-6 : differing (part 6) ≡ []
unfolding computing
given-6 = refl

unshown-6 : unshown (short (part 6)) ≡ []
unfolding computing
unshown-6 = refl

shown-6 : AllShown (short (part 6))
shown-6 = all_shown (short (part 6)) unshown-6

given-7 : differing (part 7) ≡ []
unfolding computing
given-7 = refl

unshown-7 : unshown (short (part 7)) ≡ []
unfolding computing
unshown-7 = refl

shown-7 : AllShown (short (part 7))
shown-7 = all_shown (short (part 7)) unshown-7

given-8 : differing (part 8) ≡ []
unfolding computing
given-8 = refl

unshown-8 : unshown (short (part 8)) ≡ []
unfolding computing
unshown-8 = refl

shown-8 : AllShown (short (part 8))
shown-8 = all_shown (short (part 8)) unshown-8

given-9 : differing (part 9) ≡ []
unfolding computing
given-9 = refl

unshown-9 : unshown (short (part 9)) ≡ []
unfolding computing
unshown-9 = refl

shown-9 : AllShown (short (part 9))
shown-9 = all_shown (short (part 9)) unshown-9

given-10 : differing (part 10) ≡ []
unfolding computing
given-10 = refl

unshown-10 : unshown (short (part 10)) ≡ []
unfolding computing
unshown-10 = refl

shown-10 : AllShown (short (part 10))
shown-10 = all_shown (short (part 10)) unshown-10

given-11 : differing (part 11) ≡ []
unfolding computing
given-11 = refl

unshown-11 : unshown (short (part 11)) ≡ []
unfolding computing
unshown-11 = refl

shown-11 : AllShown (short (part 11))
shown-11 = all_shown (short (part 11)) unshown-11

given-12 : differing (part 12) ≡ []
unfolding computing
given-12 = refl

unshown-12 : unshown (short (part 12)) ≡ []
unfolding computing
unshown-12 = refl

shown-12 : AllShown (short (part 12))
shown-12 = all_shown (short (part 12)) unshown-12

given-13 : differing (part 13) ≡ []
unfolding computing
given-13 = refl

unshown-13 : unshown (short (part 13)) ≡ []
unfolding computing
unshown-13 = refl

shown-13 : AllShown (short (part 13))
shown-13 = all_shown (short (part 13)) unshown-13

given-14 : differing (part 14) ≡ []
unfolding computing
given-14 = refl

unshown-14 : unshown (short (part 14)) ≡ []
unfolding computing
unshown-14 = refl

shown-14 : AllShown (short (part 14))
shown-14 = all_shown (short (part 14)) unshown-14

given-15 : differing (part 15) ≡ []
unfolding computing
given-15 = refl

unshown-15 : unshown (short (part 15)) ≡ []
unfolding computing
unshown-15 = refl

shown-15 : AllShown (short (part 15))
shown-15 = all_shown (short (part 15)) unshown-15

given-16 : differing (part 16) ≡ []
unfolding computing
given-16 = refl

unshown-16 : unshown (short (part 16)) ≡ []
unfolding computing
unshown-16 = refl

shown-16 : AllShown (short (part 16))
shown-16 = all_shown (short (part 16)) unshown-16

given-17 : differing (part 17) ≡ []
unfolding computing
given-17 = refl

unshown-17 : unshown (short (part 17)) ≡ []
unfolding computing
unshown-17 = refl

shown-17 : AllShown (short (part 17))
shown-17 = all_shown (short (part 17)) unshown-17

given-18 : differing (part 18) ≡ []
unfolding computing
given-18 = refl

unshown-18 : unshown (short (part 18)) ≡ []
unfolding computing
unshown-18 = refl

shown-18 : AllShown (short (part 18))
shown-18 = all_shown (short (part 18)) unshown-18

given-19 : differing (part 19) ≡ []
unfolding computing
given-19 = refl

unshown-19 : unshown (short (part 19)) ≡ []
unfolding computing
unshown-19 = refl

shown-19 : AllShown (short (part 19))
shown-19 = all_shown (short (part 19)) unshown-19

given-20 : differing (part 20) ≡ []
unfolding computing
given-20 = refl

unshown-20 : unshown (short (part 20)) ≡ []
unfolding computing
unshown-20 = refl

shown-20 : AllShown (short (part 20))
shown-20 = all_shown (short (part 20)) unshown-20

given-21 : differing (part 21) ≡ []
unfolding computing
given-21 = refl

unshown-21 : unshown (short (part 21)) ≡ []
unfolding computing
unshown-21 = refl

shown-21 : AllShown (short (part 21))
shown-21 = all_shown (short (part 21)) unshown-21

given-22 : differing (part 22) ≡ []
unfolding computing
given-22 = refl

unshown-22 : unshown (short (part 22)) ≡ []
unfolding computing
unshown-22 = refl

shown-22 : AllShown (short (part 22))
shown-22 = all_shown (short (part 22)) unshown-22

given-23 : differing (part 23) ≡ []
unfolding computing
given-23 = refl

unshown-23 : unshown (short (part 23)) ≡ []
unfolding computing
unshown-23 = refl

shown-23 : AllShown (short (part 23))
shown-23 = all_shown (short (part 23)) unshown-23

given-24 : differing (part 24) ≡ []
unfolding computing
given-24 = refl

unshown-24 : unshown (short (part 24)) ≡ []
unfolding computing
unshown-24 = refl

shown-24 : AllShown (short (part 24))
shown-24 = all_shown (short (part 24)) unshown-24

given-25 : differing (part 25) ≡ []
unfolding computing
given-25 = refl

unshown-25 : unshown (short (part 25)) ≡ []
unfolding computing
unshown-25 = refl

shown-25 : AllShown (short (part 25))
shown-25 = all_shown (short (part 25)) unshown-25

given-26 : differing (part 26) ≡ []
unfolding computing
given-26 = refl

unshown-26 : unshown (short (part 26)) ≡ []
unfolding computing
unshown-26 = refl

shown-26 : AllShown (short (part 26))
shown-26 = all_shown (short (part 26)) unshown-26

given-27 : differing (part 27) ≡ []
unfolding computing
given-27 = refl

unshown-27 : unshown (short (part 27)) ≡ []
unfolding computing
unshown-27 = refl

shown-27 : AllShown (short (part 27))
shown-27 = all_shown (short (part 27)) unshown-27

given-28 : differing (part 28) ≡ []
unfolding computing
given-28 = refl

unshown-28 : unshown (short (part 28)) ≡ []
unfolding computing
unshown-28 = refl

shown-28 : AllShown (short (part 28))
shown-28 = all_shown (short (part 28)) unshown-28

given-29 : differing (part 29) ≡ []
unfolding computing
given-29 = refl

unshown-29 : unshown (short (part 29)) ≡ []
unfolding computing
unshown-29 = refl

shown-29 : AllShown (short (part 29))
shown-29 = all_shown (short (part 29)) unshown-29

given-30 : differing (part 30) ≡ []
unfolding computing
given-30 = refl

unshown-30 : unshown (short (part 30)) ≡ []
unfolding computing
unshown-30 = refl

shown-30 : AllShown (short (part 30))
shown-30 = all_shown (short (part 30)) unshown-30

given-31 : differing (part 31) ≡ []
unfolding computing
given-31 = refl

unshown-31 : unshown (short (part 31)) ≡ []
unfolding computing
unshown-31 = refl

shown-31 : AllShown (short (part 31))
shown-31 = all_shown (short (part 31)) unshown-31

given-32 : differing (part 32) ≡ []
unfolding computing
given-32 = refl

unshown-32 : unshown (short (part 32)) ≡ []
unfolding computing
unshown-32 = refl

shown-32 : AllShown (short (part 32))
shown-32 = all_shown (short (part 32)) unshown-32

given-33 : differing (part 33) ≡ []
unfolding computing
given-33 = refl

unshown-33 : unshown (short (part 33)) ≡ []
unfolding computing
unshown-33 = refl

shown-33 : AllShown (short (part 33))
shown-33 = all_shown (short (part 33)) unshown-33

given-34 : differing (part 34) ≡ []
unfolding computing
given-34 = refl

unshown-34 : unshown (short (part 34)) ≡ []
unfolding computing
unshown-34 = refl

shown-34 : AllShown (short (part 34))
shown-34 = all_shown (short (part 34)) unshown-34

given-35 : differing (part 35) ≡ []
unfolding computing
given-35 = refl

unshown-35 : unshown (short (part 35)) ≡ []
unfolding computing
unshown-35 = refl

shown-35 : AllShown (short (part 35))
shown-35 = all_shown (short (part 35)) unshown-35

given-36 : differing (part 36) ≡ []
unfolding computing
given-36 = refl

unshown-36 : unshown (short (part 36)) ≡ []
unfolding computing
unshown-36 = refl

shown-36 : AllShown (short (part 36))
shown-36 = all_shown (short (part 36)) unshown-36

given-37 : differing (part 37) ≡ []
unfolding computing
given-37 = refl

unshown-37 : unshown (short (part 37)) ≡ []
unfolding computing
unshown-37 = refl

shown-37 : AllShown (short (part 37))
shown-37 = all_shown (short (part 37)) unshown-37

given-38 : differing (part 38) ≡ []
unfolding computing
given-38 = refl

unshown-38 : unshown (short (part 38)) ≡ []
unfolding computing
unshown-38 = refl

shown-38 : AllShown (short (part 38))
shown-38 = all_shown (short (part 38)) unshown-38

given-39 : differing (part 39) ≡ []
unfolding computing
given-39 = refl

unshown-39 : unshown (short (part 39)) ≡ []
unfolding computing
unshown-39 = refl

shown-39 : AllShown (short (part 39))
shown-39 = all_shown (short (part 39)) unshown-39

given-40 : differing (part 40) ≡ []
unfolding computing
given-40 = refl

unshown-40 : unshown (short (part 40)) ≡ []
unfolding computing
unshown-40 = refl

shown-40 : AllShown (short (part 40))
shown-40 = all_shown (short (part 40)) unshown-40

given-41 : differing (part 41) ≡ []
unfolding computing
given-41 = refl

unshown-41 : unshown (short (part 41)) ≡ []
unfolding computing
unshown-41 = refl

shown-41 : AllShown (short (part 41))
shown-41 = all_shown (short (part 41)) unshown-41

given-42 : differing (part 42) ≡ []
unfolding computing
given-42 = refl

unshown-42 : unshown (short (part 42)) ≡ []
unfolding computing
unshown-42 = refl

shown-42 : AllShown (short (part 42))
shown-42 = all_shown (short (part 42)) unshown-42

given-43 : differing (part 43) ≡ []
unfolding computing
given-43 = refl

unshown-43 : unshown (short (part 43)) ≡ []
unfolding computing
unshown-43 = refl

shown-43 : AllShown (short (part 43))
shown-43 = all_shown (short (part 43)) unshown-43

given-44 : differing (part 44) ≡ []
unfolding computing
given-44 = refl

unshown-44 : unshown (short (part 44)) ≡ []
unfolding computing
unshown-44 = refl

shown-44 : AllShown (short (part 44))
shown-44 = all_shown (short (part 44)) unshown-44

given-45 : differing (part 45) ≡ []
unfolding computing
given-45 = refl

unshown-45 : unshown (short (part 45)) ≡ []
unfolding computing
unshown-45 = refl

shown-45 : AllShown (short (part 45))
shown-45 = all_shown (short (part 45)) unshown-45

given-46 : differing (part 46) ≡ []
unfolding computing
given-46 = refl

unshown-46 : unshown (short (part 46)) ≡ []
unfolding computing
unshown-46 = refl

shown-46 : AllShown (short (part 46))
shown-46 = all_shown (short (part 46)) unshown-46

given-47 : differing (part 47) ≡ []
unfolding computing
given-47 = refl

unshown-47 : unshown (short (part 47)) ≡ []
unfolding computing
unshown-47 = refl

shown-47 : AllShown (short (part 47))
shown-47 = all_shown (short (part 47)) unshown-47

given-48 : differing (part 48) ≡ []
unfolding computing
given-48 = refl

unshown-48 : unshown (short (part 48)) ≡ []
unfolding computing
unshown-48 = refl

shown-48 : AllShown (short (part 48))
shown-48 = all_shown (short (part 48)) unshown-48

given-49 : differing (part 49) ≡ []
unfolding computing
given-49 = refl

unshown-49 : unshown (short (part 49)) ≡ []
unfolding computing
unshown-49 = refl

shown-49 : AllShown (short (part 49))
shown-49 = all_shown (short (part 49)) unshown-49

given-50 : differing (part 50) ≡ []
unfolding computing
given-50 = refl

unshown-50 : unshown (short (part 50)) ≡ []
unfolding computing
unshown-50 = refl

shown-50 : AllShown (short (part 50))
shown-50 = all_shown (short (part 50)) unshown-50

given-51 : differing (part 51) ≡ []
unfolding computing
given-51 = refl

unshown-51 : unshown (short (part 51)) ≡ []
unfolding computing
unshown-51 = refl

shown-51 : AllShown (short (part 51))
shown-51 = all_shown (short (part 51)) unshown-51

given-52 : differing (part 52) ≡ []
unfolding computing
given-52 = refl

unshown-52 : unshown (short (part 52)) ≡ []
unfolding computing
unshown-52 = refl

shown-52 : AllShown (short (part 52))
shown-52 = all_shown (short (part 52)) unshown-52

given-53 : differing (part 53) ≡ []
unfolding computing
given-53 = refl

unshown-53 : unshown (short (part 53)) ≡ []
unfolding computing
unshown-53 = refl

shown-53 : AllShown (short (part 53))
shown-53 = all_shown (short (part 53)) unshown-53

given-54 : differing (part 54) ≡ []
unfolding computing
given-54 = refl

unshown-54 : unshown (short (part 54)) ≡ []
unfolding computing
unshown-54 = refl

shown-54 : AllShown (short (part 54))
shown-54 = all_shown (short (part 54)) unshown-54

given-55 : differing (part 55) ≡ []
unfolding computing
given-55 = refl

unshown-55 : unshown (short (part 55)) ≡ []
unfolding computing
unshown-55 = refl

shown-55 : AllShown (short (part 55))
shown-55 = all_shown (short (part 55)) unshown-55

given-56 : differing (part 56) ≡ []
unfolding computing
given-56 = refl

unshown-56 : unshown (short (part 56)) ≡ []
unfolding computing
unshown-56 = refl

shown-56 : AllShown (short (part 56))
shown-56 = all_shown (short (part 56)) unshown-56

given-57 : differing (part 57) ≡ []
unfolding computing
given-57 = refl

unshown-57 : unshown (short (part 57)) ≡ []
unfolding computing
unshown-57 = refl

shown-57 : AllShown (short (part 57))
shown-57 = all_shown (short (part 57)) unshown-57

given-58 : differing (part 58) ≡ []
unfolding computing
given-58 = refl

unshown-58 : unshown (short (part 58)) ≡ []
unfolding computing
unshown-58 = refl

shown-58 : AllShown (short (part 58))
shown-58 = all_shown (short (part 58)) unshown-58

given-59 : differing (part 59) ≡ []
unfolding computing
given-59 = refl

unshown-59 : unshown (short (part 59)) ≡ []
unfolding computing
unshown-59 = refl

shown-59 : AllShown (short (part 59))
shown-59 = all_shown (short (part 59)) unshown-59

given-60 : differing (part 60) ≡ []
unfolding computing
given-60 = refl

unshown-60 : unshown (short (part 60)) ≡ []
unfolding computing
unshown-60 = refl

shown-60 : AllShown (short (part 60))
shown-60 = all_shown (short (part 60)) unshown-60

given-61 : differing (part 61) ≡ []
unfolding computing
given-61 = refl

unshown-61 : unshown (short (part 61)) ≡ []
unfolding computing
unshown-61 = refl

shown-61 : AllShown (short (part 61))
shown-61 = all_shown (short (part 61)) unshown-61

given-62 : differing (part 62) ≡ []
unfolding computing
given-62 = refl

unshown-62 : unshown (short (part 62)) ≡ []
unfolding computing
unshown-62 = refl

shown-62 : AllShown (short (part 62))
shown-62 = all_shown (short (part 62)) unshown-62

given-63 : differing (part 63) ≡ []
unfolding computing
given-63 = refl

unshown-63 : unshown (short (part 63)) ≡ []
unfolding computing
unshown-63 = refl

shown-63 : AllShown (short (part 63))
shown-63 = all_shown (short (part 63)) unshown-63

given-64 : differing (part 64) ≡ []
unfolding computing
given-64 = refl

unshown-64 : unshown (short (part 64)) ≡ []
unfolding computing
unshown-64 = refl

shown-64 : AllShown (short (part 64))
shown-64 = all_shown (short (part 64)) unshown-64

given-65 : differing (part 65) ≡ []
unfolding computing
given-65 = refl

unshown-65 : unshown (short (part 65)) ≡ []
unfolding computing
unshown-65 = refl

shown-65 : AllShown (short (part 65))
shown-65 = all_shown (short (part 65)) unshown-65

given-66 : differing (part 66) ≡ []
unfolding computing
given-66 = refl

unshown-66 : unshown (short (part 66)) ≡ []
unfolding computing
unshown-66 = refl

shown-66 : AllShown (short (part 66))
shown-66 = all_shown (short (part 66)) unshown-66

given-67 : differing (part 67) ≡ []
unfolding computing
given-67 = refl

unshown-67 : unshown (short (part 67)) ≡ []
unfolding computing
unshown-67 = refl

shown-67 : AllShown (short (part 67))
shown-67 = all_shown (short (part 67)) unshown-67

given-68 : differing (part 68) ≡ []
unfolding computing
given-68 = refl

unshown-68 : unshown (short (part 68)) ≡ []
unfolding computing
unshown-68 = refl

shown-68 : AllShown (short (part 68))
shown-68 = all_shown (short (part 68)) unshown-68

given-69 : differing (part 69) ≡ []
unfolding computing
given-69 = refl

unshown-69 : unshown (short (part 69)) ≡ []
unfolding computing
unshown-69 = refl

shown-69 : AllShown (short (part 69))
shown-69 = all_shown (short (part 69)) unshown-69

given-70 : differing (part 70) ≡ []
unfolding computing
given-70 = refl

unshown-70 : unshown (short (part 70)) ≡ []
unfolding computing
unshown-70 = refl

shown-70 : AllShown (short (part 70))
shown-70 = all_shown (short (part 70)) unshown-70

given-71 : differing (part 71) ≡ []
unfolding computing
given-71 = refl

unshown-71 : unshown (short (part 71)) ≡ []
unfolding computing
unshown-71 = refl

shown-71 : AllShown (short (part 71))
shown-71 = all_shown (short (part 71)) unshown-71

given-72 : differing (part 72) ≡ []
unfolding computing
given-72 = refl

unshown-72 : unshown (short (part 72)) ≡ []
unfolding computing
unshown-72 = refl

shown-72 : AllShown (short (part 72))
shown-72 = all_shown (short (part 72)) unshown-72

given-73 : differing (part 73) ≡ []
unfolding computing
given-73 = refl

unshown-73 : unshown (short (part 73)) ≡ []
unfolding computing
unshown-73 = refl

shown-73 : AllShown (short (part 73))
shown-73 = all_shown (short (part 73)) unshown-73

given-74 : differing (part 74) ≡ []
unfolding computing
given-74 = refl

unshown-74 : unshown (short (part 74)) ≡ []
unfolding computing
unshown-74 = refl

shown-74 : AllShown (short (part 74))
shown-74 = all_shown (short (part 74)) unshown-74

given-75 : differing (part 75) ≡ []
unfolding computing
given-75 = refl

unshown-75 : unshown (short (part 75)) ≡ []
unfolding computing
unshown-75 = refl

shown-75 : AllShown (short (part 75))
shown-75 = all_shown (short (part 75)) unshown-75

given-76 : differing (part 76) ≡ []
unfolding computing
given-76 = refl

unshown-76 : unshown (short (part 76)) ≡ []
unfolding computing
unshown-76 = refl

shown-76 : AllShown (short (part 76))
shown-76 = all_shown (short (part 76)) unshown-76

given-77 : differing (part 77) ≡ []
unfolding computing
given-77 = refl

unshown-77 : unshown (short (part 77)) ≡ []
unfolding computing
unshown-77 = refl

shown-77 : AllShown (short (part 77))
shown-77 = all_shown (short (part 77)) unshown-77

given-78 : differing (part 78) ≡ []
unfolding computing
given-78 = refl

unshown-78 : unshown (short (part 78)) ≡ []
unfolding computing
unshown-78 = refl

shown-78 : AllShown (short (part 78))
shown-78 = all_shown (short (part 78)) unshown-78

given-79 : differing (part 79) ≡ []
unfolding computing
given-79 = refl

unshown-79 : unshown (short (part 79)) ≡ []
unfolding computing
unshown-79 = refl

shown-79 : AllShown (short (part 79))
shown-79 = all_shown (short (part 79)) unshown-79

given-80 : differing (part 80) ≡ []
unfolding computing
given-80 = refl

unshown-80 : unshown (short (part 80)) ≡ []
unfolding computing
unshown-80 = refl

shown-80 : AllShown (short (part 80))
shown-80 = all_shown (short (part 80)) unshown-80

given-81 : differing (part 81) ≡ []
unfolding computing
given-81 = refl

unshown-81 : unshown (short (part 81)) ≡ []
unfolding computing
unshown-81 = refl

shown-81 : AllShown (short (part 81))
shown-81 = all_shown (short (part 81)) unshown-81

given-82 : differing (part 82) ≡ []
unfolding computing
given-82 = refl

unshown-82 : unshown (short (part 82)) ≡ []
unfolding computing
unshown-82 = refl

shown-82 : AllShown (short (part 82))
shown-82 = all_shown (short (part 82)) unshown-82

given-83 : differing (part 83) ≡ []
unfolding computing
given-83 = refl

unshown-83 : unshown (short (part 83)) ≡ []
unfolding computing
unshown-83 = refl

shown-83 : AllShown (short (part 83))
shown-83 = all_shown (short (part 83)) unshown-83

given-84 : differing (part 84) ≡ []
unfolding computing
given-84 = refl

unshown-84 : unshown (short (part 84)) ≡ []
unfolding computing
unshown-84 = refl

shown-84 : AllShown (short (part 84))
shown-84 = all_shown (short (part 84)) unshown-84

given-85 : differing (part 85) ≡ []
unfolding computing
given-85 = refl

unshown-85 : unshown (short (part 85)) ≡ []
unfolding computing
unshown-85 = refl

shown-85 : AllShown (short (part 85))
shown-85 = all_shown (short (part 85)) unshown-85

given-86 : differing (part 86) ≡ []
unfolding computing
given-86 = refl

unshown-86 : unshown (short (part 86)) ≡ []
unfolding computing
unshown-86 = refl

shown-86 : AllShown (short (part 86))
shown-86 = all_shown (short (part 86)) unshown-86

given-87 : differing (part 87) ≡ []
unfolding computing
given-87 = refl

unshown-87 : unshown (short (part 87)) ≡ []
unfolding computing
unshown-87 = refl

shown-87 : AllShown (short (part 87))
shown-87 = all_shown (short (part 87)) unshown-87

given-88 : differing (part 88) ≡ []
unfolding computing
given-88 = refl

unshown-88 : unshown (short (part 88)) ≡ []
unfolding computing
unshown-88 = refl

shown-88 : AllShown (short (part 88))
shown-88 = all_shown (short (part 88)) unshown-88

given-89 : differing (part 89) ≡ []
unfolding computing
given-89 = refl

unshown-89 : unshown (short (part 89)) ≡ []
unfolding computing
unshown-89 = refl

shown-89 : AllShown (short (part 89))
shown-89 = all_shown (short (part 89)) unshown-89

given-90 : differing (part 90) ≡ []
unfolding computing
given-90 = refl

unshown-90 : unshown (short (part 90)) ≡ []
unfolding computing
unshown-90 = refl

shown-90 : AllShown (short (part 90))
shown-90 = all_shown (short (part 90)) unshown-90

given-91 : differing (part 91) ≡ []
unfolding computing
given-91 = refl

unshown-91 : unshown (short (part 91)) ≡ []
unfolding computing
unshown-91 = refl

shown-91 : AllShown (short (part 91))
shown-91 = all_shown (short (part 91)) unshown-91

given-92 : differing (part 92) ≡ []
unfolding computing
given-92 = refl

unshown-92 : unshown (short (part 92)) ≡ []
unfolding computing
unshown-92 = refl

shown-92 : AllShown (short (part 92))
shown-92 = all_shown (short (part 92)) unshown-92

given-93 : differing (part 93) ≡ []
unfolding computing
given-93 = refl

unshown-93 : unshown (short (part 93)) ≡ []
unfolding computing
unshown-93 = refl

shown-93 : AllShown (short (part 93))
shown-93 = all_shown (short (part 93)) unshown-93

given-94 : differing (part 94) ≡ []
unfolding computing
given-94 = refl

unshown-94 : unshown (short (part 94)) ≡ []
unfolding computing
unshown-94 = refl

shown-94 : AllShown (short (part 94))
shown-94 = all_shown (short (part 94)) unshown-94

given-95 : differing (part 95) ≡ []
unfolding computing
given-95 = refl

unshown-95 : unshown (short (part 95)) ≡ []
unfolding computing
unshown-95 = refl

shown-95 : AllShown (short (part 95))
shown-95 = all_shown (short (part 95)) unshown-95

given-96 : differing (part 96) ≡ []
unfolding computing
given-96 = refl

unshown-96 : unshown (short (part 96)) ≡ []
unfolding computing
unshown-96 = refl

shown-96 : AllShown (short (part 96))
shown-96 = all_shown (short (part 96)) unshown-96

given-97 : differing (part 97) ≡ []
unfolding computing
given-97 = refl

unshown-97 : unshown (short (part 97)) ≡ []
unfolding computing
unshown-97 = refl

shown-97 : AllShown (short (part 97))
shown-97 = all_shown (short (part 97)) unshown-97

given-98 : differing (part 98) ≡ []
unfolding computing
given-98 = refl

unshown-98 : unshown (short (part 98)) ≡ []
unfolding computing
unshown-98 = refl

shown-98 : AllShown (short (part 98))
shown-98 = all_shown (short (part 98)) unshown-98

given-99 : differing (part 99) ≡ []
unfolding computing
given-99 = refl

unshown-99 : unshown (short (part 99)) ≡ []
unfolding computing
unshown-99 = refl

shown-99 : AllShown (short (part 99))
shown-99 = all_shown (short (part 99)) unshown-99

given-100 : differing (part 100) ≡ []
unfolding computing
given-100 = refl

unshown-100 : unshown (short (part 100)) ≡ []
unfolding computing
unshown-100 = refl

shown-100 : AllShown (short (part 100))
shown-100 = all_shown (short (part 100)) unshown-100

given-101 : differing (part 101) ≡ []
unfolding computing
given-101 = refl

unshown-101 : unshown (short (part 101)) ≡ []
unfolding computing
unshown-101 = refl

shown-101 : AllShown (short (part 101))
shown-101 = all_shown (short (part 101)) unshown-101

given-102 : differing (part 102) ≡ []
unfolding computing
given-102 = refl

unshown-102 : unshown (short (part 102)) ≡ []
unfolding computing
unshown-102 = refl

shown-102 : AllShown (short (part 102))
shown-102 = all_shown (short (part 102)) unshown-102

given-103 : differing (part 103) ≡ []
unfolding computing
given-103 = refl

unshown-103 : unshown (short (part 103)) ≡ []
unfolding computing
unshown-103 = refl

shown-103 : AllShown (short (part 103))
shown-103 = all_shown (short (part 103)) unshown-103

given-104 : differing (part 104) ≡ []
unfolding computing
given-104 = refl

unshown-104 : unshown (short (part 104)) ≡ []
unfolding computing
unshown-104 = refl

shown-104 : AllShown (short (part 104))
shown-104 = all_shown (short (part 104)) unshown-104

given-105 : differing (part 105) ≡ []
unfolding computing
given-105 = refl

unshown-105 : unshown (short (part 105)) ≡ []
unfolding computing
unshown-105 = refl

shown-105 : AllShown (short (part 105))
shown-105 = all_shown (short (part 105)) unshown-105

given-106 : differing (part 106) ≡ []
unfolding computing
given-106 = refl

unshown-106 : unshown (short (part 106)) ≡ []
unfolding computing
unshown-106 = refl

shown-106 : AllShown (short (part 106))
shown-106 = all_shown (short (part 106)) unshown-106

given-107 : differing (part 107) ≡ []
unfolding computing
given-107 = refl

unshown-107 : unshown (short (part 107)) ≡ []
unfolding computing
unshown-107 = refl

shown-107 : AllShown (short (part 107))
shown-107 = all_shown (short (part 107)) unshown-107

given-108 : differing (part 108) ≡ []
unfolding computing
given-108 = refl

unshown-108 : unshown (short (part 108)) ≡ []
unfolding computing
unshown-108 = refl

shown-108 : AllShown (short (part 108))
shown-108 = all_shown (short (part 108)) unshown-108

given-109 : differing (part 109) ≡ []
unfolding computing
given-109 = refl

unshown-109 : unshown (short (part 109)) ≡ []
unfolding computing
unshown-109 = refl

shown-109 : AllShown (short (part 109))
shown-109 = all_shown (short (part 109)) unshown-109

given-110 : differing (part 110) ≡ []
unfolding computing
given-110 = refl

unshown-110 : unshown (short (part 110)) ≡ []
unfolding computing
unshown-110 = refl

shown-110 : AllShown (short (part 110))
shown-110 = all_shown (short (part 110)) unshown-110

given-111 : differing (part 111) ≡ []
unfolding computing
given-111 = refl

unshown-111 : unshown (short (part 111)) ≡ []
unfolding computing
unshown-111 = refl

shown-111 : AllShown (short (part 111))
shown-111 = all_shown (short (part 111)) unshown-111

given-112 : differing (part 112) ≡ []
unfolding computing
given-112 = refl

unshown-112 : unshown (short (part 112)) ≡ []
unfolding computing
unshown-112 = refl

shown-112 : AllShown (short (part 112))
shown-112 = all_shown (short (part 112)) unshown-112

given-113 : differing (part 113) ≡ []
unfolding computing
given-113 = refl

unshown-113 : unshown (short (part 113)) ≡ []
unfolding computing
unshown-113 = refl

shown-113 : AllShown (short (part 113))
shown-113 = all_shown (short (part 113)) unshown-113

given-114 : differing (part 114) ≡ []
unfolding computing
given-114 = refl

unshown-114 : unshown (short (part 114)) ≡ []
unfolding computing
unshown-114 = refl

shown-114 : AllShown (short (part 114))
shown-114 = all_shown (short (part 114)) unshown-114

given-115 : differing (part 115) ≡ []
unfolding computing
given-115 = refl

unshown-115 : unshown (short (part 115)) ≡ []
unfolding computing
unshown-115 = refl

shown-115 : AllShown (short (part 115))
shown-115 = all_shown (short (part 115)) unshown-115

given-116 : differing (part 116) ≡ []
unfolding computing
given-116 = refl

unshown-116 : unshown (short (part 116)) ≡ []
unfolding computing
unshown-116 = refl

shown-116 : AllShown (short (part 116))
shown-116 = all_shown (short (part 116)) unshown-116

given-117 : differing (part 117) ≡ []
unfolding computing
given-117 = refl

unshown-117 : unshown (short (part 117)) ≡ []
unfolding computing
unshown-117 = refl

shown-117 : AllShown (short (part 117))
shown-117 = all_shown (short (part 117)) unshown-117

given-118 : differing (part 118) ≡ []
unfolding computing
given-118 = refl

unshown-118 : unshown (short (part 118)) ≡ []
unfolding computing
unshown-118 = refl

shown-118 : AllShown (short (part 118))
shown-118 = all_shown (short (part 118)) unshown-118

given-119 : differing (part 119) ≡ []
unfolding computing
given-119 = refl

unshown-119 : unshown (short (part 119)) ≡ []
unfolding computing
unshown-119 = refl

shown-119 : AllShown (short (part 119))
shown-119 = all_shown (short (part 119)) unshown-119

given-120 : differing (part 120) ≡ []
unfolding computing
given-120 = refl

unshown-120 : unshown (short (part 120)) ≡ []
unfolding computing
unshown-120 = refl

shown-120 : AllShown (short (part 120))
shown-120 = all_shown (short (part 120)) unshown-120

given-121 : differing (part 121) ≡ []
unfolding computing
given-121 = refl

unshown-121 : unshown (short (part 121)) ≡ []
unfolding computing
unshown-121 = refl

shown-121 : AllShown (short (part 121))
shown-121 = all_shown (short (part 121)) unshown-121

given-122 : differing (part 122) ≡ []
unfolding computing
given-122 = refl

unshown-122 : unshown (short (part 122)) ≡ []
unfolding computing
unshown-122 = refl

shown-122 : AllShown (short (part 122))
shown-122 = all_shown (short (part 122)) unshown-122

given-123 : differing (part 123) ≡ []
unfolding computing
given-123 = refl

unshown-123 : unshown (short (part 123)) ≡ []
unfolding computing
unshown-123 = refl

shown-123 : AllShown (short (part 123))
shown-123 = all_shown (short (part 123)) unshown-123

given-124 : differing (part 124) ≡ []
unfolding computing
given-124 = refl

unshown-124 : unshown (short (part 124)) ≡ []
unfolding computing
unshown-124 = refl

shown-124 : AllShown (short (part 124))
shown-124 = all_shown (short (part 124)) unshown-124

given-125 : differing (part 125) ≡ []
unfolding computing
given-125 = refl

unshown-125 : unshown (short (part 125)) ≡ []
unfolding computing
unshown-125 = refl

shown-125 : AllShown (short (part 125))
shown-125 = all_shown (short (part 125)) unshown-125

given-126 : differing (part 126) ≡ []
unfolding computing
given-126 = refl

unshown-126 : unshown (short (part 126)) ≡ []
unfolding computing
unshown-126 = refl

shown-126 : AllShown (short (part 126))
shown-126 = all_shown (short (part 126)) unshown-126

given-127 : differing (part 127) ≡ []
unfolding computing
given-127 = refl

unshown-127 : unshown (short (part 127)) ≡ []
unfolding computing
unshown-127 = refl

shown-127 : AllShown (short (part 127))
shown-127 = all_shown (short (part 127)) unshown-127

given-128 : differing from_128 ≡ []
unfolding computing
given-128 = refl

unshown-128 : unshown (short from_128) ≡ []
unfolding computing
unshown-128 = refl

shown-128 : AllShown (short from_128)
shown-128 = all_shown (short from_128) unshown-128

pub returns-clause-given : goal.returns-clause-given
returns-clause-given c = subst (λ rows. differing rows ≡ []) all-rows
    (both_given (part 0) from_1 given-0
    (both_given (part 1) from_2 given-1
    (both_given (part 2) from_3 given-2
    (both_given (part 3) from_4 given-3
    (both_given (part 4) from_5 given-4
    (both_given (part 5) from_6 given-5
    (both_given (part 6) from_7 given-6
    (both_given (part 7) from_8 given-7
    (both_given (part 8) from_9 given-8
    (both_given (part 9) from_10 given-9
    (both_given (part 10) from_11 given-10
    (both_given (part 11) from_12 given-11
    (both_given (part 12) from_13 given-12
    (both_given (part 13) from_14 given-13
    (both_given (part 14) from_15 given-14
    (both_given (part 15) from_16 given-15
    (both_given (part 16) from_17 given-16
    (both_given (part 17) from_18 given-17
    (both_given (part 18) from_19 given-18
    (both_given (part 19) from_20 given-19
    (both_given (part 20) from_21 given-20
    (both_given (part 21) from_22 given-21
    (both_given (part 22) from_23 given-22
    (both_given (part 23) from_24 given-23
    (both_given (part 24) from_25 given-24
    (both_given (part 25) from_26 given-25
    (both_given (part 26) from_27 given-26
    (both_given (part 27) from_28 given-27
    (both_given (part 28) from_29 given-28
    (both_given (part 29) from_30 given-29
    (both_given (part 30) from_31 given-30
    (both_given (part 31) from_32 given-31
    (both_given (part 32) from_33 given-32
    (both_given (part 33) from_34 given-33
    (both_given (part 34) from_35 given-34
    (both_given (part 35) from_36 given-35
    (both_given (part 36) from_37 given-36
    (both_given (part 37) from_38 given-37
    (both_given (part 38) from_39 given-38
    (both_given (part 39) from_40 given-39
    (both_given (part 40) from_41 given-40
    (both_given (part 41) from_42 given-41
    (both_given (part 42) from_43 given-42
    (both_given (part 43) from_44 given-43
    (both_given (part 44) from_45 given-44
    (both_given (part 45) from_46 given-45
    (both_given (part 46) from_47 given-46
    (both_given (part 47) from_48 given-47
    (both_given (part 48) from_49 given-48
    (both_given (part 49) from_50 given-49
    (both_given (part 50) from_51 given-50
    (both_given (part 51) from_52 given-51
    (both_given (part 52) from_53 given-52
    (both_given (part 53) from_54 given-53
    (both_given (part 54) from_55 given-54
    (both_given (part 55) from_56 given-55
    (both_given (part 56) from_57 given-56
    (both_given (part 57) from_58 given-57
    (both_given (part 58) from_59 given-58
    (both_given (part 59) from_60 given-59
    (both_given (part 60) from_61 given-60
    (both_given (part 61) from_62 given-61
    (both_given (part 62) from_63 given-62
    (both_given (part 63) from_64 given-63
    (both_given (part 64) from_65 given-64
    (both_given (part 65) from_66 given-65
    (both_given (part 66) from_67 given-66
    (both_given (part 67) from_68 given-67
    (both_given (part 68) from_69 given-68
    (both_given (part 69) from_70 given-69
    (both_given (part 70) from_71 given-70
    (both_given (part 71) from_72 given-71
    (both_given (part 72) from_73 given-72
    (both_given (part 73) from_74 given-73
    (both_given (part 74) from_75 given-74
    (both_given (part 75) from_76 given-75
    (both_given (part 76) from_77 given-76
    (both_given (part 77) from_78 given-77
    (both_given (part 78) from_79 given-78
    (both_given (part 79) from_80 given-79
    (both_given (part 80) from_81 given-80
    (both_given (part 81) from_82 given-81
    (both_given (part 82) from_83 given-82
    (both_given (part 83) from_84 given-83
    (both_given (part 84) from_85 given-84
    (both_given (part 85) from_86 given-85
    (both_given (part 86) from_87 given-86
    (both_given (part 87) from_88 given-87
    (both_given (part 88) from_89 given-88
    (both_given (part 89) from_90 given-89
    (both_given (part 90) from_91 given-90
    (both_given (part 91) from_92 given-91
    (both_given (part 92) from_93 given-92
    (both_given (part 93) from_94 given-93
    (both_given (part 94) from_95 given-94
    (both_given (part 95) from_96 given-95
    (both_given (part 96) from_97 given-96
    (both_given (part 97) from_98 given-97
    (both_given (part 98) from_99 given-98
    (both_given (part 99) from_100 given-99
    (both_given (part 100) from_101 given-100
    (both_given (part 101) from_102 given-101
    (both_given (part 102) from_103 given-102
    (both_given (part 103) from_104 given-103
    (both_given (part 104) from_105 given-104
    (both_given (part 105) from_106 given-105
    (both_given (part 106) from_107 given-106
    (both_given (part 107) from_108 given-107
    (both_given (part 108) from_109 given-108
    (both_given (part 109) from_110 given-109
    (both_given (part 110) from_111 given-110
    (both_given (part 111) from_112 given-111
    (both_given (part 112) from_113 given-112
    (both_given (part 113) from_114 given-113
    (both_given (part 114) from_115 given-114
    (both_given (part 115) from_116 given-115
    (both_given (part 116) from_117 given-116
    (both_given (part 117) from_118 given-117
    (both_given (part 118) from_119 given-118
    (both_given (part 119) from_120 given-119
    (both_given (part 120) from_121 given-120
    (both_given (part 121) from_122 given-121
    (both_given (part 122) from_123 given-122
    (both_given (part 123) from_124 given-123
    (both_given (part 124) from_125 given-124
    (both_given (part 125) from_126 given-125
    (both_given (part 126) from_127 given-126
    (both_given (part 127) from_128 given-127 given-128))))))))))))))))))))))))))))))))))))))))))))))))))))))))))))))))))))))))))))))))))))))))))))))))))))))))))))))))))))))))))))))))

pub returns-clause-shown : goal.returns-clause-shown
returns-clause-shown c = subst (λ rows. AllShown (short rows)) all-rows
    (both_shown (part 0) from_1 shown-0
    (both_shown (part 1) from_2 shown-1
    (both_shown (part 2) from_3 shown-2
    (both_shown (part 3) from_4 shown-3
    (both_shown (part 4) from_5 shown-4
    (both_shown (part 5) from_6 shown-5
    (both_shown (part 6) from_7 shown-6
    (both_shown (part 7) from_8 shown-7
    (both_shown (part 8) from_9 shown-8
    (both_shown (part 9) from_10 shown-9
    (both_shown (part 10) from_11 shown-10
    (both_shown (part 11) from_12 shown-11
    (both_shown (part 12) from_13 shown-12
    (both_shown (part 13) from_14 shown-13
    (both_shown (part 14) from_15 shown-14
    (both_shown (part 15) from_16 shown-15
    (both_shown (part 16) from_17 shown-16
    (both_shown (part 17) from_18 shown-17
    (both_shown (part 18) from_19 shown-18
    (both_shown (part 19) from_20 shown-19
    (both_shown (part 20) from_21 shown-20
    (both_shown (part 21) from_22 shown-21
    (both_shown (part 22) from_23 shown-22
    (both_shown (part 23) from_24 shown-23
    (both_shown (part 24) from_25 shown-24
    (both_shown (part 25) from_26 shown-25
    (both_shown (part 26) from_27 shown-26
    (both_shown (part 27) from_28 shown-27
    (both_shown (part 28) from_29 shown-28
    (both_shown (part 29) from_30 shown-29
    (both_shown (part 30) from_31 shown-30
    (both_shown (part 31) from_32 shown-31
    (both_shown (part 32) from_33 shown-32
    (both_shown (part 33) from_34 shown-33
    (both_shown (part 34) from_35 shown-34
    (both_shown (part 35) from_36 shown-35
    (both_shown (part 36) from_37 shown-36
    (both_shown (part 37) from_38 shown-37
    (both_shown (part 38) from_39 shown-38
    (both_shown (part 39) from_40 shown-39
    (both_shown (part 40) from_41 shown-40
    (both_shown (part 41) from_42 shown-41
    (both_shown (part 42) from_43 shown-42
    (both_shown (part 43) from_44 shown-43
    (both_shown (part 44) from_45 shown-44
    (both_shown (part 45) from_46 shown-45
    (both_shown (part 46) from_47 shown-46
    (both_shown (part 47) from_48 shown-47
    (both_shown (part 48) from_49 shown-48
    (both_shown (part 49) from_50 shown-49
    (both_shown (part 50) from_51 shown-50
    (both_shown (part 51) from_52 shown-51
    (both_shown (part 52) from_53 shown-52
    (both_shown (part 53) from_54 shown-53
    (both_shown (part 54) from_55 shown-54
    (both_shown (part 55) from_56 shown-55
    (both_shown (part 56) from_57 shown-56
    (both_shown (part 57) from_58 shown-57
    (both_shown (part 58) from_59 shown-58
    (both_shown (part 59) from_60 shown-59
    (both_shown (part 60) from_61 shown-60
    (both_shown (part 61) from_62 shown-61
    (both_shown (part 62) from_63 shown-62
    (both_shown (part 63) from_64 shown-63
    (both_shown (part 64) from_65 shown-64
    (both_shown (part 65) from_66 shown-65
    (both_shown (part 66) from_67 shown-66
    (both_shown (part 67) from_68 shown-67
    (both_shown (part 68) from_69 shown-68
    (both_shown (part 69) from_70 shown-69
    (both_shown (part 70) from_71 shown-70
    (both_shown (part 71) from_72 shown-71
    (both_shown (part 72) from_73 shown-72
    (both_shown (part 73) from_74 shown-73
    (both_shown (part 74) from_75 shown-74
    (both_shown (part 75) from_76 shown-75
    (both_shown (part 76) from_77 shown-76
    (both_shown (part 77) from_78 shown-77
    (both_shown (part 78) from_79 shown-78
    (both_shown (part 79) from_80 shown-79
    (both_shown (part 80) from_81 shown-80
    (both_shown (part 81) from_82 shown-81
    (both_shown (part 82) from_83 shown-82
    (both_shown (part 83) from_84 shown-83
    (both_shown (part 84) from_85 shown-84
    (both_shown (part 85) from_86 shown-85
    (both_shown (part 86) from_87 shown-86
    (both_shown (part 87) from_88 shown-87
    (both_shown (part 88) from_89 shown-88
    (both_shown (part 89) from_90 shown-89
    (both_shown (part 90) from_91 shown-90
    (both_shown (part 91) from_92 shown-91
    (both_shown (part 92) from_93 shown-92
    (both_shown (part 93) from_94 shown-93
    (both_shown (part 94) from_95 shown-94
    (both_shown (part 95) from_96 shown-95
    (both_shown (part 96) from_97 shown-96
    (both_shown (part 97) from_98 shown-97
    (both_shown (part 98) from_99 shown-98
    (both_shown (part 99) from_100 shown-99
    (both_shown (part 100) from_101 shown-100
    (both_shown (part 101) from_102 shown-101
    (both_shown (part 102) from_103 shown-102
    (both_shown (part 103) from_104 shown-103
    (both_shown (part 104) from_105 shown-104
    (both_shown (part 105) from_106 shown-105
    (both_shown (part 106) from_107 shown-106
    (both_shown (part 107) from_108 shown-107
    (both_shown (part 108) from_109 shown-108
    (both_shown (part 109) from_110 shown-109
    (both_shown (part 110) from_111 shown-110
    (both_shown (part 111) from_112 shown-111
    (both_shown (part 112) from_113 shown-112
    (both_shown (part 113) from_114 shown-113
    (both_shown (part 114) from_115 shown-114
    (both_shown (part 115) from_116 shown-115
    (both_shown (part 116) from_117 shown-116
    (both_shown (part 117) from_118 shown-117
    (both_shown (part 118) from_119 shown-118
    (both_shown (part 119) from_120 shown-119
    (both_shown (part 120) from_121 shown-120
    (both_shown (part 121) from_122 shown-121
    (both_shown (part 122) from_123 shown-122
    (both_shown (part 123) from_124 shown-123
    (both_shown (part 124) from_125 shown-124
    (both_shown (part 125) from_126 shown-125
    (both_shown (part 126) from_127 shown-126
    (both_shown (part 127) from_128 shown-127 shown-128))))))))))))))))))))))))))))))))))))))))))))))))))))))))))))))))))))))))))))))))))))))))))))))))))))))))))))))))))))))))))))))))
