-- The rows of emacs.txt; tests/definition/worked_rows.py writes them.
use Rattle.line_buffer.specs.declared.types.Movement.TheVariants.{BeginningOfBuffer, EndOfBuffer, EndOfLine, LineDown, LineUp, ViFirstPrint, WholeBuffer, WholeLine}
use Rattle.line_config.specs.declared.errors.ReadlineError.TheVariants.{Interrupted}
use Rattle.line_keys.specs.Keys.{ctrl, key_with}
use Rattle.line_keys.specs.declared.command.Cmd.TheVariants.{Dedent, Indent, Kill}
use Rattle.line_keys.specs.declared.events.Event.TheVariants.{KeySeq}
use Rattle.line_keys.specs.declared.key.KeyCode.TheVariants.{Char}
use Rattle.std.specs.Prelude.{List, [], ◌∷◌, ◌++◌, None, Some, true, codes, encode_utf8_all}
use Rattle.worked_rows.specs.Playing.{Row, row}
use Rattle.worked_rows.specs.Settings.{Settings, adding, aide, bound, command, plain}

-- abc Enter = abc
abbrev pub row_5 : Row
row_5 = row 5 plain (codes "abc\r") (codes "abc\n")

-- Enter Enter = "" ""
abbrev pub row_6 : Row
row_6 = row 6 plain (codes "\r\r") (codes "\n\n")

-- a␠b Enter = a␠b
abbrev pub row_7 : Row
row_7 = row 7 plain (codes "a b\r") (codes "a b\n")

-- äöü漢字 Enter = äöü漢字
abbrev pub row_8 : Row
row_8 = row 8 plain (encode_utf8_all (codes "äöü漢字\r")) (encode_utf8_all (codes "äöü漢字\n"))

-- abc = nothing
abbrev pub row_9 : Row
row_9 = row 9 plain (codes "abc") []

-- abc Enter def = abc
abbrev pub row_10 : Row
row_10 = row 10 plain (codes "abc\rdef") (codes "abc\n")

-- C-d = nothing
abbrev pub row_11 : Row
row_11 = row 11 plain (codes "\u{4}") []

-- abc Enter C-d x Enter = abc
abbrev pub row_12 : Row
row_12 = row 12 plain (codes "abc\r\u{4}x\r") (codes "abc\n")

-- ab C-c = nothing | ends Interrupted
abbrev pub row_13 : Row
row_13 = record (row 13 plain (codes "ab\u{3}") []) {
  ends = Interrupted;
}

-- ab Enter cd C-c Enter = ab | ends Interrupted
abbrev pub row_14 : Row
row_14 = record (row 14 plain (codes "ab\rcd\u{3}\r") (codes "ab\n")) {
  ends = Interrupted;
}

-- C-\ = nothing | ends Interrupted
abbrev pub row_15 : Row
row_15 = record (row 15 plain (codes "\u{1c}") []) {
  ends = Interrupted;
}

-- ab C-j cd Enter = ab cd
abbrev pub row_16 : Row
row_16 = row 16 plain (codes "ab\ncd\r") (codes "ab\ncd\n")

-- ab C-m = ab
abbrev pub row_17 : Row
row_17 = row 17 plain (codes "ab\r") (codes "ab\n")

-- C-z a C-z Enter = a
abbrev pub row_18 : Row
row_18 = row 18 plain (codes "\u{1a}a\u{1a}\r") (codes "a\n")

-- bc C-a a Enter = abc
abbrev pub row_21 : Row
row_21 = row 21 plain (codes "bc\u{1}a\r") (codes "abc\n")

-- ab C-a C-e c Enter = abc
abbrev pub row_22 : Row
row_22 = row 22 plain (codes "ab\u{1}\u{5}c\r") (codes "abc\n")

-- ac C-b b Enter = abc
abbrev pub row_23 : Row
row_23 = row 23 plain (codes "ac\u{2}b\r") (codes "abc\n")

-- ac Left b Enter = abc
abbrev pub row_24 : Row
row_24 = row 24 plain (codes "ac\u{1b}[Db\r") (codes "abc\n")

-- bc Left Left a Right Right d Enter = abcd
abbrev pub row_25 : Row
row_25 = row 25 plain (codes "bc\u{1b}[D\u{1b}[Da\u{1b}[C\u{1b}[Cd\r") (codes "abcd\n")

-- bc C-b C-b a C-f C-f d Enter = abcd
abbrev pub row_26 : Row
row_26 = row 26 plain (codes "bc\u{2}\u{2}a\u{6}\u{6}d\r") (codes "abcd\n")

-- ab C-a C-b C-b x Enter = xab
abbrev pub row_27 : Row
row_27 = row 27 plain (codes "ab\u{1}\u{2}\u{2}x\r") (codes "xab\n")

-- bc Home a End d Enter = abcd
abbrev pub row_28 : Row
row_28 = row 28 plain (codes "bc\u{1b}[Ha\u{1b}[Fd\r") (codes "abcd\n")

-- one␠two M-b x Enter = one␠xtwo
abbrev pub row_29 : Row
row_29 = row 29 plain (codes "one two\u{1b}bx\r") (codes "one xtwo\n")

-- one␠two M-b M-b x Enter = xone␠two
abbrev pub row_30 : Row
row_30 = row 30 plain (codes "one two\u{1b}b\u{1b}bx\r") (codes "xone two\n")

-- one␠two C-a M-f x Enter = onex␠two
abbrev pub row_31 : Row
row_31 = row 31 plain (codes "one two\u{1}\u{1b}fx\r") (codes "onex two\n")

-- one␠two C-a M-f M-f x Enter = one␠twox
abbrev pub row_32 : Row
row_32 = row 32 plain (codes "one two\u{1}\u{1b}f\u{1b}fx\r") (codes "one twox\n")

-- one,two M-b x Enter = one,xtwo
abbrev pub row_33 : Row
row_33 = row 33 plain (codes "one,two\u{1b}bx\r") (codes "one,xtwo\n")

-- one_two M-b x Enter = one_xtwo
abbrev pub row_34 : Row
row_34 = row 34 plain (codes "one_two\u{1b}bx\r") (codes "one_xtwo\n")

-- one␠two␠six M-2 M-b x Enter = one␠xtwo␠six
abbrev pub row_35 : Row
row_35 = row 35 plain (codes "one two six\u{1b}2\u{1b}bx\r") (codes "one xtwo six\n")

-- one␠two␠six C-a M-2 M-f x Enter = one␠twox␠six
abbrev pub row_36 : Row
row_36 = row 36 plain (codes "one two six\u{1}\u{1b}2\u{1b}fx\r") (codes "one twox six\n")

-- one␠two M-- M-f x Enter = one␠xtwo
abbrev pub row_37 : Row
row_37 = row 37 plain (codes "one two\u{1b}-\u{1b}fx\r") (codes "one xtwo\n")

-- abcabc C-a C-] c x Enter = axbcabc
abbrev pub row_38 : Row
row_38 = row 38 plain (codes "abcabc\u{1}\u{1d}cx\r") (codes "axbcabc\n")

-- abcabc C-a M-2 C-] c x Enter = abcaxbc
abbrev pub row_39 : Row
row_39 = row 39 plain (codes "abcabc\u{1}\u{1b}2\u{1d}cx\r") (codes "abcaxbc\n")

-- abcabc M-␝ a x Enter = abcxabc
abbrev pub row_40 : Row
row_40 = row 40 plain (codes "abcabc\u{1b}\u{1d}ax\r") (codes "abcxabc\n")

-- abc Backspace Enter = ab
abbrev pub row_43 : Row
row_43 = row 43 plain (codes "abc\u{7f}\r") (codes "ab\n")

-- abc C-h C-h Enter = a
abbrev pub row_44 : Row
row_44 = row 44 plain (codes "abc\u{8}\u{8}\r") (codes "a\n")

-- Backspace a Enter = a
abbrev pub row_45 : Row
row_45 = row 45 plain (codes "\u{7f}a\r") (codes "a\n")

-- abc C-a C-d Enter = bc
abbrev pub row_46 : Row
row_46 = row 46 plain (codes "abc\u{1}\u{4}\r") (codes "bc\n")

-- abc C-a Delete Delete Enter = c
abbrev pub row_47 : Row
row_47 = row 47 plain (codes "abc\u{1}\u{1b}[3~\u{1b}[3~\r") (codes "c\n")

-- abc C-e C-d Enter = abc
abbrev pub row_48 : Row
row_48 = row 48 plain (codes "abc\u{5}\u{4}\r") (codes "abc\n")

-- one␠two C-k Enter = one␠two
abbrev pub row_49 : Row
row_49 = row 49 plain (codes "one two\u{b}\r") (codes "one two\n")

-- one␠two C-a C-k Enter = ""
abbrev pub row_50 : Row
row_50 = row 50 plain (codes "one two\u{1}\u{b}\r") (codes "\n")

-- one␠two M-b C-k Enter = one␠
abbrev pub row_51 : Row
row_51 = row 51 plain (codes "one two\u{1b}b\u{b}\r") (codes "one \n")

-- one␠two M-b C-u Enter = two
abbrev pub row_52 : Row
row_52 = row 52 plain (codes "one two\u{1b}b\u{15}\r") (codes "two\n")

-- one␠two C-u Enter = ""
abbrev pub row_53 : Row
row_53 = row 53 plain (codes "one two\u{15}\r") (codes "\n")

-- one␠two C-w Enter = one␠
abbrev pub row_54 : Row
row_54 = row 54 plain (codes "one two\u{17}\r") (codes "one \n")

-- one,two C-w Enter = ""
abbrev pub row_55 : Row
row_55 = row 55 plain (codes "one,two\u{17}\r") (codes "\n")

-- one␠two M-b M-d Enter = one␠
abbrev pub row_56 : Row
row_56 = row 56 plain (codes "one two\u{1b}b\u{1b}d\r") (codes "one \n")

-- one␠two C-a M-d Enter = ␠two
abbrev pub row_57 : Row
row_57 = row 57 plain (codes "one two\u{1}\u{1b}d\r") (codes " two\n")

-- one␠two C-a M-2 M-d Enter = ""
abbrev pub row_58 : Row
row_58 = row 58 plain (codes "one two\u{1}\u{1b}2\u{1b}d\r") (codes "\n")

-- one␠two C-x Backspace Enter = ""
abbrev pub row_59 : Row
row_59 = row 59 plain (codes "one two\u{18}\u{7f}\r") (codes "\n")

-- abcd M-2 Backspace Enter = ab
abbrev pub row_60 : Row
row_60 = row 60 plain (codes "abcd\u{1b}2\u{7f}\r") (codes "ab\n")

-- abcd C-a M-3 C-d Enter = d
abbrev pub row_61 : Row
row_61 = row 61 plain (codes "abcd\u{1}\u{1b}3\u{4}\r") (codes "d\n")

-- abcd C-b C-b M-- Backspace Enter = abd
abbrev pub row_62 : Row
row_62 = row 62 plain (codes "abcd\u{2}\u{2}\u{1b}-\u{7f}\r") (codes "abd\n")

-- one␠two C-w C-y C-y Enter = one␠twotwo
abbrev pub row_65 : Row
row_65 = row 65 plain (codes "one two\u{17}\u{19}\u{19}\r") (codes "one twotwo\n")

-- one␠two C-w C-w C-y Enter = one␠two
abbrev pub row_66 : Row
row_66 = row 66 plain (codes "one two\u{17}\u{17}\u{19}\r") (codes "one two\n")

-- one␠two C-w x C-w C-y Enter = one␠x
abbrev pub row_67 : Row
row_67 = row 67 plain (codes "one two\u{17}x\u{17}\u{19}\r") (codes "one x\n")

-- one C-u two C-u C-y M-y Enter = one
abbrev pub row_68 : Row
row_68 = row 68 plain (codes "one\u{15}two\u{15}\u{19}\u{1b}y\r") (codes "one\n")

-- one C-u two C-u C-y M-y M-y Enter = two
abbrev pub row_69 : Row
row_69 = row 69 plain (codes "one\u{15}two\u{15}\u{19}\u{1b}y\u{1b}y\r") (codes "two\n")

-- one C-u C-y Enter C-y Enter = one one
abbrev pub row_70 : Row
row_70 = row 70 plain (codes "one\u{15}\u{19}\r\u{19}\r") (codes "one\none\n")

-- ab C-u M-3 C-y Enter = ababab
abbrev pub row_71 : Row
row_71 = row 71 plain (codes "ab\u{15}\u{1b}3\u{19}\r") (codes "ababab\n")

-- a␠b C-w ␛␡ C-y Enter = a␠b
abbrev pub row_72 : Row
row_72 = row 72 plain (codes "a b\u{17}\u{1b}\u{7f}\u{19}\r") (codes "a b\n")

-- a␠b C-w Left ␛␡ C-y M-y Enter = b␠
abbrev pub row_73 : Row
row_73 = row 73 plain (codes "a b\u{17}\u{1b}[D\u{1b}\u{7f}\u{19}\u{1b}y\r") (codes "b \n")

-- ab Backspace C-y Enter = a
abbrev pub row_74 : Row
row_74 = row 74 plain (codes "ab\u{7f}\u{19}\r") (codes "a\n")

-- C-y a Enter = a
abbrev pub row_75 : Row
row_75 = row 75 plain (codes "\u{19}a\r") (codes "a\n")

-- one C-u x M-y Enter = x
abbrev pub row_76 : Row
row_76 = row 76 plain (codes "one\u{15}x\u{1b}y\r") (codes "x\n")

-- one␠two C-a M-d C-e C-y Enter = ␠twoone
abbrev pub row_77 : Row
row_77 = row 77 plain (codes "one two\u{1}\u{1b}d\u{5}\u{19}\r") (codes " twoone\n")

-- one␠two␠six C-w C-w C-a C-y ␠ Enter = two␠six␠one␠
abbrev pub row_78 : Row
row_78 = row 78 plain (codes "one two six\u{17}\u{17}\u{1}\u{19} \r") (codes "two six one \n")

-- abc C-_ Enter = ""
abbrev pub row_81 : Row
row_81 = row 81 plain (codes "abc\u{1f}\r") (codes "\n")

-- one␠two C-_ Enter = one
abbrev pub row_82 : Row
row_82 = row 82 plain (codes "one two\u{1f}\r") (codes "one\n")

-- one␠two C-_ C-_ Enter = ""
abbrev pub row_83 : Row
row_83 = row 83 plain (codes "one two\u{1f}\u{1f}\r") (codes "\n")

-- one␠two C-w C-_ Enter = one␠two
abbrev pub row_84 : Row
row_84 = row 84 plain (codes "one two\u{17}\u{1f}\r") (codes "one two\n")

-- abc C-x C-u Enter = ""
abbrev pub row_85 : Row
row_85 = row 85 plain (codes "abc\u{18}\u{15}\r") (codes "\n")

-- abc C-a C-k C-_ Enter = abc
abbrev pub row_86 : Row
row_86 = row 86 plain (codes "abc\u{1}\u{b}\u{1f}\r") (codes "abc\n")

-- abc Backspace C-_ Enter = abc
abbrev pub row_87 : Row
row_87 = row 87 plain (codes "abc\u{7f}\u{1f}\r") (codes "abc\n")

-- C-_ a Enter = a
abbrev pub row_88 : Row
row_88 = row 88 plain (codes "\u{1f}a\r") (codes "a\n")

-- ab Enter cd C-_ Enter = ab ""
abbrev pub row_89 : Row
row_89 = row 89 plain (codes "ab\rcd\u{1f}\r") (codes "ab\n\n")

-- one␠two C-w C-y C-y C-_ Enter = one␠two
abbrev pub row_90 : Row
row_90 = row 90 plain (codes "one two\u{17}\u{19}\u{19}\u{1f}\r") (codes "one two\n")

-- ab C-t Enter = ba
abbrev pub row_93 : Row
row_93 = row 93 plain (codes "ab\u{14}\r") (codes "ba\n")

-- abc C-b C-t Enter = acb
abbrev pub row_94 : Row
row_94 = row 94 plain (codes "abc\u{2}\u{14}\r") (codes "acb\n")

-- abc C-a C-t Enter = abc
abbrev pub row_95 : Row
row_95 = row 95 plain (codes "abc\u{1}\u{14}\r") (codes "abc\n")

-- a C-t Enter = a
abbrev pub row_96 : Row
row_96 = row 96 plain (codes "a\u{14}\r") (codes "a\n")

-- one␠two M-t Enter = two␠one
abbrev pub row_97 : Row
row_97 = row 97 plain (codes "one two\u{1b}t\r") (codes "two one\n")

-- one␠two␠six M-b M-t Enter = one␠six␠two
abbrev pub row_98 : Row
row_98 = row 98 plain (codes "one two six\u{1b}b\u{1b}t\r") (codes "one six two\n")

-- one␠two C-a M-u Enter = ONE␠two
abbrev pub row_99 : Row
row_99 = row 99 plain (codes "one two\u{1}\u{1b}u\r") (codes "ONE two\n")

-- one␠two C-a M-u M-u Enter = ONE␠TWO
abbrev pub row_100 : Row
row_100 = row 100 plain (codes "one two\u{1}\u{1b}u\u{1b}u\r") (codes "ONE TWO\n")

-- ONE␠TWO C-a M-l Enter = one␠TWO
abbrev pub row_101 : Row
row_101 = row 101 plain (codes "ONE TWO\u{1}\u{1b}l\r") (codes "one TWO\n")

-- one␠two C-a M-c M-c Enter = One␠Two
abbrev pub row_102 : Row
row_102 = row 102 plain (codes "one two\u{1}\u{1b}c\u{1b}c\r") (codes "One Two\n")

-- one␠two M-u x Enter = one␠twox
abbrev pub row_103 : Row
row_103 = row 103 plain (codes "one two\u{1b}ux\r") (codes "one twox\n")

-- M-5 x Enter = xxxxx
abbrev pub row_106 : Row
row_106 = row 106 plain (codes "\u{1b}5x\r") (codes "xxxxx\n")

-- M-1 2 x Enter = xxxxxxxxxxxx
abbrev pub row_107 : Row
row_107 = row 107 plain (codes "\u{1b}12x\r") (codes "xxxxxxxxxxxx\n")

-- M-1 M-2 x Enter = xxxxxxxxxxxx
abbrev pub row_108 : Row
row_108 = row 108 plain (codes "\u{1b}1\u{1b}2x\r") (codes "xxxxxxxxxxxx\n")

-- M-0 x Enter = x
abbrev pub row_109 : Row
row_109 = row 109 plain (codes "\u{1b}0x\r") (codes "x\n")

-- abc M-2 C-b x Enter = axbc
abbrev pub row_110 : Row
row_110 = row 110 plain (codes "abc\u{1b}2\u{2}x\r") (codes "axbc\n")

-- abc C-a M-2 C-f x Enter = abxc
abbrev pub row_111 : Row
row_111 = row 111 plain (codes "abc\u{1}\u{1b}2\u{6}x\r") (codes "abxc\n")

-- abc M-- C-b x Enter = abcx
abbrev pub row_112 : Row
row_112 = row 112 plain (codes "abc\u{1b}-\u{2}x\r") (codes "abcx\n")

-- abcdef C-a M-- 2 C-b x Enter = abxcdef
abbrev pub row_113 : Row
row_113 = row 113 plain (codes "abcdef\u{1}\u{1b}-2\u{2}x\r") (codes "abxcdef\n")

-- M-- x a Enter = a
abbrev pub row_114 : Row
row_114 = row 114 plain (codes "\u{1b}-xa\r") (codes "a\n")

-- M-2 M-3 Left x Enter = x
abbrev pub row_115 : Row
row_115 = row 115 plain (codes "\u{1b}2\u{1b}3\u{1b}[Dx\r") (codes "x\n")

-- M-2 C-g x Enter = x | shows {} ␍␛[J␛[m(arg:␠2)␠␛[m␛[m␛[m {} x ␍␊ {} ␍␊
abbrev pub row_116 : Row
row_116 = record (row 116 plain (codes "\u{1b}2\u{7}x\r") (codes "x\n")) {
  shows = Some
      (codes "\r\u{1b}[J\u{1b}[m> \u{1b}[m\u{1b}[m\u{1b}[m\r\u{1b}[J\u{1b}[m(arg: 2) \u{1b}[" ++
      codes "m\u{1b}[m\u{1b}[m\r\u{1b}[J\u{1b}[m> \u{1b}[m\u{1b}[m\u{1b}[mx\r\n\r\u{1b}[J" ++
      codes "\u{1b}[m> \u{1b}[m\u{1b}[m\u{1b}[m\r\n");
}

-- M-0 Enter = "" | shows {} ␍␛[J␛[m(arg:␠0)␠␛[m␛[m␛[m {} ␍␊ {} ␍␊
abbrev pub row_117 : Row
row_117 = record (row 117 plain (codes "\u{1b}0\r") (codes "\n")) {
  shows = Some
      (codes "\r\u{1b}[J\u{1b}[m> \u{1b}[m\u{1b}[m\u{1b}[m\r\u{1b}[J\u{1b}[m(arg: 0) \u{1b}[" ++
      codes "m\u{1b}[m\u{1b}[m\r\u{1b}[J\u{1b}[m> \u{1b}[m\u{1b}[m\u{1b}[m\r\n\r\u{1b}[J" ++
      codes "\u{1b}[m> \u{1b}[m\u{1b}[m\u{1b}[m\r\n");
}

-- M-1 2 = nothing | shows {} ␍␛[J␛[m(arg:␠1)␠␛[m␛[m␛[m ␍␛[J␛[m(arg:␠12)␠␛[m␛[m␛[m ␍␊
abbrev pub row_118 : Row
row_118 = record (row 118 plain (codes "\u{1b}12") []) {
  shows = Some
      (codes "\r\u{1b}[J\u{1b}[m> \u{1b}[m\u{1b}[m\u{1b}[m\r\u{1b}[J\u{1b}[m(arg: 1) \u{1b}[" ++
      codes "m\u{1b}[m\u{1b}[m\r\u{1b}[J\u{1b}[m(arg: 12) \u{1b}[m\u{1b}[m\u{1b}[m\r\n");
}

-- ab C-a M-- Left x Enter = axb | shows {} a b ␛[2D ␍␛[J␛[m(arg:␠-1)␠␛[mab␛[m␛[m␛[2D {ab}␛[2D ␛[1C {axb}␛[1D ␛[1C␍␊ {} ␍␊
abbrev pub row_119 : Row
row_119 = record (row 119 plain (codes "ab\u{1}\u{1b}-\u{1b}[Dx\r") (codes "axb\n")) {
  shows = Some
      (codes "\r\u{1b}[J\u{1b}[m> \u{1b}[m\u{1b}[m\u{1b}[mab\u{1b}[2D\r\u{1b}[J\u{1b}[m(arg:" ++
      codes " -1) \u{1b}[mab\u{1b}[m\u{1b}[m\u{1b}[2D\r\u{1b}[J\u{1b}[m> \u{1b}[mab\u{1b}[m" ++
      codes "\u{1b}[m\u{1b}[2D\u{1b}[1C\r\u{1b}[J\u{1b}[m> \u{1b}[maxb\u{1b}[m\u{1b}[m" ++
      codes "\u{1b}[1D\u{1b}[1C\r\n\r\u{1b}[J\u{1b}[m> \u{1b}[m\u{1b}[m\u{1b}[m\r\n");
}

-- a Left M-2 b Enter = bba | shows {} a ␛[1D ␍␛[J␛[m(arg:␠2)␠␛[ma␛[m␛[m␛[1D {a}␛[1D {bba}␛[1D ␛[1C␍␊ {} ␍␊
abbrev pub row_120 : Row
row_120 = record (row 120 plain (codes "a\u{1b}[D\u{1b}2b\r") (codes "bba\n")) {
  shows = Some
      (codes "\r\u{1b}[J\u{1b}[m> \u{1b}[m\u{1b}[m\u{1b}[ma\u{1b}[1D\r\u{1b}[J\u{1b}[m(arg: " ++
      codes "2) \u{1b}[ma\u{1b}[m\u{1b}[m\u{1b}[1D\r\u{1b}[J\u{1b}[m> \u{1b}[ma\u{1b}[m" ++
      codes "\u{1b}[m\u{1b}[1D\r\u{1b}[J\u{1b}[m> \u{1b}[mbba\u{1b}[m\u{1b}[m\u{1b}[1D" ++
      codes "\u{1b}[1C\r\n\r\u{1b}[J\u{1b}[m> \u{1b}[m\u{1b}[m\u{1b}[m\r\n");
}

-- abc M-2 C-l x Enter = abcx
abbrev pub row_121 : Row
row_121 = row 121 plain (codes "abc\u{1b}2\u{c}x\r") (codes "abcx\n")

-- a Tab b Enter = ab
abbrev pub row_124 : Row
row_124 = row 124 plain (codes "a\tb\r") (codes "ab\n")

-- a C-g b Enter = ab
abbrev pub row_125 : Row
row_125 = row 125 plain (codes "a\u{7}b\r") (codes "ab\n")

-- ab Esc Esc b x Enter = xab
abbrev pub row_126 : Row
row_126 = row 126 plain (codes "ab\u{1b}\u{1b}bx\r") (codes "xab\n")

-- a C-r b C-s c Enter = abc
abbrev pub row_127 : Row
row_127 = row 127 plain (codes "a\u{12}b\u{13}c\r") (codes "abc\n")

-- a C-q b C-v c Enter = abc
abbrev pub row_128 : Row
row_128 = row 128 plain (codes "a\u{11}b\u{16}c\r") (codes "abc\n")

-- a ␛[5~ b ␛[6~ c Enter = abc
abbrev pub row_129 : Row
row_129 = row 129 plain (codes "a\u{1b}[5~b\u{1b}[6~c\r") (codes "abc\n")

-- a ␛[15~ b Enter = ab
abbrev pub row_130 : Row
row_130 = row 130 plain (codes "a\u{1b}[15~b\r") (codes "ab\n")

-- a ␛[999x b Enter = ab
abbrev pub row_131 : Row
row_131 = row 131 plain (codes "a\u{1b}[999xb\r") (codes "ab\n")

-- a C-x z b Enter = ab
abbrev pub row_132 : Row
row_132 = row 132 plain (codes "a\u{18}zb\r") (codes "ab\n")

-- a M-< b M-> c Enter = abc
abbrev pub row_133 : Row
row_133 = row 133 plain (codes "a\u{1b}<b\u{1b}>c\r") (codes "abc\n")

-- Paste ab Pasted Enter = ab
abbrev pub row_136 : Row
row_136 = row 136 plain (codes "\u{1b}[200~ab\u{1b}[201~\r") (codes "ab\n")

-- x Paste a␍b Pasted y Enter = xa␊by
abbrev pub row_137 : Row
row_137 = row 137 plain (codes "x\u{1b}[200~a\rb\u{1b}[201~y\r") (codes "xa\nby\n")

-- Paste a␍␊b Pasted Enter = a␊b
abbrev pub row_138 : Row
row_138 = row 138 plain (codes "\u{1b}[200~a\r\nb\u{1b}[201~\r") (codes "a\nb\n")

-- Paste Pasted a Enter = a
abbrev pub row_139 : Row
row_139 = row 139 plain (codes "\u{1b}[200~\u{1b}[201~a\r") (codes "a\n")

-- Paste ab Pasted C-_ Enter = ""
abbrev pub row_140 : Row
row_140 = row 140 plain (codes "\u{1b}[200~ab\u{1b}[201~\u{1f}\r") (codes "\n")

-- Paste ␛[A Pasted Enter = ␛[A
abbrev pub row_141 : Row
row_141 = row 141 plain (codes "\u{1b}[200~\u{1b}[A\u{1b}[201~\r") (codes "\u{1b}[A\n")

-- Paste a␊b Pasted C-a x Enter = a␊xb
abbrev pub row_142 : Row
row_142 = row 142 plain (codes "\u{1b}[200~a\nb\u{1b}[201~\u{1}x\r") (codes "a\nxb\n")

-- Paste a␊b Pasted Up x Enter = xa␊b
abbrev pub row_143 : Row
row_143 = row 143 plain (codes "\u{1b}[200~a\nb\u{1b}[201~\u{1b}[Ax\r") (codes "xa\nb\n")

-- Paste a␊b Pasted C-k C-a C-k Enter = a␊
abbrev pub row_144 : Row
row_144 = row 144 plain (codes "\u{1b}[200~a\nb\u{1b}[201~\u{b}\u{1}\u{b}\r") (codes "a\n\n")

-- Paste a␊b Pasted C-u Backspace C-u Enter = ""
abbrev pub row_145 : Row
row_145 = row 145 plain (codes "\u{1b}[200~a\nb\u{1b}[201~\u{15}\u{7f}\u{15}\r") (codes "\n")

-- Paste αß␊γδ␠12␊ε␠f4 Pasted M-9 C-b C-k X C-y Enter = αß␊γXδ␠12␊ε␠f4
abbrev pub row_148 : Row
row_148 = row 148 plain (encode_utf8_all
    (codes "\u{1b}[200~αß\nγδ 12\nε f4\u{1b}[201~\u{1b}9\u{2}\u{b}X\u{19}\r")) (encode_utf8_all
    (codes "αß\nγXδ 12\nε f4\n"))

-- Paste αß␊γδ␠12␊ε␠f4 Pasted M-9 C-b C-k C-k X Enter = αß␊γXε␠f4
abbrev pub row_149 : Row
row_149 = row 149 plain (encode_utf8_all
    (codes "\u{1b}[200~αß\nγδ 12\nε f4\u{1b}[201~\u{1b}9\u{2}\u{b}\u{b}X\r")) (encode_utf8_all
    (codes "αß\nγXε f4\n"))

-- Paste αß␊γδ␠12␊ε␠f4 Pasted M-9 C-b C-k C-k C-k C-k X C-y Enter = αß␊γXδ␠12␊ε␠f4
abbrev pub row_150 : Row
row_150 = row 150 plain (encode_utf8_all
    (codes "\u{1b}[200~αß\nγδ 12\nε f4\u{1b}[201~\u{1b}9\u{2}\u{b}\u{b}\u{b}\u{b}X\u{19}\r"))
    (encode_utf8_all (codes "αß\nγXδ 12\nε f4\n"))

-- Paste ab␊cde Pasted C-b C-u X C-y Enter = ab␊Xcde
abbrev pub row_151 : Row
row_151 = row 151 plain (codes "\u{1b}[200~ab\ncde\u{1b}[201~\u{2}\u{15}X\u{19}\r")
    (codes "ab\nXcde\n")

-- Paste a␊b Pasted C-b C-u X Enter = aXb
abbrev pub row_152 : Row
row_152 = row 152 plain (codes "\u{1b}[200~a\nb\u{1b}[201~\u{2}\u{15}X\r") (codes "aXb\n")

-- Paste a␊b Pasted C-b C-b C-k X Enter = aXb
abbrev pub row_153 : Row
row_153 = row 153 plain (codes "\u{1b}[200~a\nb\u{1b}[201~\u{2}\u{2}\u{b}X\r") (codes "aXb\n")

-- Paste a␊ Pasted C-k X Enter = a␊X
abbrev pub row_154 : Row
row_154 = row 154 plain (codes "\u{1b}[200~a\n\u{1b}[201~\u{b}X\r") (codes "a\nX\n")

-- abcd C-b C-b C-k C-u C-y X Enter = abcdX
abbrev pub row_155 : Row
row_155 = row 155 plain (codes "abcd\u{2}\u{2}\u{b}\u{15}\u{19}X\r") (codes "abcdX\n")

-- abcd C-b C-b C-u C-k C-y X Enter = abcdX
abbrev pub row_156 : Row
row_156 = row 156 plain (codes "abcd\u{2}\u{2}\u{15}\u{b}\u{19}X\r") (codes "abcdX\n")

-- ab C-w cd M-2 Backspace C-y X Enter = abX
abbrev pub row_157 : Row
row_157 = row 157 plain (codes "ab\u{17}cd\u{1b}2\u{7f}\u{19}X\r") (codes "abX\n")

-- one␠two,six C-a M-f M-2 M-d X C-y Enter = oneX␠two,six
abbrev pub row_158 : Row
row_158 = row 158 plain (codes "one two,six\u{1}\u{1b}f\u{1b}2\u{1b}dX\u{19}\r")
    (codes "oneX two,six\n")

-- aßc C-a Right C-t X Enter = ßaXc
abbrev pub row_161 : Row
row_161 = row 161 plain (encode_utf8_all (codes "aßc\u{1}\u{1b}[C\u{14}X\r")) (encode_utf8_all
    (codes "ßaXc\n"))

-- aßc Left C-t X Enter = acßX
abbrev pub row_162 : Row
row_162 = row 162 plain (encode_utf8_all (codes "aßc\u{1b}[D\u{14}X\r")) (encode_utf8_all
    (codes "acßX\n"))

-- xe‹cc›‹81› C-t X Enter = e‹cc›‹81›xX
abbrev pub row_163 : Row
row_163 = row 163 plain (encode_utf8_all (codes "xé\u{14}X\r")) (encode_utf8_all
    (codes "éxX\n"))

-- ab␠c M-t X Enter = c␠abX
abbrev pub row_164 : Row
row_164 = row 164 plain (codes "ab c\u{1b}tX\r") (codes "c abX\n")

-- ab␠c C-a M-2 M-t X Enter = c␠abX
abbrev pub row_165 : Row
row_165 = row 165 plain (codes "ab c\u{1}\u{1b}2\u{1b}tX\r") (codes "c abX\n")

-- ab␠c C-a M-t X Enter = abX␠c
abbrev pub row_166 : Row
row_166 = row 166 plain (codes "ab c\u{1}\u{1b}tX\r") (codes "abX c\n")

-- é,␠two␠x C-a Right Right M-t X Enter = two,␠éX␠x
abbrev pub row_167 : Row
row_167 = row 167 plain (encode_utf8_all (codes "é, two x\u{1}\u{1b}[C\u{1b}[C\u{1b}tX\r"))
    (encode_utf8_all (codes "two, éX x\n"))

-- ␠␠fOO␠bar C-a M-c X Enter = ␠␠FooX␠bar
abbrev pub row_168 : Row
row_168 = row 168 plain (codes "  fOO bar\u{1}\u{1b}cX\r") (codes "  FooX bar\n")

-- fOO␠bar C-a Right M-l X Enter = fooX␠bar
abbrev pub row_169 : Row
row_169 = row 169 plain (codes "fOO bar\u{1}\u{1b}[C\u{1b}lX\r") (codes "fooX bar\n")

-- foo␠bar C-a M-f M-u X Enter = foo␠BARX
abbrev pub row_170 : Row
row_170 = row 170 plain (codes "foo bar\u{1}\u{1b}f\u{1b}uX\r") (codes "foo BARX\n")

-- éA␠b C-a M-u X Enter = éAX␠b
abbrev pub row_171 : Row
row_171 = row 171 plain (encode_utf8_all (codes "éA b\u{1}\u{1b}uX\r")) (encode_utf8_all
    (codes "éAX b\n"))

-- éA␠b C-a M-l X Enter = éaX␠b
abbrev pub row_172 : Row
row_172 = row 172 plain (encode_utf8_all (codes "éA b\u{1}\u{1b}lX\r")) (encode_utf8_all
    (codes "éaX b\n"))

-- aßA C-a M-c X Enter = AßaX
abbrev pub row_173 : Row
row_173 = row 173 plain (encode_utf8_all (codes "aßA\u{1}\u{1b}cX\r")) (encode_utf8_all
    (codes "AßaX\n"))

-- ab␠- C-a M-f M-u X Enter = abX␠-
abbrev pub row_174 : Row
row_174 = row 174 plain (codes "ab -\u{1}\u{1b}f\u{1b}uX\r") (codes "abX -\n")

-- ab␠c C-_ X Enter = abX
abbrev pub row_177 : Row
row_177 = row 177 plain (codes "ab c\u{1f}X\r") (codes "abX\n")

-- ab␠c M-9 C-_ X Enter = X
abbrev pub row_178 : Row
row_178 = row 178 plain (codes "ab c\u{1b}9\u{1f}X\r") (codes "X\n")

-- abcd Left Backspace Backspace C-d C-_ X Enter = abcdX
abbrev pub row_179 : Row
row_179 = row 179 plain (codes "abcd\u{1b}[D\u{7f}\u{7f}\u{4}\u{1f}X\r") (codes "abcdX\n")

-- abc Backspace M-2 Backspace C-_ X Enter = abX
abbrev pub row_180 : Row
row_180 = row 180 plain (codes "abc\u{7f}\u{1b}2\u{7f}\u{1f}X\r") (codes "abX\n")

-- abc Backspace Backspace Backspace C-_ X Enter = abcX
abbrev pub row_181 : Row
row_181 = row 181 plain (codes "abc\u{7f}\u{7f}\u{7f}\u{1f}X\r") (codes "abcX\n")

-- abc Backspace Backspace Backspace C-_ C-_ X Enter = X
abbrev pub row_182 : Row
row_182 = row 182 plain (codes "abc\u{7f}\u{7f}\u{7f}\u{1f}\u{1f}X\r") (codes "X\n")

-- abc Backspace Backspace Backspace C-_ d C-_ X Enter = X
abbrev pub row_183 : Row
row_183 = row 183 plain (codes "abc\u{7f}\u{7f}\u{7f}\u{1f}d\u{1f}X\r") (codes "X\n")

-- a Paste b Pasted cß C-_ X Enter = aX
abbrev pub row_184 : Row
row_184 = row 184 plain (encode_utf8_all (codes "a\u{1b}[200~b\u{1b}[201~cß\u{1f}X\r"))
    (codes "aX\n")

-- a Paste b Pasted C-_ X Enter = aX
abbrev pub row_185 : Row
row_185 = row 185 plain (codes "a\u{1b}[200~b\u{1b}[201~\u{1f}X\r") (codes "aX\n")

-- one␠two C-a M-u C-_ X Enter = oneX␠two
abbrev pub row_186 : Row
row_186 = row 186 plain (codes "one two\u{1}\u{1b}u\u{1f}X\r") (codes "oneX two\n")

-- one␠two C-a M-u C-e Paste !! Pasted Backspace M-2 C-_ X Enter = ONE␠twoX
abbrev pub row_187 : Row
row_187 = row 187 plain
    (codes "one two\u{1}\u{1b}u\u{5}\u{1b}[200~!!\u{1b}[201~\u{7f}\u{1b}2\u{1f}X\r")
    (codes "ONE twoX\n")

-- one␠two C-w C-a C-y C-_ X Enter = Xone␠
abbrev pub row_188 : Row
row_188 = row 188 plain (codes "one two\u{17}\u{1}\u{19}\u{1f}X\r") (codes "Xone \n")

-- adding
abbrev pub settings_192 : Settings
settings_192 = record plain {
  config = adding plain.config;
}

-- one Enter Up Enter = one one | saves #V2␊one␊
abbrev pub row_192 : Row
row_192 = record (row 192 settings_192 (codes "one\r\u{1b}[A\r") (codes "one\none\n")) {
  saves = Some (codes "#V2\none\n");
}

-- one Enter two Enter C-p C-p C-n Enter = one two two | saves #V2␊one␊two␊
abbrev pub row_193 : Row
row_193 = record (row 193 settings_192 (codes "one\rtwo\r\u{10}\u{10}\u{e}\r")
    (codes "one\ntwo\ntwo\n")) {
      saves = Some (codes "#V2\none\ntwo\n");
    }

-- one Enter two Enter C-p C-p C-p Enter = one two one | saves #V2␊one␊two␊one␊
abbrev pub row_194 : Row
row_194 = record (row 194 settings_192 (codes "one\rtwo\r\u{10}\u{10}\u{10}\r")
    (codes "one\ntwo\none\n")) {
      saves = Some (codes "#V2\none\ntwo\none\n");
    }

-- one Enter tw C-p C-n o Enter = one two
abbrev pub row_195 : Row
row_195 = row 195 settings_192 (codes "one\rtw\u{10}\u{e}o\r") (codes "one\ntwo\n")

-- one Enter C-p x Enter = one onex
abbrev pub row_196 : Row
row_196 = row 196 settings_192 (codes "one\r\u{10}x\r") (codes "one\nonex\n")

-- one Enter Up Down x Enter = one x
abbrev pub row_197 : Row
row_197 = row 197 settings_192 (codes "one\r\u{1b}[A\u{1b}[Bx\r") (codes "one\nx\n")

-- one Enter two Enter M-< Enter = one two one
abbrev pub row_198 : Row
row_198 = row 198 settings_192 (codes "one\rtwo\r\u{1b}<\r") (codes "one\ntwo\none\n")

-- one Enter two Enter six M-< M-> Enter = one two six
abbrev pub row_199 : Row
row_199 = row 199 settings_192 (codes "one\rtwo\rsix\u{1b}<\u{1b}>\r") (codes "one\ntwo\nsix\n")

-- one Enter one Enter = one one | saves #V2␊one␊
abbrev pub row_200 : Row
row_200 = record (row 200 settings_192 (codes "one\rone\r") (codes "one\none\n")) {
  saves = Some (codes "#V2\none\n");
}

-- one Enter Enter = one "" | saves #V2␊one␊
abbrev pub row_201 : Row
row_201 = record (row 201 settings_192 (codes "one\r\r") (codes "one\n\n")) {
  saves = Some (codes "#V2\none\n");
}

-- ␠one Enter = ␠one | saves #V2␊␠one␊
abbrev pub row_202 : Row
row_202 = record (row 202 settings_192 (codes " one\r") (codes " one\n")) {
  saves = Some (codes "#V2\n one\n");
}

-- adding loaded:#V2␊first␊second␊
abbrev pub settings_205 : Settings
settings_205 = record plain {
  config = adding plain.config;
  loaded = codes "#V2\nfirst\nsecond\n";
}

-- Up Up Enter = first | saves #V2␊first␊second␊first␊
abbrev pub row_205 : Row
row_205 = record (row 205 settings_205 (codes "\u{1b}[A\u{1b}[A\r") (codes "first\n")) {
  saves = Some (codes "#V2\nfirst\nsecond\nfirst\n");
}

-- Up Up Up Enter = first
abbrev pub row_206 : Row
row_206 = row 206 settings_205 (codes "\u{1b}[A\u{1b}[A\u{1b}[A\r") (codes "first\n")

-- C-p x Enter = secondx | saves #V2␊first␊second␊secondx␊
abbrev pub row_207 : Row
row_207 = record (row 207 settings_205 (codes "\u{10}x\r") (codes "secondx\n")) {
  saves = Some (codes "#V2\nfirst\nsecond\nsecondx\n");
}

-- third Up Down ! Enter = third!
abbrev pub row_208 : Row
row_208 = row 208 settings_205 (codes "third\u{1b}[A\u{1b}[B!\r") (codes "third!\n")

-- M-< Enter = first | shows {} {first} ␍␊ {} ␍␊
abbrev pub row_209 : Row
row_209 = record (row 209 settings_205 (codes "\u{1b}<\r") (codes "first\n")) {
  shows = Some
      (codes "\r\u{1b}[J\u{1b}[m> \u{1b}[m\u{1b}[m\u{1b}[m\r\u{1b}[J\u{1b}[m> \u{1b}[mfirst" ++
      codes "\u{1b}[m\u{1b}[m\r\n\r\u{1b}[J\u{1b}[m> \u{1b}[m\u{1b}[m\u{1b}[m\r\n");
}

-- bind:C-O⇒Kill·WholeLine
abbrev pub settings_213 : Settings
settings_213 = record plain {
  custom = bound ((KeySeq ((key_with (Char 79) ctrl) ∷ []), command (Kill WholeLine)) ∷ []);
}

-- Paste a␊bc␊d Pasted Left Left Left C-o X C-y Enter = a␊Xbc␊d
abbrev pub row_213 : Row
row_213 = row 213 settings_213
    (codes "\u{1b}[200~a\nbc\nd\u{1b}[201~\u{1b}[D\u{1b}[D\u{1b}[D\u{f}X\u{19}\r")
    (codes "a\nXbc\nd\n")

-- Paste a␊␊b Pasted Left Left C-o X Enter = a␊Xb
abbrev pub row_214 : Row
row_214 = row 214 settings_213 (codes "\u{1b}[200~a\n\nb\u{1b}[201~\u{1b}[D\u{1b}[D\u{f}X\r")
    (codes "a\nXb\n")

-- Paste a␊ Pasted C-o X Enter = a␊X
abbrev pub row_215 : Row
row_215 = row 215 settings_213 (codes "\u{1b}[200~a\n\u{1b}[201~\u{f}X\r") (codes "a\nX\n")

-- bind:C-O⇒Kill·LineUp·1
abbrev pub settings_218 : Settings
settings_218 = record plain {
  custom = bound ((KeySeq ((key_with (Char 79) ctrl) ∷ []), command (Kill (LineUp 1))) ∷ []);
}

-- Paste ab␊cd␊e Pasted M-3 Left C-o X C-y Enter = Xab␊cd␊e
abbrev pub row_218 : Row
row_218 = row 218 settings_218
    (codes "\u{1b}[200~ab\ncd\ne\u{1b}[201~\u{1b}3\u{1b}[D\u{f}X\u{19}\r") (codes "Xab\ncd\ne\n")

-- Paste a␊b Pasted C-o X C-y Enter = Xa␊b
abbrev pub row_219 : Row
row_219 = row 219 settings_218 (codes "\u{1b}[200~a\nb\u{1b}[201~\u{f}X\u{19}\r") (codes "Xa\nb\n")

-- Paste a␊b Pasted Left Left C-o X Enter = aX␊b
abbrev pub row_220 : Row
row_220 = row 220 settings_218 (codes "\u{1b}[200~a\nb\u{1b}[201~\u{1b}[D\u{1b}[D\u{f}X\r")
    (codes "aX\nb\n")

-- bind:C-O⇒Kill·LineDown·1
abbrev pub settings_223 : Settings
settings_223 = record plain {
  custom = bound ((KeySeq ((key_with (Char 79) ctrl) ∷ []), command (Kill (LineDown 1))) ∷ []);
}

-- Paste ab␊cd␊ef␊y Pasted M-6 Left C-o X C-y Enter = ab␊Xcd␊ef␊y
abbrev pub row_223 : Row
row_223 = row 223 settings_223
    (codes "\u{1b}[200~ab\ncd\nef\ny\u{1b}[201~\u{1b}6\u{1b}[D\u{f}X\u{19}\r")
    (codes "ab\nXcd\nef\ny\n")

-- Paste ab␊cd␊ef Pasted M-4 Left C-o X C-y Enter = ab␊Xcd␊ef
abbrev pub row_224 : Row
row_224 = row 224 settings_223
    (codes "\u{1b}[200~ab\ncd\nef\u{1b}[201~\u{1b}4\u{1b}[D\u{f}X\u{19}\r") (codes "ab\nXcd\nef\n")

-- Paste a␊b Pasted Left C-o X Enter = a␊Xb
abbrev pub row_225 : Row
row_225 = row 225 settings_223 (codes "\u{1b}[200~a\nb\u{1b}[201~\u{1b}[D\u{f}X\r")
    (codes "a\nXb\n")

-- bind:C-O⇒Kill·WholeBuffer
abbrev pub settings_228 : Settings
settings_228 = record plain {
  custom = bound ((KeySeq ((key_with (Char 79) ctrl) ∷ []), command (Kill WholeBuffer)) ∷ []);
}

-- Paste ab␊c Pasted Left C-o X C-y Enter = Xab␊c
abbrev pub row_228 : Row
row_228 = row 228 settings_228 (codes "\u{1b}[200~ab\nc\u{1b}[201~\u{1b}[D\u{f}X\u{19}\r")
    (codes "Xab\nc\n")

-- C-o X C-y Enter = X
abbrev pub row_229 : Row
row_229 = row 229 settings_228 (codes "\u{f}X\u{19}\r") (codes "X\n")

-- bind:C-O⇒Kill·BeginningOfBuffer
abbrev pub settings_232 : Settings
settings_232 = record plain {
  custom = bound ((KeySeq ((key_with (Char 79) ctrl) ∷ []), command (Kill BeginningOfBuffer)) ∷ []);
}

-- Paste ab␊cd␊e Pasted M-3 Left C-o X C-y Enter = Xab␊cd␊e
abbrev pub row_232 : Row
row_232 = row 232 settings_232
    (codes "\u{1b}[200~ab\ncd\ne\u{1b}[201~\u{1b}3\u{1b}[D\u{f}X\u{19}\r") (codes "Xab\ncd\ne\n")

-- ab C-a C-o X Enter = Xab
abbrev pub row_233 : Row
row_233 = row 233 settings_232 (codes "ab\u{1}\u{f}X\r") (codes "Xab\n")

-- bind:C-O⇒Kill·EndOfBuffer
abbrev pub settings_236 : Settings
settings_236 = record plain {
  custom = bound ((KeySeq ((key_with (Char 79) ctrl) ∷ []), command (Kill EndOfBuffer)) ∷ []);
}

-- Paste ab␊cd␊e Pasted M-3 Left C-o X C-y Enter = ab␊cXd␊e
abbrev pub row_236 : Row
row_236 = row 236 settings_236
    (codes "\u{1b}[200~ab\ncd\ne\u{1b}[201~\u{1b}3\u{1b}[D\u{f}X\u{19}\r") (codes "ab\ncXd\ne\n")

-- ab C-o X Enter = abX
abbrev pub row_237 : Row
row_237 = row 237 settings_236 (codes "ab\u{f}X\r") (codes "abX\n")

-- bind:C-O⇒Kill·ViFirstPrint
abbrev pub settings_240 : Settings
settings_240 = record plain {
  custom = bound ((KeySeq ((key_with (Char 79) ctrl) ∷ []), command (Kill ViFirstPrint)) ∷ []);
}

-- ab Left C-o X Enter = aXb
abbrev pub row_240 : Row
row_240 = row 240 settings_240 (codes "ab\u{1b}[D\u{f}X\r") (codes "aXb\n")

-- bind:C-O⇒Indent·WholeBuffer
abbrev pub settings_244 : Settings
settings_244 = record plain {
  custom = bound ((KeySeq ((key_with (Char 79) ctrl) ∷ []), command (Indent WholeBuffer)) ∷ []);
}

-- Paste a␊b␊c Pasted M-3 Left C-o X Enter = ␠␠a␊␠␠Xb␊␠␠c
abbrev pub row_244 : Row
row_244 = row 244 settings_244 (codes "\u{1b}[200~a\nb\nc\u{1b}[201~\u{1b}3\u{1b}[D\u{f}X\r")
    (codes "  a\n  Xb\n  c\n")

-- bind:C-O⇒Indent·BeginningOfBuffer
abbrev pub settings_247 : Settings
settings_247 = record plain {
  custom = bound ((KeySeq ((key_with (Char 79) ctrl) ∷ []), command (Indent BeginningOfBuffer)) ∷
      []);
}

-- Paste a␊b␊c Pasted M-3 Left C-o X Enter = ␠␠a␊␠␠Xb␊c
abbrev pub row_247 : Row
row_247 = row 247 settings_247 (codes "\u{1b}[200~a\nb\nc\u{1b}[201~\u{1b}3\u{1b}[D\u{f}X\r")
    (codes "  a\n  Xb\nc\n")

-- bind:C-O⇒Indent·EndOfBuffer
abbrev pub settings_250 : Settings
settings_250 = record plain {
  custom = bound ((KeySeq ((key_with (Char 79) ctrl) ∷ []), command (Indent EndOfBuffer)) ∷ []);
}

-- Paste a␊b␊c Pasted M-3 Left C-o X Enter = a␊␠␠Xb␊␠␠c
abbrev pub row_250 : Row
row_250 = row 250 settings_250 (codes "\u{1b}[200~a\nb\nc\u{1b}[201~\u{1b}3\u{1b}[D\u{f}X\r")
    (codes "a\n  Xb\n  c\n")

-- Paste a␊b␊ Pasted M-4 Left C-o X Enter = ␠␠Xa␊␠␠b␊␠␠
abbrev pub row_251 : Row
row_251 = row 251 settings_250 (codes "\u{1b}[200~a\nb\n\u{1b}[201~\u{1b}4\u{1b}[D\u{f}X\r")
    (codes "  Xa\n  b\n  \n")

-- bind:C-O⇒Dedent·WholeBuffer
abbrev pub settings_254 : Settings
settings_254 = record plain {
  custom = bound ((KeySeq ((key_with (Char 79) ctrl) ∷ []), command (Dedent WholeBuffer)) ∷ []);
}

-- Paste ␠␠␠a␊␠b␊c Pasted M-8 Left C-o X Enter = X␠a␊b␊c
abbrev pub row_254 : Row
row_254 = row 254 settings_254 (codes "\u{1b}[200~   a\n b\nc\u{1b}[201~\u{1b}8\u{1b}[D\u{f}X\r")
    (codes "X a\nb\nc\n")

-- bind:C-O⇒Dedent·EndOfLine
abbrev pub settings_257 : Settings
settings_257 = record plain {
  custom = bound ((KeySeq ((key_with (Char 79) ctrl) ∷ []), command (Dedent EndOfLine)) ∷ []);
}

-- Paste ‹e3›‹80›‹80›‹e3›‹80›‹80›é Pasted Left C-o X Enter = Xé
abbrev pub row_257 : Row
row_257 = row 257 settings_257 (encode_utf8_all
    (codes "\u{1b}[200~\u{3000}\u{3000}é\u{1b}[201~\u{1b}[D\u{f}X\r")) (encode_utf8_all
    (codes "Xé\n"))

-- helped loaded:#V2␊hello␠world␊
abbrev pub settings_261 : Settings
settings_261 = record plain {
  helping = aide true None;
  loaded = codes "#V2\nhello world\n";
}

-- hello Right ! Enter = hello␠world!
abbrev pub row_261 : Row
row_261 = row 261 settings_261 (codes "hello\u{1b}[C!\r") (codes "hello world!\n")

-- hello C-f X Enter = helloX
abbrev pub row_262 : Row
row_262 = row 262 settings_261 (codes "hello\u{6}X\r") (codes "helloX\n")

-- hello␠world Right ! Enter = hello␠world!
abbrev pub row_263 : Row
row_263 = row 263 settings_261 (codes "hello world\u{1b}[C!\r") (codes "hello world!\n")

-- help Right ! Enter = help!
abbrev pub row_264 : Row
row_264 = row 264 settings_261 (codes "help\u{1b}[C!\r") (codes "help!\n")

-- Right ! Enter = !
abbrev pub row_265 : Row
row_265 = row 265 settings_261 (codes "\u{1b}[C!\r") (codes "!\n")

abbrev pub emacs_rows : List Row
emacs_rows = row_5 ∷ row_6 ∷ row_7 ∷ row_8 ∷ row_9 ∷ row_10 ∷ row_11 ∷ row_12 ∷ row_13 ∷ row_14 ∷
    row_15 ∷ row_16 ∷ row_17 ∷ row_18 ∷ row_21 ∷ row_22 ∷ row_23 ∷ row_24 ∷ row_25 ∷ row_26 ∷ row_27
    ∷ row_28 ∷ row_29 ∷ row_30 ∷ row_31 ∷ row_32 ∷ row_33 ∷ row_34 ∷ row_35 ∷ row_36 ∷ row_37 ∷
    row_38 ∷ row_39 ∷ row_40 ∷ row_43 ∷ row_44 ∷ row_45 ∷ row_46 ∷ row_47 ∷ row_48 ∷ row_49 ∷ row_50
    ∷ row_51 ∷ row_52 ∷ row_53 ∷ row_54 ∷ row_55 ∷ row_56 ∷ row_57 ∷ row_58 ∷ row_59 ∷ row_60 ∷
    row_61 ∷ row_62 ∷ row_65 ∷ row_66 ∷ row_67 ∷ row_68 ∷ row_69 ∷ row_70 ∷ row_71 ∷ row_72 ∷ row_73
    ∷ row_74 ∷ row_75 ∷ row_76 ∷ row_77 ∷ row_78 ∷ row_81 ∷ row_82 ∷ row_83 ∷ row_84 ∷ row_85 ∷
    row_86 ∷ row_87 ∷ row_88 ∷ row_89 ∷ row_90 ∷ row_93 ∷ row_94 ∷ row_95 ∷ row_96 ∷ row_97 ∷ row_98
    ∷ row_99 ∷ row_100 ∷ row_101 ∷ row_102 ∷ row_103 ∷ row_106 ∷ row_107 ∷ row_108 ∷ row_109 ∷
    row_110 ∷ row_111 ∷ row_112 ∷ row_113 ∷ row_114 ∷ row_115 ∷ row_116 ∷ row_117 ∷ row_118 ∷
    row_119 ∷ row_120 ∷ row_121 ∷ row_124 ∷ row_125 ∷ row_126 ∷ row_127 ∷ row_128 ∷ row_129 ∷
    row_130 ∷ row_131 ∷ row_132 ∷ row_133 ∷ row_136 ∷ row_137 ∷ row_138 ∷ row_139 ∷ row_140 ∷
    row_141 ∷ row_142 ∷ row_143 ∷ row_144 ∷ row_145 ∷ row_148 ∷ row_149 ∷ row_150 ∷ row_151 ∷
    row_152 ∷ row_153 ∷ row_154 ∷ row_155 ∷ row_156 ∷ row_157 ∷ row_158 ∷ row_161 ∷ row_162 ∷
    row_163 ∷ row_164 ∷ row_165 ∷ row_166 ∷ row_167 ∷ row_168 ∷ row_169 ∷ row_170 ∷ row_171 ∷
    row_172 ∷ row_173 ∷ row_174 ∷ row_177 ∷ row_178 ∷ row_179 ∷ row_180 ∷ row_181 ∷ row_182 ∷
    row_183 ∷ row_184 ∷ row_185 ∷ row_186 ∷ row_187 ∷ row_188 ∷ row_192 ∷ row_193 ∷ row_194 ∷
    row_195 ∷ row_196 ∷ row_197 ∷ row_198 ∷ row_199 ∷ row_200 ∷ row_201 ∷ row_202 ∷ row_205 ∷
    row_206 ∷ row_207 ∷ row_208 ∷ row_209 ∷ row_213 ∷ row_214 ∷ row_215 ∷ row_218 ∷ row_219 ∷
    row_220 ∷ row_223 ∷ row_224 ∷ row_225 ∷ row_228 ∷ row_229 ∷ row_232 ∷ row_233 ∷ row_236 ∷
    row_237 ∷ row_240 ∷ row_244 ∷ row_247 ∷ row_250 ∷ row_251 ∷ row_254 ∷ row_257 ∷ row_261 ∷
    row_262 ∷ row_263 ∷ row_264 ∷ row_265 ∷ []
