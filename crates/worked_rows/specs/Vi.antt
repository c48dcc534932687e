-- The rows of vi.txt; tests/definition/worked_rows.py writes them.
use Rattle.line_config.specs.declared.errors.ReadlineError.TheVariants.{Interrupted}
use Rattle.std.specs.Prelude.{List, [], ◌∷◌, ◌++◌, Some, codes, encode_utf8_all}
use Rattle.worked_rows.specs.Playing.{Row, row}
use Rattle.worked_rows.specs.Settings.{Settings, adding, plain, vi}

-- vi
abbrev pub settings_5 : Settings
settings_5 = record plain {
  config = vi plain.config;
}

-- abc Enter = abc
abbrev pub row_5 : Row
row_5 = row 5 settings_5 (codes "abc\r") (codes "abc\n")

-- Enter = ""
abbrev pub row_6 : Row
row_6 = row 6 settings_5 (codes "\r") (codes "\n")

-- abc Backspace Enter = ab
abbrev pub row_7 : Row
row_7 = row 7 settings_5 (codes "abc\u{7f}\r") (codes "ab\n")

-- ac Left b Enter = abc
abbrev pub row_8 : Row
row_8 = row 8 settings_5 (codes "ac\u{1b}[Db\r") (codes "abc\n")

-- bc Home a End d Enter = abcd
abbrev pub row_9 : Row
row_9 = row 9 settings_5 (codes "bc\u{1b}[Ha\u{1b}[Fd\r") (codes "abcd\n")

-- one␠two C-w Enter = one␠
abbrev pub row_10 : Row
row_10 = row 10 settings_5 (codes "one two\u{17}\r") (codes "one \n")

-- one␠two C-u Enter = ""
abbrev pub row_11 : Row
row_11 = row 11 settings_5 (codes "one two\u{15}\r") (codes "\n")

-- abc C-u C-y Enter = abc
abbrev pub row_12 : Row
row_12 = row 12 settings_5 (codes "abc\u{15}\u{19}\r") (codes "abc\n")

-- abc C-c = nothing | ends Interrupted
abbrev pub row_13 : Row
row_13 = record (row 13 settings_5 (codes "abc\u{3}") []) {
  ends = Interrupted;
}

-- abc C-d = abc
abbrev pub row_14 : Row
row_14 = row 14 settings_5 (codes "abc\u{4}") (codes "abc\n")

-- C-d = nothing
abbrev pub row_15 : Row
row_15 = row 15 settings_5 (codes "\u{4}") []

-- a Esc Enter = a
abbrev pub row_16 : Row
row_16 = row 16 settings_5 (codes "a\u{1b}\r") (codes "a\n")

-- 3 Enter = 3
abbrev pub row_18 : Row
row_18 = row 18 settings_5 (codes "3\r") (codes "3\n")

-- ab Esc x Enter = a | shows {} a b ␛[1D ␛[K ␍␊ {} ␍␊
abbrev pub row_19 : Row
row_19 = record (row 19 settings_5 (codes "ab\u{1b}x\r") (codes "a\n")) {
  shows = Some
      (codes "\r\u{1b}[J\u{1b}[m> \u{1b}[m\u{1b}[m\u{1b}[mab\u{1b}[1D\u{1b}[K\r\n\r\u{1b}[J" ++
      codes "\u{1b}[m> \u{1b}[m\u{1b}[m\u{1b}[m\r\n");
}

-- abc Esc ix Enter = abxc
abbrev pub row_22 : Row
row_22 = row 22 settings_5 (codes "abc\u{1b}ix\r") (codes "abxc\n")

-- abc Esc ax Enter = abcx
abbrev pub row_23 : Row
row_23 = row 23 settings_5 (codes "abc\u{1b}ax\r") (codes "abcx\n")

-- abc Esc Ix Enter = xabc
abbrev pub row_24 : Row
row_24 = row 24 settings_5 (codes "abc\u{1b}Ix\r") (codes "xabc\n")

-- abc Esc 0Ax Enter = abcx
abbrev pub row_25 : Row
row_25 = row 25 settings_5 (codes "abc\u{1b}0Ax\r") (codes "abcx\n")

-- abc Esc hix Enter = axbc
abbrev pub row_26 : Row
row_26 = row 26 settings_5 (codes "abc\u{1b}hix\r") (codes "axbc\n")

-- abc Esc 0lix Enter = axbc
abbrev pub row_27 : Row
row_27 = row 27 settings_5 (codes "abc\u{1b}0lix\r") (codes "axbc\n")

-- abc Esc 0ix Enter = xabc
abbrev pub row_28 : Row
row_28 = row 28 settings_5 (codes "abc\u{1b}0ix\r") (codes "xabc\n")

-- abc Esc 0$ax Enter = abcx
abbrev pub row_29 : Row
row_29 = row 29 settings_5 (codes "abc\u{1b}0$ax\r") (codes "abcx\n")

-- abcdef Esc 3hix Enter = abxcdef
abbrev pub row_30 : Row
row_30 = row 30 settings_5 (codes "abcdef\u{1b}3hix\r") (codes "abxcdef\n")

-- abcdef Esc 02lix Enter = abxcdef
abbrev pub row_31 : Row
row_31 = row 31 settings_5 (codes "abcdef\u{1b}02lix\r") (codes "abxcdef\n")

-- one␠two Esc bix Enter = one␠xtwo
abbrev pub row_32 : Row
row_32 = row 32 settings_5 (codes "one two\u{1b}bix\r") (codes "one xtwo\n")

-- one␠two Esc bbix Enter = xone␠two
abbrev pub row_33 : Row
row_33 = row 33 settings_5 (codes "one two\u{1b}bbix\r") (codes "xone two\n")

-- one␠two Esc 0wix Enter = one␠xtwo
abbrev pub row_34 : Row
row_34 = row 34 settings_5 (codes "one two\u{1b}0wix\r") (codes "one xtwo\n")

-- one␠two␠six Esc 02wix Enter = one␠two␠xsix
abbrev pub row_35 : Row
row_35 = row 35 settings_5 (codes "one two six\u{1b}02wix\r") (codes "one two xsix\n")

-- one,two Esc 0wix Enter = onex,two
abbrev pub row_36 : Row
row_36 = row 36 settings_5 (codes "one,two\u{1b}0wix\r") (codes "onex,two\n")

-- one,two␠six Esc 0Wix Enter = one,two␠xsix
abbrev pub row_37 : Row
row_37 = row 37 settings_5 (codes "one,two six\u{1b}0Wix\r") (codes "one,two xsix\n")

-- one␠two,six Esc Bix Enter = one␠xtwo,six
abbrev pub row_38 : Row
row_38 = row 38 settings_5 (codes "one two,six\u{1b}Bix\r") (codes "one xtwo,six\n")

-- one␠two Esc 0eax Enter = onex␠two
abbrev pub row_39 : Row
row_39 = row 39 settings_5 (codes "one two\u{1b}0eax\r") (codes "onex two\n")

-- one,a␠two Esc 0Eax Enter = one,ax␠two
abbrev pub row_40 : Row
row_40 = row 40 settings_5 (codes "one,a two\u{1b}0Eax\r") (codes "one,ax two\n")

-- abcabc Esc 0fcix Enter = abxcabc
abbrev pub row_41 : Row
row_41 = row 41 settings_5 (codes "abcabc\u{1b}0fcix\r") (codes "abxcabc\n")

-- abcabc Esc 02fcix Enter = abcabxc
abbrev pub row_42 : Row
row_42 = row 42 settings_5 (codes "abcabc\u{1b}02fcix\r") (codes "abcabxc\n")

-- abcabc Esc 0tcix Enter = axbcabc
abbrev pub row_43 : Row
row_43 = row 43 settings_5 (codes "abcabc\u{1b}0tcix\r") (codes "axbcabc\n")

-- abcabc Esc Faix Enter = abcxabc
abbrev pub row_44 : Row
row_44 = row 44 settings_5 (codes "abcabc\u{1b}Faix\r") (codes "abcxabc\n")

-- abcabc Esc Taix Enter = abcaxbc
abbrev pub row_45 : Row
row_45 = row 45 settings_5 (codes "abcabc\u{1b}Taix\r") (codes "abcaxbc\n")

-- abcabcabc Esc 0fc;ix Enter = abcabxcabc
abbrev pub row_46 : Row
row_46 = row 46 settings_5 (codes "abcabcabc\u{1b}0fc;ix\r") (codes "abcabxcabc\n")

-- abcabcabc Esc 0fc;;,ix Enter = abcabxcabc
abbrev pub row_47 : Row
row_47 = row 47 settings_5 (codes "abcabcabc\u{1b}0fc;;,ix\r") (codes "abcabxcabc\n")

-- ␠␠ab Esc ^ix Enter = ␠␠xab
abbrev pub row_48 : Row
row_48 = row 48 settings_5 (codes "  ab\u{1b}^ix\r") (codes "  xab\n")

-- abc Esc hhhhix Enter = xabc
abbrev pub row_49 : Row
row_49 = row 49 settings_5 (codes "abc\u{1b}hhhhix\r") (codes "xabc\n")

-- abc Esc lllix Enter = abcx
abbrev pub row_50 : Row
row_50 = row 50 settings_5 (codes "abc\u{1b}lllix\r") (codes "abcx\n")

-- abc Esc 2h Enter = abc | shows {} a b c ␛[1D ␍␛[J␛[m(arg:␠2)␠␛[mabc␛[m␛[m␛[1D {abc}␛[1D ␛[2D ␛[3C␍␊ {} ␍␊
abbrev pub row_51 : Row
row_51 = record (row 51 settings_5 (codes "abc\u{1b}2h\r") (codes "abc\n")) {
  shows = Some
      (codes "\r\u{1b}[J\u{1b}[m> \u{1b}[m\u{1b}[m\u{1b}[mabc\u{1b}[1D\r\u{1b}[J\u{1b}[m(arg" ++
      codes ": 2) \u{1b}[mabc\u{1b}[m\u{1b}[m\u{1b}[1D\r\u{1b}[J\u{1b}[m> \u{1b}[mabc\u{1b}" ++
      codes "[m\u{1b}[m\u{1b}[1D\u{1b}[2D\u{1b}[3C\r\n\r\u{1b}[J\u{1b}[m> \u{1b}[m\u{1b}[m" ++
      codes "\u{1b}[m\r\n");
}

-- abc Esc 12l Enter = abc | shows {} a b c ␛[1D ␍␛[J␛[m(arg:␠1)␠␛[mabc␛[m␛[m␛[1D ␍␛[J␛[m(arg:␠12)␠␛[mabc␛[m␛[m␛[1D {abc}␛[1D ␛[1C ␍␊ {} ␍␊
abbrev pub row_52 : Row
row_52 = record (row 52 settings_5 (codes "abc\u{1b}12l\r") (codes "abc\n")) {
  shows = Some
      (codes "\r\u{1b}[J\u{1b}[m> \u{1b}[m\u{1b}[m\u{1b}[mabc\u{1b}[1D\r\u{1b}[J\u{1b}[m(arg" ++
      codes ": 1) \u{1b}[mabc\u{1b}[m\u{1b}[m\u{1b}[1D\r\u{1b}[J\u{1b}[m(arg: 12) \u{1b}[ma" ++
      codes "bc\u{1b}[m\u{1b}[m\u{1b}[1D\r\u{1b}[J\u{1b}[m> \u{1b}[mabc\u{1b}[m\u{1b}[m" ++
      codes "\u{1b}[1D\u{1b}[1C\r\n\r\u{1b}[J\u{1b}[m> \u{1b}[m\u{1b}[m\u{1b}[m\r\n");
}

-- a Esc 2 Esc Enter = a | shows {} a ␛[1D ␍␛[J␛[m(arg:␠2)␠␛[ma␛[m␛[m␛[1D {a}␛[1D ␛[1C␍␊ {} ␍␊
abbrev pub row_53 : Row
row_53 = record (row 53 settings_5 (codes "a\u{1b}2\u{1b}\r") (codes "a\n")) {
  shows = Some
      (codes "\r\u{1b}[J\u{1b}[m> \u{1b}[m\u{1b}[m\u{1b}[ma\u{1b}[1D\r\u{1b}[J\u{1b}[m(arg: " ++
      codes "2) \u{1b}[ma\u{1b}[m\u{1b}[m\u{1b}[1D\r\u{1b}[J\u{1b}[m> \u{1b}[ma\u{1b}[m" ++
      codes "\u{1b}[m\u{1b}[1D\u{1b}[1C\r\n\r\u{1b}[J\u{1b}[m> \u{1b}[m\u{1b}[m\u{1b}[m\r\n");
}

-- abc Esc x Enter = ab
abbrev pub row_56 : Row
row_56 = row 56 settings_5 (codes "abc\u{1b}x\r") (codes "ab\n")

-- abc Esc 0x Enter = bc
abbrev pub row_57 : Row
row_57 = row 57 settings_5 (codes "abc\u{1b}0x\r") (codes "bc\n")

-- abc Esc 02x Enter = c
abbrev pub row_58 : Row
row_58 = row 58 settings_5 (codes "abc\u{1b}02x\r") (codes "c\n")

-- abc Esc X Enter = ac
abbrev pub row_59 : Row
row_59 = row 59 settings_5 (codes "abc\u{1b}X\r") (codes "ac\n")

-- abc Esc D Enter = ab
abbrev pub row_60 : Row
row_60 = row 60 settings_5 (codes "abc\u{1b}D\r") (codes "ab\n")

-- abc Esc 0D Enter = ""
abbrev pub row_61 : Row
row_61 = row 61 settings_5 (codes "abc\u{1b}0D\r") (codes "\n")

-- one␠two␠six Esc 0dw Enter = two␠six
abbrev pub row_62 : Row
row_62 = row 62 settings_5 (codes "one two six\u{1b}0dw\r") (codes "two six\n")

-- one␠two␠six Esc 0d2w Enter = six
abbrev pub row_63 : Row
row_63 = row 63 settings_5 (codes "one two six\u{1b}0d2w\r") (codes "six\n")

-- one␠two␠six Esc 02dw Enter = six
abbrev pub row_64 : Row
row_64 = row 64 settings_5 (codes "one two six\u{1b}02dw\r") (codes "six\n")

-- one␠two Esc 0de Enter = ␠two
abbrev pub row_65 : Row
row_65 = row 65 settings_5 (codes "one two\u{1b}0de\r") (codes " two\n")

-- one␠two Esc db Enter = one␠o
abbrev pub row_66 : Row
row_66 = row 66 settings_5 (codes "one two\u{1b}db\r") (codes "one o\n")

-- one␠two Esc bd$ Enter = one␠
abbrev pub row_67 : Row
row_67 = row 67 settings_5 (codes "one two\u{1b}bd$\r") (codes "one \n")

-- one␠two Esc d0 Enter = o
abbrev pub row_68 : Row
row_68 = row 68 settings_5 (codes "one two\u{1b}d0\r") (codes "o\n")

-- one␠two Esc dd Enter = ""
abbrev pub row_69 : Row
row_69 = row 69 settings_5 (codes "one two\u{1b}dd\r") (codes "\n")

-- one,a␠two Esc 0dW Enter = two
abbrev pub row_70 : Row
row_70 = row 70 settings_5 (codes "one,a two\u{1b}0dW\r") (codes "two\n")

-- abcabc Esc 0dfc Enter = abc
abbrev pub row_71 : Row
row_71 = row 71 settings_5 (codes "abcabc\u{1b}0dfc\r") (codes "abc\n")

-- abcabc Esc 0dtc Enter = cabc
abbrev pub row_72 : Row
row_72 = row 72 settings_5 (codes "abcabc\u{1b}0dtc\r") (codes "cabc\n")

-- abc Esc dh Enter = ac
abbrev pub row_73 : Row
row_73 = row 73 settings_5 (codes "abc\u{1b}dh\r") (codes "ac\n")

-- abc Esc 0dl Enter = bc
abbrev pub row_74 : Row
row_74 = row 74 settings_5 (codes "abc\u{1b}0dl\r") (codes "bc\n")

-- abc Esc 0d2l Enter = c
abbrev pub row_75 : Row
row_75 = row 75 settings_5 (codes "abc\u{1b}0d2l\r") (codes "c\n")

-- one␠two Esc 0cwx Enter = x␠two
abbrev pub row_78 : Row
row_78 = row 78 settings_5 (codes "one two\u{1b}0cwx\r") (codes "x two\n")

-- one␠two Esc 0cwx Esc ay Enter = xy␠two
abbrev pub row_79 : Row
row_79 = row 79 settings_5 (codes "one two\u{1b}0cwx\u{1b}ay\r") (codes "xy two\n")

-- one␠two Esc Cx Enter = one␠twx
abbrev pub row_80 : Row
row_80 = row 80 settings_5 (codes "one two\u{1b}Cx\r") (codes "one twx\n")

-- one␠two Esc Sx Enter = x
abbrev pub row_81 : Row
row_81 = row 81 settings_5 (codes "one two\u{1b}Sx\r") (codes "x\n")

-- one␠two Esc sx Enter = one␠twx
abbrev pub row_82 : Row
row_82 = row 82 settings_5 (codes "one two\u{1b}sx\r") (codes "one twx\n")

-- one␠two Esc ccx Enter = x
abbrev pub row_83 : Row
row_83 = row 83 settings_5 (codes "one two\u{1b}ccx\r") (codes "x\n")

-- abc Esc rx Enter = abx
abbrev pub row_84 : Row
row_84 = row 84 settings_5 (codes "abc\u{1b}rx\r") (codes "abx\n")

-- abc Esc 02rx Enter = xxc
abbrev pub row_85 : Row
row_85 = row 85 settings_5 (codes "abc\u{1b}02rx\r") (codes "xxc\n")

-- abc Esc 0r␛ x Enter = bc
abbrev pub row_86 : Row
row_86 = row 86 settings_5 (codes "abc\u{1b}0r\u{1b}x\r") (codes "bc\n")

-- abc Esc 0Rxy Enter = xyc
abbrev pub row_87 : Row
row_87 = row 87 settings_5 (codes "abc\u{1b}0Rxy\r") (codes "xyc\n")

-- abc Esc 0Rxy Esc ix Enter = xxyc
abbrev pub row_88 : Row
row_88 = row 88 settings_5 (codes "abc\u{1b}0Rxy\u{1b}ix\r") (codes "xxyc\n")

-- one␠two␠six Esc 0wcwx Enter = one␠x␠six
abbrev pub row_89 : Row
row_89 = row 89 settings_5 (codes "one two six\u{1b}0wcwx\r") (codes "one x six\n")

-- abc Esc 0x$p Enter = bc
abbrev pub row_92 : Row
row_92 = row 92 settings_5 (codes "abc\u{1b}0x$p\r") (codes "bc\n")

-- abc Esc 0dl$p Enter = bc
abbrev pub row_93 : Row
row_93 = row 93 settings_5 (codes "abc\u{1b}0dl$p\r") (codes "bc\n")

-- one␠two Esc 0dw$p Enter = twoone␠
abbrev pub row_94 : Row
row_94 = row 94 settings_5 (codes "one two\u{1b}0dw$p\r") (codes "twoone \n")

-- abc Esc hD0P Enter = bca
abbrev pub row_95 : Row
row_95 = row 95 settings_5 (codes "abc\u{1b}hD0P\r") (codes "bca\n")

-- abc Esc hDp Enter = abc
abbrev pub row_96 : Row
row_96 = row 96 settings_5 (codes "abc\u{1b}hDp\r") (codes "abc\n")

-- ab Esc yyp Enter = abab
abbrev pub row_97 : Row
row_97 = row 97 settings_5 (codes "ab\u{1b}yyp\r") (codes "abab\n")

-- ab Esc yy2p Enter = ababab
abbrev pub row_98 : Row
row_98 = row 98 settings_5 (codes "ab\u{1b}yy2p\r") (codes "ababab\n")

-- ab Esc ddp Enter = ab
abbrev pub row_99 : Row
row_99 = row 99 settings_5 (codes "ab\u{1b}ddp\r") (codes "ab\n")

-- ab Esc xp Enter = a
abbrev pub row_100 : Row
row_100 = row 100 settings_5 (codes "ab\u{1b}xp\r") (codes "a\n")

-- ab Esc y^p Enter = ab
abbrev pub row_101 : Row
row_101 = row 101 settings_5 (codes "ab\u{1b}y^p\r") (codes "ab\n")

-- ab␠c Esc ybP Enter = ab␠ab␠c
abbrev pub row_102 : Row
row_102 = row 102 settings_5 (codes "ab c\u{1b}ybP\r") (codes "ab ab c\n")

-- abc Esc 02yl$p Enter = abcab
abbrev pub row_103 : Row
row_103 = row 103 settings_5 (codes "abc\u{1b}02yl$p\r") (codes "abcab\n")

-- one␠two Esc 0cwxy Esc w. Enter = xy␠xy
abbrev pub row_104 : Row
row_104 = row 104 settings_5 (codes "one two\u{1b}0cwxy\u{1b}w.\r") (codes "xy xy\n")

-- one␠two Esc 0yw$p Enter = one␠twoone␠
abbrev pub row_105 : Row
row_105 = row 105 settings_5 (codes "one two\u{1b}0yw$p\r") (codes "one twoone \n")

-- one␠two Esc 0dwP Enter = one␠two
abbrev pub row_106 : Row
row_106 = row 106 settings_5 (codes "one two\u{1b}0dwP\r") (codes "one two\n")

-- one␠two Esc 0dwu Enter = one␠two
abbrev pub row_107 : Row
row_107 = row 107 settings_5 (codes "one two\u{1b}0dwu\r") (codes "one two\n")

-- abc Esc xu Enter = abc
abbrev pub row_108 : Row
row_108 = row 108 settings_5 (codes "abc\u{1b}xu\r") (codes "abc\n")

-- abc Esc 0x. Enter = c
abbrev pub row_109 : Row
row_109 = row 109 settings_5 (codes "abc\u{1b}0x.\r") (codes "c\n")

-- abcdef Esc 0x3. Enter = ef
abbrev pub row_110 : Row
row_110 = row 110 settings_5 (codes "abcdef\u{1b}0x3.\r") (codes "ef\n")

-- one␠two␠six Esc 0dw. Enter = six
abbrev pub row_111 : Row
row_111 = row 111 settings_5 (codes "one two six\u{1b}0dw.\r") (codes "six\n")

-- ab Esc 03p Enter = ab
abbrev pub row_112 : Row
row_112 = row 112 settings_5 (codes "ab\u{1b}03p\r") (codes "ab\n")

-- one␠two Esc 0dw3P Enter = one␠one␠one␠two
abbrev pub row_113 : Row
row_113 = row 113 settings_5 (codes "one two\u{1b}0dw3P\r") (codes "one one one two\n")

-- abc Esc . Enter = ababcc
abbrev pub row_114 : Row
row_114 = row 114 settings_5 (codes "abc\u{1b}.\r") (codes "ababcc\n")

-- one␠two Esc 0cwx Esc w. Enter = x␠x
abbrev pub row_115 : Row
row_115 = row 115 settings_5 (codes "one two\u{1b}0cwx\u{1b}w.\r") (codes "x x\n")

-- abc Esc u Enter = ""
abbrev pub row_118 : Row
row_118 = row 118 settings_5 (codes "abc\u{1b}u\r") (codes "\n")

-- abc Esc xxu Enter = abc
abbrev pub row_119 : Row
row_119 = row 119 settings_5 (codes "abc\u{1b}xxu\r") (codes "abc\n")

-- abc Esc hxxu Enter = abc
abbrev pub row_120 : Row
row_120 = row 120 settings_5 (codes "abc\u{1b}hxxu\r") (codes "abc\n")

-- one␠two Esc ddu Enter = one␠two
abbrev pub row_121 : Row
row_121 = row 121 settings_5 (codes "one two\u{1b}ddu\r") (codes "one two\n")

-- abc Esc 0iX Esc u Enter = abc
abbrev pub row_122 : Row
row_122 = row 122 settings_5 (codes "abc\u{1b}0iX\u{1b}u\r") (codes "abc\n")

-- a+b Esc Ac+ Esc u Enter = a+b
abbrev pub row_123 : Row
row_123 = row 123 settings_5 (codes "a+b\u{1b}Ac+\u{1b}u\r") (codes "a+b\n")

-- abc Esc 0Rxy Esc u Enter = abc
abbrev pub row_124 : Row
row_124 = row 124 settings_5 (codes "abc\u{1b}0Rxy\u{1b}u\r") (codes "abc\n")

-- Paste a␊b Pasted Esc kix Enter = xa␊b
abbrev pub row_127 : Row
row_127 = row 127 settings_5 (codes "\u{1b}[200~a\nb\u{1b}[201~\u{1b}kix\r") (codes "xa\nb\n")

-- Paste a␊b Pasted Esc kjix Enter = a␊bx
abbrev pub row_128 : Row
row_128 = row 128 settings_5 (codes "\u{1b}[200~a\nb\u{1b}[201~\u{1b}kjix\r") (codes "a\nbx\n")

-- Paste a␊b Pasted Esc 0ix Enter = a␊xb
abbrev pub row_129 : Row
row_129 = row 129 settings_5 (codes "\u{1b}[200~a\nb\u{1b}[201~\u{1b}0ix\r") (codes "a\nxb\n")

-- Paste a␊b Pasted Esc dd Enter = a␊
abbrev pub row_130 : Row
row_130 = row 130 settings_5 (codes "\u{1b}[200~a\nb\u{1b}[201~\u{1b}dd\r") (codes "a\n\n")

-- Paste a␊b Pasted Esc >k Enter = ␠␠a␊␠␠b
abbrev pub row_131 : Row
row_131 = row 131 settings_5 (codes "\u{1b}[200~a\nb\u{1b}[201~\u{1b}>k\r") (codes "  a\n  b\n")

-- abc Esc Esc Enter = abc
abbrev pub row_134 : Row
row_134 = row 134 settings_5 (codes "abc\u{1b}\u{1b}\r") (codes "abc\n")

-- abc Esc C-g x Enter = ab
abbrev pub row_135 : Row
row_135 = row 135 settings_5 (codes "abc\u{1b}\u{7}x\r") (codes "ab\n")

-- abc Esc C-r Enter = abc
abbrev pub row_136 : Row
row_136 = row 136 settings_5 (codes "abc\u{1b}\u{12}\r") (codes "abc\n")

-- abc Esc zx Enter = ab
abbrev pub row_137 : Row
row_137 = row 137 settings_5 (codes "abc\u{1b}zx\r") (codes "ab\n")

-- abc Esc dzx Enter = ab
abbrev pub row_138 : Row
row_138 = row 138 settings_5 (codes "abc\u{1b}dzx\r") (codes "ab\n")

-- abc Esc ;, Enter = abc
abbrev pub row_139 : Row
row_139 = row 139 settings_5 (codes "abc\u{1b};,\r") (codes "abc\n")

-- Paste ab Pasted Enter = ab
abbrev pub row_142 : Row
row_142 = row 142 settings_5 (codes "\u{1b}[200~ab\u{1b}[201~\r") (codes "ab\n")

-- ac Left Paste b Pasted Enter = abc
abbrev pub row_143 : Row
row_143 = row 143 settings_5 (codes "ac\u{1b}[D\u{1b}[200~b\u{1b}[201~\r") (codes "abc\n")

-- Paste ab␊e_f␊xy Pasted Left Left Left Left Left Esc dwiX C-y Enter = ab␊Xe_f␊xy
abbrev pub row_146 : Row
row_146 = row 146 settings_5
    (codes "\u{1b}[200~ab\ne_f\nxy\u{1b}[201~\u{1b}[D\u{1b}[D\u{1b}[D\u{1b}[D\u{1b}[D" ++
    codes "\u{1b}dwiX\u{19}\r") (codes "ab\nXe_f\nxy\n")

-- Paste ab␊e_f␊xy Pasted Left Left Left Left Left Esc deiX C-y Enter = ab␊Xe_f␊xy
abbrev pub row_147 : Row
row_147 = row 147 settings_5
    (codes "\u{1b}[200~ab\ne_f\nxy\u{1b}[201~\u{1b}[D\u{1b}[D\u{1b}[D\u{1b}[D\u{1b}[D" ++
    codes "\u{1b}deiX\u{19}\r") (codes "ab\nXe_f\nxy\n")

-- Paste ab␠ced␊漢字␠e_f Pasted Left Left Esc d2BiX C-y Enter = ab␠Xced␊漢字␠e_f
abbrev pub row_148 : Row
row_148 = row 148 settings_5 (encode_utf8_all
    (codes "\u{1b}[200~ab ced\n漢字 e_f\u{1b}[201~\u{1b}[D\u{1b}[D\u{1b}d2BiX\u{19}\r"))
    (encode_utf8_all (codes "ab Xced\n漢字 e_f\n"))

-- Paste ab␊漢字␠e_f Pasted Left Left Esc dfeiX C-y Enter = ab␊漢字␠Xe_f
abbrev pub row_149 : Row
row_149 = row 149 settings_5 (encode_utf8_all
    (codes "\u{1b}[200~ab\n漢字 e_f\u{1b}[201~\u{1b}[D\u{1b}[D\u{1b}dfeiX\u{19}\r")) (encode_utf8_all
    (codes "ab\n漢字 Xe_f\n"))

-- Paste ab␊漢字␠e_f Pasted Left Left Esc dffiX C-y Enter = ab␊漢字␠Xe_f
abbrev pub row_150 : Row
row_150 = row 150 settings_5 (encode_utf8_all
    (codes "\u{1b}[200~ab\n漢字 e_f\u{1b}[201~\u{1b}[D\u{1b}[D\u{1b}dffiX\u{19}\r")) (encode_utf8_all
    (codes "ab\n漢字 Xe_f\n"))

-- Paste ab␊漢字␠e_f Pasted Left Left Esc dtfiX C-y Enter = ab␊漢字␠Xe_f
abbrev pub row_151 : Row
row_151 = row 151 settings_5 (encode_utf8_all
    (codes "\u{1b}[200~ab\n漢字 e_f\u{1b}[201~\u{1b}[D\u{1b}[D\u{1b}dtfiX\u{19}\r")) (encode_utf8_all
    (codes "ab\n漢字 Xe_f\n"))

-- Paste ab␊漢字␠e_f Pasted Left Left Esc dF字iX C-y Enter = ab␊漢X字␠e_f
abbrev pub row_152 : Row
row_152 = row 152 settings_5 (encode_utf8_all
    (codes "\u{1b}[200~ab\n漢字 e_f\u{1b}[201~\u{1b}[D\u{1b}[D\u{1b}dF字iX\u{19}\r")) (encode_utf8_all
    (codes "ab\n漢X字 e_f\n"))

-- Paste ab␊漢字␠e_f Pasted Left Left Esc dT字iX C-y Enter = ab␊漢字X␠e_f
abbrev pub row_153 : Row
row_153 = row 153 settings_5 (encode_utf8_all
    (codes "\u{1b}[200~ab\n漢字 e_f\u{1b}[201~\u{1b}[D\u{1b}[D\u{1b}dT字iX\u{19}\r")) (encode_utf8_all
    (codes "ab\n漢字X e_f\n"))

-- Paste ab␊cd␊ef␊y Pasted Left Left Left Left Left Esc djiX C-y Enter = ab␊Xcd␊ef␊y
abbrev pub row_154 : Row
row_154 = row 154 settings_5
    (codes "\u{1b}[200~ab\ncd\nef\ny\u{1b}[201~\u{1b}[D\u{1b}[D\u{1b}[D\u{1b}[D\u{1b}[D" ++
    codes "\u{1b}djiX\u{19}\r") (codes "ab\nXcd\nef\ny\n")

-- Paste ab␊cd␊ef␊y Pasted Left Left Left Left Left Esc dkiX C-y Enter = Xab␊cd␊ef␊y
abbrev pub row_155 : Row
row_155 = row 155 settings_5
    (codes "\u{1b}[200~ab\ncd\nef\ny\u{1b}[201~\u{1b}[D\u{1b}[D\u{1b}[D\u{1b}[D\u{1b}[D" ++
    codes "\u{1b}dkiX\u{19}\r") (codes "Xab\ncd\nef\ny\n")

-- Paste ab␊cd␊ef␊y Pasted Left Left Left Left Left Esc ddiX C-y Enter = ab␊Xcd␊ef␊y
abbrev pub row_156 : Row
row_156 = row 156 settings_5
    (codes "\u{1b}[200~ab\ncd\nef\ny\u{1b}[201~\u{1b}[D\u{1b}[D\u{1b}[D\u{1b}[D\u{1b}[D" ++
    codes "\u{1b}ddiX\u{19}\r") (codes "ab\nXcd\nef\ny\n")

-- Esc >wiX Enter = ␠␠X
abbrev pub row_159 : Row
row_159 = row 159 settings_5 (codes "\u{1b}>wiX\r") (codes "  X\n")

-- Paste a␊b␊c Pasted Left Left Esc >>iX Enter = a␊␠␠Xb␊c
abbrev pub row_160 : Row
row_160 = row 160 settings_5 (codes "\u{1b}[200~a\nb\nc\u{1b}[201~\u{1b}[D\u{1b}[D\u{1b}>>iX\r")
    (codes "a\n  Xb\nc\n")

-- Paste a␊b␊c Pasted Left Left Esc >hiX Enter = a␊␠␠Xb␊c
abbrev pub row_161 : Row
row_161 = row 161 settings_5 (codes "\u{1b}[200~a\nb\nc\u{1b}[201~\u{1b}[D\u{1b}[D\u{1b}>hiX\r")
    (codes "a\n  Xb\nc\n")

-- Paste a␊b␊c Pasted Left Left Esc >jiX Enter = a␊␠␠Xb␊␠␠c
abbrev pub row_162 : Row
row_162 = row 162 settings_5 (codes "\u{1b}[200~a\nb\nc\u{1b}[201~\u{1b}[D\u{1b}[D\u{1b}>jiX\r")
    (codes "a\n  Xb\n  c\n")

-- Paste a␊b␊c Pasted Left Left Esc >kiX Enter = ␠␠a␊␠␠Xb␊c
abbrev pub row_163 : Row
row_163 = row 163 settings_5 (codes "\u{1b}[200~a\nb\nc\u{1b}[201~\u{1b}[D\u{1b}[D\u{1b}>kiX\r")
    (codes "  a\n  Xb\nc\n")

-- Paste a␊b␊c Pasted Left Left Esc >biX Enter = ␠␠a␊␠␠Xb␊c
abbrev pub row_164 : Row
row_164 = row 164 settings_5 (codes "\u{1b}[200~a\nb\nc\u{1b}[201~\u{1b}[D\u{1b}[D\u{1b}>biX\r")
    (codes "  a\n  Xb\nc\n")

-- Paste a␊b␊c Pasted Left Left Left Left Esc >wiX Enter = ␠␠Xa␊␠␠b␊c
abbrev pub row_165 : Row
row_165 = row 165 settings_5
    (codes "\u{1b}[200~a\nb\nc\u{1b}[201~\u{1b}[D\u{1b}[D\u{1b}[D\u{1b}[D\u{1b}>wiX\r")
    (codes "  Xa\n  b\nc\n")

-- Paste a␊b␊c Pasted Esc >jiX Enter = a␊b␊␠␠Xc
abbrev pub row_166 : Row
row_166 = row 166 settings_5 (codes "\u{1b}[200~a\nb\nc\u{1b}[201~\u{1b}>jiX\r")
    (codes "a\nb\n  Xc\n")

-- Paste ab␊cd Pasted Esc >k<kiX Enter = ab␊cXd
abbrev pub row_167 : Row
row_167 = row 167 settings_5 (codes "\u{1b}[200~ab\ncd\u{1b}[201~\u{1b}>k<kiX\r")
    (codes "ab\ncXd\n")

-- Paste ␠␠␠a␊␠b␊c Pasted Left Left Left Left Left Esc <2jiX Enter = ␠Xa␊b␊c
abbrev pub row_168 : Row
row_168 = row 168 settings_5
    (codes "\u{1b}[200~   a\n b\nc\u{1b}[201~\u{1b}[D\u{1b}[D\u{1b}[D\u{1b}[D\u{1b}[D" ++
    codes "\u{1b}<2jiX\r") (codes " Xa\nb\nc\n")

-- Paste ␠␠␠a␊␠b␊c Pasted Left Left Left Left Left Esc <2juiX Enter = ␠a␊␠Xb␊c
abbrev pub row_169 : Row
row_169 = row 169 settings_5
    (codes "\u{1b}[200~   a\n b\nc\u{1b}[201~\u{1b}[D\u{1b}[D\u{1b}[D\u{1b}[D\u{1b}[D" ++
    codes "\u{1b}<2juiX\r") (codes " a\n Xb\nc\n")

-- 漢 Esc ié␠b␠d Esc uiX Enter = X漢
abbrev pub row_172 : Row
row_172 = row 172 settings_5 (encode_utf8_all (codes "漢\u{1b}ié b d\u{1b}uiX\r")) (encode_utf8_all
    (codes "X漢\n"))

-- 漢 Esc ié␠b␠d Right ! Esc uiX Enter = X漢
abbrev pub row_173 : Row
row_173 = row 173 settings_5 (encode_utf8_all (codes "漢\u{1b}ié b d\u{1b}[C!\u{1b}uiX\r"))
    (encode_utf8_all (codes "X漢\n"))

-- one␠two Esc 0cwx␠y Esc uiX Enter = oneX␠two
abbrev pub row_174 : Row
row_174 = row 174 settings_5 (codes "one two\u{1b}0cwx y\u{1b}uiX\r") (codes "oneX two\n")

-- Paste a␊b Pasted Esc y0PiX Enter = a␊Xb
abbrev pub row_177 : Row
row_177 = row 177 settings_5 (codes "\u{1b}[200~a\nb\u{1b}[201~\u{1b}y0PiX\r") (codes "a\nXb\n")

-- Paste a␊b Pasted Left Esc y$PiX Enter = aX␊b
abbrev pub row_178 : Row
row_178 = row 178 settings_5 (codes "\u{1b}[200~a\nb\u{1b}[201~\u{1b}[D\u{1b}y$PiX\r")
    (codes "aX\nb\n")

-- Paste a␊bc Pasted Esc yyPiX Enter = a␊bbXcc
abbrev pub row_179 : Row
row_179 = row 179 settings_5 (codes "\u{1b}[200~a\nbc\u{1b}[201~\u{1b}yyPiX\r") (codes "a\nbbXcc\n")

-- Paste ab␊cd␊e Pasted Left Left Left Esc ykPiX Enter = ab␊ab␊cdX␊cd␊e
abbrev pub row_180 : Row
row_180 = row 180 settings_5
    (codes "\u{1b}[200~ab\ncd\ne\u{1b}[201~\u{1b}[D\u{1b}[D\u{1b}[D\u{1b}ykPiX\r")
    (codes "ab\nab\ncdX\ncd\ne\n")

-- Esc ione␠two Esc . Enter = one␠tw␠twoo
abbrev pub row_181 : Row
row_181 = row 181 settings_5 (codes "\u{1b}ione two\u{1b}.\r") (codes "one tw twoo\n")

-- vi adding
abbrev pub settings_185 : Settings
settings_185 = record plain {
  config = adding (vi plain.config);
}

-- one Enter two Enter Esc kk Enter = one two one
abbrev pub row_185 : Row
row_185 = row 185 settings_185 (codes "one\rtwo\r\u{1b}kk\r") (codes "one\ntwo\none\n")

-- one Enter two Enter Esc kkj Enter = one two two
abbrev pub row_186 : Row
row_186 = row 186 settings_185 (codes "one\rtwo\r\u{1b}kkj\r") (codes "one\ntwo\ntwo\n")

-- one Enter Esc C-p Ax Enter = one onex
abbrev pub row_187 : Row
row_187 = row 187 settings_185 (codes "one\r\u{1b}\u{10}Ax\r") (codes "one\nonex\n")

-- one Enter Esc - Enter = one one
abbrev pub row_188 : Row
row_188 = row 188 settings_185 (codes "one\r\u{1b}-\r") (codes "one\none\n")

-- one Enter Up Enter = one one
abbrev pub row_189 : Row
row_189 = row 189 settings_185 (codes "one\r\u{1b}[A\r") (codes "one\none\n")

abbrev pub vi_rows : List Row
vi_rows = row_5 ∷ row_6 ∷ row_7 ∷ row_8 ∷ row_9 ∷ row_10 ∷ row_11 ∷ row_12 ∷ row_13 ∷ row_14 ∷
    row_15 ∷ row_16 ∷ row_18 ∷ row_19 ∷ row_22 ∷ row_23 ∷ row_24 ∷ row_25 ∷ row_26 ∷ row_27 ∷ row_28
    ∷ row_29 ∷ row_30 ∷ row_31 ∷ row_32 ∷ row_33 ∷ row_34 ∷ row_35 ∷ row_36 ∷ row_37 ∷ row_38 ∷
    row_39 ∷ row_40 ∷ row_41 ∷ row_42 ∷ row_43 ∷ row_44 ∷ row_45 ∷ row_46 ∷ row_47 ∷ row_48 ∷ row_49
    ∷ row_50 ∷ row_51 ∷ row_52 ∷ row_53 ∷ row_56 ∷ row_57 ∷ row_58 ∷ row_59 ∷ row_60 ∷ row_61 ∷
    row_62 ∷ row_63 ∷ row_64 ∷ row_65 ∷ row_66 ∷ row_67 ∷ row_68 ∷ row_69 ∷ row_70 ∷ row_71 ∷ row_72
    ∷ row_73 ∷ row_74 ∷ row_75 ∷ row_78 ∷ row_79 ∷ row_80 ∷ row_81 ∷ row_82 ∷ row_83 ∷ row_84 ∷
    row_85 ∷ row_86 ∷ row_87 ∷ row_88 ∷ row_89 ∷ row_92 ∷ row_93 ∷ row_94 ∷ row_95 ∷ row_96 ∷ row_97
    ∷ row_98 ∷ row_99 ∷ row_100 ∷ row_101 ∷ row_102 ∷ row_103 ∷ row_104 ∷ row_105 ∷ row_106 ∷
    row_107 ∷ row_108 ∷ row_109 ∷ row_110 ∷ row_111 ∷ row_112 ∷ row_113 ∷ row_114 ∷ row_115 ∷
    row_118 ∷ row_119 ∷ row_120 ∷ row_121 ∷ row_122 ∷ row_123 ∷ row_124 ∷ row_127 ∷ row_128 ∷
    row_129 ∷ row_130 ∷ row_131 ∷ row_134 ∷ row_135 ∷ row_136 ∷ row_137 ∷ row_138 ∷ row_139 ∷
    row_142 ∷ row_143 ∷ row_146 ∷ row_147 ∷ row_148 ∷ row_149 ∷ row_150 ∷ row_151 ∷ row_152 ∷
    row_153 ∷ row_154 ∷ row_155 ∷ row_156 ∷ row_159 ∷ row_160 ∷ row_161 ∷ row_162 ∷ row_163 ∷
    row_164 ∷ row_165 ∷ row_166 ∷ row_167 ∷ row_168 ∷ row_169 ∷ row_172 ∷ row_173 ∷ row_174 ∷
    row_177 ∷ row_178 ∷ row_179 ∷ row_180 ∷ row_181 ∷ row_185 ∷ row_186 ∷ row_187 ∷ row_188 ∷
    row_189 ∷ []
