-- The rows of partial.txt; tests/definition/worked_rows.py writes them.
use Rattle.line_config.specs.declared.errors.ReadlineError.TheVariants.{Interrupted}
use Rattle.std.specs.Prelude.{List, [], ◌∷◌, ◌++◌, None, Some, true, codes, encode_utf8_all}
use Rattle.worked_rows.specs.Playing.{Row, row}
use Rattle.worked_rows.specs.Settings.{Settings, aide, colours, modal, partial, plain, vi}

-- partial modal
abbrev pub settings_8 : Settings
settings_8 = record plain {
  config = partial (modal plain.config);
}

-- ac Left b Enter = abc | shows {} a c ␛[1D ␛[@b ␛[1C␍␊ {} ␍␊
abbrev pub row_8 : Row
row_8 = record (row 8 settings_8 (codes "ac\u{1b}[Db\r") (codes "abc\n")) {
  shows = Some
      (codes "\r\u{1b}[J\u{1b}[m> \u{1b}[m\u{1b}[m\u{1b}[mac\u{1b}[1D\u{1b}[@b\u{1b}[1C\r\n" ++
      codes "\r\u{1b}[J\u{1b}[m> \u{1b}[m\u{1b}[m\u{1b}[m\r\n");
}

-- bc C-a a Enter = abc | shows {} b c ␛[2D ␛[@a ␛[2C␍␊ {} ␍␊
abbrev pub row_9 : Row
row_9 = record (row 9 settings_8 (codes "bc\u{1}a\r") (codes "abc\n")) {
  shows = Some
      (codes "\r\u{1b}[J\u{1b}[m> \u{1b}[m\u{1b}[m\u{1b}[mbc\u{1b}[2D\u{1b}[@a\u{1b}[2C\r\n" ++
      codes "\r\u{1b}[J\u{1b}[m> \u{1b}[m\u{1b}[m\u{1b}[m\r\n");
}

-- ad Left bc Enter = abcd | shows {} a d ␛[1D ␛[@b ␛[@c ␛[1C␍␊ {} ␍␊
abbrev pub row_10 : Row
row_10 = record (row 10 settings_8 (codes "ad\u{1b}[Dbc\r") (codes "abcd\n")) {
  shows = Some (codes "\r\u{1b}[J\u{1b}[m> \u{1b}[m\u{1b}[m\u{1b}[mad\u{1b}[1D\u{1b}[@b\u{1b}[@c" ++
      codes "\u{1b}[1C\r\n\r\u{1b}[J\u{1b}[m> \u{1b}[m\u{1b}[m\u{1b}[m\r\n");
}

-- ac Left b C-e d Enter = abcd | shows {} a c ␛[1D ␛[@b ␛[1C d ␍␊ {} ␍␊
abbrev pub row_11 : Row
row_11 = record (row 11 settings_8 (codes "ac\u{1b}[Db\u{5}d\r") (codes "abcd\n")) {
  shows = Some
      (codes "\r\u{1b}[J\u{1b}[m> \u{1b}[m\u{1b}[m\u{1b}[mac\u{1b}[1D\u{1b}[@b\u{1b}[1Cd\r\n" ++
      codes "\r\u{1b}[J\u{1b}[m> \u{1b}[m\u{1b}[m\u{1b}[m\r\n");
}

-- ac Left ␠ Enter = a␠c | shows {} a c ␛[1D ␛[@␠ ␛[1C␍␊ {} ␍␊
abbrev pub row_12 : Row
row_12 = record (row 12 settings_8 (codes "ac\u{1b}[D \r") (codes "a c\n")) {
  shows = Some
      (codes "\r\u{1b}[J\u{1b}[m> \u{1b}[m\u{1b}[m\u{1b}[mac\u{1b}[1D\u{1b}[@ \u{1b}[1C\r\n" ++
      codes "\r\u{1b}[J\u{1b}[m> \u{1b}[m\u{1b}[m\u{1b}[m\r\n");
}

-- aé漢👍b Enter = aé漢👍b | shows {} a ␛[mé␛[m ␛[m漢␛[m ␛[m👍␛[m b ␍␊ {} ␍␊
abbrev pub row_15 : Row
row_15 = record (row 15 settings_8 (encode_utf8_all (codes "aé漢👍b\r")) (encode_utf8_all
    (codes "aé漢👍b\n"))) {
      shows = Some (encode_utf8_all
          (codes "\r\u{1b}[J\u{1b}[m> \u{1b}[m\u{1b}[m\u{1b}[ma\u{1b}[mé\u{1b}[m\u{1b}[m漢\u{1b}[" ++
          codes "m\u{1b}[m👍\u{1b}[mb\r\n\r\u{1b}[J\u{1b}[m> \u{1b}[m\u{1b}[m\u{1b}[m\r\n"));
    }

-- 👍🏽x Enter = 👍🏽x | shows {} ␛[m👍␛[m {␛[m👍🏽␛[m} {␛[m👍🏽␛[mx} ␍␊ {} ␍␊
abbrev pub row_16 : Row
row_16 = record (row 16 settings_8 (encode_utf8_all (codes "👍🏽x\r")) (encode_utf8_all
    (codes "👍🏽x\n"))) {
      shows = Some (encode_utf8_all
          (codes "\r\u{1b}[J\u{1b}[m> \u{1b}[m\u{1b}[m\u{1b}[m\u{1b}[m👍\u{1b}[m\r\u{1b}[J\u{1b}[" ++
          codes "m> \u{1b}[m\u{1b}[m👍🏽\u{1b}[m\u{1b}[m\u{1b}[m\r\u{1b}[J\u{1b}[m> \u{1b}[m" ++
          codes "\u{1b}[m👍🏽\u{1b}[mx\u{1b}[m\u{1b}[m\r\n\r\u{1b}[J\u{1b}[m> \u{1b}[m\u{1b}[m" ++
          codes "\u{1b}[m\r\n"));
    }

-- é Left Right a Enter = éa | shows {} ␛[mé␛[m ␛[1D ␛[1C a ␍␊ {} ␍␊
abbrev pub row_17 : Row
row_17 = record (row 17 settings_8 (encode_utf8_all (codes "é\u{1b}[D\u{1b}[Ca\r")) (encode_utf8_all
    (codes "éa\n"))) {
      shows = Some (encode_utf8_all
          (codes "\r\u{1b}[J\u{1b}[m> \u{1b}[m\u{1b}[m\u{1b}[m\u{1b}[mé\u{1b}[m\u{1b}[1D\u{1b}[1" ++
          codes "Ca\r\n\r\u{1b}[J\u{1b}[m> \u{1b}[m\u{1b}[m\u{1b}[m\r\n"));
    }

-- Paste a␊ Pasted é Enter = a␊é | shows {} ␛[Ja␍␊ ␛[mé␛[m ␍␊ {} ␍␊
abbrev pub row_18 : Row
row_18 = record (row 18 settings_8 (encode_utf8_all (codes "\u{1b}[200~a\n\u{1b}[201~é\r"))
    (encode_utf8_all (codes "a\né\n"))) {
      shows = Some (encode_utf8_all
          (codes "\r\u{1b}[J\u{1b}[m> \u{1b}[m\u{1b}[m\u{1b}[m\u{1b}[Ja\r\n\u{1b}[mé\u{1b}[m\r\n" ++
          codes "\r\u{1b}[J\u{1b}[m> \u{1b}[m\u{1b}[m\u{1b}[m\r\n"));
    }

-- aé漢 Backspace Backspace b Enter = ab | shows {} a ␛[mé␛[m ␛[m漢␛[m ␛[2D␛[K ␛[1D␛[K b ␍␊ {} ␍␊
abbrev pub row_21 : Row
row_21 = record (row 21 settings_8 (encode_utf8_all (codes "aé漢\u{7f}\u{7f}b\r")) (codes "ab\n")) {
  shows = Some (encode_utf8_all
      (codes "\r\u{1b}[J\u{1b}[m> \u{1b}[m\u{1b}[m\u{1b}[ma\u{1b}[mé\u{1b}[m\u{1b}[m漢\u{1b}[" ++
      codes "m\u{1b}[2D\u{1b}[K\u{1b}[1D\u{1b}[Kb\r\n\r\u{1b}[J\u{1b}[m> \u{1b}[m\u{1b}[m" ++
      codes "\u{1b}[m\r\n"));
}

-- aя Left C-d Enter = a | shows {} a ␛[mя␛[m ␛[1D ␛[K ␍␊ {} ␍␊
abbrev pub row_22 : Row
row_22 = record (row 22 settings_8 (encode_utf8_all (codes "aя\u{1b}[D\u{4}\r")) (codes "a\n")) {
  shows = Some (encode_utf8_all
      (codes "\r\u{1b}[J\u{1b}[m> \u{1b}[m\u{1b}[m\u{1b}[ma\u{1b}[mя\u{1b}[m\u{1b}[1D\u{1b}[" ++
      codes "K\r\n\r\u{1b}[J\u{1b}[m> \u{1b}[m\u{1b}[m\u{1b}[m\r\n"));
}

-- 👍🏽 Backspace x Enter = x | shows {} ␛[m👍␛[m {␛[m👍🏽␛[m} ␛[2D␛[J x ␍␊ {} ␍␊
abbrev pub row_23 : Row
row_23 = record (row 23 settings_8 (encode_utf8_all (codes "👍🏽\u{7f}x\r")) (codes "x\n")) {
  shows = Some (encode_utf8_all
      (codes "\r\u{1b}[J\u{1b}[m> \u{1b}[m\u{1b}[m\u{1b}[m\u{1b}[m👍\u{1b}[m\r\u{1b}[J\u{1b}[" ++
      codes "m> \u{1b}[m\u{1b}[m👍🏽\u{1b}[m\u{1b}[m\u{1b}[m\u{1b}[2D\u{1b}[Jx\r\n\r\u{1b}[J" ++
      codes "\u{1b}[m> \u{1b}[m\u{1b}[m\u{1b}[m\r\n"));
}

-- aé C-w Enter = "" | shows {} a ␛[mé␛[m ␛[2D␛[J ␍␊ {} ␍␊
abbrev pub row_24 : Row
row_24 = record (row 24 settings_8 (encode_utf8_all (codes "aé\u{17}\r")) (codes "\n")) {
  shows = Some (encode_utf8_all
      (codes "\r\u{1b}[J\u{1b}[m> \u{1b}[m\u{1b}[m\u{1b}[ma\u{1b}[mé\u{1b}[m\u{1b}[2D\u{1b}[" ++
      codes "J\r\n\r\u{1b}[J\u{1b}[m> \u{1b}[m\u{1b}[m\u{1b}[m\r\n"));
}

-- ab Enter = ab | shows {} a b ␍␊ {} ␍␊
abbrev pub row_27 : Row
row_27 = record (row 27 settings_8 (codes "ab\r") (codes "ab\n")) {
  shows = Some
      (codes "\r\u{1b}[J\u{1b}[m> \u{1b}[m\u{1b}[m\u{1b}[mab\r\n\r\u{1b}[J\u{1b}[m> \u{1b}[m" ++
      codes "\u{1b}[m\u{1b}[m\r\n");
}

-- ab Backspace Enter = a | shows {} a b ␛[1D␛[K ␍␊ {} ␍␊
abbrev pub row_28 : Row
row_28 = record (row 28 settings_8 (codes "ab\u{7f}\r") (codes "a\n")) {
  shows = Some
      (codes "\r\u{1b}[J\u{1b}[m> \u{1b}[m\u{1b}[m\u{1b}[mab\u{1b}[1D\u{1b}[K\r\n\r\u{1b}[J" ++
      codes "\u{1b}[m> \u{1b}[m\u{1b}[m\u{1b}[m\r\n");
}

-- abc Left C-k Enter = ab | shows {} a b c ␛[1D ␛[K ␍␊ {} ␍␊
abbrev pub row_29 : Row
row_29 = record (row 29 settings_8 (codes "abc\u{1b}[D\u{b}\r") (codes "ab\n")) {
  shows = Some
      (codes "\r\u{1b}[J\u{1b}[m> \u{1b}[m\u{1b}[m\u{1b}[mabc\u{1b}[1D\u{1b}[K\r\n\r\u{1b}[J" ++
      codes "\u{1b}[m> \u{1b}[m\u{1b}[m\u{1b}[m\r\n");
}

-- abc Left Backspace Enter = ac | shows {} a b c ␛[1D ␛[1D␛[P ␛[1C␍␊ {} ␍␊
abbrev pub row_32 : Row
row_32 = record (row 32 settings_8 (codes "abc\u{1b}[D\u{7f}\r") (codes "ac\n")) {
  shows = Some (codes "\r\u{1b}[J\u{1b}[m> \u{1b}[m\u{1b}[m\u{1b}[mabc\u{1b}[1D\u{1b}[1D\u{1b}[P" ++
      codes "\u{1b}[1C\r\n\r\u{1b}[J\u{1b}[m> \u{1b}[m\u{1b}[m\u{1b}[m\r\n");
}

-- abc Left Left C-d Enter = ac | shows {} a b c ␛[1D ␛[1D ␛[P ␛[1C␍␊ {} ␍␊
abbrev pub row_33 : Row
row_33 = record (row 33 settings_8 (codes "abc\u{1b}[D\u{1b}[D\u{4}\r") (codes "ac\n")) {
  shows = Some (codes "\r\u{1b}[J\u{1b}[m> \u{1b}[m\u{1b}[m\u{1b}[mabc\u{1b}[1D\u{1b}[1D\u{1b}[P" ++
      codes "\u{1b}[1C\r\n\r\u{1b}[J\u{1b}[m> \u{1b}[m\u{1b}[m\u{1b}[m\r\n");
}

-- ab␠c Left C-w Enter = c | shows {} a b ␠ c ␛[1D ␛[3D␛[3P ␛[1C␍␊ {} ␍␊
abbrev pub row_34 : Row
row_34 = record (row 34 settings_8 (codes "ab c\u{1b}[D\u{17}\r") (codes "c\n")) {
  shows = Some (codes "\r\u{1b}[J\u{1b}[m> \u{1b}[m\u{1b}[m\u{1b}[mab c\u{1b}[1D\u{1b}[3D\u{1b}[3P"
      ++ codes "\u{1b}[1C\r\n\r\u{1b}[J\u{1b}[m> \u{1b}[m\u{1b}[m\u{1b}[m\r\n");
}

-- ab␠c C-a M-d Enter = ␠c | shows {} a b ␠ c ␛[4D ␛[2P ␛[2C␍␊ {} ␍␊
abbrev pub row_35 : Row
row_35 = record (row 35 settings_8 (codes "ab c\u{1}\u{1b}d\r") (codes " c\n")) {
  shows = Some
      (codes "\r\u{1b}[J\u{1b}[m> \u{1b}[m\u{1b}[m\u{1b}[mab c\u{1b}[4D\u{1b}[2P\u{1b}[2C\r" ++
      codes "\n\r\u{1b}[J\u{1b}[m> \u{1b}[m\u{1b}[m\u{1b}[m\r\n");
}

-- abc Left C-u Enter = c | shows {} a b c ␛[1D ␛[2D␛[2P ␛[1C␍␊ {} ␍␊
abbrev pub row_36 : Row
row_36 = record (row 36 settings_8 (codes "abc\u{1b}[D\u{15}\r") (codes "c\n")) {
  shows = Some (codes "\r\u{1b}[J\u{1b}[m> \u{1b}[m\u{1b}[m\u{1b}[mabc\u{1b}[1D\u{1b}[2D\u{1b}[2P"
      ++ codes "\u{1b}[1C\r\n\r\u{1b}[J\u{1b}[m> \u{1b}[m\u{1b}[m\u{1b}[m\r\n");
}

-- abc Left Backspace Backspace x Enter = xc | shows {} a b c ␛[1D ␛[1D␛[P ␛[1D␛[P ␛[@x ␛[1C␍␊ {} ␍␊
abbrev pub row_37 : Row
row_37 = record (row 37 settings_8 (codes "abc\u{1b}[D\u{7f}\u{7f}x\r") (codes "xc\n")) {
  shows = Some (codes "\r\u{1b}[J\u{1b}[m> \u{1b}[m\u{1b}[m\u{1b}[mabc\u{1b}[1D\u{1b}[1D\u{1b}[P" ++
      codes "\u{1b}[1D\u{1b}[P\u{1b}[@x\u{1b}[1C\r\n\r\u{1b}[J\u{1b}[m> \u{1b}[m\u{1b}[m" ++
      codes "\u{1b}[m\r\n");
}

-- Paste a␊bc Pasted Left x Enter = a␊bxc | shows {} ␛[Ja␍␊bc ␛[1D ␛[@x ␛[1C␍␊ {} ␍␊
abbrev pub row_40 : Row
row_40 = record (row 40 settings_8 (codes "\u{1b}[200~a\nbc\u{1b}[201~\u{1b}[Dx\r")
    (codes "a\nbxc\n")) {
      shows = Some
          (codes "\r\u{1b}[J\u{1b}[m> \u{1b}[m\u{1b}[m\u{1b}[m\u{1b}[Ja\r\nbc\u{1b}[1D\u{1b}[@x" ++
          codes "\u{1b}[1C\r\n\r\u{1b}[J\u{1b}[m> \u{1b}[m\u{1b}[m\u{1b}[m\r\n");
    }

-- Paste a␊bc Pasted Left Backspace Enter = a␊c | shows {} ␛[Ja␍␊bc ␛[1D ␛[1D␛[P ␛[1C␍␊ {} ␍␊
abbrev pub row_41 : Row
row_41 = record (row 41 settings_8 (codes "\u{1b}[200~a\nbc\u{1b}[201~\u{1b}[D\u{7f}\r")
    (codes "a\nc\n")) {
      shows = Some
          (codes "\r\u{1b}[J\u{1b}[m> \u{1b}[m\u{1b}[m\u{1b}[m\u{1b}[Ja\r\nbc\u{1b}[1D\u{1b}[1D" ++
          codes "\u{1b}[P\u{1b}[1C\r\n\r\u{1b}[J\u{1b}[m> \u{1b}[m\u{1b}[m\u{1b}[m\r\n");
    }

-- Paste ab␊c Pasted C-a x Enter = ab␊xc | shows {} ␛[Jab␍␊c ␛[1D ␛[@x ␛[1C␍␊ {} ␍␊
abbrev pub row_42 : Row
row_42 = record (row 42 settings_8 (codes "\u{1b}[200~ab\nc\u{1b}[201~\u{1}x\r") (codes "ab\nxc\n")) {
  shows = Some
      (codes "\r\u{1b}[J\u{1b}[m> \u{1b}[m\u{1b}[m\u{1b}[m\u{1b}[Jab\r\nc\u{1b}[1D\u{1b}[@x" ++
      codes "\u{1b}[1C\r\n\r\u{1b}[J\u{1b}[m> \u{1b}[m\u{1b}[m\u{1b}[m\r\n");
}

-- Paste ab␊c Pasted Up x Enter = xab␊c | shows {} ␛[Jab␍␊c ␛[1A␛[1C ␛[Jxab␍␊c␛[1A␛[2C ␛[1B␛[2D␍␊ {} ␍␊
abbrev pub row_43 : Row
row_43 = record (row 43 settings_8 (codes "\u{1b}[200~ab\nc\u{1b}[201~\u{1b}[Ax\r")
    (codes "xab\nc\n")) {
      shows = Some
          (codes "\r\u{1b}[J\u{1b}[m> \u{1b}[m\u{1b}[m\u{1b}[m\u{1b}[Jab\r\nc\u{1b}[1A\u{1b}[1C" ++
          codes "\u{1b}[Jxab\r\nc\u{1b}[1A\u{1b}[2C\u{1b}[1B\u{1b}[2D\r\n\r\u{1b}[J\u{1b}[m> " ++
          codes "\u{1b}[m\u{1b}[m\u{1b}[m\r\n");
    }

-- Paste ab␊c Pasted Up C-d Enter = b␊c | shows {} ␛[Jab␍␊c ␛[1A␛[1C ␛[Jb␍␊c␛[1A␛[1C ␛[1B␛[1D␍␊ {} ␍␊
abbrev pub row_44 : Row
row_44 = record (row 44 settings_8 (codes "\u{1b}[200~ab\nc\u{1b}[201~\u{1b}[A\u{4}\r")
    (codes "b\nc\n")) {
      shows = Some
          (codes "\r\u{1b}[J\u{1b}[m> \u{1b}[m\u{1b}[m\u{1b}[m\u{1b}[Jab\r\nc\u{1b}[1A\u{1b}[1C" ++
          codes "\u{1b}[Jb\r\nc\u{1b}[1A\u{1b}[1C\u{1b}[1B\u{1b}[1D\r\n\r\u{1b}[J\u{1b}[m> " ++
          codes "\u{1b}[m\u{1b}[m\u{1b}[m\r\n");
    }

-- Paste ab␊c Pasted Left Backspace Enter = abc | shows {} ␛[Jab␍␊c ␛[1D ␛[1A␛[4C␛[Jc␛[1D ␛[1C␍␊ {} ␍␊
abbrev pub row_45 : Row
row_45 = record (row 45 settings_8 (codes "\u{1b}[200~ab\nc\u{1b}[201~\u{1b}[D\u{7f}\r")
    (codes "abc\n")) {
      shows = Some
          (codes "\r\u{1b}[J\u{1b}[m> \u{1b}[m\u{1b}[m\u{1b}[m\u{1b}[Jab\r\nc\u{1b}[1D\u{1b}[1A" ++
          codes "\u{1b}[4C\u{1b}[Jc\u{1b}[1D\u{1b}[1C\r\n\r\u{1b}[J\u{1b}[m> \u{1b}[m\u{1b}[m" ++
          codes "\u{1b}[m\r\n");
    }

-- é a Left x Enter = éxa | shows {} ␛[mé␛[m a ␛[1D ␛[Jxa␛[1D ␛[1C␍␊ {} ␍␊
abbrev pub row_48 : Row
row_48 = record (row 48 settings_8 (encode_utf8_all (codes "éa\u{1b}[Dx\r")) (encode_utf8_all
    (codes "éxa\n"))) {
      shows = Some (encode_utf8_all
          (codes "\r\u{1b}[J\u{1b}[m> \u{1b}[m\u{1b}[m\u{1b}[m\u{1b}[mé\u{1b}[ma\u{1b}[1D\u{1b}[" ++
          codes "Jxa\u{1b}[1D\u{1b}[1C\r\n\r\u{1b}[J\u{1b}[m> \u{1b}[m\u{1b}[m\u{1b}[m\r\n"));
    }

-- ab Left é Enter = aéb | shows {} a b ␛[1D ␛[J␛[mé␛[mb␛[1D ␛[1C␍␊ {} ␍␊
abbrev pub row_49 : Row
row_49 = record (row 49 settings_8 (encode_utf8_all (codes "ab\u{1b}[Dé\r")) (encode_utf8_all
    (codes "aéb\n"))) {
      shows = Some (encode_utf8_all
          (codes "\r\u{1b}[J\u{1b}[m> \u{1b}[m\u{1b}[m\u{1b}[mab\u{1b}[1D\u{1b}[J\u{1b}[mé\u{1b}" ++
          codes "[mb\u{1b}[1D\u{1b}[1C\r\n\r\u{1b}[J\u{1b}[m> \u{1b}[m\u{1b}[m\u{1b}[m\r\n"));
    }

-- ac Left b C-_ Enter = ac | shows {} a c ␛[1D ␛[@b {ac}␛[1D ␛[1C␍␊ {} ␍␊
abbrev pub row_50 : Row
row_50 = record (row 50 settings_8 (codes "ac\u{1b}[Db\u{1f}\r") (codes "ac\n")) {
  shows = Some (codes "\r\u{1b}[J\u{1b}[m> \u{1b}[m\u{1b}[m\u{1b}[mac\u{1b}[1D\u{1b}[@b\r\u{1b}[J"
      ++ codes "\u{1b}[m> \u{1b}[mac\u{1b}[m\u{1b}[m\u{1b}[1D\u{1b}[1C\r\n\r\u{1b}[J\u{1b}[m> " ++
      codes "\u{1b}[m\u{1b}[m\u{1b}[m\r\n");
}

-- abc Left C-w C-y Enter = abc | shows {} a b c ␛[1D ␛[2D␛[2P ␛[Jabc␛[1D ␛[1C␍␊ {} ␍␊
abbrev pub row_51 : Row
row_51 = record (row 51 settings_8 (codes "abc\u{1b}[D\u{17}\u{19}\r") (codes "abc\n")) {
  shows = Some (codes "\r\u{1b}[J\u{1b}[m> \u{1b}[m\u{1b}[m\u{1b}[mabc\u{1b}[1D\u{1b}[2D\u{1b}[2P"
      ++ codes "\u{1b}[Jabc\u{1b}[1D\u{1b}[1C\r\n\r\u{1b}[J\u{1b}[m> \u{1b}[m\u{1b}[m\u{1b}[m" ++
      codes "\r\n");
}

-- ab C-w C-y Enter = ab | shows {} a b ␛[2D␛[K ␛[Jab ␍␊ {} ␍␊
abbrev pub row_52 : Row
row_52 = record (row 52 settings_8 (codes "ab\u{17}\u{19}\r") (codes "ab\n")) {
  shows = Some
      (codes "\r\u{1b}[J\u{1b}[m> \u{1b}[m\u{1b}[m\u{1b}[mab\u{1b}[2D\u{1b}[K\u{1b}[Jab\r\n" ++
      codes "\r\u{1b}[J\u{1b}[m> \u{1b}[m\u{1b}[m\u{1b}[m\r\n");
}

-- ab C-w cd C-w C-y M-y Enter = ab | shows {} a b ␛[2D␛[K c d ␛[2D␛[K ␛[Jcd ␛[2D␛[Jab ␍␊ {} ␍␊
abbrev pub row_53 : Row
row_53 = record (row 53 settings_8 (codes "ab\u{17}cd\u{17}\u{19}\u{1b}y\r") (codes "ab\n")) {
  shows = Some (codes "\r\u{1b}[J\u{1b}[m> \u{1b}[m\u{1b}[m\u{1b}[mab\u{1b}[2D\u{1b}[Kcd\u{1b}[2D"
      ++ codes "\u{1b}[K\u{1b}[Jcd\u{1b}[2D\u{1b}[Jab\r\n\r\u{1b}[J\u{1b}[m> \u{1b}[m\u{1b}[m" ++
      codes "\u{1b}[m\r\n");
}

-- 漢 Left a Enter = a漢 | shows {} ␛[m漢␛[m ␛[2D ␛[Ja␛[m漢␛[m␛[2D ␛[2C␍␊ {} ␍␊
abbrev pub row_54 : Row
row_54 = record (row 54 settings_8 (encode_utf8_all (codes "漢\u{1b}[Da\r")) (encode_utf8_all
    (codes "a漢\n"))) {
      shows = Some (encode_utf8_all
          (codes "\r\u{1b}[J\u{1b}[m> \u{1b}[m\u{1b}[m\u{1b}[m\u{1b}[m漢\u{1b}[m\u{1b}[2D\u{1b}[J" ++
          codes "a\u{1b}[m漢\u{1b}[m\u{1b}[2D\u{1b}[2C\r\n\r\u{1b}[J\u{1b}[m> \u{1b}[m\u{1b}[m" ++
          codes "\u{1b}[m\r\n"));
    }

-- 漢a Left Left C-d Enter = a | shows {} ␛[m漢␛[m a ␛[1D ␛[2D ␛[Ja␛[1D ␛[1C␍␊ {} ␍␊
abbrev pub row_55 : Row
row_55 = record (row 55 settings_8 (encode_utf8_all (codes "漢a\u{1b}[D\u{1b}[D\u{4}\r"))
    (codes "a\n")) {
      shows = Some (encode_utf8_all
          (codes "\r\u{1b}[J\u{1b}[m> \u{1b}[m\u{1b}[m\u{1b}[m\u{1b}[m漢\u{1b}[ma\u{1b}[1D\u{1b}[" ++
          codes "2D\u{1b}[Ja\u{1b}[1D\u{1b}[1C\r\n\r\u{1b}[J\u{1b}[m> \u{1b}[m\u{1b}[m\u{1b}[m" ++
          codes "\r\n"));
    }

-- Paste é␊c Pasted Up C-k Enter = ␊c | shows {} ␛[J␛[mé␛[m␍␊c ␛[1A␛[1C ␛[J␍␊c␛[1A␛[1C ␛[1B␛[1D␍␊ {} ␍␊
abbrev pub row_56 : Row
row_56 = record (row 56 settings_8 (encode_utf8_all
    (codes "\u{1b}[200~é\nc\u{1b}[201~\u{1b}[A\u{b}\r")) (codes "\nc\n")) {
      shows = Some (encode_utf8_all
          (codes "\r\u{1b}[J\u{1b}[m> \u{1b}[m\u{1b}[m\u{1b}[m\u{1b}[J\u{1b}[mé\u{1b}[m\r\nc" ++
          codes "\u{1b}[1A\u{1b}[1C\u{1b}[J\r\nc\u{1b}[1A\u{1b}[1C\u{1b}[1B\u{1b}[1D\r\n\r" ++
          codes "\u{1b}[J\u{1b}[m> \u{1b}[m\u{1b}[m\u{1b}[m\r\n"));
    }

-- a M-2 x Enter = axx | shows {} a ␍␛[J␛[m(arg:␠2)␠␛[ma␛[m␛[m {a} ␛[Jxx ␍␊ {} ␍␊
abbrev pub row_57 : Row
row_57 = record (row 57 settings_8 (codes "a\u{1b}2x\r") (codes "axx\n")) {
  shows = Some
      (codes "\r\u{1b}[J\u{1b}[m> \u{1b}[m\u{1b}[m\u{1b}[ma\r\u{1b}[J\u{1b}[m(arg: 2) \u{1b}" ++
      codes "[ma\u{1b}[m\u{1b}[m\r\u{1b}[J\u{1b}[m> \u{1b}[ma\u{1b}[m\u{1b}[m\u{1b}[Jxx\r\n" ++
      codes "\r\u{1b}[J\u{1b}[m> \u{1b}[m\u{1b}[m\u{1b}[m\r\n");
}

-- 👍🏽a Left b Enter = 👍🏽ba | shows {} ␛[m👍␛[m {␛[m👍🏽␛[m} {␛[m👍🏽␛[ma} ␛[1D {␛[m👍🏽␛[mba}␛[1D ␛[1C␍␊ {} ␍␊
abbrev pub row_60 : Row
row_60 = record (row 60 settings_8 (encode_utf8_all (codes "👍🏽a\u{1b}[Db\r")) (encode_utf8_all
    (codes "👍🏽ba\n"))) {
      shows = Some (encode_utf8_all
          (codes "\r\u{1b}[J\u{1b}[m> \u{1b}[m\u{1b}[m\u{1b}[m\u{1b}[m👍\u{1b}[m\r\u{1b}[J\u{1b}[" ++
          codes "m> \u{1b}[m\u{1b}[m👍🏽\u{1b}[m\u{1b}[m\u{1b}[m\r\u{1b}[J\u{1b}[m> \u{1b}[m" ++
          codes "\u{1b}[m👍🏽\u{1b}[ma\u{1b}[m\u{1b}[m\u{1b}[1D\r\u{1b}[J\u{1b}[m> \u{1b}[m\u{1b}" ++
          codes "[m👍🏽\u{1b}[mba\u{1b}[m\u{1b}[m\u{1b}[1D\u{1b}[1C\r\n\r\u{1b}[J\u{1b}[m> \u{1b}" ++
          codes "[m\u{1b}[m\u{1b}[m\r\n"));
    }

-- partial modal vi
abbrev pub settings_63 : Settings
settings_63 = record plain {
  config = partial (modal (vi plain.config));
}

-- abc Esc hx Enter = ac | shows {} a b c ␛[1D ␛[1D ␛[P ␛[1C␍␊ {} ␍␊
abbrev pub row_63 : Row
row_63 = record (row 63 settings_63 (codes "abc\u{1b}hx\r") (codes "ac\n")) {
  shows = Some (codes "\r\u{1b}[J\u{1b}[m> \u{1b}[m\u{1b}[m\u{1b}[mabc\u{1b}[1D\u{1b}[1D\u{1b}[P" ++
      codes "\u{1b}[1C\r\n\r\u{1b}[J\u{1b}[m> \u{1b}[m\u{1b}[m\u{1b}[m\r\n");
}

-- abc Esc rX Enter = abX | shows {} a b c ␛[1D ␛[JX␛[1D ␛[1C␍␊ {} ␍␊
abbrev pub row_64 : Row
row_64 = record (row 64 settings_63 (codes "abc\u{1b}rX\r") (codes "abX\n")) {
  shows = Some (codes "\r\u{1b}[J\u{1b}[m> \u{1b}[m\u{1b}[m\u{1b}[mabc\u{1b}[1D\u{1b}[JX\u{1b}[1D"
      ++ codes "\u{1b}[1C\r\n\r\u{1b}[J\u{1b}[m> \u{1b}[m\u{1b}[m\u{1b}[m\r\n");
}

-- abc Esc 0Rx Esc $ Enter = xbc | shows {} a b c ␛[1D ␛[2D ␛[Jxbc␛[2D ␛[1D ␛[3C ␍␊ {} ␍␊
abbrev pub row_65 : Row
row_65 = record (row 65 settings_63 (codes "abc\u{1b}0Rx\u{1b}$\r") (codes "xbc\n")) {
  shows = Some (codes "\r\u{1b}[J\u{1b}[m> \u{1b}[m\u{1b}[m\u{1b}[mabc\u{1b}[1D\u{1b}[2D\u{1b}[Jxbc"
      ++ codes "\u{1b}[2D\u{1b}[1D\u{1b}[3C\r\n\r\u{1b}[J\u{1b}[m> \u{1b}[m\u{1b}[m\u{1b}[m\r" ++
      codes "\n");
}

-- partial modal columns:10
abbrev pub settings_69 : Settings
settings_69 = record plain {
  config = partial (modal plain.config);
  columns = 10;
}

-- abcdefghi Enter = abcdefghi | shows {} a b c d e f g h␍␊ i ␍␊ {} ␍␊
abbrev pub row_69 : Row
row_69 = record (row 69 settings_69 (codes "abcdefghi\r") (codes "abcdefghi\n")) {
  shows = Some
      (codes "\r\u{1b}[J\u{1b}[m> \u{1b}[m\u{1b}[m\u{1b}[mabcdefgh\r\ni\r\n\r\u{1b}[J\u{1b}[" ++
      codes "m> \u{1b}[m\u{1b}[m\u{1b}[m\r\n");
}

-- abcdef漢a Enter = abcdef漢a | shows {} a b c d e f ␛[m漢␛[m␍␊ a ␍␊ {} ␍␊
abbrev pub row_70 : Row
row_70 = record (row 70 settings_69 (encode_utf8_all (codes "abcdef漢a\r")) (encode_utf8_all
    (codes "abcdef漢a\n"))) {
      shows = Some (encode_utf8_all
          (codes "\r\u{1b}[J\u{1b}[m> \u{1b}[m\u{1b}[m\u{1b}[mabcdef\u{1b}[m漢\u{1b}[m\r\na\r\n\r" ++
          codes "\u{1b}[J\u{1b}[m> \u{1b}[m\u{1b}[m\u{1b}[m\r\n"));
    }

-- abcdefg漢a Enter = abcdefg漢a | shows {} a b c d e f g ␍␊␛[m漢␛[m a ␍␊ {} ␍␊
abbrev pub row_71 : Row
row_71 = record (row 71 settings_69 (encode_utf8_all (codes "abcdefg漢a\r")) (encode_utf8_all
    (codes "abcdefg漢a\n"))) {
      shows = Some (encode_utf8_all
          (codes "\r\u{1b}[J\u{1b}[m> \u{1b}[m\u{1b}[m\u{1b}[mabcdefg\r\n\u{1b}[m漢\u{1b}[ma\r\n" ++
          codes "\r\u{1b}[J\u{1b}[m> \u{1b}[m\u{1b}[m\u{1b}[m\r\n"));
    }

-- abcdefg漢 Backspace Enter = abcdefg | shows {} a b c d e f g ␍␊␛[m漢␛[m ␛[1A␛[7C␛[J ␍␊ {} ␍␊
abbrev pub row_72 : Row
row_72 = record (row 72 settings_69 (encode_utf8_all (codes "abcdefg漢\u{7f}\r"))
    (codes "abcdefg\n")) {
      shows = Some (encode_utf8_all
          (codes "\r\u{1b}[J\u{1b}[m> \u{1b}[m\u{1b}[m\u{1b}[mabcdefg\r\n\u{1b}[m漢\u{1b}[m\u{1b}" ++
          codes "[1A\u{1b}[7C\u{1b}[J\r\n\r\u{1b}[J\u{1b}[m> \u{1b}[m\u{1b}[m\u{1b}[m\r\n"));
    }

-- abcdefgh漢 Backspace Enter = abcdefgh | shows {} a b c d e f g h␍␊ ␛[m漢␛[m ␛[2D␛[J ␍␊ {} ␍␊
abbrev pub row_73 : Row
row_73 = record (row 73 settings_69 (encode_utf8_all (codes "abcdefgh漢\u{7f}\r"))
    (codes "abcdefgh\n")) {
      shows = Some (encode_utf8_all
          (codes "\r\u{1b}[J\u{1b}[m> \u{1b}[m\u{1b}[m\u{1b}[mabcdefgh\r\n\u{1b}[m漢\u{1b}[m" ++
          codes "\u{1b}[2D\u{1b}[J\r\n\r\u{1b}[J\u{1b}[m> \u{1b}[m\u{1b}[m\u{1b}[m\r\n"));
    }

-- abcdefghi漢 Backspace Enter = abcdefghi | shows {} a b c d e f g h␍␊ i ␛[m漢␛[m ␛[2D␛[K ␍␊ {} ␍␊
abbrev pub row_74 : Row
row_74 = record (row 74 settings_69 (encode_utf8_all (codes "abcdefghi漢\u{7f}\r"))
    (codes "abcdefghi\n")) {
      shows = Some (encode_utf8_all
          (codes "\r\u{1b}[J\u{1b}[m> \u{1b}[m\u{1b}[m\u{1b}[mabcdefgh\r\ni\u{1b}[m漢\u{1b}[m" ++
          codes "\u{1b}[2D\u{1b}[K\r\n\r\u{1b}[J\u{1b}[m> \u{1b}[m\u{1b}[m\u{1b}[m\r\n"));
    }

-- abcdef Left x Enter = abcdexf | shows {} a b c d e f ␛[1D ␛[@x ␛[1C␍␊ {} ␍␊
abbrev pub row_79 : Row
row_79 = record (row 79 settings_69 (codes "abcdef\u{1b}[Dx\r") (codes "abcdexf\n")) {
  shows = Some
      (codes "\r\u{1b}[J\u{1b}[m> \u{1b}[m\u{1b}[m\u{1b}[mabcdef\u{1b}[1D\u{1b}[@x\u{1b}[1C" ++
      codes "\r\n\r\u{1b}[J\u{1b}[m> \u{1b}[m\u{1b}[m\u{1b}[m\r\n");
}

-- abcdefg Left x Enter = abcdefxg | shows {} a b c d e f g ␛[1D ␛[@x␍␊␛[1A␛[9C ␛[1B␛[9D␍␊ {} ␍␊
abbrev pub row_80 : Row
row_80 = record (row 80 settings_69 (codes "abcdefg\u{1b}[Dx\r") (codes "abcdefxg\n")) {
  shows = Some (codes "\r\u{1b}[J\u{1b}[m> \u{1b}[m\u{1b}[m\u{1b}[mabcdefg\u{1b}[1D\u{1b}[@x\r\n" ++
      codes "\u{1b}[1A\u{1b}[9C\u{1b}[1B\u{1b}[9D\r\n\r\u{1b}[J\u{1b}[m> \u{1b}[m\u{1b}[m" ++
      codes "\u{1b}[m\r\n");
}

-- abcdefghij Left x Left Left y Enter = abcdefghyixj | shows {} a b c d e f g h␍␊ i j ␛[1D ␛[@x ␛[1D ␛[1D ␛[@y ␛[3C␍␊ {} ␍␊
abbrev pub row_81 : Row
row_81 = record (row 81 settings_69 (codes "abcdefghij\u{1b}[Dx\u{1b}[D\u{1b}[Dy\r")
    (codes "abcdefghyixj\n")) {
      shows = Some (codes "\r\u{1b}[J\u{1b}[m> \u{1b}[m\u{1b}[m\u{1b}[mabcdefgh\r\nij\u{1b}[1D\u{1b}[@x"
          ++ codes "\u{1b}[1D\u{1b}[1D\u{1b}[@y\u{1b}[3C\r\n\r\u{1b}[J\u{1b}[m> \u{1b}[m\u{1b}[m" ++
          codes "\u{1b}[m\r\n");
    }

-- abcdefghij C-a x Enter = xabcdefghij | shows {} a b c d e f g h␍␊ i j ␛[1A ␛[@x␍␊␛[@h␛[1A␛[2C ␛[1B␍␊ {} ␍␊
abbrev pub row_82 : Row
row_82 = record (row 82 settings_69 (codes "abcdefghij\u{1}x\r") (codes "xabcdefghij\n")) {
  shows = Some
      (codes "\r\u{1b}[J\u{1b}[m> \u{1b}[m\u{1b}[m\u{1b}[mabcdefgh\r\nij\u{1b}[1A\u{1b}[@x\r" ++
      codes "\n\u{1b}[@h\u{1b}[1A\u{1b}[2C\u{1b}[1B\r\n\r\u{1b}[J\u{1b}[m> \u{1b}[m\u{1b}[m" ++
      codes "\u{1b}[m\r\n");
}

-- abcdefghij Left Left Left x Enter = abcdefgxhij | shows {} a b c d e f g h␍␊ i j ␛[1D ␛[1D ␛[1A␛[9C ␛[@x␍␊␛[@h␛[1D ␛[3C␍␊ {} ␍␊
abbrev pub row_83 : Row
row_83 = record (row 83 settings_69 (codes "abcdefghij\u{1b}[D\u{1b}[D\u{1b}[Dx\r")
    (codes "abcdefgxhij\n")) {
      shows = Some (codes "\r\u{1b}[J\u{1b}[m> \u{1b}[m\u{1b}[m\u{1b}[mabcdefgh\r\nij\u{1b}[1D\u{1b}[1D"
          ++ codes "\u{1b}[1A\u{1b}[9C\u{1b}[@x\r\n\u{1b}[@h\u{1b}[1D\u{1b}[3C\r\n\r\u{1b}[J\u{1b}" ++
          codes "[m> \u{1b}[m\u{1b}[m\u{1b}[m\r\n");
    }

-- Paste abcdefghijklmnopqrst Pasted C-a x Enter = xabcdefghijklmnopqrst | shows {} ␛[Jabcdefgh␍␊ijklmnopqr␍␊st ␛[2A ␛[4hx␍␊h␍␊r␛[4l␛[2A␛[2C ␛[2B␍␊ {} ␍␊
abbrev pub row_84 : Row
row_84 = record (row 84 settings_69 (codes "\u{1b}[200~abcdefghijklmnopqrst\u{1b}[201~\u{1}x\r")
    (codes "xabcdefghijklmnopqrst\n")) {
      shows = Some
          (codes "\r\u{1b}[J\u{1b}[m> \u{1b}[m\u{1b}[m\u{1b}[m\u{1b}[Jabcdefgh\r\nijklmnopqr\r\n" ++
          codes "st\u{1b}[2A\u{1b}[4hx\r\nh\r\nr\u{1b}[4l\u{1b}[2A\u{1b}[2C\u{1b}[2B\r\n\r" ++
          codes "\u{1b}[J\u{1b}[m> \u{1b}[m\u{1b}[m\u{1b}[m\r\n");
    }

-- Paste abcdefghijklmnopqr Pasted C-a x Enter = xabcdefghijklmnopqr | shows {} ␛[Jabcdefgh␍␊ijklmnopqr␍␊ ␛[2A␛[2C ␛[4hx␍␊h␍␊r␛[4l␛[2A␛[2C ␛[2B␛[2D␍␊ {} ␍␊
abbrev pub row_85 : Row
row_85 = record (row 85 settings_69 (codes "\u{1b}[200~abcdefghijklmnopqr\u{1b}[201~\u{1}x\r")
    (codes "xabcdefghijklmnopqr\n")) {
      shows = Some
          (codes "\r\u{1b}[J\u{1b}[m> \u{1b}[m\u{1b}[m\u{1b}[m\u{1b}[Jabcdefgh\r\nijklmnopqr\r\n" ++
          codes "\u{1b}[2A\u{1b}[2C\u{1b}[4hx\r\nh\r\nr\u{1b}[4l\u{1b}[2A\u{1b}[2C\u{1b}[2B" ++
          codes "\u{1b}[2D\r\n\r\u{1b}[J\u{1b}[m> \u{1b}[m\u{1b}[m\u{1b}[m\r\n");
    }

-- Paste abcdefghijklmnopqrstuvwxyzabcdefghijklmn Pasted C-a x Enter = xabcdefghijklmnopqrstuvwxyzabcdefghijklmn | shows {} ␛[Jabcdefgh␍␊ijklmnopqr␍␊stuvwxyzab␍␊cdefghijkl␍␊mn ␛[4A ␛[4hx␍␊h␍␊r␍␊b␍␊l␛[4l␛[4A␛[2C ␛[4B␍␊ {} ␍␊
abbrev pub row_86 : Row
row_86 = record (row 86 settings_69
    (codes "\u{1b}[200~abcdefghijklmnopqrstuvwxyzabcdefghijklmn\u{1b}[201~\u{1}x\r")
    (codes "xabcdefghijklmnopqrstuvwxyzabcdefghijklmn\n")) {
      shows = Some
          (codes "\r\u{1b}[J\u{1b}[m> \u{1b}[m\u{1b}[m\u{1b}[m\u{1b}[Jabcdefgh\r\nijklmnopqr\r\n" ++
          codes "stuvwxyzab\r\ncdefghijkl\r\nmn\u{1b}[4A\u{1b}[4hx\r\nh\r\nr\r\nb\r\nl\u{1b}[4l" ++
          codes "\u{1b}[4A\u{1b}[2C\u{1b}[4B\r\n\r\u{1b}[J\u{1b}[m> \u{1b}[m\u{1b}[m\u{1b}[m\r" ++
          codes "\n");
    }

-- Paste abcdefghijklmnopq Pasted C-a x Enter = xabcdefghijklmnopq | shows {} ␛[Jabcdefgh␍␊ijklmnopq ␛[1A␛[7D ␛[@x␍␊␛[@h␍␊␛[2A␛[3C ␛[2B␛[3D␍␊ {} ␍␊
abbrev pub row_87 : Row
row_87 = record (row 87 settings_69 (codes "\u{1b}[200~abcdefghijklmnopq\u{1b}[201~\u{1}x\r")
    (codes "xabcdefghijklmnopq\n")) {
      shows = Some (codes "\r\u{1b}[J\u{1b}[m> \u{1b}[m\u{1b}[m\u{1b}[m\u{1b}[Jabcdefgh\r\nijklmnopq" ++
          codes "\u{1b}[1A\u{1b}[7D\u{1b}[@x\r\n\u{1b}[@h\r\n\u{1b}[2A\u{1b}[3C\u{1b}[2B\u{1b}[" ++
          codes "3D\r\n\r\u{1b}[J\u{1b}[m> \u{1b}[m\u{1b}[m\u{1b}[m\r\n");
    }

-- Paste a␊bcdefghijklm Pasted C-a x Enter = a␊xbcdefghijklm | shows {} ␛[Ja␍␊bcdefghijk␍␊lm ␛[1A␛[2D ␛[@x␍␊␛[@k␛[1A ␛[1B␛[2C␍␊ {} ␍␊
abbrev pub row_88 : Row
row_88 = record (row 88 settings_69 (codes "\u{1b}[200~a\nbcdefghijklm\u{1b}[201~\u{1}x\r")
    (codes "a\nxbcdefghijklm\n")) {
      shows = Some (codes "\r\u{1b}[J\u{1b}[m> \u{1b}[m\u{1b}[m\u{1b}[m\u{1b}[Ja\r\nbcdefghijk\r\nlm" ++
          codes "\u{1b}[1A\u{1b}[2D\u{1b}[@x\r\n\u{1b}[@k\u{1b}[1A\u{1b}[1B\u{1b}[2C\r\n\r" ++
          codes "\u{1b}[J\u{1b}[m> \u{1b}[m\u{1b}[m\u{1b}[m\r\n");
    }

-- abcdefghij C-a C-d Enter = bcdefghij | shows {} a b c d e f g h␍␊ i j ␛[1A ␛[P␛[7Ci␍␊␛[P␛[1A␛[2C ␛[1B␛[1D␍␊ {} ␍␊
abbrev pub row_91 : Row
row_91 = record (row 91 settings_69 (codes "abcdefghij\u{1}\u{4}\r") (codes "bcdefghij\n")) {
  shows = Some (codes "\r\u{1b}[J\u{1b}[m> \u{1b}[m\u{1b}[m\u{1b}[mabcdefgh\r\nij\u{1b}[1A\u{1b}[P"
      ++ codes "\u{1b}[7Ci\r\n\u{1b}[P\u{1b}[1A\u{1b}[2C\u{1b}[1B\u{1b}[1D\r\n\r\u{1b}[J\u{1b}" ++
      codes "[m> \u{1b}[m\u{1b}[m\u{1b}[m\r\n");
}

-- abcdefghij Left Left Backspace Enter = abcdefgij | shows {} a b c d e f g h␍␊ i j ␛[1D ␛[1D ␛[1A␛[9C␛[Pi␍␊␛[P␛[1A␛[9C ␛[1B␛[8D␍␊ {} ␍␊
abbrev pub row_92 : Row
row_92 = record (row 92 settings_69 (codes "abcdefghij\u{1b}[D\u{1b}[D\u{7f}\r")
    (codes "abcdefgij\n")) {
      shows = Some (codes "\r\u{1b}[J\u{1b}[m> \u{1b}[m\u{1b}[m\u{1b}[mabcdefgh\r\nij\u{1b}[1D\u{1b}[1D"
          ++ codes "\u{1b}[1A\u{1b}[9C\u{1b}[Pi\r\n\u{1b}[P\u{1b}[1A\u{1b}[9C\u{1b}[1B\u{1b}[8D\r" ++
          codes "\n\r\u{1b}[J\u{1b}[m> \u{1b}[m\u{1b}[m\u{1b}[m\r\n");
    }

-- abcdefghi C-a C-d Enter = bcdefghi | shows {} a b c d e f g h␍␊ i ␛[1A␛[1C ␛[P␛[7Ci␍␊␛[P␛[1A␛[2C ␛[1B␛[2D␍␊ {} ␍␊
abbrev pub row_93 : Row
row_93 = record (row 93 settings_69 (codes "abcdefghi\u{1}\u{4}\r") (codes "bcdefghi\n")) {
  shows = Some (codes "\r\u{1b}[J\u{1b}[m> \u{1b}[m\u{1b}[m\u{1b}[mabcdefgh\r\ni\u{1b}[1A\u{1b}[1C"
      ++ codes "\u{1b}[P\u{1b}[7Ci\r\n\u{1b}[P\u{1b}[1A\u{1b}[2C\u{1b}[1B\u{1b}[2D\r\n\r\u{1b}" ++
      codes "[J\u{1b}[m> \u{1b}[m\u{1b}[m\u{1b}[m\r\n");
}

-- abcdefgh C-a C-d Enter = bcdefgh | shows {} a b c d e f g h␍␊ ␛[1A␛[2C ␛[Jbcdefgh␛[7D ␛[7C␍␊ {} ␍␊
abbrev pub row_94 : Row
row_94 = record (row 94 settings_69 (codes "abcdefgh\u{1}\u{4}\r") (codes "bcdefgh\n")) {
  shows = Some (codes "\r\u{1b}[J\u{1b}[m> \u{1b}[m\u{1b}[m\u{1b}[mabcdefgh\r\n\u{1b}[1A\u{1b}[2C"
      ++ codes "\u{1b}[Jbcdefgh\u{1b}[7D\u{1b}[7C\r\n\r\u{1b}[J\u{1b}[m> \u{1b}[m\u{1b}[m" ++
      codes "\u{1b}[m\r\n");
}

-- Paste ab␠cdefghijkl Pasted C-a M-d Enter = ␠cdefghijkl | shows {} ␛[Jab␠cdefg␍␊hijkl ␛[1A␛[3D ␛[2P␛[6Chi␍␊␛[2P␛[1A␛[2C ␛[1B␛[1C␍␊ {} ␍␊
abbrev pub row_95 : Row
row_95 = record (row 95 settings_69 (codes "\u{1b}[200~ab cdefghijkl\u{1b}[201~\u{1}\u{1b}d\r")
    (codes " cdefghijkl\n")) {
      shows = Some
          (codes "\r\u{1b}[J\u{1b}[m> \u{1b}[m\u{1b}[m\u{1b}[m\u{1b}[Jab cdefg\r\nhijkl\u{1b}[1A" ++
          codes "\u{1b}[3D\u{1b}[2P\u{1b}[6Chi\r\n\u{1b}[2P\u{1b}[1A\u{1b}[2C\u{1b}[1B\u{1b}[1C" ++
          codes "\r\n\r\u{1b}[J\u{1b}[m> \u{1b}[m\u{1b}[m\u{1b}[m\r\n");
    }

-- Paste abcdefghijklmnopqrst Pasted C-a C-d Enter = bcdefghijklmnopqrst | shows {} ␛[Jabcdefgh␍␊ijklmnopqr␍␊st ␛[2A ␛[P␛[7Ci␍␊␛[P␛[9Cs␍␊␛[P␛[2A␛[2C ␛[2B␛[1D␍␊ {} ␍␊
abbrev pub row_96 : Row
row_96 = record (row 96 settings_69 (codes "\u{1b}[200~abcdefghijklmnopqrst\u{1b}[201~\u{1}\u{4}\r")
    (codes "bcdefghijklmnopqrst\n")) {
      shows = Some
          (codes "\r\u{1b}[J\u{1b}[m> \u{1b}[m\u{1b}[m\u{1b}[m\u{1b}[Jabcdefgh\r\nijklmnopqr\r\n" ++
          codes "st\u{1b}[2A\u{1b}[P\u{1b}[7Ci\r\n\u{1b}[P\u{1b}[9Cs\r\n\u{1b}[P\u{1b}[2A\u{1b}" ++
          codes "[2C\u{1b}[2B\u{1b}[1D\r\n\r\u{1b}[J\u{1b}[m> \u{1b}[m\u{1b}[m\u{1b}[m\r\n");
    }

-- ab␠cdefg Backspace Enter = ab␠cdef | shows {} a b ␠ c d e f g␍␊ ␛[1A␛[9C␛[J ␍␊ {} ␍␊
abbrev pub row_100 : Row
row_100 = record (row 100 settings_69 (codes "ab cdefg\u{7f}\r") (codes "ab cdef\n")) {
  shows = Some (codes "\r\u{1b}[J\u{1b}[m> \u{1b}[m\u{1b}[m\u{1b}[mab cdefg\r\n\u{1b}[1A\u{1b}[9C"
      ++ codes "\u{1b}[J\r\n\r\u{1b}[J\u{1b}[m> \u{1b}[m\u{1b}[m\u{1b}[m\r\n");
}

-- ab␠cdefghij C-w Enter = ab␠ | shows {} a b ␠ c d e f g␍␊ h i j ␛[1A␛[2C␛[J ␍␊ {} ␍␊
abbrev pub row_101 : Row
row_101 = record (row 101 settings_69 (codes "ab cdefghij\u{17}\r") (codes "ab \n")) {
  shows = Some
      (codes "\r\u{1b}[J\u{1b}[m> \u{1b}[m\u{1b}[m\u{1b}[mab cdefg\r\nhij\u{1b}[1A\u{1b}[2C" ++
      codes "\u{1b}[J\r\n\r\u{1b}[J\u{1b}[m> \u{1b}[m\u{1b}[m\u{1b}[m\r\n");
}

-- ab␠cdefghij C-u Enter = "" | shows {} a b ␠ c d e f g␍␊ h i j ␛[1A␛[1D␛[J ␍␊ {} ␍␊
abbrev pub row_102 : Row
row_102 = record (row 102 settings_69 (codes "ab cdefghij\u{15}\r") (codes "\n")) {
  shows = Some
      (codes "\r\u{1b}[J\u{1b}[m> \u{1b}[m\u{1b}[m\u{1b}[mab cdefg\r\nhij\u{1b}[1A\u{1b}[1D" ++
      codes "\u{1b}[J\r\n\r\u{1b}[J\u{1b}[m> \u{1b}[m\u{1b}[m\u{1b}[m\r\n");
}

-- Paste ab␠cdefghij Pasted Left C-w Enter = ab␠j | shows {} ␛[Jab␠cdefg␍␊hij ␛[1D ␛[1A␛[3C␛[Jj␛[1D ␛[1C␍␊ {} ␍␊
abbrev pub row_103 : Row
row_103 = record (row 103 settings_69 (codes "\u{1b}[200~ab cdefghij\u{1b}[201~\u{1b}[D\u{17}\r")
    (codes "ab j\n")) {
      shows = Some (codes "\r\u{1b}[J\u{1b}[m> \u{1b}[m\u{1b}[m\u{1b}[m\u{1b}[Jab cdefg\r\nhij\u{1b}[1D"
          ++ codes "\u{1b}[1A\u{1b}[3C\u{1b}[Jj\u{1b}[1D\u{1b}[1C\r\n\r\u{1b}[J\u{1b}[m> \u{1b}[m" ++
          codes "\u{1b}[m\u{1b}[m\r\n");
    }

-- partial modal helped
abbrev pub settings_106 : Settings
settings_106 = record plain {
  config = partial (modal plain.config);
  helping = aide true None;
}

-- ab] Enter Backspace Enter = ab | shows {} a b ] {ab]␛[mMismatched␠brackets:␠']'␠is␠unpaired␛[m␛[36D ␛[1D␛[J ␍␊ {} ␍␊
abbrev pub row_106 : Row
row_106 = record (row 106 settings_106 (codes "ab]\r\u{7f}\r") (codes "ab\n")) {
  shows = Some
      (codes "\r\u{1b}[J\u{1b}[m> \u{1b}[m\u{1b}[m\u{1b}[mab]\r\u{1b}[J\u{1b}[m> \u{1b}[mab]" ++
      codes "\u{1b}[mMismatched brackets: ']' is unpaired\u{1b}[m\u{1b}[36D\u{1b}[1D\u{1b}[" ++
      codes "J\r\n\r\u{1b}[J\u{1b}[m> \u{1b}[m\u{1b}[m\u{1b}[m\r\n");
}

-- Paste abcdefgh漢字 Pasted C-a x Enter = xabcdefgh漢字 | shows {} ␛[Jabcdefgh␍␊␛[m漢␛[m␛[m字␛[m ␛[1A␛[2D ␛[Jxabcdefg␍␊h␛[m漢␛[m␛[m字␛[m␛[1A␛[2D ␛[1B␛[2C␍␊ {} ␍␊
abbrev pub row_110 : Row
row_110 = record (row 110 settings_69 (encode_utf8_all
    (codes "\u{1b}[200~abcdefgh漢字\u{1b}[201~\u{1}x\r")) (encode_utf8_all (codes "xabcdefgh漢字\n"))) {
      shows = Some (encode_utf8_all
          (codes "\r\u{1b}[J\u{1b}[m> \u{1b}[m\u{1b}[m\u{1b}[m\u{1b}[Jabcdefgh\r\n\u{1b}[m漢" ++
          codes "\u{1b}[m\u{1b}[m字\u{1b}[m\u{1b}[1A\u{1b}[2D\u{1b}[Jxabcdefg\r\nh\u{1b}[m漢" ++
          codes "\u{1b}[m\u{1b}[m字\u{1b}[m\u{1b}[1A\u{1b}[2D\u{1b}[1B\u{1b}[2C\r\n\r\u{1b}[J" ++
          codes "\u{1b}[m> \u{1b}[m\u{1b}[m\u{1b}[m\r\n"));
    }

-- abcdefg漢 Left x Enter = abcdefgx漢 | shows {} a b c d e f g ␍␊␛[m漢␛[m ␛[1A␛[7C ␛[Jx␍␊␛[m漢␛[m␛[2D ␛[2C␍␊ {} ␍␊
abbrev pub row_111 : Row
row_111 = record (row 111 settings_69 (encode_utf8_all (codes "abcdefg漢\u{1b}[Dx\r"))
    (encode_utf8_all (codes "abcdefgx漢\n"))) {
      shows = Some (encode_utf8_all
          (codes "\r\u{1b}[J\u{1b}[m> \u{1b}[m\u{1b}[m\u{1b}[mabcdefg\r\n\u{1b}[m漢\u{1b}[m\u{1b}" ++
          codes "[1A\u{1b}[7C\u{1b}[Jx\r\n\u{1b}[m漢\u{1b}[m\u{1b}[2D\u{1b}[2C\r\n\r\u{1b}[J" ++
          codes "\u{1b}[m> \u{1b}[m\u{1b}[m\u{1b}[m\r\n"));
    }

-- abc Left Left C-t Enter = bac | shows {} a b c ␛[1D ␛[1D ␈ba ␛[1C␍␊ {} ␍␊
abbrev pub row_115 : Row
row_115 = record (row 115 settings_8 (codes "abc\u{1b}[D\u{1b}[D\u{14}\r") (codes "bac\n")) {
  shows = Some
      (codes "\r\u{1b}[J\u{1b}[m> \u{1b}[m\u{1b}[m\u{1b}[mabc\u{1b}[1D\u{1b}[1D\u{8}ba\u{1b}" ++
      codes "[1C\r\n\r\u{1b}[J\u{1b}[m> \u{1b}[m\u{1b}[m\u{1b}[m\r\n");
}

-- abcd Left Left C-t Enter = acbd | shows {} a b c d ␛[1D ␛[1D ␈cb ␛[1C␍␊ {} ␍␊
abbrev pub row_116 : Row
row_116 = record (row 116 settings_8 (codes "abcd\u{1b}[D\u{1b}[D\u{14}\r") (codes "acbd\n")) {
  shows = Some (codes "\r\u{1b}[J\u{1b}[m> \u{1b}[m\u{1b}[m\u{1b}[mabcd\u{1b}[1D\u{1b}[1D\u{8}cb" ++
      codes "\u{1b}[1C\r\n\r\u{1b}[J\u{1b}[m> \u{1b}[m\u{1b}[m\u{1b}[m\r\n");
}

-- abc C-t C-t x Enter = abcx | shows {} a b c ␈␈cb ␈␈bc x ␍␊ {} ␍␊
abbrev pub row_117 : Row
row_117 = record (row 117 settings_8 (codes "abc\u{14}\u{14}x\r") (codes "abcx\n")) {
  shows = Some
      (codes "\r\u{1b}[J\u{1b}[m> \u{1b}[m\u{1b}[m\u{1b}[mabc\u{8}\u{8}cb\u{8}\u{8}bcx\r\n\r" ++
      codes "\u{1b}[J\u{1b}[m> \u{1b}[m\u{1b}[m\u{1b}[m\r\n");
}

-- Paste a␊bc Pasted C-t Enter = a␊cb | shows {} ␛[Ja␍␊bc ␈␈cb ␍␊ {} ␍␊
abbrev pub row_118 : Row
row_118 = record (row 118 settings_8 (codes "\u{1b}[200~a\nbc\u{1b}[201~\u{14}\r")
    (codes "a\ncb\n")) {
      shows = Some
          (codes "\r\u{1b}[J\u{1b}[m> \u{1b}[m\u{1b}[m\u{1b}[m\u{1b}[Ja\r\nbc\u{8}\u{8}cb\r\n\r" ++
          codes "\u{1b}[J\u{1b}[m> \u{1b}[m\u{1b}[m\u{1b}[m\r\n");
    }

-- Paste abc␊de Pasted Up Right C-t Enter = bac␊de | shows {} ␛[Jabc␍␊de ␛[1A ␛[1C ␈ba ␛[1B␛[2D␍␊ {} ␍␊
abbrev pub row_119 : Row
row_119 = record (row 119 settings_8 (codes "\u{1b}[200~abc\nde\u{1b}[201~\u{1b}[A\u{1b}[C\u{14}\r")
    (codes "bac\nde\n")) {
      shows = Some
          (codes "\r\u{1b}[J\u{1b}[m> \u{1b}[m\u{1b}[m\u{1b}[m\u{1b}[Jabc\r\nde\u{1b}[1A\u{1b}[1" ++
          codes "C\u{8}ba\u{1b}[1B\u{1b}[2D\r\n\r\u{1b}[J\u{1b}[m> \u{1b}[m\u{1b}[m\u{1b}[m\r\n");
    }

-- éab C-t Enter = éba | shows {} ␛[mé␛[m a b {␛[mé␛[mba} ␍␊ {} ␍␊
abbrev pub row_122 : Row
row_122 = record (row 122 settings_8 (encode_utf8_all (codes "éab\u{14}\r")) (encode_utf8_all
    (codes "éba\n"))) {
      shows = Some (encode_utf8_all
          (codes "\r\u{1b}[J\u{1b}[m> \u{1b}[m\u{1b}[m\u{1b}[m\u{1b}[mé\u{1b}[mab\r\u{1b}[J" ++
          codes "\u{1b}[m> \u{1b}[m\u{1b}[mé\u{1b}[mba\u{1b}[m\u{1b}[m\r\n\r\u{1b}[J\u{1b}[m> " ++
          codes "\u{1b}[m\u{1b}[m\u{1b}[m\r\n"));
    }

-- Paste a␊b Pasted C-t Enter = ab␊ | shows {} ␛[Ja␍␊b ␛[1A{ab␍␊} ␍␊ {} ␍␊
abbrev pub row_123 : Row
row_123 = record (row 123 settings_8 (codes "\u{1b}[200~a\nb\u{1b}[201~\u{14}\r") (codes "ab\n\n")) {
  shows = Some
      (codes "\r\u{1b}[J\u{1b}[m> \u{1b}[m\u{1b}[m\u{1b}[m\u{1b}[Ja\r\nb\u{1b}[1A\r\u{1b}[J" ++
      codes "\u{1b}[m> \u{1b}[mab\r\n\u{1b}[m\u{1b}[m\r\n\r\u{1b}[J\u{1b}[m> \u{1b}[m\u{1b}" ++
      codes "[m\u{1b}[m\r\n");
}

-- partial helped loaded:#V2␊abc␊
abbrev pub settings_127 : Settings
settings_127 = record plain {
  config = partial plain.config;
  helping = aide true None;
  loaded = codes "#V2\nabc\n";
}

-- ab C-t Enter = ba | shows {} ␛[Ja␛[mbc␛[m␛[2D ␛[Jb␛[mc␛[m␛[1D {ba} ␍␊ {} ␍␊
abbrev pub row_127 : Row
row_127 = record (row 127 settings_127 (codes "ab\u{14}\r") (codes "ba\n")) {
  shows = Some
      (codes "\r\u{1b}[J\u{1b}[m> \u{1b}[m\u{1b}[m\u{1b}[m\u{1b}[Ja\u{1b}[mbc\u{1b}[m\u{1b}[" ++
      codes "2D\u{1b}[Jb\u{1b}[mc\u{1b}[m\u{1b}[1D\r\u{1b}[J\u{1b}[m> \u{1b}[mba\u{1b}[m" ++
      codes "\u{1b}[m\r\n\r\u{1b}[J\u{1b}[m> \u{1b}[m\u{1b}[m\u{1b}[m\r\n");
}

-- abcdefghi Left Left C-t Enter = abcdefhgi | shows {} a b c d e f g h␍␊ i ␛[1D ␛[1A␛[9C ␛[1D␛[Jhg␍␊i␛[1D ␛[1C␍␊ {} ␍␊
abbrev pub row_131 : Row
row_131 = record (row 131 settings_69 (codes "abcdefghi\u{1b}[D\u{1b}[D\u{14}\r")
    (codes "abcdefhgi\n")) {
      shows = Some (codes "\r\u{1b}[J\u{1b}[m> \u{1b}[m\u{1b}[m\u{1b}[mabcdefgh\r\ni\u{1b}[1D\u{1b}[1A"
          ++ codes "\u{1b}[9C\u{1b}[1D\u{1b}[Jhg\r\ni\u{1b}[1D\u{1b}[1C\r\n\r\u{1b}[J\u{1b}[m> " ++
          codes "\u{1b}[m\u{1b}[m\u{1b}[m\r\n");
    }

-- abcdefghi C-t Enter = abcdefgih | shows {} a b c d e f g h␍␊ i ␛[1A␛[8C␛[Ji␍␊h ␍␊ {} ␍␊
abbrev pub row_132 : Row
row_132 = record (row 132 settings_69 (codes "abcdefghi\u{14}\r") (codes "abcdefgih\n")) {
  shows = Some (codes "\r\u{1b}[J\u{1b}[m> \u{1b}[m\u{1b}[m\u{1b}[mabcdefgh\r\ni\u{1b}[1A\u{1b}[8C"
      ++ codes "\u{1b}[Ji\r\nh\r\n\r\u{1b}[J\u{1b}[m> \u{1b}[m\u{1b}[m\u{1b}[m\r\n");
}

-- abcdefghij C-t Enter = abcdefghji | shows {} a b c d e f g h␍␊ i j ␈␈ji ␍␊ {} ␍␊
abbrev pub row_133 : Row
row_133 = record (row 133 settings_69 (codes "abcdefghij\u{14}\r") (codes "abcdefghji\n")) {
  shows = Some (codes "\r\u{1b}[J\u{1b}[m> \u{1b}[m\u{1b}[m\u{1b}[mabcdefgh\r\nij\u{8}\u{8}ji\r\n\r"
      ++ codes "\u{1b}[J\u{1b}[m> \u{1b}[m\u{1b}[m\u{1b}[m\r\n");
}

-- partial vi
abbrev pub settings_136 : Settings
settings_136 = record plain {
  config = partial (vi plain.config);
}

-- abc Esc 0iX Enter = Xabc | shows {} a b c ␛[1D ␛[2D ␛[@X ␛[3C␍␊ {} ␍␊
abbrev pub row_136 : Row
row_136 = record (row 136 settings_136 (codes "abc\u{1b}0iX\r") (codes "Xabc\n")) {
  shows = Some (codes "\r\u{1b}[J\u{1b}[m> \u{1b}[m\u{1b}[m\u{1b}[mabc\u{1b}[1D\u{1b}[2D\u{1b}[@X"
      ++ codes "\u{1b}[3C\r\n\r\u{1b}[J\u{1b}[m> \u{1b}[m\u{1b}[m\u{1b}[m\r\n");
}

-- partial helped loaded:#V2␊hello␊
abbrev pub settings_140 : Settings
settings_140 = record plain {
  config = partial plain.config;
  helping = aide true None;
  loaded = codes "#V2\nhello\n";
}

-- he Enter = he | shows {} ␛[Jh␛[mello␛[m␛[4D ␛[Je␛[mllo␛[m␛[3D {he} ␍␊ {} ␍␊
abbrev pub row_140 : Row
row_140 = record (row 140 settings_140 (codes "he\r") (codes "he\n")) {
  shows = Some (codes "\r\u{1b}[J\u{1b}[m> \u{1b}[m\u{1b}[m\u{1b}[m\u{1b}[Jh\u{1b}[mello\u{1b}[m" ++
      codes "\u{1b}[4D\u{1b}[Je\u{1b}[mllo\u{1b}[m\u{1b}[3D\r\u{1b}[J\u{1b}[m> \u{1b}[mhe" ++
      codes "\u{1b}[m\u{1b}[m\r\n\r\u{1b}[J\u{1b}[m> \u{1b}[m\u{1b}[m\u{1b}[m\r\n");
}

-- he Backspace Enter = h | shows {} ␛[Jh␛[mello␛[m␛[4D ␛[Je␛[mllo␛[m␛[3D ␛[1D␛[J␛[mello␛[m␛[4D {h} ␍␊ {} ␍␊
abbrev pub row_141 : Row
row_141 = record (row 141 settings_140 (codes "he\u{7f}\r") (codes "h\n")) {
  shows = Some (codes "\r\u{1b}[J\u{1b}[m> \u{1b}[m\u{1b}[m\u{1b}[m\u{1b}[Jh\u{1b}[mello\u{1b}[m" ++
      codes "\u{1b}[4D\u{1b}[Je\u{1b}[mllo\u{1b}[m\u{1b}[3D\u{1b}[1D\u{1b}[J\u{1b}[mello" ++
      codes "\u{1b}[m\u{1b}[4D\r\u{1b}[J\u{1b}[m> \u{1b}[mh\u{1b}[m\u{1b}[m\r\n\r\u{1b}[J" ++
      codes "\u{1b}[m> \u{1b}[m\u{1b}[m\u{1b}[m\r\n");
}

-- é] Enter Left x C-C = nothing | ends Interrupted | shows {} ␛[mé␛[m ] {␛[mé␛[m]␛[mMismatched␠brackets:␠']'␠is␠unpaired␛[m␛[36D ␛[1D ␛[Jx]␛[1D ␛[1C␍␊
abbrev pub row_142 : Row
row_142 = record (row 142 settings_140 (encode_utf8_all (codes "é]\r\u{1b}[Dx\u{3}")) []) {
  ends = Interrupted;
  shows = Some (encode_utf8_all
      (codes "\r\u{1b}[J\u{1b}[m> \u{1b}[m\u{1b}[m\u{1b}[m\u{1b}[mé\u{1b}[m]\r\u{1b}[J\u{1b}" ++
      codes "[m> \u{1b}[m\u{1b}[mé\u{1b}[m]\u{1b}[mMismatched brackets: ']' is unpaired" ++
      codes "\u{1b}[m\u{1b}[36D\u{1b}[1D\u{1b}[Jx]\u{1b}[1D\u{1b}[1C\r\n"));
}

-- partial colours helped loaded:#V2␊hello␊
abbrev pub settings_145 : Settings
settings_145 = record plain {
  config = partial (colours plain.config);
  helping = aide true None;
  loaded = codes "#V2\nhello\n";
}

-- h Enter = h | shows {} ␛[Jh␛[m␛[0;2mello␛[m␛[m␛[4D {h} ␍␊ {} ␍␊
abbrev pub row_145 : Row
row_145 = record (row 145 settings_145 (codes "h\r") (codes "h\n")) {
  shows = Some (codes "\r\u{1b}[J\u{1b}[m> \u{1b}[m\u{1b}[m\u{1b}[m\u{1b}[Jh\u{1b}[m\u{1b}[0;2mello"
      ++ codes "\u{1b}[m\u{1b}[m\u{1b}[4D\r\u{1b}[J\u{1b}[m> \u{1b}[mh\u{1b}[m\u{1b}[m\r\n\r" ++
      codes "\u{1b}[J\u{1b}[m> \u{1b}[m\u{1b}[m\u{1b}[m\r\n");
}

-- partial modal colours helped
abbrev pub settings_149 : Settings
settings_149 = record plain {
  config = partial (colours (modal plain.config));
  helping = aide true None;
}

-- (a) Enter = (a) | shows {} ( a ␛[2D␛[J␛[0;1;34m(␛[ma) {(a)} ␍␊ {} ␍␊
abbrev pub row_149 : Row
row_149 = record (row 149 settings_149 (codes "(a)\r") (codes "(a)\n")) {
  shows = Some
      (codes "\r\u{1b}[J\u{1b}[m> \u{1b}[m\u{1b}[m\u{1b}[m(a\u{1b}[2D\u{1b}[J\u{1b}[0;1;34m(" ++
      codes "\u{1b}[ma)\r\u{1b}[J\u{1b}[m> \u{1b}[m(a)\u{1b}[m\u{1b}[m\r\n\r\u{1b}[J\u{1b}[" ++
      codes "m> \u{1b}[m\u{1b}[m\u{1b}[m\r\n");
}

-- xy(a) Enter = xy(a) | shows {} x y ( a ␛[2D␛[J␛[0;1;34m(␛[ma) {xy(a)} ␍␊ {} ␍␊
abbrev pub row_150 : Row
row_150 = record (row 150 settings_149 (codes "xy(a)\r") (codes "xy(a)\n")) {
  shows = Some
      (codes "\r\u{1b}[J\u{1b}[m> \u{1b}[m\u{1b}[m\u{1b}[mxy(a\u{1b}[2D\u{1b}[J\u{1b}[0;1;34" ++
      codes "m(\u{1b}[ma)\r\u{1b}[J\u{1b}[m> \u{1b}[mxy(a)\u{1b}[m\u{1b}[m\r\n\r\u{1b}[J" ++
      codes "\u{1b}[m> \u{1b}[m\u{1b}[m\u{1b}[m\r\n");
}

-- (a)bc Enter = (a)bc | shows {} ( a ␛[2D␛[J␛[0;1;34m(␛[ma) ␛[3D␛[J(a)b c ␍␊ {} ␍␊
abbrev pub row_151 : Row
row_151 = record (row 151 settings_149 (codes "(a)bc\r") (codes "(a)bc\n")) {
  shows = Some
      (codes "\r\u{1b}[J\u{1b}[m> \u{1b}[m\u{1b}[m\u{1b}[m(a\u{1b}[2D\u{1b}[J\u{1b}[0;1;34m(" ++
      codes "\u{1b}[ma)\u{1b}[3D\u{1b}[J(a)bc\r\n\r\u{1b}[J\u{1b}[m> \u{1b}[m\u{1b}[m\u{1b}" ++
      codes "[m\r\n");
}

-- ((a) Backspace x) ) Enter = ((ax)) | shows {} ( ( a ␛[2D␛[J␛[0;1;34m(␛[ma) ␛[3D␛[J(a x ␛[3D␛[J␛[0;1;34m(␛[max) ␛[5D␛[J␛[0;1;34m(␛[m(ax)) {((ax))} ␍␊ {} ␍␊
abbrev pub row_152 : Row
row_152 = record (row 152 settings_149 (codes "((a)\u{7f}x))\r") (codes "((ax))\n")) {
  shows = Some
      (codes "\r\u{1b}[J\u{1b}[m> \u{1b}[m\u{1b}[m\u{1b}[m((a\u{1b}[2D\u{1b}[J\u{1b}[0;1;34m" ++
      codes "(\u{1b}[ma)\u{1b}[3D\u{1b}[J(ax\u{1b}[3D\u{1b}[J\u{1b}[0;1;34m(\u{1b}[max)" ++
      codes "\u{1b}[5D\u{1b}[J\u{1b}[0;1;34m(\u{1b}[m(ax))\r\u{1b}[J\u{1b}[m> \u{1b}[m((ax)" ++
      codes ")\u{1b}[m\u{1b}[m\r\n\r\u{1b}[J\u{1b}[m> \u{1b}[m\u{1b}[m\u{1b}[m\r\n");
}

-- (a) Left Left Left x Enter = x(a) | shows {} ( a ␛[2D␛[J␛[0;1;34m(␛[ma) {␛[0;1;34m(␛[ma)}␛[1D {(a␛[0;1;34m)␛[m}␛[2D {(a␛[0;1;34m)␛[m}␛[3D ␛[Jx(a␛[0;1;34m)␛[m␛[3D {x(a)}␛[3D ␛[3C␍␊ {} ␍␊
abbrev pub row_155 : Row
row_155 = record (row 155 settings_149 (codes "(a)\u{1b}[D\u{1b}[D\u{1b}[Dx\r") (codes "x(a)\n")) {
  shows = Some
      (codes "\r\u{1b}[J\u{1b}[m> \u{1b}[m\u{1b}[m\u{1b}[m(a\u{1b}[2D\u{1b}[J\u{1b}[0;1;34m(" ++
      codes "\u{1b}[ma)\r\u{1b}[J\u{1b}[m> \u{1b}[m\u{1b}[0;1;34m(\u{1b}[ma)\u{1b}[m\u{1b}[" ++
      codes "m\u{1b}[1D\r\u{1b}[J\u{1b}[m> \u{1b}[m(a\u{1b}[0;1;34m)\u{1b}[m\u{1b}[m\u{1b}[" ++
      codes "m\u{1b}[2D\r\u{1b}[J\u{1b}[m> \u{1b}[m(a\u{1b}[0;1;34m)\u{1b}[m\u{1b}[m\u{1b}[" ++
      codes "m\u{1b}[3D\u{1b}[Jx(a\u{1b}[0;1;34m)\u{1b}[m\u{1b}[3D\r\u{1b}[J\u{1b}[m> " ++
      codes "\u{1b}[mx(a)\u{1b}[m\u{1b}[m\u{1b}[3D\u{1b}[3C\r\n\r\u{1b}[J\u{1b}[m> \u{1b}[m" ++
      codes "\u{1b}[m\u{1b}[m\r\n");
}

-- (a) C-B C-K C-Y Enter = (a) | shows {} ( a ␛[2D␛[J␛[0;1;34m(␛[ma) {␛[0;1;34m(␛[ma)}␛[1D ␛[2D␛[J(a ␛[2D␛[J␛[0;1;34m(␛[ma) {(a)} ␍␊ {} ␍␊
abbrev pub row_156 : Row
row_156 = record (row 156 settings_149 (codes "(a)\u{2}\u{b}\u{19}\r") (codes "(a)\n")) {
  shows = Some
      (codes "\r\u{1b}[J\u{1b}[m> \u{1b}[m\u{1b}[m\u{1b}[m(a\u{1b}[2D\u{1b}[J\u{1b}[0;1;34m(" ++
      codes "\u{1b}[ma)\r\u{1b}[J\u{1b}[m> \u{1b}[m\u{1b}[0;1;34m(\u{1b}[ma)\u{1b}[m\u{1b}[" ++
      codes "m\u{1b}[1D\u{1b}[2D\u{1b}[J(a\u{1b}[2D\u{1b}[J\u{1b}[0;1;34m(\u{1b}[ma)\r" ++
      codes "\u{1b}[J\u{1b}[m> \u{1b}[m(a)\u{1b}[m\u{1b}[m\r\n\r\u{1b}[J\u{1b}[m> \u{1b}[m" ++
      codes "\u{1b}[m\u{1b}[m\r\n");
}

-- ] Enter x C-U ok Enter = ok | shows {} ␛[J] {]} {]␛[m␛[0;31mMismatched␠brackets:␠']'␠is␠unpaired␛[m␛[m␛[36D ␛[Jx ␛[2D␛[K o k ␍␊ {} ␍␊
abbrev pub row_157 : Row
row_157 = record (row 157 settings_149 (codes "]\rx\u{15}ok\r") (codes "ok\n")) {
  shows = Some (codes "\r\u{1b}[J\u{1b}[m> \u{1b}[m\u{1b}[m\u{1b}[m\u{1b}[J]\r\u{1b}[J\u{1b}[m> " ++
      codes "\u{1b}[m]\u{1b}[m\u{1b}[m\r\u{1b}[J\u{1b}[m> \u{1b}[m]\u{1b}[m\u{1b}[0;31mMism" ++
      codes "atched brackets: ']' is unpaired\u{1b}[m\u{1b}[m\u{1b}[36D\u{1b}[Jx\u{1b}[2D" ++
      codes "\u{1b}[Kok\r\n\r\u{1b}[J\u{1b}[m> \u{1b}[m\u{1b}[m\u{1b}[m\r\n");
}

-- 漢(é) Enter = 漢(é) | shows {} ␛[m漢␛[m ( ␛[mé␛[m ␛[2D␛[J␛[0;1;34m(␛[m␛[mé␛[m) {␛[m漢␛[m(␛[mé␛[m)} ␍␊ {} ␍␊
abbrev pub row_158 : Row
row_158 = record (row 158 settings_149 (encode_utf8_all (codes "漢(é)\r")) (encode_utf8_all
    (codes "漢(é)\n"))) {
      shows = Some (encode_utf8_all
          (codes "\r\u{1b}[J\u{1b}[m> \u{1b}[m\u{1b}[m\u{1b}[m\u{1b}[m漢\u{1b}[m(\u{1b}[mé\u{1b}[" ++
          codes "m\u{1b}[2D\u{1b}[J\u{1b}[0;1;34m(\u{1b}[m\u{1b}[mé\u{1b}[m)\r\u{1b}[J\u{1b}[m>" ++
          codes " \u{1b}[m\u{1b}[m漢\u{1b}[m(\u{1b}[mé\u{1b}[m)\u{1b}[m\u{1b}[m\r\n\r\u{1b}[J" ++
          codes "\u{1b}[m> \u{1b}[m\u{1b}[m\u{1b}[m\r\n"));
    }

-- partial modal colours vi helped
abbrev pub settings_161 : Settings
settings_161 = record plain {
  config = partial (colours (modal (vi plain.config)));
  helping = aide true None;
}

-- (a) Esc rX C-C = nothing | ends Interrupted | shows {} ( a ␛[2D␛[J␛[0;1;34m(␛[ma) {␛[0;1;34m(␛[ma)}␛[1D ␛[2D␛[J(aX␛[1D ␛[1C␍␊
abbrev pub row_161 : Row
row_161 = record (row 161 settings_161 (codes "(a)\u{1b}rX\u{3}") []) {
  ends = Interrupted;
  shows = Some
      (codes "\r\u{1b}[J\u{1b}[m> \u{1b}[m\u{1b}[m\u{1b}[m(a\u{1b}[2D\u{1b}[J\u{1b}[0;1;34m(" ++
      codes "\u{1b}[ma)\r\u{1b}[J\u{1b}[m> \u{1b}[m\u{1b}[0;1;34m(\u{1b}[ma)\u{1b}[m\u{1b}[" ++
      codes "m\u{1b}[1D\u{1b}[2D\u{1b}[J(aX\u{1b}[1D\u{1b}[1C\r\n");
}

-- partial modal colours helped columns:8
abbrev pub settings_165 : Settings
settings_165 = record plain {
  config = partial (colours (modal plain.config));
  columns = 8;
  helping = aide true None;
}

-- (abcdef) Enter = (abcdef) | shows {} ( a b c d e␍␊ f ␛[1A␛[1C␛[J␛[0;1;34m(␛[mabcde␍␊f) ␛[1A{(abcde␍␊f)} ␍␊ {} ␍␊
abbrev pub row_165 : Row
row_165 = record (row 165 settings_165 (codes "(abcdef)\r") (codes "(abcdef)\n")) {
  shows = Some (codes "\r\u{1b}[J\u{1b}[m> \u{1b}[m\u{1b}[m\u{1b}[m(abcde\r\nf\u{1b}[1A\u{1b}[1C" ++
      codes "\u{1b}[J\u{1b}[0;1;34m(\u{1b}[mabcde\r\nf)\u{1b}[1A\r\u{1b}[J\u{1b}[m> \u{1b}[" ++
      codes "m(abcde\r\nf)\u{1b}[m\u{1b}[m\r\n\r\u{1b}[J\u{1b}[m> \u{1b}[m\u{1b}[m\u{1b}[m" ++
      codes "\r\n");
}

-- xyabcdef(g) Enter = xyabcdef(g) | shows {} x y a b c d␍␊ e f ( g ␛[2D␛[J␛[0;1;34m(␛[mg) ␛[1A{xyabcd␍␊ef(g)} ␍␊ {} ␍␊
abbrev pub row_166 : Row
row_166 = record (row 166 settings_165 (codes "xyabcdef(g)\r") (codes "xyabcdef(g)\n")) {
  shows = Some (codes "\r\u{1b}[J\u{1b}[m> \u{1b}[m\u{1b}[m\u{1b}[mxyabcd\r\nef(g\u{1b}[2D\u{1b}[J"
      ++ codes "\u{1b}[0;1;34m(\u{1b}[mg)\u{1b}[1A\r\u{1b}[J\u{1b}[m> \u{1b}[mxyabcd\r\nef(g)" ++
      codes "\u{1b}[m\u{1b}[m\r\n\r\u{1b}[J\u{1b}[m> \u{1b}[m\u{1b}[m\u{1b}[m\r\n");
}

-- xyabcd(e) Enter = xyabcd(e) | shows {} x y a b c d␍␊ ( e ␛[2D␛[J␛[0;1;34m(␛[me) ␛[1A{xyabcd␍␊(e)} ␍␊ {} ␍␊
abbrev pub row_167 : Row
row_167 = record (row 167 settings_165 (codes "xyabcd(e)\r") (codes "xyabcd(e)\n")) {
  shows = Some (codes "\r\u{1b}[J\u{1b}[m> \u{1b}[m\u{1b}[m\u{1b}[mxyabcd\r\n(e\u{1b}[2D\u{1b}[J" ++
      codes "\u{1b}[0;1;34m(\u{1b}[me)\u{1b}[1A\r\u{1b}[J\u{1b}[m> \u{1b}[mxyabcd\r\n(e)" ++
      codes "\u{1b}[m\u{1b}[m\r\n\r\u{1b}[J\u{1b}[m> \u{1b}[m\u{1b}[m\u{1b}[m\r\n");
}

-- abcde(f) Enter = abcde(f) | shows {} a b c d e (␍␊ f ␛[1A␛[6C␛[J␛[0;1;34m(␛[m␍␊␛[0;1;34m␛[mf) ␛[1A{abcde(␍␊f)} ␍␊ {} ␍␊
abbrev pub row_168 : Row
row_168 = record (row 168 settings_165 (codes "abcde(f)\r") (codes "abcde(f)\n")) {
  shows = Some (codes "\r\u{1b}[J\u{1b}[m> \u{1b}[m\u{1b}[m\u{1b}[mabcde(\r\nf\u{1b}[1A\u{1b}[6C" ++
      codes "\u{1b}[J\u{1b}[0;1;34m(\u{1b}[m\r\n\u{1b}[0;1;34m\u{1b}[mf)\u{1b}[1A\r\u{1b}[J" ++
      codes "\u{1b}[m> \u{1b}[mabcde(\r\nf)\u{1b}[m\u{1b}[m\r\n\r\u{1b}[J\u{1b}[m> \u{1b}[m" ++
      codes "\u{1b}[m\u{1b}[m\r\n");
}

-- partial colours helped loaded:#V2␊f(x)y␊
abbrev pub settings_172 : Settings
settings_172 = record plain {
  config = partial (colours plain.config);
  helping = aide true None;
  loaded = codes "#V2\nf(x)y\n";
}

-- f(x) Enter = f(x) | shows {} ␛[Jf␛[m␛[0;2m(x)y␛[m␛[m␛[4D ␛[J(␛[m␛[0;2mx)y␛[m␛[m␛[3D ␛[Jx␛[m␛[0;2m)y␛[m␛[m␛[2D ␛[2D␛[J␛[0;1;34m(␛[mx)␛[m␛[0;2my␛[m␛[m␛[1D {f(x)} ␍␊ {} ␍␊
abbrev pub row_172 : Row
row_172 = record (row 172 settings_172 (codes "f(x)\r") (codes "f(x)\n")) {
  shows = Some (codes "\r\u{1b}[J\u{1b}[m> \u{1b}[m\u{1b}[m\u{1b}[m\u{1b}[Jf\u{1b}[m\u{1b}[0;2m(x)y"
      ++ codes "\u{1b}[m\u{1b}[m\u{1b}[4D\u{1b}[J(\u{1b}[m\u{1b}[0;2mx)y\u{1b}[m\u{1b}[m\u{1b}" ++
      codes "[3D\u{1b}[Jx\u{1b}[m\u{1b}[0;2m)y\u{1b}[m\u{1b}[m\u{1b}[2D\u{1b}[2D\u{1b}[J" ++
      codes "\u{1b}[0;1;34m(\u{1b}[mx)\u{1b}[m\u{1b}[0;2my\u{1b}[m\u{1b}[m\u{1b}[1D\r\u{1b}" ++
      codes "[J\u{1b}[m> \u{1b}[mf(x)\u{1b}[m\u{1b}[m\r\n\r\u{1b}[J\u{1b}[m> \u{1b}[m\u{1b}" ++
      codes "[m\u{1b}[m\r\n");
}

-- partial bare columns:4
abbrev pub settings_236 : Settings
settings_236 = record plain {
  config = partial plain.config;
  columns = 4;
  prompt = [];
}

-- Paste abcd Pasted C-a Right x Enter = axbcd | shows ␍␛[J␛[m␛[m␛[m␛[m ␛[Jabcd␍␊ ␛[1A ␛[1C ␛[@x␍␊␛[@d␛[1A␛[1C ␛[1B␛[1D␍␊ ␍␛[J␛[m␛[m␛[m␛[m ␍␊
abbrev pub row_236 : Row
row_236 = record (row 236 settings_236 (codes "\u{1b}[200~abcd\u{1b}[201~\u{1}\u{1b}[Cx\r")
    (codes "axbcd\n")) {
      shows = Some (codes "\r\u{1b}[J\u{1b}[m\u{1b}[m\u{1b}[m\u{1b}[m\u{1b}[Jabcd\r\n\u{1b}[1A\u{1b}[1C"
          ++ codes "\u{1b}[@x\r\n\u{1b}[@d\u{1b}[1A\u{1b}[1C\u{1b}[1B\u{1b}[1D\r\n\r\u{1b}[J\u{1b}" ++
          codes "[m\u{1b}[m\u{1b}[m\u{1b}[m\r\n");
    }

-- Paste abcdefg Pasted C-a Right x Enter = axbcdefg | shows ␍␛[J␛[m␛[m␛[m␛[m ␛[Jabcd␍␊efg ␛[1A␛[3D ␛[1C ␛[@x␍␊␛[@d␍␊␛[2A␛[2C ␛[2B␛[2D␍␊ ␍␛[J␛[m␛[m␛[m␛[m ␍␊
abbrev pub row_237 : Row
row_237 = record (row 237 settings_236 (codes "\u{1b}[200~abcdefg\u{1b}[201~\u{1}\u{1b}[Cx\r")
    (codes "axbcdefg\n")) {
      shows = Some
          (codes "\r\u{1b}[J\u{1b}[m\u{1b}[m\u{1b}[m\u{1b}[m\u{1b}[Jabcd\r\nefg\u{1b}[1A\u{1b}[3" ++
          codes "D\u{1b}[1C\u{1b}[@x\r\n\u{1b}[@d\r\n\u{1b}[2A\u{1b}[2C\u{1b}[2B\u{1b}[2D\r\n\r" ++
          codes "\u{1b}[J\u{1b}[m\u{1b}[m\u{1b}[m\u{1b}[m\r\n");
    }

-- Paste abcdefgh Pasted C-a Right x Enter = axbcdefgh | shows ␍␛[J␛[m␛[m␛[m␛[m ␛[Jabcd␍␊efgh␍␊ ␛[2A ␛[1C ␛[4hx␍␊d␍␊h␛[4l␛[2A␛[1C ␛[2B␛[1D␍␊ ␍␛[J␛[m␛[m␛[m␛[m ␍␊
abbrev pub row_238 : Row
row_238 = record (row 238 settings_236 (codes "\u{1b}[200~abcdefgh\u{1b}[201~\u{1}\u{1b}[Cx\r")
    (codes "axbcdefgh\n")) {
      shows = Some (codes "\r\u{1b}[J\u{1b}[m\u{1b}[m\u{1b}[m\u{1b}[m\u{1b}[Jabcd\r\nefgh\r\n\u{1b}[2A"
          ++ codes "\u{1b}[1C\u{1b}[4hx\r\nd\r\nh\u{1b}[4l\u{1b}[2A\u{1b}[1C\u{1b}[2B\u{1b}[1D\r\n" ++
          codes "\r\u{1b}[J\u{1b}[m\u{1b}[m\u{1b}[m\u{1b}[m\r\n");
    }

-- partial bare columns:2
abbrev pub settings_241 : Settings
settings_241 = record plain {
  config = partial plain.config;
  columns = 2;
  prompt = [];
}

-- Paste ab Pasted C-a Right x Enter = axb | shows ␍␛[J␛[m␛[m␛[m␛[m ␛[Jab␍␊ ␛[1A ␛[1C ␛[@x␍␊␛[@b␛[1D ␛[1C␍␊ ␍␛[J␛[m␛[m␛[m␛[m ␍␊
abbrev pub row_241 : Row
row_241 = record (row 241 settings_241 (codes "\u{1b}[200~ab\u{1b}[201~\u{1}\u{1b}[Cx\r")
    (codes "axb\n")) {
      shows = Some (codes "\r\u{1b}[J\u{1b}[m\u{1b}[m\u{1b}[m\u{1b}[m\u{1b}[Jab\r\n\u{1b}[1A\u{1b}[1C"
          ++ codes "\u{1b}[@x\r\n\u{1b}[@b\u{1b}[1D\u{1b}[1C\r\n\r\u{1b}[J\u{1b}[m\u{1b}[m\u{1b}[m" ++
          codes "\u{1b}[m\r\n");
    }

-- Paste abcd Pasted C-a Right x Enter = axbcd | shows ␍␛[J␛[m␛[m␛[m␛[m ␛[Jab␍␊cd␍␊ ␛[2A ␛[1C ␛[4hx␍␊b␍␊d␛[4l␛[1A␛[1D ␛[1B␛[1C␍␊ ␍␛[J␛[m␛[m␛[m␛[m ␍␊
abbrev pub row_242 : Row
row_242 = record (row 242 settings_241 (codes "\u{1b}[200~abcd\u{1b}[201~\u{1}\u{1b}[Cx\r")
    (codes "axbcd\n")) {
      shows = Some
          (codes "\r\u{1b}[J\u{1b}[m\u{1b}[m\u{1b}[m\u{1b}[m\u{1b}[Jab\r\ncd\r\n\u{1b}[2A\u{1b}[" ++
          codes "1C\u{1b}[4hx\r\nb\r\nd\u{1b}[4l\u{1b}[1A\u{1b}[1D\u{1b}[1B\u{1b}[1C\r\n\r" ++
          codes "\u{1b}[J\u{1b}[m\u{1b}[m\u{1b}[m\u{1b}[m\r\n");
    }

-- partial colours helped
abbrev pub settings_246 : Settings
settings_246 = record plain {
  config = partial (colours plain.config);
  helping = aide true None;
}

-- Paste (␉) Pasted C-c = nothing | ends Interrupted | shows {} ␛[J␛[0;1;34m(␛[m␛[m?␛[m) ␍␊
abbrev pub row_246 : Row
row_246 = record (row 246 settings_246 (codes "\u{1b}[200~(\t)\u{1b}[201~\u{3}") []) {
  ends = Interrupted;
  shows = Some (codes "\r\u{1b}[J\u{1b}[m> \u{1b}[m\u{1b}[m\u{1b}[m\u{1b}[J\u{1b}[0;1;34m(\u{1b}[m"
      ++ codes "\u{1b}[m?\u{1b}[m)\r\n");
}

-- Paste a(␊) Pasted C-c = nothing | ends Interrupted | shows {} ␛[Ja␛[0;1;34m(␛[m␍␊) ␍␊
abbrev pub row_247 : Row
row_247 = record (row 247 settings_246 (codes "\u{1b}[200~a(\n)\u{1b}[201~\u{3}") []) {
  ends = Interrupted;
  shows = Some
      (codes "\r\u{1b}[J\u{1b}[m> \u{1b}[m\u{1b}[m\u{1b}[m\u{1b}[Ja\u{1b}[0;1;34m(\u{1b}[m\r" ++
      codes "\n)\r\n");
}

abbrev pub partial_rows : List Row
partial_rows = row_8 ∷ row_9 ∷ row_10 ∷ row_11 ∷ row_12 ∷ row_15 ∷ row_16 ∷ row_17 ∷ row_18 ∷ row_21
    ∷ row_22 ∷ row_23 ∷ row_24 ∷ row_27 ∷ row_28 ∷ row_29 ∷ row_32 ∷ row_33 ∷ row_34 ∷ row_35 ∷
    row_36 ∷ row_37 ∷ row_40 ∷ row_41 ∷ row_42 ∷ row_43 ∷ row_44 ∷ row_45 ∷ row_48 ∷ row_49 ∷ row_50
    ∷ row_51 ∷ row_52 ∷ row_53 ∷ row_54 ∷ row_55 ∷ row_56 ∷ row_57 ∷ row_60 ∷ row_63 ∷ row_64 ∷
    row_65 ∷ row_69 ∷ row_70 ∷ row_71 ∷ row_72 ∷ row_73 ∷ row_74 ∷ row_79 ∷ row_80 ∷ row_81 ∷ row_82
    ∷ row_83 ∷ row_84 ∷ row_85 ∷ row_86 ∷ row_87 ∷ row_88 ∷ row_91 ∷ row_92 ∷ row_93 ∷ row_94 ∷
    row_95 ∷ row_96 ∷ row_100 ∷ row_101 ∷ row_102 ∷ row_103 ∷ row_106 ∷ row_110 ∷ row_111 ∷ row_115
    ∷ row_116 ∷ row_117 ∷ row_118 ∷ row_119 ∷ row_122 ∷ row_123 ∷ row_127 ∷ row_131 ∷ row_132 ∷
    row_133 ∷ row_136 ∷ row_140 ∷ row_141 ∷ row_142 ∷ row_145 ∷ row_149 ∷ row_150 ∷ row_151 ∷
    row_152 ∷ row_155 ∷ row_156 ∷ row_157 ∷ row_158 ∷ row_161 ∷ row_165 ∷ row_166 ∷ row_167 ∷
    row_168 ∷ row_172 ∷ row_236 ∷ row_237 ∷ row_238 ∷ row_241 ∷ row_242 ∷ row_246 ∷ row_247 ∷ []
