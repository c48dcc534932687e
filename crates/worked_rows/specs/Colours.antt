-- The rows of colours.txt; tests/definition/worked_rows.py writes them.
use Rattle.line_config.specs.declared.errors.ReadlineError.TheVariants.{Interrupted}
use Rattle.std.specs.Prelude.{List, [], ◌∷◌, ◌++◌, None, Some, true, false, codes, encode_utf8_all}
use Rattle.worked_rows.specs.Playing.{Row, row}
use Rattle.worked_rows.specs.Settings.{Settings, aide, colours, listed, modal, partial, plain, vi}

-- colours helped
abbrev pub settings_8 : Settings
settings_8 = record plain {
  config = colours plain.config;
  helping = aide true None;
}

-- (a) Enter = (a) | shows {} ( a {␛[0;1;34m(␛[ma)} {(a)} ␍␊ {} ␍␊
abbrev pub row_8 : Row
row_8 = record (row 8 settings_8 (codes "(a)\r") (codes "(a)\n")) {
  shows = Some (codes "\r\u{1b}[J\u{1b}[m> \u{1b}[m\u{1b}[m\u{1b}[m(a\r\u{1b}[J\u{1b}[m> \u{1b}[m"
      ++ codes "\u{1b}[0;1;34m(\u{1b}[ma)\u{1b}[m\u{1b}[m\r\u{1b}[J\u{1b}[m> \u{1b}[m(a)\u{1b}" ++
      codes "[m\u{1b}[m\r\n\r\u{1b}[J\u{1b}[m> \u{1b}[m\u{1b}[m\u{1b}[m\r\n");
}

-- ((a) Backspace x) ) Enter = ((ax)) | shows {} ( ( a {(␛[0;1;34m(␛[ma)} {((a} x {(␛[0;1;34m(␛[max)} {␛[0;1;34m(␛[m(ax))} {((ax))} ␍␊ {} ␍␊
abbrev pub row_9 : Row
row_9 = record (row 9 settings_8 (codes "((a)\u{7f}x))\r") (codes "((ax))\n")) {
  shows = Some (codes "\r\u{1b}[J\u{1b}[m> \u{1b}[m\u{1b}[m\u{1b}[m((a\r\u{1b}[J\u{1b}[m> \u{1b}[m("
      ++ codes "\u{1b}[0;1;34m(\u{1b}[ma)\u{1b}[m\u{1b}[m\r\u{1b}[J\u{1b}[m> \u{1b}[m((a\u{1b}" ++
      codes "[m\u{1b}[mx\r\u{1b}[J\u{1b}[m> \u{1b}[m(\u{1b}[0;1;34m(\u{1b}[max)\u{1b}[m" ++
      codes "\u{1b}[m\r\u{1b}[J\u{1b}[m> \u{1b}[m\u{1b}[0;1;34m(\u{1b}[m(ax))\u{1b}[m\u{1b}" ++
      codes "[m\r\u{1b}[J\u{1b}[m> \u{1b}[m((ax))\u{1b}[m\u{1b}[m\r\n\r\u{1b}[J\u{1b}[m> " ++
      codes "\u{1b}[m\u{1b}[m\u{1b}[m\r\n");
}

-- [(] C-A C-D C-D C-D Enter = "" | shows {} [ ( {␛[0;1;34m[␛[m(]} {[(␛[0;1;34m]␛[m}␛[3D {(]}␛[2D {]}␛[1D ␛[K ␍␊ {} ␍␊
abbrev pub row_10 : Row
row_10 = record (row 10 settings_8 (codes "[(]\u{1}\u{4}\u{4}\u{4}\r") (codes "\n")) {
  shows = Some (codes "\r\u{1b}[J\u{1b}[m> \u{1b}[m\u{1b}[m\u{1b}[m[(\r\u{1b}[J\u{1b}[m> \u{1b}[m"
      ++ codes "\u{1b}[0;1;34m[\u{1b}[m(]\u{1b}[m\u{1b}[m\r\u{1b}[J\u{1b}[m> \u{1b}[m[(\u{1b}[" ++
      codes "0;1;34m]\u{1b}[m\u{1b}[m\u{1b}[m\u{1b}[3D\r\u{1b}[J\u{1b}[m> \u{1b}[m(]\u{1b}[" ++
      codes "m\u{1b}[m\u{1b}[2D\r\u{1b}[J\u{1b}[m> \u{1b}[m]\u{1b}[m\u{1b}[m\u{1b}[1D\u{1b}" ++
      codes "[K\r\n\r\u{1b}[J\u{1b}[m> \u{1b}[m\u{1b}[m\u{1b}[m\r\n");
}

-- (a) Left Left Left x Enter = x(a) | shows {} ( a {␛[0;1;34m(␛[ma)} {␛[0;1;34m(␛[ma)}␛[1D {(a␛[0;1;34m)␛[m}␛[2D {(a␛[0;1;34m)␛[m}␛[3D {x(a␛[0;1;34m)␛[m}␛[3D {x(a)}␛[3D ␛[3C␍␊ {} ␍␊
abbrev pub row_13 : Row
row_13 = record (row 13 settings_8 (codes "(a)\u{1b}[D\u{1b}[D\u{1b}[Dx\r") (codes "x(a)\n")) {
  shows = Some (codes "\r\u{1b}[J\u{1b}[m> \u{1b}[m\u{1b}[m\u{1b}[m(a\r\u{1b}[J\u{1b}[m> \u{1b}[m"
      ++ codes "\u{1b}[0;1;34m(\u{1b}[ma)\u{1b}[m\u{1b}[m\r\u{1b}[J\u{1b}[m> \u{1b}[m\u{1b}[0;" ++
      codes "1;34m(\u{1b}[ma)\u{1b}[m\u{1b}[m\u{1b}[1D\r\u{1b}[J\u{1b}[m> \u{1b}[m(a\u{1b}[" ++
      codes "0;1;34m)\u{1b}[m\u{1b}[m\u{1b}[m\u{1b}[2D\r\u{1b}[J\u{1b}[m> \u{1b}[m(a\u{1b}[" ++
      codes "0;1;34m)\u{1b}[m\u{1b}[m\u{1b}[m\u{1b}[3D\r\u{1b}[J\u{1b}[m> \u{1b}[mx(a\u{1b}" ++
      codes "[0;1;34m)\u{1b}[m\u{1b}[m\u{1b}[m\u{1b}[3D\r\u{1b}[J\u{1b}[m> \u{1b}[mx(a)" ++
      codes "\u{1b}[m\u{1b}[m\u{1b}[3D\u{1b}[3C\r\n\r\u{1b}[J\u{1b}[m> \u{1b}[m\u{1b}[m" ++
      codes "\u{1b}[m\r\n");
}

-- (a)bc Left Left Left Right Right Enter = (a)bc | shows {} ( a {␛[0;1;34m(␛[ma)} {(a)b} c ␛[1D {␛[0;1;34m(␛[ma)bc}␛[2D {␛[0;1;34m(␛[ma)bc}␛[3D {␛[0;1;34m(␛[ma)bc}␛[2D {(a)bc}␛[1D ␛[1C␍␊ {} ␍␊
abbrev pub row_14 : Row
row_14 = record (row 14 settings_8 (codes "(a)bc\u{1b}[D\u{1b}[D\u{1b}[D\u{1b}[C\u{1b}[C\r")
    (codes "(a)bc\n")) {
      shows = Some (codes "\r\u{1b}[J\u{1b}[m> \u{1b}[m\u{1b}[m\u{1b}[m(a\r\u{1b}[J\u{1b}[m> \u{1b}[m"
          ++ codes "\u{1b}[0;1;34m(\u{1b}[ma)\u{1b}[m\u{1b}[m\r\u{1b}[J\u{1b}[m> \u{1b}[m(a)b" ++
          codes "\u{1b}[m\u{1b}[mc\u{1b}[1D\r\u{1b}[J\u{1b}[m> \u{1b}[m\u{1b}[0;1;34m(\u{1b}[ma" ++
          codes ")bc\u{1b}[m\u{1b}[m\u{1b}[2D\r\u{1b}[J\u{1b}[m> \u{1b}[m\u{1b}[0;1;34m(\u{1b}[" ++
          codes "ma)bc\u{1b}[m\u{1b}[m\u{1b}[3D\r\u{1b}[J\u{1b}[m> \u{1b}[m\u{1b}[0;1;34m(" ++
          codes "\u{1b}[ma)bc\u{1b}[m\u{1b}[m\u{1b}[2D\r\u{1b}[J\u{1b}[m> \u{1b}[m(a)bc\u{1b}[m" ++
          codes "\u{1b}[m\u{1b}[1D\u{1b}[1C\r\n\r\u{1b}[J\u{1b}[m> \u{1b}[m\u{1b}[m\u{1b}[m\r\n");
    }

-- (a Backspace Enter C-C = nothing | ends Interrupted | shows {} ( a ␛[1D␛[K {(␍␊} ␍␊
abbrev pub row_17 : Row
row_17 = record (row 17 settings_8 (codes "(a\u{7f}\r\u{3}") []) {
  ends = Interrupted;
  shows = Some (codes "\r\u{1b}[J\u{1b}[m> \u{1b}[m\u{1b}[m\u{1b}[m(a\u{1b}[1D\u{1b}[K\r\u{1b}[J" ++
      codes "\u{1b}[m> \u{1b}[m(\r\n\u{1b}[m\u{1b}[m\r\n");
}

-- ] Backspace a Enter = a | shows {} {]} {} a ␍␊ {} ␍␊
abbrev pub row_18 : Row
row_18 = record (row 18 settings_8 (codes "]\u{7f}a\r") (codes "a\n")) {
  shows = Some (codes "\r\u{1b}[J\u{1b}[m> \u{1b}[m\u{1b}[m\u{1b}[m\r\u{1b}[J\u{1b}[m> \u{1b}[m]" ++
      codes "\u{1b}[m\u{1b}[m\r\u{1b}[J\u{1b}[m> \u{1b}[m\u{1b}[m\u{1b}[ma\r\n\r\u{1b}[J" ++
      codes "\u{1b}[m> \u{1b}[m\u{1b}[m\u{1b}[m\r\n");
}

-- ] Enter C-C = nothing | ends Interrupted | shows {} {]} {]} {]␛[m␛[0;31mMismatched␠brackets:␠']'␠is␠unpaired␛[m␛[m␛[36D ␛[36C␍␊
abbrev pub row_21 : Row
row_21 = record (row 21 settings_8 (codes "]\r\u{3}") []) {
  ends = Interrupted;
  shows = Some (codes "\r\u{1b}[J\u{1b}[m> \u{1b}[m\u{1b}[m\u{1b}[m\r\u{1b}[J\u{1b}[m> \u{1b}[m]" ++
      codes "\u{1b}[m\u{1b}[m\r\u{1b}[J\u{1b}[m> \u{1b}[m]\u{1b}[m\u{1b}[m\r\u{1b}[J\u{1b}[" ++
      codes "m> \u{1b}[m]\u{1b}[m\u{1b}[0;31mMismatched brackets: ']' is unpaired\u{1b}[m" ++
      codes "\u{1b}[m\u{1b}[36D\u{1b}[36C\r\n");
}

-- ] Enter x C-U ok Enter = ok | shows {} {]} {]} {]␛[m␛[0;31mMismatched␠brackets:␠']'␠is␠unpaired␛[m␛[m␛[36D {]x} ␛[2D␛[K o k ␍␊ {} ␍␊
abbrev pub row_22 : Row
row_22 = record (row 22 settings_8 (codes "]\rx\u{15}ok\r") (codes "ok\n")) {
  shows = Some (codes "\r\u{1b}[J\u{1b}[m> \u{1b}[m\u{1b}[m\u{1b}[m\r\u{1b}[J\u{1b}[m> \u{1b}[m]" ++
      codes "\u{1b}[m\u{1b}[m\r\u{1b}[J\u{1b}[m> \u{1b}[m]\u{1b}[m\u{1b}[m\r\u{1b}[J\u{1b}[" ++
      codes "m> \u{1b}[m]\u{1b}[m\u{1b}[0;31mMismatched brackets: ']' is unpaired\u{1b}[m" ++
      codes "\u{1b}[m\u{1b}[36D\r\u{1b}[J\u{1b}[m> \u{1b}[m]x\u{1b}[m\u{1b}[m\u{1b}[2D" ++
      codes "\u{1b}[Kok\r\n\r\u{1b}[J\u{1b}[m> \u{1b}[m\u{1b}[m\u{1b}[m\r\n");
}

-- (a) C-B C-K C-Y Enter = (a) | shows {} ( a {␛[0;1;34m(␛[ma)} {␛[0;1;34m(␛[ma)}␛[1D {(a} {␛[0;1;34m(␛[ma)} {(a)} ␍␊ {} ␍␊
abbrev pub row_25 : Row
row_25 = record (row 25 settings_8 (codes "(a)\u{2}\u{b}\u{19}\r") (codes "(a)\n")) {
  shows = Some (codes "\r\u{1b}[J\u{1b}[m> \u{1b}[m\u{1b}[m\u{1b}[m(a\r\u{1b}[J\u{1b}[m> \u{1b}[m"
      ++ codes "\u{1b}[0;1;34m(\u{1b}[ma)\u{1b}[m\u{1b}[m\r\u{1b}[J\u{1b}[m> \u{1b}[m\u{1b}[0;" ++
      codes "1;34m(\u{1b}[ma)\u{1b}[m\u{1b}[m\u{1b}[1D\r\u{1b}[J\u{1b}[m> \u{1b}[m(a\u{1b}[" ++
      codes "m\u{1b}[m\r\u{1b}[J\u{1b}[m> \u{1b}[m\u{1b}[0;1;34m(\u{1b}[ma)\u{1b}[m\u{1b}[m" ++
      codes "\r\u{1b}[J\u{1b}[m> \u{1b}[m(a)\u{1b}[m\u{1b}[m\r\n\r\u{1b}[J\u{1b}[m> \u{1b}[" ++
      codes "m\u{1b}[m\u{1b}[m\r\n");
}

-- (a) C-W C-Y C-_ C-_ Enter = (a) | shows {} ( a {␛[0;1;34m(␛[ma)} {} {␛[0;1;34m(␛[ma)} {} {␛[0;1;34m(␛[ma)} {(a)} ␍␊ {} ␍␊
abbrev pub row_26 : Row
row_26 = record (row 26 settings_8 (codes "(a)\u{17}\u{19}\u{1f}\u{1f}\r") (codes "(a)\n")) {
  shows = Some (codes "\r\u{1b}[J\u{1b}[m> \u{1b}[m\u{1b}[m\u{1b}[m(a\r\u{1b}[J\u{1b}[m> \u{1b}[m"
      ++ codes "\u{1b}[0;1;34m(\u{1b}[ma)\u{1b}[m\u{1b}[m\r\u{1b}[J\u{1b}[m> \u{1b}[m\u{1b}[m" ++
      codes "\u{1b}[m\r\u{1b}[J\u{1b}[m> \u{1b}[m\u{1b}[0;1;34m(\u{1b}[ma)\u{1b}[m\u{1b}[m" ++
      codes "\r\u{1b}[J\u{1b}[m> \u{1b}[m\u{1b}[m\u{1b}[m\r\u{1b}[J\u{1b}[m> \u{1b}[m\u{1b}" ++
      codes "[0;1;34m(\u{1b}[ma)\u{1b}[m\u{1b}[m\r\u{1b}[J\u{1b}[m> \u{1b}[m(a)\u{1b}[m" ++
      codes "\u{1b}[m\r\n\r\u{1b}[J\u{1b}[m> \u{1b}[m\u{1b}[m\u{1b}[m\r\n");
}

-- (a) C-L Enter = (a) | shows {} ( a {␛[0;1;34m(␛[ma)} ␛[H␛[J {␛[0;1;34m(␛[ma)} {(a)} ␍␊ {} ␍␊
abbrev pub row_27 : Row
row_27 = record (row 27 settings_8 (codes "(a)\u{c}\r") (codes "(a)\n")) {
  shows = Some (codes "\r\u{1b}[J\u{1b}[m> \u{1b}[m\u{1b}[m\u{1b}[m(a\r\u{1b}[J\u{1b}[m> \u{1b}[m"
      ++ codes "\u{1b}[0;1;34m(\u{1b}[ma)\u{1b}[m\u{1b}[m\u{1b}[H\u{1b}[J\r\u{1b}[J\u{1b}[m> " ++
      codes "\u{1b}[m\u{1b}[0;1;34m(\u{1b}[ma)\u{1b}[m\u{1b}[m\r\u{1b}[J\u{1b}[m> \u{1b}[m(" ++
      codes "a)\u{1b}[m\u{1b}[m\r\n\r\u{1b}[J\u{1b}[m> \u{1b}[m\u{1b}[m\u{1b}[m\r\n");
}

-- (a) M-2 x Enter = (a)xx | shows {} ( a {␛[0;1;34m(␛[ma)} ␍␛[J␛[m(arg:␠2)␠␛[m␛[0;1;34m(␛[ma)␛[m␛[m {␛[0;1;34m(␛[ma)} {(a)xx} ␍␊ {} ␍␊
abbrev pub row_28 : Row
row_28 = record (row 28 settings_8 (codes "(a)\u{1b}2x\r") (codes "(a)xx\n")) {
  shows = Some (codes "\r\u{1b}[J\u{1b}[m> \u{1b}[m\u{1b}[m\u{1b}[m(a\r\u{1b}[J\u{1b}[m> \u{1b}[m"
      ++ codes "\u{1b}[0;1;34m(\u{1b}[ma)\u{1b}[m\u{1b}[m\r\u{1b}[J\u{1b}[m(arg: 2) \u{1b}[m" ++
      codes "\u{1b}[0;1;34m(\u{1b}[ma)\u{1b}[m\u{1b}[m\r\u{1b}[J\u{1b}[m> \u{1b}[m\u{1b}[0;" ++
      codes "1;34m(\u{1b}[ma)\u{1b}[m\u{1b}[m\r\u{1b}[J\u{1b}[m> \u{1b}[m(a)xx\u{1b}[m" ++
      codes "\u{1b}[m\r\n\r\u{1b}[J\u{1b}[m> \u{1b}[m\u{1b}[m\u{1b}[m\r\n");
}

-- (漢) Enter = (漢) | shows {} ( {(␛[m漢␛[m} {␛[0;1;34m(␛[m␛[m漢␛[m)} {(␛[m漢␛[m)} ␍␊ {} ␍␊
abbrev pub row_31 : Row
row_31 = record (row 31 settings_8 (encode_utf8_all (codes "(漢)\r")) (encode_utf8_all
    (codes "(漢)\n"))) {
      shows = Some (encode_utf8_all
          (codes "\r\u{1b}[J\u{1b}[m> \u{1b}[m\u{1b}[m\u{1b}[m(\r\u{1b}[J\u{1b}[m> \u{1b}[m(" ++
          codes "\u{1b}[m漢\u{1b}[m\u{1b}[m\u{1b}[m\r\u{1b}[J\u{1b}[m> \u{1b}[m\u{1b}[0;1;34m(" ++
          codes "\u{1b}[m\u{1b}[m漢\u{1b}[m)\u{1b}[m\u{1b}[m\r\u{1b}[J\u{1b}[m> \u{1b}[m(\u{1b}[" ++
          codes "m漢\u{1b}[m)\u{1b}[m\u{1b}[m\r\n\r\u{1b}[J\u{1b}[m> \u{1b}[m\u{1b}[m\u{1b}[m\r" ++
          codes "\n"));
    }

-- 漢(é) Left Enter = 漢(é) | shows {} {␛[m漢␛[m} {␛[m漢␛[m(} {␛[m漢␛[m(␛[mé␛[m} {␛[m漢␛[m␛[0;1;34m(␛[m␛[mé␛[m)} {␛[m漢␛[m␛[0;1;34m(␛[m␛[mé␛[m)}␛[1D {␛[m漢␛[m(␛[mé␛[m)}␛[1D ␛[1C␍␊ {} ␍␊
abbrev pub row_32 : Row
row_32 = record (row 32 settings_8 (encode_utf8_all (codes "漢(é)\u{1b}[D\r")) (encode_utf8_all
    (codes "漢(é)\n"))) {
      shows = Some (encode_utf8_all
          (codes "\r\u{1b}[J\u{1b}[m> \u{1b}[m\u{1b}[m\u{1b}[m\r\u{1b}[J\u{1b}[m> \u{1b}[m\u{1b}" ++
          codes "[m漢\u{1b}[m\u{1b}[m\u{1b}[m\r\u{1b}[J\u{1b}[m> \u{1b}[m\u{1b}[m漢\u{1b}[m(" ++
          codes "\u{1b}[m\u{1b}[m\r\u{1b}[J\u{1b}[m> \u{1b}[m\u{1b}[m漢\u{1b}[m(\u{1b}[mé\u{1b}[" ++
          codes "m\u{1b}[m\u{1b}[m\r\u{1b}[J\u{1b}[m> \u{1b}[m\u{1b}[m漢\u{1b}[m\u{1b}[0;1;34m(" ++
          codes "\u{1b}[m\u{1b}[mé\u{1b}[m)\u{1b}[m\u{1b}[m\r\u{1b}[J\u{1b}[m> \u{1b}[m\u{1b}[m" ++
          codes "漢\u{1b}[m\u{1b}[0;1;34m(\u{1b}[m\u{1b}[mé\u{1b}[m)\u{1b}[m\u{1b}[m\u{1b}[1D\r" ++
          codes "\u{1b}[J\u{1b}[m> \u{1b}[m\u{1b}[m漢\u{1b}[m(\u{1b}[mé\u{1b}[m)\u{1b}[m\u{1b}[m" ++
          codes "\u{1b}[1D\u{1b}[1C\r\n\r\u{1b}[J\u{1b}[m> \u{1b}[m\u{1b}[m\u{1b}[m\r\n"));
    }

-- colours helped columns:8
abbrev pub settings_37 : Settings
settings_37 = record plain {
  config = colours plain.config;
  columns = 8;
  helping = aide true None;
}

-- (abcdef) Enter = (abcdef) | shows {} ( a b c d {(abcde␍␊} f ␛[1A{␛[0;1;34m(␛[mabcde␍␊f)} ␛[1A{(abcde␍␊f)} ␍␊ {} ␍␊
abbrev pub row_37 : Row
row_37 = record (row 37 settings_37 (codes "(abcdef)\r") (codes "(abcdef)\n")) {
  shows = Some
      (codes "\r\u{1b}[J\u{1b}[m> \u{1b}[m\u{1b}[m\u{1b}[m(abcd\r\u{1b}[J\u{1b}[m> \u{1b}[m(" ++
      codes "abcde\r\n\u{1b}[m\u{1b}[mf\u{1b}[1A\r\u{1b}[J\u{1b}[m> \u{1b}[m\u{1b}[0;1;34m(" ++
      codes "\u{1b}[mabcde\r\nf)\u{1b}[m\u{1b}[m\u{1b}[1A\r\u{1b}[J\u{1b}[m> \u{1b}[m(abcde" ++
      codes "\r\nf)\u{1b}[m\u{1b}[m\r\n\r\u{1b}[J\u{1b}[m> \u{1b}[m\u{1b}[m\u{1b}[m\r\n");
}

-- (abcdef) C-A Enter = (abcdef) | shows {} ( a b c d {(abcde␍␊} f ␛[1A{␛[0;1;34m(␛[mabcde␍␊f)} ␛[1A{(abcde␍␊f␛[0;1;34m)␛[m}␛[1A {(abcde␍␊f)}␛[1A ␛[1B␍␊ {} ␍␊
abbrev pub row_38 : Row
row_38 = record (row 38 settings_37 (codes "(abcdef)\u{1}\r") (codes "(abcdef)\n")) {
  shows = Some
      (codes "\r\u{1b}[J\u{1b}[m> \u{1b}[m\u{1b}[m\u{1b}[m(abcd\r\u{1b}[J\u{1b}[m> \u{1b}[m(" ++
      codes "abcde\r\n\u{1b}[m\u{1b}[mf\u{1b}[1A\r\u{1b}[J\u{1b}[m> \u{1b}[m\u{1b}[0;1;34m(" ++
      codes "\u{1b}[mabcde\r\nf)\u{1b}[m\u{1b}[m\u{1b}[1A\r\u{1b}[J\u{1b}[m> \u{1b}[m(abcde" ++
      codes "\r\nf\u{1b}[0;1;34m)\u{1b}[m\u{1b}[m\u{1b}[m\u{1b}[1A\r\u{1b}[J\u{1b}[m> " ++
      codes "\u{1b}[m(abcde\r\nf)\u{1b}[m\u{1b}[m\u{1b}[1A\u{1b}[1B\r\n\r\u{1b}[J\u{1b}[m> " ++
      codes "\u{1b}[m\u{1b}[m\u{1b}[m\r\n");
}

-- (abcd) C-A Enter = (abcd) | shows {} ( a b c d {␛[0;1;34m(␛[mabcd)␍␊} ␛[1A{(abcd␛[0;1;34m)␛[m␍␊␛[0;1;34m␛[m}␛[1A␛[2C {(abcd)␍␊}␛[1A␛[2C ␛[1B␛[2D␍␊ {} ␍␊
abbrev pub row_39 : Row
row_39 = record (row 39 settings_37 (codes "(abcd)\u{1}\r") (codes "(abcd)\n")) {
  shows = Some
      (codes "\r\u{1b}[J\u{1b}[m> \u{1b}[m\u{1b}[m\u{1b}[m(abcd\r\u{1b}[J\u{1b}[m> \u{1b}[m" ++
      codes "\u{1b}[0;1;34m(\u{1b}[mabcd)\r\n\u{1b}[m\u{1b}[m\u{1b}[1A\r\u{1b}[J\u{1b}[m> " ++
      codes "\u{1b}[m(abcd\u{1b}[0;1;34m)\u{1b}[m\r\n\u{1b}[0;1;34m\u{1b}[m\u{1b}[m\u{1b}[m" ++
      codes "\u{1b}[1A\u{1b}[2C\r\u{1b}[J\u{1b}[m> \u{1b}[m(abcd)\r\n\u{1b}[m\u{1b}[m\u{1b}" ++
      codes "[1A\u{1b}[2C\u{1b}[1B\u{1b}[2D\r\n\r\u{1b}[J\u{1b}[m> \u{1b}[m\u{1b}[m\u{1b}[m" ++
      codes "\r\n");
}

-- Paste (a␊b) Pasted Enter = (a␊b) | shows {} {␛[0;1;34m(␛[ma␍␊b)} ␛[1A{(a␍␊b)} ␍␊ {} ␍␊
abbrev pub row_40 : Row
row_40 = record (row 40 settings_37 (codes "\u{1b}[200~(a\nb)\u{1b}[201~\r") (codes "(a\nb)\n")) {
  shows = Some
      (codes "\r\u{1b}[J\u{1b}[m> \u{1b}[m\u{1b}[m\u{1b}[m\r\u{1b}[J\u{1b}[m> \u{1b}[m\u{1b}" ++
      codes "[0;1;34m(\u{1b}[ma\r\nb)\u{1b}[m\u{1b}[m\u{1b}[1A\r\u{1b}[J\u{1b}[m> \u{1b}[m(" ++
      codes "a\r\nb)\u{1b}[m\u{1b}[m\r\n\r\u{1b}[J\u{1b}[m> \u{1b}[m\u{1b}[m\u{1b}[m\r\n");
}

-- colours helped loaded:#V2␊hello␊f(x)␊
abbrev pub settings_44 : Settings
settings_44 = record plain {
  config = colours plain.config;
  helping = aide true None;
  loaded = codes "#V2\nhello\nf(x)\n";
}

-- h Enter = h | shows {} {h␛[m␛[0;2mello␛[m␛[m␛[4D {h} ␍␊ {} ␍␊
abbrev pub row_44 : Row
row_44 = record (row 44 settings_44 (codes "h\r") (codes "h\n")) {
  shows = Some (codes "\r\u{1b}[J\u{1b}[m> \u{1b}[m\u{1b}[m\u{1b}[m\r\u{1b}[J\u{1b}[m> \u{1b}[mh" ++
      codes "\u{1b}[m\u{1b}[0;2mello\u{1b}[m\u{1b}[m\u{1b}[4D\r\u{1b}[J\u{1b}[m> \u{1b}[mh" ++
      codes "\u{1b}[m\u{1b}[m\r\n\r\u{1b}[J\u{1b}[m> \u{1b}[m\u{1b}[m\u{1b}[m\r\n");
}

-- he Right Enter = hello | shows {} {h␛[m␛[0;2mello␛[m␛[m␛[4D {he␛[m␛[0;2mllo␛[m␛[m␛[3D {hello} ␍␊ {} ␍␊
abbrev pub row_45 : Row
row_45 = record (row 45 settings_44 (codes "he\u{1b}[C\r") (codes "hello\n")) {
  shows = Some (codes "\r\u{1b}[J\u{1b}[m> \u{1b}[m\u{1b}[m\u{1b}[m\r\u{1b}[J\u{1b}[m> \u{1b}[mh" ++
      codes "\u{1b}[m\u{1b}[0;2mello\u{1b}[m\u{1b}[m\u{1b}[4D\r\u{1b}[J\u{1b}[m> \u{1b}[mhe" ++
      codes "\u{1b}[m\u{1b}[0;2mllo\u{1b}[m\u{1b}[m\u{1b}[3D\r\u{1b}[J\u{1b}[m> \u{1b}[mhel" ++
      codes "lo\u{1b}[m\u{1b}[m\r\n\r\u{1b}[J\u{1b}[m> \u{1b}[m\u{1b}[m\u{1b}[m\r\n");
}

-- f Right Enter = f(x) | shows {} {f␛[m␛[0;2m(x)␛[m␛[m␛[3D {f␛[0;1;34m(␛[mx)} {f(x)} ␍␊ {} ␍␊
abbrev pub row_46 : Row
row_46 = record (row 46 settings_44 (codes "f\u{1b}[C\r") (codes "f(x)\n")) {
  shows = Some (codes "\r\u{1b}[J\u{1b}[m> \u{1b}[m\u{1b}[m\u{1b}[m\r\u{1b}[J\u{1b}[m> \u{1b}[mf" ++
      codes "\u{1b}[m\u{1b}[0;2m(x)\u{1b}[m\u{1b}[m\u{1b}[3D\r\u{1b}[J\u{1b}[m> \u{1b}[mf" ++
      codes "\u{1b}[0;1;34m(\u{1b}[mx)\u{1b}[m\u{1b}[m\r\u{1b}[J\u{1b}[m> \u{1b}[mf(x)" ++
      codes "\u{1b}[m\u{1b}[m\r\n\r\u{1b}[J\u{1b}[m> \u{1b}[m\u{1b}[m\u{1b}[m\r\n");
}

-- Up Enter = f(x) | shows {} {f␛[0;1;34m(␛[mx)} {f(x)} ␍␊ {} ␍␊
abbrev pub row_47 : Row
row_47 = record (row 47 settings_44 (codes "\u{1b}[A\r") (codes "f(x)\n")) {
  shows = Some (codes "\r\u{1b}[J\u{1b}[m> \u{1b}[m\u{1b}[m\u{1b}[m\r\u{1b}[J\u{1b}[m> \u{1b}[mf" ++
      codes "\u{1b}[0;1;34m(\u{1b}[mx)\u{1b}[m\u{1b}[m\r\u{1b}[J\u{1b}[m> \u{1b}[mf(x)" ++
      codes "\u{1b}[m\u{1b}[m\r\n\r\u{1b}[J\u{1b}[m> \u{1b}[m\u{1b}[m\u{1b}[m\r\n");
}

-- colours helped loaded:#V2␊hello␊ columns:6
abbrev pub settings_50 : Settings
settings_50 = record plain {
  config = colours plain.config;
  columns = 6;
  helping = aide true None;
  loaded = codes "#V2\nhello\n";
}

-- h Enter = h | shows {} {h␛[m␛[0;2mell␛[m␍␊␛[0;2mo␛[m␛[m␛[1A␛[2C {h} ␍␊ {} ␍␊
abbrev pub row_50 : Row
row_50 = record (row 50 settings_50 (codes "h\r") (codes "h\n")) {
  shows = Some (codes "\r\u{1b}[J\u{1b}[m> \u{1b}[m\u{1b}[m\u{1b}[m\r\u{1b}[J\u{1b}[m> \u{1b}[mh" ++
      codes "\u{1b}[m\u{1b}[0;2mell\u{1b}[m\r\n\u{1b}[0;2mo\u{1b}[m\u{1b}[m\u{1b}[1A\u{1b}[" ++
      codes "2C\r\u{1b}[J\u{1b}[m> \u{1b}[mh\u{1b}[m\u{1b}[m\r\n\r\u{1b}[J\u{1b}[m> \u{1b}[" ++
      codes "m\u{1b}[m\u{1b}[m\r\n");
}

-- colours modal listed words:al(),al(x) loaded:#V2␊f(x)␊g(y)␊
abbrev pub settings_54 : Settings
settings_54 = record plain {
  config = listed (colours (modal plain.config));
  helping = aide false (Some ((codes "al()") ∷ (codes "al(x)") ∷ []));
  loaded = codes "#V2\nf(x)\ng(y)\n";
}

-- C-R ( Enter = g(y) | shows {} ''} '('g(y␛[0;1;34m)␛[m}␛[3D {g(y␛[0;1;34m)␛[m}␛[3D {g(y)}␛[3D ␛[3C␍␊ {} ␍␊
abbrev pub row_54 : Row
row_54 = record (row 54 settings_54 (codes "\u{12}(\r") (codes "g(y)\n")) {
  shows = Some
      (codes "\r\u{1b}[J\u{1b}[m> \u{1b}[m\u{1b}[m\u{1b}[m\r\u{1b}[J\u{1b}[m(reverse-i-searc" ++
      codes "h)`': \u{1b}[m\u{1b}[m\u{1b}[m\r\u{1b}[J\u{1b}[m(reverse-i-search)`(': \u{1b}[" ++
      codes "mg(y\u{1b}[0;1;34m)\u{1b}[m\u{1b}[m\u{1b}[m\u{1b}[3D\r\u{1b}[J\u{1b}[m> \u{1b}" ++
      codes "[mg(y\u{1b}[0;1;34m)\u{1b}[m\u{1b}[m\u{1b}[m\u{1b}[3D\r\u{1b}[J\u{1b}[m> " ++
      codes "\u{1b}[mg(y)\u{1b}[m\u{1b}[m\u{1b}[3D\u{1b}[3C\r\n\r\u{1b}[J\u{1b}[m> \u{1b}[m" ++
      codes "\u{1b}[m\u{1b}[m\r\n");
}

-- C-R f Enter = f(x) | shows {} ''} 'f'f(x)}␛[4D {f(x)}␛[4D ␛[4C␍␊ {} ␍␊
abbrev pub row_55 : Row
row_55 = record (row 55 settings_54 (codes "\u{12}f\r") (codes "f(x)\n")) {
  shows = Some
      (codes "\r\u{1b}[J\u{1b}[m> \u{1b}[m\u{1b}[m\u{1b}[m\r\u{1b}[J\u{1b}[m(reverse-i-searc" ++
      codes "h)`': \u{1b}[m\u{1b}[m\u{1b}[m\r\u{1b}[J\u{1b}[m(reverse-i-search)`f': \u{1b}[" ++
      codes "mf(x)\u{1b}[m\u{1b}[m\u{1b}[4D\r\u{1b}[J\u{1b}[m> \u{1b}[mf(x)\u{1b}[m\u{1b}[m" ++
      codes "\u{1b}[4D\u{1b}[4C\r\n\r\u{1b}[J\u{1b}[m> \u{1b}[m\u{1b}[m\u{1b}[m\r\n");
}

-- al Tab Tab C-C = nothing | ends Interrupted | shows {} a l {al(} {al(␛[m␍␊al()␍␊al(x)␛[m␛[2A {al(} ␍␊
abbrev pub row_56 : Row
row_56 = record (row 56 settings_54 (codes "al\t\t\u{3}") []) {
  ends = Interrupted;
  shows = Some
      (codes "\r\u{1b}[J\u{1b}[m> \u{1b}[m\u{1b}[m\u{1b}[mal\r\u{1b}[J\u{1b}[m> \u{1b}[mal(" ++
      codes "\u{1b}[m\u{1b}[m\r\u{1b}[J\u{1b}[m> \u{1b}[mal(\u{1b}[m\r\nal()\r\nal(x)\u{1b}" ++
      codes "[m\u{1b}[2A\r\u{1b}[J\u{1b}[m> \u{1b}[mal(\u{1b}[m\u{1b}[m\r\n");
}

-- colours modal partial listed helped columns:40
abbrev pub settings_59 : Settings
settings_59 = record plain {
  config = listed (partial (colours (modal plain.config)));
  columns = 40;
  helping = aide true None;
}

-- (a) Left Left Left x Enter = x(a) | shows {} ( a ␛[2D␛[J␛[0;1;34m(␛[ma) {␛[0;1;34m(␛[ma)}␛[1D {(a␛[0;1;34m)␛[m}␛[2D {(a␛[0;1;34m)␛[m}␛[3D ␛[Jx(a␛[0;1;34m)␛[m␛[3D {x(a)}␛[3D ␛[3C␍␊ {} ␍␊
abbrev pub row_59 : Row
row_59 = record (row 59 settings_59 (codes "(a)\u{1b}[D\u{1b}[D\u{1b}[Dx\r") (codes "x(a)\n")) {
  shows = Some
      (codes "\r\u{1b}[J\u{1b}[m> \u{1b}[m\u{1b}[m\u{1b}[m(a\u{1b}[2D\u{1b}[J\u{1b}[0;1;34m(" ++
      codes "\u{1b}[ma)\r\u{1b}[J\u{1b}[m> \u{1b}[m\u{1b}[0;1;34m(\u{1b}[ma)\u{1b}[m\u{1b}[" ++
      codes "m\u{1b}[1D\r\u{1b}[J\u{1b}[m> \u{1b}[m(a\u{1b}[0;1;34m)\u{1b}[m\u{1b}[m\u{1b}[" ++
      codes "m\u{1b}[2D\r\u{1b}[J\u{1b}[m> \u{1b}[m(a\u{1b}[0;1;34m)\u{1b}[m\u{1b}[m\u{1b}[" ++
      codes "m\u{1b}[3D\u{1b}[Jx(a\u{1b}[0;1;34m)\u{1b}[m\u{1b}[3D\r\u{1b}[J\u{1b}[m> " ++
      codes "\u{1b}[mx(a)\u{1b}[m\u{1b}[m\u{1b}[3D\u{1b}[3C\r\n\r\u{1b}[J\u{1b}[m> \u{1b}[m" ++
      codes "\u{1b}[m\u{1b}[m\r\n");
}

-- ] Enter C-C = nothing | ends Interrupted | shows {} ␛[J] {]} {]␛[m␛[0;31mMismatched␠brackets:␠']'␠is␠unpaired␛[m␛[m␛[36D ␛[36C␍␊
abbrev pub row_60 : Row
row_60 = record (row 60 settings_59 (codes "]\r\u{3}") []) {
  ends = Interrupted;
  shows = Some (codes "\r\u{1b}[J\u{1b}[m> \u{1b}[m\u{1b}[m\u{1b}[m\u{1b}[J]\r\u{1b}[J\u{1b}[m> " ++
      codes "\u{1b}[m]\u{1b}[m\u{1b}[m\r\u{1b}[J\u{1b}[m> \u{1b}[m]\u{1b}[m\u{1b}[0;31mMism" ++
      codes "atched brackets: ']' is unpaired\u{1b}[m\u{1b}[m\u{1b}[36D\u{1b}[36C\r\n");
}

-- (] Enter Backspace ) Enter = () | shows {} ( ␛[J] {(]} {(]␛[m␛[0;31mMismatched␠brackets:␠'('␠is␠not␠prop␛[m␍␊␛[0;31merly␠closed␛[m␛[m␛[1A␛[7D ␛[1D␛[J ␛[1D␛[J␛[0;1;34m(␛[m) {()} ␍␊ {} ␍␊
abbrev pub row_61 : Row
row_61 = record (row 61 settings_59 (codes "(]\r\u{7f})\r") (codes "()\n")) {
  shows = Some (codes "\r\u{1b}[J\u{1b}[m> \u{1b}[m\u{1b}[m\u{1b}[m(\u{1b}[J]\r\u{1b}[J\u{1b}[m> "
      ++ codes "\u{1b}[m(]\u{1b}[m\u{1b}[m\r\u{1b}[J\u{1b}[m> \u{1b}[m(]\u{1b}[m\u{1b}[0;31mMi" ++
      codes "smatched brackets: '(' is not prop\u{1b}[m\r\n\u{1b}[0;31merly closed\u{1b}[m" ++
      codes "\u{1b}[m\u{1b}[1A\u{1b}[7D\u{1b}[1D\u{1b}[J\u{1b}[1D\u{1b}[J\u{1b}[0;1;34m(" ++
      codes "\u{1b}[m)\r\u{1b}[J\u{1b}[m> \u{1b}[m()\u{1b}[m\u{1b}[m\r\n\r\u{1b}[J\u{1b}[m>" ++
      codes " \u{1b}[m\u{1b}[m\u{1b}[m\r\n");
}

-- al Tab Tab Enter = al | shows {} a l ␇ ␇ ␍␊ {} ␍␊
abbrev pub row_62 : Row
row_62 = record (row 62 settings_59 (codes "al\t\t\r") (codes "al\n")) {
  shows = Some
      (codes "\r\u{1b}[J\u{1b}[m> \u{1b}[m\u{1b}[m\u{1b}[mal\u{7}\u{7}\r\n\r\u{1b}[J\u{1b}[m" ++
      codes "> \u{1b}[m\u{1b}[m\u{1b}[m\r\n");
}

-- [(a) Enter ] Enter = [(a)␊] | shows {} [ ( a ␛[2D␛[J␛[0;1;34m(␛[ma) {[(a)} ␛[J␍␊ ␛[1A␛[2C␛[J␛[0;1;34m[␛[m(a)␍␊] ␛[1A{[(a)␍␊]} ␍␊ {} ␍␊
abbrev pub row_63 : Row
row_63 = record (row 63 settings_59 (codes "[(a)\r]\r") (codes "[(a)\n]\n")) {
  shows = Some
      (codes "\r\u{1b}[J\u{1b}[m> \u{1b}[m\u{1b}[m\u{1b}[m[(a\u{1b}[2D\u{1b}[J\u{1b}[0;1;34m" ++
      codes "(\u{1b}[ma)\r\u{1b}[J\u{1b}[m> \u{1b}[m[(a)\u{1b}[m\u{1b}[m\u{1b}[J\r\n\u{1b}[" ++
      codes "1A\u{1b}[2C\u{1b}[J\u{1b}[0;1;34m[\u{1b}[m(a)\r\n]\u{1b}[1A\r\u{1b}[J\u{1b}[m>" ++
      codes " \u{1b}[m[(a)\r\n]\u{1b}[m\u{1b}[m\r\n\r\u{1b}[J\u{1b}[m> \u{1b}[m\u{1b}[m" ++
      codes "\u{1b}[m\r\n");
}

-- colours vi helped
abbrev pub settings_66 : Settings
settings_66 = record plain {
  config = colours (vi plain.config);
  helping = aide true None;
}

-- (a) Esc Enter = (a) | shows {} ( a {␛[0;1;34m(␛[ma)} {␛[0;1;34m(␛[ma)}␛[1D {(a)}␛[1D ␛[1C␍␊ {} ␍␊
abbrev pub row_66 : Row
row_66 = record (row 66 settings_66 (codes "(a)\u{1b}\r") (codes "(a)\n")) {
  shows = Some (codes "\r\u{1b}[J\u{1b}[m> \u{1b}[m\u{1b}[m\u{1b}[m(a\r\u{1b}[J\u{1b}[m> \u{1b}[m"
      ++ codes "\u{1b}[0;1;34m(\u{1b}[ma)\u{1b}[m\u{1b}[m\r\u{1b}[J\u{1b}[m> \u{1b}[m\u{1b}[0;" ++
      codes "1;34m(\u{1b}[ma)\u{1b}[m\u{1b}[m\u{1b}[1D\r\u{1b}[J\u{1b}[m> \u{1b}[m(a)\u{1b}" ++
      codes "[m\u{1b}[m\u{1b}[1D\u{1b}[1C\r\n\r\u{1b}[J\u{1b}[m> \u{1b}[m\u{1b}[m\u{1b}[m\r" ++
      codes "\n");
}

-- helped
abbrev pub settings_70 : Settings
settings_70 = record plain {
  helping = aide true None;
}

-- (a) Left Left Left x Enter = x(a) | shows {} ( a ) ␛[1D ␛[1D ␛[1D {x(a)}␛[3D ␛[3C␍␊ {} ␍␊
abbrev pub row_70 : Row
row_70 = record (row 70 settings_70 (codes "(a)\u{1b}[D\u{1b}[D\u{1b}[Dx\r") (codes "x(a)\n")) {
  shows = Some (codes "\r\u{1b}[J\u{1b}[m> \u{1b}[m\u{1b}[m\u{1b}[m(a)\u{1b}[1D\u{1b}[1D\u{1b}[1D\r"
      ++ codes "\u{1b}[J\u{1b}[m> \u{1b}[mx(a)\u{1b}[m\u{1b}[m\u{1b}[3D\u{1b}[3C\r\n\r\u{1b}[J" ++
      codes "\u{1b}[m> \u{1b}[m\u{1b}[m\u{1b}[m\r\n");
}

-- ] Enter C-C = nothing | ends Interrupted | shows {} ] {]␛[mMismatched␠brackets:␠']'␠is␠unpaired␛[m␛[36D ␛[36C␍␊
abbrev pub row_71 : Row
row_71 = record (row 71 settings_70 (codes "]\r\u{3}") []) {
  ends = Interrupted;
  shows = Some (codes "\r\u{1b}[J\u{1b}[m> \u{1b}[m\u{1b}[m\u{1b}[m]\r\u{1b}[J\u{1b}[m> \u{1b}[m]"
      ++ codes "\u{1b}[mMismatched brackets: ']' is unpaired\u{1b}[m\u{1b}[36D\u{1b}[36C\r\n");
}

-- helped loaded:#V2␊hello␊
abbrev pub settings_74 : Settings
settings_74 = record plain {
  helping = aide true None;
  loaded = codes "#V2\nhello\n";
}

-- h Enter = h | shows {} {h␛[mello␛[m␛[4D {h} ␍␊ {} ␍␊
abbrev pub row_74 : Row
row_74 = record (row 74 settings_74 (codes "h\r") (codes "h\n")) {
  shows = Some (codes "\r\u{1b}[J\u{1b}[m> \u{1b}[m\u{1b}[m\u{1b}[m\r\u{1b}[J\u{1b}[m> \u{1b}[mh" ++
      codes "\u{1b}[mello\u{1b}[m\u{1b}[4D\r\u{1b}[J\u{1b}[m> \u{1b}[mh\u{1b}[m\u{1b}[m\r\n" ++
      codes "\r\u{1b}[J\u{1b}[m> \u{1b}[m\u{1b}[m\u{1b}[m\r\n");
}

abbrev pub colours_rows : List Row
colours_rows = row_8 ∷ row_9 ∷ row_10 ∷ row_13 ∷ row_14 ∷ row_17 ∷ row_18 ∷ row_21 ∷ row_22 ∷ row_25
    ∷ row_26 ∷ row_27 ∷ row_28 ∷ row_31 ∷ row_32 ∷ row_37 ∷ row_38 ∷ row_39 ∷ row_40 ∷ row_44 ∷
    row_45 ∷ row_46 ∷ row_47 ∷ row_50 ∷ row_54 ∷ row_55 ∷ row_56 ∷ row_59 ∷ row_60 ∷ row_61 ∷ row_62
    ∷ row_63 ∷ row_66 ∷ row_70 ∷ row_71 ∷ row_74 ∷ []
