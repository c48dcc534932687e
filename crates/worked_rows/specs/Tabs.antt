-- The rows of tabs.txt; tests/definition/worked_rows.py writes them.
use Rattle.line_buffer.specs.declared.layout.GraphemeClusterMode.TheVariants.{NoZwj, WcWidth}
use Rattle.std.specs.Prelude.{List, [], ◌∷◌, ◌++◌, None, Some, true, codes, encode_utf8_all, replicate}
use Rattle.worked_rows.specs.Playing.{Row, row}
use Rattle.worked_rows.specs.Settings.{Settings, adding, aide, colours, counting, modal, partial, plain, stopping, tabs, vi}

-- tabs modal
abbrev pub settings_7 : Settings
settings_7 = record plain {
  config = tabs (modal plain.config);
}

-- Paste ␉ Pasted Enter = ␉ | shows {} {␠␠␠␠␠␠} ␍␊ {} ␍␊
abbrev pub row_7 : Row
row_7 = record (row 7 settings_7 (codes "\u{1b}[200~\t\u{1b}[201~\r") (codes "\t\n")) {
  shows = Some
      (codes "\r\u{1b}[J\u{1b}[m> \u{1b}[m\u{1b}[m\u{1b}[m\r\u{1b}[J\u{1b}[m> \u{1b}[m      " ++
      codes "\u{1b}[m\u{1b}[m\r\n\r\u{1b}[J\u{1b}[m> \u{1b}[m\u{1b}[m\u{1b}[m\r\n");
}

-- Paste abcde␉x Pasted Enter = abcde␉x | shows {} {abcde␠x} ␍␊ {} ␍␊
abbrev pub row_8 : Row
row_8 = record (row 8 settings_7 (codes "\u{1b}[200~abcde\tx\u{1b}[201~\r") (codes "abcde\tx\n")) {
  shows = Some
      (codes "\r\u{1b}[J\u{1b}[m> \u{1b}[m\u{1b}[m\u{1b}[m\r\u{1b}[J\u{1b}[m> \u{1b}[mabcde " ++
      codes "x\u{1b}[m\u{1b}[m\r\n\r\u{1b}[J\u{1b}[m> \u{1b}[m\u{1b}[m\u{1b}[m\r\n");
}

-- Paste abcdef␉x Pasted Enter = abcdef␉x | shows {} {abcdef␠␠␠␠␠␠␠␠x} ␍␊ {} ␍␊
abbrev pub row_9 : Row
row_9 = record (row 9 settings_7 (codes "\u{1b}[200~abcdef\tx\u{1b}[201~\r") (codes "abcdef\tx\n")) {
  shows = Some
      (codes "\r\u{1b}[J\u{1b}[m> \u{1b}[m\u{1b}[m\u{1b}[m\r\u{1b}[J\u{1b}[m> \u{1b}[mabcdef" ++
      codes "        x\u{1b}[m\u{1b}[m\r\n\r\u{1b}[J\u{1b}[m> \u{1b}[m\u{1b}[m\u{1b}[m\r\n");
}

-- Paste a␊␉b Pasted Enter = a␊␉b | shows {} {a␍␊␠␠␠␠␠␠␠␠b} ␍␊ {} ␍␊
abbrev pub row_10 : Row
row_10 = record (row 10 settings_7 (codes "\u{1b}[200~a\n\tb\u{1b}[201~\r") (codes "a\n\tb\n")) {
  shows = Some
      (codes "\r\u{1b}[J\u{1b}[m> \u{1b}[m\u{1b}[m\u{1b}[m\r\u{1b}[J\u{1b}[m> \u{1b}[ma\r\n " ++
      codes "       b\u{1b}[m\u{1b}[m\r\n\r\u{1b}[J\u{1b}[m> \u{1b}[m\u{1b}[m\u{1b}[m\r\n");
}

-- Paste a␉ Pasted x y Enter = a␉xy | shows {} {a␠␠␠␠␠} x y ␍␊ {} ␍␊
abbrev pub row_13 : Row
row_13 = record (row 13 settings_7 (codes "\u{1b}[200~a\t\u{1b}[201~xy\r") (codes "a\txy\n")) {
  shows = Some
      (codes "\r\u{1b}[J\u{1b}[m> \u{1b}[m\u{1b}[m\u{1b}[m\r\u{1b}[J\u{1b}[m> \u{1b}[ma     " ++
      codes "\u{1b}[m\u{1b}[mxy\r\n\r\u{1b}[J\u{1b}[m> \u{1b}[m\u{1b}[m\u{1b}[m\r\n");
}

-- Paste x␉␊ Pasted y Enter = x␉␊y | shows {} {x␠␠␠␠␠␍␊} y ␍␊ {} ␍␊
abbrev pub row_14 : Row
row_14 = record (row 14 settings_7 (codes "\u{1b}[200~x\t\n\u{1b}[201~y\r") (codes "x\t\ny\n")) {
  shows = Some
      (codes "\r\u{1b}[J\u{1b}[m> \u{1b}[m\u{1b}[m\u{1b}[m\r\u{1b}[J\u{1b}[m> \u{1b}[mx     " ++
      codes "\r\n\u{1b}[m\u{1b}[my\r\n\r\u{1b}[J\u{1b}[m> \u{1b}[m\u{1b}[m\u{1b}[m\r\n");
}

-- Paste ␉ Pasted é x Enter = ␉éx | shows {} {␠␠␠␠␠␠} {␠␠␠␠␠␠␛[mé␛[m} {␠␠␠␠␠␠␛[mé␛[mx} ␍␊ {} ␍␊
abbrev pub row_15 : Row
row_15 = record (row 15 settings_7 (encode_utf8_all (codes "\u{1b}[200~\t\u{1b}[201~éx\r"))
    (encode_utf8_all (codes "\téx\n"))) {
      shows = Some (encode_utf8_all
          (codes "\r\u{1b}[J\u{1b}[m> \u{1b}[m\u{1b}[m\u{1b}[m\r\u{1b}[J\u{1b}[m> \u{1b}[m      " ++
          codes "\u{1b}[m\u{1b}[m\r\u{1b}[J\u{1b}[m> \u{1b}[m      \u{1b}[mé\u{1b}[m\u{1b}[m" ++
          codes "\u{1b}[m\r\u{1b}[J\u{1b}[m> \u{1b}[m      \u{1b}[mé\u{1b}[mx\u{1b}[m\u{1b}[m\r" ++
          codes "\n\r\u{1b}[J\u{1b}[m> \u{1b}[m\u{1b}[m\u{1b}[m\r\n"));
    }

-- Paste ␇␉ Pasted x Enter = ␇␉x | shows {} {␛[m?␛[m␠␠␠␠␠} {␛[m?␛[m␠␠␠␠␠x} ␍␊ {} ␍␊
abbrev pub row_18 : Row
row_18 = record (row 18 settings_7 (codes "\u{1b}[200~\u{7}\t\u{1b}[201~x\r") (codes "\u{7}\tx\n")) {
  shows = Some
      (codes "\r\u{1b}[J\u{1b}[m> \u{1b}[m\u{1b}[m\u{1b}[m\r\u{1b}[J\u{1b}[m> \u{1b}[m\u{1b}" ++
      codes "[m?\u{1b}[m     \u{1b}[m\u{1b}[m\r\u{1b}[J\u{1b}[m> \u{1b}[m\u{1b}[m?\u{1b}[m " ++
      codes "    x\u{1b}[m\u{1b}[m\r\n\r\u{1b}[J\u{1b}[m> \u{1b}[m\u{1b}[m\u{1b}[m\r\n");
}

-- Paste e␉‹cc›‹81›x Pasted Enter = e␉‹cc›‹81›x | shows {} {e␠␠␠␠␠␛[m?␛[mx} ␍␊ {} ␍␊
abbrev pub row_19 : Row
row_19 = record (row 19 settings_7 (encode_utf8_all (codes "\u{1b}[200~e\t́x\u{1b}[201~\r"))
    (encode_utf8_all (codes "e\t́x\n"))) {
      shows = Some
          (codes "\r\u{1b}[J\u{1b}[m> \u{1b}[m\u{1b}[m\u{1b}[m\r\u{1b}[J\u{1b}[m> \u{1b}[me     " ++
          codes "\u{1b}[m?\u{1b}[mx\u{1b}[m\u{1b}[m\r\n\r\u{1b}[J\u{1b}[m> \u{1b}[m\u{1b}[m" ++
          codes "\u{1b}[m\r\n");
    }

-- Paste a␉ Pasted Backspace b Enter = ab | shows {} {a␠␠␠␠␠} {a} b ␍␊ {} ␍␊
abbrev pub row_22 : Row
row_22 = record (row 22 settings_7 (codes "\u{1b}[200~a\t\u{1b}[201~\u{7f}b\r") (codes "ab\n")) {
  shows = Some
      (codes "\r\u{1b}[J\u{1b}[m> \u{1b}[m\u{1b}[m\u{1b}[m\r\u{1b}[J\u{1b}[m> \u{1b}[ma     " ++
      codes "\u{1b}[m\u{1b}[m\r\u{1b}[J\u{1b}[m> \u{1b}[ma\u{1b}[m\u{1b}[mb\r\n\r\u{1b}[J" ++
      codes "\u{1b}[m> \u{1b}[m\u{1b}[m\u{1b}[m\r\n");
}

-- Paste a␉bc Pasted Backspace Enter = a␉b | shows {} {a␠␠␠␠␠bc} {a␠␠␠␠␠b} ␍␊ {} ␍␊
abbrev pub row_23 : Row
row_23 = record (row 23 settings_7 (codes "\u{1b}[200~a\tbc\u{1b}[201~\u{7f}\r") (codes "a\tb\n")) {
  shows = Some
      (codes "\r\u{1b}[J\u{1b}[m> \u{1b}[m\u{1b}[m\u{1b}[m\r\u{1b}[J\u{1b}[m> \u{1b}[ma     " ++
      codes "bc\u{1b}[m\u{1b}[m\r\u{1b}[J\u{1b}[m> \u{1b}[ma     b\u{1b}[m\u{1b}[m\r\n\r" ++
      codes "\u{1b}[J\u{1b}[m> \u{1b}[m\u{1b}[m\u{1b}[m\r\n");
}

-- Paste a␉b Pasted Left Left x Enter = ax␉b | shows {} {a␠␠␠␠␠b} ␛[1D ␛[5D {ax␠␠␠␠b}␛[5D ␛[5C␍␊ {} ␍␊
abbrev pub row_26 : Row
row_26 = record (row 26 settings_7 (codes "\u{1b}[200~a\tb\u{1b}[201~\u{1b}[D\u{1b}[Dx\r")
    (codes "ax\tb\n")) {
      shows = Some
          (codes "\r\u{1b}[J\u{1b}[m> \u{1b}[m\u{1b}[m\u{1b}[m\r\u{1b}[J\u{1b}[m> \u{1b}[ma     " ++
          codes "b\u{1b}[m\u{1b}[m\u{1b}[1D\u{1b}[5D\r\u{1b}[J\u{1b}[m> \u{1b}[max    b\u{1b}[m" ++
          codes "\u{1b}[m\u{1b}[5D\u{1b}[5C\r\n\r\u{1b}[J\u{1b}[m> \u{1b}[m\u{1b}[m\u{1b}[m\r\n");
    }

-- Paste abcde␉x Pasted Left Left Y Enter = abcdeY␉x | shows {} {abcde␠x} ␛[1D ␛[1D {abcdeY␠␠␠␠␠␠␠␠x}␛[9D ␛[9C␍␊ {} ␍␊
abbrev pub row_27 : Row
row_27 = record (row 27 settings_7 (codes "\u{1b}[200~abcde\tx\u{1b}[201~\u{1b}[D\u{1b}[DY\r")
    (codes "abcdeY\tx\n")) {
      shows = Some
          (codes "\r\u{1b}[J\u{1b}[m> \u{1b}[m\u{1b}[m\u{1b}[m\r\u{1b}[J\u{1b}[m> \u{1b}[mabcde " ++
          codes "x\u{1b}[m\u{1b}[m\u{1b}[1D\u{1b}[1D\r\u{1b}[J\u{1b}[m> \u{1b}[mabcdeY        x" ++
          codes "\u{1b}[m\u{1b}[m\u{1b}[9D\u{1b}[9C\r\n\r\u{1b}[J\u{1b}[m> \u{1b}[m\u{1b}[m" ++
          codes "\u{1b}[m\r\n");
    }

-- Paste ␉a␉␉b Pasted Left Left Left Enter = ␉a␉␉b | shows {} {␠␠␠␠␠␠a␠␠␠␠␠␠␠␠␠␠␠␠␠␠␠b} ␛[1D ␛[8D ␛[7D ␛[16C␍␊ {} ␍␊
abbrev pub row_28 : Row
row_28 = record (row 28 settings_7
    (codes "\u{1b}[200~\ta\t\tb\u{1b}[201~\u{1b}[D\u{1b}[D\u{1b}[D\r") (codes "\ta\t\tb\n")) {
      shows = Some
          (codes "\r\u{1b}[J\u{1b}[m> \u{1b}[m\u{1b}[m\u{1b}[m\r\u{1b}[J\u{1b}[m> \u{1b}[m      " ++
          codes "a               b\u{1b}[m\u{1b}[m\u{1b}[1D\u{1b}[8D\u{1b}[7D\u{1b}[16C\r\n\r" ++
          codes "\u{1b}[J\u{1b}[m> \u{1b}[m\u{1b}[m\u{1b}[m\r\n");
    }

-- Paste a␉b Pasted C-W C-Y Enter = a␉b | shows {} {a␠␠␠␠␠b} {a␠␠␠␠␠} {a␠␠␠␠␠b} ␍␊ {} ␍␊
abbrev pub row_31 : Row
row_31 = record (row 31 settings_7 (codes "\u{1b}[200~a\tb\u{1b}[201~\u{17}\u{19}\r")
    (codes "a\tb\n")) {
      shows = Some
          (codes "\r\u{1b}[J\u{1b}[m> \u{1b}[m\u{1b}[m\u{1b}[m\r\u{1b}[J\u{1b}[m> \u{1b}[ma     " ++
          codes "b\u{1b}[m\u{1b}[m\r\u{1b}[J\u{1b}[m> \u{1b}[ma     \u{1b}[m\u{1b}[m\r\u{1b}[J" ++
          codes "\u{1b}[m> \u{1b}[ma     b\u{1b}[m\u{1b}[m\r\n\r\u{1b}[J\u{1b}[m> \u{1b}[m" ++
          codes "\u{1b}[m\u{1b}[m\r\n");
    }

-- Paste a␉b Pasted C-U x Enter = x | shows {} {a␠␠␠␠␠b} {} x ␍␊ {} ␍␊
abbrev pub row_32 : Row
row_32 = record (row 32 settings_7 (codes "\u{1b}[200~a\tb\u{1b}[201~\u{15}x\r") (codes "x\n")) {
  shows = Some
      (codes "\r\u{1b}[J\u{1b}[m> \u{1b}[m\u{1b}[m\u{1b}[m\r\u{1b}[J\u{1b}[m> \u{1b}[ma     " ++
      codes "b\u{1b}[m\u{1b}[m\r\u{1b}[J\u{1b}[m> \u{1b}[m\u{1b}[m\u{1b}[mx\r\n\r\u{1b}[J" ++
      codes "\u{1b}[m> \u{1b}[m\u{1b}[m\u{1b}[m\r\n");
}

-- Paste a␉b Pasted Left Left C-K Enter = a | shows {} {a␠␠␠␠␠b} ␛[1D ␛[5D {a} ␍␊ {} ␍␊
abbrev pub row_33 : Row
row_33 = record (row 33 settings_7 (codes "\u{1b}[200~a\tb\u{1b}[201~\u{1b}[D\u{1b}[D\u{b}\r")
    (codes "a\n")) {
      shows = Some
          (codes "\r\u{1b}[J\u{1b}[m> \u{1b}[m\u{1b}[m\u{1b}[m\r\u{1b}[J\u{1b}[m> \u{1b}[ma     " ++
          codes "b\u{1b}[m\u{1b}[m\u{1b}[1D\u{1b}[5D\r\u{1b}[J\u{1b}[m> \u{1b}[ma\u{1b}[m\u{1b}" ++
          codes "[m\r\n\r\u{1b}[J\u{1b}[m> \u{1b}[m\u{1b}[m\u{1b}[m\r\n");
    }

-- Paste a␉ Pasted C-T Enter = ␉a | shows {} {a␠␠␠␠␠} {␠␠␠␠␠␠a} ␍␊ {} ␍␊
abbrev pub row_34 : Row
row_34 = record (row 34 settings_7 (codes "\u{1b}[200~a\t\u{1b}[201~\u{14}\r") (codes "\ta\n")) {
  shows = Some
      (codes "\r\u{1b}[J\u{1b}[m> \u{1b}[m\u{1b}[m\u{1b}[m\r\u{1b}[J\u{1b}[m> \u{1b}[ma     " ++
      codes "\u{1b}[m\u{1b}[m\r\u{1b}[J\u{1b}[m> \u{1b}[m      a\u{1b}[m\u{1b}[m\r\n\r" ++
      codes "\u{1b}[J\u{1b}[m> \u{1b}[m\u{1b}[m\u{1b}[m\r\n");
}

-- a Paste ␉b␉ Pasted C-_ C-_ Enter = "" | shows {} a {a␠␠␠␠␠b␠␠␠␠␠␠␠} {a} {} ␍␊ {} ␍␊
abbrev pub row_35 : Row
row_35 = record (row 35 settings_7 (codes "a\u{1b}[200~\tb\t\u{1b}[201~\u{1f}\u{1f}\r")
    (codes "\n")) {
      shows = Some
          (codes "\r\u{1b}[J\u{1b}[m> \u{1b}[m\u{1b}[m\u{1b}[ma\r\u{1b}[J\u{1b}[m> \u{1b}[ma    " ++
          codes " b       \u{1b}[m\u{1b}[m\r\u{1b}[J\u{1b}[m> \u{1b}[ma\u{1b}[m\u{1b}[m\r\u{1b}" ++
          codes "[J\u{1b}[m> \u{1b}[m\u{1b}[m\u{1b}[m\r\n\r\u{1b}[J\u{1b}[m> \u{1b}[m\u{1b}[m" ++
          codes "\u{1b}[m\r\n");
    }

-- a C-V Tab b Enter = a␉b | shows {} a {a␠␠␠␠␠} b ␍␊ {} ␍␊
abbrev pub row_38 : Row
row_38 = record (row 38 settings_7 (codes "a\u{16}\tb\r") (codes "a\tb\n")) {
  shows = Some
      (codes "\r\u{1b}[J\u{1b}[m> \u{1b}[m\u{1b}[m\u{1b}[ma\r\u{1b}[J\u{1b}[m> \u{1b}[ma    " ++
      codes " \u{1b}[m\u{1b}[mb\r\n\r\u{1b}[J\u{1b}[m> \u{1b}[m\u{1b}[m\u{1b}[m\r\n");
}

-- Paste a␉b Pasted M-2 x Enter = a␉bxx | shows {} {a␠␠␠␠␠b} ␍␛[J␛[m(arg:␠2)␠␛[ma␠␠␠␠␠␠b␛[m␛[m {a␠␠␠␠␠b} {a␠␠␠␠␠bxx} ␍␊ {} ␍␊
abbrev pub row_39 : Row
row_39 = record (row 39 settings_7 (codes "\u{1b}[200~a\tb\u{1b}[201~\u{1b}2x\r")
    (codes "a\tbxx\n")) {
      shows = Some
          (codes "\r\u{1b}[J\u{1b}[m> \u{1b}[m\u{1b}[m\u{1b}[m\r\u{1b}[J\u{1b}[m> \u{1b}[ma     " ++
          codes "b\u{1b}[m\u{1b}[m\r\u{1b}[J\u{1b}[m(arg: 2) \u{1b}[ma      b\u{1b}[m\u{1b}[m\r" ++
          codes "\u{1b}[J\u{1b}[m> \u{1b}[ma     b\u{1b}[m\u{1b}[m\r\u{1b}[J\u{1b}[m> \u{1b}[ma" ++
          codes "     bxx\u{1b}[m\u{1b}[m\r\n\r\u{1b}[J\u{1b}[m> \u{1b}[m\u{1b}[m\u{1b}[m\r\n");
    }

-- Paste ␉x Pasted C-L Enter = ␉x | shows {} {␠␠␠␠␠␠x} ␛[H␛[J {␠␠␠␠␠␠x} ␍␊ {} ␍␊
abbrev pub row_40 : Row
row_40 = record (row 40 settings_7 (codes "\u{1b}[200~\tx\u{1b}[201~\u{c}\r") (codes "\tx\n")) {
  shows = Some
      (codes "\r\u{1b}[J\u{1b}[m> \u{1b}[m\u{1b}[m\u{1b}[m\r\u{1b}[J\u{1b}[m> \u{1b}[m      " ++
      codes "x\u{1b}[m\u{1b}[m\u{1b}[H\u{1b}[J\r\u{1b}[J\u{1b}[m> \u{1b}[m      x\u{1b}[m" ++
      codes "\u{1b}[m\r\n\r\u{1b}[J\u{1b}[m> \u{1b}[m\u{1b}[m\u{1b}[m\r\n");
}

-- Paste while␠x:␊␉if␠y:␊␉␉break Pasted Up Up Left Down Down x Enter = while␠x:␊␉if␠y:␊␉x␉break | shows {} {while␠x:␍␊␠␠␠␠␠␠␠␠if␠y:␍␊␠␠␠␠␠␠␠␠␠␠␠␠␠␠␠␠break} ␛[1A␛[8D ␛[1A␛[3D ␛[1D ␛[1B ␛[1B␛[1D ␛[2A{while␠x:␍␊␠␠␠␠␠␠␠␠if␠y:␍␊␠␠␠␠␠␠␠␠x␠␠␠␠␠␠␠break}␛[12D ␛[12C␍␊ {} ␍␊
abbrev pub row_43 : Row
row_43 = record (row 43 settings_7
    (codes "\u{1b}[200~while x:\n\tif y:\n\t\tbreak\u{1b}[201~\u{1b}[A\u{1b}[A\u{1b}[D" ++
    codes "\u{1b}[B\u{1b}[Bx\r") (codes "while x:\n\tif y:\n\tx\tbreak\n")) {
      shows = Some
          (codes "\r\u{1b}[J\u{1b}[m> \u{1b}[m\u{1b}[m\u{1b}[m\r\u{1b}[J\u{1b}[m> \u{1b}[mwhile " ++
          codes "x:\r\n        if y:\r\n                break\u{1b}[m\u{1b}[m\u{1b}[1A\u{1b}[8D" ++
          codes "\u{1b}[1A\u{1b}[3D\u{1b}[1D\u{1b}[1B\u{1b}[1B\u{1b}[1D\u{1b}[2A\r\u{1b}[J" ++
          codes "\u{1b}[m> \u{1b}[mwhile x:\r\n        if y:\r\n        x       break\u{1b}[m" ++
          codes "\u{1b}[m\u{1b}[12D\u{1b}[12C\r\n\r\u{1b}[J\u{1b}[m> \u{1b}[m\u{1b}[m\u{1b}[m\r" ++
          codes "\n");
    }

-- Paste a␊␉b Pasted Up Down Enter = a␊␉b | shows {} {a␍␊␠␠␠␠␠␠␠␠b} ␛[1A␛[6D ␛[1B␛[3D ␛[9C␍␊ {} ␍␊
abbrev pub row_44 : Row
row_44 = record (row 44 settings_7 (codes "\u{1b}[200~a\n\tb\u{1b}[201~\u{1b}[A\u{1b}[B\r")
    (codes "a\n\tb\n")) {
      shows = Some
          (codes "\r\u{1b}[J\u{1b}[m> \u{1b}[m\u{1b}[m\u{1b}[m\r\u{1b}[J\u{1b}[m> \u{1b}[ma\r\n " ++
          codes "       b\u{1b}[m\u{1b}[m\u{1b}[1A\u{1b}[6D\u{1b}[1B\u{1b}[3D\u{1b}[9C\r\n\r" ++
          codes "\u{1b}[J\u{1b}[m> \u{1b}[m\u{1b}[m\u{1b}[m\r\n");
    }

-- tabs modal vi
abbrev pub settings_47 : Settings
settings_47 = record plain {
  config = tabs (modal (vi plain.config));
}

-- Paste while␠x:␊␉if␠y:␊␉␉break Pasted Esc kkhjjx Enter = while␠x:␊␉if␠y:␊␉break | shows {} {while␠x:␍␊␠␠␠␠␠␠␠␠if␠y:␍␊␠␠␠␠␠␠␠␠␠␠␠␠␠␠␠␠break} ␛[1D ␛[1A␛[7D ␛[1A␛[3D ␛[1D ␛[1B ␛[1B␛[1D ␛[2A{while␠x:␍␊␠␠␠␠␠␠␠␠if␠y:␍␊␠␠␠␠␠␠␠␠break}␛[5D ␛[5C␍␊ {} ␍␊
abbrev pub row_47 : Row
row_47 = record (row 47 settings_47
    (codes "\u{1b}[200~while x:\n\tif y:\n\t\tbreak\u{1b}[201~\u{1b}kkhjjx\r")
    (codes "while x:\n\tif y:\n\tbreak\n")) {
      shows = Some
          (codes "\r\u{1b}[J\u{1b}[m> \u{1b}[m\u{1b}[m\u{1b}[m\r\u{1b}[J\u{1b}[m> \u{1b}[mwhile " ++
          codes "x:\r\n        if y:\r\n                break\u{1b}[m\u{1b}[m\u{1b}[1D\u{1b}[1A" ++
          codes "\u{1b}[7D\u{1b}[1A\u{1b}[3D\u{1b}[1D\u{1b}[1B\u{1b}[1B\u{1b}[1D\u{1b}[2A\r" ++
          codes "\u{1b}[J\u{1b}[m> \u{1b}[mwhile x:\r\n        if y:\r\n        break\u{1b}[m" ++
          codes "\u{1b}[m\u{1b}[5D\u{1b}[5C\r\n\r\u{1b}[J\u{1b}[m> \u{1b}[m\u{1b}[m\u{1b}[m\r\n");
    }

-- Paste a␉b Pasted Esc 0lrx Enter = axb | shows {} {a␠␠␠␠␠b} ␛[1D ␛[6D ␛[1C {axb}␛[2D ␛[2C␍␊ {} ␍␊
abbrev pub row_48 : Row
row_48 = record (row 48 settings_47 (codes "\u{1b}[200~a\tb\u{1b}[201~\u{1b}0lrx\r")
    (codes "axb\n")) {
      shows = Some
          (codes "\r\u{1b}[J\u{1b}[m> \u{1b}[m\u{1b}[m\u{1b}[m\r\u{1b}[J\u{1b}[m> \u{1b}[ma     " ++
          codes "b\u{1b}[m\u{1b}[m\u{1b}[1D\u{1b}[6D\u{1b}[1C\r\u{1b}[J\u{1b}[m> \u{1b}[maxb" ++
          codes "\u{1b}[m\u{1b}[m\u{1b}[2D\u{1b}[2C\r\n\r\u{1b}[J\u{1b}[m> \u{1b}[m\u{1b}[m" ++
          codes "\u{1b}[m\r\n");
    }

-- tabs modal columns:10
abbrev pub settings_52 : Settings
settings_52 = record plain {
  config = tabs (modal plain.config);
  columns = 10;
}

-- Paste abcdef␉ Pasted x Enter = abcdef␉x | shows {} {abcdef␠␠␍␊} x ␍␊ {} ␍␊
abbrev pub row_52 : Row
row_52 = record (row 52 settings_52 (codes "\u{1b}[200~abcdef\t\u{1b}[201~x\r")
    (codes "abcdef\tx\n")) {
      shows = Some
          (codes "\r\u{1b}[J\u{1b}[m> \u{1b}[m\u{1b}[m\u{1b}[m\r\u{1b}[J\u{1b}[m> \u{1b}[mabcdef" ++
          codes "  \r\n\u{1b}[m\u{1b}[mx\r\n\r\u{1b}[J\u{1b}[m> \u{1b}[m\u{1b}[m\u{1b}[m\r\n");
    }

-- Paste abcdef␉x Pasted Left Left Enter = abcdef␉x | shows {} {abcdef␠␠␍␊x} ␛[1D ␛[1A␛[8C ␛[1B␛[7D␍␊ {} ␍␊
abbrev pub row_53 : Row
row_53 = record (row 53 settings_52 (codes "\u{1b}[200~abcdef\tx\u{1b}[201~\u{1b}[D\u{1b}[D\r")
    (codes "abcdef\tx\n")) {
      shows = Some
          (codes "\r\u{1b}[J\u{1b}[m> \u{1b}[m\u{1b}[m\u{1b}[m\r\u{1b}[J\u{1b}[m> \u{1b}[mabcdef" ++
          codes "  \r\nx\u{1b}[m\u{1b}[m\u{1b}[1D\u{1b}[1A\u{1b}[8C\u{1b}[1B\u{1b}[7D\r\n\r" ++
          codes "\u{1b}[J\u{1b}[m> \u{1b}[m\u{1b}[m\u{1b}[m\r\n");
    }

-- Paste abcdefg␉ Pasted x Enter = abcdefg␉x | shows {} {abcdefg␠␍␊} x ␍␊ {} ␍␊
abbrev pub row_54 : Row
row_54 = record (row 54 settings_52 (codes "\u{1b}[200~abcdefg\t\u{1b}[201~x\r")
    (codes "abcdefg\tx\n")) {
      shows = Some
          (codes "\r\u{1b}[J\u{1b}[m> \u{1b}[m\u{1b}[m\u{1b}[m\r\u{1b}[J\u{1b}[m> \u{1b}[mabcdef" ++
          codes "g \r\n\u{1b}[m\u{1b}[mx\r\n\r\u{1b}[J\u{1b}[m> \u{1b}[m\u{1b}[m\u{1b}[m\r\n");
    }

-- Paste abcdef␉ Pasted Backspace Enter = abcdef | shows {} {abcdef␠␠␍␊} ␛[1A{abcdef} ␍␊ {} ␍␊
abbrev pub row_55 : Row
row_55 = record (row 55 settings_52 (codes "\u{1b}[200~abcdef\t\u{1b}[201~\u{7f}\r")
    (codes "abcdef\n")) {
      shows = Some
          (codes "\r\u{1b}[J\u{1b}[m> \u{1b}[m\u{1b}[m\u{1b}[m\r\u{1b}[J\u{1b}[m> \u{1b}[mabcdef" ++
          codes "  \r\n\u{1b}[m\u{1b}[m\u{1b}[1A\r\u{1b}[J\u{1b}[m> \u{1b}[mabcdef\u{1b}[m" ++
          codes "\u{1b}[m\r\n\r\u{1b}[J\u{1b}[m> \u{1b}[m\u{1b}[m\u{1b}[m\r\n");
    }

-- Paste abcdef␉␊x Pasted Enter = abcdef␉␊x | shows {} {abcdef␠␠␍␊␍␊x} ␍␊ {} ␍␊
abbrev pub row_56 : Row
row_56 = record (row 56 settings_52 (codes "\u{1b}[200~abcdef\t\nx\u{1b}[201~\r")
    (codes "abcdef\t\nx\n")) {
      shows = Some
          (codes "\r\u{1b}[J\u{1b}[m> \u{1b}[m\u{1b}[m\u{1b}[m\r\u{1b}[J\u{1b}[m> \u{1b}[mabcdef" ++
          codes "  \r\n\r\nx\u{1b}[m\u{1b}[m\r\n\r\u{1b}[J\u{1b}[m> \u{1b}[m\u{1b}[m\u{1b}[m\r" ++
          codes "\n");
    }

-- Paste abcdef␉␉x Pasted Enter = abcdef␉␉x | shows {} {abcdef␠␠␍␊␠␠␠␠␠␠␠␠x} ␍␊ {} ␍␊
abbrev pub row_57 : Row
row_57 = record (row 57 settings_52 (codes "\u{1b}[200~abcdef\t\tx\u{1b}[201~\r")
    (codes "abcdef\t\tx\n")) {
      shows = Some
          (codes "\r\u{1b}[J\u{1b}[m> \u{1b}[m\u{1b}[m\u{1b}[m\r\u{1b}[J\u{1b}[m> \u{1b}[mabcdef" ++
          codes "  \r\n        x\u{1b}[m\u{1b}[m\r\n\r\u{1b}[J\u{1b}[m> \u{1b}[m\u{1b}[m\u{1b}[" ++
          codes "m\r\n");
    }

-- Paste abcdefgh␉ Pasted x y Enter = abcdefgh␉xy | shows {} {abcdefgh␍␊␠␠␠␠␠␠␠␠} x ␛[1A{abcdefgh␍␊␠␠␠␠␠␠␠␠xy␍␊} ␍␊ {} ␍␊
abbrev pub row_60 : Row
row_60 = record (row 60 settings_52 (codes "\u{1b}[200~abcdefgh\t\u{1b}[201~xy\r")
    (codes "abcdefgh\txy\n")) {
      shows = Some
          (codes "\r\u{1b}[J\u{1b}[m> \u{1b}[m\u{1b}[m\u{1b}[m\r\u{1b}[J\u{1b}[m> \u{1b}[mabcdef" ++
          codes "gh\r\n        \u{1b}[m\u{1b}[mx\u{1b}[1A\r\u{1b}[J\u{1b}[m> \u{1b}[mabcdefgh\r" ++
          codes "\n        xy\r\n\u{1b}[m\u{1b}[m\r\n\r\u{1b}[J\u{1b}[m> \u{1b}[m\u{1b}[m\u{1b}" ++
          codes "[m\r\n");
    }

-- Paste abcdef␉x␊0123456789A Pasted Up Left Down Up Left Down Enter = abcdef␉x␊0123456789A | shows {} {abcdef␠␠␍␊x␍␊0123456789␍␊A} ␛[2A ␛[1D ␛[2B ␛[2A ␛[1A␛[8C ␛[2B ␛[1B␛[7D␍␊ {} ␍␊
abbrev pub row_63 : Row
row_63 = record (row 63 settings_52
    (codes "\u{1b}[200~abcdef\tx\n0123456789A\u{1b}[201~\u{1b}[A\u{1b}[D\u{1b}[B\u{1b}[A" ++
    codes "\u{1b}[D\u{1b}[B\r") (codes "abcdef\tx\n0123456789A\n")) {
      shows = Some
          (codes "\r\u{1b}[J\u{1b}[m> \u{1b}[m\u{1b}[m\u{1b}[m\r\u{1b}[J\u{1b}[m> \u{1b}[mabcdef" ++
          codes "  \r\nx\r\n0123456789\r\nA\u{1b}[m\u{1b}[m\u{1b}[2A\u{1b}[1D\u{1b}[2B\u{1b}[2A" ++
          codes "\u{1b}[1A\u{1b}[8C\u{1b}[2B\u{1b}[1B\u{1b}[7D\r\n\r\u{1b}[J\u{1b}[m> \u{1b}[m" ++
          codes "\u{1b}[m\u{1b}[m\r\n");
    }

-- tabs modal columns:9
abbrev pub settings_67 : Settings
settings_67 = record plain {
  config = tabs (modal plain.config);
  columns = 9;
}

-- Paste 漢字漢字␉ Pasted x Enter = 漢字漢字␉x | shows {} {␛[m漢␛[m␛[m字␛[m␛[m漢␛[m␍␊␛[m字␛[m␠␠␠␠␠␠} ␛[1A{␛[m漢␛[m␛[m字␛[m␛[m漢␛[m␍␊␛[m字␛[m␠␠␠␠␠␠x␍␊} ␍␊ {} ␍␊
abbrev pub row_67 : Row
row_67 = record (row 67 settings_67 (encode_utf8_all (codes "\u{1b}[200~漢字漢字\t\u{1b}[201~x\r"))
    (encode_utf8_all (codes "漢字漢字\tx\n"))) {
      shows = Some (encode_utf8_all
          (codes "\r\u{1b}[J\u{1b}[m> \u{1b}[m\u{1b}[m\u{1b}[m\r\u{1b}[J\u{1b}[m> \u{1b}[m\u{1b}" ++
          codes "[m漢\u{1b}[m\u{1b}[m字\u{1b}[m\u{1b}[m漢\u{1b}[m\r\n\u{1b}[m字\u{1b}[m      \u{1b}" ++
          codes "[m\u{1b}[m\u{1b}[1A\r\u{1b}[J\u{1b}[m> \u{1b}[m\u{1b}[m漢\u{1b}[m\u{1b}[m字" ++
          codes "\u{1b}[m\u{1b}[m漢\u{1b}[m\r\n\u{1b}[m字\u{1b}[m      x\r\n\u{1b}[m\u{1b}[m\r\n" ++
          codes "\r\u{1b}[J\u{1b}[m> \u{1b}[m\u{1b}[m\u{1b}[m\r\n"));
    }

-- Paste ␉漢 Pasted Left Enter = ␉漢 | shows {} {␠␠␠␠␠␠␍␊␛[m漢␛[m} ␛[1A␛[6C ␛[1B␛[6D␍␊ {} ␍␊
abbrev pub row_68 : Row
row_68 = record (row 68 settings_67 (encode_utf8_all (codes "\u{1b}[200~\t漢\u{1b}[201~\u{1b}[D\r"))
    (encode_utf8_all (codes "\t漢\n"))) {
      shows = Some (encode_utf8_all
          (codes "\r\u{1b}[J\u{1b}[m> \u{1b}[m\u{1b}[m\u{1b}[m\r\u{1b}[J\u{1b}[m> \u{1b}[m      " ++
          codes "\r\n\u{1b}[m漢\u{1b}[m\u{1b}[m\u{1b}[m\u{1b}[1A\u{1b}[6C\u{1b}[1B\u{1b}[6D\r\n" ++
          codes "\r\u{1b}[J\u{1b}[m> \u{1b}[m\u{1b}[m\u{1b}[m\r\n"));
    }

-- tabs stop:4
abbrev pub settings_72 : Settings
settings_72 = record plain {
  config = stopping 4 (tabs plain.config);
}

-- Paste ␉a␉b Pasted Enter = ␉a␉b | shows {} {␠␠a␠␠␠b} ␍␊ {} ␍␊
abbrev pub row_72 : Row
row_72 = record (row 72 settings_72 (codes "\u{1b}[200~\ta\tb\u{1b}[201~\r") (codes "\ta\tb\n")) {
  shows = Some
      (codes "\r\u{1b}[J\u{1b}[m> \u{1b}[m\u{1b}[m\u{1b}[m\r\u{1b}[J\u{1b}[m> \u{1b}[m  a   " ++
      codes "b\u{1b}[m\u{1b}[m\r\n\r\u{1b}[J\u{1b}[m> \u{1b}[m\u{1b}[m\u{1b}[m\r\n");
}

-- Paste a␊␉b Pasted Up Enter = a␊␉b | shows {} {a␍␊␠␠␠␠b} ␛[1A␛[2D ␛[1B␛[2C␍␊ {} ␍␊
abbrev pub row_73 : Row
row_73 = record (row 73 settings_72 (codes "\u{1b}[200~a\n\tb\u{1b}[201~\u{1b}[A\r")
    (codes "a\n\tb\n")) {
      shows = Some
          (codes "\r\u{1b}[J\u{1b}[m> \u{1b}[m\u{1b}[m\u{1b}[m\r\u{1b}[J\u{1b}[m> \u{1b}[ma\r\n " ++
          codes "   b\u{1b}[m\u{1b}[m\u{1b}[1A\u{1b}[2D\u{1b}[1B\u{1b}[2C\r\n\r\u{1b}[J\u{1b}[m" ++
          codes "> \u{1b}[m\u{1b}[m\u{1b}[m\r\n");
    }

-- tabs stop:1
abbrev pub settings_76 : Settings
settings_76 = record plain {
  config = stopping 1 (tabs plain.config);
}

-- Paste ␉a␉ Pasted x Enter = ␉a␉x | shows {} {␠a␠} x ␍␊ {} ␍␊
abbrev pub row_76 : Row
row_76 = record (row 76 settings_76 (codes "\u{1b}[200~\ta\t\u{1b}[201~x\r") (codes "\ta\tx\n")) {
  shows = Some (codes "\r\u{1b}[J\u{1b}[m> \u{1b}[m\u{1b}[m\u{1b}[m\r\u{1b}[J\u{1b}[m> \u{1b}[m a "
      ++ codes "\u{1b}[m\u{1b}[mx\r\n\r\u{1b}[J\u{1b}[m> \u{1b}[m\u{1b}[m\u{1b}[m\r\n");
}

-- tabs stop:0
abbrev pub settings_79 : Settings
settings_79 = record plain {
  config = stopping 0 (tabs plain.config);
}

-- Paste ␉a␉ Pasted x Enter = ␉a␉x | shows {} {␠a␠} x ␍␊ {} ␍␊
abbrev pub row_79 : Row
row_79 = record (row 79 settings_79 (codes "\u{1b}[200~\ta\t\u{1b}[201~x\r") (codes "\ta\tx\n")) {
  shows = Some (codes "\r\u{1b}[J\u{1b}[m> \u{1b}[m\u{1b}[m\u{1b}[m\r\u{1b}[J\u{1b}[m> \u{1b}[m a "
      ++ codes "\u{1b}[m\u{1b}[mx\r\n\r\u{1b}[J\u{1b}[m> \u{1b}[m\u{1b}[m\u{1b}[m\r\n");
}

-- Paste a␊␉b Pasted Up Enter = a␊␉b | shows {} {a␍␊␠b} ␛[1A ␛[1B␍␊ {} ␍␊
abbrev pub row_80 : Row
row_80 = record (row 80 settings_79 (codes "\u{1b}[200~a\n\tb\u{1b}[201~\u{1b}[A\r")
    (codes "a\n\tb\n")) {
      shows = Some
          (codes "\r\u{1b}[J\u{1b}[m> \u{1b}[m\u{1b}[m\u{1b}[m\r\u{1b}[J\u{1b}[m> \u{1b}[ma\r\n " ++
          codes "b\u{1b}[m\u{1b}[m\u{1b}[1A\u{1b}[1B\r\n\r\u{1b}[J\u{1b}[m> \u{1b}[m\u{1b}[m" ++
          codes "\u{1b}[m\r\n");
    }

-- tabs stop:255
abbrev pub settings_83 : Settings
settings_83 = record plain {
  config = stopping 255 (tabs plain.config);
}

-- Paste ␉ Pasted x Enter = ␉x | shows {} {‹78*␠›␍␊} x ␍␊ {} ␍␊
abbrev pub row_83 : Row
row_83 = record (row 83 settings_83 (codes "\u{1b}[200~\t\u{1b}[201~x\r") (codes "\tx\n")) {
  shows = Some (codes "\r\u{1b}[J\u{1b}[m> \u{1b}[m\u{1b}[m\u{1b}[m\r\u{1b}[J\u{1b}[m> \u{1b}[m" ++
      replicate 78 32 ++
      codes "\r\n\u{1b}[m\u{1b}[mx\r\n\r\u{1b}[J\u{1b}[m> \u{1b}[m\u{1b}[m\u{1b}[m\r\n");
}

-- tabs stop:120 columns:130
abbrev pub settings_86 : Settings
settings_86 = record plain {
  config = stopping 120 (tabs plain.config);
  columns = 130;
}

-- Paste ␉x Pasted Enter = ␉x | shows {} {‹118*␠›x} ␍␊ {} ␍␊
abbrev pub row_86 : Row
row_86 = record (row 86 settings_86 (codes "\u{1b}[200~\tx\u{1b}[201~\r") (codes "\tx\n")) {
  shows = Some (codes "\r\u{1b}[J\u{1b}[m> \u{1b}[m\u{1b}[m\u{1b}[m\r\u{1b}[J\u{1b}[m> \u{1b}[m" ++
      replicate 118 32 ++
      codes "x\u{1b}[m\u{1b}[m\r\n\r\u{1b}[J\u{1b}[m> \u{1b}[m\u{1b}[m\u{1b}[m\r\n");
}

-- tabs helped loaded:#V2␊a␉bc␊
abbrev pub settings_93 : Settings
settings_93 = record plain {
  config = tabs plain.config;
  helping = aide true None;
  loaded = codes "#V2\na\tbc\n";
}

-- a Right Enter = a␉bc | shows {} {a␛[m␠␠␠␠␠bc␛[m␛[7D {a␠␠␠␠␠bc} ␍␊ {} ␍␊
abbrev pub row_93 : Row
row_93 = record (row 93 settings_93 (codes "a\u{1b}[C\r") (codes "a\tbc\n")) {
  shows = Some (codes "\r\u{1b}[J\u{1b}[m> \u{1b}[m\u{1b}[m\u{1b}[m\r\u{1b}[J\u{1b}[m> \u{1b}[ma" ++
      codes "\u{1b}[m     bc\u{1b}[m\u{1b}[7D\r\u{1b}[J\u{1b}[m> \u{1b}[ma     bc\u{1b}[m" ++
      codes "\u{1b}[m\r\n\r\u{1b}[J\u{1b}[m> \u{1b}[m\u{1b}[m\u{1b}[m\r\n");
}

-- tabs prompt:in␉>
abbrev pub settings_100 : Settings
settings_100 = record plain {
  config = tabs plain.config;
  prompt = codes "in\t>";
}

-- a Paste ␉ Pasted Enter = a␉ | shows ␍␛[J␛[min␠␠␠␠␠␠>␛[m␛[m␛[m a ␍␛[J␛[min␠␠␠␠␠␠>␛[ma␠␠␠␠␠␠␛[m␛[m ␍␊ ␍␛[J␛[min␠␠␠␠␠␠>␛[m␛[m␛[m ␍␊
abbrev pub row_100 : Row
row_100 = record (row 100 settings_100 (codes "a\u{1b}[200~\t\u{1b}[201~\r") (codes "a\t\n")) {
  shows = Some
      (codes "\r\u{1b}[J\u{1b}[min      >\u{1b}[m\u{1b}[m\u{1b}[ma\r\u{1b}[J\u{1b}[min      " ++
      codes ">\u{1b}[ma      \u{1b}[m\u{1b}[m\r\n\r\u{1b}[J\u{1b}[min      >\u{1b}[m\u{1b}[" ++
      codes "m\u{1b}[m\r\n");
}

-- Paste a␊bcdefghijkl Pasted Up Enter = a␊bcdefghijkl | shows ␍␛[J␛[min␠␠␠␠␠␠>␛[m␛[m␛[m ␍␛[J␛[min␠␠␠␠␠␠>␛[ma␍␊bcdefghijkl␛[m␛[m ␛[1A␛[1D ␛[1B␛[1C␍␊ ␍␛[J␛[min␠␠␠␠␠␠>␛[m␛[m␛[m ␍␊
abbrev pub row_101 : Row
row_101 = record (row 101 settings_100 (codes "\u{1b}[200~a\nbcdefghijkl\u{1b}[201~\u{1b}[A\r")
    (codes "a\nbcdefghijkl\n")) {
      shows = Some
          (codes "\r\u{1b}[J\u{1b}[min      >\u{1b}[m\u{1b}[m\u{1b}[m\r\u{1b}[J\u{1b}[min      >" ++
          codes "\u{1b}[ma\r\nbcdefghijkl\u{1b}[m\u{1b}[m\u{1b}[1A\u{1b}[1D\u{1b}[1B\u{1b}[1C\r" ++
          codes "\n\r\u{1b}[J\u{1b}[min      >\u{1b}[m\u{1b}[m\u{1b}[m\r\n");
    }

-- tabs modal loaded:#V2␊a␉b␊
abbrev pub settings_105 : Settings
settings_105 = record plain {
  config = tabs (modal plain.config);
  loaded = codes "#V2\na\tb\n";
}

-- C-R C-V Tab Enter = a␉b | shows {} ''} '␠␠␠␠␠'a␠␠␠␠b}␛[5D {a␠␠␠␠␠b}␛[6D ␛[6C␍␊ {} ␍␊
abbrev pub row_105 : Row
row_105 = record (row 105 settings_105 (codes "\u{12}\u{16}\t\r") (codes "a\tb\n")) {
  shows = Some
      (codes "\r\u{1b}[J\u{1b}[m> \u{1b}[m\u{1b}[m\u{1b}[m\r\u{1b}[J\u{1b}[m(reverse-i-searc" ++
      codes "h)`': \u{1b}[m\u{1b}[m\u{1b}[m\r\u{1b}[J\u{1b}[m(reverse-i-search)`     ': " ++
      codes "\u{1b}[ma    b\u{1b}[m\u{1b}[m\u{1b}[5D\r\u{1b}[J\u{1b}[m> \u{1b}[ma     b" ++
      codes "\u{1b}[m\u{1b}[m\u{1b}[6D\u{1b}[6C\r\n\r\u{1b}[J\u{1b}[m> \u{1b}[m\u{1b}[m" ++
      codes "\u{1b}[m\r\n");
}

-- C-R b Enter = a␉b | shows {} ''} 'b'a␠␠␠␠␠␠␠␠b}␛[1D {a␠␠␠␠␠b}␛[1D ␛[1C␍␊ {} ␍␊
abbrev pub row_106 : Row
row_106 = record (row 106 settings_105 (codes "\u{12}b\r") (codes "a\tb\n")) {
  shows = Some
      (codes "\r\u{1b}[J\u{1b}[m> \u{1b}[m\u{1b}[m\u{1b}[m\r\u{1b}[J\u{1b}[m(reverse-i-searc" ++
      codes "h)`': \u{1b}[m\u{1b}[m\u{1b}[m\r\u{1b}[J\u{1b}[m(reverse-i-search)`b': \u{1b}[" ++
      codes "ma        b\u{1b}[m\u{1b}[m\u{1b}[1D\r\u{1b}[J\u{1b}[m> \u{1b}[ma     b\u{1b}[" ++
      codes "m\u{1b}[m\u{1b}[1D\u{1b}[1C\r\n\r\u{1b}[J\u{1b}[m> \u{1b}[m\u{1b}[m\u{1b}[m\r" ++
      codes "\n");
}

-- C-R b C-G x Enter = x | shows {} ''} 'b'a␠␠␠␠␠␠␠␠b}␛[1D {} x ␍␊ {} ␍␊
abbrev pub row_107 : Row
row_107 = record (row 107 settings_105 (codes "\u{12}b\u{7}x\r") (codes "x\n")) {
  shows = Some
      (codes "\r\u{1b}[J\u{1b}[m> \u{1b}[m\u{1b}[m\u{1b}[m\r\u{1b}[J\u{1b}[m(reverse-i-searc" ++
      codes "h)`': \u{1b}[m\u{1b}[m\u{1b}[m\r\u{1b}[J\u{1b}[m(reverse-i-search)`b': \u{1b}[" ++
      codes "ma        b\u{1b}[m\u{1b}[m\u{1b}[1D\r\u{1b}[J\u{1b}[m> \u{1b}[m\u{1b}[m\u{1b}" ++
      codes "[mx\r\n\r\u{1b}[J\u{1b}[m> \u{1b}[m\u{1b}[m\u{1b}[m\r\n");
}

-- C-P c Enter = a␉bc | shows {} {a␠␠␠␠␠b} c ␍␊ {} ␍␊
abbrev pub row_108 : Row
row_108 = record (row 108 settings_105 (codes "\u{10}c\r") (codes "a\tbc\n")) {
  shows = Some
      (codes "\r\u{1b}[J\u{1b}[m> \u{1b}[m\u{1b}[m\u{1b}[m\r\u{1b}[J\u{1b}[m> \u{1b}[ma     " ++
      codes "b\u{1b}[m\u{1b}[mc\r\n\r\u{1b}[J\u{1b}[m> \u{1b}[m\u{1b}[m\u{1b}[m\r\n");
}

-- a Up Enter = a␉b | shows {} a {a␠␠␠␠␠b}␛[6D ␛[6C␍␊ {} ␍␊
abbrev pub row_109 : Row
row_109 = record (row 109 settings_105 (codes "a\u{1b}[A\r") (codes "a\tb\n")) {
  shows = Some
      (codes "\r\u{1b}[J\u{1b}[m> \u{1b}[m\u{1b}[m\u{1b}[ma\r\u{1b}[J\u{1b}[m> \u{1b}[ma    " ++
      codes " b\u{1b}[m\u{1b}[m\u{1b}[6D\u{1b}[6C\r\n\r\u{1b}[J\u{1b}[m> \u{1b}[m\u{1b}[m" ++
      codes "\u{1b}[m\r\n");
}

-- tabs adding
abbrev pub settings_112 : Settings
settings_112 = record plain {
  config = tabs (adding plain.config);
}

-- Paste a␉b Pasted Enter C-P Enter = a␉b a␉b | saves #V2␊a␉b␊ | shows {} {a␠␠␠␠␠b} ␍␊ {} {a␠␠␠␠␠b} ␍␊ {} ␍␊
abbrev pub row_112 : Row
row_112 = record (row 112 settings_112 (codes "\u{1b}[200~a\tb\u{1b}[201~\r\u{10}\r")
    (codes "a\tb\na\tb\n")) {
      saves = Some (codes "#V2\na\tb\n");
      shows = Some
          (codes "\r\u{1b}[J\u{1b}[m> \u{1b}[m\u{1b}[m\u{1b}[m\r\u{1b}[J\u{1b}[m> \u{1b}[ma     " ++
          codes "b\u{1b}[m\u{1b}[m\r\n\r\u{1b}[J\u{1b}[m> \u{1b}[m\u{1b}[m\u{1b}[m\r\u{1b}[J" ++
          codes "\u{1b}[m> \u{1b}[ma     b\u{1b}[m\u{1b}[m\r\n\r\u{1b}[J\u{1b}[m> \u{1b}[m" ++
          codes "\u{1b}[m\u{1b}[m\r\n");
    }

-- tabs clusters:WcWidth
abbrev pub settings_116 : Settings
settings_116 = record plain {
  config = counting WcWidth (tabs plain.config);
}

-- Paste a␉b␊0123456789 Pasted Up Enter = a␉b␊0123456789 | shows {} {a␠␠␠␠␠b␍␊0123456789} ␛[1A␛[1D ␛[1B␛[1C␍␊ {} ␍␊
abbrev pub row_116 : Row
row_116 = record (row 116 settings_116 (codes "\u{1b}[200~a\tb\n0123456789\u{1b}[201~\u{1b}[A\r")
    (codes "a\tb\n0123456789\n")) {
      shows = Some
          (codes "\r\u{1b}[J\u{1b}[m> \u{1b}[m\u{1b}[m\u{1b}[m\r\u{1b}[J\u{1b}[m> \u{1b}[ma     " ++
          codes "b\r\n0123456789\u{1b}[m\u{1b}[m\u{1b}[1A\u{1b}[1D\u{1b}[1B\u{1b}[1C\r\n\r" ++
          codes "\u{1b}[J\u{1b}[m> \u{1b}[m\u{1b}[m\u{1b}[m\r\n");
    }

-- tabs clusters:NoZwj
abbrev pub settings_119 : Settings
settings_119 = record plain {
  config = counting NoZwj (tabs plain.config);
}

-- Paste a␉b␊0123456789 Pasted Up Enter = a␉b␊0123456789 | shows {} {a␠␠␠␠␠b␍␊0123456789} ␛[1A␛[1D ␛[1B␛[1C␍␊ {} ␍␊
abbrev pub row_119 : Row
row_119 = record (row 119 settings_119 (codes "\u{1b}[200~a\tb\n0123456789\u{1b}[201~\u{1b}[A\r")
    (codes "a\tb\n0123456789\n")) {
      shows = Some
          (codes "\r\u{1b}[J\u{1b}[m> \u{1b}[m\u{1b}[m\u{1b}[m\r\u{1b}[J\u{1b}[m> \u{1b}[ma     " ++
          codes "b\r\n0123456789\u{1b}[m\u{1b}[m\u{1b}[1A\u{1b}[1D\u{1b}[1B\u{1b}[1C\r\n\r" ++
          codes "\u{1b}[J\u{1b}[m> \u{1b}[m\u{1b}[m\u{1b}[m\r\n");
    }

-- tabs colours modal helped partial
abbrev pub settings_137 : Settings
settings_137 = record plain {
  config = partial (tabs (colours (modal plain.config)));
  helping = aide true None;
}

-- Paste (␉) Pasted Enter = (␉) | shows {} ␛[J␛[0;1;34m(␛[m␠␠␠␠␠) {(␠␠␠␠␠)} ␍␊ {} ␍␊
abbrev pub row_137 : Row
row_137 = record (row 137 settings_137 (codes "\u{1b}[200~(\t)\u{1b}[201~\r") (codes "(\t)\n")) {
  shows = Some
      (codes "\r\u{1b}[J\u{1b}[m> \u{1b}[m\u{1b}[m\u{1b}[m\u{1b}[J\u{1b}[0;1;34m(\u{1b}[m   " ++
      codes "  )\r\u{1b}[J\u{1b}[m> \u{1b}[m(     )\u{1b}[m\u{1b}[m\r\n\r\u{1b}[J\u{1b}[m> " ++
      codes "\u{1b}[m\u{1b}[m\u{1b}[m\r\n");
}

-- Paste a␉ Pasted ( x Enter ) Enter = a␉(x␊) | shows {} ␛[Ja␠␠␠␠␠ ( x ␛[J␍␊ ␛[1A{a␠␠␠␠␠␛[0;1;34m(␛[mx␍␊)} ␛[1A{a␠␠␠␠␠(x␍␊)} ␍␊ {} ␍␊
abbrev pub row_138 : Row
row_138 = record (row 138 settings_137 (codes "\u{1b}[200~a\t\u{1b}[201~(x\r)\r")
    (codes "a\t(x\n)\n")) {
      shows = Some
          (codes "\r\u{1b}[J\u{1b}[m> \u{1b}[m\u{1b}[m\u{1b}[m\u{1b}[Ja     (x\u{1b}[J\r\n\u{1b}" ++
          codes "[1A\r\u{1b}[J\u{1b}[m> \u{1b}[ma     \u{1b}[0;1;34m(\u{1b}[mx\r\n)\u{1b}[m" ++
          codes "\u{1b}[m\u{1b}[1A\r\u{1b}[J\u{1b}[m> \u{1b}[ma     (x\r\n)\u{1b}[m\u{1b}[m\r\n" ++
          codes "\r\u{1b}[J\u{1b}[m> \u{1b}[m\u{1b}[m\u{1b}[m\r\n");
    }

-- Paste a␉b Pasted x Enter = a␉bx | shows {} {a␛[m?␛[mb} {a␛[m?␛[mbx} ␍␊ {} ␍␊
abbrev pub row_142 : Row
row_142 = record (row 142 plain (codes "\u{1b}[200~a\tb\u{1b}[201~x\r") (codes "a\tbx\n")) {
  shows = Some (codes "\r\u{1b}[J\u{1b}[m> \u{1b}[m\u{1b}[m\u{1b}[m\r\u{1b}[J\u{1b}[m> \u{1b}[ma" ++
      codes "\u{1b}[m?\u{1b}[mb\u{1b}[m\u{1b}[m\r\u{1b}[J\u{1b}[m> \u{1b}[ma\u{1b}[m?\u{1b}" ++
      codes "[mbx\u{1b}[m\u{1b}[m\r\n\r\u{1b}[J\u{1b}[m> \u{1b}[m\u{1b}[m\u{1b}[m\r\n");
}

-- Paste while␠x:␊␉if␠y:␊␉␉break Pasted Up Up Left Down Down x Enter = while␠x:␊␉if␠y:␊␉␉brexak | shows {} {while␠x:␍␊␛[m?␛[mif␠y:␍␊␛[m?␛[m␛[m?␛[mbreak} ␛[1A␛[1D ␛[1A ␛[1D ␛[1B ␛[1B ␛[2A{while␠x:␍␊␛[m?␛[mif␠y:␍␊␛[m?␛[m␛[m?␛[mbrexak}␛[2D ␛[2C␍␊ {} ␍␊
abbrev pub row_143 : Row
row_143 = record (row 143 plain
    (codes "\u{1b}[200~while x:\n\tif y:\n\t\tbreak\u{1b}[201~\u{1b}[A\u{1b}[A\u{1b}[D" ++
    codes "\u{1b}[B\u{1b}[Bx\r") (codes "while x:\n\tif y:\n\t\tbrexak\n")) {
      shows = Some
          (codes "\r\u{1b}[J\u{1b}[m> \u{1b}[m\u{1b}[m\u{1b}[m\r\u{1b}[J\u{1b}[m> \u{1b}[mwhile " ++
          codes "x:\r\n\u{1b}[m?\u{1b}[mif y:\r\n\u{1b}[m?\u{1b}[m\u{1b}[m?\u{1b}[mbreak\u{1b}[" ++
          codes "m\u{1b}[m\u{1b}[1A\u{1b}[1D\u{1b}[1A\u{1b}[1D\u{1b}[1B\u{1b}[1B\u{1b}[2A\r" ++
          codes "\u{1b}[J\u{1b}[m> \u{1b}[mwhile x:\r\n\u{1b}[m?\u{1b}[mif y:\r\n\u{1b}[m?" ++
          codes "\u{1b}[m\u{1b}[m?\u{1b}[mbrexak\u{1b}[m\u{1b}[m\u{1b}[2D\u{1b}[2C\r\n\r\u{1b}[" ++
          codes "J\u{1b}[m> \u{1b}[m\u{1b}[m\u{1b}[m\r\n");
    }

-- stop:4
abbrev pub settings_146 : Settings
settings_146 = record plain {
  config = stopping 4 plain.config;
}

-- Paste ␉ Pasted x Enter = ␉x | shows {} {␛[m?␛[m} {␛[m?␛[mx} ␍␊ {} ␍␊
abbrev pub row_146 : Row
row_146 = record (row 146 settings_146 (codes "\u{1b}[200~\t\u{1b}[201~x\r") (codes "\tx\n")) {
  shows = Some
      (codes "\r\u{1b}[J\u{1b}[m> \u{1b}[m\u{1b}[m\u{1b}[m\r\u{1b}[J\u{1b}[m> \u{1b}[m\u{1b}" ++
      codes "[m?\u{1b}[m\u{1b}[m\u{1b}[m\r\u{1b}[J\u{1b}[m> \u{1b}[m\u{1b}[m?\u{1b}[mx" ++
      codes "\u{1b}[m\u{1b}[m\r\n\r\u{1b}[J\u{1b}[m> \u{1b}[m\u{1b}[m\u{1b}[m\r\n");
}

-- columns:10
abbrev pub settings_149 : Settings
settings_149 = record plain {
  columns = 10;
}

-- Paste abcdef␉x Pasted Enter = abcdef␉x | shows {} {abcdef␛[m?␛[mx␍␊} ␍␊ {} ␍␊
abbrev pub row_149 : Row
row_149 = record (row 149 settings_149 (codes "\u{1b}[200~abcdef\tx\u{1b}[201~\r")
    (codes "abcdef\tx\n")) {
      shows = Some
          (codes "\r\u{1b}[J\u{1b}[m> \u{1b}[m\u{1b}[m\u{1b}[m\r\u{1b}[J\u{1b}[m> \u{1b}[mabcdef" ++
          codes "\u{1b}[m?\u{1b}[mx\r\n\u{1b}[m\u{1b}[m\r\n\r\u{1b}[J\u{1b}[m> \u{1b}[m\u{1b}[m" ++
          codes "\u{1b}[m\r\n");
    }

-- prompt:in␉>
abbrev pub settings_152 : Settings
settings_152 = record plain {
  prompt = codes "in\t>";
}

-- a Enter = a | shows ␍␛[J␛[min␛[m?␛[m>␛[m␛[m␛[m a ␍␊ ␍␛[J␛[min␛[m?␛[m>␛[m␛[m␛[m ␍␊
abbrev pub row_152 : Row
row_152 = record (row 152 settings_152 (codes "a\r") (codes "a\n")) {
  shows = Some
      (codes "\r\u{1b}[J\u{1b}[min\u{1b}[m?\u{1b}[m>\u{1b}[m\u{1b}[m\u{1b}[ma\r\n\r\u{1b}[J" ++
      codes "\u{1b}[min\u{1b}[m?\u{1b}[m>\u{1b}[m\u{1b}[m\u{1b}[m\r\n");
}

-- modal loaded:#V2␊a␉b␊
abbrev pub settings_155 : Settings
settings_155 = record plain {
  config = modal plain.config;
  loaded = codes "#V2\na\tb\n";
}

-- C-P Enter = a␉b | shows {} {a␛[m?␛[mb} ␍␊ {} ␍␊
abbrev pub row_155 : Row
row_155 = record (row 155 settings_155 (codes "\u{10}\r") (codes "a\tb\n")) {
  shows = Some (codes "\r\u{1b}[J\u{1b}[m> \u{1b}[m\u{1b}[m\u{1b}[m\r\u{1b}[J\u{1b}[m> \u{1b}[ma" ++
      codes "\u{1b}[m?\u{1b}[mb\u{1b}[m\u{1b}[m\r\n\r\u{1b}[J\u{1b}[m> \u{1b}[m\u{1b}[m" ++
      codes "\u{1b}[m\r\n");
}

-- tabs columns:2
abbrev pub settings_159 : Settings
settings_159 = record plain {
  config = tabs plain.config;
  columns = 2;
}

-- Paste ␉ Pasted = nothing | shows ␍␛[J␛[m>␠␍␊␛[m␛[m␛[m ␛[1A␍␛[J␛[m>␠␍␊␛[m␠␠␍␊␛[m␛[m ␍␊
abbrev pub row_159 : Row
row_159 = record (row 159 settings_159 (codes "\u{1b}[200~\t\u{1b}[201~") []) {
  shows = Some
      (codes "\r\u{1b}[J\u{1b}[m> \r\n\u{1b}[m\u{1b}[m\u{1b}[m\u{1b}[1A\r\u{1b}[J\u{1b}[m> " ++
      codes "\r\n\u{1b}[m  \r\n\u{1b}[m\u{1b}[m\r\n");
}

abbrev pub tabs_rows : List Row
tabs_rows = row_7 ∷ row_8 ∷ row_9 ∷ row_10 ∷ row_13 ∷ row_14 ∷ row_15 ∷ row_18 ∷ row_19 ∷ row_22 ∷
    row_23 ∷ row_26 ∷ row_27 ∷ row_28 ∷ row_31 ∷ row_32 ∷ row_33 ∷ row_34 ∷ row_35 ∷ row_38 ∷ row_39
    ∷ row_40 ∷ row_43 ∷ row_44 ∷ row_47 ∷ row_48 ∷ row_52 ∷ row_53 ∷ row_54 ∷ row_55 ∷ row_56 ∷
    row_57 ∷ row_60 ∷ row_63 ∷ row_67 ∷ row_68 ∷ row_72 ∷ row_73 ∷ row_76 ∷ row_79 ∷ row_80 ∷ row_83
    ∷ row_86 ∷ row_93 ∷ row_100 ∷ row_101 ∷ row_105 ∷ row_106 ∷ row_107 ∷ row_108 ∷ row_109 ∷
    row_112 ∷ row_116 ∷ row_119 ∷ row_137 ∷ row_138 ∷ row_142 ∷ row_143 ∷ row_146 ∷ row_149 ∷
    row_152 ∷ row_155 ∷ row_159 ∷ []
