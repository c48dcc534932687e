-- The rows of candidates.txt; tests/definition/worked_rows.py writes them.
use Rattle.line_config.specs.declared.errors.ReadlineError.TheVariants.{Interrupted}
use Rattle.std.specs.Prelude.{List, [], ◌∷◌, ◌++◌, None, Some, true, false, codes, encode_utf8_all}
use Rattle.worked_rows.specs.Playing.{Row, row}
use Rattle.worked_rows.specs.Settings.{Settings, aide, aide_ending, at_once, limited, listed, modal, partial, plain, vi}

-- modal partial listed words:alpha,alpine
abbrev pub settings_7 : Settings
settings_7 = record plain {
  config = listed (partial (modal plain.config));
  helping = aide false (Some ((codes "alpha") ∷ (codes "alpine") ∷ []));
}

-- al Tab Enter = alp | shows {} a l {alp} ␍␊ {} ␍␊
abbrev pub row_7 : Row
row_7 = record (row 7 settings_7 (codes "al\t\r") (codes "alp\n")) {
  shows = Some
      (codes "\r\u{1b}[J\u{1b}[m> \u{1b}[m\u{1b}[m\u{1b}[mal\r\u{1b}[J\u{1b}[m> \u{1b}[malp" ++
      codes "\u{1b}[m\u{1b}[m\r\n\r\u{1b}[J\u{1b}[m> \u{1b}[m\u{1b}[m\u{1b}[m\r\n");
}

-- al Tab Tab Enter = alp | shows {} a l {alp} {alp␛[m␍␊alpha␍␊alpine␛[m␛[2A␛[1D {alp} ␍␊ {} ␍␊
abbrev pub row_8 : Row
row_8 = record (row 8 settings_7 (codes "al\t\t\r") (codes "alp\n")) {
  shows = Some
      (codes "\r\u{1b}[J\u{1b}[m> \u{1b}[m\u{1b}[m\u{1b}[mal\r\u{1b}[J\u{1b}[m> \u{1b}[malp" ++
      codes "\u{1b}[m\u{1b}[m\r\u{1b}[J\u{1b}[m> \u{1b}[malp\u{1b}[m\r\nalpha\r\nalpine" ++
      codes "\u{1b}[m\u{1b}[2A\u{1b}[1D\r\u{1b}[J\u{1b}[m> \u{1b}[malp\u{1b}[m\u{1b}[m\r\n" ++
      codes "\r\u{1b}[J\u{1b}[m> \u{1b}[m\u{1b}[m\u{1b}[m\r\n");
}

-- alp Tab Enter = alp | shows {} a l p ␇ ␍␊ {} ␍␊
abbrev pub row_9 : Row
row_9 = record (row 9 settings_7 (codes "alp\t\r") (codes "alp\n")) {
  shows = Some (codes "\r\u{1b}[J\u{1b}[m> \u{1b}[m\u{1b}[m\u{1b}[malp\u{7}\r\n\r\u{1b}[J\u{1b}[m> "
      ++ codes "\u{1b}[m\u{1b}[m\u{1b}[m\r\n");
}

-- alp Tab Tab Enter = alp | shows {} a l p ␇ {alp␛[m␍␊alpha␍␊alpine␛[m␛[2A␛[1D {alp} ␍␊ {} ␍␊
abbrev pub row_10 : Row
row_10 = record (row 10 settings_7 (codes "alp\t\t\r") (codes "alp\n")) {
  shows = Some
      (codes "\r\u{1b}[J\u{1b}[m> \u{1b}[m\u{1b}[m\u{1b}[malp\u{7}\r\u{1b}[J\u{1b}[m> \u{1b}" ++
      codes "[malp\u{1b}[m\r\nalpha\r\nalpine\u{1b}[m\u{1b}[2A\u{1b}[1D\r\u{1b}[J\u{1b}[m> " ++
      codes "\u{1b}[malp\u{1b}[m\u{1b}[m\r\n\r\u{1b}[J\u{1b}[m> \u{1b}[m\u{1b}[m\u{1b}[m\r" ++
      codes "\n");
}

-- alp Tab Tab Tab Enter = alp | shows {} a l p ␇ {alp␛[m␍␊alpha␍␊alpine␛[m␛[2A␛[1D {alp␛[m␍␊alpha␍␊alpine␛[m␛[2A␛[1D {alp} ␍␊ {} ␍␊
abbrev pub row_11 : Row
row_11 = record (row 11 settings_7 (codes "alp\t\t\t\r") (codes "alp\n")) {
  shows = Some
      (codes "\r\u{1b}[J\u{1b}[m> \u{1b}[m\u{1b}[m\u{1b}[malp\u{7}\r\u{1b}[J\u{1b}[m> \u{1b}" ++
      codes "[malp\u{1b}[m\r\nalpha\r\nalpine\u{1b}[m\u{1b}[2A\u{1b}[1D\r\u{1b}[J\u{1b}[m> " ++
      codes "\u{1b}[malp\u{1b}[m\r\nalpha\r\nalpine\u{1b}[m\u{1b}[2A\u{1b}[1D\r\u{1b}[J" ++
      codes "\u{1b}[m> \u{1b}[malp\u{1b}[m\u{1b}[m\r\n\r\u{1b}[J\u{1b}[m> \u{1b}[m\u{1b}[m" ++
      codes "\u{1b}[m\r\n");
}

-- Tab Tab Enter = alp | shows {} {alp} {alp␛[m␍␊alpha␍␊alpine␛[m␛[2A␛[1D {alp} ␍␊ {} ␍␊
abbrev pub row_12 : Row
row_12 = record (row 12 settings_7 (codes "\t\t\r") (codes "alp\n")) {
  shows = Some (codes "\r\u{1b}[J\u{1b}[m> \u{1b}[m\u{1b}[m\u{1b}[m\r\u{1b}[J\u{1b}[m> \u{1b}[malp"
      ++ codes "\u{1b}[m\u{1b}[m\r\u{1b}[J\u{1b}[m> \u{1b}[malp\u{1b}[m\r\nalpha\r\nalpine" ++
      codes "\u{1b}[m\u{1b}[2A\u{1b}[1D\r\u{1b}[J\u{1b}[m> \u{1b}[malp\u{1b}[m\u{1b}[m\r\n" ++
      codes "\r\u{1b}[J\u{1b}[m> \u{1b}[m\u{1b}[m\u{1b}[m\r\n");
}

-- alp Tab Tab h Enter = alph | shows {} a l p ␇ {alp␛[m␍␊alpha␍␊alpine␛[m␛[2A␛[1D {alp} h ␍␊ {} ␍␊
abbrev pub row_13 : Row
row_13 = record (row 13 settings_7 (codes "alp\t\th\r") (codes "alph\n")) {
  shows = Some
      (codes "\r\u{1b}[J\u{1b}[m> \u{1b}[m\u{1b}[m\u{1b}[malp\u{7}\r\u{1b}[J\u{1b}[m> \u{1b}" ++
      codes "[malp\u{1b}[m\r\nalpha\r\nalpine\u{1b}[m\u{1b}[2A\u{1b}[1D\r\u{1b}[J\u{1b}[m> " ++
      codes "\u{1b}[malp\u{1b}[m\u{1b}[mh\r\n\r\u{1b}[J\u{1b}[m> \u{1b}[m\u{1b}[m\u{1b}[m\r" ++
      codes "\n");
}

-- alp Tab Tab h Tab Enter = alpha | shows {} a l p ␇ {alp␛[m␍␊alpha␍␊alpine␛[m␛[2A␛[1D {alp} h {alpha} ␍␊ {} ␍␊
abbrev pub row_14 : Row
row_14 = record (row 14 settings_7 (codes "alp\t\th\t\r") (codes "alpha\n")) {
  shows = Some
      (codes "\r\u{1b}[J\u{1b}[m> \u{1b}[m\u{1b}[m\u{1b}[malp\u{7}\r\u{1b}[J\u{1b}[m> \u{1b}" ++
      codes "[malp\u{1b}[m\r\nalpha\r\nalpine\u{1b}[m\u{1b}[2A\u{1b}[1D\r\u{1b}[J\u{1b}[m> " ++
      codes "\u{1b}[malp\u{1b}[m\u{1b}[mh\r\u{1b}[J\u{1b}[m> \u{1b}[malpha\u{1b}[m\u{1b}[m" ++
      codes "\r\n\r\u{1b}[J\u{1b}[m> \u{1b}[m\u{1b}[m\u{1b}[m\r\n");
}

-- alp Tab Tab Left X Enter = alXp | shows {} a l p ␇ {alp␛[m␍␊alpha␍␊alpine␛[m␛[2A␛[1D {alp} ␛[1D ␛[@X ␛[1C␍␊ {} ␍␊
abbrev pub row_15 : Row
row_15 = record (row 15 settings_7 (codes "alp\t\t\u{1b}[DX\r") (codes "alXp\n")) {
  shows = Some
      (codes "\r\u{1b}[J\u{1b}[m> \u{1b}[m\u{1b}[m\u{1b}[malp\u{7}\r\u{1b}[J\u{1b}[m> \u{1b}" ++
      codes "[malp\u{1b}[m\r\nalpha\r\nalpine\u{1b}[m\u{1b}[2A\u{1b}[1D\r\u{1b}[J\u{1b}[m> " ++
      codes "\u{1b}[malp\u{1b}[m\u{1b}[m\u{1b}[1D\u{1b}[@X\u{1b}[1C\r\n\r\u{1b}[J\u{1b}[m> " ++
      codes "\u{1b}[m\u{1b}[m\u{1b}[m\r\n");
}

-- alp Tab Tab Backspace Enter = al | shows {} a l p ␇ {alp␛[m␍␊alpha␍␊alpine␛[m␛[2A␛[1D {alp} ␛[1D␛[K ␍␊ {} ␍␊
abbrev pub row_16 : Row
row_16 = record (row 16 settings_7 (codes "alp\t\t\u{7f}\r") (codes "al\n")) {
  shows = Some
      (codes "\r\u{1b}[J\u{1b}[m> \u{1b}[m\u{1b}[m\u{1b}[malp\u{7}\r\u{1b}[J\u{1b}[m> \u{1b}" ++
      codes "[malp\u{1b}[m\r\nalpha\r\nalpine\u{1b}[m\u{1b}[2A\u{1b}[1D\r\u{1b}[J\u{1b}[m> " ++
      codes "\u{1b}[malp\u{1b}[m\u{1b}[m\u{1b}[1D\u{1b}[K\r\n\r\u{1b}[J\u{1b}[m> \u{1b}[m" ++
      codes "\u{1b}[m\u{1b}[m\r\n");
}

-- alp Tab Tab C-C = nothing | ends Interrupted | shows {} a l p ␇ {alp␛[m␍␊alpha␍␊alpine␛[m␛[2A␛[1D {alp} ␍␊
abbrev pub row_17 : Row
row_17 = record (row 17 settings_7 (codes "alp\t\t\u{3}") []) {
  ends = Interrupted;
  shows = Some
      (codes "\r\u{1b}[J\u{1b}[m> \u{1b}[m\u{1b}[m\u{1b}[malp\u{7}\r\u{1b}[J\u{1b}[m> \u{1b}" ++
      codes "[malp\u{1b}[m\r\nalpha\r\nalpine\u{1b}[m\u{1b}[2A\u{1b}[1D\r\u{1b}[J\u{1b}[m> " ++
      codes "\u{1b}[malp\u{1b}[m\u{1b}[m\r\n");
}

-- alp Tab Tab C-D Enter = alp | shows {} a l p ␇ {alp␛[m␍␊alpha␍␊alpine␛[m␛[2A␛[1D {alp} ␍␊ {} ␍␊
abbrev pub row_18 : Row
row_18 = record (row 18 settings_7 (codes "alp\t\t\u{4}\r") (codes "alp\n")) {
  shows = Some
      (codes "\r\u{1b}[J\u{1b}[m> \u{1b}[m\u{1b}[m\u{1b}[malp\u{7}\r\u{1b}[J\u{1b}[m> \u{1b}" ++
      codes "[malp\u{1b}[m\r\nalpha\r\nalpine\u{1b}[m\u{1b}[2A\u{1b}[1D\r\u{1b}[J\u{1b}[m> " ++
      codes "\u{1b}[malp\u{1b}[m\u{1b}[m\r\n\r\u{1b}[J\u{1b}[m> \u{1b}[m\u{1b}[m\u{1b}[m\r" ++
      codes "\n");
}

-- alp Tab Tab C-G x Enter = alpx | shows {} a l p ␇ {alp␛[m␍␊alpha␍␊alpine␛[m␛[2A␛[1D {alp} x ␍␊ {} ␍␊
abbrev pub row_19 : Row
row_19 = record (row 19 settings_7 (codes "alp\t\t\u{7}x\r") (codes "alpx\n")) {
  shows = Some
      (codes "\r\u{1b}[J\u{1b}[m> \u{1b}[m\u{1b}[m\u{1b}[malp\u{7}\r\u{1b}[J\u{1b}[m> \u{1b}" ++
      codes "[malp\u{1b}[m\r\nalpha\r\nalpine\u{1b}[m\u{1b}[2A\u{1b}[1D\r\u{1b}[J\u{1b}[m> " ++
      codes "\u{1b}[malp\u{1b}[m\u{1b}[mx\r\n\r\u{1b}[J\u{1b}[m> \u{1b}[m\u{1b}[m\u{1b}[m\r" ++
      codes "\n");
}

-- alp Tab Tab C-L Enter = alp | shows {} a l p ␇ {alp␛[m␍␊alpha␍␊alpine␛[m␛[2A␛[1D {alp} ␛[H␛[J {alp} ␍␊ {} ␍␊
abbrev pub row_20 : Row
row_20 = record (row 20 settings_7 (codes "alp\t\t\u{c}\r") (codes "alp\n")) {
  shows = Some
      (codes "\r\u{1b}[J\u{1b}[m> \u{1b}[m\u{1b}[m\u{1b}[malp\u{7}\r\u{1b}[J\u{1b}[m> \u{1b}" ++
      codes "[malp\u{1b}[m\r\nalpha\r\nalpine\u{1b}[m\u{1b}[2A\u{1b}[1D\r\u{1b}[J\u{1b}[m> " ++
      codes "\u{1b}[malp\u{1b}[m\u{1b}[m\u{1b}[H\u{1b}[J\r\u{1b}[J\u{1b}[m> \u{1b}[malp" ++
      codes "\u{1b}[m\u{1b}[m\r\n\r\u{1b}[J\u{1b}[m> \u{1b}[m\u{1b}[m\u{1b}[m\r\n");
}

-- alp Tab Tab S-Tab x Enter = alpx | shows {} a l p ␇ {alp␛[m␍␊alpha␍␊alpine␛[m␛[2A␛[1D {alp} x ␍␊ {} ␍␊
abbrev pub row_21 : Row
row_21 = record (row 21 settings_7 (codes "alp\t\t\u{1b}[Zx\r") (codes "alpx\n")) {
  shows = Some
      (codes "\r\u{1b}[J\u{1b}[m> \u{1b}[m\u{1b}[m\u{1b}[malp\u{7}\r\u{1b}[J\u{1b}[m> \u{1b}" ++
      codes "[malp\u{1b}[m\r\nalpha\r\nalpine\u{1b}[m\u{1b}[2A\u{1b}[1D\r\u{1b}[J\u{1b}[m> " ++
      codes "\u{1b}[malp\u{1b}[m\u{1b}[mx\r\n\r\u{1b}[J\u{1b}[m> \u{1b}[m\u{1b}[m\u{1b}[m\r" ++
      codes "\n");
}

-- alp Tab Tab ␛[999x x Enter = alpx | shows {} a l p ␇ {alp␛[m␍␊alpha␍␊alpine␛[m␛[2A␛[1D {alp} x ␍␊ {} ␍␊
abbrev pub row_22 : Row
row_22 = record (row 22 settings_7 (codes "alp\t\t\u{1b}[999xx\r") (codes "alpx\n")) {
  shows = Some
      (codes "\r\u{1b}[J\u{1b}[m> \u{1b}[m\u{1b}[m\u{1b}[malp\u{7}\r\u{1b}[J\u{1b}[m> \u{1b}" ++
      codes "[malp\u{1b}[m\r\nalpha\r\nalpine\u{1b}[m\u{1b}[2A\u{1b}[1D\r\u{1b}[J\u{1b}[m> " ++
      codes "\u{1b}[malp\u{1b}[m\u{1b}[mx\r\n\r\u{1b}[J\u{1b}[m> \u{1b}[m\u{1b}[m\u{1b}[m\r" ++
      codes "\n");
}

-- alp Tab Tab Paste x Pasted Enter = alpx | shows {} a l p ␇ {alp␛[m␍␊alpha␍␊alpine␛[m␛[2A␛[1D {alp} ␛[Jx ␍␊ {} ␍␊
abbrev pub row_23 : Row
row_23 = record (row 23 settings_7 (codes "alp\t\t\u{1b}[200~x\u{1b}[201~\r") (codes "alpx\n")) {
  shows = Some
      (codes "\r\u{1b}[J\u{1b}[m> \u{1b}[m\u{1b}[m\u{1b}[malp\u{7}\r\u{1b}[J\u{1b}[m> \u{1b}" ++
      codes "[malp\u{1b}[m\r\nalpha\r\nalpine\u{1b}[m\u{1b}[2A\u{1b}[1D\r\u{1b}[J\u{1b}[m> " ++
      codes "\u{1b}[malp\u{1b}[m\u{1b}[m\u{1b}[Jx\r\n\r\u{1b}[J\u{1b}[m> \u{1b}[m\u{1b}[m" ++
      codes "\u{1b}[m\r\n");
}

-- alp Tab Tab C-V Tab Enter = alp␉ | shows {} a l p ␇ {alp␛[m␍␊alpha␍␊alpine␛[m␛[2A␛[1D {alp} {alp␛[m?␛[m} ␍␊ {} ␍␊
abbrev pub row_24 : Row
row_24 = record (row 24 settings_7 (codes "alp\t\t\u{16}\t\r") (codes "alp\t\n")) {
  shows = Some
      (codes "\r\u{1b}[J\u{1b}[m> \u{1b}[m\u{1b}[m\u{1b}[malp\u{7}\r\u{1b}[J\u{1b}[m> \u{1b}" ++
      codes "[malp\u{1b}[m\r\nalpha\r\nalpine\u{1b}[m\u{1b}[2A\u{1b}[1D\r\u{1b}[J\u{1b}[m> " ++
      codes "\u{1b}[malp\u{1b}[m\u{1b}[m\r\u{1b}[J\u{1b}[m> \u{1b}[malp\u{1b}[m?\u{1b}[m" ++
      codes "\u{1b}[m\u{1b}[m\r\n\r\u{1b}[J\u{1b}[m> \u{1b}[m\u{1b}[m\u{1b}[m\r\n");
}

-- alp Tab Tab C-R x Enter = alpx | shows {} a l p ␇ {alp␛[m␍␊alpha␍␊alpine␛[m␛[2A␛[1D {alp} x ␍␊ {} ␍␊
abbrev pub row_25 : Row
row_25 = record (row 25 settings_7 (codes "alp\t\t\u{12}x\r") (codes "alpx\n")) {
  shows = Some
      (codes "\r\u{1b}[J\u{1b}[m> \u{1b}[m\u{1b}[m\u{1b}[malp\u{7}\r\u{1b}[J\u{1b}[m> \u{1b}" ++
      codes "[malp\u{1b}[m\r\nalpha\r\nalpine\u{1b}[m\u{1b}[2A\u{1b}[1D\r\u{1b}[J\u{1b}[m> " ++
      codes "\u{1b}[malp\u{1b}[m\u{1b}[mx\r\n\r\u{1b}[J\u{1b}[m> \u{1b}[m\u{1b}[m\u{1b}[m\r" ++
      codes "\n");
}

-- alp Tab Tab = nothing | shows {} a l p ␇ {alp␛[m␍␊alpha␍␊alpine␛[m␛[2A␛[1D ␍␊
abbrev pub row_26 : Row
row_26 = record (row 26 settings_7 (codes "alp\t\t") []) {
  shows = Some
      (codes "\r\u{1b}[J\u{1b}[m> \u{1b}[m\u{1b}[m\u{1b}[malp\u{7}\r\u{1b}[J\u{1b}[m> \u{1b}" ++
      codes "[malp\u{1b}[m\r\nalpha\r\nalpine\u{1b}[m\u{1b}[2A\u{1b}[1D\r\n");
}

-- alp Tab h Backspace Tab Enter = alp | shows {} a l p ␇ h ␛[1D␛[K ␇ ␍␊ {} ␍␊
abbrev pub row_29 : Row
row_29 = record (row 29 settings_7 (codes "alp\th\u{7f}\t\r") (codes "alp\n")) {
  shows = Some
      (codes "\r\u{1b}[J\u{1b}[m> \u{1b}[m\u{1b}[m\u{1b}[malp\u{7}h\u{1b}[1D\u{1b}[K\u{7}\r" ++
      codes "\n\r\u{1b}[J\u{1b}[m> \u{1b}[m\u{1b}[m\u{1b}[m\r\n");
}

-- alp Tab Left Right Tab Enter = alp | shows {} a l p ␇ ␛[1D ␛[1C ␇ ␍␊ {} ␍␊
abbrev pub row_30 : Row
row_30 = record (row 30 settings_7 (codes "alp\t\u{1b}[D\u{1b}[C\t\r") (codes "alp\n")) {
  shows = Some
      (codes "\r\u{1b}[J\u{1b}[m> \u{1b}[m\u{1b}[m\u{1b}[malp\u{7}\u{1b}[1D\u{1b}[1C\u{7}\r" ++
      codes "\n\r\u{1b}[J\u{1b}[m> \u{1b}[m\u{1b}[m\u{1b}[m\r\n");
}

-- alp Tab S-Tab Tab Enter = alp | shows {} a l p ␇ ␇ ␍␊ {} ␍␊
abbrev pub row_31 : Row
row_31 = record (row 31 settings_7 (codes "alp\t\u{1b}[Z\t\r") (codes "alp\n")) {
  shows = Some
      (codes "\r\u{1b}[J\u{1b}[m> \u{1b}[m\u{1b}[m\u{1b}[malp\u{7}\u{7}\r\n\r\u{1b}[J\u{1b}[" ++
      codes "m> \u{1b}[m\u{1b}[m\u{1b}[m\r\n");
}

-- alp Tab Enter alp Tab Enter = alp alp | shows {} a l p ␇ ␍␊ {} a l p ␇ ␍␊ {} ␍␊
abbrev pub row_32 : Row
row_32 = record (row 32 settings_7 (codes "alp\t\ralp\t\r") (codes "alp\nalp\n")) {
  shows = Some (codes "\r\u{1b}[J\u{1b}[m> \u{1b}[m\u{1b}[m\u{1b}[malp\u{7}\r\n\r\u{1b}[J\u{1b}[m> "
      ++ codes "\u{1b}[m\u{1b}[m\u{1b}[malp\u{7}\r\n\r\u{1b}[J\u{1b}[m> \u{1b}[m\u{1b}[m\u{1b}" ++
      codes "[m\r\n");
}

-- alp Tab M-2 Tab Enter = alp | shows {} a l p ␇ ␍␛[J␛[m(arg:␠2)␠␛[malp␛[m␛[m {alp} {alp␛[m␍␊alpha␍␊alpine␛[m␛[2A␛[1D {alp} ␍␊ {} ␍␊
abbrev pub row_33 : Row
row_33 = record (row 33 settings_7 (codes "alp\t\u{1b}2\t\r") (codes "alp\n")) {
  shows = Some
      (codes "\r\u{1b}[J\u{1b}[m> \u{1b}[m\u{1b}[m\u{1b}[malp\u{7}\r\u{1b}[J\u{1b}[m(arg: 2)" ++
      codes " \u{1b}[malp\u{1b}[m\u{1b}[m\r\u{1b}[J\u{1b}[m> \u{1b}[malp\u{1b}[m\u{1b}[m\r" ++
      codes "\u{1b}[J\u{1b}[m> \u{1b}[malp\u{1b}[m\r\nalpha\r\nalpine\u{1b}[m\u{1b}[2A" ++
      codes "\u{1b}[1D\r\u{1b}[J\u{1b}[m> \u{1b}[malp\u{1b}[m\u{1b}[m\r\n\r\u{1b}[J\u{1b}[m" ++
      codes "> \u{1b}[m\u{1b}[m\u{1b}[m\r\n");
}

-- alp Tab Tab M-2 k Enter = alpkk | shows {} a l p ␇ {alp␛[m␍␊alpha␍␊alpine␛[m␛[2A␛[1D ␍␛[J␛[m(arg:␠2)␠␛[malp␛[m␛[m {alp} {alp} ␛[Jkk ␍␊ {} ␍␊
abbrev pub row_34 : Row
row_34 = record (row 34 settings_7 (codes "alp\t\t\u{1b}2k\r") (codes "alpkk\n")) {
  shows = Some
      (codes "\r\u{1b}[J\u{1b}[m> \u{1b}[m\u{1b}[m\u{1b}[malp\u{7}\r\u{1b}[J\u{1b}[m> \u{1b}" ++
      codes "[malp\u{1b}[m\r\nalpha\r\nalpine\u{1b}[m\u{1b}[2A\u{1b}[1D\r\u{1b}[J\u{1b}[m(a" ++
      codes "rg: 2) \u{1b}[malp\u{1b}[m\u{1b}[m\r\u{1b}[J\u{1b}[m> \u{1b}[malp\u{1b}[m" ++
      codes "\u{1b}[m\r\u{1b}[J\u{1b}[m> \u{1b}[malp\u{1b}[m\u{1b}[m\u{1b}[Jkk\r\n\r\u{1b}[" ++
      codes "J\u{1b}[m> \u{1b}[m\u{1b}[m\u{1b}[m\r\n");
}

-- zz Tab Tab Enter = zz | shows {} z z ␇ ␇ ␍␊ {} ␍␊
abbrev pub row_37 : Row
row_37 = record (row 37 settings_7 (codes "zz\t\t\r") (codes "zz\n")) {
  shows = Some
      (codes "\r\u{1b}[J\u{1b}[m> \u{1b}[m\u{1b}[m\u{1b}[mzz\u{7}\u{7}\r\n\r\u{1b}[J\u{1b}[m" ++
      codes "> \u{1b}[m\u{1b}[m\u{1b}[m\r\n");
}

-- alph Tab Tab Enter = alpha | shows {} a l p h {alpha} {alpha} ␍␊ {} ␍␊
abbrev pub row_38 : Row
row_38 = record (row 38 settings_7 (codes "alph\t\t\r") (codes "alpha\n")) {
  shows = Some
      (codes "\r\u{1b}[J\u{1b}[m> \u{1b}[m\u{1b}[m\u{1b}[malph\r\u{1b}[J\u{1b}[m> \u{1b}[mal" ++
      codes "pha\u{1b}[m\u{1b}[m\r\u{1b}[J\u{1b}[m> \u{1b}[malpha\u{1b}[m\u{1b}[m\r\n\r" ++
      codes "\u{1b}[J\u{1b}[m> \u{1b}[m\u{1b}[m\u{1b}[m\r\n");
}

-- S-Tab S-Tab Enter = "" | shows {} ␍␊ {} ␍␊
abbrev pub row_39 : Row
row_39 = record (row 39 settings_7 (codes "\u{1b}[Z\u{1b}[Z\r") (codes "\n")) {
  shows = Some (codes "\r\u{1b}[J\u{1b}[m> \u{1b}[m\u{1b}[m\u{1b}[m\r\n\r\u{1b}[J\u{1b}[m> \u{1b}[m"
      ++ codes "\u{1b}[m\u{1b}[m\r\n");
}

-- al Tab Tab C-_ Enter = al | shows {} a l {alp} {alp␛[m␍␊alpha␍␊alpine␛[m␛[2A␛[1D {alp} {al} ␍␊ {} ␍␊
abbrev pub row_40 : Row
row_40 = record (row 40 settings_7 (codes "al\t\t\u{1f}\r") (codes "al\n")) {
  shows = Some
      (codes "\r\u{1b}[J\u{1b}[m> \u{1b}[m\u{1b}[m\u{1b}[mal\r\u{1b}[J\u{1b}[m> \u{1b}[malp" ++
      codes "\u{1b}[m\u{1b}[m\r\u{1b}[J\u{1b}[m> \u{1b}[malp\u{1b}[m\r\nalpha\r\nalpine" ++
      codes "\u{1b}[m\u{1b}[2A\u{1b}[1D\r\u{1b}[J\u{1b}[m> \u{1b}[malp\u{1b}[m\u{1b}[m\r" ++
      codes "\u{1b}[J\u{1b}[m> \u{1b}[mal\u{1b}[m\u{1b}[m\r\n\r\u{1b}[J\u{1b}[m> \u{1b}[m" ++
      codes "\u{1b}[m\u{1b}[m\r\n");
}

-- al Tab Tab C-_ C-_ Enter = "" | shows {} a l {alp} {alp␛[m␍␊alpha␍␊alpine␛[m␛[2A␛[1D {alp} {al} {} ␍␊ {} ␍␊
abbrev pub row_41 : Row
row_41 = record (row 41 settings_7 (codes "al\t\t\u{1f}\u{1f}\r") (codes "\n")) {
  shows = Some
      (codes "\r\u{1b}[J\u{1b}[m> \u{1b}[m\u{1b}[m\u{1b}[mal\r\u{1b}[J\u{1b}[m> \u{1b}[malp" ++
      codes "\u{1b}[m\u{1b}[m\r\u{1b}[J\u{1b}[m> \u{1b}[malp\u{1b}[m\r\nalpha\r\nalpine" ++
      codes "\u{1b}[m\u{1b}[2A\u{1b}[1D\r\u{1b}[J\u{1b}[m> \u{1b}[malp\u{1b}[m\u{1b}[m\r" ++
      codes "\u{1b}[J\u{1b}[m> \u{1b}[mal\u{1b}[m\u{1b}[m\r\u{1b}[J\u{1b}[m> \u{1b}[m\u{1b}" ++
      codes "[m\u{1b}[m\r\n\r\u{1b}[J\u{1b}[m> \u{1b}[m\u{1b}[m\u{1b}[m\r\n");
}

-- x␠y C-W Tab C-W C-Y Enter = x␠alp
abbrev pub row_42 : Row
row_42 = row 42 settings_7 (codes "x y\u{17}\t\u{17}\u{19}\r") (codes "x alp\n")

-- al␠x Left Left Tab Tab y Enter = alpy␠x | shows {} a l ␠ x ␛[1D ␛[1D {alp␠x}␛[2D {alp␠x␛[m␍␊alpha␍␊alpine␛[m␛[2A␛[1D {alp␠x}␛[2D ␛[@y ␛[2C␍␊ {} ␍␊
abbrev pub row_45 : Row
row_45 = record (row 45 settings_7 (codes "al x\u{1b}[D\u{1b}[D\t\ty\r") (codes "alpy x\n")) {
  shows = Some (codes "\r\u{1b}[J\u{1b}[m> \u{1b}[m\u{1b}[m\u{1b}[mal x\u{1b}[1D\u{1b}[1D\r\u{1b}[J"
      ++ codes "\u{1b}[m> \u{1b}[malp x\u{1b}[m\u{1b}[m\u{1b}[2D\r\u{1b}[J\u{1b}[m> \u{1b}[mal" ++
      codes "p x\u{1b}[m\r\nalpha\r\nalpine\u{1b}[m\u{1b}[2A\u{1b}[1D\r\u{1b}[J\u{1b}[m> " ++
      codes "\u{1b}[malp x\u{1b}[m\u{1b}[m\u{1b}[2D\u{1b}[@y\u{1b}[2C\r\n\r\u{1b}[J\u{1b}[m" ++
      codes "> \u{1b}[m\u{1b}[m\u{1b}[m\r\n");
}

-- Paste x␊al Pasted Tab Tab Enter = x␊alp | shows {} ␛[Jx␍␊al ␛[1A{x␍␊alp} ␛[1A{x␍␊alp␛[m␍␊alpha␍␊alpine␛[m␛[2A␛[3D ␛[1A{x␍␊alp} ␍␊ {} ␍␊
abbrev pub row_46 : Row
row_46 = record (row 46 settings_7 (codes "\u{1b}[200~x\nal\u{1b}[201~\t\t\r") (codes "x\nalp\n")) {
  shows = Some
      (codes "\r\u{1b}[J\u{1b}[m> \u{1b}[m\u{1b}[m\u{1b}[m\u{1b}[Jx\r\nal\u{1b}[1A\r\u{1b}[J" ++
      codes "\u{1b}[m> \u{1b}[mx\r\nalp\u{1b}[m\u{1b}[m\u{1b}[1A\r\u{1b}[J\u{1b}[m> \u{1b}[" ++
      codes "mx\r\nalp\u{1b}[m\r\nalpha\r\nalpine\u{1b}[m\u{1b}[2A\u{1b}[3D\u{1b}[1A\r" ++
      codes "\u{1b}[J\u{1b}[m> \u{1b}[mx\r\nalp\u{1b}[m\u{1b}[m\r\n\r\u{1b}[J\u{1b}[m> " ++
      codes "\u{1b}[m\u{1b}[m\u{1b}[m\r\n");
}

-- modal listed vi words:alpha,alpine
abbrev pub settings_49 : Settings
settings_49 = record plain {
  config = listed (modal (vi plain.config));
  helping = aide false (Some ((codes "alpha") ∷ (codes "alpine") ∷ []));
}

-- al Tab Tab h Enter = alph | shows {} a l {alp} {alp␛[m␍␊alpha␍␊alpine␛[m␛[2A␛[1D {alp} h ␍␊ {} ␍␊
abbrev pub row_49 : Row
row_49 = record (row 49 settings_49 (codes "al\t\th\r") (codes "alph\n")) {
  shows = Some
      (codes "\r\u{1b}[J\u{1b}[m> \u{1b}[m\u{1b}[m\u{1b}[mal\r\u{1b}[J\u{1b}[m> \u{1b}[malp" ++
      codes "\u{1b}[m\u{1b}[m\r\u{1b}[J\u{1b}[m> \u{1b}[malp\u{1b}[m\r\nalpha\r\nalpine" ++
      codes "\u{1b}[m\u{1b}[2A\u{1b}[1D\r\u{1b}[J\u{1b}[m> \u{1b}[malp\u{1b}[m\u{1b}[mh\r\n" ++
      codes "\r\u{1b}[J\u{1b}[m> \u{1b}[m\u{1b}[m\u{1b}[m\r\n");
}

-- al Tab Tab Esc Enter = alp | shows {} a l {alp} {alp␛[m␍␊alpha␍␊alpine␛[m␛[2A␛[1D {alp} ␛[1D ␛[1C␍␊ {} ␍␊
abbrev pub row_50 : Row
row_50 = record (row 50 settings_49 (codes "al\t\t\u{1b}\r") (codes "alp\n")) {
  shows = Some
      (codes "\r\u{1b}[J\u{1b}[m> \u{1b}[m\u{1b}[m\u{1b}[mal\r\u{1b}[J\u{1b}[m> \u{1b}[malp" ++
      codes "\u{1b}[m\u{1b}[m\r\u{1b}[J\u{1b}[m> \u{1b}[malp\u{1b}[m\r\nalpha\r\nalpine" ++
      codes "\u{1b}[m\u{1b}[2A\u{1b}[1D\r\u{1b}[J\u{1b}[m> \u{1b}[malp\u{1b}[m\u{1b}[m" ++
      codes "\u{1b}[1D\u{1b}[1C\r\n\r\u{1b}[J\u{1b}[m> \u{1b}[m\u{1b}[m\u{1b}[m\r\n");
}

-- al Tab Tab C-G x Enter = alpx | shows {} a l {alp} {alp␛[m␍␊alpha␍␊alpine␛[m␛[2A␛[1D {alp} x ␍␊ {} ␍␊
abbrev pub row_51 : Row
row_51 = record (row 51 settings_49 (codes "al\t\t\u{7}x\r") (codes "alpx\n")) {
  shows = Some
      (codes "\r\u{1b}[J\u{1b}[m> \u{1b}[m\u{1b}[m\u{1b}[mal\r\u{1b}[J\u{1b}[m> \u{1b}[malp" ++
      codes "\u{1b}[m\u{1b}[m\r\u{1b}[J\u{1b}[m> \u{1b}[malp\u{1b}[m\r\nalpha\r\nalpine" ++
      codes "\u{1b}[m\u{1b}[2A\u{1b}[1D\r\u{1b}[J\u{1b}[m> \u{1b}[malp\u{1b}[m\u{1b}[mx\r\n" ++
      codes "\r\u{1b}[J\u{1b}[m> \u{1b}[m\u{1b}[m\u{1b}[m\r\n");
}

-- x␠ Esc aal Tab Tab Esc u Enter = x␠
abbrev pub row_52 : Row
row_52 = row 52 settings_49 (codes "x \u{1b}aal\t\t\u{1b}u\r") (codes "x \n")

-- al Esc Tab Tab Enter = al | shows {} a l ␛[1D ␛[1C␍␊ {} ␍␊
abbrev pub row_53 : Row
row_53 = record (row 53 settings_49 (codes "al\u{1b}\t\t\r") (codes "al\n")) {
  shows = Some
      (codes "\r\u{1b}[J\u{1b}[m> \u{1b}[m\u{1b}[m\u{1b}[mal\u{1b}[1D\u{1b}[1C\r\n\r\u{1b}[J" ++
      codes "\u{1b}[m> \u{1b}[m\u{1b}[m\u{1b}[m\r\n");
}

-- modal listed words:alpha,alpine loaded:#V2␊git␠status␊make␠alpha␊
abbrev pub settings_57 : Settings
settings_57 = record plain {
  config = listed (modal plain.config);
  helping = aide false (Some ((codes "alpha") ∷ (codes "alpine") ∷ []));
  loaded = codes "#V2\ngit status\nmake alpha\n";
}

-- alp Tab Tab C-R ma C-G Enter = alp | shows {} a l p ␇ {alp␛[m␍␊alpha␍␊alpine␛[m␛[2A␛[1D {alp} ''alp} 'm'make␠alpha}␛[10D 'ma'make␠alpha}␛[10D {alp} ␍␊ {} ␍␊
abbrev pub row_57 : Row
row_57 = record (row 57 settings_57 (codes "alp\t\t\u{12}ma\u{7}\r") (codes "alp\n")) {
  shows = Some
      (codes "\r\u{1b}[J\u{1b}[m> \u{1b}[m\u{1b}[m\u{1b}[malp\u{7}\r\u{1b}[J\u{1b}[m> \u{1b}" ++
      codes "[malp\u{1b}[m\r\nalpha\r\nalpine\u{1b}[m\u{1b}[2A\u{1b}[1D\r\u{1b}[J\u{1b}[m> " ++
      codes "\u{1b}[malp\u{1b}[m\u{1b}[m\r\u{1b}[J\u{1b}[m(reverse-i-search)`': \u{1b}[malp" ++
      codes "\u{1b}[m\u{1b}[m\r\u{1b}[J\u{1b}[m(reverse-i-search)`m': \u{1b}[mmake alpha" ++
      codes "\u{1b}[m\u{1b}[m\u{1b}[10D\r\u{1b}[J\u{1b}[m(reverse-i-search)`ma': \u{1b}[mma" ++
      codes "ke alpha\u{1b}[m\u{1b}[m\u{1b}[10D\r\u{1b}[J\u{1b}[m> \u{1b}[malp\u{1b}[m" ++
      codes "\u{1b}[m\r\n\r\u{1b}[J\u{1b}[m> \u{1b}[m\u{1b}[m\u{1b}[m\r\n");
}

-- alp C-R ma Tab Tab Enter = alpmake␠alpha | shows {} a l p ''alp} 'm'make␠alpha}␛[10D 'ma'make␠alpha}␛[10D {make␠alpha}␛[10D {alpmake␠alpha}␛[10D {alpmake␠alpha␛[m␍␊alpha␍␊alpine␛[m␛[2A␛[1D {alpmake␠alpha}␛[10D ␛[10C␍␊ {} ␍␊
abbrev pub row_58 : Row
row_58 = record (row 58 settings_57 (codes "alp\u{12}ma\t\t\r") (codes "alpmake alpha\n")) {
  shows = Some
      (codes "\r\u{1b}[J\u{1b}[m> \u{1b}[m\u{1b}[m\u{1b}[malp\r\u{1b}[J\u{1b}[m(reverse-i-se" ++
      codes "arch)`': \u{1b}[malp\u{1b}[m\u{1b}[m\r\u{1b}[J\u{1b}[m(reverse-i-search)`m': " ++
      codes "\u{1b}[mmake alpha\u{1b}[m\u{1b}[m\u{1b}[10D\r\u{1b}[J\u{1b}[m(reverse-i-searc" ++
      codes "h)`ma': \u{1b}[mmake alpha\u{1b}[m\u{1b}[m\u{1b}[10D\r\u{1b}[J\u{1b}[m> \u{1b}" ++
      codes "[mmake alpha\u{1b}[m\u{1b}[m\u{1b}[10D\r\u{1b}[J\u{1b}[m> \u{1b}[malpmake alph" ++
      codes "a\u{1b}[m\u{1b}[m\u{1b}[10D\r\u{1b}[J\u{1b}[m> \u{1b}[malpmake alpha\u{1b}[m\r" ++
      codes "\nalpha\r\nalpine\u{1b}[m\u{1b}[2A\u{1b}[1D\r\u{1b}[J\u{1b}[m> \u{1b}[malpmake" ++
      codes " alpha\u{1b}[m\u{1b}[m\u{1b}[10D\u{1b}[10C\r\n\r\u{1b}[J\u{1b}[m> \u{1b}[m" ++
      codes "\u{1b}[m\u{1b}[m\r\n");
}

-- al␠x Left Left Tab Tab Up Enter = make␠alpha | shows {} a l ␠ x ␛[1D ␛[1D {alp␠x}␛[2D {alp␠x␛[m␍␊alpha␍␊alpine␛[m␛[2A␛[1D {alp␠x}␛[2D {make␠alpha} ␍␊ {} ␍␊
abbrev pub row_59 : Row
row_59 = record (row 59 settings_57 (codes "al x\u{1b}[D\u{1b}[D\t\t\u{1b}[A\r")
    (codes "make alpha\n")) {
      shows = Some (codes "\r\u{1b}[J\u{1b}[m> \u{1b}[m\u{1b}[m\u{1b}[mal x\u{1b}[1D\u{1b}[1D\r\u{1b}[J"
          ++ codes "\u{1b}[m> \u{1b}[malp x\u{1b}[m\u{1b}[m\u{1b}[2D\r\u{1b}[J\u{1b}[m> \u{1b}[mal" ++
          codes "p x\u{1b}[m\r\nalpha\r\nalpine\u{1b}[m\u{1b}[2A\u{1b}[1D\r\u{1b}[J\u{1b}[m> " ++
          codes "\u{1b}[malp x\u{1b}[m\u{1b}[m\u{1b}[2D\r\u{1b}[J\u{1b}[m> \u{1b}[mmake alpha" ++
          codes "\u{1b}[m\u{1b}[m\r\n\r\u{1b}[J\u{1b}[m> \u{1b}[m\u{1b}[m\u{1b}[m\r\n");
    }

-- modal listed helped words:git,gist loaded:#V2␊gist␠a␊gits␊
abbrev pub settings_62 : Settings
settings_62 = record plain {
  config = listed (modal plain.config);
  helping = aide true (Some ((codes "git") ∷ (codes "gist") ∷ []));
  loaded = codes "#V2\ngist a\ngits\n";
}

-- gi Tab Tab Up Enter = gits | shows {} {g␛[mits␛[m␛[3D {gi␛[mts␛[m␛[2D ␇ {gi␛[m␍␊git␍␊gist␛[m␛[2A {gi␛[mts␛[m␛[2D {gits}␛[2D ␛[2C␍␊ {} ␍␊
abbrev pub row_62 : Row
row_62 = record (row 62 settings_62 (codes "gi\t\t\u{1b}[A\r") (codes "gits\n")) {
  shows = Some (codes "\r\u{1b}[J\u{1b}[m> \u{1b}[m\u{1b}[m\u{1b}[m\r\u{1b}[J\u{1b}[m> \u{1b}[mg" ++
      codes "\u{1b}[mits\u{1b}[m\u{1b}[3D\r\u{1b}[J\u{1b}[m> \u{1b}[mgi\u{1b}[mts\u{1b}[m" ++
      codes "\u{1b}[2D\u{7}\r\u{1b}[J\u{1b}[m> \u{1b}[mgi\u{1b}[m\r\ngit\r\ngist\u{1b}[m" ++
      codes "\u{1b}[2A\r\u{1b}[J\u{1b}[m> \u{1b}[mgi\u{1b}[mts\u{1b}[m\u{1b}[2D\r\u{1b}[J" ++
      codes "\u{1b}[m> \u{1b}[mgits\u{1b}[m\u{1b}[m\u{1b}[2D\u{1b}[2C\r\n\r\u{1b}[J\u{1b}[m" ++
      codes "> \u{1b}[m\u{1b}[m\u{1b}[m\r\n");
}

-- modal listed helped words:alpha,alpine loaded:#V2␊alps␊
abbrev pub settings_66 : Settings
settings_66 = record plain {
  config = listed (modal plain.config);
  helping = aide true (Some ((codes "alpha") ∷ (codes "alpine") ∷ []));
  loaded = codes "#V2\nalps\n";
}

-- al Tab Tab x Enter = alpx | shows {} {a␛[mlps␛[m␛[3D {al␛[mps␛[m␛[2D {alp␛[ms␛[m␛[1D {alp␛[m␍␊alpha␍␊alpine␛[m␛[2A␛[1D {alp␛[ms␛[m␛[1D {alpx} ␍␊ {} ␍␊
abbrev pub row_66 : Row
row_66 = record (row 66 settings_66 (codes "al\t\tx\r") (codes "alpx\n")) {
  shows = Some (codes "\r\u{1b}[J\u{1b}[m> \u{1b}[m\u{1b}[m\u{1b}[m\r\u{1b}[J\u{1b}[m> \u{1b}[ma" ++
      codes "\u{1b}[mlps\u{1b}[m\u{1b}[3D\r\u{1b}[J\u{1b}[m> \u{1b}[mal\u{1b}[mps\u{1b}[m" ++
      codes "\u{1b}[2D\r\u{1b}[J\u{1b}[m> \u{1b}[malp\u{1b}[ms\u{1b}[m\u{1b}[1D\r\u{1b}[J" ++
      codes "\u{1b}[m> \u{1b}[malp\u{1b}[m\r\nalpha\r\nalpine\u{1b}[m\u{1b}[2A\u{1b}[1D\r" ++
      codes "\u{1b}[J\u{1b}[m> \u{1b}[malp\u{1b}[ms\u{1b}[m\u{1b}[1D\r\u{1b}[J\u{1b}[m> " ++
      codes "\u{1b}[malpx\u{1b}[m\u{1b}[m\r\n\r\u{1b}[J\u{1b}[m> \u{1b}[m\u{1b}[m\u{1b}[m\r" ++
      codes "\n");
}

-- al Tab Tab Enter = alp | shows {} {a␛[mlps␛[m␛[3D {al␛[mps␛[m␛[2D {alp␛[ms␛[m␛[1D {alp␛[m␍␊alpha␍␊alpine␛[m␛[2A␛[1D {alp␛[ms␛[m␛[1D {alp} ␍␊ {} ␍␊
abbrev pub row_67 : Row
row_67 = record (row 67 settings_66 (codes "al\t\t\r") (codes "alp\n")) {
  shows = Some (codes "\r\u{1b}[J\u{1b}[m> \u{1b}[m\u{1b}[m\u{1b}[m\r\u{1b}[J\u{1b}[m> \u{1b}[ma" ++
      codes "\u{1b}[mlps\u{1b}[m\u{1b}[3D\r\u{1b}[J\u{1b}[m> \u{1b}[mal\u{1b}[mps\u{1b}[m" ++
      codes "\u{1b}[2D\r\u{1b}[J\u{1b}[m> \u{1b}[malp\u{1b}[ms\u{1b}[m\u{1b}[1D\r\u{1b}[J" ++
      codes "\u{1b}[m> \u{1b}[malp\u{1b}[m\r\nalpha\r\nalpine\u{1b}[m\u{1b}[2A\u{1b}[1D\r" ++
      codes "\u{1b}[J\u{1b}[m> \u{1b}[malp\u{1b}[ms\u{1b}[m\u{1b}[1D\r\u{1b}[J\u{1b}[m> " ++
      codes "\u{1b}[malp\u{1b}[m\u{1b}[m\r\n\r\u{1b}[J\u{1b}[m> \u{1b}[m\u{1b}[m\u{1b}[m\r" ++
      codes "\n");
}

-- al Tab Tab Right Right Enter = alps | shows {} {a␛[mlps␛[m␛[3D {al␛[mps␛[m␛[2D {alp␛[ms␛[m␛[1D {alp␛[m␍␊alpha␍␊alpine␛[m␛[2A␛[1D {alp␛[ms␛[m␛[1D {alps} ␍␊ {} ␍␊
abbrev pub row_68 : Row
row_68 = record (row 68 settings_66 (codes "al\t\t\u{1b}[C\u{1b}[C\r") (codes "alps\n")) {
  shows = Some (codes "\r\u{1b}[J\u{1b}[m> \u{1b}[m\u{1b}[m\u{1b}[m\r\u{1b}[J\u{1b}[m> \u{1b}[ma" ++
      codes "\u{1b}[mlps\u{1b}[m\u{1b}[3D\r\u{1b}[J\u{1b}[m> \u{1b}[mal\u{1b}[mps\u{1b}[m" ++
      codes "\u{1b}[2D\r\u{1b}[J\u{1b}[m> \u{1b}[malp\u{1b}[ms\u{1b}[m\u{1b}[1D\r\u{1b}[J" ++
      codes "\u{1b}[m> \u{1b}[malp\u{1b}[m\r\nalpha\r\nalpine\u{1b}[m\u{1b}[2A\u{1b}[1D\r" ++
      codes "\u{1b}[J\u{1b}[m> \u{1b}[malp\u{1b}[ms\u{1b}[m\u{1b}[1D\r\u{1b}[J\u{1b}[m> " ++
      codes "\u{1b}[malps\u{1b}[m\u{1b}[m\r\n\r\u{1b}[J\u{1b}[m> \u{1b}[m\u{1b}[m\u{1b}[m\r" ++
      codes "\n");
}

-- modal listed limit:2 words:alpha,alpine,alps,alto
abbrev pub settings_72 : Settings
settings_72 = record plain {
  config = limited 2 (listed (modal plain.config));
  helping = aide false (Some ((codes "alpha") ∷ (codes "alpine") ∷ (codes "alps") ∷ (codes "alto") ∷
      []));
}

-- al Tab Tab Enter = al | shows {} a l ␇ {al␛[m␍␊alpha␍␊alpine␍␊(2␠more)␛[m␛[3A␛[4D {al} ␍␊ {} ␍␊
abbrev pub row_72 : Row
row_72 = record (row 72 settings_72 (codes "al\t\t\r") (codes "al\n")) {
  shows = Some
      (codes "\r\u{1b}[J\u{1b}[m> \u{1b}[m\u{1b}[m\u{1b}[mal\u{7}\r\u{1b}[J\u{1b}[m> \u{1b}[" ++
      codes "mal\u{1b}[m\r\nalpha\r\nalpine\r\n(2 more)\u{1b}[m\u{1b}[3A\u{1b}[4D\r\u{1b}[J" ++
      codes "\u{1b}[m> \u{1b}[mal\u{1b}[m\u{1b}[m\r\n\r\u{1b}[J\u{1b}[m> \u{1b}[m\u{1b}[m" ++
      codes "\u{1b}[m\r\n");
}

-- alp Tab Tab Enter = alp | shows {} a l p ␇ {alp␛[m␍␊alpha␍␊alpine␍␊(1␠more)␛[m␛[3A␛[3D {alp} ␍␊ {} ␍␊
abbrev pub row_73 : Row
row_73 = record (row 73 settings_72 (codes "alp\t\t\r") (codes "alp\n")) {
  shows = Some
      (codes "\r\u{1b}[J\u{1b}[m> \u{1b}[m\u{1b}[m\u{1b}[malp\u{7}\r\u{1b}[J\u{1b}[m> \u{1b}" ++
      codes "[malp\u{1b}[m\r\nalpha\r\nalpine\r\n(1 more)\u{1b}[m\u{1b}[3A\u{1b}[3D\r\u{1b}" ++
      codes "[J\u{1b}[m> \u{1b}[malp\u{1b}[m\u{1b}[m\r\n\r\u{1b}[J\u{1b}[m> \u{1b}[m\u{1b}[" ++
      codes "m\u{1b}[m\r\n");
}

-- modal listed limit:2 words:a1,a2,b1,b2,b3
abbrev pub settings_76 : Settings
settings_76 = record plain {
  config = limited 2 (listed (modal plain.config));
  helping = aide false (Some ((codes "a1") ∷ (codes "a2") ∷ (codes "b1") ∷ (codes "b2") ∷
      (codes "b3") ∷ []));
}

-- a Tab Tab Enter = a | shows {} a ␇ {a␛[m␍␊a1␍␊a2␛[m␛[2A␛[1C {a} ␍␊ {} ␍␊
abbrev pub row_76 : Row
row_76 = record (row 76 settings_76 (codes "a\t\t\r") (codes "a\n")) {
  shows = Some
      (codes "\r\u{1b}[J\u{1b}[m> \u{1b}[m\u{1b}[m\u{1b}[ma\u{7}\r\u{1b}[J\u{1b}[m> \u{1b}[m" ++
      codes "a\u{1b}[m\r\na1\r\na2\u{1b}[m\u{1b}[2A\u{1b}[1C\r\u{1b}[J\u{1b}[m> \u{1b}[ma" ++
      codes "\u{1b}[m\u{1b}[m\r\n\r\u{1b}[J\u{1b}[m> \u{1b}[m\u{1b}[m\u{1b}[m\r\n");
}

-- b Tab Tab Enter = b | shows {} b ␇ {b␛[m␍␊b1␍␊b2␍␊(1␠more)␛[m␛[3A␛[5D {b} ␍␊ {} ␍␊
abbrev pub row_77 : Row
row_77 = record (row 77 settings_76 (codes "b\t\t\r") (codes "b\n")) {
  shows = Some
      (codes "\r\u{1b}[J\u{1b}[m> \u{1b}[m\u{1b}[m\u{1b}[mb\u{7}\r\u{1b}[J\u{1b}[m> \u{1b}[m" ++
      codes "b\u{1b}[m\r\nb1\r\nb2\r\n(1 more)\u{1b}[m\u{1b}[3A\u{1b}[5D\r\u{1b}[J\u{1b}[m>" ++
      codes " \u{1b}[mb\u{1b}[m\u{1b}[m\r\n\r\u{1b}[J\u{1b}[m> \u{1b}[m\u{1b}[m\u{1b}[m\r\n");
}

-- modal listed limit:0 words:alpha,alpine
abbrev pub settings_80 : Settings
settings_80 = record plain {
  config = limited 0 (listed (modal plain.config));
  helping = aide false (Some ((codes "alpha") ∷ (codes "alpine") ∷ []));
}

-- alp Tab Tab Enter = alp | shows {} a l p ␇ {alp␛[m␍␊(2␠more)␛[m␛[1A␛[3D {alp} ␍␊ {} ␍␊
abbrev pub row_80 : Row
row_80 = record (row 80 settings_80 (codes "alp\t\t\r") (codes "alp\n")) {
  shows = Some
      (codes "\r\u{1b}[J\u{1b}[m> \u{1b}[m\u{1b}[m\u{1b}[malp\u{7}\r\u{1b}[J\u{1b}[m> \u{1b}" ++
      codes "[malp\u{1b}[m\r\n(2 more)\u{1b}[m\u{1b}[1A\u{1b}[3D\r\u{1b}[J\u{1b}[m> \u{1b}[" ++
      codes "malp\u{1b}[m\u{1b}[m\r\n\r\u{1b}[J\u{1b}[m> \u{1b}[m\u{1b}[m\u{1b}[m\r\n");
}

-- modal listed at-once words:alpha,alpine
abbrev pub settings_84 : Settings
settings_84 = record plain {
  config = at_once (listed (modal plain.config));
  helping = aide false (Some ((codes "alpha") ∷ (codes "alpine") ∷ []));
}

-- alp Tab Enter = alp | shows {} a l p {alp␛[m␍␊alpha␍␊alpine␛[m␛[2A␛[1D {alp} ␍␊ {} ␍␊
abbrev pub row_84 : Row
row_84 = record (row 84 settings_84 (codes "alp\t\r") (codes "alp\n")) {
  shows = Some
      (codes "\r\u{1b}[J\u{1b}[m> \u{1b}[m\u{1b}[m\u{1b}[malp\r\u{1b}[J\u{1b}[m> \u{1b}[malp" ++
      codes "\u{1b}[m\r\nalpha\r\nalpine\u{1b}[m\u{1b}[2A\u{1b}[1D\r\u{1b}[J\u{1b}[m> " ++
      codes "\u{1b}[malp\u{1b}[m\u{1b}[m\r\n\r\u{1b}[J\u{1b}[m> \u{1b}[m\u{1b}[m\u{1b}[m\r" ++
      codes "\n");
}

-- al Tab Enter = alp | shows {} a l {alp} ␍␊ {} ␍␊
abbrev pub row_85 : Row
row_85 = record (row 85 settings_84 (codes "al\t\r") (codes "alp\n")) {
  shows = Some
      (codes "\r\u{1b}[J\u{1b}[m> \u{1b}[m\u{1b}[m\u{1b}[mal\r\u{1b}[J\u{1b}[m> \u{1b}[malp" ++
      codes "\u{1b}[m\u{1b}[m\r\n\r\u{1b}[J\u{1b}[m> \u{1b}[m\u{1b}[m\u{1b}[m\r\n");
}

-- al Tab Tab Enter = alp | shows {} a l {alp} {alp␛[m␍␊alpha␍␊alpine␛[m␛[2A␛[1D {alp} ␍␊ {} ␍␊
abbrev pub row_86 : Row
row_86 = record (row 86 settings_84 (codes "al\t\t\r") (codes "alp\n")) {
  shows = Some
      (codes "\r\u{1b}[J\u{1b}[m> \u{1b}[m\u{1b}[m\u{1b}[mal\r\u{1b}[J\u{1b}[m> \u{1b}[malp" ++
      codes "\u{1b}[m\u{1b}[m\r\u{1b}[J\u{1b}[m> \u{1b}[malp\u{1b}[m\r\nalpha\r\nalpine" ++
      codes "\u{1b}[m\u{1b}[2A\u{1b}[1D\r\u{1b}[J\u{1b}[m> \u{1b}[malp\u{1b}[m\u{1b}[m\r\n" ++
      codes "\r\u{1b}[J\u{1b}[m> \u{1b}[m\u{1b}[m\u{1b}[m\r\n");
}

-- alp Tab x Tab Enter = alpx | shows {} a l p {alp␛[m␍␊alpha␍␊alpine␛[m␛[2A␛[1D {alp} x ␇ ␍␊ {} ␍␊
abbrev pub row_87 : Row
row_87 = record (row 87 settings_84 (codes "alp\tx\t\r") (codes "alpx\n")) {
  shows = Some
      (codes "\r\u{1b}[J\u{1b}[m> \u{1b}[m\u{1b}[m\u{1b}[malp\r\u{1b}[J\u{1b}[m> \u{1b}[malp" ++
      codes "\u{1b}[m\r\nalpha\r\nalpine\u{1b}[m\u{1b}[2A\u{1b}[1D\r\u{1b}[J\u{1b}[m> " ++
      codes "\u{1b}[malp\u{1b}[m\u{1b}[mx\u{7}\r\n\r\u{1b}[J\u{1b}[m> \u{1b}[m\u{1b}[m" ++
      codes "\u{1b}[m\r\n");
}

-- zz Tab Enter = zz | shows {} z z ␇ ␍␊ {} ␍␊
abbrev pub row_88 : Row
row_88 = record (row 88 settings_84 (codes "zz\t\r") (codes "zz\n")) {
  shows = Some (codes "\r\u{1b}[J\u{1b}[m> \u{1b}[m\u{1b}[m\u{1b}[mzz\u{7}\r\n\r\u{1b}[J\u{1b}[m> "
      ++ codes "\u{1b}[m\u{1b}[m\u{1b}[m\r\n");
}

-- modal listed at-once columns:4 words:alpha,alpine
abbrev pub settings_91 : Settings
settings_91 = record plain {
  config = at_once (listed (modal plain.config));
  columns = 4;
  helping = aide false (Some ((codes "alpha") ∷ (codes "alpine") ∷ []));
}

-- alp Tab Enter = alp | shows {} a {al␍␊} p ␛[1A{al␍␊p␛[m␍␊alph␍␊a␍␊alpi␍␊ne␛[m␛[4A␛[1D ␛[1A{al␍␊p} ␍␊ {} ␍␊
abbrev pub row_91 : Row
row_91 = record (row 91 settings_91 (codes "alp\t\r") (codes "alp\n")) {
  shows = Some
      (codes "\r\u{1b}[J\u{1b}[m> \u{1b}[m\u{1b}[m\u{1b}[ma\r\u{1b}[J\u{1b}[m> \u{1b}[mal\r" ++
      codes "\n\u{1b}[m\u{1b}[mp\u{1b}[1A\r\u{1b}[J\u{1b}[m> \u{1b}[mal\r\np\u{1b}[m\r\nalp" ++
      codes "h\r\na\r\nalpi\r\nne\u{1b}[m\u{1b}[4A\u{1b}[1D\u{1b}[1A\r\u{1b}[J\u{1b}[m> " ++
      codes "\u{1b}[mal\r\np\u{1b}[m\u{1b}[m\r\n\r\u{1b}[J\u{1b}[m> \u{1b}[m\u{1b}[m\u{1b}[" ++
      codes "m\r\n");
}

-- modal listed words:漢字,漢文
abbrev pub settings_95 : Settings
settings_95 = record plain {
  config = listed (modal plain.config);
  helping = aide false (Some ((encode_utf8_all (codes "漢字")) ∷ (encode_utf8_all (codes "漢文")) ∷
      []));
}

-- 漢 Tab Tab Enter = 漢 | shows {} {␛[m漢␛[m} ␇ {␛[m漢␛[m␛[m␍␊␛[m漢␛[m␛[m字␛[m␍␊␛[m漢␛[m␛[m文␛[m␛[m␛[2A {␛[m漢␛[m} ␍␊ {} ␍␊
abbrev pub row_95 : Row
row_95 = record (row 95 settings_95 (encode_utf8_all (codes "漢\t\t\r")) (encode_utf8_all
    (codes "漢\n"))) {
      shows = Some (encode_utf8_all
          (codes "\r\u{1b}[J\u{1b}[m> \u{1b}[m\u{1b}[m\u{1b}[m\r\u{1b}[J\u{1b}[m> \u{1b}[m\u{1b}" ++
          codes "[m漢\u{1b}[m\u{1b}[m\u{1b}[m\u{7}\r\u{1b}[J\u{1b}[m> \u{1b}[m\u{1b}[m漢\u{1b}[m" ++
          codes "\u{1b}[m\r\n\u{1b}[m漢\u{1b}[m\u{1b}[m字\u{1b}[m\r\n\u{1b}[m漢\u{1b}[m\u{1b}[m文" ++
          codes "\u{1b}[m\u{1b}[m\u{1b}[2A\r\u{1b}[J\u{1b}[m> \u{1b}[m\u{1b}[m漢\u{1b}[m\u{1b}[m" ++
          codes "\u{1b}[m\r\n\r\u{1b}[J\u{1b}[m> \u{1b}[m\u{1b}[m\u{1b}[m\r\n"));
    }

-- modal listed columns:12 words:alphabetagammadelta,alpine
abbrev pub settings_98 : Settings
settings_98 = record plain {
  config = listed (modal plain.config);
  columns = 12;
  helping = aide false (Some ((codes "alphabetagammadelta") ∷ (codes "alpine") ∷ []));
}

-- alp Tab Tab Enter = alp | shows {} a l p ␇ {alp␛[m␍␊alphabetagam␍␊madelta␍␊alpine␛[m␛[3A␛[1D {alp} ␍␊ {} ␍␊
abbrev pub row_98 : Row
row_98 = record (row 98 settings_98 (codes "alp\t\t\r") (codes "alp\n")) {
  shows = Some
      (codes "\r\u{1b}[J\u{1b}[m> \u{1b}[m\u{1b}[m\u{1b}[malp\u{7}\r\u{1b}[J\u{1b}[m> \u{1b}" ++
      codes "[malp\u{1b}[m\r\nalphabetagam\r\nmadelta\r\nalpine\u{1b}[m\u{1b}[3A\u{1b}[1D\r" ++
      codes "\u{1b}[J\u{1b}[m> \u{1b}[malp\u{1b}[m\u{1b}[m\r\n\r\u{1b}[J\u{1b}[m> \u{1b}[m" ++
      codes "\u{1b}[m\u{1b}[m\r\n");
}

-- modal listed columns:12 words:alphabetagam,alpine
abbrev pub settings_101 : Settings
settings_101 = record plain {
  config = listed (modal plain.config);
  columns = 12;
  helping = aide false (Some ((codes "alphabetagam") ∷ (codes "alpine") ∷ []));
}

-- alp Tab Tab Enter = alp | shows {} a l p ␇ {alp␛[m␍␊alphabetagam␍␊␍␊alpine␛[m␛[3A␛[1D {alp} ␍␊ {} ␍␊
abbrev pub row_101 : Row
row_101 = record (row 101 settings_101 (codes "alp\t\t\r") (codes "alp\n")) {
  shows = Some
      (codes "\r\u{1b}[J\u{1b}[m> \u{1b}[m\u{1b}[m\u{1b}[malp\u{7}\r\u{1b}[J\u{1b}[m> \u{1b}" ++
      codes "[malp\u{1b}[m\r\nalphabetagam\r\n\r\nalpine\u{1b}[m\u{1b}[3A\u{1b}[1D\r\u{1b}[" ++
      codes "J\u{1b}[m> \u{1b}[malp\u{1b}[m\u{1b}[m\r\n\r\u{1b}[J\u{1b}[m> \u{1b}[m\u{1b}[m" ++
      codes "\u{1b}[m\r\n");
}

-- modal listed columns:12 words:alpine,alphabetagam
abbrev pub settings_104 : Settings
settings_104 = record plain {
  config = listed (modal plain.config);
  columns = 12;
  helping = aide false (Some ((codes "alpine") ∷ (codes "alphabetagam") ∷ []));
}

-- alp Tab Tab Enter = alp | shows {} a l p ␇ {alp␛[m␍␊alpine␍␊alphabetagam␍␊␛[m␛[3A␛[5C {alp} ␍␊ {} ␍␊
abbrev pub row_104 : Row
row_104 = record (row 104 settings_104 (codes "alp\t\t\r") (codes "alp\n")) {
  shows = Some
      (codes "\r\u{1b}[J\u{1b}[m> \u{1b}[m\u{1b}[m\u{1b}[malp\u{7}\r\u{1b}[J\u{1b}[m> \u{1b}" ++
      codes "[malp\u{1b}[m\r\nalpine\r\nalphabetagam\r\n\u{1b}[m\u{1b}[3A\u{1b}[5C\r\u{1b}[" ++
      codes "J\u{1b}[m> \u{1b}[malp\u{1b}[m\u{1b}[m\r\n\r\u{1b}[J\u{1b}[m> \u{1b}[m\u{1b}[m" ++
      codes "\u{1b}[m\r\n");
}

-- modal listed columns:7 words:alpha,alpha
abbrev pub settings_107 : Settings
settings_107 = record plain {
  config = listed (modal plain.config);
  columns = 7;
  helping = aide false (Some ((codes "alpha") ∷ (codes "alpha") ∷ []));
}

-- alpha Tab Tab Enter = alpha | shows {} a l p h {alpha␍␊} ␇ ␛[1A{alpha␍␊␛[m␍␊alpha␍␊alpha␛[m␛[2A␛[5D ␛[1A{alpha␍␊} ␍␊ {} ␍␊
abbrev pub row_107 : Row
row_107 = record (row 107 settings_107 (codes "alpha\t\t\r") (codes "alpha\n")) {
  shows = Some
      (codes "\r\u{1b}[J\u{1b}[m> \u{1b}[m\u{1b}[m\u{1b}[malph\r\u{1b}[J\u{1b}[m> \u{1b}[mal" ++
      codes "pha\r\n\u{1b}[m\u{1b}[m\u{7}\u{1b}[1A\r\u{1b}[J\u{1b}[m> \u{1b}[malpha\r\n" ++
      codes "\u{1b}[m\r\nalpha\r\nalpha\u{1b}[m\u{1b}[2A\u{1b}[5D\u{1b}[1A\r\u{1b}[J\u{1b}[" ++
      codes "m> \u{1b}[malpha\r\n\u{1b}[m\u{1b}[m\r\n\r\u{1b}[J\u{1b}[m> \u{1b}[m\u{1b}[m" ++
      codes "\u{1b}[m\r\n");
}

-- modal listed words:,alpha
abbrev pub settings_110 : Settings
settings_110 = record plain {
  config = listed (modal plain.config);
  helping = aide false (Some ([] ∷ (codes "alpha") ∷ []));
}

-- x␠ Tab Tab Enter = x␠ | shows {} x ␠ ␇ {x␠␛[m␍␊␍␊alpha␛[m␛[2A␛[1D {x␠} ␍␊ {} ␍␊
abbrev pub row_110 : Row
row_110 = record (row 110 settings_110 (codes "x \t\t\r") (codes "x \n")) {
  shows = Some
      (codes "\r\u{1b}[J\u{1b}[m> \u{1b}[m\u{1b}[m\u{1b}[mx \u{7}\r\u{1b}[J\u{1b}[m> \u{1b}[" ++
      codes "mx \u{1b}[m\r\n\r\nalpha\u{1b}[m\u{1b}[2A\u{1b}[1D\r\u{1b}[J\u{1b}[m> \u{1b}[m" ++
      codes "x \u{1b}[m\u{1b}[m\r\n\r\u{1b}[J\u{1b}[m> \u{1b}[m\u{1b}[m\u{1b}[m\r\n");
}

-- modal listed words:alpha,alpha
abbrev pub settings_113 : Settings
settings_113 = record plain {
  config = listed (modal plain.config);
  helping = aide false (Some ((codes "alpha") ∷ (codes "alpha") ∷ []));
}

-- alph Tab Tab Enter = alpha | shows {} a l p h {alpha} {alpha␛[m␍␊alpha␍␊alpha␛[m␛[2A␛[2C {alpha} ␍␊ {} ␍␊
abbrev pub row_113 : Row
row_113 = record (row 113 settings_113 (codes "alph\t\t\r") (codes "alpha\n")) {
  shows = Some
      (codes "\r\u{1b}[J\u{1b}[m> \u{1b}[m\u{1b}[m\u{1b}[malph\r\u{1b}[J\u{1b}[m> \u{1b}[mal" ++
      codes "pha\u{1b}[m\u{1b}[m\r\u{1b}[J\u{1b}[m> \u{1b}[malpha\u{1b}[m\r\nalpha\r\nalpha" ++
      codes "\u{1b}[m\u{1b}[2A\u{1b}[2C\r\u{1b}[J\u{1b}[m> \u{1b}[malpha\u{1b}[m\u{1b}[m\r" ++
      codes "\n\r\u{1b}[J\u{1b}[m> \u{1b}[m\u{1b}[m\u{1b}[m\r\n");
}

-- modal words:alpha,alpine
abbrev pub settings_117 : Settings
settings_117 = record plain {
  config = modal plain.config;
  helping = aide false (Some ((codes "alpha") ∷ (codes "alpine") ∷ []));
}

-- al Tab Enter = alpha | shows {} a l {alpha} ␍␊ {} ␍␊
abbrev pub row_117 : Row
row_117 = record (row 117 settings_117 (codes "al\t\r") (codes "alpha\n")) {
  shows = Some
      (codes "\r\u{1b}[J\u{1b}[m> \u{1b}[m\u{1b}[m\u{1b}[mal\r\u{1b}[J\u{1b}[m> \u{1b}[malph" ++
      codes "a\u{1b}[m\u{1b}[m\r\n\r\u{1b}[J\u{1b}[m> \u{1b}[m\u{1b}[m\u{1b}[m\r\n");
}

-- al Tab Tab Enter = alpine | shows {} a l {alpha} {alpine} ␍␊ {} ␍␊
abbrev pub row_118 : Row
row_118 = record (row 118 settings_117 (codes "al\t\t\r") (codes "alpine\n")) {
  shows = Some
      (codes "\r\u{1b}[J\u{1b}[m> \u{1b}[m\u{1b}[m\u{1b}[mal\r\u{1b}[J\u{1b}[m> \u{1b}[malph" ++
      codes "a\u{1b}[m\u{1b}[m\r\u{1b}[J\u{1b}[m> \u{1b}[malpine\u{1b}[m\u{1b}[m\r\n\r" ++
      codes "\u{1b}[J\u{1b}[m> \u{1b}[m\u{1b}[m\u{1b}[m\r\n");
}

-- al Tab Tab Tab Enter = al | shows {} a l {alpha} {alpine} {al} ␇ ␍␊ {} ␍␊
abbrev pub row_119 : Row
row_119 = record (row 119 settings_117 (codes "al\t\t\t\r") (codes "al\n")) {
  shows = Some
      (codes "\r\u{1b}[J\u{1b}[m> \u{1b}[m\u{1b}[m\u{1b}[mal\r\u{1b}[J\u{1b}[m> \u{1b}[malph" ++
      codes "a\u{1b}[m\u{1b}[m\r\u{1b}[J\u{1b}[m> \u{1b}[malpine\u{1b}[m\u{1b}[m\r\u{1b}[J" ++
      codes "\u{1b}[m> \u{1b}[mal\u{1b}[m\u{1b}[m\u{7}\r\n\r\u{1b}[J\u{1b}[m> \u{1b}[m" ++
      codes "\u{1b}[m\u{1b}[m\r\n");
}

-- al Tab Tab Tab Tab Enter = alpha | shows {} a l {alpha} {alpine} {al} ␇ {alpha} ␍␊ {} ␍␊
abbrev pub row_120 : Row
row_120 = record (row 120 settings_117 (codes "al\t\t\t\t\r") (codes "alpha\n")) {
  shows = Some
      (codes "\r\u{1b}[J\u{1b}[m> \u{1b}[m\u{1b}[m\u{1b}[mal\r\u{1b}[J\u{1b}[m> \u{1b}[malph" ++
      codes "a\u{1b}[m\u{1b}[m\r\u{1b}[J\u{1b}[m> \u{1b}[malpine\u{1b}[m\u{1b}[m\r\u{1b}[J" ++
      codes "\u{1b}[m> \u{1b}[mal\u{1b}[m\u{1b}[m\u{7}\r\u{1b}[J\u{1b}[m> \u{1b}[malpha" ++
      codes "\u{1b}[m\u{1b}[m\r\n\r\u{1b}[J\u{1b}[m> \u{1b}[m\u{1b}[m\u{1b}[m\r\n");
}

-- al Tab Tab S-Tab Enter = alpha | shows {} a l {alpha} {alpine} {alpha} ␍␊ {} ␍␊
abbrev pub row_121 : Row
row_121 = record (row 121 settings_117 (codes "al\t\t\u{1b}[Z\r") (codes "alpha\n")) {
  shows = Some
      (codes "\r\u{1b}[J\u{1b}[m> \u{1b}[m\u{1b}[m\u{1b}[mal\r\u{1b}[J\u{1b}[m> \u{1b}[malph" ++
      codes "a\u{1b}[m\u{1b}[m\r\u{1b}[J\u{1b}[m> \u{1b}[malpine\u{1b}[m\u{1b}[m\r\u{1b}[J" ++
      codes "\u{1b}[m> \u{1b}[malpha\u{1b}[m\u{1b}[m\r\n\r\u{1b}[J\u{1b}[m> \u{1b}[m\u{1b}[" ++
      codes "m\u{1b}[m\r\n");
}

-- al Tab S-Tab Enter = al | shows {} a l {alpha} {al} ␇ ␍␊ {} ␍␊
abbrev pub row_122 : Row
row_122 = record (row 122 settings_117 (codes "al\t\u{1b}[Z\r") (codes "al\n")) {
  shows = Some
      (codes "\r\u{1b}[J\u{1b}[m> \u{1b}[m\u{1b}[m\u{1b}[mal\r\u{1b}[J\u{1b}[m> \u{1b}[malph" ++
      codes "a\u{1b}[m\u{1b}[m\r\u{1b}[J\u{1b}[m> \u{1b}[mal\u{1b}[m\u{1b}[m\u{7}\r\n\r" ++
      codes "\u{1b}[J\u{1b}[m> \u{1b}[m\u{1b}[m\u{1b}[m\r\n");
}

-- al Tab S-Tab S-Tab Enter = alpine | shows {} a l {alpha} {al} ␇ {alpine} ␍␊ {} ␍␊
abbrev pub row_123 : Row
row_123 = record (row 123 settings_117 (codes "al\t\u{1b}[Z\u{1b}[Z\r") (codes "alpine\n")) {
  shows = Some
      (codes "\r\u{1b}[J\u{1b}[m> \u{1b}[m\u{1b}[m\u{1b}[mal\r\u{1b}[J\u{1b}[m> \u{1b}[malph" ++
      codes "a\u{1b}[m\u{1b}[m\r\u{1b}[J\u{1b}[m> \u{1b}[mal\u{1b}[m\u{1b}[m\u{7}\r\u{1b}[J" ++
      codes "\u{1b}[m> \u{1b}[malpine\u{1b}[m\u{1b}[m\r\n\r\u{1b}[J\u{1b}[m> \u{1b}[m\u{1b}" ++
      codes "[m\u{1b}[m\r\n");
}

-- al Tab Tab Tab S-Tab Enter = alpine | shows {} a l {alpha} {alpine} {al} ␇ {alpine} ␍␊ {} ␍␊
abbrev pub row_124 : Row
row_124 = record (row 124 settings_117 (codes "al\t\t\t\u{1b}[Z\r") (codes "alpine\n")) {
  shows = Some
      (codes "\r\u{1b}[J\u{1b}[m> \u{1b}[m\u{1b}[m\u{1b}[mal\r\u{1b}[J\u{1b}[m> \u{1b}[malph" ++
      codes "a\u{1b}[m\u{1b}[m\r\u{1b}[J\u{1b}[m> \u{1b}[malpine\u{1b}[m\u{1b}[m\r\u{1b}[J" ++
      codes "\u{1b}[m> \u{1b}[mal\u{1b}[m\u{1b}[m\u{7}\r\u{1b}[J\u{1b}[m> \u{1b}[malpine" ++
      codes "\u{1b}[m\u{1b}[m\r\n\r\u{1b}[J\u{1b}[m> \u{1b}[m\u{1b}[m\u{1b}[m\r\n");
}

-- al S-Tab Enter = al | shows {} a l ␍␊ {} ␍␊
abbrev pub row_125 : Row
row_125 = record (row 125 settings_117 (codes "al\u{1b}[Z\r") (codes "al\n")) {
  shows = Some
      (codes "\r\u{1b}[J\u{1b}[m> \u{1b}[m\u{1b}[m\u{1b}[mal\r\n\r\u{1b}[J\u{1b}[m> \u{1b}[m" ++
      codes "\u{1b}[m\u{1b}[m\r\n");
}

-- al S-Tab Tab Enter = alpha | shows {} a l {alpha} ␍␊ {} ␍␊
abbrev pub row_126 : Row
row_126 = record (row 126 settings_117 (codes "al\u{1b}[Z\t\r") (codes "alpha\n")) {
  shows = Some
      (codes "\r\u{1b}[J\u{1b}[m> \u{1b}[m\u{1b}[m\u{1b}[mal\r\u{1b}[J\u{1b}[m> \u{1b}[malph" ++
      codes "a\u{1b}[m\u{1b}[m\r\n\r\u{1b}[J\u{1b}[m> \u{1b}[m\u{1b}[m\u{1b}[m\r\n");
}

-- Tab Tab Tab Enter = "" | shows {} {alpha} {alpine} {} ␇ ␍␊ {} ␍␊
abbrev pub row_127 : Row
row_127 = record (row 127 settings_117 (codes "\t\t\t\r") (codes "\n")) {
  shows = Some
      (codes "\r\u{1b}[J\u{1b}[m> \u{1b}[m\u{1b}[m\u{1b}[m\r\u{1b}[J\u{1b}[m> \u{1b}[malpha" ++
      codes "\u{1b}[m\u{1b}[m\r\u{1b}[J\u{1b}[m> \u{1b}[malpine\u{1b}[m\u{1b}[m\r\u{1b}[J" ++
      codes "\u{1b}[m> \u{1b}[m\u{1b}[m\u{1b}[m\u{7}\r\n\r\u{1b}[J\u{1b}[m> \u{1b}[m\u{1b}[" ++
      codes "m\u{1b}[m\r\n");
}

-- al M-3 Tab Enter = alpha | shows {} a l ␍␛[J␛[m(arg:␠3)␠␛[mal␛[m␛[m {al} {alpha} ␍␊ {} ␍␊
abbrev pub row_128 : Row
row_128 = record (row 128 settings_117 (codes "al\u{1b}3\t\r") (codes "alpha\n")) {
  shows = Some (codes "\r\u{1b}[J\u{1b}[m> \u{1b}[m\u{1b}[m\u{1b}[mal\r\u{1b}[J\u{1b}[m(arg: 3) " ++
      codes "\u{1b}[mal\u{1b}[m\u{1b}[m\r\u{1b}[J\u{1b}[m> \u{1b}[mal\u{1b}[m\u{1b}[m\r" ++
      codes "\u{1b}[J\u{1b}[m> \u{1b}[malpha\u{1b}[m\u{1b}[m\r\n\r\u{1b}[J\u{1b}[m> \u{1b}[" ++
      codes "m\u{1b}[m\u{1b}[m\r\n");
}

-- al Tab M-- Tab Enter = al | shows {} a l {alpha} ␍␛[J␛[m(arg:␠-1)␠␛[malpha␛[m␛[m {alpha} {al} ␇ ␍␊ {} ␍␊
abbrev pub row_129 : Row
row_129 = record (row 129 settings_117 (codes "al\t\u{1b}-\t\r") (codes "al\n")) {
  shows = Some
      (codes "\r\u{1b}[J\u{1b}[m> \u{1b}[m\u{1b}[m\u{1b}[mal\r\u{1b}[J\u{1b}[m> \u{1b}[malph" ++
      codes "a\u{1b}[m\u{1b}[m\r\u{1b}[J\u{1b}[m(arg: -1) \u{1b}[malpha\u{1b}[m\u{1b}[m\r" ++
      codes "\u{1b}[J\u{1b}[m> \u{1b}[malpha\u{1b}[m\u{1b}[m\r\u{1b}[J\u{1b}[m> \u{1b}[mal" ++
      codes "\u{1b}[m\u{1b}[m\u{7}\r\n\r\u{1b}[J\u{1b}[m> \u{1b}[m\u{1b}[m\u{1b}[m\r\n");
}

-- al Tab Tab C-_ Enter = al | shows {} a l {alpha} {alpine} {al} ␍␊ {} ␍␊
abbrev pub row_132 : Row
row_132 = record (row 132 settings_117 (codes "al\t\t\u{1f}\r") (codes "al\n")) {
  shows = Some
      (codes "\r\u{1b}[J\u{1b}[m> \u{1b}[m\u{1b}[m\u{1b}[mal\r\u{1b}[J\u{1b}[m> \u{1b}[malph" ++
      codes "a\u{1b}[m\u{1b}[m\r\u{1b}[J\u{1b}[m> \u{1b}[malpine\u{1b}[m\u{1b}[m\r\u{1b}[J" ++
      codes "\u{1b}[m> \u{1b}[mal\u{1b}[m\u{1b}[m\r\n\r\u{1b}[J\u{1b}[m> \u{1b}[m\u{1b}[m" ++
      codes "\u{1b}[m\r\n");
}

-- al Tab Tab C-_ C-_ Enter = "" | shows {} a l {alpha} {alpine} {al} {} ␍␊ {} ␍␊
abbrev pub row_133 : Row
row_133 = record (row 133 settings_117 (codes "al\t\t\u{1f}\u{1f}\r") (codes "\n")) {
  shows = Some
      (codes "\r\u{1b}[J\u{1b}[m> \u{1b}[m\u{1b}[m\u{1b}[mal\r\u{1b}[J\u{1b}[m> \u{1b}[malph" ++
      codes "a\u{1b}[m\u{1b}[m\r\u{1b}[J\u{1b}[m> \u{1b}[malpine\u{1b}[m\u{1b}[m\r\u{1b}[J" ++
      codes "\u{1b}[m> \u{1b}[mal\u{1b}[m\u{1b}[m\r\u{1b}[J\u{1b}[m> \u{1b}[m\u{1b}[m\u{1b}" ++
      codes "[m\r\n\r\u{1b}[J\u{1b}[m> \u{1b}[m\u{1b}[m\u{1b}[m\r\n");
}

-- al Tab Tab Tab C-_ Enter = "" | shows {} a l {alpha} {alpine} {al} ␇ {} ␍␊ {} ␍␊
abbrev pub row_134 : Row
row_134 = record (row 134 settings_117 (codes "al\t\t\t\u{1f}\r") (codes "\n")) {
  shows = Some
      (codes "\r\u{1b}[J\u{1b}[m> \u{1b}[m\u{1b}[m\u{1b}[mal\r\u{1b}[J\u{1b}[m> \u{1b}[malph" ++
      codes "a\u{1b}[m\u{1b}[m\r\u{1b}[J\u{1b}[m> \u{1b}[malpine\u{1b}[m\u{1b}[m\r\u{1b}[J" ++
      codes "\u{1b}[m> \u{1b}[mal\u{1b}[m\u{1b}[m\u{7}\r\u{1b}[J\u{1b}[m> \u{1b}[m\u{1b}[m" ++
      codes "\u{1b}[m\r\n\r\u{1b}[J\u{1b}[m> \u{1b}[m\u{1b}[m\u{1b}[m\r\n");
}

-- al Tab Tab C-G x Enter = alx | shows {} a l {alpha} {alpine} {al} x ␍␊ {} ␍␊
abbrev pub row_135 : Row
row_135 = record (row 135 settings_117 (codes "al\t\t\u{7}x\r") (codes "alx\n")) {
  shows = Some
      (codes "\r\u{1b}[J\u{1b}[m> \u{1b}[m\u{1b}[m\u{1b}[mal\r\u{1b}[J\u{1b}[m> \u{1b}[malph" ++
      codes "a\u{1b}[m\u{1b}[m\r\u{1b}[J\u{1b}[m> \u{1b}[malpine\u{1b}[m\u{1b}[m\r\u{1b}[J" ++
      codes "\u{1b}[m> \u{1b}[mal\u{1b}[m\u{1b}[mx\r\n\r\u{1b}[J\u{1b}[m> \u{1b}[m\u{1b}[m" ++
      codes "\u{1b}[m\r\n");
}

-- al Tab C-G C-_ Enter = "" | shows {} a l {alpha} {al} {} ␍␊ {} ␍␊
abbrev pub row_136 : Row
row_136 = record (row 136 settings_117 (codes "al\t\u{7}\u{1f}\r") (codes "\n")) {
  shows = Some
      (codes "\r\u{1b}[J\u{1b}[m> \u{1b}[m\u{1b}[m\u{1b}[mal\r\u{1b}[J\u{1b}[m> \u{1b}[malph" ++
      codes "a\u{1b}[m\u{1b}[m\r\u{1b}[J\u{1b}[m> \u{1b}[mal\u{1b}[m\u{1b}[m\r\u{1b}[J" ++
      codes "\u{1b}[m> \u{1b}[m\u{1b}[m\u{1b}[m\r\n\r\u{1b}[J\u{1b}[m> \u{1b}[m\u{1b}[m" ++
      codes "\u{1b}[m\r\n");
}

-- al Tab Tab Tab C-G x Enter = alx | shows {} a l {alpha} {alpine} {al} ␇ {al} x ␍␊ {} ␍␊
abbrev pub row_137 : Row
row_137 = record (row 137 settings_117 (codes "al\t\t\t\u{7}x\r") (codes "alx\n")) {
  shows = Some
      (codes "\r\u{1b}[J\u{1b}[m> \u{1b}[m\u{1b}[m\u{1b}[mal\r\u{1b}[J\u{1b}[m> \u{1b}[malph" ++
      codes "a\u{1b}[m\u{1b}[m\r\u{1b}[J\u{1b}[m> \u{1b}[malpine\u{1b}[m\u{1b}[m\r\u{1b}[J" ++
      codes "\u{1b}[m> \u{1b}[mal\u{1b}[m\u{1b}[m\u{7}\r\u{1b}[J\u{1b}[m> \u{1b}[mal\u{1b}[" ++
      codes "m\u{1b}[mx\r\n\r\u{1b}[J\u{1b}[m> \u{1b}[m\u{1b}[m\u{1b}[m\r\n");
}

-- al Tab Tab C-G Tab Enter = alpha | shows {} a l {alpha} {alpine} {al} {alpha} ␍␊ {} ␍␊
abbrev pub row_138 : Row
row_138 = record (row 138 settings_117 (codes "al\t\t\u{7}\t\r") (codes "alpha\n")) {
  shows = Some
      (codes "\r\u{1b}[J\u{1b}[m> \u{1b}[m\u{1b}[m\u{1b}[mal\r\u{1b}[J\u{1b}[m> \u{1b}[malph" ++
      codes "a\u{1b}[m\u{1b}[m\r\u{1b}[J\u{1b}[m> \u{1b}[malpine\u{1b}[m\u{1b}[m\r\u{1b}[J" ++
      codes "\u{1b}[m> \u{1b}[mal\u{1b}[m\u{1b}[m\r\u{1b}[J\u{1b}[m> \u{1b}[malpha\u{1b}[m" ++
      codes "\u{1b}[m\r\n\r\u{1b}[J\u{1b}[m> \u{1b}[m\u{1b}[m\u{1b}[m\r\n");
}

-- al Tab C-_ Tab Tab Enter = alpine | shows {} a l {alpha} {al} {alpha} {alpine} ␍␊ {} ␍␊
abbrev pub row_139 : Row
row_139 = record (row 139 settings_117 (codes "al\t\u{1f}\t\t\r") (codes "alpine\n")) {
  shows = Some
      (codes "\r\u{1b}[J\u{1b}[m> \u{1b}[m\u{1b}[m\u{1b}[mal\r\u{1b}[J\u{1b}[m> \u{1b}[malph" ++
      codes "a\u{1b}[m\u{1b}[m\r\u{1b}[J\u{1b}[m> \u{1b}[mal\u{1b}[m\u{1b}[m\r\u{1b}[J" ++
      codes "\u{1b}[m> \u{1b}[malpha\u{1b}[m\u{1b}[m\r\u{1b}[J\u{1b}[m> \u{1b}[malpine" ++
      codes "\u{1b}[m\u{1b}[m\r\n\r\u{1b}[J\u{1b}[m> \u{1b}[m\u{1b}[m\u{1b}[m\r\n");
}

-- al Tab h Enter = alphah | shows {} a l {alpha} h ␍␊ {} ␍␊
abbrev pub row_142 : Row
row_142 = record (row 142 settings_117 (codes "al\th\r") (codes "alphah\n")) {
  shows = Some
      (codes "\r\u{1b}[J\u{1b}[m> \u{1b}[m\u{1b}[m\u{1b}[mal\r\u{1b}[J\u{1b}[m> \u{1b}[malph" ++
      codes "a\u{1b}[m\u{1b}[mh\r\n\r\u{1b}[J\u{1b}[m> \u{1b}[m\u{1b}[m\u{1b}[m\r\n");
}

-- al Tab Left X Enter = alphXa | shows {} a l {alpha} ␛[1D {alphXa}␛[1D ␛[1C␍␊ {} ␍␊
abbrev pub row_143 : Row
row_143 = record (row 143 settings_117 (codes "al\t\u{1b}[DX\r") (codes "alphXa\n")) {
  shows = Some
      (codes "\r\u{1b}[J\u{1b}[m> \u{1b}[m\u{1b}[m\u{1b}[mal\r\u{1b}[J\u{1b}[m> \u{1b}[malph" ++
      codes "a\u{1b}[m\u{1b}[m\u{1b}[1D\r\u{1b}[J\u{1b}[m> \u{1b}[malphXa\u{1b}[m\u{1b}[m" ++
      codes "\u{1b}[1D\u{1b}[1C\r\n\r\u{1b}[J\u{1b}[m> \u{1b}[m\u{1b}[m\u{1b}[m\r\n");
}

-- al Tab Backspace Tab Enter = alpha | shows {} a l {alpha} ␛[1D␛[K {alpha} ␍␊ {} ␍␊
abbrev pub row_144 : Row
row_144 = record (row 144 settings_117 (codes "al\t\u{7f}\t\r") (codes "alpha\n")) {
  shows = Some
      (codes "\r\u{1b}[J\u{1b}[m> \u{1b}[m\u{1b}[m\u{1b}[mal\r\u{1b}[J\u{1b}[m> \u{1b}[malph" ++
      codes "a\u{1b}[m\u{1b}[m\u{1b}[1D\u{1b}[K\r\u{1b}[J\u{1b}[m> \u{1b}[malpha\u{1b}[m" ++
      codes "\u{1b}[m\r\n\r\u{1b}[J\u{1b}[m> \u{1b}[m\u{1b}[m\u{1b}[m\r\n");
}

-- al Tab ␠ Tab Tab Enter = alpha␠alpine | shows {} a l {alpha} ␠ {alpha␠alpha} {alpha␠alpine} ␍␊ {} ␍␊
abbrev pub row_145 : Row
row_145 = record (row 145 settings_117 (codes "al\t \t\t\r") (codes "alpha alpine\n")) {
  shows = Some
      (codes "\r\u{1b}[J\u{1b}[m> \u{1b}[m\u{1b}[m\u{1b}[mal\r\u{1b}[J\u{1b}[m> \u{1b}[malph" ++
      codes "a\u{1b}[m\u{1b}[m \r\u{1b}[J\u{1b}[m> \u{1b}[malpha alpha\u{1b}[m\u{1b}[m\r" ++
      codes "\u{1b}[J\u{1b}[m> \u{1b}[malpha alpine\u{1b}[m\u{1b}[m\r\n\r\u{1b}[J\u{1b}[m> " ++
      codes "\u{1b}[m\u{1b}[m\u{1b}[m\r\n");
}

-- al Tab ␛[999x Tab Enter = alpha | shows {} a l {alpha} {alpha} ␍␊ {} ␍␊
abbrev pub row_146 : Row
row_146 = record (row 146 settings_117 (codes "al\t\u{1b}[999x\t\r") (codes "alpha\n")) {
  shows = Some
      (codes "\r\u{1b}[J\u{1b}[m> \u{1b}[m\u{1b}[m\u{1b}[mal\r\u{1b}[J\u{1b}[m> \u{1b}[malph" ++
      codes "a\u{1b}[m\u{1b}[m\r\u{1b}[J\u{1b}[m> \u{1b}[malpha\u{1b}[m\u{1b}[m\r\n\r\u{1b}" ++
      codes "[J\u{1b}[m> \u{1b}[m\u{1b}[m\u{1b}[m\r\n");
}

-- al Tab Paste x Pasted Enter = alphax | shows {} a l {alpha} {alphax} ␍␊ {} ␍␊
abbrev pub row_147 : Row
row_147 = record (row 147 settings_117 (codes "al\t\u{1b}[200~x\u{1b}[201~\r") (codes "alphax\n")) {
  shows = Some
      (codes "\r\u{1b}[J\u{1b}[m> \u{1b}[m\u{1b}[m\u{1b}[mal\r\u{1b}[J\u{1b}[m> \u{1b}[malph" ++
      codes "a\u{1b}[m\u{1b}[m\r\u{1b}[J\u{1b}[m> \u{1b}[malphax\u{1b}[m\u{1b}[m\r\n\r" ++
      codes "\u{1b}[J\u{1b}[m> \u{1b}[m\u{1b}[m\u{1b}[m\r\n");
}

-- al Tab C-C = nothing | ends Interrupted | shows {} a l {alpha} ␍␊
abbrev pub row_148 : Row
row_148 = record (row 148 settings_117 (codes "al\t\u{3}") []) {
  ends = Interrupted;
  shows = Some
      (codes "\r\u{1b}[J\u{1b}[m> \u{1b}[m\u{1b}[m\u{1b}[mal\r\u{1b}[J\u{1b}[m> \u{1b}[malph" ++
      codes "a\u{1b}[m\u{1b}[m\r\n");
}

-- al Tab Tab Enter al Tab Enter = alpine alpha | shows {} a l {alpha} {alpine} ␍␊ {} a l {alpha} ␍␊ {} ␍␊
abbrev pub row_149 : Row
row_149 = record (row 149 settings_117 (codes "al\t\t\ral\t\r") (codes "alpine\nalpha\n")) {
  shows = Some
      (codes "\r\u{1b}[J\u{1b}[m> \u{1b}[m\u{1b}[m\u{1b}[mal\r\u{1b}[J\u{1b}[m> \u{1b}[malph" ++
      codes "a\u{1b}[m\u{1b}[m\r\u{1b}[J\u{1b}[m> \u{1b}[malpine\u{1b}[m\u{1b}[m\r\n\r" ++
      codes "\u{1b}[J\u{1b}[m> \u{1b}[m\u{1b}[m\u{1b}[mal\r\u{1b}[J\u{1b}[m> \u{1b}[malpha" ++
      codes "\u{1b}[m\u{1b}[m\r\n\r\u{1b}[J\u{1b}[m> \u{1b}[m\u{1b}[m\u{1b}[m\r\n");
}

-- al Tab = nothing | shows {} a l {alpha} ␍␊
abbrev pub row_150 : Row
row_150 = record (row 150 settings_117 (codes "al\t") []) {
  shows = Some
      (codes "\r\u{1b}[J\u{1b}[m> \u{1b}[m\u{1b}[m\u{1b}[mal\r\u{1b}[J\u{1b}[m> \u{1b}[malph" ++
      codes "a\u{1b}[m\u{1b}[m\r\n");
}

-- x␠y C-W Tab C-W C-Y Enter = x␠alpha
abbrev pub row_151 : Row
row_151 = row 151 settings_117 (codes "x y\u{17}\t\u{17}\u{19}\r") (codes "x alpha\n")

-- alph Tab Tab Enter = alpha | shows {} a l p h {alpha} {alpha} ␍␊ {} ␍␊
abbrev pub row_154 : Row
row_154 = record (row 154 settings_117 (codes "alph\t\t\r") (codes "alpha\n")) {
  shows = Some
      (codes "\r\u{1b}[J\u{1b}[m> \u{1b}[m\u{1b}[m\u{1b}[malph\r\u{1b}[J\u{1b}[m> \u{1b}[mal" ++
      codes "pha\u{1b}[m\u{1b}[m\r\u{1b}[J\u{1b}[m> \u{1b}[malpha\u{1b}[m\u{1b}[m\r\n\r" ++
      codes "\u{1b}[J\u{1b}[m> \u{1b}[m\u{1b}[m\u{1b}[m\r\n");
}

-- alph Tab C-G x C-_ C-_ Enter = alph | shows {} a l p h {alpha} x {alpha} {alph} ␍␊ {} ␍␊
abbrev pub row_155 : Row
row_155 = record (row 155 settings_117 (codes "alph\t\u{7}x\u{1f}\u{1f}\r") (codes "alph\n")) {
  shows = Some
      (codes "\r\u{1b}[J\u{1b}[m> \u{1b}[m\u{1b}[m\u{1b}[malph\r\u{1b}[J\u{1b}[m> \u{1b}[mal" ++
      codes "pha\u{1b}[m\u{1b}[mx\r\u{1b}[J\u{1b}[m> \u{1b}[malpha\u{1b}[m\u{1b}[m\r\u{1b}[" ++
      codes "J\u{1b}[m> \u{1b}[malph\u{1b}[m\u{1b}[m\r\n\r\u{1b}[J\u{1b}[m> \u{1b}[m\u{1b}[" ++
      codes "m\u{1b}[m\r\n");
}

-- zz Tab Tab Enter = zz | shows {} z z ␇ ␇ ␍␊ {} ␍␊
abbrev pub row_156 : Row
row_156 = record (row 156 settings_117 (codes "zz\t\t\r") (codes "zz\n")) {
  shows = Some
      (codes "\r\u{1b}[J\u{1b}[m> \u{1b}[m\u{1b}[m\u{1b}[mzz\u{7}\u{7}\r\n\r\u{1b}[J\u{1b}[m" ++
      codes "> \u{1b}[m\u{1b}[m\u{1b}[m\r\n");
}

-- al␠x Left Left Tab Tab C-G y Enter = aly␠x | shows {} a l ␠ x ␛[1D ␛[1D {alpha␠x}␛[2D {alpine␠x}␛[2D {al␠x}␛[2D {aly␠x}␛[2D ␛[2C␍␊ {} ␍␊
abbrev pub row_159 : Row
row_159 = record (row 159 settings_117 (codes "al x\u{1b}[D\u{1b}[D\t\t\u{7}y\r") (codes "aly x\n")) {
  shows = Some (codes "\r\u{1b}[J\u{1b}[m> \u{1b}[m\u{1b}[m\u{1b}[mal x\u{1b}[1D\u{1b}[1D\r\u{1b}[J"
      ++ codes "\u{1b}[m> \u{1b}[malpha x\u{1b}[m\u{1b}[m\u{1b}[2D\r\u{1b}[J\u{1b}[m> \u{1b}[m" ++
      codes "alpine x\u{1b}[m\u{1b}[m\u{1b}[2D\r\u{1b}[J\u{1b}[m> \u{1b}[mal x\u{1b}[m" ++
      codes "\u{1b}[m\u{1b}[2D\r\u{1b}[J\u{1b}[m> \u{1b}[maly x\u{1b}[m\u{1b}[m\u{1b}[2D" ++
      codes "\u{1b}[2C\r\n\r\u{1b}[J\u{1b}[m> \u{1b}[m\u{1b}[m\u{1b}[m\r\n");
}

-- al␠x Left Left Tab Tab Tab y Enter = aly␠x | shows {} a l ␠ x ␛[1D ␛[1D {alpha␠x}␛[2D {alpine␠x}␛[2D {al␠x}␛[2D ␇ {aly␠x}␛[2D ␛[2C␍␊ {} ␍␊
abbrev pub row_160 : Row
row_160 = record (row 160 settings_117 (codes "al x\u{1b}[D\u{1b}[D\t\t\ty\r") (codes "aly x\n")) {
  shows = Some (codes "\r\u{1b}[J\u{1b}[m> \u{1b}[m\u{1b}[m\u{1b}[mal x\u{1b}[1D\u{1b}[1D\r\u{1b}[J"
      ++ codes "\u{1b}[m> \u{1b}[malpha x\u{1b}[m\u{1b}[m\u{1b}[2D\r\u{1b}[J\u{1b}[m> \u{1b}[m" ++
      codes "alpine x\u{1b}[m\u{1b}[m\u{1b}[2D\r\u{1b}[J\u{1b}[m> \u{1b}[mal x\u{1b}[m" ++
      codes "\u{1b}[m\u{1b}[2D\u{7}\r\u{1b}[J\u{1b}[m> \u{1b}[maly x\u{1b}[m\u{1b}[m\u{1b}[" ++
      codes "2D\u{1b}[2C\r\n\r\u{1b}[J\u{1b}[m> \u{1b}[m\u{1b}[m\u{1b}[m\r\n");
}

-- modal vi words:alpha,alpine
abbrev pub settings_163 : Settings
settings_163 = record plain {
  config = modal (vi plain.config);
  helping = aide false (Some ((codes "alpha") ∷ (codes "alpine") ∷ []));
}

-- al Tab Tab Esc x Enter = alpin | shows {} a l {alpha} {alpine} ␛[1D ␛[K ␍␊ {} ␍␊
abbrev pub row_163 : Row
row_163 = record (row 163 settings_163 (codes "al\t\t\u{1b}x\r") (codes "alpin\n")) {
  shows = Some
      (codes "\r\u{1b}[J\u{1b}[m> \u{1b}[m\u{1b}[m\u{1b}[mal\r\u{1b}[J\u{1b}[m> \u{1b}[malph" ++
      codes "a\u{1b}[m\u{1b}[m\r\u{1b}[J\u{1b}[m> \u{1b}[malpine\u{1b}[m\u{1b}[m\u{1b}[1D" ++
      codes "\u{1b}[K\r\n\r\u{1b}[J\u{1b}[m> \u{1b}[m\u{1b}[m\u{1b}[m\r\n");
}

-- al Tab Tab Esc u Enter = al | shows {} a l {alpha} {alpine} ␛[1D {al} ␍␊ {} ␍␊
abbrev pub row_164 : Row
row_164 = record (row 164 settings_163 (codes "al\t\t\u{1b}u\r") (codes "al\n")) {
  shows = Some
      (codes "\r\u{1b}[J\u{1b}[m> \u{1b}[m\u{1b}[m\u{1b}[mal\r\u{1b}[J\u{1b}[m> \u{1b}[malph" ++
      codes "a\u{1b}[m\u{1b}[m\r\u{1b}[J\u{1b}[m> \u{1b}[malpine\u{1b}[m\u{1b}[m\u{1b}[1D\r" ++
      codes "\u{1b}[J\u{1b}[m> \u{1b}[mal\u{1b}[m\u{1b}[m\r\n\r\u{1b}[J\u{1b}[m> \u{1b}[m" ++
      codes "\u{1b}[m\u{1b}[m\r\n");
}

-- al Tab C-G x Enter = alx | shows {} a l {alpha} {al} x ␍␊ {} ␍␊
abbrev pub row_165 : Row
row_165 = record (row 165 settings_163 (codes "al\t\u{7}x\r") (codes "alx\n")) {
  shows = Some
      (codes "\r\u{1b}[J\u{1b}[m> \u{1b}[m\u{1b}[m\u{1b}[mal\r\u{1b}[J\u{1b}[m> \u{1b}[malph" ++
      codes "a\u{1b}[m\u{1b}[m\r\u{1b}[J\u{1b}[m> \u{1b}[mal\u{1b}[m\u{1b}[mx\r\n\r\u{1b}[J" ++
      codes "\u{1b}[m> \u{1b}[m\u{1b}[m\u{1b}[m\r\n");
}

-- al Tab Esc Tab Enter = alpha | shows {} a l {alpha} ␛[1D ␛[1C␍␊ {} ␍␊
abbrev pub row_166 : Row
row_166 = record (row 166 settings_163 (codes "al\t\u{1b}\t\r") (codes "alpha\n")) {
  shows = Some
      (codes "\r\u{1b}[J\u{1b}[m> \u{1b}[m\u{1b}[m\u{1b}[mal\r\u{1b}[J\u{1b}[m> \u{1b}[malph" ++
      codes "a\u{1b}[m\u{1b}[m\u{1b}[1D\u{1b}[1C\r\n\r\u{1b}[J\u{1b}[m> \u{1b}[m\u{1b}[m" ++
      codes "\u{1b}[m\r\n");
}

-- x␠ Esc aal Tab Esc u Enter = x␠al
abbrev pub row_167 : Row
row_167 = row 167 settings_163 (codes "x \u{1b}aal\t\u{1b}u\r") (codes "x al\n")

-- x␠ Esc aal Tab Esc u u Enter = x␠
abbrev pub row_168 : Row
row_168 = row 168 settings_163 (codes "x \u{1b}aal\t\u{1b}uu\r") (codes "x \n")

-- x␠ Esc aalph Tab Esc u Enter = x␠
abbrev pub row_169 : Row
row_169 = row 169 settings_163 (codes "x \u{1b}aalph\t\u{1b}u\r") (codes "x \n")

-- modal words:alpha,alpine loaded:#V2␊git␠status␊make␠alpha␊
abbrev pub settings_173 : Settings
settings_173 = record plain {
  config = modal plain.config;
  helping = aide false (Some ((codes "alpha") ∷ (codes "alpine") ∷ []));
  loaded = codes "#V2\ngit status\nmake alpha\n";
}

-- al Tab C-R ma C-G Enter = alpha | shows {} a l {alpha} ''alpha} 'm'make␠alpha}␛[10D 'ma'make␠alpha}␛[10D {alpha} ␍␊ {} ␍␊
abbrev pub row_173 : Row
row_173 = record (row 173 settings_173 (codes "al\t\u{12}ma\u{7}\r") (codes "alpha\n")) {
  shows = Some
      (codes "\r\u{1b}[J\u{1b}[m> \u{1b}[m\u{1b}[m\u{1b}[mal\r\u{1b}[J\u{1b}[m> \u{1b}[malph" ++
      codes "a\u{1b}[m\u{1b}[m\r\u{1b}[J\u{1b}[m(reverse-i-search)`': \u{1b}[malpha\u{1b}[m" ++
      codes "\u{1b}[m\r\u{1b}[J\u{1b}[m(reverse-i-search)`m': \u{1b}[mmake alpha\u{1b}[m" ++
      codes "\u{1b}[m\u{1b}[10D\r\u{1b}[J\u{1b}[m(reverse-i-search)`ma': \u{1b}[mmake alpha" ++
      codes "\u{1b}[m\u{1b}[m\u{1b}[10D\r\u{1b}[J\u{1b}[m> \u{1b}[malpha\u{1b}[m\u{1b}[m\r" ++
      codes "\n\r\u{1b}[J\u{1b}[m> \u{1b}[m\u{1b}[m\u{1b}[m\r\n");
}

-- al Tab Up Tab Enter = alpha | shows {} a l {alpha} ␇ {alpha} ␍␊ {} ␍␊
abbrev pub row_174 : Row
row_174 = record (row 174 settings_173 (codes "al\t\u{1b}[A\t\r") (codes "alpha\n")) {
  shows = Some
      (codes "\r\u{1b}[J\u{1b}[m> \u{1b}[m\u{1b}[m\u{1b}[mal\r\u{1b}[J\u{1b}[m> \u{1b}[malph" ++
      codes "a\u{1b}[m\u{1b}[m\u{7}\r\u{1b}[J\u{1b}[m> \u{1b}[malpha\u{1b}[m\u{1b}[m\r\n\r" ++
      codes "\u{1b}[J\u{1b}[m> \u{1b}[m\u{1b}[m\u{1b}[m\r\n");
}

-- al Tab C-P Enter = make␠alpha | shows {} a l {alpha} {make␠alpha} ␍␊ {} ␍␊
abbrev pub row_175 : Row
row_175 = record (row 175 settings_173 (codes "al\t\u{10}\r") (codes "make alpha\n")) {
  shows = Some
      (codes "\r\u{1b}[J\u{1b}[m> \u{1b}[m\u{1b}[m\u{1b}[mal\r\u{1b}[J\u{1b}[m> \u{1b}[malph" ++
      codes "a\u{1b}[m\u{1b}[m\r\u{1b}[J\u{1b}[m> \u{1b}[mmake alpha\u{1b}[m\u{1b}[m\r\n\r" ++
      codes "\u{1b}[J\u{1b}[m> \u{1b}[m\u{1b}[m\u{1b}[m\r\n");
}

-- modal helped words:alpha,alpine loaded:#V2␊alphas␊
abbrev pub settings_178 : Settings
settings_178 = record plain {
  config = modal plain.config;
  helping = aide true (Some ((codes "alpha") ∷ (codes "alpine") ∷ []));
  loaded = codes "#V2\nalphas\n";
}

-- al Tab Tab Enter = alpine | shows {} {a␛[mlphas␛[m␛[5D {al␛[mphas␛[m␛[4D {alpha␛[ms␛[m␛[1D {alpine} ␍␊ {} ␍␊
abbrev pub row_178 : Row
row_178 = record (row 178 settings_178 (codes "al\t\t\r") (codes "alpine\n")) {
  shows = Some (codes "\r\u{1b}[J\u{1b}[m> \u{1b}[m\u{1b}[m\u{1b}[m\r\u{1b}[J\u{1b}[m> \u{1b}[ma" ++
      codes "\u{1b}[mlphas\u{1b}[m\u{1b}[5D\r\u{1b}[J\u{1b}[m> \u{1b}[mal\u{1b}[mphas\u{1b}" ++
      codes "[m\u{1b}[4D\r\u{1b}[J\u{1b}[m> \u{1b}[malpha\u{1b}[ms\u{1b}[m\u{1b}[1D\r\u{1b}" ++
      codes "[J\u{1b}[m> \u{1b}[malpine\u{1b}[m\u{1b}[m\r\n\r\u{1b}[J\u{1b}[m> \u{1b}[m" ++
      codes "\u{1b}[m\u{1b}[m\r\n");
}

-- al Tab Right Enter = alphas | shows {} {a␛[mlphas␛[m␛[5D {al␛[mphas␛[m␛[4D {alpha␛[ms␛[m␛[1D {alphas} ␍␊ {} ␍␊
abbrev pub row_179 : Row
row_179 = record (row 179 settings_178 (codes "al\t\u{1b}[C\r") (codes "alphas\n")) {
  shows = Some (codes "\r\u{1b}[J\u{1b}[m> \u{1b}[m\u{1b}[m\u{1b}[m\r\u{1b}[J\u{1b}[m> \u{1b}[ma" ++
      codes "\u{1b}[mlphas\u{1b}[m\u{1b}[5D\r\u{1b}[J\u{1b}[m> \u{1b}[mal\u{1b}[mphas\u{1b}" ++
      codes "[m\u{1b}[4D\r\u{1b}[J\u{1b}[m> \u{1b}[malpha\u{1b}[ms\u{1b}[m\u{1b}[1D\r\u{1b}" ++
      codes "[J\u{1b}[m> \u{1b}[malphas\u{1b}[m\u{1b}[m\r\n\r\u{1b}[J\u{1b}[m> \u{1b}[m" ++
      codes "\u{1b}[m\u{1b}[m\r\n");
}

-- modal words:漢字,漢文
abbrev pub settings_182 : Settings
settings_182 = record plain {
  config = modal plain.config;
  helping = aide false (Some ((encode_utf8_all (codes "漢字")) ∷ (encode_utf8_all (codes "漢文")) ∷
      []));
}

-- 漢 Tab Tab Tab Enter = 漢 | shows {} {␛[m漢␛[m} {␛[m漢␛[m␛[m字␛[m} {␛[m漢␛[m␛[m文␛[m} {␛[m漢␛[m} ␇ ␍␊ {} ␍␊
abbrev pub row_182 : Row
row_182 = record (row 182 settings_182 (encode_utf8_all (codes "漢\t\t\t\r")) (encode_utf8_all
    (codes "漢\n"))) {
      shows = Some (encode_utf8_all
          (codes "\r\u{1b}[J\u{1b}[m> \u{1b}[m\u{1b}[m\u{1b}[m\r\u{1b}[J\u{1b}[m> \u{1b}[m\u{1b}" ++
          codes "[m漢\u{1b}[m\u{1b}[m\u{1b}[m\r\u{1b}[J\u{1b}[m> \u{1b}[m\u{1b}[m漢\u{1b}[m\u{1b}" ++
          codes "[m字\u{1b}[m\u{1b}[m\u{1b}[m\r\u{1b}[J\u{1b}[m> \u{1b}[m\u{1b}[m漢\u{1b}[m\u{1b}" ++
          codes "[m文\u{1b}[m\u{1b}[m\u{1b}[m\r\u{1b}[J\u{1b}[m> \u{1b}[m\u{1b}[m漢\u{1b}[m\u{1b}" ++
          codes "[m\u{1b}[m\u{7}\r\n\r\u{1b}[J\u{1b}[m> \u{1b}[m\u{1b}[m\u{1b}[m\r\n"));
    }

-- modal columns:12 words:alphabetagammadelta,alpine
abbrev pub settings_185 : Settings
settings_185 = record plain {
  config = modal plain.config;
  columns = 12;
  helping = aide false (Some ((codes "alphabetagammadelta") ∷ (codes "alpine") ∷ []));
}

-- al Tab Tab C-G Enter = al | shows {} a l {alphabetag␍␊ammadelta} ␛[1A{alpine} {al} ␍␊ {} ␍␊
abbrev pub row_185 : Row
row_185 = record (row 185 settings_185 (codes "al\t\t\u{7}\r") (codes "al\n")) {
  shows = Some
      (codes "\r\u{1b}[J\u{1b}[m> \u{1b}[m\u{1b}[m\u{1b}[mal\r\u{1b}[J\u{1b}[m> \u{1b}[malph" ++
      codes "abetag\r\nammadelta\u{1b}[m\u{1b}[m\u{1b}[1A\r\u{1b}[J\u{1b}[m> \u{1b}[malpine" ++
      codes "\u{1b}[m\u{1b}[m\r\u{1b}[J\u{1b}[m> \u{1b}[mal\u{1b}[m\u{1b}[m\r\n\r\u{1b}[J" ++
      codes "\u{1b}[m> \u{1b}[m\u{1b}[m\u{1b}[m\r\n");
}

-- modal words:grün,größe
abbrev pub settings_188 : Settings
settings_188 = record plain {
  config = modal plain.config;
  helping = aide false (Some ((encode_utf8_all (codes "grün")) ∷ (encode_utf8_all (codes "größe")) ∷
      []));
}

-- Tab Tab C-G Enter = "" | shows {} {gr␛[mü␛[mn} {gr␛[mö␛[m␛[mß␛[me} {} ␍␊ {} ␍␊
abbrev pub row_188 : Row
row_188 = record (row 188 settings_188 (codes "\t\t\u{7}\r") (codes "\n")) {
  shows = Some (encode_utf8_all
      (codes "\r\u{1b}[J\u{1b}[m> \u{1b}[m\u{1b}[m\u{1b}[m\r\u{1b}[J\u{1b}[m> \u{1b}[mgr" ++
      codes "\u{1b}[mü\u{1b}[mn\u{1b}[m\u{1b}[m\r\u{1b}[J\u{1b}[m> \u{1b}[mgr\u{1b}[mö" ++
      codes "\u{1b}[m\u{1b}[mß\u{1b}[me\u{1b}[m\u{1b}[m\r\u{1b}[J\u{1b}[m> \u{1b}[m\u{1b}[m" ++
      codes "\u{1b}[m\r\n\r\u{1b}[J\u{1b}[m> \u{1b}[m\u{1b}[m\u{1b}[m\r\n"));
}

-- modal words:alp,alpha
abbrev pub settings_192 : Settings
settings_192 = record plain {
  config = modal plain.config;
  helping = aide false (Some ((codes "alp") ∷ (codes "alpha") ∷ []));
}

-- alp Tab Enter = alp | shows {} a l p {alp} ␍␊ {} ␍␊
abbrev pub row_192 : Row
row_192 = record (row 192 settings_192 (codes "alp\t\r") (codes "alp\n")) {
  shows = Some
      (codes "\r\u{1b}[J\u{1b}[m> \u{1b}[m\u{1b}[m\u{1b}[malp\r\u{1b}[J\u{1b}[m> \u{1b}[malp" ++
      codes "\u{1b}[m\u{1b}[m\r\n\r\u{1b}[J\u{1b}[m> \u{1b}[m\u{1b}[m\u{1b}[m\r\n");
}

-- alp Tab Tab Enter = alpha | shows {} a l p {alp} {alpha} ␍␊ {} ␍␊
abbrev pub row_193 : Row
row_193 = record (row 193 settings_192 (codes "alp\t\t\r") (codes "alpha\n")) {
  shows = Some
      (codes "\r\u{1b}[J\u{1b}[m> \u{1b}[m\u{1b}[m\u{1b}[malp\r\u{1b}[J\u{1b}[m> \u{1b}[malp" ++
      codes "\u{1b}[m\u{1b}[m\r\u{1b}[J\u{1b}[m> \u{1b}[malpha\u{1b}[m\u{1b}[m\r\n\r\u{1b}[" ++
      codes "J\u{1b}[m> \u{1b}[m\u{1b}[m\u{1b}[m\r\n");
}

-- alp Tab C-_ C-_ Enter = "" | shows {} a l p {alp} {alp} {} ␍␊ {} ␍␊
abbrev pub row_194 : Row
row_194 = record (row 194 settings_192 (codes "alp\t\u{1f}\u{1f}\r") (codes "\n")) {
  shows = Some
      (codes "\r\u{1b}[J\u{1b}[m> \u{1b}[m\u{1b}[m\u{1b}[malp\r\u{1b}[J\u{1b}[m> \u{1b}[malp" ++
      codes "\u{1b}[m\u{1b}[m\r\u{1b}[J\u{1b}[m> \u{1b}[malp\u{1b}[m\u{1b}[m\r\u{1b}[J" ++
      codes "\u{1b}[m> \u{1b}[m\u{1b}[m\u{1b}[m\r\n\r\u{1b}[J\u{1b}[m> \u{1b}[m\u{1b}[m" ++
      codes "\u{1b}[m\r\n");
}

-- modal words:alpha,alpha
abbrev pub settings_197 : Settings
settings_197 = record plain {
  config = modal plain.config;
  helping = aide false (Some ((codes "alpha") ∷ (codes "alpha") ∷ []));
}

-- alph Tab Tab Tab Enter = alph | shows {} a l p h {alpha} {alpha} {alph} ␇ ␍␊ {} ␍␊
abbrev pub row_197 : Row
row_197 = record (row 197 settings_197 (codes "alph\t\t\t\r") (codes "alph\n")) {
  shows = Some
      (codes "\r\u{1b}[J\u{1b}[m> \u{1b}[m\u{1b}[m\u{1b}[malph\r\u{1b}[J\u{1b}[m> \u{1b}[mal" ++
      codes "pha\u{1b}[m\u{1b}[m\r\u{1b}[J\u{1b}[m> \u{1b}[malpha\u{1b}[m\u{1b}[m\r\u{1b}[J" ++
      codes "\u{1b}[m> \u{1b}[malph\u{1b}[m\u{1b}[m\u{7}\r\n\r\u{1b}[J\u{1b}[m> \u{1b}[m" ++
      codes "\u{1b}[m\u{1b}[m\r\n");
}

-- modal words:,alpha
abbrev pub settings_200 : Settings
settings_200 = record plain {
  config = modal plain.config;
  helping = aide false (Some ([] ∷ (codes "alpha") ∷ []));
}

-- x␠ Tab Enter = x␠ | shows {} x ␠ {x␠} ␇ ␍␊ {} ␍␊
abbrev pub row_200 : Row
row_200 = record (row 200 settings_200 (codes "x \t\r") (codes "x \n")) {
  shows = Some (codes "\r\u{1b}[J\u{1b}[m> \u{1b}[m\u{1b}[m\u{1b}[mx \r\u{1b}[J\u{1b}[m> \u{1b}[mx "
      ++ codes "\u{1b}[m\u{1b}[m\u{7}\r\n\r\u{1b}[J\u{1b}[m> \u{1b}[m\u{1b}[m\u{1b}[m\r\n");
}

-- x␠ Tab Tab Enter = x␠alpha | shows {} x ␠ {x␠} ␇ {x␠alpha} ␍␊ {} ␍␊
abbrev pub row_201 : Row
row_201 = record (row 201 settings_200 (codes "x \t\t\r") (codes "x alpha\n")) {
  shows = Some (codes "\r\u{1b}[J\u{1b}[m> \u{1b}[m\u{1b}[m\u{1b}[mx \r\u{1b}[J\u{1b}[m> \u{1b}[mx "
      ++ codes "\u{1b}[m\u{1b}[m\u{7}\r\u{1b}[J\u{1b}[m> \u{1b}[mx alpha\u{1b}[m\u{1b}[m\r\n\r" ++
      codes "\u{1b}[J\u{1b}[m> \u{1b}[m\u{1b}[m\u{1b}[m\r\n");
}

-- x␠ Tab Tab Tab Enter = x␠ | shows {} x ␠ {x␠} ␇ {x␠alpha} {x␠} ␇ ␍␊ {} ␍␊
abbrev pub row_202 : Row
row_202 = record (row 202 settings_200 (codes "x \t\t\t\r") (codes "x \n")) {
  shows = Some (codes "\r\u{1b}[J\u{1b}[m> \u{1b}[m\u{1b}[m\u{1b}[mx \r\u{1b}[J\u{1b}[m> \u{1b}[mx "
      ++ codes "\u{1b}[m\u{1b}[m\u{7}\r\u{1b}[J\u{1b}[m> \u{1b}[mx alpha\u{1b}[m\u{1b}[m\r" ++
      codes "\u{1b}[J\u{1b}[m> \u{1b}[mx \u{1b}[m\u{1b}[m\u{7}\r\n\r\u{1b}[J\u{1b}[m> " ++
      codes "\u{1b}[m\u{1b}[m\u{1b}[m\r\n");
}

-- x␠ Tab C-G y Enter = x␠y | shows {} x ␠ {x␠} ␇ {x␠} y ␍␊ {} ␍␊
abbrev pub row_203 : Row
row_203 = record (row 203 settings_200 (codes "x \t\u{7}y\r") (codes "x y\n")) {
  shows = Some (codes "\r\u{1b}[J\u{1b}[m> \u{1b}[m\u{1b}[m\u{1b}[mx \r\u{1b}[J\u{1b}[m> \u{1b}[mx "
      ++ codes "\u{1b}[m\u{1b}[m\u{7}\r\u{1b}[J\u{1b}[m> \u{1b}[mx \u{1b}[m\u{1b}[my\r\n\r" ++
      codes "\u{1b}[J\u{1b}[m> \u{1b}[m\u{1b}[m\u{1b}[m\r\n");
}

-- x␠ Tab C-_ Enter = x | shows {} x ␠ {x␠} ␇ {x} ␍␊ {} ␍␊
abbrev pub row_204 : Row
row_204 = record (row 204 settings_200 (codes "x \t\u{1f}\r") (codes "x\n")) {
  shows = Some (codes "\r\u{1b}[J\u{1b}[m> \u{1b}[m\u{1b}[m\u{1b}[mx \r\u{1b}[J\u{1b}[m> \u{1b}[mx "
      ++ codes "\u{1b}[m\u{1b}[m\u{7}\r\u{1b}[J\u{1b}[m> \u{1b}[mx\u{1b}[m\u{1b}[m\r\n\r\u{1b}" ++
      codes "[J\u{1b}[m> \u{1b}[m\u{1b}[m\u{1b}[m\r\n");
}

-- modal
abbrev pub settings_208 : Settings
settings_208 = record plain {
  config = modal plain.config;
}

-- al Tab Tab Enter = al | shows {} a l ␍␊ {} ␍␊
abbrev pub row_208 : Row
row_208 = record (row 208 settings_208 (codes "al\t\t\r") (codes "al\n")) {
  shows = Some
      (codes "\r\u{1b}[J\u{1b}[m> \u{1b}[m\u{1b}[m\u{1b}[mal\r\n\r\u{1b}[J\u{1b}[m> \u{1b}[m" ++
      codes "\u{1b}[m\u{1b}[m\r\n");
}

-- modal listed
abbrev pub settings_211 : Settings
settings_211 = record plain {
  config = listed (modal plain.config);
}

-- al Tab Tab Enter = al | shows {} a l ␍␊ {} ␍␊
abbrev pub row_211 : Row
row_211 = record (row 211 settings_211 (codes "al\t\t\r") (codes "al\n")) {
  shows = Some
      (codes "\r\u{1b}[J\u{1b}[m> \u{1b}[m\u{1b}[m\u{1b}[mal\r\n\r\u{1b}[J\u{1b}[m> \u{1b}[m" ++
      codes "\u{1b}[m\u{1b}[m\r\n");
}

-- modal helped
abbrev pub settings_214 : Settings
settings_214 = record plain {
  config = modal plain.config;
  helping = aide true None;
}

-- al Tab Tab Enter = al | shows {} a l ␇ ␇ ␍␊ {} ␍␊
abbrev pub row_214 : Row
row_214 = record (row 214 settings_214 (codes "al\t\t\r") (codes "al\n")) {
  shows = Some
      (codes "\r\u{1b}[J\u{1b}[m> \u{1b}[m\u{1b}[m\u{1b}[mal\u{7}\u{7}\r\n\r\u{1b}[J\u{1b}[m" ++
      codes "> \u{1b}[m\u{1b}[m\u{1b}[m\r\n");
}

-- listed at-once words:alpha,alpine
abbrev pub settings_218 : Settings
settings_218 = record plain {
  config = at_once (listed plain.config);
  helping = aide false (Some ((codes "alpha") ∷ (codes "alpine") ∷ []));
}

-- al Tab Tab Enter = alp | shows {} a l {alp} ␇ ␍␊ {} ␍␊
abbrev pub row_218 : Row
row_218 = record (row 218 settings_218 (codes "al\t\t\r") (codes "alp\n")) {
  shows = Some
      (codes "\r\u{1b}[J\u{1b}[m> \u{1b}[m\u{1b}[m\u{1b}[mal\r\u{1b}[J\u{1b}[m> \u{1b}[malp" ++
      codes "\u{1b}[m\u{1b}[m\u{7}\r\n\r\u{1b}[J\u{1b}[m> \u{1b}[m\u{1b}[m\u{1b}[m\r\n");
}

-- modal words:alpha ends:␠
abbrev pub settings_222 : Settings
settings_222 = record plain {
  config = modal plain.config;
  helping = aide_ending (codes " ") false (Some ((codes "alpha") ∷ []));
}

-- al Tab x Enter = alpha␠x | shows {} a l {alpha␠} x ␍␊ {} ␍␊
abbrev pub row_222 : Row
row_222 = record (row 222 settings_222 (codes "al\tx\r") (codes "alpha x\n")) {
  shows = Some
      (codes "\r\u{1b}[J\u{1b}[m> \u{1b}[m\u{1b}[m\u{1b}[mal\r\u{1b}[J\u{1b}[m> \u{1b}[malph" ++
      codes "a \u{1b}[m\u{1b}[mx\r\n\r\u{1b}[J\u{1b}[m> \u{1b}[m\u{1b}[m\u{1b}[m\r\n");
}

-- al Tab C-_ Enter = al | shows {} a l {alpha␠} {al} ␍␊ {} ␍␊
abbrev pub row_223 : Row
row_223 = record (row 223 settings_222 (codes "al\t\u{1f}\r") (codes "al\n")) {
  shows = Some
      (codes "\r\u{1b}[J\u{1b}[m> \u{1b}[m\u{1b}[m\u{1b}[mal\r\u{1b}[J\u{1b}[m> \u{1b}[malph" ++
      codes "a \u{1b}[m\u{1b}[m\r\u{1b}[J\u{1b}[m> \u{1b}[mal\u{1b}[m\u{1b}[m\r\n\r\u{1b}[J" ++
      codes "\u{1b}[m> \u{1b}[m\u{1b}[m\u{1b}[m\r\n");
}

-- al Tab Tab Enter = alpha␠alpha␠ | shows {} a l {alpha␠} {alpha␠alpha␠} ␍␊ {} ␍␊
abbrev pub row_224 : Row
row_224 = record (row 224 settings_222 (codes "al\t\t\r") (codes "alpha alpha \n")) {
  shows = Some
      (codes "\r\u{1b}[J\u{1b}[m> \u{1b}[m\u{1b}[m\u{1b}[mal\r\u{1b}[J\u{1b}[m> \u{1b}[malph" ++
      codes "a \u{1b}[m\u{1b}[m\r\u{1b}[J\u{1b}[m> \u{1b}[malpha alpha \u{1b}[m\u{1b}[m\r\n" ++
      codes "\r\u{1b}[J\u{1b}[m> \u{1b}[m\u{1b}[m\u{1b}[m\r\n");
}

-- al␠x Left Left Tab y Enter = alpha␠y␠x | shows {} a l ␠ x ␛[1D ␛[1D {alpha␠␠x}␛[2D {alpha␠y␠x}␛[2D ␛[2C␍␊ {} ␍␊
abbrev pub row_225 : Row
row_225 = record (row 225 settings_222 (codes "al x\u{1b}[D\u{1b}[D\ty\r") (codes "alpha y x\n")) {
  shows = Some (codes "\r\u{1b}[J\u{1b}[m> \u{1b}[m\u{1b}[m\u{1b}[mal x\u{1b}[1D\u{1b}[1D\r\u{1b}[J"
      ++ codes "\u{1b}[m> \u{1b}[malpha  x\u{1b}[m\u{1b}[m\u{1b}[2D\r\u{1b}[J\u{1b}[m> \u{1b}[" ++
      codes "malpha y x\u{1b}[m\u{1b}[m\u{1b}[2D\u{1b}[2C\r\n\r\u{1b}[J\u{1b}[m> \u{1b}[m" ++
      codes "\u{1b}[m\u{1b}[m\r\n");
}

-- modal listed words:alpha,alpine ends:␠
abbrev pub settings_228 : Settings
settings_228 = record plain {
  config = listed (modal plain.config);
  helping = aide_ending (codes " ") false (Some ((codes "alpha") ∷ (codes "alpine") ∷ []));
}

-- al Tab Tab h Tab Enter = alpha␠ | shows {} a l {alp} {alp␛[m␍␊alpha␍␊alpine␛[m␛[2A␛[1D {alp} h {alpha␠} ␍␊ {} ␍␊
abbrev pub row_228 : Row
row_228 = record (row 228 settings_228 (codes "al\t\th\t\r") (codes "alpha \n")) {
  shows = Some
      (codes "\r\u{1b}[J\u{1b}[m> \u{1b}[m\u{1b}[m\u{1b}[mal\r\u{1b}[J\u{1b}[m> \u{1b}[malp" ++
      codes "\u{1b}[m\u{1b}[m\r\u{1b}[J\u{1b}[m> \u{1b}[malp\u{1b}[m\r\nalpha\r\nalpine" ++
      codes "\u{1b}[m\u{1b}[2A\u{1b}[1D\r\u{1b}[J\u{1b}[m> \u{1b}[malp\u{1b}[m\u{1b}[mh\r" ++
      codes "\u{1b}[J\u{1b}[m> \u{1b}[malpha \u{1b}[m\u{1b}[m\r\n\r\u{1b}[J\u{1b}[m> \u{1b}" ++
      codes "[m\u{1b}[m\u{1b}[m\r\n");
}

-- modal words:alpha,alpine ends:␠
abbrev pub settings_231 : Settings
settings_231 = record plain {
  config = modal plain.config;
  helping = aide_ending (codes " ") false (Some ((codes "alpha") ∷ (codes "alpine") ∷ []));
}

-- al Tab Tab Enter = alpine | shows {} a l {alpha} {alpine} ␍␊ {} ␍␊
abbrev pub row_231 : Row
row_231 = record (row 231 settings_231 (codes "al\t\t\r") (codes "alpine\n")) {
  shows = Some
      (codes "\r\u{1b}[J\u{1b}[m> \u{1b}[m\u{1b}[m\u{1b}[mal\r\u{1b}[J\u{1b}[m> \u{1b}[malph" ++
      codes "a\u{1b}[m\u{1b}[m\r\u{1b}[J\u{1b}[m> \u{1b}[malpine\u{1b}[m\u{1b}[m\r\n\r" ++
      codes "\u{1b}[J\u{1b}[m> \u{1b}[m\u{1b}[m\u{1b}[m\r\n");
}

-- alph Tab x Enter = alpha␠x | shows {} a l p h {alpha␠} x ␍␊ {} ␍␊
abbrev pub row_232 : Row
row_232 = record (row 232 settings_231 (codes "alph\tx\r") (codes "alpha x\n")) {
  shows = Some
      (codes "\r\u{1b}[J\u{1b}[m> \u{1b}[m\u{1b}[m\u{1b}[malph\r\u{1b}[J\u{1b}[m> \u{1b}[mal" ++
      codes "pha \u{1b}[m\u{1b}[mx\r\n\r\u{1b}[J\u{1b}[m> \u{1b}[m\u{1b}[m\u{1b}[m\r\n");
}

-- modal vi words:"my␠file ends:"
abbrev pub settings_235 : Settings
settings_235 = record plain {
  config = modal (vi plain.config);
  helping = aide_ending (codes "\"") false (Some ((codes "\"my file") ∷ []));
}

-- ls␠"my Tab Enter = ls␠"my␠file" | shows {} l s ␠ " m y {ls␠"my␠file"} ␍␊ {} ␍␊
abbrev pub row_235 : Row
row_235 = record (row 235 settings_235 (codes "ls \"my\t\r") (codes "ls \"my file\"\n")) {
  shows = Some
      (codes "\r\u{1b}[J\u{1b}[m> \u{1b}[m\u{1b}[m\u{1b}[mls \"my\r\u{1b}[J\u{1b}[m> \u{1b}[" ++
      codes "mls \"my file\"\u{1b}[m\u{1b}[m\r\n\r\u{1b}[J\u{1b}[m> \u{1b}[m\u{1b}[m\u{1b}[" ++
      codes "m\r\n");
}

-- words:alpha ends:␠
abbrev pub settings_238 : Settings
settings_238 = record plain {
  helping = aide_ending (codes " ") false (Some ((codes "alpha") ∷ []));
}

-- al Tab Enter = alpha | shows {} a l {alpha} ␍␊ {} ␍␊
abbrev pub row_238 : Row
row_238 = record (row 238 settings_238 (codes "al\t\r") (codes "alpha\n")) {
  shows = Some
      (codes "\r\u{1b}[J\u{1b}[m> \u{1b}[m\u{1b}[m\u{1b}[mal\r\u{1b}[J\u{1b}[m> \u{1b}[malph" ++
      codes "a\u{1b}[m\u{1b}[m\r\n\r\u{1b}[J\u{1b}[m> \u{1b}[m\u{1b}[m\u{1b}[m\r\n");
}

abbrev pub candidates_rows : List Row
candidates_rows = row_7 ∷ row_8 ∷ row_9 ∷ row_10 ∷ row_11 ∷ row_12 ∷ row_13 ∷ row_14 ∷ row_15 ∷
    row_16 ∷ row_17 ∷ row_18 ∷ row_19 ∷ row_20 ∷ row_21 ∷ row_22 ∷ row_23 ∷ row_24 ∷ row_25 ∷ row_26
    ∷ row_29 ∷ row_30 ∷ row_31 ∷ row_32 ∷ row_33 ∷ row_34 ∷ row_37 ∷ row_38 ∷ row_39 ∷ row_40 ∷
    row_41 ∷ row_42 ∷ row_45 ∷ row_46 ∷ row_49 ∷ row_50 ∷ row_51 ∷ row_52 ∷ row_53 ∷ row_57 ∷ row_58
    ∷ row_59 ∷ row_62 ∷ row_66 ∷ row_67 ∷ row_68 ∷ row_72 ∷ row_73 ∷ row_76 ∷ row_77 ∷ row_80 ∷
    row_84 ∷ row_85 ∷ row_86 ∷ row_87 ∷ row_88 ∷ row_91 ∷ row_95 ∷ row_98 ∷ row_101 ∷ row_104 ∷
    row_107 ∷ row_110 ∷ row_113 ∷ row_117 ∷ row_118 ∷ row_119 ∷ row_120 ∷ row_121 ∷ row_122 ∷
    row_123 ∷ row_124 ∷ row_125 ∷ row_126 ∷ row_127 ∷ row_128 ∷ row_129 ∷ row_132 ∷ row_133 ∷
    row_134 ∷ row_135 ∷ row_136 ∷ row_137 ∷ row_138 ∷ row_139 ∷ row_142 ∷ row_143 ∷ row_144 ∷
    row_145 ∷ row_146 ∷ row_147 ∷ row_148 ∷ row_149 ∷ row_150 ∷ row_151 ∷ row_154 ∷ row_155 ∷
    row_156 ∷ row_159 ∷ row_160 ∷ row_163 ∷ row_164 ∷ row_165 ∷ row_166 ∷ row_167 ∷ row_168 ∷
    row_169 ∷ row_173 ∷ row_174 ∷ row_175 ∷ row_178 ∷ row_179 ∷ row_182 ∷ row_185 ∷ row_188 ∷
    row_192 ∷ row_193 ∷ row_194 ∷ row_197 ∷ row_200 ∷ row_201 ∷ row_202 ∷ row_203 ∷ row_204 ∷
    row_208 ∷ row_211 ∷ row_214 ∷ row_218 ∷ row_222 ∷ row_223 ∷ row_224 ∷ row_225 ∷ row_228 ∷
    row_231 ∷ row_232 ∷ row_235 ∷ row_238 ∷ []
