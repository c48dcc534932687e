-- The rows of faults.txt; tests/definition/worked_rows.py writes them.
use Rattle.line_config.specs.declared.device.Last.TheVariants.{Failed}
use Rattle.line_config.specs.declared.errors.ReadlineError.TheVariants.{Handler, Reader}
use Rattle.line_keys.specs.Keys.{ctrl, key_with, none}
use Rattle.line_keys.specs.declared.command.Cmd.TheVariants.{AcceptLine}
use Rattle.line_keys.specs.declared.events.Event.TheVariants.{KeySeq}
use Rattle.line_keys.specs.declared.key.KeyCode.TheVariants.{Char, Esc}
use Rattle.stand_ins.specs.Handlers.{one_way}
use Rattle.stand_ins.specs.declared.handlers.OneWay.TheVariants.{Fails}
use Rattle.std.specs.Prelude.{List, [], ◌∷◌, ◌++◌, Some, false, codes}
use Rattle.worked_rows.specs.Playing.{Row, row}
use Rattle.worked_rows.specs.Settings.{Settings, aide, bound, command, listed, modal, plain, vi}

-- keys@end
abbrev pub settings_5 : Settings
settings_5 = record plain {
  last = Failed;
}

-- nothing = nothing | ends Reader | shows {}
abbrev pub row_5 : Row
row_5 = record (row 5 settings_5 [] []) {
  ends = Reader;
  shows = Some (codes "\r\u{1b}[J\u{1b}[m> \u{1b}[m\u{1b}[m\u{1b}[m");
}

-- a = nothing | ends Reader | shows {} a
abbrev pub row_6 : Row
row_6 = record (row 6 settings_5 (codes "a") []) {
  ends = Reader;
  shows = Some (codes "\r\u{1b}[J\u{1b}[m> \u{1b}[m\u{1b}[m\u{1b}[ma");
}

-- ab Esc = nothing | ends Reader | shows {} a b
abbrev pub row_7 : Row
row_7 = record (row 7 settings_5 (codes "ab\u{1b}") []) {
  ends = Reader;
  shows = Some (codes "\r\u{1b}[J\u{1b}[m> \u{1b}[m\u{1b}[m\u{1b}[mab");
}

-- ab ␛[ = nothing | ends Reader | shows {} a b
abbrev pub row_8 : Row
row_8 = record (row 8 settings_5 (codes "ab\u{1b}[") []) {
  ends = Reader;
  shows = Some (codes "\r\u{1b}[J\u{1b}[m> \u{1b}[m\u{1b}[m\u{1b}[mab");
}

-- ab Left = nothing | ends Reader | shows {} a b ␛[1D
abbrev pub row_9 : Row
row_9 = record (row 9 settings_5 (codes "ab\u{1b}[D") []) {
  ends = Reader;
  shows = Some (codes "\r\u{1b}[J\u{1b}[m> \u{1b}[m\u{1b}[m\u{1b}[mab\u{1b}[1D");
}

-- ab Left Enter = ab | ends Reader | shows {} a b ␛[1D ␛[1C␍␊ {}
abbrev pub row_10 : Row
row_10 = record (row 10 settings_5 (codes "ab\u{1b}[D\r") (codes "ab\n")) {
  ends = Reader;
  shows = Some
      (codes "\r\u{1b}[J\u{1b}[m> \u{1b}[m\u{1b}[m\u{1b}[mab\u{1b}[1D\u{1b}[1C\r\n\r\u{1b}[J" ++
      codes "\u{1b}[m> \u{1b}[m\u{1b}[m\u{1b}[m");
}

-- ab Enter c = ab | ends Reader | shows {} a b ␍␊ {} c
abbrev pub row_11 : Row
row_11 = record (row 11 settings_5 (codes "ab\rc") (codes "ab\n")) {
  ends = Reader;
  shows = Some
      (codes "\r\u{1b}[J\u{1b}[m> \u{1b}[m\u{1b}[m\u{1b}[mab\r\n\r\u{1b}[J\u{1b}[m> \u{1b}[m" ++
      codes "\u{1b}[m\u{1b}[mc");
}

-- ab Left Enter c Enter = ab c | ends Reader | shows {} a b ␛[1D ␛[1C␍␊ {} c ␍␊ {}
abbrev pub row_12 : Row
row_12 = record (row 12 settings_5 (codes "ab\u{1b}[D\rc\r") (codes "ab\nc\n")) {
  ends = Reader;
  shows = Some
      (codes "\r\u{1b}[J\u{1b}[m> \u{1b}[m\u{1b}[m\u{1b}[mab\u{1b}[1D\u{1b}[1C\r\n\r\u{1b}[J" ++
      codes "\u{1b}[m> \u{1b}[m\u{1b}[m\u{1b}[mc\r\n\r\u{1b}[J\u{1b}[m> \u{1b}[m\u{1b}[m" ++
      codes "\u{1b}[m");
}

-- a Left M-2 = nothing | ends Reader | shows {} a ␛[1D ␍␛[J␛[m(arg:␠2)␠␛[ma␛[m␛[m␛[1D
abbrev pub row_13 : Row
row_13 = record (row 13 settings_5 (codes "a\u{1b}[D\u{1b}2") []) {
  ends = Reader;
  shows = Some
      (codes "\r\u{1b}[J\u{1b}[m> \u{1b}[m\u{1b}[m\u{1b}[ma\u{1b}[1D\r\u{1b}[J\u{1b}[m(arg: " ++
      codes "2) \u{1b}[ma\u{1b}[m\u{1b}[m\u{1b}[1D");
}

-- a Left M-2 b = nothing | ends Reader | shows {} a ␛[1D ␍␛[J␛[m(arg:␠2)␠␛[ma␛[m␛[m␛[1D {a}␛[1D {bba}␛[1D
abbrev pub row_14 : Row
row_14 = record (row 14 settings_5 (codes "a\u{1b}[D\u{1b}2b") []) {
  ends = Reader;
  shows = Some
      (codes "\r\u{1b}[J\u{1b}[m> \u{1b}[m\u{1b}[m\u{1b}[ma\u{1b}[1D\r\u{1b}[J\u{1b}[m(arg: " ++
      codes "2) \u{1b}[ma\u{1b}[m\u{1b}[m\u{1b}[1D\r\u{1b}[J\u{1b}[m> \u{1b}[ma\u{1b}[m" ++
      codes "\u{1b}[m\u{1b}[1D\r\u{1b}[J\u{1b}[m> \u{1b}[mbba\u{1b}[m\u{1b}[m\u{1b}[1D");
}

-- C-x = nothing | ends Reader | shows {}
abbrev pub row_15 : Row
row_15 = record (row 15 settings_5 (codes "\u{18}") []) {
  ends = Reader;
  shows = Some (codes "\r\u{1b}[J\u{1b}[m> \u{1b}[m\u{1b}[m\u{1b}[m");
}

-- Paste ab Pasted = nothing | ends Reader | shows {} {ab}
abbrev pub row_16 : Row
row_16 = record (row 16 settings_5 (codes "\u{1b}[200~ab\u{1b}[201~") []) {
  ends = Reader;
  shows = Some (codes "\r\u{1b}[J\u{1b}[m> \u{1b}[m\u{1b}[m\u{1b}[m\r\u{1b}[J\u{1b}[m> \u{1b}[mab"
      ++ codes "\u{1b}[m\u{1b}[m");
}

-- bind:C-O⇒Fails
abbrev pub settings_81 : Settings
settings_81 = record plain {
  custom = bound ((KeySeq ((key_with (Char 79) ctrl) ∷ []), one_way Fails) ∷ []);
}

-- a Enter b C-O = a | ends Handler | shows {} a ␍␊ {} b
abbrev pub row_81 : Row
row_81 = record (row 81 settings_81 (codes "a\rb\u{f}") (codes "a\n")) {
  ends = Handler;
  shows = Some
      (codes "\r\u{1b}[J\u{1b}[m> \u{1b}[m\u{1b}[m\u{1b}[ma\r\n\r\u{1b}[J\u{1b}[m> \u{1b}[m" ++
      codes "\u{1b}[m\u{1b}[mb");
}

-- bind:Esc⇒AcceptLine keys@end
abbrev pub settings_84 : Settings
settings_84 = record plain {
  custom = bound ((KeySeq ((key_with Esc none) ∷ []), command AcceptLine) ∷ []);
  last = Failed;
}

-- ab Esc = nothing | ends Reader | shows {} a b
abbrev pub row_84 : Row
row_84 = record (row 84 settings_84 (codes "ab\u{1b}") []) {
  ends = Reader;
  shows = Some (codes "\r\u{1b}[J\u{1b}[m> \u{1b}[m\u{1b}[m\u{1b}[mab");
}

-- modal keys@end loaded:#V2␊make␠test␊
abbrev pub settings_92 : Settings
settings_92 = record plain {
  config = modal plain.config;
  loaded = codes "#V2\nmake test\n";
  last = Failed;
}

-- C-R t = nothing | ends Reader | shows {} ''} 't'make␠test}␛[4D
abbrev pub row_92 : Row
row_92 = record (row 92 settings_92 (codes "\u{12}t") []) {
  ends = Reader;
  shows = Some
      (codes "\r\u{1b}[J\u{1b}[m> \u{1b}[m\u{1b}[m\u{1b}[m\r\u{1b}[J\u{1b}[m(reverse-i-searc" ++
      codes "h)`': \u{1b}[m\u{1b}[m\u{1b}[m\r\u{1b}[J\u{1b}[m(reverse-i-search)`t': \u{1b}[" ++
      codes "mmake test\u{1b}[m\u{1b}[m\u{1b}[4D");
}

-- modal bind:C-O⇒Fails loaded:#V2␊make␠test␊
abbrev pub settings_95 : Settings
settings_95 = record plain {
  config = modal plain.config;
  custom = bound ((KeySeq ((key_with (Char 79) ctrl) ∷ []), one_way Fails) ∷ []);
  loaded = codes "#V2\nmake test\n";
}

-- C-R t C-O = nothing | ends Handler | shows {} ''} 't'make␠test}␛[4D
abbrev pub row_95 : Row
row_95 = record (row 95 settings_95 (codes "\u{12}t\u{f}") []) {
  ends = Handler;
  shows = Some
      (codes "\r\u{1b}[J\u{1b}[m> \u{1b}[m\u{1b}[m\u{1b}[m\r\u{1b}[J\u{1b}[m(reverse-i-searc" ++
      codes "h)`': \u{1b}[m\u{1b}[m\u{1b}[m\r\u{1b}[J\u{1b}[m(reverse-i-search)`t': \u{1b}[" ++
      codes "mmake test\u{1b}[m\u{1b}[m\u{1b}[4D");
}

-- modal keys@end listed words:alpha,alpine
abbrev pub settings_105 : Settings
settings_105 = record plain {
  config = listed (modal plain.config);
  helping = aide false (Some ((codes "alpha") ∷ (codes "alpine") ∷ []));
  last = Failed;
}

-- alp Tab Tab = nothing | ends Reader | shows {} a l p ␇ {alp␛[m␍␊alpha␍␊alpine␛[m␛[2A␛[1D
abbrev pub row_105 : Row
row_105 = record (row 105 settings_105 (codes "alp\t\t") []) {
  ends = Reader;
  shows = Some
      (codes "\r\u{1b}[J\u{1b}[m> \u{1b}[m\u{1b}[m\u{1b}[malp\u{7}\r\u{1b}[J\u{1b}[m> \u{1b}" ++
      codes "[malp\u{1b}[m\r\nalpha\r\nalpine\u{1b}[m\u{1b}[2A\u{1b}[1D");
}

-- modal keys@end words:alpha,alpine
abbrev pub settings_108 : Settings
settings_108 = record plain {
  config = modal plain.config;
  helping = aide false (Some ((codes "alpha") ∷ (codes "alpine") ∷ []));
  last = Failed;
}

-- al Tab Tab Tab = nothing | ends Reader | shows {} a l {alpha} {alpine} {al} ␇
abbrev pub row_108 : Row
row_108 = record (row 108 settings_108 (codes "al\t\t\t") []) {
  ends = Reader;
  shows = Some
      (codes "\r\u{1b}[J\u{1b}[m> \u{1b}[m\u{1b}[m\u{1b}[mal\r\u{1b}[J\u{1b}[m> \u{1b}[malph" ++
      codes "a\u{1b}[m\u{1b}[m\r\u{1b}[J\u{1b}[m> \u{1b}[malpine\u{1b}[m\u{1b}[m\r\u{1b}[J" ++
      codes "\u{1b}[m> \u{1b}[mal\u{1b}[m\u{1b}[m\u{7}");
}

-- modal bind:C-O⇒Fails words:alpha,alpine
abbrev pub settings_111 : Settings
settings_111 = record plain {
  config = modal plain.config;
  custom = bound ((KeySeq ((key_with (Char 79) ctrl) ∷ []), one_way Fails) ∷ []);
  helping = aide false (Some ((codes "alpha") ∷ (codes "alpine") ∷ []));
}

-- al Tab C-O = nothing | ends Handler | shows {} a l {alpha}
abbrev pub row_111 : Row
row_111 = record (row 111 settings_111 (codes "al\t\u{f}") []) {
  ends = Handler;
  shows = Some
      (codes "\r\u{1b}[J\u{1b}[m> \u{1b}[m\u{1b}[m\u{1b}[mal\r\u{1b}[J\u{1b}[m> \u{1b}[malph" ++
      codes "a\u{1b}[m\u{1b}[m");
}

-- modal vi keys@end loaded:#V2␊test␊make␠test␊
abbrev pub settings_117 : Settings
settings_117 = record plain {
  config = modal (vi plain.config);
  loaded = codes "#V2\ntest\nmake test\n";
  last = Failed;
}

-- C-R t Esc n = nothing | ends Reader | shows {} ''} 't'make␠test}␛[4D {make␠test}␛[4D ␛[1D {test}␛[4D
abbrev pub row_117 : Row
row_117 = record (row 117 settings_117 (codes "\u{12}t\u{1b}n") []) {
  ends = Reader;
  shows = Some
      (codes "\r\u{1b}[J\u{1b}[m> \u{1b}[m\u{1b}[m\u{1b}[m\r\u{1b}[J\u{1b}[m(reverse-i-searc" ++
      codes "h)`': \u{1b}[m\u{1b}[m\u{1b}[m\r\u{1b}[J\u{1b}[m(reverse-i-search)`t': \u{1b}[" ++
      codes "mmake test\u{1b}[m\u{1b}[m\u{1b}[4D\r\u{1b}[J\u{1b}[m> \u{1b}[mmake test\u{1b}" ++
      codes "[m\u{1b}[m\u{1b}[4D\u{1b}[1D\r\u{1b}[J\u{1b}[m> \u{1b}[mtest\u{1b}[m\u{1b}[m" ++
      codes "\u{1b}[4D");
}

abbrev pub faults_rows : List Row
faults_rows = row_5 ∷ row_6 ∷ row_7 ∷ row_8 ∷ row_9 ∷ row_10 ∷ row_11 ∷ row_12 ∷ row_13 ∷ row_14 ∷
    row_15 ∷ row_16 ∷ row_81 ∷ row_84 ∷ row_92 ∷ row_95 ∷ row_105 ∷ row_108 ∷ row_111 ∷ row_117 ∷ []
