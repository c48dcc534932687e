-- The rows of worked.txt; tests/definition/worked_rows.py writes them.
use Rattle.line_buffer.specs.declared.layout.GraphemeClusterMode.TheVariants.{NoZwj}
use Rattle.line_config.specs.declared.errors.ReadlineError.TheVariants.{Handler, Interrupted}
use Rattle.line_keys.specs.Keys.{ctrl, key_with}
use Rattle.line_keys.specs.declared.command.Cmd.TheVariants.{AcceptLine, HistorySearchBackward, SelfInsert}
use Rattle.line_keys.specs.declared.events.Event.TheVariants.{KeySeq}
use Rattle.line_keys.specs.declared.key.KeyCode.TheVariants.{Char}
use Rattle.stand_ins.specs.Handlers.{hint_or_kill, one_way}
use Rattle.stand_ins.specs.declared.handlers.OneWay.TheVariants.{Count, Fails, Nothing}
use Rattle.std.specs.Prelude.{List, [], ◌∷◌, ◌++◌, None, Some, true, false, codes, encode_utf8_all}
use Rattle.worked_rows.specs.Playing.{Row, row}
use Rattle.worked_rows.specs.Settings.{Settings, aide, bound, command, counting, plain, vi}

-- abcdef C-a M-- 2 C-f Enter = abcdef
abbrev pub row_4 : Row
row_4 = row 4 plain (codes "abcdef\u{1}\u{1b}-2\u{6}\r") (codes "abcdef\n")

-- abcdefghijklmnopqrstuvwxyz M-- 2 3 C-f X Enter = abcdefghiXjklmnopqrstuvwxyz
abbrev pub row_5 : Row
row_5 = row 5 plain (codes "abcdefghijklmnopqrstuvwxyz\u{1b}-23\u{6}X\r")
    (codes "abcdefghiXjklmnopqrstuvwxyz\n")

-- abcdefgh M-- 1 5 C-f X Enter = abcXdefgh
abbrev pub row_6 : Row
row_6 = row 6 plain (codes "abcdefgh\u{1b}-15\u{6}X\r") (codes "abcXdefgh\n")

-- M-0 x Enter = x
abbrev pub row_7 : Row
row_7 = row 7 plain (codes "\u{1b}0x\r") (codes "x\n")

-- ab C-w C-x C-u Enter = ab
abbrev pub row_8 : Row
row_8 = row 8 plain (codes "ab\u{17}\u{18}\u{15}\r") (codes "ab\n")

-- C-d = nothing | shows {} ␍␊
abbrev pub row_9 : Row
row_9 = record (row 9 plain (codes "\u{4}") []) {
  shows = Some (codes "\r\u{1b}[J\u{1b}[m> \u{1b}[m\u{1b}[m\u{1b}[m\r\n");
}

-- a C-a C-d Enter = ""
abbrev pub row_10 : Row
row_10 = row 10 plain (codes "a\u{1}\u{4}\r") (codes "\n")

-- a Left Enter = a | shows {} a ␛[1D ␛[1C␍␊ {} ␍␊
abbrev pub row_11 : Row
row_11 = record (row 11 plain (codes "a\u{1b}[D\r") (codes "a\n")) {
  shows = Some
      (codes "\r\u{1b}[J\u{1b}[m> \u{1b}[m\u{1b}[m\u{1b}[ma\u{1b}[1D\u{1b}[1C\r\n\r\u{1b}[J" ++
      codes "\u{1b}[m> \u{1b}[m\u{1b}[m\u{1b}[m\r\n");
}

-- w C-a M-t = nothing | shows {} w ␛[1D {w} ␍␊
abbrev pub row_12 : Row
row_12 = record (row 12 plain (codes "w\u{1}\u{1b}t") []) {
  shows = Some (codes "\r\u{1b}[J\u{1b}[m> \u{1b}[m\u{1b}[m\u{1b}[mw\u{1b}[1D\r\u{1b}[J\u{1b}[m> "
      ++ codes "\u{1b}[mw\u{1b}[m\u{1b}[m\r\n");
}

-- bind:C-X→C-E⇒AcceptLine
abbrev pub settings_15 : Settings
settings_15 = record plain {
  custom = bound ((
    KeySeq ((key_with (Char 88) ctrl) ∷ (key_with (Char 69) ctrl) ∷ []),
    command
        AcceptLine,
  ) ∷ []);
}

-- a C-x z q Enter = aq
abbrev pub row_15 : Row
row_15 = row 15 settings_15 (codes "a\u{18}zq\r") (codes "aq\n")

-- a C-x C-u b Enter = b
abbrev pub row_16 : Row
row_16 = row 16 settings_15 (codes "a\u{18}\u{15}b\r") (codes "b\n")

-- a C-x C-e = a
abbrev pub row_17 : Row
row_17 = row 17 settings_15 (codes "a\u{18}\u{5}") (codes "a\n")

-- bind:C-O⇒SelfInsert·1·x
abbrev pub settings_20 : Settings
settings_20 = record plain {
  custom = bound ((KeySeq ((key_with (Char 79) ctrl) ∷ []), command (SelfInsert 1 120)) ∷ []);
}

-- M-3 C-o Enter = xxx
abbrev pub row_20 : Row
row_20 = row 20 settings_20 (codes "\u{1b}3\u{f}\r") (codes "xxx\n")

-- bind:C-O⇒Fails
abbrev pub settings_23 : Settings
settings_23 = record plain {
  custom = bound ((KeySeq ((key_with (Char 79) ctrl) ∷ []), one_way Fails) ∷ []);
}

-- ab C-o = nothing | ends Handler | shows {} a b
abbrev pub row_23 : Row
row_23 = record (row 23 settings_23 (codes "ab\u{f}") []) {
  ends = Handler;
  shows = Some (codes "\r\u{1b}[J\u{1b}[m> \u{1b}[m\u{1b}[m\u{1b}[mab");
}

-- a Enter b C-o = a | ends Handler | shows {} a ␍␊ {} b
abbrev pub row_24 : Row
row_24 = record (row 24 settings_23 (codes "a\rb\u{f}") (codes "a\n")) {
  ends = Handler;
  shows = Some
      (codes "\r\u{1b}[J\u{1b}[m> \u{1b}[m\u{1b}[m\u{1b}[ma\r\n\r\u{1b}[J\u{1b}[m> \u{1b}[m" ++
      codes "\u{1b}[m\u{1b}[mb");
}

-- bind:C-O⇒HistorySearchBackward
abbrev pub settings_27 : Settings
settings_27 = record plain {
  custom = bound ((KeySeq ((key_with (Char 79) ctrl) ∷ []), command HistorySearchBackward) ∷ []);
}

-- C-o = nothing | shows {} ␇ ␍␊
abbrev pub row_27 : Row
row_27 = record (row 27 settings_27 (codes "\u{f}") []) {
  shows = Some (codes "\r\u{1b}[J\u{1b}[m> \u{1b}[m\u{1b}[m\u{1b}[m\u{7}\r\n");
}

-- bind:C-O⇒HistorySearchBackward loaded:#V2␊line0␊line1␊
abbrev pub settings_35 : Settings
settings_35 = record plain {
  custom = bound ((KeySeq ((key_with (Char 79) ctrl) ∷ []), command HistorySearchBackward) ∷ []);
  loaded = codes "#V2\nline0\nline1\n";
}

-- l C-O Enter = line1 | shows {} l {line1}␛[4D ␛[4C␍␊ {} ␍␊
abbrev pub row_35 : Row
row_35 = record (row 35 settings_35 (codes "l\u{f}\r") (codes "line1\n")) {
  shows = Some
      (codes "\r\u{1b}[J\u{1b}[m> \u{1b}[m\u{1b}[m\u{1b}[ml\r\u{1b}[J\u{1b}[m> \u{1b}[mline1" ++
      codes "\u{1b}[m\u{1b}[m\u{1b}[4D\u{1b}[4C\r\n\r\u{1b}[J\u{1b}[m> \u{1b}[m\u{1b}[m" ++
      codes "\u{1b}[m\r\n");
}

-- helped loaded:#V2␊abcd␊
abbrev pub settings_39 : Settings
settings_39 = record plain {
  helping = aide true None;
  loaded = codes "#V2\nabcd\n";
}

-- a C-c = nothing | ends Interrupted | shows {} {a␛[mbcd␛[m␛[3D ␛[3C␍␊
abbrev pub row_39 : Row
row_39 = record (row 39 settings_39 (codes "a\u{3}") []) {
  ends = Interrupted;
  shows = Some (codes "\r\u{1b}[J\u{1b}[m> \u{1b}[m\u{1b}[m\u{1b}[m\r\u{1b}[J\u{1b}[m> \u{1b}[ma" ++
      codes "\u{1b}[mbcd\u{1b}[m\u{1b}[3D\u{1b}[3C\r\n");
}

-- bind:C-O⇒Count
abbrev pub settings_43 : Settings
settings_43 = record plain {
  custom = bound ((KeySeq ((key_with (Char 79) ctrl) ∷ []), one_way Count) ∷ []);
}

-- ab C-o c Enter = c
abbrev pub row_43 : Row
row_43 = row 43 settings_43 (codes "ab\u{f}c\r") (codes "c\n")

-- a␠b M-- C-o Enter = b␠a
abbrev pub row_44 : Row
row_44 = row 44 settings_43 (codes "a b\u{1b}-\u{f}\r") (codes "b a\n")

-- bind:C-A⇒Nothing
abbrev pub settings_47 : Settings
settings_47 = record plain {
  custom = bound ((KeySeq ((key_with (Char 65) ctrl) ∷ []), one_way Nothing) ∷ []);
}

-- b C-a a Enter = ab
abbrev pub row_47 : Row
row_47 = row 47 settings_47 (codes "b\u{1}a\r") (codes "ab\n")

-- helped loaded:#V2␊hello␊ bind:C-O⇒HintOrKill·2
abbrev pub settings_52 : Settings
settings_52 = record plain {
  custom = bound ((KeySeq ((key_with (Char 79) ctrl) ∷ []), hint_or_kill 2) ∷ []);
  helping = aide true None;
  loaded = codes "#V2\nhello\n";
}

-- h C-o Enter = hello
abbrev pub row_52 : Row
row_52 = row 52 settings_52 (codes "h\u{f}\r") (codes "hello\n")

-- abc C-a C-o Enter = bc
abbrev pub row_53 : Row
row_53 = row 53 settings_52 (codes "abc\u{1}\u{f}\r") (codes "bc\n")

-- abc C-a M-2 C-o Enter = c
abbrev pub row_54 : Row
row_54 = row 54 settings_52 (codes "abc\u{1}\u{1b}2\u{f}\r") (codes "c\n")

-- abc M-- C-o Enter = ab
abbrev pub row_55 : Row
row_55 = row 55 settings_52 (codes "abc\u{1b}-\u{f}\r") (codes "ab\n")

-- abc C-a M-3 C-o x Enter = abc
abbrev pub row_56 : Row
row_56 = row 56 settings_52 (codes "abc\u{1}\u{1b}3\u{f}x\r") (codes "abc\n")

-- C-o = nothing | ends Handler
abbrev pub row_57 : Row
row_57 = record (row 57 settings_52 (codes "\u{f}") []) {
  ends = Handler;
}

-- loaded:#V2␊line0␊line1␊
abbrev pub settings_60 : Settings
settings_60 = record plain {
  loaded = codes "#V2\nline0\nline1\n";
}

-- cur Up Up Up Down Down Enter = cur | shows {} c u r {line1} {line0} {line1} {cur} ␍␊ {} ␍␊
abbrev pub row_60 : Row
row_60 = record (row 60 settings_60 (codes "cur\u{1b}[A\u{1b}[A\u{1b}[A\u{1b}[B\u{1b}[B\r")
    (codes "cur\n")) {
      shows = Some
          (codes "\r\u{1b}[J\u{1b}[m> \u{1b}[m\u{1b}[m\u{1b}[mcur\r\u{1b}[J\u{1b}[m> \u{1b}[mlin" ++
          codes "e1\u{1b}[m\u{1b}[m\r\u{1b}[J\u{1b}[m> \u{1b}[mline0\u{1b}[m\u{1b}[m\r\u{1b}[J" ++
          codes "\u{1b}[m> \u{1b}[mline1\u{1b}[m\u{1b}[m\r\u{1b}[J\u{1b}[m> \u{1b}[mcur\u{1b}[m" ++
          codes "\u{1b}[m\r\n\r\u{1b}[J\u{1b}[m> \u{1b}[m\u{1b}[m\u{1b}[m\r\n");
    }

-- helped
abbrev pub settings_63 : Settings
settings_63 = record plain {
  helping = aide true None;
}

-- ] Enter = nothing | shows {} ] {]␛[mMismatched␠brackets:␠']'␠is␠unpaired␛[m␛[36D ␍␊
abbrev pub row_63 : Row
row_63 = record (row 63 settings_63 (codes "]\r") []) {
  shows = Some (codes "\r\u{1b}[J\u{1b}[m> \u{1b}[m\u{1b}[m\u{1b}[m]\r\u{1b}[J\u{1b}[m> \u{1b}[m]"
      ++ codes "\u{1b}[mMismatched brackets: ']' is unpaired\u{1b}[m\u{1b}[36D\r\n");
}

-- words:alpha,alpine
abbrev pub settings_66 : Settings
settings_66 = record plain {
  helping = aide false (Some ((codes "alpha") ∷ (codes "alpine") ∷ []));
}

-- alp Tab = nothing | shows {} a l p ␇ ␍␊
abbrev pub row_66 : Row
row_66 = record (row 66 settings_66 (codes "alp\t") []) {
  shows = Some (codes "\r\u{1b}[J\u{1b}[m> \u{1b}[m\u{1b}[m\u{1b}[malp\u{7}\r\n");
}

-- vi
abbrev pub settings_69 : Settings
settings_69 = record plain {
  config = vi plain.config;
}

-- abc Esc 9999d9999hiX Enter = Xc
abbrev pub row_69 : Row
row_69 = row 69 settings_69 (codes "abc\u{1b}9999d9999hiX\r") (codes "Xc\n")

-- a␠b␠c␠d␠e␠f␠g Esc 03d2w Enter = g
abbrev pub row_70 : Row
row_70 = row 70 settings_69 (codes "a b c d e f g\u{1b}03d2w\r") (codes "g\n")

-- one␠two Esc 0cwx Enter = x␠two
abbrev pub row_71 : Row
row_71 = row 71 settings_69 (codes "one two\u{1b}0cwx\r") (codes "x two\n")

-- one Esc ccx Enter = x
abbrev pub row_72 : Row
row_72 = row 72 settings_69 (codes "one\u{1b}ccx\r") (codes "x\n")

-- one Esc czx Enter = onxe
abbrev pub row_73 : Row
row_73 = row 73 settings_69 (codes "one\u{1b}czx\r") (codes "onxe\n")

-- axbxc Esc 0fx;iY Enter = axbYxc
abbrev pub row_74 : Row
row_74 = row 74 settings_69 (codes "axbxc\u{1b}0fx;iY\r") (codes "axbYxc\n")

-- axbxc Esc 0fx;,iY Enter = aYxbxc
abbrev pub row_75 : Row
row_75 = row 75 settings_69 (codes "axbxc\u{1b}0fx;,iY\r") (codes "aYxbxc\n")

-- Esc .;iX Enter = X
abbrev pub row_76 : Row
row_76 = row 76 settings_69 (codes "\u{1b}.;iX\r") (codes "X\n")

-- abc M-d d Enter = ""
abbrev pub row_77 : Row
row_77 = row 77 settings_69 (codes "abc\u{1b}dd\r") (codes "\n")

-- clusters:NoZwj columns:10
abbrev pub settings_80 : Settings
settings_80 = record plain {
  config = counting NoZwj plain.config;
  columns = 10;
}

-- 👩‹e2›‹80›‹8d›💻 a Enter = 👩‹e2›‹80›‹8d›💻a
abbrev pub row_80 : Row
row_80 = row 80 settings_80 (encode_utf8_all (codes "👩\u{200d}💻a\r")) (encode_utf8_all
    (codes "👩\u{200d}💻a\n"))

abbrev pub worked_rows : List Row
worked_rows = row_4 ∷ row_5 ∷ row_6 ∷ row_7 ∷ row_8 ∷ row_9 ∷ row_10 ∷ row_11 ∷ row_12 ∷ row_15 ∷
    row_16 ∷ row_17 ∷ row_20 ∷ row_23 ∷ row_24 ∷ row_27 ∷ row_35 ∷ row_39 ∷ row_43 ∷ row_44 ∷ row_47
    ∷ row_52 ∷ row_53 ∷ row_54 ∷ row_55 ∷ row_56 ∷ row_57 ∷ row_60 ∷ row_63 ∷ row_66 ∷ row_69 ∷
    row_70 ∷ row_71 ∷ row_72 ∷ row_73 ∷ row_74 ∷ row_75 ∷ row_76 ∷ row_77 ∷ row_80 ∷ []
