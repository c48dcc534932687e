-- The rows of rows.txt; tests/definition/worked_rows.py writes them.
use Rattle.line_buffer.specs.declared.types.Movement.TheVariants.{WholeLine}
use Rattle.line_config.specs.declared.errors.ReadlineError.TheVariants.{Interrupted, NotUtf8, PasteOutOfPlace}
use Rattle.line_keys.specs.Keys.{ctrl, key_with, none}
use Rattle.line_keys.specs.declared.command.Cmd.TheVariants.{AcceptLine, Kill, Noop, YankPop}
use Rattle.line_keys.specs.declared.events.Event.TheVariants.{Any, KeySeq}
use Rattle.line_keys.specs.declared.key.KeyCode.TheVariants.{Char, Esc}
use Rattle.std.specs.Prelude.{List, [], ◌∷◌, ◌++◌, None, Some, true, false, codes, encode_utf8_all, replicate}
use Rattle.worked_rows.specs.Playing.{Row, row}
use Rattle.worked_rows.specs.Settings.{Settings, adding, aide, bound, command, of_size, plain, vi}

-- nothing = nothing | saves nothing | shows {} ␍␊
abbrev pub row_4 : Row
row_4 = record (row 4 plain [] []) {
  saves = Some [];
  shows = Some (codes "\r\u{1b}[J\u{1b}[m> \u{1b}[m\u{1b}[m\u{1b}[m\r\n");
}

-- abc C-a X Enter = Xabc | shows {} a b c ␛[3D {Xabc}␛[3D ␛[3C␍␊ {} ␍␊
abbrev pub row_5 : Row
row_5 = record (row 5 plain (codes "abc\u{1}X\r") (codes "Xabc\n")) {
  shows = Some (codes "\r\u{1b}[J\u{1b}[m> \u{1b}[m\u{1b}[m\u{1b}[mabc\u{1b}[3D\r\u{1b}[J\u{1b}[m> "
      ++ codes "\u{1b}[mXabc\u{1b}[m\u{1b}[m\u{1b}[3D\u{1b}[3C\r\n\r\u{1b}[J\u{1b}[m> \u{1b}[m" ++
      codes "\u{1b}[m\u{1b}[m\r\n");
}

-- ac Esc Left b Enter = abc | shows {} a c ␛[1D {abc}␛[1D ␛[1C␍␊ {} ␍␊
abbrev pub row_6 : Row
row_6 = record (row 6 plain (codes "ac\u{1b}\u{1b}[Db\r") (codes "abc\n")) {
  shows = Some (codes "\r\u{1b}[J\u{1b}[m> \u{1b}[m\u{1b}[m\u{1b}[mac\u{1b}[1D\r\u{1b}[J\u{1b}[m> "
      ++ codes "\u{1b}[mabc\u{1b}[m\u{1b}[m\u{1b}[1D\u{1b}[1C\r\n\r\u{1b}[J\u{1b}[m> \u{1b}[m" ++
      codes "\u{1b}[m\u{1b}[m\r\n");
}

-- abc C-u Enter C-y Enter = "" abc
abbrev pub row_7 : Row
row_7 = row 7 plain (codes "abc\u{15}\r\u{19}\r") (codes "\nabc\n")

-- abcdef C-a M-- 2 C-b X Enter = abXcdef
abbrev pub row_8 : Row
row_8 = row 8 plain (codes "abcdef\u{1}\u{1b}-2\u{2}X\r") (codes "abXcdef\n")

-- abc M-9 C-_ Enter = ""
abbrev pub row_9 : Row
row_9 = row 9 plain (codes "abc\u{1b}9\u{1f}\r") (codes "\n")

-- M-9 9 9 9 9 x Enter = ‹9999*x›
abbrev pub row_10 : Row
row_10 = row 10 plain (codes "\u{1b}99999x\r") (replicate 9999 120 ++ codes "\n")

-- a C-a C-d C-d b Enter = nothing
abbrev pub row_11 : Row
row_11 = row 11 plain (codes "a\u{1}\u{4}\u{4}b\r") []

-- Paste a␊b Pasted Enter = a␊b
abbrev pub row_12 : Row
row_12 = row 12 plain (codes "\u{1b}[200~a\nb\u{1b}[201~\r") (codes "a\nb\n")

-- Paste a␍␊b␍c Pasted Enter = a␊b␊c
abbrev pub row_13 : Row
row_13 = row 13 plain (codes "\u{1b}[200~a\r\nb\rc\u{1b}[201~\r") (codes "a\nb\nc\n")

-- ab Enter C-x Paste x Pasted = ab | ends PasteOutOfPlace
abbrev pub row_14 : Row
row_14 = record (row 14 plain (codes "ab\r\u{18}\u{1b}[200~x\u{1b}[201~") (codes "ab\n")) {
  ends = PasteOutOfPlace;
}

-- ab Enter ‹ff› = ab | ends NotUtf8
abbrev pub row_15 : Row
row_15 = record (row 15 plain (0x61 ∷ 0x62 ∷ 0x0D ∷ 0xFF ∷ []) (codes "ab\n")) {
  ends = NotUtf8;
}

-- ab ␛[ = nothing
abbrev pub row_16 : Row
row_16 = row 16 plain (codes "ab\u{1b}[") []

-- ab ␛‹c3› = nothing | ends NotUtf8
abbrev pub row_17 : Row
row_17 = record (row 17 plain (0x61 ∷ 0x62 ∷ 0x1B ∷ 0xC3 ∷ []) []) {
  ends = NotUtf8;
}

-- a ␛[201~b Enter = ab
abbrev pub row_18 : Row
row_18 = row 18 plain (codes "a\u{1b}[201~b\r") (codes "ab\n")

-- a ␛[9~b Enter = ab
abbrev pub row_19 : Row
row_19 = row 19 plain (codes "a\u{1b}[9~b\r") (codes "ab\n")

-- Paste a ‹ff› = nothing | ends NotUtf8
abbrev pub row_20 : Row
row_20 = record (row 20 plain (0x1B ∷ 0x5B ∷ 0x32 ∷ 0x30 ∷ 0x30 ∷ 0x7E ∷ 0x61 ∷ 0xFF ∷ []) []) {
  ends = NotUtf8;
}

-- Paste a = nothing
abbrev pub row_21 : Row
row_21 = row 21 plain (codes "\u{1b}[200~a") []

-- Paste ␍ Pasted Enter = ␊ | shows {} {␍␊} ␍␊ {} ␍␊
abbrev pub row_22 : Row
row_22 = record (row 22 plain (codes "\u{1b}[200~\r\u{1b}[201~\r") (codes "\n\n")) {
  shows = Some (codes "\r\u{1b}[J\u{1b}[m> \u{1b}[m\u{1b}[m\u{1b}[m\r\u{1b}[J\u{1b}[m> \u{1b}[m\r\n"
      ++ codes "\u{1b}[m\u{1b}[m\r\n\r\u{1b}[J\u{1b}[m> \u{1b}[m\u{1b}[m\u{1b}[m\r\n");
}

-- abc Backspace = nothing | shows {} a b c ␛[1D␛[K ␍␊
abbrev pub row_23 : Row
row_23 = record (row 23 plain (codes "abc\u{7f}") []) {
  shows = Some (codes "\r\u{1b}[J\u{1b}[m> \u{1b}[m\u{1b}[m\u{1b}[mabc\u{1b}[1D\u{1b}[K\r\n");
}

-- one␠two C-w C-a C-y Enter = twoone␠
abbrev pub row_24 : Row
row_24 = row 24 plain (codes "one two\u{17}\u{1}\u{19}\r") (codes "twoone \n")

-- ab C-a C-c = nothing | ends Interrupted | shows {} a b ␛[2D ␛[2C ␍␊
abbrev pub row_25 : Row
row_25 = record (row 25 plain (codes "ab\u{1}\u{3}") []) {
  ends = Interrupted;
  shows = Some (codes "\r\u{1b}[J\u{1b}[m> \u{1b}[m\u{1b}[m\u{1b}[mab\u{1b}[2D\u{1b}[2C\r\n");
}

-- Paste ␉ Pasted Enter = ␉ | shows {} {␛[m?␛[m} ␍␊ {} ␍␊
abbrev pub row_26 : Row
row_26 = record (row 26 plain (codes "\u{1b}[200~\t\u{1b}[201~\r") (codes "\t\n")) {
  shows = Some
      (codes "\r\u{1b}[J\u{1b}[m> \u{1b}[m\u{1b}[m\u{1b}[m\r\u{1b}[J\u{1b}[m> \u{1b}[m\u{1b}" ++
      codes "[m?\u{1b}[m\u{1b}[m\u{1b}[m\r\n\r\u{1b}[J\u{1b}[m> \u{1b}[m\u{1b}[m\u{1b}[m\r" ++
      codes "\n");
}

-- M-2 x = nothing | shows {} ␍␛[J␛[m(arg:␠2)␠␛[m␛[m␛[m {} {xx} ␍␊
abbrev pub row_29 : Row
row_29 = record (row 29 plain (codes "\u{1b}2x") []) {
  shows = Some
      (codes "\r\u{1b}[J\u{1b}[m> \u{1b}[m\u{1b}[m\u{1b}[m\r\u{1b}[J\u{1b}[m(arg: 2) \u{1b}[" ++
      codes "m\u{1b}[m\u{1b}[m\r\u{1b}[J\u{1b}[m> \u{1b}[m\u{1b}[m\u{1b}[m\r\u{1b}[J\u{1b}[" ++
      codes "m> \u{1b}[mxx\u{1b}[m\u{1b}[m\r\n");
}

-- a C-l = nothing | shows {} a ␛[H␛[J {a} ␍␊
abbrev pub row_30 : Row
row_30 = record (row 30 plain (codes "a\u{c}") []) {
  shows = Some
      (codes "\r\u{1b}[J\u{1b}[m> \u{1b}[m\u{1b}[m\u{1b}[ma\u{1b}[H\u{1b}[J\r\u{1b}[J\u{1b}[" ++
      codes "m> \u{1b}[ma\u{1b}[m\u{1b}[m\r\n");
}

-- e ‹cc›‹81› = nothing | shows {} e {␛[me‹cc›‹81›␛[m} ␍␊
abbrev pub row_31 : Row
row_31 = record (row 31 plain (encode_utf8_all (codes "é")) []) {
  shows = Some (encode_utf8_all
      (codes "\r\u{1b}[J\u{1b}[m> \u{1b}[m\u{1b}[m\u{1b}[me\r\u{1b}[J\u{1b}[m> \u{1b}[m" ++
      codes "\u{1b}[mé\u{1b}[m\u{1b}[m\u{1b}[m\r\n"));
}

-- vi
abbrev pub settings_34 : Settings
settings_34 = record plain {
  config = vi plain.config;
}

-- one␠two Esc 0dw Enter = two
abbrev pub row_34 : Row
row_34 = row 34 settings_34 (codes "one two\u{1b}0dw\r") (codes "two\n")

-- Paste a␊b Pasted Enter = a␊b
abbrev pub row_35 : Row
row_35 = row 35 settings_34 (codes "\u{1b}[200~a\nb\u{1b}[201~\r") (codes "a\nb\n")

-- Paste a␍␊b␍c Pasted Enter = a␊b␊c
abbrev pub row_36 : Row
row_36 = row 36 settings_34 (codes "\u{1b}[200~a\r\nb\rc\u{1b}[201~\r") (codes "a\nb\nc\n")

-- a ␛‹ff› = nothing | ends NotUtf8
abbrev pub row_37 : Row
row_37 = record (row 37 settings_34 (0x61 ∷ 0x1B ∷ 0xFF ∷ []) []) {
  ends = NotUtf8;
}

-- vi bind:C-O⇒YankPop
abbrev pub settings_40 : Settings
settings_40 = record plain {
  config = vi plain.config;
  custom = bound ((KeySeq ((key_with (Char 79) ctrl) ∷ []), command YankPop) ∷ []);
}

-- ab Esc D0P C-o Enter = ba
abbrev pub row_40 : Row
row_40 = row 40 settings_40 (codes "ab\u{1b}D0P\u{f}\r") (codes "ba\n")

-- bind:Esc⇒AcceptLine
abbrev pub settings_44 : Settings
settings_44 = record plain {
  custom = bound ((KeySeq ((key_with Esc none) ∷ []), command AcceptLine) ∷ []);
}

-- ab Esc ␛[D = ab | shows {} a b ␍␊ {} ␍␊
abbrev pub row_44 : Row
row_44 = record (row 44 settings_44 (codes "ab\u{1b}\u{1b}[D") (codes "ab\n")) {
  shows = Some
      (codes "\r\u{1b}[J\u{1b}[m> \u{1b}[m\u{1b}[m\u{1b}[mab\r\n\r\u{1b}[J\u{1b}[m> \u{1b}[m" ++
      codes "\u{1b}[m\u{1b}[m\r\n");
}

-- bind:any⇒Noop
abbrev pub settings_48 : Settings
settings_48 = record plain {
  custom = bound ((Any, command Noop) ∷ []);
}

-- Paste a Pasted Enter = nothing | ends PasteOutOfPlace
abbrev pub row_48 : Row
row_48 = record (row 48 settings_48 (codes "\u{1b}[200~a\u{1b}[201~\r") []) {
  ends = PasteOutOfPlace;
}

-- adding
abbrev pub settings_51 : Settings
settings_51 = record plain {
  config = adding plain.config;
}

-- first Enter second Enter C-p C-p Enter = first second first | saves #V2␊first␊second␊first␊
abbrev pub row_51 : Row
row_51 = record (row 51 settings_51 (codes "first\rsecond\r\u{10}\u{10}\r")
    (codes "first\nsecond\nfirst\n")) {
      saves = Some (codes "#V2\nfirst\nsecond\nfirst\n");
    }

-- adding loaded:#V2␊a\nb␊
abbrev pub settings_55 : Settings
settings_55 = record plain {
  config = adding plain.config;
  loaded = codes "#V2\na\\nb\n";
}

-- Up Enter = a␊b | saves nothing
abbrev pub row_55 : Row
row_55 = record (row 55 settings_55 (codes "\u{1b}[A\r") (codes "a\nb\n")) {
  saves = Some [];
}

-- adding size:0
abbrev pub settings_59 : Settings
settings_59 = record plain {
  config = of_size 0 (adding plain.config);
}

-- a Enter = a | saves nothing
abbrev pub row_59 : Row
row_59 = record (row 59 settings_59 (codes "a\r") (codes "a\n")) {
  saves = Some [];
}

-- words:alpha,alpine
abbrev pub settings_63 : Settings
settings_63 = record plain {
  helping = aide false (Some ((codes "alpha") ∷ (codes "alpine") ∷ []));
}

-- al Tab Enter Tab Enter = alp alp | shows {} a l {alp} ␍␊ {} {alp} ␍␊ {} ␍␊
abbrev pub row_63 : Row
row_63 = record (row 63 settings_63 (codes "al\t\r\t\r") (codes "alp\nalp\n")) {
  shows = Some
      (codes "\r\u{1b}[J\u{1b}[m> \u{1b}[m\u{1b}[m\u{1b}[mal\r\u{1b}[J\u{1b}[m> \u{1b}[malp" ++
      codes "\u{1b}[m\u{1b}[m\r\n\r\u{1b}[J\u{1b}[m> \u{1b}[m\u{1b}[m\u{1b}[m\r\u{1b}[J" ++
      codes "\u{1b}[m> \u{1b}[malp\u{1b}[m\u{1b}[m\r\n\r\u{1b}[J\u{1b}[m> \u{1b}[m\u{1b}[m" ++
      codes "\u{1b}[m\r\n");
}

-- alp Tab Enter = alp | shows {} a l p ␇ ␍␊ {} ␍␊
abbrev pub row_64 : Row
row_64 = record (row 64 settings_63 (codes "alp\t\r") (codes "alp\n")) {
  shows = Some (codes "\r\u{1b}[J\u{1b}[m> \u{1b}[m\u{1b}[m\u{1b}[malp\u{7}\r\n\r\u{1b}[J\u{1b}[m> "
      ++ codes "\u{1b}[m\u{1b}[m\u{1b}[m\r\n");
}

-- alph Tab Enter = alpha | shows {} a l p h {alpha} ␍␊ {} ␍␊
abbrev pub row_65 : Row
row_65 = record (row 65 settings_63 (codes "alph\t\r") (codes "alpha\n")) {
  shows = Some
      (codes "\r\u{1b}[J\u{1b}[m> \u{1b}[m\u{1b}[m\u{1b}[malph\r\u{1b}[J\u{1b}[m> \u{1b}[mal" ++
      codes "pha\u{1b}[m\u{1b}[m\r\n\r\u{1b}[J\u{1b}[m> \u{1b}[m\u{1b}[m\u{1b}[m\r\n");
}

-- zz Tab Enter = zz | shows {} z z ␇ ␍␊ {} ␍␊
abbrev pub row_66 : Row
row_66 = record (row 66 settings_63 (codes "zz\t\r") (codes "zz\n")) {
  shows = Some (codes "\r\u{1b}[J\u{1b}[m> \u{1b}[m\u{1b}[m\u{1b}[mzz\u{7}\r\n\r\u{1b}[J\u{1b}[m> "
      ++ codes "\u{1b}[m\u{1b}[m\u{1b}[m\r\n");
}

-- x␠al Tab Enter = x␠alp
abbrev pub row_67 : Row
row_67 = row 67 settings_63 (codes "x al\t\r") (codes "x alp\n")

-- x␠ Tab Enter = x␠alp
abbrev pub row_68 : Row
row_68 = row 68 settings_63 (codes "x \t\r") (codes "x alp\n")

-- al Left Tab X Enter = alpXl
abbrev pub row_69 : Row
row_69 = row 69 settings_63 (codes "al\u{1b}[D\tX\r") (codes "alpXl\n")

-- al␠x Left Left Tab X Enter = alpX␠x
abbrev pub row_70 : Row
row_70 = row 70 settings_63 (codes "al x\u{1b}[D\u{1b}[D\tX\r") (codes "alpX x\n")

-- al M-3 Tab Enter = alp | shows {} a l ␍␛[J␛[m(arg:␠3)␠␛[mal␛[m␛[m {al} {alp} ␍␊ {} ␍␊
abbrev pub row_71 : Row
row_71 = record (row 71 settings_63 (codes "al\u{1b}3\t\r") (codes "alp\n")) {
  shows = Some (codes "\r\u{1b}[J\u{1b}[m> \u{1b}[m\u{1b}[m\u{1b}[mal\r\u{1b}[J\u{1b}[m(arg: 3) " ++
      codes "\u{1b}[mal\u{1b}[m\u{1b}[m\r\u{1b}[J\u{1b}[m> \u{1b}[mal\u{1b}[m\u{1b}[m\r" ++
      codes "\u{1b}[J\u{1b}[m> \u{1b}[malp\u{1b}[m\u{1b}[m\r\n\r\u{1b}[J\u{1b}[m> \u{1b}[m" ++
      codes "\u{1b}[m\u{1b}[m\r\n");
}

-- al M-- Tab Enter = al | shows {} a l ␍␛[J␛[m(arg:␠-1)␠␛[mal␛[m␛[m {al} ␍␊ {} ␍␊
abbrev pub row_72 : Row
row_72 = record (row 72 settings_63 (codes "al\u{1b}-\t\r") (codes "al\n")) {
  shows = Some (codes "\r\u{1b}[J\u{1b}[m> \u{1b}[m\u{1b}[m\u{1b}[mal\r\u{1b}[J\u{1b}[m(arg: -1) "
      ++ codes "\u{1b}[mal\u{1b}[m\u{1b}[m\r\u{1b}[J\u{1b}[m> \u{1b}[mal\u{1b}[m\u{1b}[m\r\n\r" ++
      codes "\u{1b}[J\u{1b}[m> \u{1b}[m\u{1b}[m\u{1b}[m\r\n");
}

-- Paste a␊al Pasted Tab Enter = a␊alp
abbrev pub row_73 : Row
row_73 = row 73 settings_63 (codes "\u{1b}[200~a\nal\u{1b}[201~\t\r") (codes "a\nalp\n")

-- x‹e3›‹80›‹80›al Tab Home Delete Delete Enter = alp
abbrev pub row_74 : Row
row_74 = row 74 settings_63 (encode_utf8_all (codes "x\u{3000}al\t\u{1b}[H\u{1b}[3~\u{1b}[3~\r"))
    (codes "alp\n")

-- al Tab C-_ Enter = al | shows {} a l {alp} {al} ␍␊ {} ␍␊
abbrev pub row_76 : Row
row_76 = record (row 76 settings_63 (codes "al\t\u{1f}\r") (codes "al\n")) {
  shows = Some
      (codes "\r\u{1b}[J\u{1b}[m> \u{1b}[m\u{1b}[m\u{1b}[mal\r\u{1b}[J\u{1b}[m> \u{1b}[malp" ++
      codes "\u{1b}[m\u{1b}[m\r\u{1b}[J\u{1b}[m> \u{1b}[mal\u{1b}[m\u{1b}[m\r\n\r\u{1b}[J" ++
      codes "\u{1b}[m> \u{1b}[m\u{1b}[m\u{1b}[m\r\n");
}

-- x␠al Tab C-_ C-_ Enter = x
abbrev pub row_77 : Row
row_77 = row 77 settings_63 (codes "x al\t\u{1f}\u{1f}\r") (codes "x\n")

-- alph Tab Tab C-_ Enter = alpha
abbrev pub row_78 : Row
row_78 = row 78 settings_63 (codes "alph\t\t\u{1f}\r") (codes "alpha\n")

-- alph Tab Tab C-_ C-_ Enter = alph
abbrev pub row_79 : Row
row_79 = row 79 settings_63 (codes "alph\t\t\u{1f}\u{1f}\r") (codes "alph\n")

-- x␠y C-W Tab C-W C-Y Enter = x␠alp
abbrev pub row_81 : Row
row_81 = row 81 settings_63 (codes "x y\u{17}\t\u{17}\u{19}\r") (codes "x alp\n")

-- vi words:alpha,alpine
abbrev pub settings_84 : Settings
settings_84 = record plain {
  config = vi plain.config;
  helping = aide false (Some ((codes "alpha") ∷ (codes "alpine") ∷ []));
}

-- al Tab h Esc 0i Tab Enter = alpalph
abbrev pub row_84 : Row
row_84 = row 84 settings_84 (codes "al\th\u{1b}0i\t\r") (codes "alpalph\n")

-- al Esc Tab Enter = al | shows {} a l ␛[1D ␛[1C␍␊ {} ␍␊
abbrev pub row_85 : Row
row_85 = record (row 85 settings_84 (codes "al\u{1b}\t\r") (codes "al\n")) {
  shows = Some
      (codes "\r\u{1b}[J\u{1b}[m> \u{1b}[m\u{1b}[m\u{1b}[mal\u{1b}[1D\u{1b}[1C\r\n\r\u{1b}[J" ++
      codes "\u{1b}[m> \u{1b}[m\u{1b}[m\u{1b}[m\r\n");
}

-- al Tab Esc u Enter = al
abbrev pub row_86 : Row
row_86 = row 86 settings_84 (codes "al\t\u{1b}u\r") (codes "al\n")

-- x Esc aal Tab Esc u Enter = x
abbrev pub row_87 : Row
row_87 = row 87 settings_84 (codes "x\u{1b}aal\t\u{1b}u\r") (codes "x\n")

-- adding words:alpha,alpine
abbrev pub settings_90 : Settings
settings_90 = record plain {
  config = adding plain.config;
  helping = aide false (Some ((codes "alpha") ∷ (codes "alpine") ∷ []));
}

-- al Tab Enter C-p Enter = alp alp | saves #V2␊alp␊
abbrev pub row_90 : Row
row_90 = record (row 90 settings_90 (codes "al\t\r\u{10}\r") (codes "alp\nalp\n")) {
  saves = Some (codes "#V2\nalp\n");
}

-- words:alpha,alpha
abbrev pub settings_94 : Settings
settings_94 = record plain {
  helping = aide false (Some ((codes "alpha") ∷ (codes "alpha") ∷ []));
}

-- alph Tab Enter = alpha
abbrev pub row_94 : Row
row_94 = row 94 settings_94 (codes "alph\t\r") (codes "alpha\n")

-- alpha Tab Enter = alpha | shows {} a l p h a ␇ ␍␊ {} ␍␊
abbrev pub row_95 : Row
row_95 = record (row 95 settings_94 (codes "alpha\t\r") (codes "alpha\n")) {
  shows = Some
      (codes "\r\u{1b}[J\u{1b}[m> \u{1b}[m\u{1b}[m\u{1b}[malpha\u{7}\r\n\r\u{1b}[J\u{1b}[m> " ++
      codes "\u{1b}[m\u{1b}[m\u{1b}[m\r\n");
}

-- words:alpha
abbrev pub settings_98 : Settings
settings_98 = record plain {
  helping = aide false (Some ((codes "alpha") ∷ []));
}

-- alpha Tab Enter = alpha | shows {} a l p h a {alpha} ␍␊ {} ␍␊
abbrev pub row_98 : Row
row_98 = record (row 98 settings_98 (codes "alpha\t\r") (codes "alpha\n")) {
  shows = Some
      (codes "\r\u{1b}[J\u{1b}[m> \u{1b}[m\u{1b}[m\u{1b}[malpha\r\u{1b}[J\u{1b}[m> \u{1b}[ma" ++
      codes "lpha\u{1b}[m\u{1b}[m\r\n\r\u{1b}[J\u{1b}[m> \u{1b}[m\u{1b}[m\u{1b}[m\r\n");
}

-- words:grün,größe,漢字,漢文
abbrev pub settings_101 : Settings
settings_101 = record plain {
  helping = aide false (Some ((encode_utf8_all (codes "grün")) ∷ (encode_utf8_all (codes "größe")) ∷
      (encode_utf8_all (codes "漢字")) ∷ (encode_utf8_all (codes "漢文")) ∷ []));
}

-- g Tab Enter = gr
abbrev pub row_101 : Row
row_101 = row 101 settings_101 (codes "g\t\r") (codes "gr\n")

-- grü Tab Enter = grün
abbrev pub row_102 : Row
row_102 = row 102 settings_101 (encode_utf8_all (codes "grü\t\r")) (encode_utf8_all
    (codes "grün\n"))

-- x␠grö Tab y Enter = x␠größey
abbrev pub row_103 : Row
row_103 = row 103 settings_101 (encode_utf8_all (codes "x grö\ty\r")) (encode_utf8_all
    (codes "x größey\n"))

-- gr Left Tab Enter = grr
abbrev pub row_104 : Row
row_104 = row 104 settings_101 (codes "gr\u{1b}[D\t\r") (codes "grr\n")

-- 漢 Tab Enter = 漢
abbrev pub row_105 : Row
row_105 = row 105 settings_101 (encode_utf8_all (codes "漢\t\r")) (encode_utf8_all (codes "漢\n"))

-- 漢文 Tab Enter = 漢文
abbrev pub row_106 : Row
row_106 = row 106 settings_101 (encode_utf8_all (codes "漢文\t\r")) (encode_utf8_all (codes "漢文\n"))

-- words:éa,èb
abbrev pub settings_110 : Settings
settings_110 = record plain {
  helping = aide false (Some ((encode_utf8_all (codes "éa")) ∷ (encode_utf8_all
      (codes "èb")) ∷ []));
}

-- Tab Enter = e | shows {} {e} ␍␊ {} ␍␊
abbrev pub row_110 : Row
row_110 = record (row 110 settings_110 (codes "\t\r") (codes "e\n")) {
  shows = Some (codes "\r\u{1b}[J\u{1b}[m> \u{1b}[m\u{1b}[m\u{1b}[m\r\u{1b}[J\u{1b}[m> \u{1b}[me" ++
      codes "\u{1b}[m\u{1b}[m\r\n\r\u{1b}[J\u{1b}[m> \u{1b}[m\u{1b}[m\u{1b}[m\r\n");
}

-- e Tab Enter = e | shows {} e ␇ ␍␊ {} ␍␊
abbrev pub row_111 : Row
row_111 = record (row 111 settings_110 (codes "e\t\r") (codes "e\n")) {
  shows = Some (codes "\r\u{1b}[J\u{1b}[m> \u{1b}[m\u{1b}[m\u{1b}[me\u{7}\r\n\r\u{1b}[J\u{1b}[m> "
      ++ codes "\u{1b}[m\u{1b}[m\u{1b}[m\r\n");
}

-- Tab ‹cc›‹80› Tab Enter = èb
abbrev pub row_112 : Row
row_112 = row 112 settings_110 (encode_utf8_all (codes "\t̀\t\r")) (encode_utf8_all
    (codes "èb\n"))

-- é Tab C-_ Enter = é
abbrev pub row_113 : Row
row_113 = row 113 settings_110 (encode_utf8_all (codes "é\t\u{1f}\r")) (encode_utf8_all
    (codes "é\n"))

-- al Tab Enter = al | shows {} a l ␍␊ {} ␍␊
abbrev pub row_117 : Row
row_117 = record (row 117 plain (codes "al\t\r") (codes "al\n")) {
  shows = Some
      (codes "\r\u{1b}[J\u{1b}[m> \u{1b}[m\u{1b}[m\u{1b}[mal\r\n\r\u{1b}[J\u{1b}[m> \u{1b}[m" ++
      codes "\u{1b}[m\u{1b}[m\r\n");
}

-- helped
abbrev pub settings_120 : Settings
settings_120 = record plain {
  helping = aide true None;
}

-- al Tab Enter = al | shows {} a l ␇ ␍␊ {} ␍␊
abbrev pub row_120 : Row
row_120 = record (row 120 settings_120 (codes "al\t\r") (codes "al\n")) {
  shows = Some (codes "\r\u{1b}[J\u{1b}[m> \u{1b}[m\u{1b}[m\u{1b}[mal\u{7}\r\n\r\u{1b}[J\u{1b}[m> "
      ++ codes "\u{1b}[m\u{1b}[m\u{1b}[m\r\n");
}

-- (a Enter b) Enter = (a␊b)
abbrev pub row_121 : Row
row_121 = row 121 settings_120 (codes "(a\rb)\r") (codes "(a\nb)\n")

-- ] Enter Backspace x Enter = x | shows {} ] {]␛[mMismatched␠brackets:␠']'␠is␠unpaired␛[m␛[36D {} x ␍␊ {} ␍␊
abbrev pub row_122 : Row
row_122 = record (row 122 settings_120 (codes "]\r\u{7f}x\r") (codes "x\n")) {
  shows = Some (codes "\r\u{1b}[J\u{1b}[m> \u{1b}[m\u{1b}[m\u{1b}[m]\r\u{1b}[J\u{1b}[m> \u{1b}[m]"
      ++ codes "\u{1b}[mMismatched brackets: ']' is unpaired\u{1b}[m\u{1b}[36D\r\u{1b}[J\u{1b}" ++
      codes "[m> \u{1b}[m\u{1b}[m\u{1b}[mx\r\n\r\u{1b}[J\u{1b}[m> \u{1b}[m\u{1b}[m\u{1b}[m" ++
      codes "\r\n");
}

-- adding helped prompt:?␠ bind:C-O⇒Kill·WholeLine
abbrev pub settings_125 : Settings
settings_125 = record plain {
  config = adding plain.config;
  prompt = codes "? ";
  custom = bound ((KeySeq ((key_with (Char 79) ctrl) ∷ []), command (Kill WholeLine)) ∷ []);
  helping = aide true None;
}

-- f(a Enter b) Enter wrong C-O right Enter = f(a␊b) right
abbrev pub row_125 : Row
row_125 = row 125 settings_125 (codes "f(a\rb)\rwrong\u{f}right\r") (codes "f(a\nb)\nright\n")

-- helped loaded:#V2␊hello␊
abbrev pub settings_128 : Settings
settings_128 = record plain {
  helping = aide true None;
  loaded = codes "#V2\nhello\n";
}

-- h Right Enter = hello | saves nothing | shows {} {h␛[mello␛[m␛[4D {hello} ␍␊ {} ␍␊
abbrev pub row_128 : Row
row_128 = record (row 128 settings_128 (codes "h\u{1b}[C\r") (codes "hello\n")) {
  saves = Some [];
  shows = Some (codes "\r\u{1b}[J\u{1b}[m> \u{1b}[m\u{1b}[m\u{1b}[m\r\u{1b}[J\u{1b}[m> \u{1b}[mh" ++
      codes "\u{1b}[mello\u{1b}[m\u{1b}[4D\r\u{1b}[J\u{1b}[m> \u{1b}[mhello\u{1b}[m\u{1b}[m" ++
      codes "\r\n\r\u{1b}[J\u{1b}[m> \u{1b}[m\u{1b}[m\u{1b}[m\r\n");
}

-- helped words:alpha,alpine loaded:#V2␊alps␊
abbrev pub settings_132 : Settings
settings_132 = record plain {
  helping = aide true (Some ((codes "alpha") ∷ (codes "alpine") ∷ []));
  loaded = codes "#V2\nalps\n";
}

-- a Tab Right Enter = alps
abbrev pub row_132 : Row
row_132 = row 132 settings_132 (codes "a\t\u{1b}[C\r") (codes "alps\n")

-- columns:4
abbrev pub settings_135 : Settings
settings_135 = record plain {
  columns = 4;
}

-- abc = nothing | shows {} a {ab␍␊} c ␍␊
abbrev pub row_135 : Row
row_135 = record (row 135 settings_135 (codes "abc") []) {
  shows = Some
      (codes "\r\u{1b}[J\u{1b}[m> \u{1b}[m\u{1b}[m\u{1b}[ma\r\u{1b}[J\u{1b}[m> \u{1b}[mab\r" ++
      codes "\n\u{1b}[m\u{1b}[mc\r\n");
}

-- ab Left Enter = ab | shows {} a {ab␍␊} ␛[1A␛[3C ␛[1B␛[3D␍␊ {} ␍␊
abbrev pub row_137 : Row
row_137 = record (row 137 settings_135 (codes "ab\u{1b}[D\r") (codes "ab\n")) {
  shows = Some
      (codes "\r\u{1b}[J\u{1b}[m> \u{1b}[m\u{1b}[m\u{1b}[ma\r\u{1b}[J\u{1b}[m> \u{1b}[mab\r" ++
      codes "\n\u{1b}[m\u{1b}[m\u{1b}[1A\u{1b}[3C\u{1b}[1B\u{1b}[3D\r\n\r\u{1b}[J\u{1b}[m> " ++
      codes "\u{1b}[m\u{1b}[m\u{1b}[m\r\n");
}

-- columns:3 bare
abbrev pub settings_140 : Settings
settings_140 = record plain {
  columns = 3;
  prompt = [];
}

-- 漢字 = nothing | shows ␍␛[J␛[m␛[m␛[m␛[m ␍␛[J␛[m␛[m␛[m漢␛[m␛[m␛[m ␍␛[J␛[m␛[m␛[m漢␛[m␍␊␛[m字␛[m␛[m␛[m ␍␊
abbrev pub row_140 : Row
row_140 = record (row 140 settings_140 (encode_utf8_all (codes "漢字")) []) {
  shows = Some (encode_utf8_all
      (codes "\r\u{1b}[J\u{1b}[m\u{1b}[m\u{1b}[m\u{1b}[m\r\u{1b}[J\u{1b}[m\u{1b}[m\u{1b}[m漢" ++
      codes "\u{1b}[m\u{1b}[m\u{1b}[m\r\u{1b}[J\u{1b}[m\u{1b}[m\u{1b}[m漢\u{1b}[m\r\n\u{1b}[" ++
      codes "m字\u{1b}[m\u{1b}[m\u{1b}[m\r\n"));
}

-- columns:3
abbrev pub settings_144 : Settings
settings_144 = record plain {
  columns = 3;
}

-- 漢 = nothing | shows {} {␍␊␛[m漢␛[m} ␍␊
abbrev pub row_144 : Row
row_144 = record (row 144 settings_144 (encode_utf8_all (codes "漢")) []) {
  shows = Some (encode_utf8_all
      (codes "\r\u{1b}[J\u{1b}[m> \u{1b}[m\u{1b}[m\u{1b}[m\r\u{1b}[J\u{1b}[m> \u{1b}[m\r\n" ++
      codes "\u{1b}[m漢\u{1b}[m\u{1b}[m\u{1b}[m\r\n"));
}

-- columns:2 bare
abbrev pub settings_148 : Settings
settings_148 = record plain {
  columns = 2;
  prompt = [];
}

-- ‹e1›‹9f›‹98› = nothing | shows ␍␛[J␛[m␛[m␛[m␛[m ␍␛[J␛[m␛[m␛[m?␛[m␛[m␛[m ␍␊
abbrev pub row_148 : Row
row_148 = record (row 148 settings_148 (encode_utf8_all (codes "៘")) []) {
  shows = Some
      (codes "\r\u{1b}[J\u{1b}[m\u{1b}[m\u{1b}[m\u{1b}[m\r\u{1b}[J\u{1b}[m\u{1b}[m\u{1b}[m?" ++
      codes "\u{1b}[m\u{1b}[m\u{1b}[m\r\n");
}

-- bare
abbrev pub settings_151 : Settings
settings_151 = record plain {
  prompt = [];
}

-- ‹e2›‹80›‹8b› = nothing | shows ␍␛[J␛[m␛[m␛[m␛[m ␍␛[J␛[m␛[m␛[m?␛[m␛[m␛[m ␍␊
abbrev pub row_151 : Row
row_151 = record (row 151 settings_151 (encode_utf8_all (codes "\u{200b}")) []) {
  shows = Some
      (codes "\r\u{1b}[J\u{1b}[m\u{1b}[m\u{1b}[m\u{1b}[m\r\u{1b}[J\u{1b}[m\u{1b}[m\u{1b}[m?" ++
      codes "\u{1b}[m\u{1b}[m\u{1b}[m\r\n");
}

-- Paste a‹c2›‹85›␡ Pasted = nothing | shows ␍␛[J␛[m␛[m␛[m␛[m ␍␛[J␛[m␛[ma␛[m?␛[m␛[m?␛[m␛[m␛[m ␍␊
abbrev pub row_152 : Row
row_152 = record (row 152 settings_151 (encode_utf8_all
    (codes "\u{1b}[200~a\u{85}\u{7f}\u{1b}[201~")) []) {
      shows = Some
          (codes "\r\u{1b}[J\u{1b}[m\u{1b}[m\u{1b}[m\u{1b}[m\r\u{1b}[J\u{1b}[m\u{1b}[ma\u{1b}[m?" ++
          codes "\u{1b}[m\u{1b}[m?\u{1b}[m\u{1b}[m\u{1b}[m\r\n");
    }

-- 漢 a = nothing | shows ␍␛[J␛[m␛[m␛[m␛[m ␍␛[J␛[m␛[m␛[m漢␛[m␍␊␛[m␛[m ␛[1A␍␛[J␛[m␛[m␛[m漢␛[m␍␊a␛[m␛[m ␍␊
abbrev pub row_155 : Row
row_155 = record (row 155 settings_148 (encode_utf8_all (codes "漢a")) []) {
  shows = Some (encode_utf8_all
      (codes "\r\u{1b}[J\u{1b}[m\u{1b}[m\u{1b}[m\u{1b}[m\r\u{1b}[J\u{1b}[m\u{1b}[m\u{1b}[m漢" ++
      codes "\u{1b}[m\r\n\u{1b}[m\u{1b}[m\u{1b}[1A\r\u{1b}[J\u{1b}[m\u{1b}[m\u{1b}[m漢\u{1b}" ++
      codes "[m\r\na\u{1b}[m\u{1b}[m\r\n"));
}

-- columns:2
abbrev pub settings_158 : Settings
settings_158 = record plain {
  columns = 2;
}

-- ab = nothing | shows ␍␛[J␛[m>␠␍␊␛[m␛[m␛[m a ␛[1A␍␛[J␛[m>␠␍␊␛[mab␍␊␛[m␛[m ␍␊
abbrev pub row_158 : Row
row_158 = record (row 158 settings_158 (codes "ab") []) {
  shows = Some
      (codes "\r\u{1b}[J\u{1b}[m> \r\n\u{1b}[m\u{1b}[m\u{1b}[ma\u{1b}[1A\r\u{1b}[J\u{1b}[m> " ++
      codes "\r\n\u{1b}[mab\r\n\u{1b}[m\u{1b}[m\r\n");
}

abbrev pub rows_rows : List Row
rows_rows = row_4 ∷ row_5 ∷ row_6 ∷ row_7 ∷ row_8 ∷ row_9 ∷ row_10 ∷ row_11 ∷ row_12 ∷ row_13 ∷
    row_14 ∷ row_15 ∷ row_16 ∷ row_17 ∷ row_18 ∷ row_19 ∷ row_20 ∷ row_21 ∷ row_22 ∷ row_23 ∷ row_24
    ∷ row_25 ∷ row_26 ∷ row_29 ∷ row_30 ∷ row_31 ∷ row_34 ∷ row_35 ∷ row_36 ∷ row_37 ∷ row_40 ∷
    row_44 ∷ row_48 ∷ row_51 ∷ row_55 ∷ row_59 ∷ row_63 ∷ row_64 ∷ row_65 ∷ row_66 ∷ row_67 ∷ row_68
    ∷ row_69 ∷ row_70 ∷ row_71 ∷ row_72 ∷ row_73 ∷ row_74 ∷ row_76 ∷ row_77 ∷ row_78 ∷ row_79 ∷
    row_81 ∷ row_84 ∷ row_85 ∷ row_86 ∷ row_87 ∷ row_90 ∷ row_94 ∷ row_95 ∷ row_98 ∷ row_101 ∷
    row_102 ∷ row_103 ∷ row_104 ∷ row_105 ∷ row_106 ∷ row_110 ∷ row_111 ∷ row_112 ∷ row_113 ∷
    row_117 ∷ row_120 ∷ row_121 ∷ row_122 ∷ row_125 ∷ row_128 ∷ row_132 ∷ row_135 ∷ row_137 ∷
    row_140 ∷ row_144 ∷ row_148 ∷ row_151 ∷ row_152 ∷ row_155 ∷ row_158 ∷ []
