-- The rows of refusals.txt; tests/definition/worked_rows.py writes them.
use Rattle.line_keys.specs.Keys.{ctrl, key_with}
use Rattle.line_keys.specs.declared.command.Cmd.TheVariants.{YankPop}
use Rattle.line_keys.specs.declared.events.Event.TheVariants.{KeySeq}
use Rattle.line_keys.specs.declared.key.KeyCode.TheVariants.{Char}
use Rattle.std.specs.Prelude.{List, [], ◌∷◌, None, Some, true, false, codes}
use Rattle.worked_rows.specs.Playing.{Row, row}
use Rattle.worked_rows.specs.Settings.{Settings, adding, aide, bound, command, limited, listed, modal, plain, tabs, vi}

-- abc C-a X Enter = Xabc
abbrev pub row_5 : Row
row_5 = row 5 plain (codes "abc\u{1}X\r") (codes "Xabc\n")

-- abc C-u Enter C-y Enter = "" abc
abbrev pub row_6 : Row
row_6 = row 6 plain (codes "abc\u{15}\r\u{19}\r") (codes "\nabc\n")

-- Paste a␊b Pasted Enter = a␊b
abbrev pub row_7 : Row
row_7 = row 7 plain (codes "\u{1b}[200~a\nb\u{1b}[201~\r") (codes "a\nb\n")

-- one␠two C-w C-a C-y Enter = twoone␠
abbrev pub row_8 : Row
row_8 = row 8 plain (codes "one two\u{17}\u{1}\u{19}\r") (codes "twoone \n")

-- one␠two M-t M-u C-_ M-3 x C-_ C-_ Enter = one
abbrev pub row_9 : Row
row_9 = row 9 plain (codes "one two\u{1b}t\u{1b}u\u{1f}\u{1b}3x\u{1f}\u{1f}\r") (codes "one\n")

-- vi
abbrev pub settings_12 : Settings
settings_12 = record plain {
  config = vi plain.config;
}

-- one␠two Esc 0dw Enter = two
abbrev pub row_12 : Row
row_12 = row 12 settings_12 (codes "one two\u{1b}0dw\r") (codes "two\n")

-- Paste a␊b Pasted Enter = a␊b
abbrev pub row_13 : Row
row_13 = row 13 settings_12 (codes "\u{1b}[200~a\nb\u{1b}[201~\r") (codes "a\nb\n")

-- one␠two Esc 0cwx Esc w. Enter = x␠x
abbrev pub row_14 : Row
row_14 = row 14 settings_12 (codes "one two\u{1b}0cwx\u{1b}w.\r") (codes "x x\n")

-- one␠two Esc 0dw$pxu Enter = twoone␠
abbrev pub row_15 : Row
row_15 = row 15 settings_12 (codes "one two\u{1b}0dw$pxu\r") (codes "twoone \n")

-- vi bind:C-O⇒YankPop
abbrev pub settings_18 : Settings
settings_18 = record plain {
  config = vi plain.config;
  custom = bound ((KeySeq ((key_with (Char 79) ctrl) ∷ []), command YankPop) ∷ []);
}

-- ab Esc D0P C-O Enter = ba
abbrev pub row_18 : Row
row_18 = row 18 settings_18 (codes "ab\u{1b}D0P\u{f}\r") (codes "ba\n")

-- adding
abbrev pub settings_21 : Settings
settings_21 = record plain {
  config = adding plain.config;
}

-- first Enter second Enter C-p C-p Enter = first second first
abbrev pub row_21 : Row
row_21 = row 21 settings_21 (codes "first\rsecond\r\u{10}\u{10}\r") (codes "first\nsecond\nfirst\n")

-- vi adding
abbrev pub settings_24 : Settings
settings_24 = record plain {
  config = adding (vi plain.config);
}

-- one Enter two Enter Esc kkAx Enter = one two onex
abbrev pub row_24 : Row
row_24 = row 24 settings_24 (codes "one\rtwo\r\u{1b}kkAx\r") (codes "one\ntwo\nonex\n")

-- helped
abbrev pub settings_27 : Settings
settings_27 = record plain {
  helping = aide true None;
}

-- (a Enter b) Enter = (a␊b)
abbrev pub row_27 : Row
row_27 = row 27 settings_27 (codes "(a\rb)\r") (codes "(a\nb)\n")

-- ] Enter Backspace x Enter = x
abbrev pub row_28 : Row
row_28 = row 28 settings_27 (codes "]\r\u{7f}x\r") (codes "x\n")

-- adding words:alpha,alpine
abbrev pub settings_31 : Settings
settings_31 = record plain {
  config = adding plain.config;
  helping = aide false (Some ((codes "alpha") ∷ (codes "alpine") ∷ []));
}

-- al Tab Enter alph Tab C-_ Enter = alp alph
abbrev pub row_31 : Row
row_31 = row 31 settings_31 (codes "al\t\ralph\t\u{1f}\r") (codes "alp\nalph\n")

-- adding helped loaded:#V2␊hello␊
abbrev pub settings_34 : Settings
settings_34 = record plain {
  config = adding plain.config;
  helping = aide true None;
  loaded = codes "#V2\nhello\n";
}

-- he Right ! Enter = hello!
abbrev pub row_34 : Row
row_34 = row 34 settings_34 (codes "he\u{1b}[C!\r") (codes "hello!\n")

-- columns:4
abbrev pub settings_37 : Settings
settings_37 = record plain {
  columns = 4;
}

-- abcdef Left Backspace Enter = abcdf
abbrev pub row_37 : Row
row_37 = row 37 settings_37 (codes "abcdef\u{1b}[D\u{7f}\r") (codes "abcdf\n")

-- modal tabs adding loaded:#V2␊git␠status␊make␠test␊
abbrev pub settings_40 : Settings
settings_40 = record plain {
  config = tabs (modal (adding plain.config));
  loaded = codes "#V2\ngit status\nmake test\n";
}

-- ab C-R st C-R Enter = git␠status
abbrev pub row_40 : Row
row_40 = row 40 settings_40 (codes "ab\u{12}st\u{12}\r") (codes "git status\n")

-- ab C-R t C-G X Enter C-R C-R Backspace C-_ m Enter = abX m
abbrev pub row_41 : Row
row_41 = row 41 settings_40 (codes "ab\u{12}t\u{7}X\r\u{12}\u{12}\u{7f}\u{1f}m\r")
    (codes "abX\nm\n")

-- ma Up ! C-V Tab Enter = ma!␉ke␠test
abbrev pub row_42 : Row
row_42 = row 42 settings_40 (codes "ma\u{1b}[A!\u{16}\t\r") (codes "ma!\tke test\n")

-- modal vi adding loaded:#V2␊make␠test␊
abbrev pub settings_45 : Settings
settings_45 = record plain {
  config = modal (adding (vi plain.config));
  loaded = codes "#V2\nmake test\n";
}

-- ab C-R te Esc u Enter = ab
abbrev pub row_45 : Row
row_45 = row 45 settings_45 (codes "ab\u{12}te\u{1b}u\r") (codes "ab\n")

-- modal listed limit:1 adding words:alpha,alpine
abbrev pub settings_48 : Settings
settings_48 = record plain {
  config = limited 1 (listed (modal (adding plain.config)));
  helping = aide false (Some ((codes "alpha") ∷ (codes "alpine") ∷ []));
}

-- al Tab Tab Tab h Tab Enter = alpha
abbrev pub row_48 : Row
row_48 = row 48 settings_48 (codes "al\t\t\th\t\r") (codes "alpha\n")

-- modal adding words:alpha,alpine
abbrev pub settings_51 : Settings
settings_51 = record plain {
  config = modal (adding plain.config);
  helping = aide false (Some ((codes "alpha") ∷ (codes "alpine") ∷ []));
}

-- al Tab Tab Tab Tab Enter x␠al Tab C-G Tab C-_ Enter = alpha x␠al
abbrev pub row_51 : Row
row_51 = row 51 settings_51 (codes "al\t\t\t\t\rx al\t\u{7}\t\u{1f}\r") (codes "alpha\nx al\n")

-- modal vi adding loaded:#V2␊git␠status␊make␠test␊git␠diff␊
abbrev pub settings_54 : Settings
settings_54 = record plain {
  config = modal (adding (vi plain.config));
  loaded = codes "#V2\ngit status\nmake test\ngit diff\n";
}

-- ab Esc / git Esc n N u Enter = git␠status
abbrev pub row_54 : Row
row_54 = row 54 settings_54 (codes "ab\u{1b}/git\u{1b}nNu\r") (codes "git status\n")

abbrev pub refusals_rows : List Row
refusals_rows = row_5 ∷ row_6 ∷ row_7 ∷ row_8 ∷ row_9 ∷ row_12 ∷ row_13 ∷ row_14 ∷ row_15 ∷ row_18 ∷
    row_21 ∷ row_24 ∷ row_27 ∷ row_28 ∷ row_31 ∷ row_34 ∷ row_37 ∷ row_40 ∷ row_41 ∷ row_42 ∷ row_45
    ∷ row_48 ∷ row_51 ∷ row_54 ∷ []
