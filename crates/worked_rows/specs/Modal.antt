-- The rows of modal.txt; tests/definition/worked_rows.py writes them.
use Rattle.line_config.specs.declared.errors.ReadlineError.TheVariants.{Interrupted}
use Rattle.line_keys.specs.Keys.{ctrl, key_with}
use Rattle.line_keys.specs.declared.command.Cmd.TheVariants.{Abort, SelfInsert}
use Rattle.line_keys.specs.declared.events.Event.TheVariants.{KeySeq}
use Rattle.line_keys.specs.declared.key.KeyCode.TheVariants.{Char}
use Rattle.std.specs.Prelude.{List, [], ◌∷◌, ◌++◌, None, Some, true, codes, encode_utf8_all}
use Rattle.worked_rows.specs.Playing.{Row, row}
use Rattle.worked_rows.specs.Settings.{Settings, adding, aide, bound, command, modal, partial, plain, vi}

-- modal partial loaded:#V2␊git␠status␊make␠test␊git␠commit␠-m␠one␊ls␠-l␊
abbrev pub settings_7 : Settings
settings_7 = record plain {
  config = partial (modal plain.config);
  loaded = codes "#V2\ngit status\nmake test\ngit commit -m one\nls -l\n";
}

-- C-R Enter = "" | shows {} ''} {} ␍␊ {} ␍␊
abbrev pub row_7 : Row
row_7 = record (row 7 settings_7 (codes "\u{12}\r") (codes "\n")) {
  shows = Some
      (codes "\r\u{1b}[J\u{1b}[m> \u{1b}[m\u{1b}[m\u{1b}[m\r\u{1b}[J\u{1b}[m(reverse-i-searc" ++
      codes "h)`': \u{1b}[m\u{1b}[m\u{1b}[m\r\u{1b}[J\u{1b}[m> \u{1b}[m\u{1b}[m\u{1b}[m\r\n" ++
      codes "\r\u{1b}[J\u{1b}[m> \u{1b}[m\u{1b}[m\u{1b}[m\r\n");
}

-- C-R git Enter = git␠commit␠-m␠one | shows {} ''} 'g'git␠commit␠-m␠one}␛[17D 'gi'git␠commit␠-m␠one}␛[17D 'git'git␠commit␠-m␠one}␛[17D {git␠commit␠-m␠one}␛[17D ␛[17C␍␊ {} ␍␊
abbrev pub row_8 : Row
row_8 = record (row 8 settings_7 (codes "\u{12}git\r") (codes "git commit -m one\n")) {
  shows = Some
      (codes "\r\u{1b}[J\u{1b}[m> \u{1b}[m\u{1b}[m\u{1b}[m\r\u{1b}[J\u{1b}[m(reverse-i-searc" ++
      codes "h)`': \u{1b}[m\u{1b}[m\u{1b}[m\r\u{1b}[J\u{1b}[m(reverse-i-search)`g': \u{1b}[" ++
      codes "mgit commit -m one\u{1b}[m\u{1b}[m\u{1b}[17D\r\u{1b}[J\u{1b}[m(reverse-i-searc" ++
      codes "h)`gi': \u{1b}[mgit commit -m one\u{1b}[m\u{1b}[m\u{1b}[17D\r\u{1b}[J\u{1b}[m(" ++
      codes "reverse-i-search)`git': \u{1b}[mgit commit -m one\u{1b}[m\u{1b}[m\u{1b}[17D\r" ++
      codes "\u{1b}[J\u{1b}[m> \u{1b}[mgit commit -m one\u{1b}[m\u{1b}[m\u{1b}[17D\u{1b}[17" ++
      codes "C\r\n\r\u{1b}[J\u{1b}[m> \u{1b}[m\u{1b}[m\u{1b}[m\r\n");
}

-- C-R st Enter = make␠test | shows {} ''} 's'ls␠-l}␛[4D 'st'make␠test}␛[2D {make␠test}␛[2D ␛[2C␍␊ {} ␍␊
abbrev pub row_9 : Row
row_9 = record (row 9 settings_7 (codes "\u{12}st\r") (codes "make test\n")) {
  shows = Some
      (codes "\r\u{1b}[J\u{1b}[m> \u{1b}[m\u{1b}[m\u{1b}[m\r\u{1b}[J\u{1b}[m(reverse-i-searc" ++
      codes "h)`': \u{1b}[m\u{1b}[m\u{1b}[m\r\u{1b}[J\u{1b}[m(reverse-i-search)`s': \u{1b}[" ++
      codes "mls -l\u{1b}[m\u{1b}[m\u{1b}[4D\r\u{1b}[J\u{1b}[m(reverse-i-search)`st': " ++
      codes "\u{1b}[mmake test\u{1b}[m\u{1b}[m\u{1b}[2D\r\u{1b}[J\u{1b}[m> \u{1b}[mmake tes" ++
      codes "t\u{1b}[m\u{1b}[m\u{1b}[2D\u{1b}[2C\r\n\r\u{1b}[J\u{1b}[m> \u{1b}[m\u{1b}[m" ++
      codes "\u{1b}[m\r\n");
}

-- C-R ma C-C = nothing | ends Interrupted | shows {} ''} 'm'git␠commit␠-m␠one}␛[11D 'ma'make␠test}␛[9D {make␠test}␛[9D ␛[9C␍␊
abbrev pub row_10 : Row
row_10 = record (row 10 settings_7 (codes "\u{12}ma\u{3}") []) {
  ends = Interrupted;
  shows = Some
      (codes "\r\u{1b}[J\u{1b}[m> \u{1b}[m\u{1b}[m\u{1b}[m\r\u{1b}[J\u{1b}[m(reverse-i-searc" ++
      codes "h)`': \u{1b}[m\u{1b}[m\u{1b}[m\r\u{1b}[J\u{1b}[m(reverse-i-search)`m': \u{1b}[" ++
      codes "mgit commit -m one\u{1b}[m\u{1b}[m\u{1b}[11D\r\u{1b}[J\u{1b}[m(reverse-i-searc" ++
      codes "h)`ma': \u{1b}[mmake test\u{1b}[m\u{1b}[m\u{1b}[9D\r\u{1b}[J\u{1b}[m> \u{1b}[m" ++
      codes "make test\u{1b}[m\u{1b}[m\u{1b}[9D\u{1b}[9C\r\n");
}

-- C-R C-D = nothing | shows {} ''} {} ␍␊
abbrev pub row_11 : Row
row_11 = record (row 11 settings_7 (codes "\u{12}\u{4}") []) {
  shows = Some
      (codes "\r\u{1b}[J\u{1b}[m> \u{1b}[m\u{1b}[m\u{1b}[m\r\u{1b}[J\u{1b}[m(reverse-i-searc" ++
      codes "h)`': \u{1b}[m\u{1b}[m\u{1b}[m\r\u{1b}[J\u{1b}[m> \u{1b}[m\u{1b}[m\u{1b}[m\r\n");
}

-- C-R ls C-D Enter = s␠-l | shows {} ''} 'l'ls␠-l}␛[5D 'ls'ls␠-l}␛[5D {ls␠-l}␛[5D ␛[P ␛[4C␍␊ {} ␍␊
abbrev pub row_12 : Row
row_12 = record (row 12 settings_7 (codes "\u{12}ls\u{4}\r") (codes "s -l\n")) {
  shows = Some
      (codes "\r\u{1b}[J\u{1b}[m> \u{1b}[m\u{1b}[m\u{1b}[m\r\u{1b}[J\u{1b}[m(reverse-i-searc" ++
      codes "h)`': \u{1b}[m\u{1b}[m\u{1b}[m\r\u{1b}[J\u{1b}[m(reverse-i-search)`l': \u{1b}[" ++
      codes "mls -l\u{1b}[m\u{1b}[m\u{1b}[5D\r\u{1b}[J\u{1b}[m(reverse-i-search)`ls': " ++
      codes "\u{1b}[mls -l\u{1b}[m\u{1b}[m\u{1b}[5D\r\u{1b}[J\u{1b}[m> \u{1b}[mls -l\u{1b}[" ++
      codes "m\u{1b}[m\u{1b}[5D\u{1b}[P\u{1b}[4C\r\n\r\u{1b}[J\u{1b}[m> \u{1b}[m\u{1b}[m" ++
      codes "\u{1b}[m\r\n");
}

-- draft C-R ma C-E X Enter = make␠testX | shows {} d r a f t ''draft} 'm'git␠commit␠-m␠one}␛[11D 'ma'make␠test}␛[9D {make␠test}␛[9D ␛[9C X ␍␊ {} ␍␊
abbrev pub row_13 : Row
row_13 = record (row 13 settings_7 (codes "draft\u{12}ma\u{5}X\r") (codes "make testX\n")) {
  shows = Some
      (codes "\r\u{1b}[J\u{1b}[m> \u{1b}[m\u{1b}[m\u{1b}[mdraft\r\u{1b}[J\u{1b}[m(reverse-i-" ++
      codes "search)`': \u{1b}[mdraft\u{1b}[m\u{1b}[m\r\u{1b}[J\u{1b}[m(reverse-i-search)`m" ++
      codes "': \u{1b}[mgit commit -m one\u{1b}[m\u{1b}[m\u{1b}[11D\r\u{1b}[J\u{1b}[m(rever" ++
      codes "se-i-search)`ma': \u{1b}[mmake test\u{1b}[m\u{1b}[m\u{1b}[9D\r\u{1b}[J\u{1b}[m" ++
      codes "> \u{1b}[mmake test\u{1b}[m\u{1b}[m\u{1b}[9D\u{1b}[9CX\r\n\r\u{1b}[J\u{1b}[m> " ++
      codes "\u{1b}[m\u{1b}[m\u{1b}[m\r\n");
}

-- draft C-R ma Enter = make␠test | shows {} d r a f t ''draft} 'm'git␠commit␠-m␠one}␛[11D 'ma'make␠test}␛[9D {make␠test}␛[9D ␛[9C␍␊ {} ␍␊
abbrev pub row_14 : Row
row_14 = record (row 14 settings_7 (codes "draft\u{12}ma\r") (codes "make test\n")) {
  shows = Some
      (codes "\r\u{1b}[J\u{1b}[m> \u{1b}[m\u{1b}[m\u{1b}[mdraft\r\u{1b}[J\u{1b}[m(reverse-i-" ++
      codes "search)`': \u{1b}[mdraft\u{1b}[m\u{1b}[m\r\u{1b}[J\u{1b}[m(reverse-i-search)`m" ++
      codes "': \u{1b}[mgit commit -m one\u{1b}[m\u{1b}[m\u{1b}[11D\r\u{1b}[J\u{1b}[m(rever" ++
      codes "se-i-search)`ma': \u{1b}[mmake test\u{1b}[m\u{1b}[m\u{1b}[9D\r\u{1b}[J\u{1b}[m" ++
      codes "> \u{1b}[mmake test\u{1b}[m\u{1b}[m\u{1b}[9D\u{1b}[9C\r\n\r\u{1b}[J\u{1b}[m> " ++
      codes "\u{1b}[m\u{1b}[m\u{1b}[m\r\n");
}

-- C-R git C-K C-Y Enter = git␠commit␠-m␠one | shows {} ''} 'g'git␠commit␠-m␠one}␛[17D 'gi'git␠commit␠-m␠one}␛[17D 'git'git␠commit␠-m␠one}␛[17D {git␠commit␠-m␠one}␛[17D ␛[K ␛[Jgit␠commit␠-m␠one ␍␊ {} ␍␊
abbrev pub row_15 : Row
row_15 = record (row 15 settings_7 (codes "\u{12}git\u{b}\u{19}\r") (codes "git commit -m one\n")) {
  shows = Some
      (codes "\r\u{1b}[J\u{1b}[m> \u{1b}[m\u{1b}[m\u{1b}[m\r\u{1b}[J\u{1b}[m(reverse-i-searc" ++
      codes "h)`': \u{1b}[m\u{1b}[m\u{1b}[m\r\u{1b}[J\u{1b}[m(reverse-i-search)`g': \u{1b}[" ++
      codes "mgit commit -m one\u{1b}[m\u{1b}[m\u{1b}[17D\r\u{1b}[J\u{1b}[m(reverse-i-searc" ++
      codes "h)`gi': \u{1b}[mgit commit -m one\u{1b}[m\u{1b}[m\u{1b}[17D\r\u{1b}[J\u{1b}[m(" ++
      codes "reverse-i-search)`git': \u{1b}[mgit commit -m one\u{1b}[m\u{1b}[m\u{1b}[17D\r" ++
      codes "\u{1b}[J\u{1b}[m> \u{1b}[mgit commit -m one\u{1b}[m\u{1b}[m\u{1b}[17D\u{1b}[K" ++
      codes "\u{1b}[Jgit commit -m one\r\n\r\u{1b}[J\u{1b}[m> \u{1b}[m\u{1b}[m\u{1b}[m\r\n");
}

-- C-R st C-L Enter = make␠test | shows {} ''} 's'ls␠-l}␛[4D 'st'make␠test}␛[2D {make␠test}␛[2D ␛[H␛[J {make␠test}␛[2D ␛[2C␍␊ {} ␍␊
abbrev pub row_16 : Row
row_16 = record (row 16 settings_7 (codes "\u{12}st\u{c}\r") (codes "make test\n")) {
  shows = Some
      (codes "\r\u{1b}[J\u{1b}[m> \u{1b}[m\u{1b}[m\u{1b}[m\r\u{1b}[J\u{1b}[m(reverse-i-searc" ++
      codes "h)`': \u{1b}[m\u{1b}[m\u{1b}[m\r\u{1b}[J\u{1b}[m(reverse-i-search)`s': \u{1b}[" ++
      codes "mls -l\u{1b}[m\u{1b}[m\u{1b}[4D\r\u{1b}[J\u{1b}[m(reverse-i-search)`st': " ++
      codes "\u{1b}[mmake test\u{1b}[m\u{1b}[m\u{1b}[2D\r\u{1b}[J\u{1b}[m> \u{1b}[mmake tes" ++
      codes "t\u{1b}[m\u{1b}[m\u{1b}[2D\u{1b}[H\u{1b}[J\r\u{1b}[J\u{1b}[m> \u{1b}[mmake tes" ++
      codes "t\u{1b}[m\u{1b}[m\u{1b}[2D\u{1b}[2C\r\n\r\u{1b}[J\u{1b}[m> \u{1b}[m\u{1b}[m" ++
      codes "\u{1b}[m\r\n");
}

-- C-R mit Esc = nothing | shows {} ''} 'm'git␠commit␠-m␠one}␛[11D 'mi'git␠commit␠-m␠one}␛[10D 'mit'git␠commit␠-m␠one}␛[10D {} ␍␊
abbrev pub row_17 : Row
row_17 = record (row 17 settings_7 (codes "\u{12}mit\u{1b}") []) {
  shows = Some
      (codes "\r\u{1b}[J\u{1b}[m> \u{1b}[m\u{1b}[m\u{1b}[m\r\u{1b}[J\u{1b}[m(reverse-i-searc" ++
      codes "h)`': \u{1b}[m\u{1b}[m\u{1b}[m\r\u{1b}[J\u{1b}[m(reverse-i-search)`m': \u{1b}[" ++
      codes "mgit commit -m one\u{1b}[m\u{1b}[m\u{1b}[11D\r\u{1b}[J\u{1b}[m(reverse-i-searc" ++
      codes "h)`mi': \u{1b}[mgit commit -m one\u{1b}[m\u{1b}[m\u{1b}[10D\r\u{1b}[J\u{1b}[m(" ++
      codes "reverse-i-search)`mit': \u{1b}[mgit commit -m one\u{1b}[m\u{1b}[m\u{1b}[10D\r" ++
      codes "\u{1b}[J\u{1b}[m> \u{1b}[m\u{1b}[m\u{1b}[m\r\n");
}

-- C-R ma ␛[999x b Enter = bmake␠test | shows {} ''} 'm'git␠commit␠-m␠one}␛[11D 'ma'make␠test}␛[9D {make␠test}␛[9D ␛[@b ␛[9C␍␊ {} ␍␊
abbrev pub row_18 : Row
row_18 = record (row 18 settings_7 (codes "\u{12}ma\u{1b}[999xb\r") (codes "bmake test\n")) {
  shows = Some
      (codes "\r\u{1b}[J\u{1b}[m> \u{1b}[m\u{1b}[m\u{1b}[m\r\u{1b}[J\u{1b}[m(reverse-i-searc" ++
      codes "h)`': \u{1b}[m\u{1b}[m\u{1b}[m\r\u{1b}[J\u{1b}[m(reverse-i-search)`m': \u{1b}[" ++
      codes "mgit commit -m one\u{1b}[m\u{1b}[m\u{1b}[11D\r\u{1b}[J\u{1b}[m(reverse-i-searc" ++
      codes "h)`ma': \u{1b}[mmake test\u{1b}[m\u{1b}[m\u{1b}[9D\r\u{1b}[J\u{1b}[m> \u{1b}[m" ++
      codes "make test\u{1b}[m\u{1b}[m\u{1b}[9D\u{1b}[@b\u{1b}[9C\r\n\r\u{1b}[J\u{1b}[m> " ++
      codes "\u{1b}[m\u{1b}[m\u{1b}[m\r\n");
}

-- C-R git C-R Enter = git␠status | shows {} ''} 'g'git␠commit␠-m␠one}␛[17D 'gi'git␠commit␠-m␠one}␛[17D 'git'git␠commit␠-m␠one}␛[17D 'git'git␠status}␛[10D {git␠status}␛[10D ␛[10C␍␊ {} ␍␊
abbrev pub row_21 : Row
row_21 = record (row 21 settings_7 (codes "\u{12}git\u{12}\r") (codes "git status\n")) {
  shows = Some
      (codes "\r\u{1b}[J\u{1b}[m> \u{1b}[m\u{1b}[m\u{1b}[m\r\u{1b}[J\u{1b}[m(reverse-i-searc" ++
      codes "h)`': \u{1b}[m\u{1b}[m\u{1b}[m\r\u{1b}[J\u{1b}[m(reverse-i-search)`g': \u{1b}[" ++
      codes "mgit commit -m one\u{1b}[m\u{1b}[m\u{1b}[17D\r\u{1b}[J\u{1b}[m(reverse-i-searc" ++
      codes "h)`gi': \u{1b}[mgit commit -m one\u{1b}[m\u{1b}[m\u{1b}[17D\r\u{1b}[J\u{1b}[m(" ++
      codes "reverse-i-search)`git': \u{1b}[mgit commit -m one\u{1b}[m\u{1b}[m\u{1b}[17D\r" ++
      codes "\u{1b}[J\u{1b}[m(reverse-i-search)`git': \u{1b}[mgit status\u{1b}[m\u{1b}[m" ++
      codes "\u{1b}[10D\r\u{1b}[J\u{1b}[m> \u{1b}[mgit status\u{1b}[m\u{1b}[m\u{1b}[10D" ++
      codes "\u{1b}[10C\r\n\r\u{1b}[J\u{1b}[m> \u{1b}[m\u{1b}[m\u{1b}[m\r\n");
}

-- C-R git C-R C-R Enter = git␠status | shows {} ''} 'g'git␠commit␠-m␠one}␛[17D 'gi'git␠commit␠-m␠one}␛[17D 'git'git␠commit␠-m␠one}␛[17D 'git'git␠status}␛[10D !'git'git␠status}␛[10D {git␠status}␛[10D ␛[10C␍␊ {} ␍␊
abbrev pub row_22 : Row
row_22 = record (row 22 settings_7 (codes "\u{12}git\u{12}\u{12}\r") (codes "git status\n")) {
  shows = Some
      (codes "\r\u{1b}[J\u{1b}[m> \u{1b}[m\u{1b}[m\u{1b}[m\r\u{1b}[J\u{1b}[m(reverse-i-searc" ++
      codes "h)`': \u{1b}[m\u{1b}[m\u{1b}[m\r\u{1b}[J\u{1b}[m(reverse-i-search)`g': \u{1b}[" ++
      codes "mgit commit -m one\u{1b}[m\u{1b}[m\u{1b}[17D\r\u{1b}[J\u{1b}[m(reverse-i-searc" ++
      codes "h)`gi': \u{1b}[mgit commit -m one\u{1b}[m\u{1b}[m\u{1b}[17D\r\u{1b}[J\u{1b}[m(" ++
      codes "reverse-i-search)`git': \u{1b}[mgit commit -m one\u{1b}[m\u{1b}[m\u{1b}[17D\r" ++
      codes "\u{1b}[J\u{1b}[m(reverse-i-search)`git': \u{1b}[mgit status\u{1b}[m\u{1b}[m" ++
      codes "\u{1b}[10D\r\u{1b}[J\u{1b}[m(failed reverse-i-search)`git': \u{1b}[mgit status" ++
      codes "\u{1b}[m\u{1b}[m\u{1b}[10D\r\u{1b}[J\u{1b}[m> \u{1b}[mgit status\u{1b}[m\u{1b}" ++
      codes "[m\u{1b}[10D\u{1b}[10C\r\n\r\u{1b}[J\u{1b}[m> \u{1b}[m\u{1b}[m\u{1b}[m\r\n");
}

-- C-R git C-R C-S Enter = git␠commit␠-m␠one | shows {} ''} 'g'git␠commit␠-m␠one}␛[17D 'gi'git␠commit␠-m␠one}␛[17D 'git'git␠commit␠-m␠one}␛[17D 'git'git␠status}␛[10D >'git'git␠commit␠-m␠one}␛[17D {git␠commit␠-m␠one}␛[17D ␛[17C␍␊ {} ␍␊
abbrev pub row_23 : Row
row_23 = record (row 23 settings_7 (codes "\u{12}git\u{12}\u{13}\r") (codes "git commit -m one\n")) {
  shows = Some
      (codes "\r\u{1b}[J\u{1b}[m> \u{1b}[m\u{1b}[m\u{1b}[m\r\u{1b}[J\u{1b}[m(reverse-i-searc" ++
      codes "h)`': \u{1b}[m\u{1b}[m\u{1b}[m\r\u{1b}[J\u{1b}[m(reverse-i-search)`g': \u{1b}[" ++
      codes "mgit commit -m one\u{1b}[m\u{1b}[m\u{1b}[17D\r\u{1b}[J\u{1b}[m(reverse-i-searc" ++
      codes "h)`gi': \u{1b}[mgit commit -m one\u{1b}[m\u{1b}[m\u{1b}[17D\r\u{1b}[J\u{1b}[m(" ++
      codes "reverse-i-search)`git': \u{1b}[mgit commit -m one\u{1b}[m\u{1b}[m\u{1b}[17D\r" ++
      codes "\u{1b}[J\u{1b}[m(reverse-i-search)`git': \u{1b}[mgit status\u{1b}[m\u{1b}[m" ++
      codes "\u{1b}[10D\r\u{1b}[J\u{1b}[m(i-search)`git': \u{1b}[mgit commit -m one\u{1b}[m" ++
      codes "\u{1b}[m\u{1b}[17D\r\u{1b}[J\u{1b}[m> \u{1b}[mgit commit -m one\u{1b}[m\u{1b}[" ++
      codes "m\u{1b}[17D\u{1b}[17C\r\n\r\u{1b}[J\u{1b}[m> \u{1b}[m\u{1b}[m\u{1b}[m\r\n");
}

-- C-R git C-R C-S ␠s C-R Enter = git␠status | shows {} ''} 'g'git␠commit␠-m␠one}␛[17D 'gi'git␠commit␠-m␠one}␛[17D 'git'git␠commit␠-m␠one}␛[17D 'git'git␠status}␛[10D >'git'git␠commit␠-m␠one}␛[17D >'git␠'git␠commit␠-m␠one}␛[17D !>'git␠s'git␠commit␠-m␠one}␛[17D 'git␠s'git␠status}␛[10D {git␠status}␛[10D ␛[10C␍␊ {} ␍␊
abbrev pub row_24 : Row
row_24 = record (row 24 settings_7 (codes "\u{12}git\u{12}\u{13} s\u{12}\r") (codes "git status\n")) {
  shows = Some
      (codes "\r\u{1b}[J\u{1b}[m> \u{1b}[m\u{1b}[m\u{1b}[m\r\u{1b}[J\u{1b}[m(reverse-i-searc" ++
      codes "h)`': \u{1b}[m\u{1b}[m\u{1b}[m\r\u{1b}[J\u{1b}[m(reverse-i-search)`g': \u{1b}[" ++
      codes "mgit commit -m one\u{1b}[m\u{1b}[m\u{1b}[17D\r\u{1b}[J\u{1b}[m(reverse-i-searc" ++
      codes "h)`gi': \u{1b}[mgit commit -m one\u{1b}[m\u{1b}[m\u{1b}[17D\r\u{1b}[J\u{1b}[m(" ++
      codes "reverse-i-search)`git': \u{1b}[mgit commit -m one\u{1b}[m\u{1b}[m\u{1b}[17D\r" ++
      codes "\u{1b}[J\u{1b}[m(reverse-i-search)`git': \u{1b}[mgit status\u{1b}[m\u{1b}[m" ++
      codes "\u{1b}[10D\r\u{1b}[J\u{1b}[m(i-search)`git': \u{1b}[mgit commit -m one\u{1b}[m" ++
      codes "\u{1b}[m\u{1b}[17D\r\u{1b}[J\u{1b}[m(i-search)`git ': \u{1b}[mgit commit -m on" ++
      codes "e\u{1b}[m\u{1b}[m\u{1b}[17D\r\u{1b}[J\u{1b}[m(failed i-search)`git s': \u{1b}[" ++
      codes "mgit commit -m one\u{1b}[m\u{1b}[m\u{1b}[17D\r\u{1b}[J\u{1b}[m(reverse-i-searc" ++
      codes "h)`git s': \u{1b}[mgit status\u{1b}[m\u{1b}[m\u{1b}[10D\r\u{1b}[J\u{1b}[m> " ++
      codes "\u{1b}[mgit status\u{1b}[m\u{1b}[m\u{1b}[10D\u{1b}[10C\r\n\r\u{1b}[J\u{1b}[m> " ++
      codes "\u{1b}[m\u{1b}[m\u{1b}[m\r\n");
}

-- C-R gix Enter = git␠commit␠-m␠one | shows {} ''} 'g'git␠commit␠-m␠one}␛[17D 'gi'git␠commit␠-m␠one}␛[17D !'gix'git␠commit␠-m␠one}␛[17D {git␠commit␠-m␠one}␛[17D ␛[17C␍␊ {} ␍␊
abbrev pub row_25 : Row
row_25 = record (row 25 settings_7 (codes "\u{12}gix\r") (codes "git commit -m one\n")) {
  shows = Some
      (codes "\r\u{1b}[J\u{1b}[m> \u{1b}[m\u{1b}[m\u{1b}[m\r\u{1b}[J\u{1b}[m(reverse-i-searc" ++
      codes "h)`': \u{1b}[m\u{1b}[m\u{1b}[m\r\u{1b}[J\u{1b}[m(reverse-i-search)`g': \u{1b}[" ++
      codes "mgit commit -m one\u{1b}[m\u{1b}[m\u{1b}[17D\r\u{1b}[J\u{1b}[m(reverse-i-searc" ++
      codes "h)`gi': \u{1b}[mgit commit -m one\u{1b}[m\u{1b}[m\u{1b}[17D\r\u{1b}[J\u{1b}[m(" ++
      codes "failed reverse-i-search)`gix': \u{1b}[mgit commit -m one\u{1b}[m\u{1b}[m\u{1b}" ++
      codes "[17D\r\u{1b}[J\u{1b}[m> \u{1b}[mgit commit -m one\u{1b}[m\u{1b}[m\u{1b}[17D" ++
      codes "\u{1b}[17C\r\n\r\u{1b}[J\u{1b}[m> \u{1b}[m\u{1b}[m\u{1b}[m\r\n");
}

-- C-R zz C-R C-R C-G ok Enter = ok | shows {} ''} !'z'} !'zz'} !'zz'} !'zz'} {} o k ␍␊ {} ␍␊
abbrev pub row_26 : Row
row_26 = record (row 26 settings_7 (codes "\u{12}zz\u{12}\u{12}\u{7}ok\r") (codes "ok\n")) {
  shows = Some
      (codes "\r\u{1b}[J\u{1b}[m> \u{1b}[m\u{1b}[m\u{1b}[m\r\u{1b}[J\u{1b}[m(reverse-i-searc" ++
      codes "h)`': \u{1b}[m\u{1b}[m\u{1b}[m\r\u{1b}[J\u{1b}[m(failed reverse-i-search)`z': " ++
      codes "\u{1b}[m\u{1b}[m\u{1b}[m\r\u{1b}[J\u{1b}[m(failed reverse-i-search)`zz': " ++
      codes "\u{1b}[m\u{1b}[m\u{1b}[m\r\u{1b}[J\u{1b}[m(failed reverse-i-search)`zz': " ++
      codes "\u{1b}[m\u{1b}[m\u{1b}[m\r\u{1b}[J\u{1b}[m(failed reverse-i-search)`zz': " ++
      codes "\u{1b}[m\u{1b}[m\u{1b}[m\r\u{1b}[J\u{1b}[m> \u{1b}[m\u{1b}[m\u{1b}[mok\r\n\r" ++
      codes "\u{1b}[J\u{1b}[m> \u{1b}[m\u{1b}[m\u{1b}[m\r\n");
}

-- C-S git Enter = "" | shows {} >''} !>'g'} !>'gi'} !>'git'} {} ␍␊ {} ␍␊
abbrev pub row_27 : Row
row_27 = record (row 27 settings_7 (codes "\u{13}git\r") (codes "\n")) {
  shows = Some (codes "\r\u{1b}[J\u{1b}[m> \u{1b}[m\u{1b}[m\u{1b}[m\r\u{1b}[J\u{1b}[m(i-search)`': "
      ++ codes "\u{1b}[m\u{1b}[m\u{1b}[m\r\u{1b}[J\u{1b}[m(failed i-search)`g': \u{1b}[m\u{1b}" ++
      codes "[m\u{1b}[m\r\u{1b}[J\u{1b}[m(failed i-search)`gi': \u{1b}[m\u{1b}[m\u{1b}[m\r" ++
      codes "\u{1b}[J\u{1b}[m(failed i-search)`git': \u{1b}[m\u{1b}[m\u{1b}[m\r\u{1b}[J" ++
      codes "\u{1b}[m> \u{1b}[m\u{1b}[m\u{1b}[m\r\n\r\u{1b}[J\u{1b}[m> \u{1b}[m\u{1b}[m" ++
      codes "\u{1b}[m\r\n");
}

-- C-P C-P C-S l Backspace C-G Enter = git␠commit␠-m␠one | shows {} {ls␠-l} {git␠commit␠-m␠one} >''git␠commit␠-m␠one} >'l'ls␠-l}␛[5D >''git␠commit␠-m␠one} {git␠commit␠-m␠one} ␍␊ {} ␍␊
abbrev pub row_28 : Row
row_28 = record (row 28 settings_7 (codes "\u{10}\u{10}\u{13}l\u{7f}\u{7}\r")
    (codes "git commit -m one\n")) {
      shows = Some
          (codes "\r\u{1b}[J\u{1b}[m> \u{1b}[m\u{1b}[m\u{1b}[m\r\u{1b}[J\u{1b}[m> \u{1b}[mls -l" ++
          codes "\u{1b}[m\u{1b}[m\r\u{1b}[J\u{1b}[m> \u{1b}[mgit commit -m one\u{1b}[m\u{1b}[m" ++
          codes "\r\u{1b}[J\u{1b}[m(i-search)`': \u{1b}[mgit commit -m one\u{1b}[m\u{1b}[m\r" ++
          codes "\u{1b}[J\u{1b}[m(i-search)`l': \u{1b}[mls -l\u{1b}[m\u{1b}[m\u{1b}[5D\r\u{1b}[" ++
          codes "J\u{1b}[m(i-search)`': \u{1b}[mgit commit -m one\u{1b}[m\u{1b}[m\r\u{1b}[J" ++
          codes "\u{1b}[m> \u{1b}[mgit commit -m one\u{1b}[m\u{1b}[m\r\n\r\u{1b}[J\u{1b}[m> " ++
          codes "\u{1b}[m\u{1b}[m\u{1b}[m\r\n");
    }

-- C-P C-P C-S l Enter = ls␠-l | shows {} {ls␠-l} {git␠commit␠-m␠one} >''git␠commit␠-m␠one} >'l'ls␠-l}␛[5D {ls␠-l}␛[5D ␛[5C␍␊ {} ␍␊
abbrev pub row_29 : Row
row_29 = record (row 29 settings_7 (codes "\u{10}\u{10}\u{13}l\r") (codes "ls -l\n")) {
  shows = Some
      (codes "\r\u{1b}[J\u{1b}[m> \u{1b}[m\u{1b}[m\u{1b}[m\r\u{1b}[J\u{1b}[m> \u{1b}[mls -l" ++
      codes "\u{1b}[m\u{1b}[m\r\u{1b}[J\u{1b}[m> \u{1b}[mgit commit -m one\u{1b}[m\u{1b}[m" ++
      codes "\r\u{1b}[J\u{1b}[m(i-search)`': \u{1b}[mgit commit -m one\u{1b}[m\u{1b}[m\r" ++
      codes "\u{1b}[J\u{1b}[m(i-search)`l': \u{1b}[mls -l\u{1b}[m\u{1b}[m\u{1b}[5D\r\u{1b}[" ++
      codes "J\u{1b}[m> \u{1b}[mls -l\u{1b}[m\u{1b}[m\u{1b}[5D\u{1b}[5C\r\n\r\u{1b}[J\u{1b}" ++
      codes "[m> \u{1b}[m\u{1b}[m\u{1b}[m\r\n");
}

-- C-R gix Backspace Enter = git␠commit␠-m␠one | shows {} ''} 'g'git␠commit␠-m␠one}␛[17D 'gi'git␠commit␠-m␠one}␛[17D !'gix'git␠commit␠-m␠one}␛[17D 'gi'git␠commit␠-m␠one}␛[17D {git␠commit␠-m␠one}␛[17D ␛[17C␍␊ {} ␍␊
abbrev pub row_32 : Row
row_32 = record (row 32 settings_7 (codes "\u{12}gix\u{7f}\r") (codes "git commit -m one\n")) {
  shows = Some
      (codes "\r\u{1b}[J\u{1b}[m> \u{1b}[m\u{1b}[m\u{1b}[m\r\u{1b}[J\u{1b}[m(reverse-i-searc" ++
      codes "h)`': \u{1b}[m\u{1b}[m\u{1b}[m\r\u{1b}[J\u{1b}[m(reverse-i-search)`g': \u{1b}[" ++
      codes "mgit commit -m one\u{1b}[m\u{1b}[m\u{1b}[17D\r\u{1b}[J\u{1b}[m(reverse-i-searc" ++
      codes "h)`gi': \u{1b}[mgit commit -m one\u{1b}[m\u{1b}[m\u{1b}[17D\r\u{1b}[J\u{1b}[m(" ++
      codes "failed reverse-i-search)`gix': \u{1b}[mgit commit -m one\u{1b}[m\u{1b}[m\u{1b}" ++
      codes "[17D\r\u{1b}[J\u{1b}[m(reverse-i-search)`gi': \u{1b}[mgit commit -m one\u{1b}[" ++
      codes "m\u{1b}[m\u{1b}[17D\r\u{1b}[J\u{1b}[m> \u{1b}[mgit commit -m one\u{1b}[m\u{1b}" ++
      codes "[m\u{1b}[17D\u{1b}[17C\r\n\r\u{1b}[J\u{1b}[m> \u{1b}[m\u{1b}[m\u{1b}[m\r\n");
}

-- C-R git C-R Backspace Enter = git␠commit␠-m␠one | shows {} ''} 'g'git␠commit␠-m␠one}␛[17D 'gi'git␠commit␠-m␠one}␛[17D 'git'git␠commit␠-m␠one}␛[17D 'git'git␠status}␛[10D 'gi'git␠commit␠-m␠one}␛[17D {git␠commit␠-m␠one}␛[17D ␛[17C␍␊ {} ␍␊
abbrev pub row_33 : Row
row_33 = record (row 33 settings_7 (codes "\u{12}git\u{12}\u{7f}\r") (codes "git commit -m one\n")) {
  shows = Some
      (codes "\r\u{1b}[J\u{1b}[m> \u{1b}[m\u{1b}[m\u{1b}[m\r\u{1b}[J\u{1b}[m(reverse-i-searc" ++
      codes "h)`': \u{1b}[m\u{1b}[m\u{1b}[m\r\u{1b}[J\u{1b}[m(reverse-i-search)`g': \u{1b}[" ++
      codes "mgit commit -m one\u{1b}[m\u{1b}[m\u{1b}[17D\r\u{1b}[J\u{1b}[m(reverse-i-searc" ++
      codes "h)`gi': \u{1b}[mgit commit -m one\u{1b}[m\u{1b}[m\u{1b}[17D\r\u{1b}[J\u{1b}[m(" ++
      codes "reverse-i-search)`git': \u{1b}[mgit commit -m one\u{1b}[m\u{1b}[m\u{1b}[17D\r" ++
      codes "\u{1b}[J\u{1b}[m(reverse-i-search)`git': \u{1b}[mgit status\u{1b}[m\u{1b}[m" ++
      codes "\u{1b}[10D\r\u{1b}[J\u{1b}[m(reverse-i-search)`gi': \u{1b}[mgit commit -m one" ++
      codes "\u{1b}[m\u{1b}[m\u{1b}[17D\r\u{1b}[J\u{1b}[m> \u{1b}[mgit commit -m one\u{1b}[" ++
      codes "m\u{1b}[m\u{1b}[17D\u{1b}[17C\r\n\r\u{1b}[J\u{1b}[m> \u{1b}[m\u{1b}[m\u{1b}[m" ++
      codes "\r\n");
}

-- C-R t Backspace Backspace l Enter = ls␠-l | shows {} ''} 't'git␠commit␠-m␠one}␛[15D ''} ''} 'l'ls␠-l}␛[5D {ls␠-l}␛[5D ␛[5C␍␊ {} ␍␊
abbrev pub row_34 : Row
row_34 = record (row 34 settings_7 (codes "\u{12}t\u{7f}\u{7f}l\r") (codes "ls -l\n")) {
  shows = Some
      (codes "\r\u{1b}[J\u{1b}[m> \u{1b}[m\u{1b}[m\u{1b}[m\r\u{1b}[J\u{1b}[m(reverse-i-searc" ++
      codes "h)`': \u{1b}[m\u{1b}[m\u{1b}[m\r\u{1b}[J\u{1b}[m(reverse-i-search)`t': \u{1b}[" ++
      codes "mgit commit -m one\u{1b}[m\u{1b}[m\u{1b}[15D\r\u{1b}[J\u{1b}[m(reverse-i-searc" ++
      codes "h)`': \u{1b}[m\u{1b}[m\u{1b}[m\r\u{1b}[J\u{1b}[m(reverse-i-search)`': \u{1b}[m" ++
      codes "\u{1b}[m\u{1b}[m\r\u{1b}[J\u{1b}[m(reverse-i-search)`l': \u{1b}[mls -l\u{1b}[m" ++
      codes "\u{1b}[m\u{1b}[5D\r\u{1b}[J\u{1b}[m> \u{1b}[mls -l\u{1b}[m\u{1b}[m\u{1b}[5D" ++
      codes "\u{1b}[5C\r\n\r\u{1b}[J\u{1b}[m> \u{1b}[m\u{1b}[m\u{1b}[m\r\n");
}

-- C-R é Backspace m Enter = git␠commit␠-m␠one | shows {} ''} !'␛[mé␛[m'} ''} 'm'git␠commit␠-m␠one}␛[11D {git␠commit␠-m␠one}␛[11D ␛[11C␍␊ {} ␍␊
abbrev pub row_35 : Row
row_35 = record (row 35 settings_7 (encode_utf8_all (codes "\u{12}é\u{7f}m\r"))
    (codes "git commit -m one\n")) {
      shows = Some (encode_utf8_all
          (codes "\r\u{1b}[J\u{1b}[m> \u{1b}[m\u{1b}[m\u{1b}[m\r\u{1b}[J\u{1b}[m(reverse-i-searc" ++
          codes "h)`': \u{1b}[m\u{1b}[m\u{1b}[m\r\u{1b}[J\u{1b}[m(failed reverse-i-search)`" ++
          codes "\u{1b}[mé\u{1b}[m': \u{1b}[m\u{1b}[m\u{1b}[m\r\u{1b}[J\u{1b}[m(reverse-i-searc" ++
          codes "h)`': \u{1b}[m\u{1b}[m\u{1b}[m\r\u{1b}[J\u{1b}[m(reverse-i-search)`m': \u{1b}[" ++
          codes "mgit commit -m one\u{1b}[m\u{1b}[m\u{1b}[11D\r\u{1b}[J\u{1b}[m> \u{1b}[mgit co" ++
          codes "mmit -m one\u{1b}[m\u{1b}[m\u{1b}[11D\u{1b}[11C\r\n\r\u{1b}[J\u{1b}[m> \u{1b}[" ++
          codes "m\u{1b}[m\u{1b}[m\r\n"));
    }

-- draft C-B C-R m Backspace C-E ! Enter = draft! | shows {} d r a f t ␛[1D ''draft}␛[1D 'm'git␠commit␠-m␠one}␛[11D ''draft}␛[1D {draft}␛[1D ␛[1C ! ␍␊ {} ␍␊
abbrev pub row_36 : Row
row_36 = record (row 36 settings_7 (codes "draft\u{2}\u{12}m\u{7f}\u{5}!\r") (codes "draft!\n")) {
  shows = Some
      (codes "\r\u{1b}[J\u{1b}[m> \u{1b}[m\u{1b}[m\u{1b}[mdraft\u{1b}[1D\r\u{1b}[J\u{1b}[m(r" ++
      codes "everse-i-search)`': \u{1b}[mdraft\u{1b}[m\u{1b}[m\u{1b}[1D\r\u{1b}[J\u{1b}[m(r" ++
      codes "everse-i-search)`m': \u{1b}[mgit commit -m one\u{1b}[m\u{1b}[m\u{1b}[11D\r" ++
      codes "\u{1b}[J\u{1b}[m(reverse-i-search)`': \u{1b}[mdraft\u{1b}[m\u{1b}[m\u{1b}[1D\r" ++
      codes "\u{1b}[J\u{1b}[m> \u{1b}[mdraft\u{1b}[m\u{1b}[m\u{1b}[1D\u{1b}[1C!\r\n\r\u{1b}" ++
      codes "[J\u{1b}[m> \u{1b}[m\u{1b}[m\u{1b}[m\r\n");
}

-- draft C-R m Backspace C-_ Enter = "" | shows {} d r a f t ''draft} 'm'git␠commit␠-m␠one}␛[11D ''draft} {draft} {} ␍␊ {} ␍␊
abbrev pub row_37 : Row
row_37 = record (row 37 settings_7 (codes "draft\u{12}m\u{7f}\u{1f}\r") (codes "\n")) {
  shows = Some
      (codes "\r\u{1b}[J\u{1b}[m> \u{1b}[m\u{1b}[m\u{1b}[mdraft\r\u{1b}[J\u{1b}[m(reverse-i-" ++
      codes "search)`': \u{1b}[mdraft\u{1b}[m\u{1b}[m\r\u{1b}[J\u{1b}[m(reverse-i-search)`m" ++
      codes "': \u{1b}[mgit commit -m one\u{1b}[m\u{1b}[m\u{1b}[11D\r\u{1b}[J\u{1b}[m(rever" ++
      codes "se-i-search)`': \u{1b}[mdraft\u{1b}[m\u{1b}[m\r\u{1b}[J\u{1b}[m> \u{1b}[mdraft" ++
      codes "\u{1b}[m\u{1b}[m\r\u{1b}[J\u{1b}[m> \u{1b}[m\u{1b}[m\u{1b}[m\r\n\r\u{1b}[J" ++
      codes "\u{1b}[m> \u{1b}[m\u{1b}[m\u{1b}[m\r\n");
}

-- C-R t Backspace C-R Enter = "" | shows {} ''} 't'git␠commit␠-m␠one}␛[15D ''} ''} {} ␍␊ {} ␍␊
abbrev pub row_38 : Row
row_38 = record (row 38 settings_7 (codes "\u{12}t\u{7f}\u{12}\r") (codes "\n")) {
  shows = Some
      (codes "\r\u{1b}[J\u{1b}[m> \u{1b}[m\u{1b}[m\u{1b}[m\r\u{1b}[J\u{1b}[m(reverse-i-searc" ++
      codes "h)`': \u{1b}[m\u{1b}[m\u{1b}[m\r\u{1b}[J\u{1b}[m(reverse-i-search)`t': \u{1b}[" ++
      codes "mgit commit -m one\u{1b}[m\u{1b}[m\u{1b}[15D\r\u{1b}[J\u{1b}[m(reverse-i-searc" ++
      codes "h)`': \u{1b}[m\u{1b}[m\u{1b}[m\r\u{1b}[J\u{1b}[m(reverse-i-search)`': \u{1b}[m" ++
      codes "\u{1b}[m\u{1b}[m\r\u{1b}[J\u{1b}[m> \u{1b}[m\u{1b}[m\u{1b}[m\r\n\r\u{1b}[J" ++
      codes "\u{1b}[m> \u{1b}[m\u{1b}[m\u{1b}[m\r\n");
}

-- draft C-B C-R ma C-G X Enter = drafXt | shows {} d r a f t ␛[1D ''draft}␛[1D 'm'git␠commit␠-m␠one}␛[11D 'ma'make␠test}␛[9D {draft}␛[1D ␛[@X ␛[1C␍␊ {} ␍␊
abbrev pub row_41 : Row
row_41 = record (row 41 settings_7 (codes "draft\u{2}\u{12}ma\u{7}X\r") (codes "drafXt\n")) {
  shows = Some
      (codes "\r\u{1b}[J\u{1b}[m> \u{1b}[m\u{1b}[m\u{1b}[mdraft\u{1b}[1D\r\u{1b}[J\u{1b}[m(r" ++
      codes "everse-i-search)`': \u{1b}[mdraft\u{1b}[m\u{1b}[m\u{1b}[1D\r\u{1b}[J\u{1b}[m(r" ++
      codes "everse-i-search)`m': \u{1b}[mgit commit -m one\u{1b}[m\u{1b}[m\u{1b}[11D\r" ++
      codes "\u{1b}[J\u{1b}[m(reverse-i-search)`ma': \u{1b}[mmake test\u{1b}[m\u{1b}[m" ++
      codes "\u{1b}[9D\r\u{1b}[J\u{1b}[m> \u{1b}[mdraft\u{1b}[m\u{1b}[m\u{1b}[1D\u{1b}[@X" ++
      codes "\u{1b}[1C\r\n\r\u{1b}[J\u{1b}[m> \u{1b}[m\u{1b}[m\u{1b}[m\r\n");
}

-- draft C-R git C-R C-G C-_ Enter = "" | shows {} d r a f t ''draft} 'g'git␠commit␠-m␠one}␛[17D 'gi'git␠commit␠-m␠one}␛[17D 'git'git␠commit␠-m␠one}␛[17D 'git'git␠status}␛[10D {draft} {} ␍␊ {} ␍␊
abbrev pub row_42 : Row
row_42 = record (row 42 settings_7 (codes "draft\u{12}git\u{12}\u{7}\u{1f}\r") (codes "\n")) {
  shows = Some
      (codes "\r\u{1b}[J\u{1b}[m> \u{1b}[m\u{1b}[m\u{1b}[mdraft\r\u{1b}[J\u{1b}[m(reverse-i-" ++
      codes "search)`': \u{1b}[mdraft\u{1b}[m\u{1b}[m\r\u{1b}[J\u{1b}[m(reverse-i-search)`g" ++
      codes "': \u{1b}[mgit commit -m one\u{1b}[m\u{1b}[m\u{1b}[17D\r\u{1b}[J\u{1b}[m(rever" ++
      codes "se-i-search)`gi': \u{1b}[mgit commit -m one\u{1b}[m\u{1b}[m\u{1b}[17D\r\u{1b}[" ++
      codes "J\u{1b}[m(reverse-i-search)`git': \u{1b}[mgit commit -m one\u{1b}[m\u{1b}[m" ++
      codes "\u{1b}[17D\r\u{1b}[J\u{1b}[m(reverse-i-search)`git': \u{1b}[mgit status\u{1b}[" ++
      codes "m\u{1b}[m\u{1b}[10D\r\u{1b}[J\u{1b}[m> \u{1b}[mdraft\u{1b}[m\u{1b}[m\r\u{1b}[J" ++
      codes "\u{1b}[m> \u{1b}[m\u{1b}[m\u{1b}[m\r\n\r\u{1b}[J\u{1b}[m> \u{1b}[m\u{1b}[m" ++
      codes "\u{1b}[m\r\n");
}

-- draft C-R C-G s Enter = drafts | shows {} d r a f t ''draft} {draft} s ␍␊ {} ␍␊
abbrev pub row_43 : Row
row_43 = record (row 43 settings_7 (codes "draft\u{12}\u{7}s\r") (codes "drafts\n")) {
  shows = Some
      (codes "\r\u{1b}[J\u{1b}[m> \u{1b}[m\u{1b}[m\u{1b}[mdraft\r\u{1b}[J\u{1b}[m(reverse-i-" ++
      codes "search)`': \u{1b}[mdraft\u{1b}[m\u{1b}[m\r\u{1b}[J\u{1b}[m> \u{1b}[mdraft" ++
      codes "\u{1b}[m\u{1b}[ms\r\n\r\u{1b}[J\u{1b}[m> \u{1b}[m\u{1b}[m\u{1b}[m\r\n");
}

-- draft C-R ma C-_ Enter = draft | shows {} d r a f t ''draft} 'm'git␠commit␠-m␠one}␛[11D 'ma'make␠test}␛[9D {make␠test}␛[9D {draft} ␍␊ {} ␍␊
abbrev pub row_46 : Row
row_46 = record (row 46 settings_7 (codes "draft\u{12}ma\u{1f}\r") (codes "draft\n")) {
  shows = Some
      (codes "\r\u{1b}[J\u{1b}[m> \u{1b}[m\u{1b}[m\u{1b}[mdraft\r\u{1b}[J\u{1b}[m(reverse-i-" ++
      codes "search)`': \u{1b}[mdraft\u{1b}[m\u{1b}[m\r\u{1b}[J\u{1b}[m(reverse-i-search)`m" ++
      codes "': \u{1b}[mgit commit -m one\u{1b}[m\u{1b}[m\u{1b}[11D\r\u{1b}[J\u{1b}[m(rever" ++
      codes "se-i-search)`ma': \u{1b}[mmake test\u{1b}[m\u{1b}[m\u{1b}[9D\r\u{1b}[J\u{1b}[m" ++
      codes "> \u{1b}[mmake test\u{1b}[m\u{1b}[m\u{1b}[9D\r\u{1b}[J\u{1b}[m> \u{1b}[mdraft" ++
      codes "\u{1b}[m\u{1b}[m\r\n\r\u{1b}[J\u{1b}[m> \u{1b}[m\u{1b}[m\u{1b}[m\r\n");
}

-- draft C-R git C-R C-E C-_ Enter = draft | shows {} d r a f t ''draft} 'g'git␠commit␠-m␠one}␛[17D 'gi'git␠commit␠-m␠one}␛[17D 'git'git␠commit␠-m␠one}␛[17D 'git'git␠status}␛[10D {git␠status}␛[10D ␛[10C {draft} ␍␊ {} ␍␊
abbrev pub row_47 : Row
row_47 = record (row 47 settings_7 (codes "draft\u{12}git\u{12}\u{5}\u{1f}\r") (codes "draft\n")) {
  shows = Some
      (codes "\r\u{1b}[J\u{1b}[m> \u{1b}[m\u{1b}[m\u{1b}[mdraft\r\u{1b}[J\u{1b}[m(reverse-i-" ++
      codes "search)`': \u{1b}[mdraft\u{1b}[m\u{1b}[m\r\u{1b}[J\u{1b}[m(reverse-i-search)`g" ++
      codes "': \u{1b}[mgit commit -m one\u{1b}[m\u{1b}[m\u{1b}[17D\r\u{1b}[J\u{1b}[m(rever" ++
      codes "se-i-search)`gi': \u{1b}[mgit commit -m one\u{1b}[m\u{1b}[m\u{1b}[17D\r\u{1b}[" ++
      codes "J\u{1b}[m(reverse-i-search)`git': \u{1b}[mgit commit -m one\u{1b}[m\u{1b}[m" ++
      codes "\u{1b}[17D\r\u{1b}[J\u{1b}[m(reverse-i-search)`git': \u{1b}[mgit status\u{1b}[" ++
      codes "m\u{1b}[m\u{1b}[10D\r\u{1b}[J\u{1b}[m> \u{1b}[mgit status\u{1b}[m\u{1b}[m" ++
      codes "\u{1b}[10D\u{1b}[10C\r\u{1b}[J\u{1b}[m> \u{1b}[mdraft\u{1b}[m\u{1b}[m\r\n\r" ++
      codes "\u{1b}[J\u{1b}[m> \u{1b}[m\u{1b}[m\u{1b}[m\r\n");
}

-- x C-R st C-R C-R C-_ C-_ Enter = "" | shows {} x ''x} 's'ls␠-l}␛[4D 'st'make␠test}␛[2D 'st'git␠status}␛[6D !'st'git␠status}␛[6D {git␠status}␛[6D {x} {} ␍␊ {} ␍␊
abbrev pub row_48 : Row
row_48 = record (row 48 settings_7 (codes "x\u{12}st\u{12}\u{12}\u{1f}\u{1f}\r") (codes "\n")) {
  shows = Some
      (codes "\r\u{1b}[J\u{1b}[m> \u{1b}[m\u{1b}[m\u{1b}[mx\r\u{1b}[J\u{1b}[m(reverse-i-sear" ++
      codes "ch)`': \u{1b}[mx\u{1b}[m\u{1b}[m\r\u{1b}[J\u{1b}[m(reverse-i-search)`s': " ++
      codes "\u{1b}[mls -l\u{1b}[m\u{1b}[m\u{1b}[4D\r\u{1b}[J\u{1b}[m(reverse-i-search)`st'" ++
      codes ": \u{1b}[mmake test\u{1b}[m\u{1b}[m\u{1b}[2D\r\u{1b}[J\u{1b}[m(reverse-i-searc" ++
      codes "h)`st': \u{1b}[mgit status\u{1b}[m\u{1b}[m\u{1b}[6D\r\u{1b}[J\u{1b}[m(failed r" ++
      codes "everse-i-search)`st': \u{1b}[mgit status\u{1b}[m\u{1b}[m\u{1b}[6D\r\u{1b}[J" ++
      codes "\u{1b}[m> \u{1b}[mgit status\u{1b}[m\u{1b}[m\u{1b}[6D\r\u{1b}[J\u{1b}[m> " ++
      codes "\u{1b}[mx\u{1b}[m\u{1b}[m\r\u{1b}[J\u{1b}[m> \u{1b}[m\u{1b}[m\u{1b}[m\r\n\r" ++
      codes "\u{1b}[J\u{1b}[m> \u{1b}[m\u{1b}[m\u{1b}[m\r\n");
}

-- git Up Enter = git␠commit␠-m␠one | shows {} g i t {git␠commit␠-m␠one}␛[14D ␛[14C␍␊ {} ␍␊
abbrev pub row_51 : Row
row_51 = record (row 51 settings_7 (codes "git\u{1b}[A\r") (codes "git commit -m one\n")) {
  shows = Some
      (codes "\r\u{1b}[J\u{1b}[m> \u{1b}[m\u{1b}[m\u{1b}[mgit\r\u{1b}[J\u{1b}[m> \u{1b}[mgit" ++
      codes " commit -m one\u{1b}[m\u{1b}[m\u{1b}[14D\u{1b}[14C\r\n\r\u{1b}[J\u{1b}[m> " ++
      codes "\u{1b}[m\u{1b}[m\u{1b}[m\r\n");
}

-- git Up Up Enter = git␠status | shows {} g i t {git␠commit␠-m␠one}␛[14D {git␠status}␛[7D ␛[7C␍␊ {} ␍␊
abbrev pub row_52 : Row
row_52 = record (row 52 settings_7 (codes "git\u{1b}[A\u{1b}[A\r") (codes "git status\n")) {
  shows = Some
      (codes "\r\u{1b}[J\u{1b}[m> \u{1b}[m\u{1b}[m\u{1b}[mgit\r\u{1b}[J\u{1b}[m> \u{1b}[mgit" ++
      codes " commit -m one\u{1b}[m\u{1b}[m\u{1b}[14D\r\u{1b}[J\u{1b}[m> \u{1b}[mgit status" ++
      codes "\u{1b}[m\u{1b}[m\u{1b}[7D\u{1b}[7C\r\n\r\u{1b}[J\u{1b}[m> \u{1b}[m\u{1b}[m" ++
      codes "\u{1b}[m\r\n");
}

-- git Up Up Up Enter = git␠status | shows {} g i t {git␠commit␠-m␠one}␛[14D {git␠status}␛[7D ␇ ␛[7C␍␊ {} ␍␊
abbrev pub row_53 : Row
row_53 = record (row 53 settings_7 (codes "git\u{1b}[A\u{1b}[A\u{1b}[A\r") (codes "git status\n")) {
  shows = Some
      (codes "\r\u{1b}[J\u{1b}[m> \u{1b}[m\u{1b}[m\u{1b}[mgit\r\u{1b}[J\u{1b}[m> \u{1b}[mgit" ++
      codes " commit -m one\u{1b}[m\u{1b}[m\u{1b}[14D\r\u{1b}[J\u{1b}[m> \u{1b}[mgit status" ++
      codes "\u{1b}[m\u{1b}[m\u{1b}[7D\u{7}\u{1b}[7C\r\n\r\u{1b}[J\u{1b}[m> \u{1b}[m\u{1b}[" ++
      codes "m\u{1b}[m\r\n");
}

-- git Up Down Enter = git | shows {} g i t {git␠commit␠-m␠one}␛[14D {git} ␍␊ {} ␍␊
abbrev pub row_54 : Row
row_54 = record (row 54 settings_7 (codes "git\u{1b}[A\u{1b}[B\r") (codes "git\n")) {
  shows = Some
      (codes "\r\u{1b}[J\u{1b}[m> \u{1b}[m\u{1b}[m\u{1b}[mgit\r\u{1b}[J\u{1b}[m> \u{1b}[mgit" ++
      codes " commit -m one\u{1b}[m\u{1b}[m\u{1b}[14D\r\u{1b}[J\u{1b}[m> \u{1b}[mgit\u{1b}[" ++
      codes "m\u{1b}[m\r\n\r\u{1b}[J\u{1b}[m> \u{1b}[m\u{1b}[m\u{1b}[m\r\n");
}

-- git Up Up Down Enter = git␠commit␠-m␠one | shows {} g i t {git␠commit␠-m␠one}␛[14D {git␠status}␛[7D {git␠commit␠-m␠one}␛[14D ␛[14C␍␊ {} ␍␊
abbrev pub row_55 : Row
row_55 = record (row 55 settings_7 (codes "git\u{1b}[A\u{1b}[A\u{1b}[B\r")
    (codes "git commit -m one\n")) {
      shows = Some
          (codes "\r\u{1b}[J\u{1b}[m> \u{1b}[m\u{1b}[m\u{1b}[mgit\r\u{1b}[J\u{1b}[m> \u{1b}[mgit" ++
          codes " commit -m one\u{1b}[m\u{1b}[m\u{1b}[14D\r\u{1b}[J\u{1b}[m> \u{1b}[mgit status" ++
          codes "\u{1b}[m\u{1b}[m\u{1b}[7D\r\u{1b}[J\u{1b}[m> \u{1b}[mgit commit -m one\u{1b}[m" ++
          codes "\u{1b}[m\u{1b}[14D\u{1b}[14C\r\n\r\u{1b}[J\u{1b}[m> \u{1b}[m\u{1b}[m\u{1b}[m\r" ++
          codes "\n");
    }

-- git Up Up Down Down x Enter = gitx | shows {} g i t {git␠commit␠-m␠one}␛[14D {git␠status}␛[7D {git␠commit␠-m␠one}␛[14D {git} x ␍␊ {} ␍␊
abbrev pub row_56 : Row
row_56 = record (row 56 settings_7 (codes "git\u{1b}[A\u{1b}[A\u{1b}[B\u{1b}[Bx\r")
    (codes "gitx\n")) {
      shows = Some
          (codes "\r\u{1b}[J\u{1b}[m> \u{1b}[m\u{1b}[m\u{1b}[mgit\r\u{1b}[J\u{1b}[m> \u{1b}[mgit" ++
          codes " commit -m one\u{1b}[m\u{1b}[m\u{1b}[14D\r\u{1b}[J\u{1b}[m> \u{1b}[mgit status" ++
          codes "\u{1b}[m\u{1b}[m\u{1b}[7D\r\u{1b}[J\u{1b}[m> \u{1b}[mgit commit -m one\u{1b}[m" ++
          codes "\u{1b}[m\u{1b}[14D\r\u{1b}[J\u{1b}[m> \u{1b}[mgit\u{1b}[m\u{1b}[mx\r\n\r\u{1b}" ++
          codes "[J\u{1b}[m> \u{1b}[m\u{1b}[m\u{1b}[m\r\n");
    }

-- xyz Up Enter = xyz | shows {} x y z ␇ ␍␊ {} ␍␊
abbrev pub row_57 : Row
row_57 = record (row 57 settings_7 (codes "xyz\u{1b}[A\r") (codes "xyz\n")) {
  shows = Some (codes "\r\u{1b}[J\u{1b}[m> \u{1b}[m\u{1b}[m\u{1b}[mxyz\u{7}\r\n\r\u{1b}[J\u{1b}[m> "
      ++ codes "\u{1b}[m\u{1b}[m\u{1b}[m\r\n");
}

-- Up Up Enter = git␠commit␠-m␠one | shows {} {ls␠-l} {git␠commit␠-m␠one} ␍␊ {} ␍␊
abbrev pub row_58 : Row
row_58 = record (row 58 settings_7 (codes "\u{1b}[A\u{1b}[A\r") (codes "git commit -m one\n")) {
  shows = Some
      (codes "\r\u{1b}[J\u{1b}[m> \u{1b}[m\u{1b}[m\u{1b}[m\r\u{1b}[J\u{1b}[m> \u{1b}[mls -l" ++
      codes "\u{1b}[m\u{1b}[m\r\u{1b}[J\u{1b}[m> \u{1b}[mgit commit -m one\u{1b}[m\u{1b}[m" ++
      codes "\r\n\r\u{1b}[J\u{1b}[m> \u{1b}[m\u{1b}[m\u{1b}[m\r\n");
}

-- git Left Up Enter = ls␠-l | shows {} g i t ␛[1D {ls␠-l} ␍␊ {} ␍␊
abbrev pub row_59 : Row
row_59 = record (row 59 settings_7 (codes "git\u{1b}[D\u{1b}[A\r") (codes "ls -l\n")) {
  shows = Some (codes "\r\u{1b}[J\u{1b}[m> \u{1b}[m\u{1b}[m\u{1b}[mgit\u{1b}[1D\r\u{1b}[J\u{1b}[m> "
      ++ codes "\u{1b}[mls -l\u{1b}[m\u{1b}[m\r\n\r\u{1b}[J\u{1b}[m> \u{1b}[m\u{1b}[m\u{1b}[m" ++
      codes "\r\n");
}

-- git C-P Enter = ls␠-l | shows {} g i t {ls␠-l} ␍␊ {} ␍␊
abbrev pub row_60 : Row
row_60 = record (row 60 settings_7 (codes "git\u{10}\r") (codes "ls -l\n")) {
  shows = Some
      (codes "\r\u{1b}[J\u{1b}[m> \u{1b}[m\u{1b}[m\u{1b}[mgit\r\u{1b}[J\u{1b}[m> \u{1b}[mls " ++
      codes "-l\u{1b}[m\u{1b}[m\r\n\r\u{1b}[J\u{1b}[m> \u{1b}[m\u{1b}[m\u{1b}[m\r\n");
}

-- git Up x Enter = gitx␠commit␠-m␠one | shows {} g i t {git␠commit␠-m␠one}␛[14D ␛[@x ␛[14C␍␊ {} ␍␊
abbrev pub row_61 : Row
row_61 = record (row 61 settings_7 (codes "git\u{1b}[Ax\r") (codes "gitx commit -m one\n")) {
  shows = Some
      (codes "\r\u{1b}[J\u{1b}[m> \u{1b}[m\u{1b}[m\u{1b}[mgit\r\u{1b}[J\u{1b}[m> \u{1b}[mgit" ++
      codes " commit -m one\u{1b}[m\u{1b}[m\u{1b}[14D\u{1b}[@x\u{1b}[14C\r\n\r\u{1b}[J" ++
      codes "\u{1b}[m> \u{1b}[m\u{1b}[m\u{1b}[m\r\n");
}

-- git Up Up C-_ Enter = git␠commit␠-m␠one | shows {} g i t {git␠commit␠-m␠one}␛[14D {git␠status}␛[7D {git␠commit␠-m␠one} ␍␊ {} ␍␊
abbrev pub row_62 : Row
row_62 = record (row 62 settings_7 (codes "git\u{1b}[A\u{1b}[A\u{1f}\r")
    (codes "git commit -m one\n")) {
      shows = Some
          (codes "\r\u{1b}[J\u{1b}[m> \u{1b}[m\u{1b}[m\u{1b}[mgit\r\u{1b}[J\u{1b}[m> \u{1b}[mgit" ++
          codes " commit -m one\u{1b}[m\u{1b}[m\u{1b}[14D\r\u{1b}[J\u{1b}[m> \u{1b}[mgit status" ++
          codes "\u{1b}[m\u{1b}[m\u{1b}[7D\r\u{1b}[J\u{1b}[m> \u{1b}[mgit commit -m one\u{1b}[m" ++
          codes "\u{1b}[m\r\n\r\u{1b}[J\u{1b}[m> \u{1b}[m\u{1b}[m\u{1b}[m\r\n");
    }

-- git Up C-E Up Enter = make␠test | shows {} g i t {git␠commit␠-m␠one}␛[14D ␛[14C {make␠test} ␍␊ {} ␍␊
abbrev pub row_63 : Row
row_63 = record (row 63 settings_7 (codes "git\u{1b}[A\u{5}\u{1b}[A\r") (codes "make test\n")) {
  shows = Some
      (codes "\r\u{1b}[J\u{1b}[m> \u{1b}[m\u{1b}[m\u{1b}[mgit\r\u{1b}[J\u{1b}[m> \u{1b}[mgit" ++
      codes " commit -m one\u{1b}[m\u{1b}[m\u{1b}[14D\u{1b}[14C\r\u{1b}[J\u{1b}[m> \u{1b}[m" ++
      codes "make test\u{1b}[m\u{1b}[m\r\n\r\u{1b}[J\u{1b}[m> \u{1b}[m\u{1b}[m\u{1b}[m\r\n");
}

-- g Up Up C-G Up Enter = git␠status | shows {} g {git␠commit␠-m␠one}␛[16D {git␠status}␛[9D ␛[9C␍␊ {} ␍␊
abbrev pub row_64 : Row
row_64 = record (row 64 settings_7 (codes "g\u{1b}[A\u{1b}[A\u{7}\u{1b}[A\r")
    (codes "git status\n")) {
      shows = Some
          (codes "\r\u{1b}[J\u{1b}[m> \u{1b}[m\u{1b}[m\u{1b}[mg\r\u{1b}[J\u{1b}[m> \u{1b}[mgit c" ++
          codes "ommit -m one\u{1b}[m\u{1b}[m\u{1b}[16D\r\u{1b}[J\u{1b}[m> \u{1b}[mgit status" ++
          codes "\u{1b}[m\u{1b}[m\u{1b}[9D\u{1b}[9C\r\n\r\u{1b}[J\u{1b}[m> \u{1b}[m\u{1b}[m" ++
          codes "\u{1b}[m\r\n");
    }

-- git Up C-R st Enter = make␠test | shows {} g i t {git␠commit␠-m␠one}␛[14D ''git␠commit␠-m␠one}␛[14D 's'make␠test}␛[2D 'st'make␠test}␛[2D {make␠test}␛[2D ␛[2C␍␊ {} ␍␊
abbrev pub row_65 : Row
row_65 = record (row 65 settings_7 (codes "git\u{1b}[A\u{12}st\r") (codes "make test\n")) {
  shows = Some
      (codes "\r\u{1b}[J\u{1b}[m> \u{1b}[m\u{1b}[m\u{1b}[mgit\r\u{1b}[J\u{1b}[m> \u{1b}[mgit" ++
      codes " commit -m one\u{1b}[m\u{1b}[m\u{1b}[14D\r\u{1b}[J\u{1b}[m(reverse-i-search)`'" ++
      codes ": \u{1b}[mgit commit -m one\u{1b}[m\u{1b}[m\u{1b}[14D\r\u{1b}[J\u{1b}[m(revers" ++
      codes "e-i-search)`s': \u{1b}[mmake test\u{1b}[m\u{1b}[m\u{1b}[2D\r\u{1b}[J\u{1b}[m(r" ++
      codes "everse-i-search)`st': \u{1b}[mmake test\u{1b}[m\u{1b}[m\u{1b}[2D\r\u{1b}[J" ++
      codes "\u{1b}[m> \u{1b}[mmake test\u{1b}[m\u{1b}[m\u{1b}[2D\u{1b}[2C\r\n\r\u{1b}[J" ++
      codes "\u{1b}[m> \u{1b}[m\u{1b}[m\u{1b}[m\r\n");
}

-- git Down Enter = git | shows {} g i t ␍␊ {} ␍␊
abbrev pub row_66 : Row
row_66 = record (row 66 settings_7 (codes "git\u{1b}[B\r") (codes "git\n")) {
  shows = Some
      (codes "\r\u{1b}[J\u{1b}[m> \u{1b}[m\u{1b}[m\u{1b}[mgit\r\n\r\u{1b}[J\u{1b}[m> \u{1b}[" ++
      codes "m\u{1b}[m\u{1b}[m\r\n");
}

-- git M-2 Up Enter = git␠commit␠-m␠one | shows {} g i t ␍␛[J␛[m(arg:␠2)␠␛[mgit␛[m␛[m {git} {git␠commit␠-m␠one}␛[14D ␛[14C␍␊ {} ␍␊
abbrev pub row_67 : Row
row_67 = record (row 67 settings_7 (codes "git\u{1b}2\u{1b}[A\r") (codes "git commit -m one\n")) {
  shows = Some (codes "\r\u{1b}[J\u{1b}[m> \u{1b}[m\u{1b}[m\u{1b}[mgit\r\u{1b}[J\u{1b}[m(arg: 2) "
      ++ codes "\u{1b}[mgit\u{1b}[m\u{1b}[m\r\u{1b}[J\u{1b}[m> \u{1b}[mgit\u{1b}[m\u{1b}[m\r" ++
      codes "\u{1b}[J\u{1b}[m> \u{1b}[mgit commit -m one\u{1b}[m\u{1b}[m\u{1b}[14D\u{1b}[14" ++
      codes "C\r\n\r\u{1b}[J\u{1b}[m> \u{1b}[m\u{1b}[m\u{1b}[m\r\n");
}

-- Paste a␊b Pasted Up x Enter = xa␊b | shows {} ␛[Ja␍␊b ␛[1A␛[1C ␛[Jxa␍␊b␛[1A␛[2C ␛[1B␛[2D␍␊ {} ␍␊
abbrev pub row_68 : Row
row_68 = record (row 68 settings_7 (codes "\u{1b}[200~a\nb\u{1b}[201~\u{1b}[Ax\r")
    (codes "xa\nb\n")) {
      shows = Some (codes "\r\u{1b}[J\u{1b}[m> \u{1b}[m\u{1b}[m\u{1b}[m\u{1b}[Ja\r\nb\u{1b}[1A\u{1b}[1C"
          ++ codes "\u{1b}[Jxa\r\nb\u{1b}[1A\u{1b}[2C\u{1b}[1B\u{1b}[2D\r\n\r\u{1b}[J\u{1b}[m> " ++
          codes "\u{1b}[m\u{1b}[m\u{1b}[m\r\n");
    }

-- C-R ma Up Enter = ls␠-l | shows {} ''} 'm'git␠commit␠-m␠one}␛[11D 'ma'make␠test}␛[9D {make␠test}␛[9D {ls␠-l} ␍␊ {} ␍␊
abbrev pub row_71 : Row
row_71 = record (row 71 settings_7 (codes "\u{12}ma\u{1b}[A\r") (codes "ls -l\n")) {
  shows = Some
      (codes "\r\u{1b}[J\u{1b}[m> \u{1b}[m\u{1b}[m\u{1b}[m\r\u{1b}[J\u{1b}[m(reverse-i-searc" ++
      codes "h)`': \u{1b}[m\u{1b}[m\u{1b}[m\r\u{1b}[J\u{1b}[m(reverse-i-search)`m': \u{1b}[" ++
      codes "mgit commit -m one\u{1b}[m\u{1b}[m\u{1b}[11D\r\u{1b}[J\u{1b}[m(reverse-i-searc" ++
      codes "h)`ma': \u{1b}[mmake test\u{1b}[m\u{1b}[m\u{1b}[9D\r\u{1b}[J\u{1b}[m> \u{1b}[m" ++
      codes "make test\u{1b}[m\u{1b}[m\u{1b}[9D\r\u{1b}[J\u{1b}[m> \u{1b}[mls -l\u{1b}[m" ++
      codes "\u{1b}[m\r\n\r\u{1b}[J\u{1b}[m> \u{1b}[m\u{1b}[m\u{1b}[m\r\n");
}

-- dr C-P C-R ma C-N Enter = dr | shows {} d r {ls␠-l} ''ls␠-l} 'm'git␠commit␠-m␠one}␛[11D 'ma'make␠test}␛[9D {make␠test}␛[9D {dr} ␍␊ {} ␍␊
abbrev pub row_72 : Row
row_72 = record (row 72 settings_7 (codes "dr\u{10}\u{12}ma\u{e}\r") (codes "dr\n")) {
  shows = Some
      (codes "\r\u{1b}[J\u{1b}[m> \u{1b}[m\u{1b}[m\u{1b}[mdr\r\u{1b}[J\u{1b}[m> \u{1b}[mls -" ++
      codes "l\u{1b}[m\u{1b}[m\r\u{1b}[J\u{1b}[m(reverse-i-search)`': \u{1b}[mls -l\u{1b}[m" ++
      codes "\u{1b}[m\r\u{1b}[J\u{1b}[m(reverse-i-search)`m': \u{1b}[mgit commit -m one" ++
      codes "\u{1b}[m\u{1b}[m\u{1b}[11D\r\u{1b}[J\u{1b}[m(reverse-i-search)`ma': \u{1b}[mma" ++
      codes "ke test\u{1b}[m\u{1b}[m\u{1b}[9D\r\u{1b}[J\u{1b}[m> \u{1b}[mmake test\u{1b}[m" ++
      codes "\u{1b}[m\u{1b}[9D\r\u{1b}[J\u{1b}[m> \u{1b}[mdr\u{1b}[m\u{1b}[m\r\n\r\u{1b}[J" ++
      codes "\u{1b}[m> \u{1b}[m\u{1b}[m\u{1b}[m\r\n");
}

-- C-R git C-E C-R C-R Enter = git␠commit␠-m␠one | shows {} ''} 'g'git␠commit␠-m␠one}␛[17D 'gi'git␠commit␠-m␠one}␛[17D 'git'git␠commit␠-m␠one}␛[17D {git␠commit␠-m␠one}␛[17D ␛[17C ''git␠commit␠-m␠one} 'git'git␠commit␠-m␠one}␛[17D {git␠commit␠-m␠one}␛[17D ␛[17C␍␊ {} ␍␊
abbrev pub row_75 : Row
row_75 = record (row 75 settings_7 (codes "\u{12}git\u{5}\u{12}\u{12}\r")
    (codes "git commit -m one\n")) {
      shows = Some
          (codes "\r\u{1b}[J\u{1b}[m> \u{1b}[m\u{1b}[m\u{1b}[m\r\u{1b}[J\u{1b}[m(reverse-i-searc" ++
          codes "h)`': \u{1b}[m\u{1b}[m\u{1b}[m\r\u{1b}[J\u{1b}[m(reverse-i-search)`g': \u{1b}[" ++
          codes "mgit commit -m one\u{1b}[m\u{1b}[m\u{1b}[17D\r\u{1b}[J\u{1b}[m(reverse-i-searc" ++
          codes "h)`gi': \u{1b}[mgit commit -m one\u{1b}[m\u{1b}[m\u{1b}[17D\r\u{1b}[J\u{1b}[m(" ++
          codes "reverse-i-search)`git': \u{1b}[mgit commit -m one\u{1b}[m\u{1b}[m\u{1b}[17D\r" ++
          codes "\u{1b}[J\u{1b}[m> \u{1b}[mgit commit -m one\u{1b}[m\u{1b}[m\u{1b}[17D\u{1b}[17" ++
          codes "C\r\u{1b}[J\u{1b}[m(reverse-i-search)`': \u{1b}[mgit commit -m one\u{1b}[m" ++
          codes "\u{1b}[m\r\u{1b}[J\u{1b}[m(reverse-i-search)`git': \u{1b}[mgit commit -m one" ++
          codes "\u{1b}[m\u{1b}[m\u{1b}[17D\r\u{1b}[J\u{1b}[m> \u{1b}[mgit commit -m one\u{1b}[" ++
          codes "m\u{1b}[m\u{1b}[17D\u{1b}[17C\r\n\r\u{1b}[J\u{1b}[m> \u{1b}[m\u{1b}[m\u{1b}[m" ++
          codes "\r\n");
    }

-- C-R C-E C-R C-R Enter = "" | shows {} ''} {} ''} ''} {} ␍␊ {} ␍␊
abbrev pub row_76 : Row
row_76 = record (row 76 settings_7 (codes "\u{12}\u{5}\u{12}\u{12}\r") (codes "\n")) {
  shows = Some
      (codes "\r\u{1b}[J\u{1b}[m> \u{1b}[m\u{1b}[m\u{1b}[m\r\u{1b}[J\u{1b}[m(reverse-i-searc" ++
      codes "h)`': \u{1b}[m\u{1b}[m\u{1b}[m\r\u{1b}[J\u{1b}[m> \u{1b}[m\u{1b}[m\u{1b}[m\r" ++
      codes "\u{1b}[J\u{1b}[m(reverse-i-search)`': \u{1b}[m\u{1b}[m\u{1b}[m\r\u{1b}[J\u{1b}" ++
      codes "[m(reverse-i-search)`': \u{1b}[m\u{1b}[m\u{1b}[m\r\u{1b}[J\u{1b}[m> \u{1b}[m" ++
      codes "\u{1b}[m\u{1b}[m\r\n\r\u{1b}[J\u{1b}[m> \u{1b}[m\u{1b}[m\u{1b}[m\r\n");
}

-- C-R git Enter C-R C-R Enter = git␠commit␠-m␠one git␠commit␠-m␠one | shows {} ''} 'g'git␠commit␠-m␠one}␛[17D 'gi'git␠commit␠-m␠one}␛[17D 'git'git␠commit␠-m␠one}␛[17D {git␠commit␠-m␠one}␛[17D ␛[17C␍␊ {} ''} 'git'git␠commit␠-m␠one}␛[17D {git␠commit␠-m␠one}␛[17D ␛[17C␍␊ {} ␍␊
abbrev pub row_77 : Row
row_77 = record (row 77 settings_7 (codes "\u{12}git\r\u{12}\u{12}\r")
    (codes "git commit -m one\ngit commit -m one\n")) {
      shows = Some
          (codes "\r\u{1b}[J\u{1b}[m> \u{1b}[m\u{1b}[m\u{1b}[m\r\u{1b}[J\u{1b}[m(reverse-i-searc" ++
          codes "h)`': \u{1b}[m\u{1b}[m\u{1b}[m\r\u{1b}[J\u{1b}[m(reverse-i-search)`g': \u{1b}[" ++
          codes "mgit commit -m one\u{1b}[m\u{1b}[m\u{1b}[17D\r\u{1b}[J\u{1b}[m(reverse-i-searc" ++
          codes "h)`gi': \u{1b}[mgit commit -m one\u{1b}[m\u{1b}[m\u{1b}[17D\r\u{1b}[J\u{1b}[m(" ++
          codes "reverse-i-search)`git': \u{1b}[mgit commit -m one\u{1b}[m\u{1b}[m\u{1b}[17D\r" ++
          codes "\u{1b}[J\u{1b}[m> \u{1b}[mgit commit -m one\u{1b}[m\u{1b}[m\u{1b}[17D\u{1b}[17" ++
          codes "C\r\n\r\u{1b}[J\u{1b}[m> \u{1b}[m\u{1b}[m\u{1b}[m\r\u{1b}[J\u{1b}[m(reverse-i-" ++
          codes "search)`': \u{1b}[m\u{1b}[m\u{1b}[m\r\u{1b}[J\u{1b}[m(reverse-i-search)`git': " ++
          codes "\u{1b}[mgit commit -m one\u{1b}[m\u{1b}[m\u{1b}[17D\r\u{1b}[J\u{1b}[m> \u{1b}[" ++
          codes "mgit commit -m one\u{1b}[m\u{1b}[m\u{1b}[17D\u{1b}[17C\r\n\r\u{1b}[J\u{1b}[m> " ++
          codes "\u{1b}[m\u{1b}[m\u{1b}[m\r\n");
    }

-- C-R ls C-G C-R C-E C-R C-R Enter = ls␠-l | shows {} ''} 'l'ls␠-l}␛[5D 'ls'ls␠-l}␛[5D {} ''} {} ''} 'ls'ls␠-l}␛[5D {ls␠-l}␛[5D ␛[5C␍␊ {} ␍␊
abbrev pub row_78 : Row
row_78 = record (row 78 settings_7 (codes "\u{12}ls\u{7}\u{12}\u{5}\u{12}\u{12}\r")
    (codes "ls -l\n")) {
      shows = Some
          (codes "\r\u{1b}[J\u{1b}[m> \u{1b}[m\u{1b}[m\u{1b}[m\r\u{1b}[J\u{1b}[m(reverse-i-searc" ++
          codes "h)`': \u{1b}[m\u{1b}[m\u{1b}[m\r\u{1b}[J\u{1b}[m(reverse-i-search)`l': \u{1b}[" ++
          codes "mls -l\u{1b}[m\u{1b}[m\u{1b}[5D\r\u{1b}[J\u{1b}[m(reverse-i-search)`ls': " ++
          codes "\u{1b}[mls -l\u{1b}[m\u{1b}[m\u{1b}[5D\r\u{1b}[J\u{1b}[m> \u{1b}[m\u{1b}[m" ++
          codes "\u{1b}[m\r\u{1b}[J\u{1b}[m(reverse-i-search)`': \u{1b}[m\u{1b}[m\u{1b}[m\r" ++
          codes "\u{1b}[J\u{1b}[m> \u{1b}[m\u{1b}[m\u{1b}[m\r\u{1b}[J\u{1b}[m(reverse-i-search)" ++
          codes "`': \u{1b}[m\u{1b}[m\u{1b}[m\r\u{1b}[J\u{1b}[m(reverse-i-search)`ls': \u{1b}[m" ++
          codes "ls -l\u{1b}[m\u{1b}[m\u{1b}[5D\r\u{1b}[J\u{1b}[m> \u{1b}[mls -l\u{1b}[m\u{1b}[" ++
          codes "m\u{1b}[5D\u{1b}[5C\r\n\r\u{1b}[J\u{1b}[m> \u{1b}[m\u{1b}[m\u{1b}[m\r\n");
    }

-- C-R ma Enter C-R C-R C-S Enter = make␠test make␠test | shows {} ''} 'm'git␠commit␠-m␠one}␛[11D 'ma'make␠test}␛[9D {make␠test}␛[9D ␛[9C␍␊ {} ''} 'ma'make␠test}␛[9D !>'ma'make␠test}␛[9D {make␠test}␛[9D ␛[9C␍␊ {} ␍␊
abbrev pub row_79 : Row
row_79 = record (row 79 settings_7 (codes "\u{12}ma\r\u{12}\u{12}\u{13}\r")
    (codes "make test\nmake test\n")) {
      shows = Some
          (codes "\r\u{1b}[J\u{1b}[m> \u{1b}[m\u{1b}[m\u{1b}[m\r\u{1b}[J\u{1b}[m(reverse-i-searc" ++
          codes "h)`': \u{1b}[m\u{1b}[m\u{1b}[m\r\u{1b}[J\u{1b}[m(reverse-i-search)`m': \u{1b}[" ++
          codes "mgit commit -m one\u{1b}[m\u{1b}[m\u{1b}[11D\r\u{1b}[J\u{1b}[m(reverse-i-searc" ++
          codes "h)`ma': \u{1b}[mmake test\u{1b}[m\u{1b}[m\u{1b}[9D\r\u{1b}[J\u{1b}[m> \u{1b}[m" ++
          codes "make test\u{1b}[m\u{1b}[m\u{1b}[9D\u{1b}[9C\r\n\r\u{1b}[J\u{1b}[m> \u{1b}[m" ++
          codes "\u{1b}[m\u{1b}[m\r\u{1b}[J\u{1b}[m(reverse-i-search)`': \u{1b}[m\u{1b}[m\u{1b}" ++
          codes "[m\r\u{1b}[J\u{1b}[m(reverse-i-search)`ma': \u{1b}[mmake test\u{1b}[m\u{1b}[m" ++
          codes "\u{1b}[9D\r\u{1b}[J\u{1b}[m(failed i-search)`ma': \u{1b}[mmake test\u{1b}[m" ++
          codes "\u{1b}[m\u{1b}[9D\r\u{1b}[J\u{1b}[m> \u{1b}[mmake test\u{1b}[m\u{1b}[m\u{1b}[9" ++
          codes "D\u{1b}[9C\r\n\r\u{1b}[J\u{1b}[m> \u{1b}[m\u{1b}[m\u{1b}[m\r\n");
    }

-- C-R ma C-G C-S C-S Enter = ""
abbrev pub row_80 : Row
row_80 = row 80 settings_7 (codes "\u{12}ma\u{7}\u{13}\u{13}\r") (codes "\n")

-- C-R git C-G C-R C-S C-R Enter = git␠commit␠-m␠one
abbrev pub row_81 : Row
row_81 = row 81 settings_7 (codes "\u{12}git\u{7}\u{12}\u{13}\u{12}\r")
    (codes "git commit -m one\n")

-- C-R ls C-G C-R Backspace C-R Enter = ""
abbrev pub row_82 : Row
row_82 = row 82 settings_7 (codes "\u{12}ls\u{7}\u{12}\u{7f}\u{12}\r") (codes "\n")

-- C-R ls Enter C-R m C-G C-R C-R Enter = ls␠-l git␠commit␠-m␠one
abbrev pub row_83 : Row
row_83 = row 83 settings_7 (codes "\u{12}ls\r\u{12}m\u{7}\u{12}\u{12}\r")
    (codes "ls -l\ngit commit -m one\n")

-- C-R ls C-G C-R m Backspace C-G C-R C-R Enter = ""
abbrev pub row_84 : Row
row_84 = row 84 settings_7 (codes "\u{12}ls\u{7}\u{12}m\u{7f}\u{7}\u{12}\u{12}\r") (codes "\n")

-- C-R ma M-2 k Enter = make␠test | shows {} ''} 'm'git␠commit␠-m␠one}␛[11D 'ma'make␠test}␛[9D ␍␛[J␛[m(arg:␠2)␠␛[mmake␠test␛[m␛[m␛[9D {make␠test}␛[9D 'mak'make␠test}␛[9D {make␠test}␛[9D ␛[9C␍␊ {} ␍␊
abbrev pub row_87 : Row
row_87 = record (row 87 settings_7 (codes "\u{12}ma\u{1b}2k\r") (codes "make test\n")) {
  shows = Some
      (codes "\r\u{1b}[J\u{1b}[m> \u{1b}[m\u{1b}[m\u{1b}[m\r\u{1b}[J\u{1b}[m(reverse-i-searc" ++
      codes "h)`': \u{1b}[m\u{1b}[m\u{1b}[m\r\u{1b}[J\u{1b}[m(reverse-i-search)`m': \u{1b}[" ++
      codes "mgit commit -m one\u{1b}[m\u{1b}[m\u{1b}[11D\r\u{1b}[J\u{1b}[m(reverse-i-searc" ++
      codes "h)`ma': \u{1b}[mmake test\u{1b}[m\u{1b}[m\u{1b}[9D\r\u{1b}[J\u{1b}[m(arg: 2) " ++
      codes "\u{1b}[mmake test\u{1b}[m\u{1b}[m\u{1b}[9D\r\u{1b}[J\u{1b}[m> \u{1b}[mmake tes" ++
      codes "t\u{1b}[m\u{1b}[m\u{1b}[9D\r\u{1b}[J\u{1b}[m(reverse-i-search)`mak': \u{1b}[mm" ++
      codes "ake test\u{1b}[m\u{1b}[m\u{1b}[9D\r\u{1b}[J\u{1b}[m> \u{1b}[mmake test\u{1b}[m" ++
      codes "\u{1b}[m\u{1b}[9D\u{1b}[9C\r\n\r\u{1b}[J\u{1b}[m> \u{1b}[m\u{1b}[m\u{1b}[m\r\n");
}

-- C-R gi M-2 Backspace Enter = git␠commit␠-m␠one | shows {} ''} 'g'git␠commit␠-m␠one}␛[17D 'gi'git␠commit␠-m␠one}␛[17D ␍␛[J␛[m(arg:␠2)␠␛[mgit␠commit␠-m␠one␛[m␛[m␛[17D {git␠commit␠-m␠one}␛[17D 'g'git␠commit␠-m␠one}␛[17D {git␠commit␠-m␠one}␛[17D ␛[17C␍␊ {} ␍␊
abbrev pub row_88 : Row
row_88 = record (row 88 settings_7 (codes "\u{12}gi\u{1b}2\u{7f}\r") (codes "git commit -m one\n")) {
  shows = Some
      (codes "\r\u{1b}[J\u{1b}[m> \u{1b}[m\u{1b}[m\u{1b}[m\r\u{1b}[J\u{1b}[m(reverse-i-searc" ++
      codes "h)`': \u{1b}[m\u{1b}[m\u{1b}[m\r\u{1b}[J\u{1b}[m(reverse-i-search)`g': \u{1b}[" ++
      codes "mgit commit -m one\u{1b}[m\u{1b}[m\u{1b}[17D\r\u{1b}[J\u{1b}[m(reverse-i-searc" ++
      codes "h)`gi': \u{1b}[mgit commit -m one\u{1b}[m\u{1b}[m\u{1b}[17D\r\u{1b}[J\u{1b}[m(" ++
      codes "arg: 2) \u{1b}[mgit commit -m one\u{1b}[m\u{1b}[m\u{1b}[17D\r\u{1b}[J\u{1b}[m>" ++
      codes " \u{1b}[mgit commit -m one\u{1b}[m\u{1b}[m\u{1b}[17D\r\u{1b}[J\u{1b}[m(reverse" ++
      codes "-i-search)`g': \u{1b}[mgit commit -m one\u{1b}[m\u{1b}[m\u{1b}[17D\r\u{1b}[J" ++
      codes "\u{1b}[m> \u{1b}[mgit commit -m one\u{1b}[m\u{1b}[m\u{1b}[17D\u{1b}[17C\r\n\r" ++
      codes "\u{1b}[J\u{1b}[m> \u{1b}[m\u{1b}[m\u{1b}[m\r\n");
}

-- C-R ma M-- Backspace Enter = ake␠test
abbrev pub row_89 : Row
row_89 = row 89 settings_7 (codes "\u{12}ma\u{1b}-\u{7f}\r") (codes "ake test\n")

-- C-R Paste git Pasted Enter = git | shows {} ''} {} ␛[Jgit ␍␊ {} ␍␊
abbrev pub row_90 : Row
row_90 = record (row 90 settings_7 (codes "\u{12}\u{1b}[200~git\u{1b}[201~\r") (codes "git\n")) {
  shows = Some
      (codes "\r\u{1b}[J\u{1b}[m> \u{1b}[m\u{1b}[m\u{1b}[m\r\u{1b}[J\u{1b}[m(reverse-i-searc" ++
      codes "h)`': \u{1b}[m\u{1b}[m\u{1b}[m\r\u{1b}[J\u{1b}[m> \u{1b}[m\u{1b}[m\u{1b}[m" ++
      codes "\u{1b}[Jgit\r\n\r\u{1b}[J\u{1b}[m> \u{1b}[m\u{1b}[m\u{1b}[m\r\n");
}

-- C-R ma Paste X Pasted Enter = Xmake␠test | shows {} ''} 'm'git␠commit␠-m␠one}␛[11D 'ma'make␠test}␛[9D {make␠test}␛[9D ␛[JXmake␠test␛[9D ␛[9C␍␊ {} ␍␊
abbrev pub row_91 : Row
row_91 = record (row 91 settings_7 (codes "\u{12}ma\u{1b}[200~X\u{1b}[201~\r")
    (codes "Xmake test\n")) {
      shows = Some
          (codes "\r\u{1b}[J\u{1b}[m> \u{1b}[m\u{1b}[m\u{1b}[m\r\u{1b}[J\u{1b}[m(reverse-i-searc" ++
          codes "h)`': \u{1b}[m\u{1b}[m\u{1b}[m\r\u{1b}[J\u{1b}[m(reverse-i-search)`m': \u{1b}[" ++
          codes "mgit commit -m one\u{1b}[m\u{1b}[m\u{1b}[11D\r\u{1b}[J\u{1b}[m(reverse-i-searc" ++
          codes "h)`ma': \u{1b}[mmake test\u{1b}[m\u{1b}[m\u{1b}[9D\r\u{1b}[J\u{1b}[m> \u{1b}[m" ++
          codes "make test\u{1b}[m\u{1b}[m\u{1b}[9D\u{1b}[JXmake test\u{1b}[9D\u{1b}[9C\r\n\r" ++
          codes "\u{1b}[J\u{1b}[m> \u{1b}[m\u{1b}[m\u{1b}[m\r\n");
    }

-- modal partial vi loaded:#V2␊git␠status␊make␠test␊git␠commit␠-m␠one␊ls␠-l␊
abbrev pub settings_95 : Settings
settings_95 = record plain {
  config = partial (modal (vi plain.config));
  loaded = codes "#V2\ngit status\nmake test\ngit commit -m one\nls -l\n";
}

-- abc C-R ma Esc u Enter = abc | shows {} a b c ''abc} 'm'git␠commit␠-m␠one}␛[11D 'ma'make␠test}␛[9D {make␠test}␛[9D {abc} ␍␊ {} ␍␊
abbrev pub row_95 : Row
row_95 = record (row 95 settings_95 (codes "abc\u{12}ma\u{1b}u\r") (codes "abc\n")) {
  shows = Some
      (codes "\r\u{1b}[J\u{1b}[m> \u{1b}[m\u{1b}[m\u{1b}[mabc\r\u{1b}[J\u{1b}[m(reverse-i-se" ++
      codes "arch)`': \u{1b}[mabc\u{1b}[m\u{1b}[m\r\u{1b}[J\u{1b}[m(reverse-i-search)`m': " ++
      codes "\u{1b}[mgit commit -m one\u{1b}[m\u{1b}[m\u{1b}[11D\r\u{1b}[J\u{1b}[m(reverse-" ++
      codes "i-search)`ma': \u{1b}[mmake test\u{1b}[m\u{1b}[m\u{1b}[9D\r\u{1b}[J\u{1b}[m> " ++
      codes "\u{1b}[mmake test\u{1b}[m\u{1b}[m\u{1b}[9D\r\u{1b}[J\u{1b}[m> \u{1b}[mabc" ++
      codes "\u{1b}[m\u{1b}[m\r\n\r\u{1b}[J\u{1b}[m> \u{1b}[m\u{1b}[m\u{1b}[m\r\n");
}

-- Esc C-R git C-R Enter = git␠status | shows {} ''} 'g'git␠commit␠-m␠one}␛[17D 'gi'git␠commit␠-m␠one}␛[17D 'git'git␠commit␠-m␠one}␛[17D 'git'git␠status}␛[10D {git␠status}␛[10D ␛[10C␍␊ {} ␍␊
abbrev pub row_96 : Row
row_96 = record (row 96 settings_95 (codes "\u{1b}\u{12}git\u{12}\r") (codes "git status\n")) {
  shows = Some
      (codes "\r\u{1b}[J\u{1b}[m> \u{1b}[m\u{1b}[m\u{1b}[m\r\u{1b}[J\u{1b}[m(reverse-i-searc" ++
      codes "h)`': \u{1b}[m\u{1b}[m\u{1b}[m\r\u{1b}[J\u{1b}[m(reverse-i-search)`g': \u{1b}[" ++
      codes "mgit commit -m one\u{1b}[m\u{1b}[m\u{1b}[17D\r\u{1b}[J\u{1b}[m(reverse-i-searc" ++
      codes "h)`gi': \u{1b}[mgit commit -m one\u{1b}[m\u{1b}[m\u{1b}[17D\r\u{1b}[J\u{1b}[m(" ++
      codes "reverse-i-search)`git': \u{1b}[mgit commit -m one\u{1b}[m\u{1b}[m\u{1b}[17D\r" ++
      codes "\u{1b}[J\u{1b}[m(reverse-i-search)`git': \u{1b}[mgit status\u{1b}[m\u{1b}[m" ++
      codes "\u{1b}[10D\r\u{1b}[J\u{1b}[m> \u{1b}[mgit status\u{1b}[m\u{1b}[m\u{1b}[10D" ++
      codes "\u{1b}[10C\r\n\r\u{1b}[J\u{1b}[m> \u{1b}[m\u{1b}[m\u{1b}[m\r\n");
}

-- i Esc a C-R git C-R Esc u Enter = i | shows {} i ␛[1D ␛[1C ''i} 'g'git␠commit␠-m␠one}␛[17D 'gi'git␠commit␠-m␠one}␛[17D 'git'git␠commit␠-m␠one}␛[17D 'git'git␠status}␛[10D {git␠status}␛[10D {i} ␍␊ {} ␍␊
abbrev pub row_97 : Row
row_97 = record (row 97 settings_95 (codes "i\u{1b}a\u{12}git\u{12}\u{1b}u\r") (codes "i\n")) {
  shows = Some (codes "\r\u{1b}[J\u{1b}[m> \u{1b}[m\u{1b}[m\u{1b}[mi\u{1b}[1D\u{1b}[1C\r\u{1b}[J" ++
      codes "\u{1b}[m(reverse-i-search)`': \u{1b}[mi\u{1b}[m\u{1b}[m\r\u{1b}[J\u{1b}[m(reve" ++
      codes "rse-i-search)`g': \u{1b}[mgit commit -m one\u{1b}[m\u{1b}[m\u{1b}[17D\r\u{1b}[" ++
      codes "J\u{1b}[m(reverse-i-search)`gi': \u{1b}[mgit commit -m one\u{1b}[m\u{1b}[m" ++
      codes "\u{1b}[17D\r\u{1b}[J\u{1b}[m(reverse-i-search)`git': \u{1b}[mgit commit -m one" ++
      codes "\u{1b}[m\u{1b}[m\u{1b}[17D\r\u{1b}[J\u{1b}[m(reverse-i-search)`git': \u{1b}[mg" ++
      codes "it status\u{1b}[m\u{1b}[m\u{1b}[10D\r\u{1b}[J\u{1b}[m> \u{1b}[mgit status" ++
      codes "\u{1b}[m\u{1b}[m\u{1b}[10D\r\u{1b}[J\u{1b}[m> \u{1b}[mi\u{1b}[m\u{1b}[m\r\n\r" ++
      codes "\u{1b}[J\u{1b}[m> \u{1b}[m\u{1b}[m\u{1b}[m\r\n");
}

-- ab C-R ma C-G X Enter = abX | shows {} a b ''ab} 'm'git␠commit␠-m␠one}␛[11D 'ma'make␠test}␛[9D {ab} X ␍␊ {} ␍␊
abbrev pub row_98 : Row
row_98 = record (row 98 settings_95 (codes "ab\u{12}ma\u{7}X\r") (codes "abX\n")) {
  shows = Some
      (codes "\r\u{1b}[J\u{1b}[m> \u{1b}[m\u{1b}[m\u{1b}[mab\r\u{1b}[J\u{1b}[m(reverse-i-sea" ++
      codes "rch)`': \u{1b}[mab\u{1b}[m\u{1b}[m\r\u{1b}[J\u{1b}[m(reverse-i-search)`m': " ++
      codes "\u{1b}[mgit commit -m one\u{1b}[m\u{1b}[m\u{1b}[11D\r\u{1b}[J\u{1b}[m(reverse-" ++
      codes "i-search)`ma': \u{1b}[mmake test\u{1b}[m\u{1b}[m\u{1b}[9D\r\u{1b}[J\u{1b}[m> " ++
      codes "\u{1b}[mab\u{1b}[m\u{1b}[mX\r\n\r\u{1b}[J\u{1b}[m> \u{1b}[m\u{1b}[m\u{1b}[m\r" ++
      codes "\n");
}

-- ab Esc / ma C-G x Enter = axb | shows {} a b ␛[1D ''ab}␛[1D 'm'git␠commit␠-m␠one}␛[11D 'ma'make␠test}␛[9D {ab}␛[1D ␛[@x ␛[1C␍␊ {} ␍␊
abbrev pub row_99 : Row
row_99 = record (row 99 settings_95 (codes "ab\u{1b}/ma\u{7}x\r") (codes "axb\n")) {
  shows = Some
      (codes "\r\u{1b}[J\u{1b}[m> \u{1b}[m\u{1b}[m\u{1b}[mab\u{1b}[1D\r\u{1b}[J\u{1b}[m(reve" ++
      codes "rse-i-search)`': \u{1b}[mab\u{1b}[m\u{1b}[m\u{1b}[1D\r\u{1b}[J\u{1b}[m(reverse" ++
      codes "-i-search)`m': \u{1b}[mgit commit -m one\u{1b}[m\u{1b}[m\u{1b}[11D\r\u{1b}[J" ++
      codes "\u{1b}[m(reverse-i-search)`ma': \u{1b}[mmake test\u{1b}[m\u{1b}[m\u{1b}[9D\r" ++
      codes "\u{1b}[J\u{1b}[m> \u{1b}[mab\u{1b}[m\u{1b}[m\u{1b}[1D\u{1b}[@x\u{1b}[1C\r\n\r" ++
      codes "\u{1b}[J\u{1b}[m> \u{1b}[m\u{1b}[m\u{1b}[m\r\n");
}

-- Esc / ma Enter = make␠test | shows {} ''} 'm'git␠commit␠-m␠one}␛[11D 'ma'make␠test}␛[9D {make␠test}␛[9D ␛[9C␍␊ {} ␍␊
abbrev pub row_100 : Row
row_100 = record (row 100 settings_95 (codes "\u{1b}/ma\r") (codes "make test\n")) {
  shows = Some
      (codes "\r\u{1b}[J\u{1b}[m> \u{1b}[m\u{1b}[m\u{1b}[m\r\u{1b}[J\u{1b}[m(reverse-i-searc" ++
      codes "h)`': \u{1b}[m\u{1b}[m\u{1b}[m\r\u{1b}[J\u{1b}[m(reverse-i-search)`m': \u{1b}[" ++
      codes "mgit commit -m one\u{1b}[m\u{1b}[m\u{1b}[11D\r\u{1b}[J\u{1b}[m(reverse-i-searc" ++
      codes "h)`ma': \u{1b}[mmake test\u{1b}[m\u{1b}[m\u{1b}[9D\r\u{1b}[J\u{1b}[m> \u{1b}[m" ++
      codes "make test\u{1b}[m\u{1b}[m\u{1b}[9D\u{1b}[9C\r\n\r\u{1b}[J\u{1b}[m> \u{1b}[m" ++
      codes "\u{1b}[m\u{1b}[m\r\n");
}

-- Esc ? l / Enter = ls␠-l | shows {} >''} >'l'ls␠-l}␛[5D !>'l/'ls␠-l}␛[5D {ls␠-l}␛[5D ␛[5C␍␊ {} ␍␊
abbrev pub row_101 : Row
row_101 = record (row 101 settings_95 (codes "\u{1b}?l/\r") (codes "ls -l\n")) {
  shows = Some (codes "\r\u{1b}[J\u{1b}[m> \u{1b}[m\u{1b}[m\u{1b}[m\r\u{1b}[J\u{1b}[m(i-search)`': "
      ++ codes "\u{1b}[m\u{1b}[m\u{1b}[m\r\u{1b}[J\u{1b}[m(i-search)`l': \u{1b}[mls -l\u{1b}[m" ++
      codes "\u{1b}[m\u{1b}[5D\r\u{1b}[J\u{1b}[m(failed i-search)`l/': \u{1b}[mls -l\u{1b}[" ++
      codes "m\u{1b}[m\u{1b}[5D\r\u{1b}[J\u{1b}[m> \u{1b}[mls -l\u{1b}[m\u{1b}[m\u{1b}[5D" ++
      codes "\u{1b}[5C\r\n\r\u{1b}[J\u{1b}[m> \u{1b}[m\u{1b}[m\u{1b}[m\r\n");
}

-- a/b?c Enter = a/b?c
abbrev pub row_102 : Row
row_102 = row 102 settings_95 (codes "a/b?c\r") (codes "a/b?c\n")

-- git Up Up Enter = git␠status | shows {} g i t {git␠commit␠-m␠one}␛[14D {git␠status}␛[7D ␛[7C␍␊ {} ␍␊
abbrev pub row_103 : Row
row_103 = record (row 103 settings_95 (codes "git\u{1b}[A\u{1b}[A\r") (codes "git status\n")) {
  shows = Some
      (codes "\r\u{1b}[J\u{1b}[m> \u{1b}[m\u{1b}[m\u{1b}[mgit\r\u{1b}[J\u{1b}[m> \u{1b}[mgit" ++
      codes " commit -m one\u{1b}[m\u{1b}[m\u{1b}[14D\r\u{1b}[J\u{1b}[m> \u{1b}[mgit status" ++
      codes "\u{1b}[m\u{1b}[m\u{1b}[7D\u{1b}[7C\r\n\r\u{1b}[J\u{1b}[m> \u{1b}[m\u{1b}[m" ++
      codes "\u{1b}[m\r\n");
}

-- git Esc k Enter = ls␠-l
abbrev pub row_104 : Row
row_104 = row 104 settings_95 (codes "git\u{1b}k\r") (codes "ls -l\n")

-- C-R st Esc x Enter = make␠tst
abbrev pub row_105 : Row
row_105 = row 105 settings_95 (codes "\u{12}st\u{1b}x\r") (codes "make tst\n")

-- C-V Esc x Enter = ␛x | shows {} {␛[m?␛[m} {␛[m?␛[mx} ␍␊ {} ␍␊
abbrev pub row_108 : Row
row_108 = record (row 108 settings_95 (codes "\u{16}\u{1b}x\r") (codes "\u{1b}x\n")) {
  shows = Some
      (codes "\r\u{1b}[J\u{1b}[m> \u{1b}[m\u{1b}[m\u{1b}[m\r\u{1b}[J\u{1b}[m> \u{1b}[m\u{1b}" ++
      codes "[m?\u{1b}[m\u{1b}[m\u{1b}[m\r\u{1b}[J\u{1b}[m> \u{1b}[m\u{1b}[m?\u{1b}[mx" ++
      codes "\u{1b}[m\u{1b}[m\r\n\r\u{1b}[J\u{1b}[m> \u{1b}[m\u{1b}[m\u{1b}[m\r\n");
}

-- a Esc C-V x Enter = ""
abbrev pub row_109 : Row
row_109 = row 109 settings_95 (codes "a\u{1b}\u{16}x\r") (codes "\n")

-- modal
abbrev pub settings_112 : Settings
settings_112 = record plain {
  config = modal plain.config;
}

-- C-V Tab Enter = ␉ | shows {} {␛[m?␛[m} ␍␊ {} ␍␊
abbrev pub row_112 : Row
row_112 = record (row 112 settings_112 (codes "\u{16}\t\r") (codes "\t\n")) {
  shows = Some
      (codes "\r\u{1b}[J\u{1b}[m> \u{1b}[m\u{1b}[m\u{1b}[m\r\u{1b}[J\u{1b}[m> \u{1b}[m\u{1b}" ++
      codes "[m?\u{1b}[m\u{1b}[m\u{1b}[m\r\n\r\u{1b}[J\u{1b}[m> \u{1b}[m\u{1b}[m\u{1b}[m\r" ++
      codes "\n");
}

-- C-Q Enter Enter = ␍ | shows {} {␛[m?␛[m} ␍␊ {} ␍␊
abbrev pub row_113 : Row
row_113 = record (row 113 settings_112 (codes "\u{11}\r\r") (codes "\r\n")) {
  shows = Some
      (codes "\r\u{1b}[J\u{1b}[m> \u{1b}[m\u{1b}[m\u{1b}[m\r\u{1b}[J\u{1b}[m> \u{1b}[m\u{1b}" ++
      codes "[m?\u{1b}[m\u{1b}[m\u{1b}[m\r\n\r\u{1b}[J\u{1b}[m> \u{1b}[m\u{1b}[m\u{1b}[m\r" ++
      codes "\n");
}

-- C-V C-J Enter = ␊ | shows {} {␍␊} ␍␊ {} ␍␊
abbrev pub row_114 : Row
row_114 = record (row 114 settings_112 (codes "\u{16}\n\r") (codes "\n\n")) {
  shows = Some (codes "\r\u{1b}[J\u{1b}[m> \u{1b}[m\u{1b}[m\u{1b}[m\r\u{1b}[J\u{1b}[m> \u{1b}[m\r\n"
      ++ codes "\u{1b}[m\u{1b}[m\r\n\r\u{1b}[J\u{1b}[m> \u{1b}[m\u{1b}[m\u{1b}[m\r\n");
}

-- C-V Backspace Enter = ␡ | shows {} {␛[m?␛[m} ␍␊ {} ␍␊
abbrev pub row_115 : Row
row_115 = record (row 115 settings_112 (codes "\u{16}\u{7f}\r") (codes "\u{7f}\n")) {
  shows = Some
      (codes "\r\u{1b}[J\u{1b}[m> \u{1b}[m\u{1b}[m\u{1b}[m\r\u{1b}[J\u{1b}[m> \u{1b}[m\u{1b}" ++
      codes "[m?\u{1b}[m\u{1b}[m\u{1b}[m\r\n\r\u{1b}[J\u{1b}[m> \u{1b}[m\u{1b}[m\u{1b}[m\r" ++
      codes "\n");
}

-- C-V C-C C-V C-D Enter = ␃␄ | shows {} {␛[m?␛[m} {␛[m?␛[m␛[m?␛[m} ␍␊ {} ␍␊
abbrev pub row_116 : Row
row_116 = record (row 116 settings_112 (codes "\u{16}\u{3}\u{16}\u{4}\r") (codes "\u{3}\u{4}\n")) {
  shows = Some
      (codes "\r\u{1b}[J\u{1b}[m> \u{1b}[m\u{1b}[m\u{1b}[m\r\u{1b}[J\u{1b}[m> \u{1b}[m\u{1b}" ++
      codes "[m?\u{1b}[m\u{1b}[m\u{1b}[m\r\u{1b}[J\u{1b}[m> \u{1b}[m\u{1b}[m?\u{1b}[m\u{1b}" ++
      codes "[m?\u{1b}[m\u{1b}[m\u{1b}[m\r\n\r\u{1b}[J\u{1b}[m> \u{1b}[m\u{1b}[m\u{1b}[m\r" ++
      codes "\n");
}

-- C-V C-V Enter = ␖
abbrev pub row_117 : Row
row_117 = row 117 settings_112 (codes "\u{16}\u{16}\r") (codes "\u{16}\n")

-- C-V x Enter = x | shows {} x ␍␊ {} ␍␊
abbrev pub row_118 : Row
row_118 = record (row 118 settings_112 (codes "\u{16}x\r") (codes "x\n")) {
  shows = Some
      (codes "\r\u{1b}[J\u{1b}[m> \u{1b}[m\u{1b}[m\u{1b}[mx\r\n\r\u{1b}[J\u{1b}[m> \u{1b}[m" ++
      codes "\u{1b}[m\u{1b}[m\r\n");
}

-- C-V é Enter = é | shows {} {␛[mé␛[m} ␍␊ {} ␍␊
abbrev pub row_119 : Row
row_119 = record (row 119 settings_112 (encode_utf8_all (codes "\u{16}é\r")) (encode_utf8_all
    (codes "é\n"))) {
      shows = Some (encode_utf8_all
          (codes "\r\u{1b}[J\u{1b}[m> \u{1b}[m\u{1b}[m\u{1b}[m\r\u{1b}[J\u{1b}[m> \u{1b}[m\u{1b}" ++
          codes "[mé\u{1b}[m\u{1b}[m\u{1b}[m\r\n\r\u{1b}[J\u{1b}[m> \u{1b}[m\u{1b}[m\u{1b}[m\r" ++
          codes "\n"));
    }

-- C-V Left x Enter = x | shows {} x ␍␊ {} ␍␊
abbrev pub row_120 : Row
row_120 = record (row 120 settings_112 (codes "\u{16}\u{1b}[Dx\r") (codes "x\n")) {
  shows = Some
      (codes "\r\u{1b}[J\u{1b}[m> \u{1b}[m\u{1b}[m\u{1b}[mx\r\n\r\u{1b}[J\u{1b}[m> \u{1b}[m" ++
      codes "\u{1b}[m\u{1b}[m\r\n");
}

-- C-V M-x y Enter = y | shows {} y ␍␊ {} ␍␊
abbrev pub row_121 : Row
row_121 = record (row 121 settings_112 (codes "\u{16}\u{1b}xy\r") (codes "y\n")) {
  shows = Some
      (codes "\r\u{1b}[J\u{1b}[m> \u{1b}[m\u{1b}[m\u{1b}[my\r\n\r\u{1b}[J\u{1b}[m> \u{1b}[m" ++
      codes "\u{1b}[m\u{1b}[m\r\n");
}

-- C-V Paste a␊b Pasted Enter = a␊b | shows {} {a␍␊b} ␍␊ {} ␍␊
abbrev pub row_122 : Row
row_122 = record (row 122 settings_112 (codes "\u{16}\u{1b}[200~a\nb\u{1b}[201~\r")
    (codes "a\nb\n")) {
      shows = Some
          (codes "\r\u{1b}[J\u{1b}[m> \u{1b}[m\u{1b}[m\u{1b}[m\r\u{1b}[J\u{1b}[m> \u{1b}[ma\r\nb" ++
          codes "\u{1b}[m\u{1b}[m\r\n\r\u{1b}[J\u{1b}[m> \u{1b}[m\u{1b}[m\u{1b}[m\r\n");
    }

-- M-3 C-V x Enter = x | shows {} ␍␛[J␛[m(arg:␠3)␠␛[m␛[m␛[m {} x ␍␊ {} ␍␊
abbrev pub row_123 : Row
row_123 = record (row 123 settings_112 (codes "\u{1b}3\u{16}x\r") (codes "x\n")) {
  shows = Some
      (codes "\r\u{1b}[J\u{1b}[m> \u{1b}[m\u{1b}[m\u{1b}[m\r\u{1b}[J\u{1b}[m(arg: 3) \u{1b}[" ++
      codes "m\u{1b}[m\u{1b}[m\r\u{1b}[J\u{1b}[m> \u{1b}[m\u{1b}[m\u{1b}[mx\r\n\r\u{1b}[J" ++
      codes "\u{1b}[m> \u{1b}[m\u{1b}[m\u{1b}[m\r\n");
}

-- a C-V = nothing | shows {} a ␍␊
abbrev pub row_124 : Row
row_124 = record (row 124 settings_112 (codes "a\u{16}") []) {
  shows = Some (codes "\r\u{1b}[J\u{1b}[m> \u{1b}[m\u{1b}[m\u{1b}[ma\r\n");
}

-- modal loaded:#V2␊a␉b␊
abbrev pub settings_127 : Settings
settings_127 = record plain {
  config = modal plain.config;
  loaded = codes "#V2\na\tb\n";
}

-- C-R C-V Tab Enter = a␉b | shows {} ''} '␛[m?␛[m'a␛[m?␛[mb}␛[2D {a␛[m?␛[mb}␛[2D ␛[2C␍␊ {} ␍␊
abbrev pub row_127 : Row
row_127 = record (row 127 settings_127 (codes "\u{12}\u{16}\t\r") (codes "a\tb\n")) {
  shows = Some
      (codes "\r\u{1b}[J\u{1b}[m> \u{1b}[m\u{1b}[m\u{1b}[m\r\u{1b}[J\u{1b}[m(reverse-i-searc" ++
      codes "h)`': \u{1b}[m\u{1b}[m\u{1b}[m\r\u{1b}[J\u{1b}[m(reverse-i-search)`\u{1b}[m?" ++
      codes "\u{1b}[m': \u{1b}[ma\u{1b}[m?\u{1b}[mb\u{1b}[m\u{1b}[m\u{1b}[2D\r\u{1b}[J" ++
      codes "\u{1b}[m> \u{1b}[ma\u{1b}[m?\u{1b}[mb\u{1b}[m\u{1b}[m\u{1b}[2D\u{1b}[2C\r\n\r" ++
      codes "\u{1b}[J\u{1b}[m> \u{1b}[m\u{1b}[m\u{1b}[m\r\n");
}

-- ab C-R C-V C-G Enter = ab | shows {} a b ''ab} !'␛[m?␛[m'ab} {ab} ␍␊ {} ␍␊
abbrev pub row_128 : Row
row_128 = record (row 128 settings_127 (codes "ab\u{12}\u{16}\u{7}\r") (codes "ab\n")) {
  shows = Some
      (codes "\r\u{1b}[J\u{1b}[m> \u{1b}[m\u{1b}[m\u{1b}[mab\r\u{1b}[J\u{1b}[m(reverse-i-sea" ++
      codes "rch)`': \u{1b}[mab\u{1b}[m\u{1b}[m\r\u{1b}[J\u{1b}[m(failed reverse-i-search)`" ++
      codes "\u{1b}[m?\u{1b}[m': \u{1b}[mab\u{1b}[m\u{1b}[m\r\u{1b}[J\u{1b}[m> \u{1b}[mab" ++
      codes "\u{1b}[m\u{1b}[m\r\n\r\u{1b}[J\u{1b}[m> \u{1b}[m\u{1b}[m\u{1b}[m\r\n");
}

-- modal columns:12 loaded:#V2␊git␠status␊make␠test␊git␠commit␠-m␠one␊ls␠-l␊
abbrev pub settings_132 : Settings
settings_132 = record plain {
  config = modal plain.config;
  columns = 12;
  loaded = codes "#V2\ngit status\nmake test\ngit commit -m one\nls -l\n";
}

-- C-R mit C-R C-G Enter = "" | shows {} ␍␛[J␛[m(reverse-i-s␍␊earch)`':␠␛[m␛[m␛[m ␛[1A␍␛[J␛[m(reverse-i-s␍␊earch)`m':␠␛[mg␍␊it␠commit␠-m␍␊␠one␛[m␛[m␛[1A␛[1C ␛[2A␍␛[J␛[m(reverse-i-s␍␊earch)`mi':␠␍␊␛[mgit␠commit␠-␍␊m␠one␛[m␛[m␛[1A␛[2C ␛[2A␍␛[J␛[m(reverse-i-s␍␊earch)`mit':␍␊␠␛[mgit␠commit␠␍␊-m␠one␛[m␛[m␛[1A␛[2C ␛[2A␍␛[J␛[m(failed␠reve␍␊rse-i-search␍␊)`mit':␠␛[mgit␠␍␊commit␠-m␠on␍␊e␛[m␛[m␛[1A␛[2C ␛[3A{} ␍␊ {} ␍␊
abbrev pub row_132 : Row
row_132 = record (row 132 settings_132 (codes "\u{12}mit\u{12}\u{7}\r") (codes "\n")) {
  shows = Some
      (codes "\r\u{1b}[J\u{1b}[m> \u{1b}[m\u{1b}[m\u{1b}[m\r\u{1b}[J\u{1b}[m(reverse-i-s\r\n" ++
      codes "earch)`': \u{1b}[m\u{1b}[m\u{1b}[m\u{1b}[1A\r\u{1b}[J\u{1b}[m(reverse-i-s\r\ne" ++
      codes "arch)`m': \u{1b}[mg\r\nit commit -m\r\n one\u{1b}[m\u{1b}[m\u{1b}[1A\u{1b}[1C" ++
      codes "\u{1b}[2A\r\u{1b}[J\u{1b}[m(reverse-i-s\r\nearch)`mi': \r\n\u{1b}[mgit commit " ++
      codes "-\r\nm one\u{1b}[m\u{1b}[m\u{1b}[1A\u{1b}[2C\u{1b}[2A\r\u{1b}[J\u{1b}[m(revers" ++
      codes "e-i-s\r\nearch)`mit':\r\n \u{1b}[mgit commit \r\n-m one\u{1b}[m\u{1b}[m\u{1b}[" ++
      codes "1A\u{1b}[2C\u{1b}[2A\r\u{1b}[J\u{1b}[m(failed reve\r\nrse-i-search\r\n)`mit': " ++
      codes "\u{1b}[mgit \r\ncommit -m on\r\ne\u{1b}[m\u{1b}[m\u{1b}[1A\u{1b}[2C\u{1b}[3A\r" ++
      codes "\u{1b}[J\u{1b}[m> \u{1b}[m\u{1b}[m\u{1b}[m\r\n\r\u{1b}[J\u{1b}[m> \u{1b}[m" ++
      codes "\u{1b}[m\u{1b}[m\r\n");
}

-- git Up Enter = git | shows {} g i t ␇ ␍␊ {} ␍␊
abbrev pub row_136 : Row
row_136 = record (row 136 settings_112 (codes "git\u{1b}[A\r") (codes "git\n")) {
  shows = Some (codes "\r\u{1b}[J\u{1b}[m> \u{1b}[m\u{1b}[m\u{1b}[mgit\u{7}\r\n\r\u{1b}[J\u{1b}[m> "
      ++ codes "\u{1b}[m\u{1b}[m\u{1b}[m\r\n");
}

-- C-R a C-S Enter = a | shows {} a ␍␊ {} ␍␊
abbrev pub row_137 : Row
row_137 = record (row 137 settings_112 (codes "\u{12}a\u{13}\r") (codes "a\n")) {
  shows = Some
      (codes "\r\u{1b}[J\u{1b}[m> \u{1b}[m\u{1b}[m\u{1b}[ma\r\n\r\u{1b}[J\u{1b}[m> \u{1b}[m" ++
      codes "\u{1b}[m\u{1b}[m\r\n");
}

-- modal adding loaded:#V2␊a\nb␊
abbrev pub settings_141 : Settings
settings_141 = record plain {
  config = modal (adding plain.config);
  loaded = codes "#V2\na\\nb\n";
}

-- C-R b Enter = a␊b | saves nothing | shows {} ''} 'b'a␍␊b}␛[1D ␛[1A{a␍␊b}␛[1D ␛[1C␍␊ {} ␍␊
abbrev pub row_141 : Row
row_141 = record (row 141 settings_141 (codes "\u{12}b\r") (codes "a\nb\n")) {
  saves = Some [];
  shows = Some
      (codes "\r\u{1b}[J\u{1b}[m> \u{1b}[m\u{1b}[m\u{1b}[m\r\u{1b}[J\u{1b}[m(reverse-i-searc" ++
      codes "h)`': \u{1b}[m\u{1b}[m\u{1b}[m\r\u{1b}[J\u{1b}[m(reverse-i-search)`b': \u{1b}[" ++
      codes "ma\r\nb\u{1b}[m\u{1b}[m\u{1b}[1D\u{1b}[1A\r\u{1b}[J\u{1b}[m> \u{1b}[ma\r\nb" ++
      codes "\u{1b}[m\u{1b}[m\u{1b}[1D\u{1b}[1C\r\n\r\u{1b}[J\u{1b}[m> \u{1b}[m\u{1b}[m" ++
      codes "\u{1b}[m\r\n");
}

-- x Enter C-R C-G C-R a C-R Enter = x a␊b | saves #V2␊a\nb␊x␊a\nb␊
abbrev pub row_142 : Row
row_142 = record (row 142 settings_141 (codes "x\r\u{12}\u{7}\u{12}a\u{12}\r") (codes "x\na\nb\n")) {
  saves = Some (codes "#V2\na\\nb\nx\na\\nb\n");
}

-- modal helped loaded:#V2␊gets␊
abbrev pub settings_146 : Settings
settings_146 = record plain {
  config = modal plain.config;
  helping = aide true None;
  loaded = codes "#V2\ngets\n";
}

-- g C-R C-G Right Enter = gets | shows {} {g␛[mets␛[m␛[3D ''g␛[mets␛[m␛[3D {g␛[mets␛[m␛[3D {gets} ␍␊ {} ␍␊
abbrev pub row_146 : Row
row_146 = record (row 146 settings_146 (codes "g\u{12}\u{7}\u{1b}[C\r") (codes "gets\n")) {
  shows = Some (codes "\r\u{1b}[J\u{1b}[m> \u{1b}[m\u{1b}[m\u{1b}[m\r\u{1b}[J\u{1b}[m> \u{1b}[mg" ++
      codes "\u{1b}[mets\u{1b}[m\u{1b}[3D\r\u{1b}[J\u{1b}[m(reverse-i-search)`': \u{1b}[mg" ++
      codes "\u{1b}[mets\u{1b}[m\u{1b}[3D\r\u{1b}[J\u{1b}[m> \u{1b}[mg\u{1b}[mets\u{1b}[m" ++
      codes "\u{1b}[3D\r\u{1b}[J\u{1b}[m> \u{1b}[mgets\u{1b}[m\u{1b}[m\r\n\r\u{1b}[J\u{1b}[" ++
      codes "m> \u{1b}[m\u{1b}[m\u{1b}[m\r\n");
}

-- g C-R e Enter = gets | shows {} {g␛[mets␛[m␛[3D ''g␛[mets␛[m␛[3D 'e'gets}␛[3D {gets}␛[3D ␛[3C␍␊ {} ␍␊
abbrev pub row_147 : Row
row_147 = record (row 147 settings_146 (codes "g\u{12}e\r") (codes "gets\n")) {
  shows = Some (codes "\r\u{1b}[J\u{1b}[m> \u{1b}[m\u{1b}[m\u{1b}[m\r\u{1b}[J\u{1b}[m> \u{1b}[mg" ++
      codes "\u{1b}[mets\u{1b}[m\u{1b}[3D\r\u{1b}[J\u{1b}[m(reverse-i-search)`': \u{1b}[mg" ++
      codes "\u{1b}[mets\u{1b}[m\u{1b}[3D\r\u{1b}[J\u{1b}[m(reverse-i-search)`e': \u{1b}[mg" ++
      codes "ets\u{1b}[m\u{1b}[m\u{1b}[3D\r\u{1b}[J\u{1b}[m> \u{1b}[mgets\u{1b}[m\u{1b}[m" ++
      codes "\u{1b}[3D\u{1b}[3C\r\n\r\u{1b}[J\u{1b}[m> \u{1b}[m\u{1b}[m\u{1b}[m\r\n");
}

-- modal vi bind:C-O⇒Abort loaded:#V2␊make␠test␊
abbrev pub settings_151 : Settings
settings_151 = record plain {
  config = modal (vi plain.config);
  custom = bound ((KeySeq ((key_with (Char 79) ctrl) ∷ []), command Abort) ∷ []);
  loaded = codes "#V2\nmake test\n";
}

-- ab C-R ma C-O X Enter = abX | shows {} a b ''ab} 'm'make␠test}␛[9D 'ma'make␠test}␛[9D {ab} X ␍␊ {} ␍␊
abbrev pub row_151 : Row
row_151 = record (row 151 settings_151 (codes "ab\u{12}ma\u{f}X\r") (codes "abX\n")) {
  shows = Some
      (codes "\r\u{1b}[J\u{1b}[m> \u{1b}[m\u{1b}[m\u{1b}[mab\r\u{1b}[J\u{1b}[m(reverse-i-sea" ++
      codes "rch)`': \u{1b}[mab\u{1b}[m\u{1b}[m\r\u{1b}[J\u{1b}[m(reverse-i-search)`m': " ++
      codes "\u{1b}[mmake test\u{1b}[m\u{1b}[m\u{1b}[9D\r\u{1b}[J\u{1b}[m(reverse-i-search)" ++
      codes "`ma': \u{1b}[mmake test\u{1b}[m\u{1b}[m\u{1b}[9D\r\u{1b}[J\u{1b}[m> \u{1b}[mab" ++
      codes "\u{1b}[m\u{1b}[mX\r\n\r\u{1b}[J\u{1b}[m> \u{1b}[m\u{1b}[m\u{1b}[m\r\n");
}

-- modal bind:C-O⇒SelfInsert·3·t loaded:#V2␊make␠test␊
abbrev pub settings_154 : Settings
settings_154 = record plain {
  config = modal plain.config;
  custom = bound ((KeySeq ((key_with (Char 79) ctrl) ∷ []), command (SelfInsert 3 116)) ∷ []);
  loaded = codes "#V2\nmake test\n";
}

-- C-R C-O Enter = make␠test | shows {} ''} 't'make␠test}␛[4D {make␠test}␛[4D ␛[4C␍␊ {} ␍␊
abbrev pub row_154 : Row
row_154 = record (row 154 settings_154 (codes "\u{12}\u{f}\r") (codes "make test\n")) {
  shows = Some
      (codes "\r\u{1b}[J\u{1b}[m> \u{1b}[m\u{1b}[m\u{1b}[m\r\u{1b}[J\u{1b}[m(reverse-i-searc" ++
      codes "h)`': \u{1b}[m\u{1b}[m\u{1b}[m\r\u{1b}[J\u{1b}[m(reverse-i-search)`t': \u{1b}[" ++
      codes "mmake test\u{1b}[m\u{1b}[m\u{1b}[4D\r\u{1b}[J\u{1b}[m> \u{1b}[mmake test\u{1b}" ++
      codes "[m\u{1b}[m\u{1b}[4D\u{1b}[4C\r\n\r\u{1b}[J\u{1b}[m> \u{1b}[m\u{1b}[m\u{1b}[m\r" ++
      codes "\n");
}

-- loaded:#V2␊git␠status␊
abbrev pub settings_158 : Settings
settings_158 = record plain {
  loaded = codes "#V2\ngit status\n";
}

-- a C-R b C-S c Enter = abc | shows {} a b c ␍␊ {} ␍␊
abbrev pub row_158 : Row
row_158 = record (row 158 settings_158 (codes "a\u{12}b\u{13}c\r") (codes "abc\n")) {
  shows = Some
      (codes "\r\u{1b}[J\u{1b}[m> \u{1b}[m\u{1b}[m\u{1b}[mabc\r\n\r\u{1b}[J\u{1b}[m> \u{1b}[" ++
      codes "m\u{1b}[m\u{1b}[m\r\n");
}

-- g Up Enter = git␠status | shows {} g {git␠status} ␍␊ {} ␍␊
abbrev pub row_159 : Row
row_159 = record (row 159 settings_158 (codes "g\u{1b}[A\r") (codes "git status\n")) {
  shows = Some
      (codes "\r\u{1b}[J\u{1b}[m> \u{1b}[m\u{1b}[m\u{1b}[mg\r\u{1b}[J\u{1b}[m> \u{1b}[mgit s" ++
      codes "tatus\u{1b}[m\u{1b}[m\r\n\r\u{1b}[J\u{1b}[m> \u{1b}[m\u{1b}[m\u{1b}[m\r\n");
}

-- a C-V b Enter = ab | shows {} a b ␍␊ {} ␍␊
abbrev pub row_160 : Row
row_160 = record (row 160 settings_158 (codes "a\u{16}b\r") (codes "ab\n")) {
  shows = Some
      (codes "\r\u{1b}[J\u{1b}[m> \u{1b}[m\u{1b}[m\u{1b}[mab\r\n\r\u{1b}[J\u{1b}[m> \u{1b}[m" ++
      codes "\u{1b}[m\u{1b}[m\r\n");
}

-- modal vi loaded:#V2␊git␠status␊make␠test␊git␠commit␠-m␠one␊ls␠-l␊
abbrev pub settings_165 : Settings
settings_165 = record plain {
  config = modal (vi plain.config);
  loaded = codes "#V2\ngit status\nmake test\ngit commit -m one\nls -l\n";
}

-- Esc / git Esc n Enter = git␠status | shows {} ''} 'g'git␠commit␠-m␠one}␛[17D 'gi'git␠commit␠-m␠one}␛[17D 'git'git␠commit␠-m␠one}␛[17D {git␠commit␠-m␠one}␛[17D {git␠status}␛[10D ␛[10C␍␊ {} ␍␊
abbrev pub row_165 : Row
row_165 = record (row 165 settings_165 (codes "\u{1b}/git\u{1b}n\r") (codes "git status\n")) {
  shows = Some
      (codes "\r\u{1b}[J\u{1b}[m> \u{1b}[m\u{1b}[m\u{1b}[m\r\u{1b}[J\u{1b}[m(reverse-i-searc" ++
      codes "h)`': \u{1b}[m\u{1b}[m\u{1b}[m\r\u{1b}[J\u{1b}[m(reverse-i-search)`g': \u{1b}[" ++
      codes "mgit commit -m one\u{1b}[m\u{1b}[m\u{1b}[17D\r\u{1b}[J\u{1b}[m(reverse-i-searc" ++
      codes "h)`gi': \u{1b}[mgit commit -m one\u{1b}[m\u{1b}[m\u{1b}[17D\r\u{1b}[J\u{1b}[m(" ++
      codes "reverse-i-search)`git': \u{1b}[mgit commit -m one\u{1b}[m\u{1b}[m\u{1b}[17D\r" ++
      codes "\u{1b}[J\u{1b}[m> \u{1b}[mgit commit -m one\u{1b}[m\u{1b}[m\u{1b}[17D\r\u{1b}[" ++
      codes "J\u{1b}[m> \u{1b}[mgit status\u{1b}[m\u{1b}[m\u{1b}[10D\u{1b}[10C\r\n\r\u{1b}[" ++
      codes "J\u{1b}[m> \u{1b}[m\u{1b}[m\u{1b}[m\r\n");
}

-- Esc / git Esc n n Enter = git␠status | shows {} ''} 'g'git␠commit␠-m␠one}␛[17D 'gi'git␠commit␠-m␠one}␛[17D 'git'git␠commit␠-m␠one}␛[17D {git␠commit␠-m␠one}␛[17D {git␠status}␛[10D ␇ ␛[10C␍␊ {} ␍␊
abbrev pub row_166 : Row
row_166 = record (row 166 settings_165 (codes "\u{1b}/git\u{1b}nn\r") (codes "git status\n")) {
  shows = Some
      (codes "\r\u{1b}[J\u{1b}[m> \u{1b}[m\u{1b}[m\u{1b}[m\r\u{1b}[J\u{1b}[m(reverse-i-searc" ++
      codes "h)`': \u{1b}[m\u{1b}[m\u{1b}[m\r\u{1b}[J\u{1b}[m(reverse-i-search)`g': \u{1b}[" ++
      codes "mgit commit -m one\u{1b}[m\u{1b}[m\u{1b}[17D\r\u{1b}[J\u{1b}[m(reverse-i-searc" ++
      codes "h)`gi': \u{1b}[mgit commit -m one\u{1b}[m\u{1b}[m\u{1b}[17D\r\u{1b}[J\u{1b}[m(" ++
      codes "reverse-i-search)`git': \u{1b}[mgit commit -m one\u{1b}[m\u{1b}[m\u{1b}[17D\r" ++
      codes "\u{1b}[J\u{1b}[m> \u{1b}[mgit commit -m one\u{1b}[m\u{1b}[m\u{1b}[17D\r\u{1b}[" ++
      codes "J\u{1b}[m> \u{1b}[mgit status\u{1b}[m\u{1b}[m\u{1b}[10D\u{7}\u{1b}[10C\r\n\r" ++
      codes "\u{1b}[J\u{1b}[m> \u{1b}[m\u{1b}[m\u{1b}[m\r\n");
}

-- Esc / git Esc n N Enter = git␠commit␠-m␠one | shows {} ''} 'g'git␠commit␠-m␠one}␛[17D 'gi'git␠commit␠-m␠one}␛[17D 'git'git␠commit␠-m␠one}␛[17D {git␠commit␠-m␠one}␛[17D {git␠status}␛[10D {git␠commit␠-m␠one}␛[17D ␛[17C␍␊ {} ␍␊
abbrev pub row_167 : Row
row_167 = record (row 167 settings_165 (codes "\u{1b}/git\u{1b}nN\r") (codes "git commit -m one\n")) {
  shows = Some
      (codes "\r\u{1b}[J\u{1b}[m> \u{1b}[m\u{1b}[m\u{1b}[m\r\u{1b}[J\u{1b}[m(reverse-i-searc" ++
      codes "h)`': \u{1b}[m\u{1b}[m\u{1b}[m\r\u{1b}[J\u{1b}[m(reverse-i-search)`g': \u{1b}[" ++
      codes "mgit commit -m one\u{1b}[m\u{1b}[m\u{1b}[17D\r\u{1b}[J\u{1b}[m(reverse-i-searc" ++
      codes "h)`gi': \u{1b}[mgit commit -m one\u{1b}[m\u{1b}[m\u{1b}[17D\r\u{1b}[J\u{1b}[m(" ++
      codes "reverse-i-search)`git': \u{1b}[mgit commit -m one\u{1b}[m\u{1b}[m\u{1b}[17D\r" ++
      codes "\u{1b}[J\u{1b}[m> \u{1b}[mgit commit -m one\u{1b}[m\u{1b}[m\u{1b}[17D\r\u{1b}[" ++
      codes "J\u{1b}[m> \u{1b}[mgit status\u{1b}[m\u{1b}[m\u{1b}[10D\r\u{1b}[J\u{1b}[m> " ++
      codes "\u{1b}[mgit commit -m one\u{1b}[m\u{1b}[m\u{1b}[17D\u{1b}[17C\r\n\r\u{1b}[J" ++
      codes "\u{1b}[m> \u{1b}[m\u{1b}[m\u{1b}[m\r\n");
}

-- Esc / git Esc N Enter = git␠commit␠-m␠one | shows {} ''} 'g'git␠commit␠-m␠one}␛[17D 'gi'git␠commit␠-m␠one}␛[17D 'git'git␠commit␠-m␠one}␛[17D {git␠commit␠-m␠one}␛[17D ␇ ␛[17C␍␊ {} ␍␊
abbrev pub row_168 : Row
row_168 = record (row 168 settings_165 (codes "\u{1b}/git\u{1b}N\r") (codes "git commit -m one\n")) {
  shows = Some
      (codes "\r\u{1b}[J\u{1b}[m> \u{1b}[m\u{1b}[m\u{1b}[m\r\u{1b}[J\u{1b}[m(reverse-i-searc" ++
      codes "h)`': \u{1b}[m\u{1b}[m\u{1b}[m\r\u{1b}[J\u{1b}[m(reverse-i-search)`g': \u{1b}[" ++
      codes "mgit commit -m one\u{1b}[m\u{1b}[m\u{1b}[17D\r\u{1b}[J\u{1b}[m(reverse-i-searc" ++
      codes "h)`gi': \u{1b}[mgit commit -m one\u{1b}[m\u{1b}[m\u{1b}[17D\r\u{1b}[J\u{1b}[m(" ++
      codes "reverse-i-search)`git': \u{1b}[mgit commit -m one\u{1b}[m\u{1b}[m\u{1b}[17D\r" ++
      codes "\u{1b}[J\u{1b}[m> \u{1b}[mgit commit -m one\u{1b}[m\u{1b}[m\u{1b}[17D\u{7}" ++
      codes "\u{1b}[17C\r\n\r\u{1b}[J\u{1b}[m> \u{1b}[m\u{1b}[m\u{1b}[m\r\n");
}

-- C-R st Esc n Enter = git␠status | shows {} ''} 's'ls␠-l}␛[4D 'st'make␠test}␛[2D {make␠test}␛[2D ␛[1D {git␠status}␛[6D ␛[6C␍␊ {} ␍␊
abbrev pub row_169 : Row
row_169 = record (row 169 settings_165 (codes "\u{12}st\u{1b}n\r") (codes "git status\n")) {
  shows = Some
      (codes "\r\u{1b}[J\u{1b}[m> \u{1b}[m\u{1b}[m\u{1b}[m\r\u{1b}[J\u{1b}[m(reverse-i-searc" ++
      codes "h)`': \u{1b}[m\u{1b}[m\u{1b}[m\r\u{1b}[J\u{1b}[m(reverse-i-search)`s': \u{1b}[" ++
      codes "mls -l\u{1b}[m\u{1b}[m\u{1b}[4D\r\u{1b}[J\u{1b}[m(reverse-i-search)`st': " ++
      codes "\u{1b}[mmake test\u{1b}[m\u{1b}[m\u{1b}[2D\r\u{1b}[J\u{1b}[m> \u{1b}[mmake tes" ++
      codes "t\u{1b}[m\u{1b}[m\u{1b}[2D\u{1b}[1D\r\u{1b}[J\u{1b}[m> \u{1b}[mgit status" ++
      codes "\u{1b}[m\u{1b}[m\u{1b}[6D\u{1b}[6C\r\n\r\u{1b}[J\u{1b}[m> \u{1b}[m\u{1b}[m" ++
      codes "\u{1b}[m\r\n");
}

-- Esc / git Enter Esc n Enter = git␠commit␠-m␠one git␠commit␠-m␠one | shows {} ''} 'g'git␠commit␠-m␠one}␛[17D 'gi'git␠commit␠-m␠one}␛[17D 'git'git␠commit␠-m␠one}␛[17D {git␠commit␠-m␠one}␛[17D ␛[17C␍␊ {} {git␠commit␠-m␠one}␛[17D ␛[17C␍␊ {} ␍␊
abbrev pub row_170 : Row
row_170 = record (row 170 settings_165 (codes "\u{1b}/git\r\u{1b}n\r")
    (codes "git commit -m one\ngit commit -m one\n")) {
      shows = Some
          (codes "\r\u{1b}[J\u{1b}[m> \u{1b}[m\u{1b}[m\u{1b}[m\r\u{1b}[J\u{1b}[m(reverse-i-searc" ++
          codes "h)`': \u{1b}[m\u{1b}[m\u{1b}[m\r\u{1b}[J\u{1b}[m(reverse-i-search)`g': \u{1b}[" ++
          codes "mgit commit -m one\u{1b}[m\u{1b}[m\u{1b}[17D\r\u{1b}[J\u{1b}[m(reverse-i-searc" ++
          codes "h)`gi': \u{1b}[mgit commit -m one\u{1b}[m\u{1b}[m\u{1b}[17D\r\u{1b}[J\u{1b}[m(" ++
          codes "reverse-i-search)`git': \u{1b}[mgit commit -m one\u{1b}[m\u{1b}[m\u{1b}[17D\r" ++
          codes "\u{1b}[J\u{1b}[m> \u{1b}[mgit commit -m one\u{1b}[m\u{1b}[m\u{1b}[17D\u{1b}[17" ++
          codes "C\r\n\r\u{1b}[J\u{1b}[m> \u{1b}[m\u{1b}[m\u{1b}[m\r\u{1b}[J\u{1b}[m> \u{1b}[mg" ++
          codes "it commit -m one\u{1b}[m\u{1b}[m\u{1b}[17D\u{1b}[17C\r\n\r\u{1b}[J\u{1b}[m> " ++
          codes "\u{1b}[m\u{1b}[m\u{1b}[m\r\n");
    }

-- Esc k k k ? git Esc n N Enter = git␠status | shows {} {ls␠-l} {git␠commit␠-m␠one} {make␠test} >''make␠test} >'g'git␠commit␠-m␠one}␛[17D >'gi'git␠commit␠-m␠one}␛[17D >'git'git␠commit␠-m␠one}␛[17D {git␠commit␠-m␠one}␛[17D ␇ {git␠status}␛[10D ␛[10C␍␊ {} ␍␊
abbrev pub row_171 : Row
row_171 = record (row 171 settings_165 (codes "\u{1b}kkk?git\u{1b}nN\r") (codes "git status\n")) {
  shows = Some
      (codes "\r\u{1b}[J\u{1b}[m> \u{1b}[m\u{1b}[m\u{1b}[m\r\u{1b}[J\u{1b}[m> \u{1b}[mls -l" ++
      codes "\u{1b}[m\u{1b}[m\r\u{1b}[J\u{1b}[m> \u{1b}[mgit commit -m one\u{1b}[m\u{1b}[m" ++
      codes "\r\u{1b}[J\u{1b}[m> \u{1b}[mmake test\u{1b}[m\u{1b}[m\r\u{1b}[J\u{1b}[m(i-sear" ++
      codes "ch)`': \u{1b}[mmake test\u{1b}[m\u{1b}[m\r\u{1b}[J\u{1b}[m(i-search)`g': " ++
      codes "\u{1b}[mgit commit -m one\u{1b}[m\u{1b}[m\u{1b}[17D\r\u{1b}[J\u{1b}[m(i-search" ++
      codes ")`gi': \u{1b}[mgit commit -m one\u{1b}[m\u{1b}[m\u{1b}[17D\r\u{1b}[J\u{1b}[m(i" ++
      codes "-search)`git': \u{1b}[mgit commit -m one\u{1b}[m\u{1b}[m\u{1b}[17D\r\u{1b}[J" ++
      codes "\u{1b}[m> \u{1b}[mgit commit -m one\u{1b}[m\u{1b}[m\u{1b}[17D\u{7}\r\u{1b}[J" ++
      codes "\u{1b}[m> \u{1b}[mgit status\u{1b}[m\u{1b}[m\u{1b}[10D\u{1b}[10C\r\n\r\u{1b}[J" ++
      codes "\u{1b}[m> \u{1b}[m\u{1b}[m\u{1b}[m\r\n");
}

-- abc Esc / git Esc n u Enter = git␠commit␠-m␠one | shows {} a b c ␛[1D ''abc}␛[1D 'g'git␠commit␠-m␠one}␛[17D 'gi'git␠commit␠-m␠one}␛[17D 'git'git␠commit␠-m␠one}␛[17D {git␠commit␠-m␠one}␛[17D {git␠status}␛[10D {git␠commit␠-m␠one} ␍␊ {} ␍␊
abbrev pub row_172 : Row
row_172 = record (row 172 settings_165 (codes "abc\u{1b}/git\u{1b}nu\r")
    (codes "git commit -m one\n")) {
      shows = Some
          (codes "\r\u{1b}[J\u{1b}[m> \u{1b}[m\u{1b}[m\u{1b}[mabc\u{1b}[1D\r\u{1b}[J\u{1b}[m(rev" ++
          codes "erse-i-search)`': \u{1b}[mabc\u{1b}[m\u{1b}[m\u{1b}[1D\r\u{1b}[J\u{1b}[m(rever" ++
          codes "se-i-search)`g': \u{1b}[mgit commit -m one\u{1b}[m\u{1b}[m\u{1b}[17D\r\u{1b}[J" ++
          codes "\u{1b}[m(reverse-i-search)`gi': \u{1b}[mgit commit -m one\u{1b}[m\u{1b}[m" ++
          codes "\u{1b}[17D\r\u{1b}[J\u{1b}[m(reverse-i-search)`git': \u{1b}[mgit commit -m one" ++
          codes "\u{1b}[m\u{1b}[m\u{1b}[17D\r\u{1b}[J\u{1b}[m> \u{1b}[mgit commit -m one\u{1b}[" ++
          codes "m\u{1b}[m\u{1b}[17D\r\u{1b}[J\u{1b}[m> \u{1b}[mgit status\u{1b}[m\u{1b}[m" ++
          codes "\u{1b}[10D\r\u{1b}[J\u{1b}[m> \u{1b}[mgit commit -m one\u{1b}[m\u{1b}[m\r\n\r" ++
          codes "\u{1b}[J\u{1b}[m> \u{1b}[m\u{1b}[m\u{1b}[m\r\n");
    }

-- abc Esc / git Esc n u u Enter = abc
abbrev pub row_173 : Row
row_173 = row 173 settings_165 (codes "abc\u{1b}/git\u{1b}nuu\r") (codes "abc\n")

-- Esc / git Esc n C-P Enter = ls␠-l | shows {} ''} 'g'git␠commit␠-m␠one}␛[17D 'gi'git␠commit␠-m␠one}␛[17D 'git'git␠commit␠-m␠one}␛[17D {git␠commit␠-m␠one}␛[17D {git␠status}␛[10D {ls␠-l} ␍␊ {} ␍␊
abbrev pub row_174 : Row
row_174 = record (row 174 settings_165 (codes "\u{1b}/git\u{1b}n\u{10}\r") (codes "ls -l\n")) {
  shows = Some
      (codes "\r\u{1b}[J\u{1b}[m> \u{1b}[m\u{1b}[m\u{1b}[m\r\u{1b}[J\u{1b}[m(reverse-i-searc" ++
      codes "h)`': \u{1b}[m\u{1b}[m\u{1b}[m\r\u{1b}[J\u{1b}[m(reverse-i-search)`g': \u{1b}[" ++
      codes "mgit commit -m one\u{1b}[m\u{1b}[m\u{1b}[17D\r\u{1b}[J\u{1b}[m(reverse-i-searc" ++
      codes "h)`gi': \u{1b}[mgit commit -m one\u{1b}[m\u{1b}[m\u{1b}[17D\r\u{1b}[J\u{1b}[m(" ++
      codes "reverse-i-search)`git': \u{1b}[mgit commit -m one\u{1b}[m\u{1b}[m\u{1b}[17D\r" ++
      codes "\u{1b}[J\u{1b}[m> \u{1b}[mgit commit -m one\u{1b}[m\u{1b}[m\u{1b}[17D\r\u{1b}[" ++
      codes "J\u{1b}[m> \u{1b}[mgit status\u{1b}[m\u{1b}[m\u{1b}[10D\r\u{1b}[J\u{1b}[m> " ++
      codes "\u{1b}[mls -l\u{1b}[m\u{1b}[m\r\n\r\u{1b}[J\u{1b}[m> \u{1b}[m\u{1b}[m\u{1b}[m" ++
      codes "\r\n");
}

-- Esc / git Esc n i x Enter = xgit␠status
abbrev pub row_175 : Row
row_175 = row 175 settings_165 (codes "\u{1b}/git\u{1b}nix\r") (codes "xgit status\n")

-- Esc / git Esc 3 n Enter = git␠status
abbrev pub row_176 : Row
row_176 = row 176 settings_165 (codes "\u{1b}/git\u{1b}3n\r") (codes "git status\n")

-- Esc / git C-G Esc n Enter = git␠status | shows {} ''} 'g'git␠commit␠-m␠one}␛[17D 'gi'git␠commit␠-m␠one}␛[17D 'git'git␠commit␠-m␠one}␛[17D {} {git␠status}␛[10D ␛[10C␍␊ {} ␍␊
abbrev pub row_177 : Row
row_177 = record (row 177 settings_165 (codes "\u{1b}/git\u{7}\u{1b}n\r") (codes "git status\n")) {
  shows = Some
      (codes "\r\u{1b}[J\u{1b}[m> \u{1b}[m\u{1b}[m\u{1b}[m\r\u{1b}[J\u{1b}[m(reverse-i-searc" ++
      codes "h)`': \u{1b}[m\u{1b}[m\u{1b}[m\r\u{1b}[J\u{1b}[m(reverse-i-search)`g': \u{1b}[" ++
      codes "mgit commit -m one\u{1b}[m\u{1b}[m\u{1b}[17D\r\u{1b}[J\u{1b}[m(reverse-i-searc" ++
      codes "h)`gi': \u{1b}[mgit commit -m one\u{1b}[m\u{1b}[m\u{1b}[17D\r\u{1b}[J\u{1b}[m(" ++
      codes "reverse-i-search)`git': \u{1b}[mgit commit -m one\u{1b}[m\u{1b}[m\u{1b}[17D\r" ++
      codes "\u{1b}[J\u{1b}[m> \u{1b}[m\u{1b}[m\u{1b}[m\r\u{1b}[J\u{1b}[m> \u{1b}[mgit stat" ++
      codes "us\u{1b}[m\u{1b}[m\u{1b}[10D\u{1b}[10C\r\n\r\u{1b}[J\u{1b}[m> \u{1b}[m\u{1b}[m" ++
      codes "\u{1b}[m\r\n");
}

-- Esc / g Backspace Esc n Enter = "" | shows {} ''} 'g'git␠commit␠-m␠one}␛[17D ''} {} ␇ ␍␊ {} ␍␊
abbrev pub row_178 : Row
row_178 = record (row 178 settings_165 (codes "\u{1b}/g\u{7f}\u{1b}n\r") (codes "\n")) {
  shows = Some
      (codes "\r\u{1b}[J\u{1b}[m> \u{1b}[m\u{1b}[m\u{1b}[m\r\u{1b}[J\u{1b}[m(reverse-i-searc" ++
      codes "h)`': \u{1b}[m\u{1b}[m\u{1b}[m\r\u{1b}[J\u{1b}[m(reverse-i-search)`g': \u{1b}[" ++
      codes "mgit commit -m one\u{1b}[m\u{1b}[m\u{1b}[17D\r\u{1b}[J\u{1b}[m(reverse-i-searc" ++
      codes "h)`': \u{1b}[m\u{1b}[m\u{1b}[m\r\u{1b}[J\u{1b}[m> \u{1b}[m\u{1b}[m\u{1b}[m" ++
      codes "\u{7}\r\n\r\u{1b}[J\u{1b}[m> \u{1b}[m\u{1b}[m\u{1b}[m\r\n");
}

-- Esc / zz Esc n Enter = "" | shows {} ''} !'z'} !'zz'} {} ␇ ␍␊ {} ␍␊
abbrev pub row_179 : Row
row_179 = record (row 179 settings_165 (codes "\u{1b}/zz\u{1b}n\r") (codes "\n")) {
  shows = Some
      (codes "\r\u{1b}[J\u{1b}[m> \u{1b}[m\u{1b}[m\u{1b}[m\r\u{1b}[J\u{1b}[m(reverse-i-searc" ++
      codes "h)`': \u{1b}[m\u{1b}[m\u{1b}[m\r\u{1b}[J\u{1b}[m(failed reverse-i-search)`z': " ++
      codes "\u{1b}[m\u{1b}[m\u{1b}[m\r\u{1b}[J\u{1b}[m(failed reverse-i-search)`zz': " ++
      codes "\u{1b}[m\u{1b}[m\u{1b}[m\r\u{1b}[J\u{1b}[m> \u{1b}[m\u{1b}[m\u{1b}[m\u{7}\r\n" ++
      codes "\r\u{1b}[J\u{1b}[m> \u{1b}[m\u{1b}[m\u{1b}[m\r\n");
}

-- Esc n N Enter = "" | shows {} ␇ ␇ ␍␊ {} ␍␊
abbrev pub row_180 : Row
row_180 = record (row 180 settings_165 (codes "\u{1b}nN\r") (codes "\n")) {
  shows = Some
      (codes "\r\u{1b}[J\u{1b}[m> \u{1b}[m\u{1b}[m\u{1b}[m\u{7}\u{7}\r\n\r\u{1b}[J\u{1b}[m> " ++
      codes "\u{1b}[m\u{1b}[m\u{1b}[m\r\n");
}

-- a n N Enter = anN | shows {} a n N ␍␊ {} ␍␊
abbrev pub row_181 : Row
row_181 = record (row 181 settings_165 (codes "anN\r") (codes "anN\n")) {
  shows = Some
      (codes "\r\u{1b}[J\u{1b}[m> \u{1b}[m\u{1b}[m\u{1b}[manN\r\n\r\u{1b}[J\u{1b}[m> \u{1b}[" ++
      codes "m\u{1b}[m\u{1b}[m\r\n");
}

-- modal vi adding loaded:#V2␊git␠status␊make␠test␊git␠commit␠-m␠one␊ls␠-l␊
abbrev pub settings_184 : Settings
settings_184 = record plain {
  config = modal (adding (vi plain.config));
  loaded = codes "#V2\ngit status\nmake test\ngit commit -m one\nls -l\n";
}

-- Esc / git Enter Esc k k k k n Enter = git␠commit␠-m␠one git␠status
abbrev pub row_184 : Row
row_184 = row 184 settings_184 (codes "\u{1b}/git\r\u{1b}kkkkn\r")
    (codes "git commit -m one\ngit status\n")

-- modal vi
abbrev pub settings_187 : Settings
settings_187 = record plain {
  config = modal (vi plain.config);
}

-- a Esc n N Enter = a | shows {} a ␛[1D ␇ ␇ ␛[1C␍␊ {} ␍␊
abbrev pub row_187 : Row
row_187 = record (row 187 settings_187 (codes "a\u{1b}nN\r") (codes "a\n")) {
  shows = Some
      (codes "\r\u{1b}[J\u{1b}[m> \u{1b}[m\u{1b}[m\u{1b}[ma\u{1b}[1D\u{7}\u{7}\u{1b}[1C\r\n" ++
      codes "\r\u{1b}[J\u{1b}[m> \u{1b}[m\u{1b}[m\u{1b}[m\r\n");
}

-- vi loaded:#V2␊git␠status␊
abbrev pub settings_190 : Settings
settings_190 = record plain {
  config = vi plain.config;
  loaded = codes "#V2\ngit status\n";
}

-- a Esc n N Enter = a | shows {} a ␛[1D ␛[1C␍␊ {} ␍␊
abbrev pub row_190 : Row
row_190 = record (row 190 settings_190 (codes "a\u{1b}nN\r") (codes "a\n")) {
  shows = Some
      (codes "\r\u{1b}[J\u{1b}[m> \u{1b}[m\u{1b}[m\u{1b}[ma\u{1b}[1D\u{1b}[1C\r\n\r\u{1b}[J" ++
      codes "\u{1b}[m> \u{1b}[m\u{1b}[m\u{1b}[m\r\n");
}

-- modal loaded:#V2␊git␠status␊make␠test␊git␠commit␠-m␠one␊ls␠-l␊
abbrev pub settings_194 : Settings
settings_194 = record plain {
  config = modal plain.config;
  loaded = codes "#V2\ngit status\nmake test\ngit commit -m one\nls -l\n";
}

-- ma C-R Up Enter = make␠test | shows {} m a ''ma} {ma} {make␠test}␛[7D ␛[7C␍␊ {} ␍␊
abbrev pub row_194 : Row
row_194 = record (row 194 settings_194 (codes "ma\u{12}\u{1b}[A\r") (codes "make test\n")) {
  shows = Some
      (codes "\r\u{1b}[J\u{1b}[m> \u{1b}[m\u{1b}[m\u{1b}[mma\r\u{1b}[J\u{1b}[m(reverse-i-sea" ++
      codes "rch)`': \u{1b}[mma\u{1b}[m\u{1b}[m\r\u{1b}[J\u{1b}[m> \u{1b}[mma\u{1b}[m\u{1b}" ++
      codes "[m\r\u{1b}[J\u{1b}[m> \u{1b}[mmake test\u{1b}[m\u{1b}[m\u{1b}[7D\u{1b}[7C\r\n" ++
      codes "\r\u{1b}[J\u{1b}[m> \u{1b}[m\u{1b}[m\u{1b}[m\r\n");
}

abbrev pub modal_rows : List Row
modal_rows = row_7 ∷ row_8 ∷ row_9 ∷ row_10 ∷ row_11 ∷ row_12 ∷ row_13 ∷ row_14 ∷ row_15 ∷ row_16 ∷
    row_17 ∷ row_18 ∷ row_21 ∷ row_22 ∷ row_23 ∷ row_24 ∷ row_25 ∷ row_26 ∷ row_27 ∷ row_28 ∷ row_29
    ∷ row_32 ∷ row_33 ∷ row_34 ∷ row_35 ∷ row_36 ∷ row_37 ∷ row_38 ∷ row_41 ∷ row_42 ∷ row_43 ∷
    row_46 ∷ row_47 ∷ row_48 ∷ row_51 ∷ row_52 ∷ row_53 ∷ row_54 ∷ row_55 ∷ row_56 ∷ row_57 ∷ row_58
    ∷ row_59 ∷ row_60 ∷ row_61 ∷ row_62 ∷ row_63 ∷ row_64 ∷ row_65 ∷ row_66 ∷ row_67 ∷ row_68 ∷
    row_71 ∷ row_72 ∷ row_75 ∷ row_76 ∷ row_77 ∷ row_78 ∷ row_79 ∷ row_80 ∷ row_81 ∷ row_82 ∷ row_83
    ∷ row_84 ∷ row_87 ∷ row_88 ∷ row_89 ∷ row_90 ∷ row_91 ∷ row_95 ∷ row_96 ∷ row_97 ∷ row_98 ∷
    row_99 ∷ row_100 ∷ row_101 ∷ row_102 ∷ row_103 ∷ row_104 ∷ row_105 ∷ row_108 ∷ row_109 ∷ row_112
    ∷ row_113 ∷ row_114 ∷ row_115 ∷ row_116 ∷ row_117 ∷ row_118 ∷ row_119 ∷ row_120 ∷ row_121 ∷
    row_122 ∷ row_123 ∷ row_124 ∷ row_127 ∷ row_128 ∷ row_132 ∷ row_136 ∷ row_137 ∷ row_141 ∷
    row_142 ∷ row_146 ∷ row_147 ∷ row_151 ∷ row_154 ∷ row_158 ∷ row_159 ∷ row_160 ∷ row_165 ∷
    row_166 ∷ row_167 ∷ row_168 ∷ row_169 ∷ row_170 ∷ row_171 ∷ row_172 ∷ row_173 ∷ row_174 ∷
    row_175 ∷ row_176 ∷ row_177 ∷ row_178 ∷ row_179 ∷ row_180 ∷ row_181 ∷ row_184 ∷ row_187 ∷
    row_190 ∷ row_194 ∷ []
