-- Rows of the program with `--prompt`, by hand. tests/program/arguments.py plays the same.
use Rattle.std.specs.Prelude.{ℕ, Bool, true, false, List, [], ◌∷◌, ◌++◌, None, Some, codes, encode_utf8_all}
use Rattle.line_config.specs.declared.settings.EditMode.TheVariants.{Emacs}
use Rattle.keyline.specs.Program.{config_without_colours}
use Rattle.worked_rows.specs.Playing.{Row, row}
use Rattle.worked_rows.specs.Settings.{Settings, by_options}

abbrev pub prompted : Bool → List ℕ → Settings
prompted extended prompt = by_options extended Emacs 80 prompt false None []

-- `drawn` is the prompt as it is sent before each of the two lines
abbrev pub shows : Settings → ℕ → List ℕ → Row
shows settings number drawn =
    let first : List ℕ = codes "\r\u{1b}[J\u{1b}[m" ++ drawn ++ codes "\u{1b}[m\u{1b}[m\u{1b}[m" in
    record (row number settings (codes "a\r") (codes "a\n")) {
      shows = Some (first ++ codes "a\r\n" ++ first ++ codes "\r\n");
    }

abbrev pub green : List ℕ
green = codes "\u{1b}[32m> \u{1b}[m"

-- green
abbrev pub row_1 : Row
row_1 = shows (prompted true green) 1 (codes "\u{1b}[0;32m> \u{1b}[m")

-- two styles, and the rest plain
abbrev pub row_2 : Row
row_2 = shows (prompted true (codes "\u{1b}[1msql\u{1b}[31m>\u{1b}[m ")) 2
    (codes "\u{1b}[0;1msql\u{1b}[m\u{1b}[0;1;31m>\u{1b}[m ")

-- numbers and a control sequence without a meaning; and an ESC of something else, which is seen
abbrev pub row_3 : Row
row_3 = shows (prompted true
    (codes "\u{1b}[5;1m>\u{1b}[2K\u{1b}[99m \u{1b}[m\u{1b}]0;t\u{7}")) 3
    (codes "\u{1b}[0;1m> \u{1b}[m\u{1b}[m?\u{1b}[m]0;t\u{1b}[m?\u{1b}[m")

-- a character of two columns
abbrev pub row_4 : Row
row_4 = shows (prompted true (encode_utf8_all (codes "\u{1b}[35m漢\u{1b}[m> "))) 4
    (encode_utf8_all (codes "\u{1b}[0;35m漢\u{1b}[m> "))

-- two rows
abbrev pub row_5 : Row
row_5 = shows (prompted true (codes "\u{1b}[34ma\nb\u{1b}[m> ")) 5
    (codes "\u{1b}[0;34ma\u{1b}[m\r\n\u{1b}[0;34mb\u{1b}[m> ")

-- NO_COLOR
abbrev pub row_6 : Row
row_6 = let settings : Settings = prompted true green in
    shows (record settings { config = config_without_colours settings.config }) 6 (codes "> ")

-- the default profile
abbrev pub row_7 : Row
row_7 = shows (prompted false green) 7
    (codes "\u{1b}[m?\u{1b}[m[32m> \u{1b}[m?\u{1b}[m[m")

abbrev pub prompts_rows : List Row
prompts_rows = row_1 ∷ (row_2 ∷ (row_3 ∷ (row_4 ∷ (row_5 ∷ (row_6 ∷ (row_7 ∷ []))))))
