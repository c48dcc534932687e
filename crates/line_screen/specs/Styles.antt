-- The numbers of a style in the control sequence SGR (ECMA-48, 8.3.117).
use Rattle.std.specs.Prelude.{ℕ, ◌+◌, ◌%◌, ◌==◌, Bool, true, false, List, [], ◌∷◌, ◌++◌, decimal, if◌then◌else◌}
use Rattle.line_help.specs.declared.helpers.style.Hue.{Hue}
use Rattle.line_help.specs.declared.helpers.style.Hue.TheVariants as hues
use Rattle.line_help.specs.declared.helpers.style.Colour.{Colour}
use Rattle.line_help.specs.declared.helpers.style.Colour.TheVariants.{Terminal, Basic, Bright, Palette, Rgb}
use Rattle.line_help.specs.declared.helpers.style.Style.{Style}

abbrev pub hue_number : Hue → ℕ
hue_number hues.Black = 0
hue_number hues.Red = 1
hue_number hues.Green = 2
hue_number hues.Yellow = 3
hue_number hues.Blue = 4
hue_number hues.Magenta = 5
hue_number hues.Cyan = 6
hue_number hues.White = 7

-- a number of one byte after its semicolon
abbrev pub number : ℕ → List ℕ
number n = 0x3B ∷ decimal (n % 256)

abbrev pub flag : Bool → ℕ → List ℕ
flag b n = if b then number n else []

-- of a text from 30 on, of its background from 40 on
abbrev pub colour_numbers : ℕ → Colour → List ℕ
colour_numbers front Terminal = []
colour_numbers front (Basic hue) = number (front + hue_number hue)
colour_numbers front (Bright hue) = number (front + 60 + hue_number hue)
colour_numbers front (Palette n) = number (front + 8) ++ (number 5 ++ number n)
colour_numbers front (Rgb r g b) =
    number (front + 8) ++ (number 2 ++ (number r ++ (number g ++ number b)))

abbrev pub flags : Style → List ℕ
flags s = flag s.bold 1
    ++ (flag s.faint 2 ++ (flag s.italic 3 ++ (flag s.underline 4 ++ flag s.reverse 7)))

-- what follows the 0 of the sequence: nothing if the style is plain
abbrev pub numbers : Style → List ℕ
numbers s = flags s ++ (colour_numbers 30 s.text ++ colour_numbers 40 s.background)

abbrev pub is_terminal : Colour → Bool
is_terminal Terminal = true
is_terminal c = false

-- the number of a flag; nothing for 0
abbrev pub flag_number : ℕ → List ℕ
flag_number n = if n == 0 then [] else number n
