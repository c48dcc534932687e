-- The numbers of a style are digits and semicolons, and there are none where it is plain.
use Rattle.std.proofs.Common.{◌≡◌, ℕ, ◌+◌, ◌/◌, ◌%◌, ◌^◌, ◌<◌, ◌≤◌, ◌==◌, ◌&&◌, not, Bool, true, false, List, [], ◌∷◌, ◌++◌, length, map, decimal, refl, sym, ap, ◌∙◌, arith, if◌then◌else◌}
use Rattle.std.proofs.lemmas.Bool.{and_from, eqb-true, ne_eqb}
use Rattle.std.proofs.lemmas.Bool.Decides.{nat_tests}
use Rattle.std.proofs.lemmas.Fmt.{decimal_by_steps, decimal_digit, decimal_step}
use Rattle.std.proofs.lemmas.List.Folds.{list_all-append}
use Rattle.line_help.specs.declared.helpers.style.Colour.{Colour}
use Rattle.line_help.specs.declared.helpers.style.Colour.TheVariants.{Terminal, Basic, Bright, Palette, Rgb}
use Rattle.line_help.specs.declared.helpers.style.Hue.{Hue}
use Rattle.line_help.specs.declared.helpers.style.Hue.TheVariants as hues
use Rattle.line_help.specs.declared.helpers.style.Span as span
use Rattle.line_help.specs.declared.helpers.style.Style.{Style}
use Rattle.line_editor.specs.Sights.{PartSpans}
use Rattle.line_screen.specs.ScreenCalls.{styles_of}
use Rattle.line_screen.specs.Display.{is_parameter}
use Rattle.line_screen.specs.Drawing.{no_style}
use Rattle.line_screen.specs.Colours.{AreStyles, is_style, are_styles, span_of, style_bytes}
use Rattle.line_screen.specs.Laws.{NumbersAreStyles}
use Rattle.line_screen.specs.Styles.{hue_number, number, flag, flags, colour_numbers, numbers, is_terminal, flag_number}

digit : (n : ℕ) → n < 10 → is_parameter (48 + n) ≡ true
digit n h = grind (arith, nat_tests)

both : (xs ys : List ℕ) → is_style xs ≡ true → is_style ys ≡ true → is_style (xs ++ ys) ≡ true
both xs ys h k = list_all-append is_parameter xs ys ∙ and_from _ _ h k

digits_are : (n : ℕ) → n < 2 ^ 64 → is_style (decimal n) ≡ true
digits_are n h = decimal_by_steps (λ m ds. is_style ds ≡ true) (λ m low. and_from _ _ (digit m low) refl)
    (λ m ds ten so_far. both ds ((48 + m % 10) ∷ []) so_far (and_from _ _ (digit (m % 10) (omega arith)) refl)) n h

number_is : (n : ℕ) → is_style (number n) ≡ true
number_is n = and_from _ _ refl (digits_are (n % 256) (omega arith))

colour_is : (front : ℕ) (c : Colour) → is_style (colour_numbers front c) ≡ true
colour_is front Terminal = refl
colour_is front (Basic hue) = number_is (front + hue_number hue)
colour_is front (Bright hue) = number_is (front + 60 + hue_number hue)
colour_is front (Palette n) = both (number (front + 8)) _ (number_is (front + 8)) (both (number 5) (number n) (number_is 5) (number_is n))
colour_is front (Rgb r g b) =
    both (number (front + 8)) _ (number_is (front + 8))
    (both (number 2) _ (number_is 2) (both (number r) _ (number_is r) (both (number g) (number b) (number_is g) (number_is b))))

flag_is : (b : Bool) (n : ℕ) → is_style (flag b n) ≡ true
flag_is true n = number_is n
flag_is false n = refl

pub numbers_are : NumbersAreStyles
numbers_are s =
    both (flags s) _
    (both (flag s.bold 1) _ (flag_is s.bold 1) (both (flag s.faint 2) _ (flag_is s.faint 2) (both (flag s.italic 3) _ (flag_is s.italic 3) (both (flag s.underline 4) _ (flag_is s.underline 4) (flag_is s.reverse 7)))))
    (both (colour_numbers 30 s.text) (colour_numbers 40 s.background) (colour_is 30 s.text) (colour_is 40 s.background))

spans_are : (spans : List span.Span) → are_styles (map span_of spans) ≡ true
spans_are [] = refl
spans_are (s ∷ spans) = and_from _ _ (numbers_are s.style) (spans_are spans)

-- a highlighter's styles are styles
pub styles_are : (x : PartSpans) → AreStyles (styles_of x)
styles_are x = record { prompt = spans_are x.prompt; line = spans_are x.line; info = spans_are x.info }

-- ---- plain

none_of : (xs ys : List ℕ) → (length (xs ++ ys) == 0) ≡ ((length xs == 0) && (length ys == 0))
none_of [] ys = refl
none_of (x ∷ xs) ys = grind (arith, nat_tests)

no_code : (c : ℕ) → (length (number c) == 0) ≡ false
no_code c = grind (arith, nat_tests)

no_codes : (c : ℕ) (more : List ℕ) → (length (number c ++ more) == 0) ≡ false
no_codes c more = grind (arith, nat_tests)

flag_none : (b : Bool) (n : ℕ) → (length (flag b n) == 0) ≡ not b
flag_none true n = no_code n
flag_none false n = refl

colour_none : (front : ℕ) (c : Colour) → (length (colour_numbers front c) == 0) ≡ is_terminal c
colour_none front Terminal = refl
colour_none front (Basic hue) = no_code (front + hue_number hue)
colour_none front (Bright hue) = no_code (front + 60 + hue_number hue)
colour_none front (Palette n) = no_codes (front + 8) (number 5 ++ number n)
colour_none front (Rgb r g b) = no_codes (front + 8) (number 2 ++ (number r ++ (number g ++ number b)))

then_none : (xs ys : List ℕ) (a b : Bool) → (length xs == 0) ≡ a → (length ys == 0) ≡ b → (length (xs ++ ys) == 0) ≡ (a && b)
then_none xs ys a b h k = none_of xs ys ∙ ap (λ x. x && (length ys == 0)) h ∙ ap (λ y. a && y) k

abbrev is_plain_style : Style → Bool
is_plain_style s =
    (not s.bold && (not s.faint && (not s.italic && (not s.underline && not s.reverse))))
    && (is_terminal s.text && is_terminal s.background)

pub plain_none : (s : Style) → is_plain_style s ≡ (length (numbers s) == 0)
plain_none s = sym (then_none (flags s) _ _ _
    (then_none (flag s.bold 1) _ _ _ (flag_none s.bold 1) (then_none (flag s.faint 2) _ _ _ (flag_none s.faint 2) (then_none (flag s.italic 3) _ _ _ (flag_none s.italic 3) (then_none (flag s.underline 4) _ _ _ (flag_none s.underline 4) (flag_none s.reverse 7)))))
    (then_none (colour_numbers 30 s.text) _ _ _ (colour_none 30 s.text) (colour_none 40 s.background)))

-- ---- a number's digits

no_carry : (n : ℕ) → n < 256 → n % 256 ≡ n
no_carry n h = omega arith

pub one_digit : (n : ℕ) → n < 10 → number n ≡ 0x3B ∷ ((48 + n) ∷ [])
one_digit n h = ap (λ m. 0x3B ∷ decimal m) (no_carry n (omega arith)) ∙ ap (λ ds. 0x3B ∷ ds) (decimal_digit n h)

tens : (n : ℕ) → 10 ≤ n → n < 100 → decimal n ≡ (48 + n / 10) ∷ ((48 + n % 10) ∷ [])
tens n ten low = decimal_step n ten (omega arith) ∙ ap (λ ds. ds ++ ((48 + n % 10) ∷ [])) (decimal_digit (n / 10) (omega arith))

pub two_digits : (n : ℕ) → 10 ≤ n → n < 100 → number n ≡ 0x3B ∷ ((48 + n / 10) ∷ ((48 + n % 10) ∷ []))
two_digits n ten low = ap (λ m. 0x3B ∷ decimal m) (no_carry n (omega arith)) ∙ ap (λ ds. 0x3B ∷ ds) (tens n ten low)

pub three_digits : (n : ℕ) → 100 ≤ n → n < 256 → number n ≡ 0x3B ∷ ((48 + n / 10 / 10) ∷ ((48 + n / 10 % 10) ∷ ((48 + n % 10) ∷ [])))
three_digits n hundred low = ap (λ m. 0x3B ∷ decimal m) (no_carry n low)
    ∙ ap (λ ds. 0x3B ∷ ds) (decimal_step n (omega arith) (omega arith) ∙ ap (λ ds. ds ++ ((48 + n % 10) ∷ [])) (tens (n / 10) (omega arith) (omega arith)))

pub hue_digits : (hue : Hue) → number (30 + hue_number hue) ≡ 0x3B ∷ (0x33 ∷ ((48 + hue_number hue) ∷ []))
hue_digits hues.Black = two_digits 30 (omega arith) (omega arith)
hue_digits hue = two_digits (30 + hue_number hue) (omega arith) (omega arith)

pub no_flag : (n : ℕ) → n ≡ 0 → flag_number n ≡ []
no_flag n h = ap flag_number h

pub flag_digit : (n : ℕ) → (n ≡ 0 → ⊥) → n < 10 → flag_number n ≡ 0x3B ∷ ((48 + n) ∷ [])
flag_digit n some low = ap (λ b. if b then [] else number n) (ne_eqb n 0 some) ∙ one_digit n low

-- ---- what is sent

pub none_sent : (style : List ℕ) → true ≡ (length style == 0) → style_bytes style ≡ no_style
none_sent [] h = refl
none_sent (p ∷ style) h = let none = eqb-true (length (p ∷ style)) 0 (sym h) in absurd (omega arith)
