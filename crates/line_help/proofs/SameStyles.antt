-- Styles that compare as equal are the same.
use Rattle.std.proofs.Common.{◌≡◌, ℕ, ◌==◌, ◌&&◌, true, true≢false, refl, sym, ap, subst, arith, rules}
use Rattle.std.specs.Bool.{Decides}
use Rattle.std.specs.Cmp.{booleans_Decides}
use Rattle.std.proofs.lemmas.Bool.{and_parts, eqb-true}
use Rattle.std.proofs.lemmas.Grind.{common_steps}
use Rattle.std.proofs.Math.Bool.{beq}
use denote.Enum.Bare.{same_true}
use Rattle.line_help.specs.contracts.helpers.style.Hue.{the_type}
use Rattle.line_help.specs.contracts.helpers.style.HuePartialEq.TheImpl as hue_eq
use Rattle.line_help.specs.contracts.helpers.style.ColourPartialEq.TheImpl as colour_eq
use Rattle.line_help.specs.contracts.helpers.style.StylePartialEq.TheImpl as style_eq
use Rattle.line_help.specs.contracts.helpers.style.StyleEq.TheImpl.Laws.{laws-law}
use Rattle.line_help.specs.declared.helpers.style.Colour.{Colour}
use Rattle.line_help.specs.declared.helpers.style.Colour.TheVariants.{Terminal, Basic, Bright, Palette, Rgb}
use Rattle.line_help.specs.declared.helpers.style.Hue.{Hue}
use Rattle.line_help.specs.declared.helpers.style.Style.{Style}

same_hue-equal : (a b : Hue) → (hue_eq.ghosts).eq a b ≡ true → a ≡ b
same_hue-equal a b h = same_true the_type (search rules) a b h

same_rgb : (r g b x y z : ℕ) → (r == x && (g == y && b == z)) ≡ true → Rgb r g b ≡ Rgb x y z
same_rgb r g b x y z h = grind (arith, common_steps)

same_colour-equal : (a b : Colour) → (colour_eq.ghosts).eq a b ≡ true → a ≡ b
same_colour-equal Terminal Terminal h = refl
same_colour-equal (Basic a) (Basic b) h = ap Basic (same_hue-equal a b h)
same_colour-equal (Bright a) (Bright b) h = ap Bright (same_hue-equal a b h)
same_colour-equal (Palette m) (Palette n) h = ap Palette (eqb-true m n h)
same_colour-equal (Rgb r g b) (Rgb x y z) h = same_rgb r g b x y z h
same_colour-equal a b h = absurd (true≢false (sym h))

pub same_style-equal : (a b : Style) → (style_eq.ghosts).eq a b ≡ true → a ≡ b
same_style-equal a b h =
    let text = and_parts ((colour_eq.ghosts).eq a.text b.text) _ h in
    let background = and_parts ((colour_eq.ghosts).eq a.background b.background) _ text.1 in
    let bold = and_parts (beq a.bold b.bold) _ background.1 in
    let faint = and_parts (beq a.faint b.faint) _ bold.1 in
    let italic = and_parts (beq a.italic b.italic) _ faint.1 in
    let underline = and_parts (beq a.underline b.underline) (beq a.reverse b.reverse) italic.1 in
    λ i. record {
      text = same_colour-equal a.text b.text text.0 i;
      background = same_colour-equal a.background b.background background.0 i;
      bold = (booleans_Decides a.bold b.bold).0 bold.0 i;
      faint = (booleans_Decides a.faint b.faint).0 faint.0 i;
      italic = (booleans_Decides a.italic b.italic).0 italic.0 i;
      underline = (booleans_Decides a.underline b.underline).0 underline.0 i;
      reverse = (booleans_Decides a.reverse b.reverse).0 underline.1 i;
    }

pub same_style-decides : (a b : Style) → Decides ((style_eq.ghosts).eq a b) (a ≡ b)
same_style-decides a b = (same_style-equal a b, λ e. subst (λ c. (style_eq.ghosts).eq a c ≡ true) e (laws-law.refl a))
