use Rattle.std.proofs.Common.{Some, length, sym, ap, ◌∙◌}
use Rattle.line_editor.proofs.CharacterRanges.{last_char, no_char}
use Rattle.line_editor.proofs.characters.last_char.Goals as goal

pub returns-in-None : goal.returns-in-None
returns-in-None c = sym (no_char c.args.text.now (sym (ap length c.chars.ensures.rest) ∙ c.in-None.ensures.steps.0))

pub returns-in-Some : goal.returns-in-Some
returns-in-Some c =
    ap Some c.as_scalar.ensures.value
    ∙ sym (last_char c.args.text.now _ c.in-Some.last c.utf8.text c.as_scalar.ensures.scalar (sym c.chars.ensures.rest ∙ c.in-Some.ensures.steps))
