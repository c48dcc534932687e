use Rattle.std.proofs.Common.{◌∙◌, sym}
use Rattle.line_buffer.proofs.LetterLemmas.{first_letter}
use Rattle.line_buffer.proofs.motion.begins_with_letters.Goals as goal

pub returns-then-is_printable-clause-value : goal.returns-then-is_printable-clause-value
returns-then-is_printable-clause-value c = λ h.
    first_letter c.args.text.now _ _ c.in-Some.first c.in-Some-next.second c.utf8.text
    (sym c.chars-characters.ensures.rest ∙ c.in-Some.ensures.steps.0) c.in-Some-next.ensures.steps.0
    (sym c.if-is_printable.ensures.value) (sym c.is_printable-then-is_printable.ensures.value ∙ h)
