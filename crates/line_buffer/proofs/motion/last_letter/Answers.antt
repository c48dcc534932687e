use Rattle.std.proofs.Common.{◌∙◌, sym}
use Rattle.line_buffer.proofs.LetterLemmas.{last_letter}
use Rattle.line_buffer.proofs.motion.last_letter.Goals as goal

pub returns-then-is_printable-2-clause-value : goal.returns-then-is_printable-2-clause-value
returns-then-is_printable-2-clause-value c =
    last_letter c.args.text.now _ _ c.in_ok-last.last c.in_ok-previous.previous c.utf8.text
    (sym c.chars-characters.ensures.rest ∙ c.in_ok-last.ensures.steps) c.in_ok-previous.ensures.steps
    (sym c.is_printable.ensures.value ∙ c.if-is_printable.true) (sym c.is_printable-then-is_printable.ensures.value ∙ c.if-is_printable-2.true)
