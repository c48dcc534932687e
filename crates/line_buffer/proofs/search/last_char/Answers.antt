use Rattle.std.proofs.Common.{sym, ap, ◌∙◌, length}
use Rattle.line_buffer.proofs.HitLemmas.{last_char-counted, last_char-empty}
use Rattle.line_buffer.proofs.search.last_char.Goals as goal

pub returns-in-Some-clause-value : goal.returns-in-Some-clause-value
returns-in-Some-clause-value c = (last_char-counted c.args.text.now _ c.in-Some.last c.byte_len.result c.utf8.text c.byte_len.ensures.scalar (sym c.chars.ensures.rest ∙ c.in-Some.ensures.steps) c.byte_len.ensures.value).0

pub returns-in-Some-clause-boundary : goal.returns-in-Some-clause-boundary
returns-in-Some-clause-boundary c = (last_char-counted c.args.text.now _ c.in-Some.last c.byte_len.result c.utf8.text c.byte_len.ensures.scalar (sym c.chars.ensures.rest ∙ c.in-Some.ensures.steps) c.byte_len.ensures.value).1

pub returns-in-None-clause-value : goal.returns-in-None-clause-value
returns-in-None-clause-value c = sym (last_char-empty c.args.text.now (sym (ap length c.chars.ensures.rest) ∙ c.in-None.ensures.steps.0))
