use Rattle.std.proofs.Common.{sym, ap, ◌∙◌, length}
use Rattle.line_buffer.proofs.ColumnLemmas.{first_nothing, first_something}
use Rattle.line_buffer.proofs.columns.first_char.Goals as goal

pub returns-in-Some : goal.returns-in-Some
returns-in-Some c = first_something c.args.text.now _ c.in-Some.c c.utf8.text (sym c.chars.ensures.rest ∙ c.in-Some.ensures.steps.0)

pub returns-in-None : goal.returns-in-None
returns-in-None c = first_nothing c.args.text.now (sym (ap length c.chars.ensures.rest) ∙ c.in-None.ensures.steps.0.0)
