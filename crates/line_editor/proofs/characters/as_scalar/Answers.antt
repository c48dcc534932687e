use Rattle.line_editor.proofs.characters.as_scalar.Goals as goal

pub returns-clause-scalar : goal.returns-clause-scalar
returns-clause-scalar c = c.ranges.c.0
