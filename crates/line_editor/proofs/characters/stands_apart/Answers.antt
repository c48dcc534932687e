use Rattle.std.proofs.Common.{sym, refl, ◌∙◌}
use Rattle.line_editor.proofs.CharacterRanges.{after_last}
use Rattle.line_editor.proofs.characters.stands_apart.Goals as goal

pub returns-then-is_apart : goal.returns-then-is_apart
returns-then-is_apart c = c.ends_apart.ensures ∙ after_last c.args.text.now c.args.c _ c.utf8.text (sym c.is_apart.ensures ∙ c.if-is_apart.true) refl
