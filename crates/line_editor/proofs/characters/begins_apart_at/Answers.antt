use Rattle.line_editor.proofs.CharacterRanges.{no_parts_at}
use Rattle.line_editor.proofs.characters.begins_apart_at.Goals as goal

pub returns-else-is_char_boundary-clause-value : goal.returns-else-is_char_boundary-clause-value
returns-else-is_char_boundary-clause-value c = no_parts_at c.args.text.now c.args.at c.is_char_boundary.result c.is_char_boundary.ensures.test c.if-is_char_boundary.false
