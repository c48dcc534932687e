use Rattle.line_record.proofs.CourseLemmas.{undo_leaves_an_earlier_text}
use Rattle.line_record.proofs.laws.earlier_texts.Goals as goal

pub returns : goal.returns
returns c = undo_leaves_an_earlier_text
