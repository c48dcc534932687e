use Rattle.line_record.proofs.RecordLaws.{redo_gives_the_text_back}
use Rattle.line_record.proofs.laws.undo_redo.Goals as goal

pub returns : goal.returns
returns c = redo_gives_the_text_back
