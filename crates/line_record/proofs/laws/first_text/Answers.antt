use Rattle.line_record.proofs.RootLaws.{undo_of_all_gives_the_first_text}
use Rattle.line_record.proofs.laws.first_text.Goals as goal

pub returns : goal.returns
returns c = undo_of_all_gives_the_first_text
