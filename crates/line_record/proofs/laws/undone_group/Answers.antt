use Rattle.line_record.proofs.GroupLaws.{undo_takes_the_group_back}
use Rattle.line_record.proofs.laws.undone_group.Goals as goal

pub returns : goal.returns
returns c = undo_takes_the_group_back
