use Rattle.line_record.proofs.RecordLaws.{empty_group_leaves_nothing}
use Rattle.line_record.proofs.laws.empty_group.Goals as goal

pub returns : goal.returns
returns c = empty_group_leaves_nothing
