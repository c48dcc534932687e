use Rattle.line_edits.proofs.StopLaws.{refused_changes_leave_all}
use Rattle.line_edits.proofs.laws.refused_changes.Goals as goal

pub returns : goal.returns
returns c = refused_changes_leave_all
