use Rattle.line_edits.proofs.StopLaws.{refused_groups_stay_open}
use Rattle.line_edits.proofs.laws.refused_groups.Goals as goal

pub returns : goal.returns
returns c = refused_groups_stay_open
