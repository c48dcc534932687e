use Rattle.line_record.proofs.JoinedLaws.{refusals_leave_no_unmade_change}
use Rattle.line_record.proofs.laws.refusals.Goals as goal

pub returns : goal.returns
returns g c = refusals_leave_no_unmade_change g.A.DeleteListener.takes g.A.DeleteListener.refuses
