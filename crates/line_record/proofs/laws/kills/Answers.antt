use Rattle.line_record.proofs.KillLaws.{kills_come_back}
use Rattle.line_record.proofs.laws.kills.Goals as goal

pub returns : goal.returns
returns c = kills_come_back
