use Rattle.line_record.proofs.RingLaws.{ring_holds_the_last_runs}
use Rattle.line_record.proofs.laws.last_runs.Goals as goal

pub returns : goal.returns
returns c = ring_holds_the_last_runs
