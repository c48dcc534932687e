use Rattle.line_keys.proofs.Beginnings.{begins_both_ways}
use Rattle.line_keys.proofs.binding.EventMap.begins.Goals as goal

pub returns-clause-bound : goal.returns-clause-bound
returns-clause-bound g c = rw c.some_begins.ensures (begins_both_ways c.args.keys.now c.args.self.now)
