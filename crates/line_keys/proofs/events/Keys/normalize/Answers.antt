use Rattle.std.proofs.Common.{arith}
use Rattle.line_keys.proofs.Normal.{one_more_normal}
use Rattle.line_keys.proofs.events.Keys.normalize.Goals as goal

pub loop-key-preserved : goal.loop-key-preserved
loop-key-preserved c = one_more_normal c.args.self c.loop-key.key-items c.loop-key.key-index _ _ (omega arith) c.loop-key.invariant c.normalize.ensures
