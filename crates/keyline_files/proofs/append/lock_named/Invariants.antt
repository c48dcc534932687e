use Rattle.keyline_files.specs.FileCalls.{Quietly}
use Rattle.keyline_files.proofs.append.lock_named.Given as goal

abbrev pub invariant-loop : goal.invariant-loop
invariant-loop g l = Quietly (g.D.FileDevice.calls l.fn.device) (g.D.FileDevice.calls l.device)
