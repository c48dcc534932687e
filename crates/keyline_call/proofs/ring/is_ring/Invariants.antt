use Rattle.keyline_call.proofs.SlotLemmas.{Begins}
use Rattle.keyline_call.proofs.ring.is_ring.Given as goal

abbrev pub invariant-loop-end : goal.invariant-loop-end
invariant-loop-end l = Begins l.texts l.ends l.start l.end-index
