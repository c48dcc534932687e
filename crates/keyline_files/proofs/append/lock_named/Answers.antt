use Rattle.keyline_files.proofs.CallLemmas.{quietly_more}
use Rattle.keyline_files.proofs.append.lock_named.Goals as goal

pub returns-in_err-call-clause-quiet : goal.returns-in_err-call-clause-quiet
returns-in_err-call-clause-quiet g c = quietly_more c.call.ensures.noted tt c.loop.invariant

pub returns-in_err-call-2-clause-quiet : goal.returns-in_err-call-2-clause-quiet
returns-in_err-call-2-clause-quiet g c =
    quietly_more c.call-in-loop.ensures.noted tt (quietly_more c.call.ensures.noted tt c.loop.invariant)

pub returns-in_err-call-3-clause-quiet : goal.returns-in_err-call-3-clause-quiet
returns-in_err-call-3-clause-quiet g c =
    quietly_more c.call-in-loop-2.ensures.noted tt
    (quietly_more c.call-in-loop.ensures.noted tt (quietly_more c.call.ensures.noted tt c.loop.invariant))

pub loop-preserved : goal.loop-preserved
loop-preserved g c =
    quietly_more c.call-in-loop-2.ensures.noted tt
    (quietly_more c.call-in-loop.ensures.noted tt (quietly_more c.call.ensures.noted tt c.loop.invariant))

pub returns-then-branch-eq1-clause-quiet : goal.returns-then-branch-eq1-clause-quiet
returns-then-branch-eq1-clause-quiet g c =
    quietly_more c.call-in-loop-2.ensures.noted tt
    (quietly_more c.call-in-loop.ensures.noted tt (quietly_more c.call.ensures.noted tt c.loop.invariant))
