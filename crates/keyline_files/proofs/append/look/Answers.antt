use Rattle.keyline_files.proofs.CallLemmas.{quietly_more, quietly_none}
use Rattle.keyline_files.proofs.append.look.Goals as goal

pub returns-in_err-len-clause-quiet : goal.returns-in_err-len-clause-quiet
returns-in_err-len-clause-quiet g c = quietly_more c.call.ensures.noted tt (quietly_none _)

pub returns-then-len-eq0-clause-quiet : goal.returns-then-len-eq0-clause-quiet
returns-then-len-eq0-clause-quiet g c = quietly_more c.call.ensures.noted tt (quietly_none _)

pub returns-in_err-call-clause-quiet : goal.returns-in_err-call-clause-quiet
returns-in_err-call-clause-quiet g c =
    quietly_more c.call-2.ensures.noted tt (quietly_more c.call.ensures.noted tt (quietly_none _))

pub returns-in_err-last-clause-quiet : goal.returns-in_err-last-clause-quiet
returns-in_err-last-clause-quiet g c =
    quietly_more c.call-3.ensures.noted tt
    (quietly_more c.call-2.ensures.noted tt (quietly_more c.call.ensures.noted tt (quietly_none _)))

pub returns-clause-quiet : goal.returns-clause-quiet
returns-clause-quiet g c =
    quietly_more c.call-3.ensures.noted tt
    (quietly_more c.call-2.ensures.noted tt (quietly_more c.call.ensures.noted tt (quietly_none _)))

pub returns-then-branch-ne1-clause-quiet : goal.returns-then-branch-ne1-clause-quiet
returns-then-branch-ne1-clause-quiet g c =
    quietly_more c.call-2.ensures.noted tt (quietly_more c.call.ensures.noted tt (quietly_none _))
