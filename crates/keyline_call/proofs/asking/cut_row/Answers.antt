use Rattle.keyline_call.proofs.AskLemmas.{cut_none, cut_some}
use Rattle.keyline_call.proofs.asking.cut_row.Goals as goal

pub returns-in-Some-clause-rows : goal.returns-in-Some-clause-rows
returns-in-Some-clause-rows c = cut_some c.args.text.now c.in-Some.at c.in-Some.ensures.place

pub returns-in-None-clause-rows : goal.returns-in-None-clause-rows
returns-in-None-clause-rows c = cut_none c.args.text.now c.requires c.in-None.ensures.place
