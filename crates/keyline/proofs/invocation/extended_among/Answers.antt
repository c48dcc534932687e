use Rattle.std.proofs.Common.{false, sym, true}
use Rattle.keyline.proofs.InvocationLemmas.{is_flag, nowhere}
use Rattle.keyline.proofs.invocation.extended_among.Goals as goal

pub returns-in_default-clause-value : goal.returns-in_default-clause-value
returns-in_default-clause-value g c = sym (nowhere g.S.AsStr.text c.args.words.now (sym c.in_default.ensures))

pub returns-then-eq-clause-value : goal.returns-then-eq-clause-value
returns-then-eq-clause-value g c =
    is_flag g.S.AsStr.text c.args.words.now c.in-Some.place c.index-words-place.result c.as_str.result.now true c.in-Some.ensures (sym c.index-words-place.is) c.as_str.ensures c.if-eq.ensures

pub returns-else-eq-clause-value : goal.returns-else-eq-clause-value
returns-else-eq-clause-value g c =
    is_flag g.S.AsStr.text c.args.words.now c.in-Some.place c.index-words-place.result c.as_str.result.now false c.in-Some.ensures (sym c.index-words-place.is) c.as_str.ensures c.if-eq.ensures
