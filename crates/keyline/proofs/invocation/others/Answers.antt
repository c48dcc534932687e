use Rattle.std.proofs.Common.{ℕ, List, Bor, ap, map}
use Rattle.keyline.proofs.InvocationLemmas.{removed}
use Rattle.keyline.proofs.invocation.others.Goals as goal

pub returns : goal.returns
returns g c = removed g.S.AsStr.text c.args.words.now c.args.place _ _ _ (ap (map {A = Bor (List ℕ)} {B = List ℕ} (λ w. w.now)) c.new-others.ensures.items) c.in_ok-append.ensures c.in_ok-append-2.ensures
