use Rattle.keyline.proofs.UnmetLemmas.{off_meets_none}
use Rattle.keyline.proofs.laws.off_meets_none.Goals as goal

pub returns : goal.returns
returns c = off_meets_none
