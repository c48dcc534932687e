use Rattle.keyline.proofs.CuttingLemmas.{cuts_are_free}
use Rattle.keyline.proofs.laws.cutting.Goals as goal

pub returns : goal.returns
returns c = cuts_are_free
