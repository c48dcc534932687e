use Rattle.keyline.proofs.SessionLawLemmas.{last_are_kept}
use Rattle.keyline.proofs.laws.kept.Goals as goal

pub returns : goal.returns
returns c = last_are_kept
