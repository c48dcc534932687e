use Rattle.keyline.proofs.SessionLawLemmas.{columns_are_free}
use Rattle.keyline.proofs.laws.columns.Goals as goal

pub returns : goal.returns
returns c = columns_are_free
