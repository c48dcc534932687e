use Rattle.line_screen.proofs.Uncoloured.{uncoloured}
use Rattle.line_screen.proofs.laws.uncoloured.Goals as goal

pub returns : goal.returns
returns c = uncoloured
