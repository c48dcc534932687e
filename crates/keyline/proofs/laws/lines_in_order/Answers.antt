use Rattle.keyline.proofs.OrderLemmas.{lines_in_order}
use Rattle.keyline.proofs.laws.lines_in_order.Goals as goal

pub returns : goal.returns
returns c = lines_in_order
