use Rattle.keyline.proofs.OneByteLemmas.{layouts_tell, one_byte}
use Rattle.keyline.proofs.laws.one_byte.Goals as goal

pub returns : goal.returns
returns c = record { tells = layouts_tell; sends = one_byte }
