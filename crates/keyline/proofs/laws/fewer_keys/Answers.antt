use Rattle.keyline.proofs.HeardLines.{lines_begin, sessions_begin}
use Rattle.keyline.proofs.laws.fewer_keys.Goals as goal

pub returns : goal.returns
returns c = record { lines = lines_begin; sessions = sessions_begin }
