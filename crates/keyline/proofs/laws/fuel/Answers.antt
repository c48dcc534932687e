use Rattle.keyline.proofs.BytesFuel.{few_in_bytes}
use Rattle.keyline.proofs.SessionFuel.{session_is}
use Rattle.keyline.proofs.laws.fuel.Goals as goal

pub returns-clause-sessions : goal.returns-clause-sessions
returns-clause-sessions c = session_is

pub returns-clause-bytes : goal.returns-clause-bytes
returns-clause-bytes c = few_in_bytes
