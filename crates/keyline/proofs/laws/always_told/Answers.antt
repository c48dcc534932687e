-- What is known beforehand holds afterwards too.
use Rattle.keyline.proofs.laws.always_told.Goals as goal

pub returns : goal.returns
returns g c = record { told = c.requires _; plays = c.run.ensures }
