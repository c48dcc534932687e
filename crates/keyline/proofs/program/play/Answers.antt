use Rattle.keyline.proofs.program.play.Goals as goal

pub returns-clause-plays : goal.returns-clause-plays
returns-clause-plays g c = rw c.config_of.ensures at c.play_with.ensures.plays
