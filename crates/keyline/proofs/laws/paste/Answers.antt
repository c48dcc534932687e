use Rattle.keyline.proofs.PasteLemmas.{pastes_are_accepted, pasted_lines_are_accepted}
use Rattle.keyline.proofs.laws.paste.Goals as goal

pub returns : goal.returns
returns c = record { phrases = pastes_are_accepted; lines = pasted_lines_are_accepted }
