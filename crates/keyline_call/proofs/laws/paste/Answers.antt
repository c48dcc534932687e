use Rattle.keyline.proofs.PasteLemmas.{pastes_go_in}
use Rattle.keyline_call.proofs.laws.paste.Goals as goal

pub returns : goal.returns
returns c = pastes_go_in
