use Rattle.line_screen.proofs.FollowingLemmas.{whole_keys_stay}
use Rattle.line_screen.proofs.laws.whole_keys_stay.Goals as goal

pub returns : goal.returns
returns c = whole_keys_stay
