use Rattle.keyline.proofs.ShowCourse.{turns_show}
use Rattle.keyline.proofs.laws.turns_show.Goals as goal

pub returns : goal.returns
returns c = turns_show
