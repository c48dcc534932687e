use Rattle.keyline.proofs.ShowCourse.{commands_show}
use Rattle.keyline.proofs.laws.commands_show.Goals as goal

pub returns : goal.returns
returns c = commands_show
