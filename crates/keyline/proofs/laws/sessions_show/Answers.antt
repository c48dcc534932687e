use Rattle.keyline.proofs.ShowCourse.{blank_is_at_rest, sessions_show}
use Rattle.keyline.proofs.laws.sessions_show.Goals as goal

pub returns : goal.returns
returns c = record { blank = blank_is_at_rest; sessions = sessions_show }
