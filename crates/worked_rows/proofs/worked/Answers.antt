use Rattle.std.specs.Prelude.{refl}
use Rattle.worked_rows.specs.Worked.{worked_rows}
use Rattle.worked_rows.specs.Showing.{short}
use Rattle.worked_rows.proofs.Computing.{computing}
use Rattle.worked_rows.proofs.ShownLemmas.{all_shown}
use Rattle.worked_rows.proofs.worked.Goals as goal

pub returns-clause-given : goal.returns-clause-given
unfolding computing
returns-clause-given c = refl

pub returns-clause-shown : goal.returns-clause-shown
unfolding computing
returns-clause-shown c = all_shown (short worked_rows) refl
