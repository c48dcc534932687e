use Rattle.std.proofs.Common.{◌≡◌, [], refl}
use Rattle.worked_rows.specs.Playing.{differing}
use Rattle.worked_rows.specs.Prompts.{prompts_rows}
use Rattle.worked_rows.specs.Showing.{short, unshown}
use Rattle.worked_rows.proofs.Computing.{computing}
use Rattle.worked_rows.proofs.ShownLemmas.{all_shown}
use Rattle.worked_rows.proofs.prompts.Goals as goal

given : differing prompts_rows ≡ []
unfolding computing
given = refl

unshown-0 : unshown (short prompts_rows) ≡ []
unfolding computing
unshown-0 = refl

pub returns-clause-given : goal.returns-clause-given
returns-clause-given c = given

pub returns-clause-shown : goal.returns-clause-shown
returns-clause-shown c = all_shown (short prompts_rows) unshown-0
