-- An appended row stands behind what the file had.
use Rattle.keyline_files.proofs.ReplayLemmas.{appends_text}
use Rattle.keyline_files.proofs.laws.rows_are_appended.Goals as goal

pub returns : goal.returns
returns c = λ path row old new start done. appends_text start done
