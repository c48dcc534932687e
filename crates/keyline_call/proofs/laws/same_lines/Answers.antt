use Rattle.keyline_call.proofs.AlikeLemmas.{same_lines_look_alike}
use Rattle.keyline_call.proofs.LastLemmas.{same_lines_go_on_alike}
use Rattle.keyline_call.proofs.laws.same_lines.Goals as goal

pub returns : goal.returns
returns c = record { shown = same_lines_look_alike _; next = same_lines_go_on_alike _ }
