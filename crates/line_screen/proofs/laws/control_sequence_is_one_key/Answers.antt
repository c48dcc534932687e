use Rattle.line_screen.proofs.ControlLemmas.{control_is_one_key}
use Rattle.line_screen.proofs.laws.control_sequence_is_one_key.Goals as goal

pub returns : goal.returns
returns c = control_is_one_key
