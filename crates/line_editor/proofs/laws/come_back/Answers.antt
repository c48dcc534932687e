use Rattle.line_editor.proofs.ReturnLemmas.{come_back}
use Rattle.line_editor.proofs.laws.come_back.Goals as goal

pub returns : goal.returns
returns c = come_back
