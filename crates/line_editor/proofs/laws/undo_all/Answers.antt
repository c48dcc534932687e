use Rattle.line_editor.proofs.UndoAllLemmas.{undo_all}
use Rattle.line_editor.proofs.laws.undo_all.Goals as goal

pub returns : goal.returns
returns c = undo_all
