use Rattle.line_editor.proofs.UndoLemmas.{undo_reaches}
use Rattle.line_editor.proofs.laws.undo_reaches.Goals as goal

pub returns : goal.returns
returns c = undo_reaches
