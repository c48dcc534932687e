use Rattle.line_record.proofs.UndoLemmas.{Undoing}
use Rattle.line_record.proofs.changeset.Changeset.undo_items.Given as goal

abbrev pub invariant-loop : goal.invariant-loop
invariant-loop g l = Undoing l.fn.n l.counter l.fn.self l.self (g.L.EditedLine.value l.fn.line) (g.L.EditedLine.value l.line) l.undone
