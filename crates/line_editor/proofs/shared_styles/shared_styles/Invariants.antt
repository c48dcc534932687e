use Rattle.std.proofs.Common.{◌+◌, length}
use Rattle.line_editor.proofs.SharedLemmas.{Walked}
use Rattle.line_editor.proofs.shared_styles.shared_styles.Given as goal

abbrev pub invariant-loop-a : goal.invariant-loop-a
invariant-loop-a l = Walked l.fn.upto l.fn.old l.fn.new l.left l.old l.old_used l.new l.new_used

abbrev pub decreases-loop-a : goal.decreases-loop-a
decreases-loop-a l = length l.old + length l.new
