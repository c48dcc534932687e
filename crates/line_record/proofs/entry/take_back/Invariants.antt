use Rattle.std.proofs.Common.{◌≡◌, take, drop, length, All}
use Rattle.line_record.specs.Items.{lines_back}
use Rattle.line_record.specs.Log.{edits_in, Spelt}
use Rattle.line_record.proofs.entry.take_back.Given as goal

abbrev pub invariant-loop-newest : goal.invariant-loop-newest
invariant-loop-newest g l = record {
  left : l.left ≡ take (length l.left) l.entries;
  spelt : All (Spelt l.log) l.left;
  line : g.L.EditedLine.value l.line ≡ lines_back (drop (length l.left) (edits_in l.log l.entries)) (g.L.EditedLine.value l.fn.line);
}

abbrev pub decreases-loop-newest : goal.decreases-loop-newest
decreases-loop-newest g l = length l.left
