use Rattle.std.proofs.Common.{◌≡◌, take, drop}
use Rattle.line_record.specs.Change.{AllFitIn}
use Rattle.line_record.specs.Items.{lines_ahead}
use Rattle.line_record.specs.Log.{edits_in}
use Rattle.line_record.proofs.entry.make_anew.Given as goal

abbrev pub invariant-loop-change : goal.invariant-loop-change
invariant-loop-change g l = record {
  line : g.L.EditedLine.value l.line ≡ lines_ahead (take l.change-index (edits_in l.log l.entries)) (g.L.EditedLine.value l.fn.line);
  fit : AllFitIn (drop l.change-index (edits_in l.log l.entries)) (g.L.EditedLine.value l.line).text;
}
