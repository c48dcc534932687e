use Rattle.std.proofs.Common.{◌≡◌, false}
use Rattle.line_help.proofs.RowLemmas.{RowSoFar}
use Rattle.line_help.proofs.history.rows.RowReader.read.Given as goal

abbrev pub invariant-loop-byte : goal.invariant-loop-byte
invariant-loop-byte g l = record {
  so : RowSoFar (g.S.Source.feed l.fn.source) (g.S.Source.feed l.source) l.self.row.items;
  unmet : l.self.ended ≡ false;
}

abbrev pub decreases-loop-byte : goal.decreases-loop-byte
decreases-loop-byte g l = (g.S.Source.feed l.source).bound
