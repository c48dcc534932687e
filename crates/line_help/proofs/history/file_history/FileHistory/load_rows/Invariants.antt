use Rattle.std.proofs.Common.{◌≡◌, ◌≤◌, IsTrue, false}
use Rattle.line_help.specs.HistoryText.{EndIsMet}
use Rattle.line_help.proofs.LoadLemmas.{Underway}
use Rattle.line_help.proofs.history.file_history.FileHistory.load_rows.Given as goal

abbrev pub invariant-loop-ready : goal.invariant-loop-ready
invariant-loop-ready g l = record {
  told : IsTrue (g.S.Source.feed l.source).told → IsTrue (g.S.Source.feed l.fn.source).told;
  last : (g.S.Source.feed l.source).last ≡ (g.S.Source.feed l.fn.source).last;
  bound : (g.S.Source.feed l.source).bound ≤ (g.S.Source.feed l.fn.source).bound;
  ended : EndIsMet l.rows.ended (g.S.Source.feed l.source);
  works : (g.S.Source.feed l.source).failed ≡ false;
  under : IsTrue (g.S.Source.feed l.source).told
      → Underway l.escapes l.whole (g.S.Source.feed l.fn.source).last (g.S.Source.feed l.fn.source).coming (g.S.Source.feed l.source).coming l.fn.self l.self;
}

abbrev pub decreases-loop-ready : goal.decreases-loop-ready
decreases-loop-ready g l = (g.S.Source.feed l.source).bound
