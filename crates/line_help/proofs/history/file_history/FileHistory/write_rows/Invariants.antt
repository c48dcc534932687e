use Rattle.std.proofs.Common.{drop}
use Rattle.line_config.proofs.Taking.{Underway}
use Rattle.line_help.specs.HistoryText.{rows_text}
use Rattle.line_help.proofs.history.file_history.FileHistory.write_rows.Given as goal

abbrev pub invariant-loop-index : goal.invariant-loop-index
invariant-loop-index g l =
    Underway g.S.Sink.held g.S.Sink.has_failed (rows_text (drop l.first l.self.kept.entries)) (rows_text (drop l.index l.self.kept.entries)) l.fn.sink l.sink
