use Rattle.std.proofs.Common.{length, drop, ◌-◌, ◌≤◌}
use Rattle.line_config.proofs.Taking.{Underway}
use Rattle.line_help.specs.HistoryText.{escaped_entry}
use Rattle.line_help.proofs.history.escapes.write_row.Given as goal

abbrev pub invariant-loop-sent : goal.invariant-loop-sent
invariant-loop-sent g l =
    Underway g.S.Sink.held g.S.Sink.has_failed (escaped_entry l.bytes) (escaped_entry (drop l.sent l.bytes)) l.fn.sink l.sink
    × (l.sent ≤ length l.bytes)

abbrev pub decreases-loop-sent : goal.decreases-loop-sent
decreases-loop-sent g l = length l.bytes - l.sent
