use Rattle.std.proofs.Common.{◌≡◌, ◌+◌, ◌-◌, length, drop, Some}
use Rattle.line_buffer.specs.Columns.{place_at_column}
use Rattle.line_buffer.proofs.TabColumns.{WalksTabs}
use Rattle.line_buffer.proofs.columns.boundary_among_tabs.Given as goal

abbrev pub invariant-loop-tab : goal.invariant-loop-tab
invariant-loop-tab l =
    WalksTabs l.row l.start l.col
    × (place_at_column l.mode (Some l.stops) l.first l.column l.row ≡ l.start + place_at_column l.mode (Some l.stops) l.col l.column (drop l.start l.row))

abbrev pub decreases-loop-tab : goal.decreases-loop-tab
decreases-loop-tab l = length l.row - l.start
