use Rattle.std.proofs.Common.{◌≡◌, ◌-◌, length, drop, Some}
use Rattle.line_buffer.specs.Width.{column_after}
use Rattle.line_buffer.proofs.TabColumns.{WalksTabs}
use Rattle.line_buffer.proofs.tabs.column_after.Given as goal

abbrev pub invariant-loop-tab : goal.invariant-loop-tab
invariant-loop-tab l = WalksTabs l.text l.start l.col × (column_after l.mode (Some l.stops) l.first l.text ≡ column_after l.mode (Some l.stops) l.col (drop l.start l.text))

abbrev pub decreases-loop-tab : goal.decreases-loop-tab
decreases-loop-tab l = length l.text - l.start
