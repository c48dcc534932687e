use Rattle.std.proofs.Common.{◌≡◌, ◌≤◌}
use Rattle.line_buffer.proofs.insertion.last_cut.Given as goal
use Rattle.std.specs.Fmt.Cut.{floor_char_boundary}

abbrev pub invariant-loop-end : goal.invariant-loop-end
invariant-loop-end l = record { same : floor_char_boundary l.text l.end ≡ floor_char_boundary l.text l.fn.room; bound : l.end ≤ l.fn.room }

abbrev pub decreases-loop-end : goal.decreases-loop-end
decreases-loop-end l = l.end
