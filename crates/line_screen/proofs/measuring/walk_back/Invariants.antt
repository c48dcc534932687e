use Rattle.std.proofs.Common.{◌≡◌, take}
use Rattle.line_buffer.specs.declared.layout.Position.{Position}
use Rattle.line_screen.specs.Measure.{measure_of}
use Rattle.line_screen.proofs.measuring.walk_back.Given as goal

abbrev pub invariant-loop : goal.invariant-loop
invariant-loop l = (from : Position)
    → l.fn.at ≡ measure_of l.grid.mode l.grid.tab l.grid.columns (take l.known l.text) from
    → l.cell ≡ measure_of l.grid.mode l.grid.tab l.grid.columns (take l.near l.text) from
