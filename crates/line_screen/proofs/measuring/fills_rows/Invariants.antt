use Rattle.std.proofs.Common.{take}
use Rattle.line_buffer.specs.declared.layout.Position.{Position}
use Rattle.line_screen.specs.Measure.{measure_of}
use Rattle.line_screen.proofs.WideRuns.{Leads, Settled}
use Rattle.line_screen.proofs.measuring.fills_rows.Given as goal

abbrev pub invariant-loop : goal.invariant-loop
invariant-loop l = (from : Position)
    → Leads l.fn.grid.columns l.counter (measure_of l.fn.grid.mode l.fn.grid.tab l.fn.grid.columns (take l.place l.text) from).col
    → Settled l.fn.grid.columns (measure_of l.fn.grid.mode l.fn.grid.tab l.fn.grid.columns (take l.near l.text) from).col
