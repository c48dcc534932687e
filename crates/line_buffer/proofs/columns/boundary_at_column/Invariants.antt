use Rattle.std.specs.Iterator.Adapters.{rev_source}
use Rattle.unicode_segmentation.specs.Iter.{grapheme_indices_left}
use Rattle.line_buffer.proofs.ColumnLemmas.{WalksRow, enough}
use Rattle.line_buffer.proofs.columns.boundary_at_column.Given as goal

abbrev pub invariant-loop-start : goal.invariant-loop-start
invariant-loop-start l = WalksRow l.mode 18446744073709551615 enough l.first l.column l.row (grapheme_indices_left (rev_source l.start-iterator)) l.width
