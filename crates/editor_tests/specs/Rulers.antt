-- The measures of a display for tests.
use Rattle.std.specs.Prelude.{ℕ, Bool, Option, option_map}
use Rattle.line_buffer.specs.declared.layout.GraphemeClusterMode.TheVariants.{Unicode}
use Rattle.line_editor.specs.RenderCalls.{Ruler}
use Rattle.line_screen.specs.Measure.{measure_of}

-- with so many columns, with colours or without, and with tabs as blanks if there are stops
abbrev pub ruler_with : ℕ → Bool → Option ℕ → Ruler
ruler_with columns colours tab = record {
  measure = measure_of Unicode tab columns;
  columns = columns;
  rows = 24;
  colours = colours;
  mode = Unicode;
  tabs = option_map (λ apart. record { columns = columns; apart = apart }) tab;
}
