-- Short names for what follows a run of text, whether it can be put or not.
use Rattle.std.specs.Prelude.{ℕ, Option, []}
use Rattle.std.specs.Option.{option_and_then, option_map_or}
use Rattle.line_screen.specs.Display.{Display, DisplayReading, Inserts, Lost, after_control}

abbrev pub then_put : Option Display → (Display → Option Display) → Option Display
then_put o f = option_and_then f o

abbrev pub on_run : ℕ → ℕ → Option Display → DisplayReading
on_run columns byte o = option_map_or (λ d. after_control columns d byte) o Lost

abbrev pub in_insert_mode : Option Display → DisplayReading
in_insert_mode o = option_map_or (λ d. Inserts d []) o Lost
