use Rattle.std.proofs.Common.{◌≡◌, ◌++◌, ◌∙◌, true, take, ap, sym, arith}
use Rattle.std.specs.List.{slice_range}
use Rattle.line_buffer.proofs.PartLemmas.{slice_range-front}
use Rattle.line_editor.specs.Characters.{begins_apart}
use Rattle.line_screen.specs.Measure.{measure_of}
use Rattle.line_screen.proofs.CellsBefore.{more_behind}
use Rattle.line_screen.proofs.KnownLemmas.{take_parts}
use Rattle.line_screen.proofs.measuring.measure_behind.Goals as goal

pub returns-then-begins_apart : goal.returns-then-begins_apart
returns-then-begins_apart c = λ from known.
    let grid = c.args.grid in
    let measured = measure_of grid.mode grid.tab grid.columns in
    let text = c.args.text.now in
    let front = take c.args.known text in
    let more = slice_range text c.args.known c.args.place in
    let starts : begins_apart front more ≡ true = ap (λ t. begins_apart t more) (sym (c.range.ensures.value ∙ slice_range-front text c.args.known)) ∙ ap (begins_apart c.range.result.now) (sym c.range-between.ensures.value) ∙ sym c.begins_apart.ensures ∙ c.if-begins_apart.true in
    c.measure_in.ensures
    ∙ ap (λ t. measured t c.args.at) c.range-between.ensures.value
    ∙ ap (measured more) known
    ∙ more_behind grid.mode grid.tab grid.columns (omega (arith, grid.room)) front more from starts
    ∙ ap (λ t. measured t from) (take_parts c.args.known c.args.place text c.requires.order)
