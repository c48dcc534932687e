use Rattle.std.proofs.Common.{sym, ap, ◌∙◌, if◌then◌else◌}
use Rattle.std.proofs.lemmas.Bool.{le-ltb}
use Rattle.line_screen.specs.Drawing.{text_items, next_row, place_after}
use Rattle.line_screen.specs.Measure.{widths_by, position_within_limit}
use Rattle.line_screen.proofs.Saturating.{after_saturated}
use Rattle.line_screen.proofs.measuring.measure_in.Goals as goal

pub returns-else-from-grid : goal.returns-else-from-grid
returns-else-from-grid c =
    let columns = c.args.grid.columns in
    let items = text_items (widths_by c.args.grid.mode c.args.grid.tab columns) c.args.text.now in
    c.after_text-else-from-grid.ensures.place
    ∙ ap (λ p. position_within_limit (place_after columns items p)) c.next_row.ensures
    ∙ after_saturated columns items (next_row c.args.from)
    ∙ ap (λ b. position_within_limit (place_after columns items (if b then c.args.from else next_row c.args.from))) (sym (le-ltb c.args.from.col columns c.if-from-grid.false))
