use Rattle.std.proofs.Common.{map, sym, ap, ◌∙◌}
use Rattle.std.proofs.lemmas.List.{map-append}
use Rattle.line_screen.specs.Styles.{numbers}
use Rattle.line_screen.specs.Colours.PaintedItem.{Shaded}
use Rattle.line_screen.proofs.Runs.{so_far_start, so_far_on, so_far_cut, so_far_done, none_mapped}
use Rattle.line_screen.proofs.drawing.painted.send_shades.Goals as goal

pub loop-rest-init : goal.loop-rest-init
loop-rest-init g c = so_far_start c.requires.inside

pub loop-rest-preserved : goal.loop-rest-preserved
loop-rest-preserved g c =
    let front = c.split_at.result.0.now in
    let shade = Shaded (numbers c.args.style) in
    so_far_on (map shade front) c.loop-rest.invariant
    (ap (map shade) c.split_at.ensures.by_index.0 ∙ map-append shade front c.split_at.result.1.now) c.in_ok-col.ensures

pub returns-in_err-col : goal.returns-in_err-col
returns-in_err-col g c =
    let front = c.split_at.result.0.now in
    let shade = Shaded (numbers c.args.style) in
    so_far_cut _ (map shade front) _ c.loop-rest.invariant
    (ap (map shade) c.split_at.ensures.by_index.0 ∙ map-append shade front c.split_at.result.1.now) c.in_err-col.ensures c.from_residual.ensures.1

pub returns : goal.returns
returns g c = so_far_done c.loop-rest.invariant
    (none_mapped (Shaded (numbers c.args.style)) c.loop-rest.rest.now (sym c.is_empty.ensures ∙ c.loop-rest-test.false))
