-- Letters span by span, and those after the last one.
use Rattle.std.proofs.Common.{map, refl, sym, ap, ◌∙◌}
use Rattle.line_screen.specs.Styles.{numbers}
use Rattle.line_screen.specs.Colours.{letters_in_style, painted_letters, spans_in, brush_paints}
use Rattle.line_screen.specs.Drawing.DrawnItem.{Letter}
use Rattle.line_screen.proofs.PaintRuns.{sends_items}
use Rattle.line_screen.proofs.Runs.{so_far_on, so_far_cut, so_far_done, so_far_then}
use Rattle.line_screen.proofs.PaintCode.{span_next, no_letters}
use Rattle.line_screen.proofs.drawing.painted.send_spans.Goals as goal

pub returns-in_err-col-in-Some : goal.returns-in_err-col-in-Some
returns-in_err-col-in-Some g c =
    let next = span_next letters_in_style painted_letters
    (λ s ss letters. refl) c.loop-rest.rest.now c.in-Some.ensures c.min-count.ensures c.split_at.ensures.front c.split_at.ensures.back in
    so_far_cut _ (letters_in_style (numbers c.in-Some.span.style) c.split_at.result.0.now) _
    c.loop-rest.invariant next c.in_err-col-in-Some.ensures c.from_residual.ensures.1

pub loop-rest-preserved : goal.loop-rest-preserved
loop-rest-preserved g c =
    let next = span_next letters_in_style painted_letters
    (λ s ss letters. refl) c.loop-rest.rest.now c.in-Some.ensures c.min-count.ensures c.split_at.ensures.front c.split_at.ensures.back in
    so_far_on (letters_in_style (numbers c.in-Some.span.style) c.split_at.result.0.now) c.loop-rest.invariant next c.in_ok-col-in-Some.ensures

pub returns-in-None : goal.returns-in-None
returns-in-None g c =
    let rest = c.loop-rest.rest.now in
    so_far_then c.loop-rest.invariant (ap (λ ss. painted_letters ss rest) c.in-None.ensures)
    (sends_items (map Letter rest) c.loop-rest.col c.send_letters.ensures)

pub returns : goal.returns
returns g c =
    so_far_done c.loop-rest.invariant
    (no_letters letters_in_style painted_letters (λ s ss letters. refl) (λ style. refl) refl
    (spans_in (brush_paints g.H.Highlighter.marks c.args.brush.now) c.loop-rest.left) c.loop-rest.rest.now (sym c.is_empty.ensures ∙ c.loop-rest-test.false))
