-- Letters span by span, and those after the last one.
use Rattle.std.proofs.Common.{map, refl, sym, ap, ◌∙◌}
use Rattle.line_screen.specs.Colours.{letters_within, spans_within, brush_paints, span_of}
use Rattle.line_screen.proofs.PaintCode.{span_next, no_letters}
use Rattle.line_screen.proofs.Sendings.{sends_rest, sends_end, sends_part}
use Rattle.line_screen.proofs.drawing.painted.send_within.Goals as goal

pub returns-in_err-send_styled-in-Some : goal.returns-in_err-send_styled-in-Some
returns-in_err-send_styled-in-Some g c =
    let next = span_next letters_within spans_within (λ s ss letters. refl) c.loop-rest.rest.now
    (ap (map span_of) c.in-Some.ensures) c.min-len.ensures c.split_at.ensures.front c.split_at.ensures.back in
    sends_part _ _ c.loop-rest.invariant next c.in_err-send_styled-in-Some.ensures c.from_residual.ensures.1

pub returns-in-None : goal.returns-in-None
returns-in-None g c = sends_rest c.loop-rest.invariant (ap (λ ss. spans_within (map span_of ss) c.loop-rest.rest.now) c.in-None.ensures) c.send.ensures

pub returns : goal.returns
returns g c =
    let left = map span_of (brush_paints g.H.Highlighter.marks c.args.brush.now c.loop-rest.mark) in
    sends_end c.loop-rest.invariant (no_letters letters_within spans_within (λ s ss letters. refl) (λ style. refl) refl left c.loop-rest.rest.now
    (sym c.is_empty.ensures ∙ c.loop-rest-test.false))
