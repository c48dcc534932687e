-- The numbers of a style between the front and the end of their sequence.
use Rattle.std.proofs.Common.{◌∙◌}
use Rattle.line_screen.specs.Styles.{numbers}
use Rattle.line_screen.proofs.PaintRuns.{some_style}
use Rattle.line_screen.proofs.Sendings.{sends_as, sent_then, sent_cut}
use Rattle.line_screen.proofs.StyleLemmas.{plain_none, none_sent}
use Rattle.line_screen.proofs.drawing.styles.send_sequence.Goals as goal

pub returns-then-is_plain : goal.returns-then-is_plain
returns-then-is_plain g c = rw (none_sent (numbers c.args.style) (c.if-is_plain.ensures ∙ plain_none c.args.style)) c.send.ensures

pub returns-in_err-send : goal.returns-in_err-send
returns-in_err-send g c =
    sends_as (some_style (numbers c.args.style) (c.if-is_plain.ensures ∙ plain_none c.args.style))
    (sent_cut _ _ c.in_err-send.ensures c.from_residual.ensures.1)

pub returns-in_err-send_numbers : goal.returns-in_err-send_numbers
returns-in_err-send_numbers g c =
    sends_as (some_style (numbers c.args.style) (c.if-is_plain.ensures ∙ plain_none c.args.style))
    (sent_then c.in_ok-send.ensures (sent_cut _ _ c.in_err-send_numbers.ensures c.from_residual-in_err-send_numbers.ensures.1))

pub returns : goal.returns
returns g c =
    sends_as (some_style (numbers c.args.style) (c.if-is_plain.ensures ∙ plain_none c.args.style))
    (sent_then c.in_ok-send.ensures (sent_then c.in_ok-send_numbers.ensures c.send-3.ensures))
