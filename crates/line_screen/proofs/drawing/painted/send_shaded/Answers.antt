-- A style, its letters, and its end.
use Rattle.std.proofs.Common.{map, ◌∙◌}
use Rattle.line_screen.proofs.StyleLemmas.{plain_none}
use Rattle.line_screen.specs.Styles.{numbers}
use Rattle.line_screen.specs.Drawing.DrawnItem.{Letter}
use Rattle.line_screen.proofs.PaintRuns.{sends_framed, sends_items, shaded_none}
use Rattle.line_screen.proofs.Sendings.{sent_to_then, sent_to_cut}
use Rattle.line_screen.proofs.drawing.painted.send_shaded.Goals as goal

pub returns-then-is_plain : goal.returns-then-is_plain
returns-then-is_plain g c =
    rw (← shaded_none (numbers c.args.style) c.args.letters.now (c.if-is_plain.ensures ∙ plain_none c.args.style))
    (sends_items (map Letter c.args.letters.now) c.args.col c.send_letters.ensures)

pub returns-in_err-send_style : goal.returns-in_err-send_style
returns-in_err-send_style g c =
    sends_framed (numbers c.args.style) c.args.letters.now c.args.col (c.if-is_plain.ensures ∙ plain_none c.args.style) c.if-is_empty.ensures
    (sent_to_cut _ _ c.in_err-send_style.ensures c.from_residual.ensures.1)

pub returns : goal.returns
returns g c =
    sends_framed (numbers c.args.style) c.args.letters.now c.args.col (c.if-is_plain.ensures ∙ plain_none c.args.style) c.if-is_empty.ensures
    (sent_to_then c.in_ok-send_style.ensures c.send_shades_end.ensures)
