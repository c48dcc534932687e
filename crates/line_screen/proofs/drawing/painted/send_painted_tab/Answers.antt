use Rattle.std.proofs.Common.{◌∙◌}
use Rattle.line_screen.specs.Styles.{numbers}
use Rattle.line_screen.specs.Drawing.DrawnItem.{Tab}
use Rattle.line_screen.specs.Colours.PaintedItem.{Bare, Padded}
use Rattle.line_screen.proofs.StyleLemmas.{plain_none}
use Rattle.line_screen.proofs.PaintRuns.{sends_one, bare_item, padded_item}
use Rattle.line_screen.proofs.drawing.painted.send_painted_tab.Goals as goal

pub returns-then-is_plain : goal.returns-then-is_plain
returns-then-is_plain g c =
    rw (← bare_item (numbers c.args.style) (Tab c.args.apart) (c.if-is_plain.ensures ∙ plain_none c.args.style))
    (sends_one (Bare (Tab c.args.apart)) c.args.col c.send_tab.ensures)

pub returns-else-is_plain : goal.returns-else-is_plain
returns-else-is_plain g c =
    let style = numbers c.args.style in
    rw (← padded_item style c.args.apart (c.if-is_plain.ensures ∙ plain_none c.args.style))
    (sends_one (Padded style c.args.apart) c.args.col c.send_padded.ensures)
