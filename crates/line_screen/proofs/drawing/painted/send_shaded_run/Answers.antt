-- A run of shaded letters, and the end of a full row.
use Rattle.line_screen.specs.Styles.{numbers}
use Rattle.line_screen.proofs.PaintRuns.{shaded_run, shaded_end}
use Rattle.line_screen.proofs.Sendings.{sent_to_then, sent_to_cut}
use Rattle.line_screen.proofs.drawing.painted.send_shaded_run.Goals as goal

pub returns-in_err-send : goal.returns-in_err-send
returns-in_err-send g c =
    rw (shaded_run c.args.grid.columns (numbers c.args.style) c.args.letters.now c.args.col c.requires.inside c.requires.room)
    (sent_to_cut _ _ c.in_err-send.ensures c.from_residual.ensures.1)

pub returns : goal.returns
returns g c =
    let columns = c.args.grid.columns in
    let style = numbers c.args.style in
    let letters = c.args.letters.now in
    let run = shaded_run columns style letters c.args.col c.requires.inside c.requires.room in
    rw (shaded_end columns style letters c.args.col c.requires.inside c.requires.room, run)
    (sent_to_then c.in_ok-send.ensures c.leave_shaded.ensures)
