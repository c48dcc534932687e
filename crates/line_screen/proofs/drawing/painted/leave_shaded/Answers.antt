use Rattle.std.proofs.lemmas.Bool.{eq-eqb}
use Rattle.line_screen.proofs.Sendings.{sent_to_then, sent_to_cut, sent_to_failed}
use Rattle.line_screen.proofs.drawing.painted.leave_shaded.Goals as goal

pub returns-in_err-send : goal.returns-in_err-send
returns-in_err-send g c = rw (eq-eqb c.args.col c.args.grid.columns c.if-col-grid.true) (sent_to_cut _ _ c.in_err-send.ensures c.from_residual.ensures.1)

pub returns-in_err-send_style : goal.returns-in_err-send_style
returns-in_err-send_style g c =
    rw (eq-eqb c.args.col c.args.grid.columns c.if-col-grid.true)
    (sent_to_then c.in_ok-send.ensures (sent_to_failed _ c.in_err-send_style.ensures c.from_residual-in_err-send_style.ensures.1))
