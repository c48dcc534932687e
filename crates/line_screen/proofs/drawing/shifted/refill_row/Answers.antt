-- The cells, the way, and then the letters.
use Rattle.std.proofs.Common.{◌≡◌, ◌-◌, drop, arith, sym, ap, ◌∙◌}
use Rattle.std.proofs.lemmas.List.{take_rest}
use Rattle.line_screen.proofs.Sendings.{sends_as, sent_then, sent_cut}
use Rattle.line_screen.proofs.ShiftedBytes.{refilled_some}
use Rattle.line_screen.proofs.drawing.shifted.refill_row.Goals as goal

pub returns-in_err-send_taken_out : goal.returns-in_err-send_taken_out
returns-in_err-send_taken_out g c =
    sends_as (sym (refilled_some c.args.columns c.args.count c.args.start c.args.row.now (omega arith)))
    (sent_cut _ _ c.in_err-send_taken_out.ensures c.from_residual.ensures.1)

pub returns-in_err-send_col_move : goal.returns-in_err-send_col_move
returns-in_err-send_col_move g c =
    sends_as (sym (refilled_some c.args.columns c.args.count c.args.start c.args.row.now (omega arith)))
    (sent_then c.in_ok-send_taken_out.ensures (sent_cut _ _ c.in_err-send_col_move.ensures c.from_residual-in_err-send_col_move.ensures.1))

pub returns : goal.returns
returns g c =
    let kept : c.from-kept.result ≡ c.args.columns - c.args.start - c.args.count = omega arith in
    let is = take_rest c.args.row.now c.from-kept.result ∙ ap (λ n. drop n c.args.row.now) kept in
    sends_as (sym (refilled_some c.args.columns c.args.count c.args.start c.args.row.now (omega arith)))
    (sent_then c.in_ok-send_taken_out.ensures (sent_then c.in_ok-send_col_move.ensures (sends_as is c.send.ensures)))
