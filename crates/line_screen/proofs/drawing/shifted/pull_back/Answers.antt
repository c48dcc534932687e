-- Row by row.
use Rattle.std.proofs.Common.{refl, arith}
use Rattle.line_config.proofs.Taking.{underway_start}
use Rattle.line_screen.proofs.Sendings.{sends_rest, sends_part, sent_then, underway_then}
use Rattle.line_screen.proofs.ShiftedBytes.{pulled_row, pulled_last}
use Rattle.line_screen.proofs.drawing.shifted.pull_back.Goals as goal

pub loop-rest-init : goal.loop-rest-init
loop-rest-init g c = record { sending = underway_start _ _ _ _; room = c.requires.room }

pub returns-in_err-refill_row : goal.returns-in_err-refill_row
returns-in_err-refill_row g c =
    let row = pulled_row c.args.columns c.args.count c.loop-rest.start c.split_at.result.0.now c.split_at.result.1.now
    c.split_at.ensures.by_index.0 c.requires.some c.loop-rest.invariant.room (omega arith) in
    sends_part _ _ c.loop-rest.invariant.sending row c.in_err-refill_row.ensures c.from_residual.ensures.1

pub returns-in_err-send : goal.returns-in_err-send
returns-in_err-send g c =
    let row = pulled_row c.args.columns c.args.count c.loop-rest.start c.split_at.result.0.now c.split_at.result.1.now
    c.split_at.ensures.by_index.0 c.requires.some c.loop-rest.invariant.room (omega arith) in
    sends_part _ _ (underway_then c.loop-rest.invariant.sending row c.in_ok-refill_row.ensures) refl c.in_err-send.ensures c.from_residual-in_err-send.ensures.1

pub loop-rest-preserved : goal.loop-rest-preserved
loop-rest-preserved g c =
    let row = pulled_row c.args.columns c.args.count c.loop-rest.start c.split_at.result.0.now c.split_at.result.1.now
    c.split_at.ensures.by_index.0 c.requires.some c.loop-rest.invariant.room (omega arith) in
    let sending = underway_then (underway_then c.loop-rest.invariant.sending row c.in_ok-refill_row.ensures) refl c.in_ok-send.ensures in
    record { sending = sending; room = omega arith }

pub returns-in_err-refill_row-2 : goal.returns-in_err-refill_row-2
returns-in_err-refill_row-2 g c =
    let last = pulled_last c.args.columns c.args.count c.loop-rest.start c.loop-rest.rest.now c.requires.some c.loop-rest.invariant.room (omega arith) in
    sends_part _ _ c.loop-rest.invariant.sending last c.in_err-refill_row-2.ensures c.from_residual-in_err-refill_row-2.ensures.1

pub returns : goal.returns
returns g c =
    let last = pulled_last c.args.columns c.args.count c.loop-rest.start c.loop-rest.rest.now c.requires.some c.loop-rest.invariant.room (omega arith) in
    sends_rest c.loop-rest.invariant.sending last (sent_then c.in_ok-refill_row-2.ensures c.send_taken_out.ensures)
