-- Row by row.
use Rattle.std.proofs.Common.{refl, arith}
use Rattle.line_config.proofs.Taking.{underway_start}
use Rattle.line_screen.proofs.Sendings.{sends_rest, sends_end, sends_part, underway_then}
use Rattle.line_screen.proofs.ShiftedBytes.{pushed_row, pushed_last, pushed_none}
use Rattle.line_screen.proofs.drawing.shifted.push_on.Goals as goal

pub loop-rest-init : goal.loop-rest-init
loop-rest-init g c = underway_start _ _ _ _

pub returns-in_err-put_in : goal.returns-in_err-put_in
returns-in_err-put_in g c =
    let row = pushed_row c.args.inserting c.args.columns c.split_at.result.0.now c.split_at.result.1.now c.split_at.ensures.by_index.0 c.requires.some
    (omega arith) in
    sends_part _ _ c.loop-rest.invariant row c.in_err-put_in.ensures c.from_residual.ensures.1

pub returns-in_err-send : goal.returns-in_err-send
returns-in_err-send g c =
    let row = pushed_row c.args.inserting c.args.columns c.split_at.result.0.now c.split_at.result.1.now c.split_at.ensures.by_index.0 c.requires.some
    (omega arith) in
    sends_part _ _ (underway_then c.loop-rest.invariant row c.in_ok-put_in.ensures) refl c.in_err-send.ensures c.from_residual-in_err-send.ensures.1

pub loop-rest-preserved : goal.loop-rest-preserved
loop-rest-preserved g c =
    let row = pushed_row c.args.inserting c.args.columns c.split_at.result.0.now c.split_at.result.1.now c.split_at.ensures.by_index.0 c.requires.some
    (omega arith) in
    underway_then (underway_then c.loop-rest.invariant row c.in_ok-put_in.ensures) refl c.in_ok-send.ensures

pub returns-in-Some : goal.returns-in-Some
returns-in-Some g c =
    sends_rest c.loop-rest.invariant (pushed_last c.args.inserting c.args.columns c.in-Some.letter.now c.loop-rest.rest.now
    (omega arith) c.in-Some.ensures.value) c.put_in-in-Some.ensures

pub returns-in-None : goal.returns-in-None
returns-in-None g c = sends_end c.loop-rest.invariant (pushed_none c.args.inserting c.args.columns c.loop-rest.rest.now c.in-None.ensures.value)
