-- Insert mode is begun, and ended behind the letters; or not.
use Rattle.std.proofs.Common.{arith, sym}
use Rattle.std.specs.Prelude.{encode_utf8}
use Rattle.line_screen.proofs.Sendings.{sends_as, sent_then, sent_cut}
use Rattle.line_screen.proofs.ShiftedBytes.{not_inserting, inserting_them}
use Rattle.line_screen.proofs.drawing.shifted.send_before.Goals as goal

pub returns-then-rest-two_rows : goal.returns-then-rest-two_rows
returns-then-rest-two_rows g c = sends_as
    (sym (not_inserting c.args.columns c.args.col (encode_utf8 c.args.ch) c.args.rest.now (omega arith))) c.put_and_push.ensures

pub returns-in_err-send : goal.returns-in_err-send
returns-in_err-send g c =
    sends_as (sym (inserting_them c.args.columns c.args.col (encode_utf8 c.args.ch) c.args.rest.now (omega arith)))
    (sent_cut _ _ c.in_err-send.ensures c.from_residual.ensures.1)

pub returns-in_err-put_and_push : goal.returns-in_err-put_and_push
returns-in_err-put_and_push g c =
    sends_as (sym (inserting_them c.args.columns c.args.col (encode_utf8 c.args.ch) c.args.rest.now (omega arith)))
    (sent_then c.in_ok-send.ensures (sent_cut _ _ c.in_err-put_and_push.ensures c.from_residual-in_err-put_and_push.ensures.1))

pub returns : goal.returns
returns g c =
    sends_as (sym (inserting_them c.args.columns c.args.col (encode_utf8 c.args.ch) c.args.rest.now (omega arith)))
    (sent_then c.in_ok-send.ensures (sent_then c.in_ok-put_and_push.ensures c.send-2.ensures))
