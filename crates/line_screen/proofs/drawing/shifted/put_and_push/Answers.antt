-- The character, and then the rows after it.
use Rattle.std.proofs.Common.{◌∙◌, ap, append_assoc, arith, sym}
use Rattle.std.specs.Prelude.{encode_utf8}
use Rattle.std.proofs.lemmas.List.{take_rest}
use Rattle.line_screen.specs.Drawing.{put_in, pushed_on}
use Rattle.line_screen.proofs.Sendings.{sends_as, sent_then, sent_cut}
use Rattle.line_screen.proofs.ShiftedBytes.{inserted_short, inserted_on}
use Rattle.line_screen.proofs.drawing.shifted.put_and_push.Goals as goal

pub returns-in_err-put_in : goal.returns-in_err-put_in
returns-in_err-put_in g c =
    let is = ap (put_in c.args.inserting) (c.as_bytes.ensures.value ∙ c.encode_utf8.ensures.value) in
    rw append_assoc (sent_cut _ _ (sends_as is c.in_err-put_in.ensures) c.from_residual.ensures.1)

pub returns-then-rest-free : goal.returns-then-rest-free
returns-then-rest-free g c =
    let is = ap (put_in c.args.inserting) (c.as_bytes.ensures.value ∙ c.encode_utf8.ensures.value) in
    sends_as (is ∙ sym (inserted_short c.args.inserting c.args.columns c.args.col (encode_utf8 c.args.ch) c.args.rest.now c.requires.inside
    (omega arith))) c.in_ok-put_in.ensures

pub returns-in_err-send : goal.returns-in_err-send
returns-in_err-send g c =
    let is = ap (put_in c.args.inserting) (c.as_bytes.ensures.value ∙ c.encode_utf8.ensures.value) in
    sends_as (sym (inserted_on c.args.inserting c.args.columns c.args.col c.from-free.result (encode_utf8 c.args.ch) c.args.rest.now c.requires.inside
    (omega arith) (omega arith)))
    (sent_then (sends_as is c.in_ok-put_in.ensures) (sent_cut _ _ c.in_err-send.ensures c.from_residual-in_err-send.ensures.1))

pub returns : goal.returns
returns g c =
    let is = ap (put_in c.args.inserting) (c.as_bytes.ensures.value ∙ c.encode_utf8.ensures.value) in
    let rest = ap (pushed_on c.args.inserting c.args.columns 0) (take_rest c.args.rest.now c.from-free.result) in
    sends_as (sym (inserted_on c.args.inserting c.args.columns c.args.col c.from-free.result (encode_utf8 c.args.ch) c.args.rest.now c.requires.inside
    (omega arith) (omega arith)))
    (sent_then (sends_as is c.in_ok-put_in.ensures) (sent_then c.in_ok-send.ensures (sends_as rest c.push_on.ensures)))
