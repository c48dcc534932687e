-- Each call that fails leaves a prefix of the line written.
use Rattle.std.proofs.Common.{[], ◌∷◌, ◌++◌, refl}
use Rattle.line_config.proofs.Taking.{takes_then, takes_write, takes_flush, some_of_write, some_of_all, some_then, sends_cut, sends_refused}
use Rattle.keyline.proofs.desk.send_line.Goals as goal

pub returns-in_err-write-clause-sends : goal.returns-in_err-write-clause-sends
returns-in_err-write-clause-sends g c =
    let held = g.L.Sink.held in
    sends_cut held g.L.Sink.has_failed _ c.args.text.now (0x0A ∷ []) c.from_residual.ensures.1 c.in_err-write.ensures.failure
    (some_of_write held _ _ _ _ c.as_bytes.ensures.value c.in_err-write.ensures.begins)

pub returns-in_err-write-2-clause-sends : goal.returns-in_err-write-2-clause-sends
returns-in_err-write-2-clause-sends g c =
    let held = g.L.Sink.held in
    let text = takes_write held _ _ _ _ c.as_bytes.ensures.value c.in_ok-write.ensures.ok in
    sends_refused held g.L.Sink.has_failed _ (c.args.text.now ++ 0x0A ∷ []) c.from_residual-in_err-write-2.ensures.1 c.in_err-write-2.ensures.failure
    (some_then held _ _ _ c.args.text.now (0x0A ∷ []) text (some_of_write held _ _ _ _ refl c.in_err-write-2.ensures.begins))

pub returns-in_err-flush-clause-sends : goal.returns-in_err-flush-clause-sends
returns-in_err-flush-clause-sends g c =
    let held = g.L.Sink.held in
    let text = takes_write held _ _ _ _ c.as_bytes.ensures.value c.in_ok-write.ensures.ok in
    let newline = takes_write held _ _ _ (0x0A ∷ []) refl c.in_ok-write-2.ensures.ok in
    let line = takes_then held _ _ _ c.args.text.now (0x0A ∷ []) text newline in
    sends_refused held g.L.Sink.has_failed _ (c.args.text.now ++ 0x0A ∷ []) c.from_residual-in_err-flush.ensures.1 c.in_err-flush.ensures.failure
    (some_of_all held _ _ (c.args.text.now ++ 0x0A ∷ [])
    (takes_flush held _ _ _ (c.args.text.now ++ 0x0A ∷ []) line c.in_err-flush.ensures.held))
