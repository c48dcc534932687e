-- Its end was drawn or cut, and an accepted line was written or torn.
use Rattle.std.proofs.Common.{ap, subst, sym, string_bytes}
use Rattle.std.proofs.lemmas.Result.{err_from_is_err_and}
use Rattle.line_keys.specs.KeyFeeds.{answer_map}
use Rattle.keyline.proofs.CloseLemmas.{EndIsCut, closes_accepted, closes_cut, closes_refused}
use Rattle.keyline.proofs.desk.close.Goals as goal

pub returns-in_err-end_line-clause-closes : goal.returns-in_err-end_line-clause-closes
returns-in_err-end_line-clause-closes g c =
    let p = err_from_is_err_and c.from_residual.result c.from_residual.ensures.1 in
    closes_cut g.D.Sink.held g.D.Sink.has_failed g.L.Sink.held g.L.Sink.has_failed
    c.args.adds _ _ _ c.args.lines.now _ _ _ p.0 (ap (answer_map string_bytes) p.1)
    (subst (EndIsCut g.D.Sink.held g.D.Sink.has_failed c.args.adds _ _ _ _ _) (sym p.2) c.in_err-end_line.ensures.ends)

pub returns-in-Ok-clause-closes : goal.returns-in-Ok-clause-closes
returns-in-Ok-clause-closes g c =
    closes_accepted g.D.Sink.held g.D.Sink.has_failed g.L.Sink.held g.L.Sink.has_failed
    c.args.adds (string_bytes c.in-Ok.text) _ _ _ c.args.lines.now _ _ _ c.hand_out.result (ap (answer_map string_bytes) c.in-Ok.is)
    c.in_ok-end_line.ensures.ends c.hand_out.ensures.sends c.hand_out.ensures.fault c.hand_out.ensures.same

pub returns-in-Err-clause-closes : goal.returns-in-Err-clause-closes
returns-in-Err-clause-closes g c =
    closes_refused g.D.Sink.held g.D.Sink.has_failed g.L.Sink.held g.L.Sink.has_failed
    c.args.adds c.in-Err.why _ _ _ c.args.lines.now _ _ (ap (answer_map string_bytes) c.in-Err.is) c.in_ok-end_line.ensures.ends
