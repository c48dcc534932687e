-- The runs of an entry, and then a newline.
use Rattle.std.proofs.Common.{◌∷◌, List, ℕ, [], rules, arith, subst}
use Rattle.line_config.specs.Sending.{Sends}
use Rattle.line_config.proofs.Taking.{sends_then, sends_cut}
use Rattle.line_help.specs.HistoryText.{escaped_entry, row_of}
use Rattle.line_help.proofs.RunLemmas.{run_cut, run_done, runs_done}
use Rattle.line_help.proofs.history.escapes.write_row.Goals as goal

pub returns-in_err-sent : goal.returns-in_err-sent
returns-in_err-sent g c =
    let held = g.S.Sink.held in
    let failed = g.S.Sink.has_failed in
    let bytes = c.as_bytes-bytes.result.now in
    let Row : List ℕ → Type 0 = λ entry. Sends held failed (row_of entry) c.args.sink.now c.put_run.new.sink c.from_residual.result in
    record {
      sends = subst Row c.as_bytes-bytes.ensures.value
          (sends_cut held failed _ (escaped_entry bytes) (10 ∷ []) c.from_residual.ensures.1 c.in_err-sent.ensures.err
          (run_cut held failed bytes c.loop-sent.sent c.loop-sent.invariant.0 c.in_err-sent.ensures.begins));
      fault = search rules;
    }

pub loop-sent-preserved : goal.loop-sent-preserved
loop-sent-preserved g c = (
  run_done g.S.Sink.held g.S.Sink.has_failed c.as_bytes-bytes.result.now c.loop-sent.sent c.in_ok-sent.field-0 c.loop-sent.invariant.0 c.in_ok-sent.ensures.sent c.in_ok-sent.ensures.works,
  search (arith, rules),
)

pub returns : goal.returns
returns g c =
    let held = g.S.Sink.held in
    let failed = g.S.Sink.has_failed in
    let bytes = c.as_bytes-bytes.result.now in
    let Row : List ℕ → Type 0 = λ entry. Sends held failed (row_of entry) c.args.sink.now c.put.new.sink c.put.result in
    let under = c.loop-sent.invariant.0 in
    record {
      sends = subst Row c.as_bytes-bytes.ensures.value
          (sends_then held failed (escaped_entry bytes) (10 ∷ [])
          (runs_done held failed bytes c.loop-sent.sent c.loop-sent-test.false under) under.works c.put.ensures.sends);
      fault = c.put.ensures.fault;
    }
