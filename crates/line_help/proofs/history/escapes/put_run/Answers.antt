-- A run is sent as it is, and then an escape.
use Rattle.std.proofs.Common.{rules, arith, length, sym, ap, ◌∙◌, subst}
use Rattle.std.proofs.lemmas.List.{take_all}
use Rattle.line_config.specs.Sending.{TakesBytes, TakesSome}
use Rattle.line_help.specs.HistoryText.{escaped_entry}
use Rattle.line_help.proofs.RunLemmas.{all_is, run_refused, run_begun, escape_begun, run_sent}
use Rattle.line_help.proofs.history.escapes.put_run.Goals as goal

pub returns-in_err-put : goal.returns-in_err-put
returns-in_err-put g c =
    let held = g.S.Sink.held in
    let bytes = c.args.bytes.now in
    run_refused held g.S.Sink.has_failed bytes _ c.from_residual.ensures.1 (search rules) c.in_err-put.ensures.sends.err
    (subst (TakesSome held c.args.sink.now c.put.new.sink) (sym (all_is bytes c.in_default.ensures)) c.in_err-put.ensures.sends.begins)

pub returns-in_default : goal.returns-in_default
returns-in_default g c =
    let held = g.S.Sink.held in
    let bytes = c.args.bytes.now in
    record {
      count = (omega arith, λ some. some);
      sent = subst (TakesBytes held c.args.sink.now c.put.new.sink) (sym (all_is bytes c.in_default.ensures) ∙ ap escaped_entry (sym (take_all (length bytes) bytes (omega arith)))) c.in_ok-put.ensures.sends.sent;
      works = c.in_ok-put.ensures.sends.works;
      err = tt;
      begins = tt;
      fault = tt;
    }

pub returns-in_err-put-2 : goal.returns-in_err-put-2
returns-in_err-put-2 g c =
    let first = c.in-Some.ensures in
    run_refused g.S.Sink.held g.S.Sink.has_failed c.args.bytes.now _ c.from_residual-in_err-put-2.ensures.1 (search rules) c.in_err-put-2.ensures.sends.err
    (run_begun g.S.Sink.held g.S.Sink.has_failed c.args.bytes.now c.in-Some.at first.0.high first.0.before c.in_err-put-2.ensures.sends.begins)

pub returns-in_err-put_escaped : goal.returns-in_err-put_escaped
returns-in_err-put_escaped g c =
    let first = c.in-Some.ensures in
    run_refused g.S.Sink.held g.S.Sink.has_failed c.args.bytes.now _ c.from_residual-in_err-put_escaped.ensures.1 (search rules) c.in_err-put_escaped.ensures.sends.err
    (escape_begun g.S.Sink.held g.S.Sink.has_failed c.args.bytes.now c.in-Some.at first.0.high first.0.before c.in_ok-put-2.ensures.sends.sent
    c.in_err-put_escaped.ensures.sends.begins)

pub returns : goal.returns
returns g c =
    let first = c.in-Some.ensures in
    record {
      count = (omega (arith, first.0.high), λ some. omega arith);
      sent = run_sent g.S.Sink.held g.S.Sink.has_failed c.args.bytes.now c.in-Some.at _ _ _ first.0.high first.0.before c.in_ok-put-2.ensures.sends.sent
          c.in_ok-put_escaped.ensures.sends.sent;
      works = c.in_ok-put_escaped.ensures.sends.works ∙ c.in_ok-put-2.ensures.sends.works;
      err = tt;
      begins = tt;
      fault = tt;
    }
