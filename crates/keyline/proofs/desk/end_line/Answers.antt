-- A fault of the display, or of memory for the history, or none.
use Rattle.std.proofs.Common.{◌∙◌, Ok, ap, sym, string_bytes}
use Rattle.std.proofs.lemmas.Result.{err_from_is_err_and}
use Rattle.line_keys.specs.KeyFeeds.{answer_map}
use Rattle.keyline.proofs.CloseLemmas.{end_cut, end_kept, end_other}
use Rattle.keyline.proofs.desk.end_line.Goals as goal

pub returns-in_err-break_row-clause-ends : goal.returns-in_err-break_row-clause-ends
returns-in_err-break_row-clause-ends g c =
    let p = err_from_is_err_and c.from_residual.result c.from_residual.ensures.1 in
    end_cut g.D.Sink.held g.D.Sink.has_failed c.args.adds _ _ _ c.args.history.now _ p.0 p.1 (p.2 ∙ c.in_err-break_row.ensures.row.0) c.in_err-break_row.ensures.row.1

pub returns-in-Ok-clause-ends : goal.returns-in-Ok-clause-ends
returns-in-Ok-clause-ends g c =
    end_kept g.D.Sink.held g.D.Sink.has_failed c.args.adds _ _ _ c.args.history.now c.as_str.result.now c.remember.new.history c.remember.result
    (ap (answer_map string_bytes) c.in-Ok.is ∙ ap Ok (sym c.as_str.ensures.value)) c.in_ok-break_row.ensures.row
    c.remember.ensures.added c.remember.ensures.kept c.remember.ensures.fault

pub returns-in-Err-clause-ends : goal.returns-in-Err-clause-ends
returns-in-Err-clause-ends g c =
    end_other g.D.Sink.held g.D.Sink.has_failed c.args.adds _ _ _ c.args.history.now _ (ap (answer_map string_bytes) c.in-Err.is) c.in_ok-break_row.ensures.row
