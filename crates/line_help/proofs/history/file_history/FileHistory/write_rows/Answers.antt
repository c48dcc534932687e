-- The row of each entry, passed on at the end.
use Rattle.std.proofs.Common.{◌≡◌, ◌<◌, ◌≤◌, List, ℕ, length, drop, get_or, rules, subst}
use Rattle.std.specs.Prelude.{string_bytes}
use Rattle.line_config.specs.Sending.{TakesBytes, TakesSome}
use Rattle.line_config.proofs.Taking.{underway_start, sends_refused, sends_flushed}
use Rattle.line_help.specs.HistoryText.{row_of, rows_text}
use Rattle.line_help.proofs.SavingLemmas.{piece_sent, piece_refused, pieces_sent}
use Rattle.line_help.proofs.history.file_history.FileHistory.write_rows.Goals as goal

pub loop-index-init : goal.loop-index-init
loop-index-init g c =
    underway_start g.S.Sink.held g.S.Sink.has_failed (rows_text (drop c.args.first c.args.self.now.kept.entries)) c.args.sink.now

pub loop-index-preserved : goal.loop-index-preserved
loop-index-preserved g c =
    let held = g.S.Sink.held in
    let failed = g.S.Sink.has_failed in
    let entries = c.args.self.now.kept.entries in
    let at = c.loop-index.index in
    let other = string_bytes c.index.result.now in
    let inside : at < length entries = search rules in
    let entry : c.as_str.result.now ≡ get_or entries at other = search rules in
    let Took : List ℕ → Type 0 = λ entry. TakesBytes held c.loop-index.sink c.write_row.new.sink (row_of entry) in
    piece_sent held failed row_of entries (rows_text (drop c.args.first entries)) at other inside c.loop-index.invariant
    (subst Took entry c.in_ok-write_row.ensures.sends.sent) c.in_ok-write_row.ensures.sends.works

pub returns-in_err-write_row-clause-sends : goal.returns-in_err-write_row-clause-sends
returns-in_err-write_row-clause-sends g c =
    let held = g.S.Sink.held in
    let failed = g.S.Sink.has_failed in
    let entries = c.args.self.now.kept.entries in
    let at = c.loop-index.index in
    let other = string_bytes c.index.result.now in
    let inside : at < length entries = search rules in
    let entry : c.as_str.result.now ≡ get_or entries at other = search rules in
    let Took : List ℕ → Type 0 = λ entry. TakesSome held c.loop-index.sink c.write_row.new.sink (row_of entry) in
    let rows = rows_text (drop c.args.first entries) in
    record {
      sends = sends_refused held failed _ rows c.from_residual.ensures.1 c.in_err-write_row.ensures.sends.err
          (piece_refused held failed row_of entries rows at other inside c.loop-index.invariant (subst Took entry c.in_err-write_row.ensures.sends.begins));
      fault = search rules;
    }

pub returns-clause-sends : goal.returns-clause-sends
returns-clause-sends g c =
    let held = g.S.Sink.held in
    let failed = g.S.Sink.has_failed in
    let entries = c.args.self.now.kept.entries in
    let at = c.loop-index.index in
    let rows = rows_text (drop c.args.first entries) in
    let all : length entries ≤ at = search rules in
    record {
      sends = sends_flushed held failed rows (pieces_sent held failed row_of entries rows at all c.loop-index.invariant) c.loop-index.invariant.works c.pass_on.ensures.sends.sends;
      fault = c.pass_on.ensures.sends.fault;
    }
