-- Lines follow on lines, each new entry's row is handed over, and the last line ends the session.
use Rattle.std.proofs.Common.{refl, subst, sym, ap, ◌∙◌, string_bytes}
use Rattle.line_keys.specs.KeyFeeds.{answer_map}
use Rattle.keyline.specs.SessionEffects.{devices_by}
use Rattle.keyline.specs.SessionCalls.{Finishes}
use Rattle.keyline.proofs.KeepingLemmas.{keeps_by, keeps_more, keeps_none, saved_kept}
use Rattle.keyline.proofs.LinesLemmas.{along, underway_nowhere, underway_ok, underway_err}
use Rattle.keyline.proofs.session.Session.run_to_end.Goals as goal

pub loop-why-init : goal.loop-why-init
loop-why-init g c = (underway_nowhere _ _ _, refl, keeps_none _ _ _ _)

pub returns-in-Err-clause-runs : goal.returns-in-Err-clause-runs
returns-in-Err-clause-runs g c =
    let k = devices_by g.S.Source.feed g.D.Sink.held g.D.Sink.waits g.D.Sink.has_failed g.L.Sink.held g.L.Sink.waits g.L.Sink.has_failed in
    let self = c.args.self in
    let now = c.loop-why.session in
    let next = c.next_line-line.new.self in
    let line = rw (c.as_str.ensures.value, c.replace-prompt.ensures.value) at c.next_line-line.ensures.reads.takes in
    let lines = underway_err k _ _ _ self.desk now.desk next.desk _ c.loop-why.invariant.0 line c.in-Err.why (ap (answer_map string_bytes) c.in-Err.is) in
    let text = along {y = record now { desk = next.desk }} c.next_line-line.ensures.reads.others (λ s. s.text) ∙ c.loop-why.invariant.1 in
    record {
      last = next.desk;
      why = c.in-Err.why;
      takes = lines;
      finishes = subst (λ text. Finishes g.S.Source.feed g.T.Sink.held g.T.Sink.has_failed c.args.saves next.desk text c.in-Err.why c.close.result) text c.close.ensures;
    }

pub returns-in-Err-clause-kept : goal.returns-in-Err-clause-kept
returns-in-Err-clause-kept g c =
    keeps_by _ _ _ _ _ _ _
    (saved_kept g.T.Sink.held g.T.Sink.has_failed c.args.saves _ _ _ _ _ c.close.ensures.saves)
    (keeps_more _ _ _ _ _ _ _ _ _ c.loop-why.invariant.2 c.next_line-line.ensures.added c.keep_newest.ensures)

pub loop-why-preserved-in-Ok : goal.loop-why-preserved-in-Ok
loop-why-preserved-in-Ok g c =
    let k = devices_by g.S.Source.feed g.D.Sink.held g.D.Sink.waits g.D.Sink.has_failed g.L.Sink.held g.L.Sink.waits g.L.Sink.has_failed in
    let self = c.args.self in
    let now = c.loop-why.session in
    let next = c.next_line-line.new.self in
    let line = rw (c.as_str.ensures.value, c.replace-prompt.ensures.value) at c.next_line-line.ensures.reads.takes in (
      underway_ok k _ _ _ self.desk now.desk next.desk _ c.loop-why.invariant.0 line _ (ap (answer_map string_bytes) c.in-Ok.is) _ refl,
      along {y = record now { desk = next.desk }} c.next_line-line.ensures.reads.others (λ s. s.text) ∙ c.loop-why.invariant.1,
      keeps_more _ _ _ _ _ _ _ _ _ c.loop-why.invariant.2 c.next_line-line.ensures.added c.keep_newest.ensures,
    )
