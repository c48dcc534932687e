-- The lines so far were taken, the history's text is as it was, and the rows of its new entries were handed over.
use Rattle.std.specs.Prelude.{◌≡◌}
use Rattle.line_editor.specs.LineRun.{helper_from_hooks}
use Rattle.keyline.specs.Desks.{desk_feed}
use Rattle.keyline.specs.Keeping.{KeepsRows}
use Rattle.keyline.specs.SessionEffects.{devices_by}
use Rattle.keyline.specs.SessionCalls.{given_in, history_of, prompt_of}
use Rattle.keyline.proofs.LinesLemmas.{Underway}
use Rattle.keyline.proofs.session.Session.run_to_end.Given as goal

abbrev pub invariant-loop-why : goal.invariant-loop-why
invariant-loop-why g l =
    let k = devices_by g.S.Source.feed g.D.Sink.held g.D.Sink.waits g.D.Sink.has_failed g.L.Sink.held g.L.Sink.waits g.L.Sink.has_failed in
    let helps = helper_from_hooks g.H.Hinter.hint_of g.H.Validator.verdict_of g.H.Completer.completion_of g.H.Completer.update_of g.H.Highlighter.marks in
    let self = l.fn.self in
    let given = given_in g.B.Decides.decides helps (prompt_of self) in
    Underway k (given self) (given l.session) self.desk l.session.desk × (l.session.text ≡ self.text)
    × KeepsRows g.K.Sink.held g.K.Sink.has_failed (history_of self) (history_of l.session) l.fn.keeper l.keeper

abbrev pub decreases-loop-why : goal.decreases-loop-why
decreases-loop-why g l =
    (desk_feed (devices_by g.S.Source.feed g.D.Sink.held g.D.Sink.waits g.D.Sink.has_failed g.L.Sink.held g.L.Sink.waits g.L.Sink.has_failed) l.session.desk).bound
