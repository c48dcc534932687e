-- The lines so far were taken, each with what was handed in for it.
use Rattle.line_editor.specs.LineRun.{helper_from_hooks}
use Rattle.keyline.specs.Desks.{desk_feed}
use Rattle.keyline.specs.SessionEffects.{devices_by}
use Rattle.keyline.specs.SessionCalls.{given_in, prompt_of}
use Rattle.keyline.proofs.LinesLemmas.{Asking}
use Rattle.keyline.proofs.laws.lines.Given as goal

abbrev pub invariant-loop-prompter : goal.invariant-loop-prompter
invariant-loop-prompter g l =
    let k = devices_by g.S.Source.feed g.D.Sink.held g.D.Sink.waits g.D.Sink.has_failed g.L.Sink.held g.L.Sink.waits g.L.Sink.has_failed in
    let helps = helper_from_hooks g.H.Hinter.hint_of g.H.Validator.verdict_of g.H.Completer.completion_of g.H.Completer.update_of g.H.Highlighter.marks in
    let first = l.fn.session in
    let now = l.session in
    let given = given_in g.B.Decides.decides helps in
    Asking k (given (prompt_of first) first) (given (prompt_of now) now) (g.P.Prompter.lines l.fn.prompter) (g.P.Prompter.lines l.prompter) first.desk now.desk

abbrev pub decreases-loop-prompter : goal.decreases-loop-prompter
decreases-loop-prompter g l =
    (desk_feed (devices_by g.S.Source.feed g.D.Sink.held g.D.Sink.waits g.D.Sink.has_failed g.L.Sink.held g.L.Sink.waits g.L.Sink.has_failed) l.session.desk).bound
