-- Lines follow on lines, each with what was handed in for it.
use Rattle.std.proofs.Common.{ap, refl, ◌∙◌, string_bytes}
use Rattle.line_editor.specs.LineRun.{helper_from_hooks}
use Rattle.line_keys.specs.CustomBindings.{custom_of}
use Rattle.line_keys.specs.KeyFeeds.{answer_map}
use Rattle.line_screen.specs.ScreenCalls.{screen_of}
use Rattle.keyline.specs.SessionEffects.{devices_by}
use Rattle.keyline.specs.SessionCalls.{given_in}
use Rattle.keyline.specs.Sessions.{given_of}
use Rattle.keyline.proofs.LinesLemmas.{along, asking_nowhere, asking_ok, asking_err}
use Rattle.keyline.proofs.laws.lines.Goals as goal

pub loop-prompter-init : goal.loop-prompter-init
loop-prompter-init g c = asking_nowhere _ _ _ _

pub returns-in-Err : goal.returns-in-Err
returns-in-Err g c =
    let k = devices_by g.S.Source.feed g.D.Sink.held g.D.Sink.waits g.D.Sink.has_failed g.L.Sink.held g.L.Sink.waits g.L.Sink.has_failed in
    let helps = helper_from_hooks g.H.Hinter.hint_of g.H.Validator.verdict_of g.H.Completer.completion_of g.H.Completer.update_of g.H.Highlighter.marks in
    let decides = g.B.Decides.decides in
    let now = c.loop-prompter.session in
    let here = c.set_columns.new.self in
    let next = c.read_line.new.self in
    let line = c.prompt.result.now in
    let screen = screen_of here.desk.out in
    let asked = along {y = record now { desk = record now.desk { out = here.desk.out } }} c.set_columns.ensures.others (given_in decides helps line)
    ∙ (along c.prompt.ensures (λ p. given_of now.config (custom_of now.bindings decides) p screen (helps now.desk.helper))
    ∙ along (c.set_columns.ensures.screen ∙ along c.columns.ensures.columns (λ n. record (screen_of now.desk.out) { columns = n }))
    (λ screen. given_of now.config (custom_of now.bindings decides) (g.P.Prompter.lines c.loop-prompter.prompter 0).prompt screen (helps now.desk.helper))) in
    let desk = along {y = record now { desk = record now.desk { out = here.desk.out } }} c.set_columns.ensures.others (λ s. s.desk) in
    asking_err k _ _ _ _ _ _ c.args.session.desk now.desk here.desk next.desk _ c.loop-prompter.invariant desk c.set_columns.ensures.display asked
    c.read_line.ensures.takes c.in-Err.why (ap (answer_map string_bytes) c.in-Err.is)

pub loop-prompter-preserved-in-Ok : goal.loop-prompter-preserved-in-Ok
loop-prompter-preserved-in-Ok g c =
    let k = devices_by g.S.Source.feed g.D.Sink.held g.D.Sink.waits g.D.Sink.has_failed g.L.Sink.held g.L.Sink.waits g.L.Sink.has_failed in
    let helps = helper_from_hooks g.H.Hinter.hint_of g.H.Validator.verdict_of g.H.Completer.completion_of g.H.Completer.update_of g.H.Highlighter.marks in
    let decides = g.B.Decides.decides in
    let now = c.loop-prompter.session in
    let here = c.set_columns.new.self in
    let next = c.read_line.new.self in
    let line = c.prompt.result.now in
    let screen = screen_of here.desk.out in
    let asked = along {y = record now { desk = record now.desk { out = here.desk.out } }} c.set_columns.ensures.others (given_in decides helps line)
    ∙ (along c.prompt.ensures (λ p. given_of now.config (custom_of now.bindings decides) p screen (helps now.desk.helper))
    ∙ along (c.set_columns.ensures.screen ∙ along c.columns.ensures.columns (λ n. record (screen_of now.desk.out) { columns = n }))
    (λ screen. given_of now.config (custom_of now.bindings decides) (g.P.Prompter.lines c.loop-prompter.prompter 0).prompt screen (helps now.desk.helper))) in
    let desk = along {y = record now { desk = record now.desk { out = here.desk.out } }} c.set_columns.ensures.others (λ s. s.desk) in
    asking_ok k _ _ _ _ _ _ c.args.session.desk now.desk here.desk next.desk _ c.loop-prompter.invariant desk c.set_columns.ensures.display asked
    c.read_line.ensures.takes _ (ap (answer_map string_bytes) c.in-Ok.is) _ c.advance.ensures _ (λ line. refl) refl
