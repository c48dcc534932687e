-- The line by `run`, and its end.
use Rattle.std.proofs.Common.{Bool, rules, subst, string_bytes, ◌∙◌}
use Rattle.line_keys.specs.CustomBindings.{custom_of}
use Rattle.line_keys.specs.KeyFeeds.{answer_map}
use Rattle.line_editor.specs.LineRun.{helper_from_hooks, outcome_of}
use Rattle.line_screen.specs.ScreenCalls.{NothingWaits, sink_of}
use Rattle.keyline.specs.SessionEffects.{devices_by, Closes, work}
use Rattle.keyline.specs.Keeping.{AddsEntry}
use Rattle.keyline.specs.declared.desk.Desk.{Desk}
use Rattle.keyline.proofs.DeskLemmas.{RunsAt, takes_line, with_held}
use Rattle.keyline.proofs.KeepingLemmas.{adds_entry_by, flag_both, flag_none}
use Rattle.keyline.proofs.desk.Desk.one_line.Goals as goal
use Rattle.keyline.proofs.desk.Desk.one_line.Goals.{then-added, else-added}

pub returns-clause-takes : goal.returns-clause-takes
returns-clause-takes g c =
    let k = devices_by g.S.Source.feed g.D.Sink.held g.D.Sink.waits g.D.Sink.has_failed g.L.Sink.held g.L.Sink.waits g.L.Sink.has_failed in
    let helps = helper_from_hooks g.H.Hinter.hint_of g.H.Validator.verdict_of g.H.Completer.completion_of g.H.Completer.update_of g.H.Highlighter.marks in
    let custom = custom_of c.args.bindings.now g.B.Decides.decides in
    let old = c.args.self.now in
    let ran = c.run-out.result in
    let run = c.run-out.new in
    let end = c.close-outcome.new in
    let Passes : Bool → Desk g.row.S.Denot g.row.H.Denot g.row.D.Denot g.row.L.Denot → Type 0 = λ adds old. RunsAt k helps custom c.args.config.now c.args.prompt.now c.if-added.self old ran run.kill_ring run.last_query run.reader
    × Closes k.shown k.show_failed k.written_in k.write_failed adds (outcome_of ran) (work (sink_of ran.out) old.lines old.history) (work (sink_of end.out) end.lines end.history) (answer_map string_bytes c.close-outcome.result)
    × (NothingWaits k.write_waits k.write_failed old.lines → NothingWaits k.write_waits k.write_failed end.lines) in
    let held = with_held (Passes c.auto_add_history-adds.result) _ old c.self.view_is c.in-Some.out c.take-2.result (search rules) c.take-2.ensures.value
    (c.run-out.ensures, c.close-outcome.ensures.closes, c.close-outcome.ensures.passes_lines) in
    let passes = subst (λ adds. Passes adds old) c.auto_add_history-adds.ensures held in
    takes_line k helps custom c.args.config.now c.args.prompt.now c.if-added.self old ran run.kill_ring run.last_query run.reader
    end.out end.history end.lines (answer_map string_bytes c.close-outcome.result)
    passes.0 passes.1 c.close-outcome.ensures.screen c.close-outcome.ensures.passes passes.2

pub returns-clause-added : goal.returns-clause-added
returns-clause-added g c =
    let Adds : Desk g.row.S.Denot g.row.H.Denot g.row.D.Denot g.row.L.Denot → Type 0 = λ old. AddsEntry c.if-added.self old.history c.close-outcome.new.history in
    with_held Adds _ c.args.self.now c.self.view_is c.in-Some.out c.take-2.result (search rules) c.take-2.ensures.value
    (adds_entry_by c.auto_add_history-adds.result (outcome_of c.run-out.result) (answer_map string_bytes c.close-outcome.result) c.if-added.self
    _ c.close-outcome.new.history c.close-outcome.ensures.kept
    (elim c.if-added.branch [
      | then-added w ↦ flag_both c.is_added-added.ensures w.if-added.true (w.self-is ∙ w.is_ended-self-inside.ensures)
      | else-added w ↦ flag_none _ c.is_added-added.ensures w.if-added.false (w.self-is ∙ w.if-added.false)
    ]))
