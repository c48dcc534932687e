use Rattle.std.proofs.Common.{sym, ◌∙◌}
use Rattle.line_editor.specs.Drawing.{draw_effect_since}
use Rattle.line_editor.specs.Redraws.Redraw.{DrawnFrom}
use Rattle.line_editor.specs.States.{value_of, setting_of}
use Rattle.line_editor.specs.Values.{Transition, draw_effect, shown_hint}
use Rattle.line_editor.proofs.DoesLemmas.{does_as}
use Rattle.line_editor.proofs.SinceLemmas.{drawn_noted, whole_noted, whole_unnoted}
use Rattle.line_editor.proofs.state.State.draw_since.Goals as goal
use Rattle.line_editor.proofs.state.State.draw_since.Goals.{in-Some+in_default-place_since, in_default}
use Rattle.std.specs.Prelude.{None}

pub returns-in-Some-place_since : goal.returns-in-Some-place_since
returns-in-Some-place_since g c =
    let s = c.args.self.now in
    let from = c.in-Some-place_since.from in
    let drawn : Transition = λ a v. draw_effect (DrawnFrom a.prompt from v.line.text v.line.place (shown_hint v)) a v in
    record {
      does = does_as drawn (draw_effect_since c.args.since.now) s _ _
          (drawn_noted c.args.since.now (setting_of s) (value_of s) c.in-Some.since c.in-Some.is from (sym c.in-Some-place_since.is ∙ c.place_since.ensures.place))
          c.draw_from.ensures.does;
      fault = c.draw_from.ensures.fault;
    }

pub returns : goal.returns
returns g c =
    let s = c.args.self.now in
    let since = c.args.since.now in
    record {
      does = does_as (draw_effect_since None) (draw_effect_since since) s _ _
          (elim c.match-since.branch [
            | in-Some+in_default-place_since w ↦ whole_noted since (setting_of s) (value_of s) w.in-Some.since w.in-Some.is (sym w.in_default-place_since.is ∙ w.place_since.ensures.place)
            | in_default w ↦ whole_unnoted since (setting_of s) (value_of s) w.in_default.is
          ])
          c.repaint.ensures.does;
      fault = c.repaint.ensures.fault;
    }
