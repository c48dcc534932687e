use Rattle.std.proofs.Common.{refl, sym, ap, ◌∙◌}
use Rattle.std.specs.Prelude.{◌-◌, length, drop}
use Rattle.line_buffer.specs.Range.{kill as killed_in, deletion_line}
use Rattle.line_edits.specs.Edits.{kill_steps}
use Rattle.line_editor.specs.Drawing.{since}
use Rattle.line_editor.specs.Killing.{may_be_taken, may_be_taken_out, text_gone, show_taken, kill_effect}
use Rattle.line_editor.specs.States.{value_of, setting_of}
use Rattle.line_editor.proofs.EditLemmas.{part_killed, edit_then, edit_refused, taken_by}
use Rattle.line_editor.proofs.state.State.kill_noted.Goals as goal
use Rattle.line_editor.proofs.DoesLemmas.{stays_by}

pub returns-in_err-killed-clause-does : goal.returns-in_err-killed-clause-does
returns-in_err-killed-clause-does g c =
    let s = c.args.self.now in
    edit_refused (kill_effect c.args.movement.now) (show_taken (value_of s)) (kill_steps c.args.movement.now) (value_of s) s _ _ _ _ c.from_residual.ensures.1
    (part_killed c.args.movement.now (setting_of s) (value_of s) c.in_err-killed.ensures.refused) refl c.in_err-killed.ensures.writes refl refl (assumption)

pub returns-clause-does : goal.returns-clause-does
returns-clause-does g c =
    let s = c.args.self.now in
    edit_then (kill_effect c.args.movement.now) (show_taken (value_of s)) (kill_steps c.args.movement.now) (value_of s) s _ _ _ _ _ _
    (part_killed c.args.movement.now (setting_of s) (value_of s) (sym c.in_ok-killed.ensures.writes.writes.answers ∙ c.if-not-killed.false)) refl
    c.in_ok-killed.ensures.writes refl refl (stays_by refl refl refl refl refl refl) (taken_by _ _ _ _ _ _ (value_of s) (killed_in c.args.movement.now s.recorded.line).line _ _ _
    (ap (λ n. n - c.len.result) c.len-before.ensures ∙ ap (λ n. length s.recorded.line.text - n) c.len.ensures) (c.may_be_taken-alone.ensures
    ∙ ap (λ o. may_be_taken (drop (length (deletion_line o s.recorded.line).text) s.recorded.line.text) (value_of s)) c.requires.span.value)
    (c.may_be_taken_out-inside.ensures
    ∙ ap (λ o. may_be_taken_out (setting_of s).config.partial_redraw (text_gone s.recorded.line (deletion_line o s.recorded.line)) (value_of s)) c.requires.span.value)
    c.last_of_bare-last.ensures c.in_ok-killed.ensures.writes.writes.line c.kill_way-way.ensures
    (c.since-since.ensures ∙ ap (λ place. since (setting_of s) place (value_of s)) (c.place_of_kill-place.ensures.value ∙ ap (λ o. (deletion_line o s.recorded.line).place) c.requires.span.value))
    c.show_killed.ensures.does)
