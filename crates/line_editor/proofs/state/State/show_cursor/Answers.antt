use Rattle.std.proofs.Common.{refl, sym, ap, ◌∙◌}
use Rattle.std.specs.Prelude.{take}
use Rattle.line_editor.specs.Redraws.{move_calls}
use Rattle.line_editor.specs.Redraws.Redraw.{Moved}
use Rattle.line_editor.proofs.DrawnLemmas.{cursor_rests, cursor_goes, cursor_refused}
use Rattle.line_editor.proofs.state.State.show_cursor.Goals as goal

pub returns-then-eq : goal.returns-then-eq
returns-then-eq g c =
    let s = c.args.self.now in
    cursor_rests (λ a v. Moved v.line.text v.line.place) c.position_at-cursor.result s _ _
    (ap (move_calls s.layout) (c.position_at-cursor.ensures ∙ ap (λ place. (g.Out.Renderer.canvas.ruler s.out).measure (take place s.recorded.line.text) s.layout.prompt_size) c.pos-pos.ensures.value))
    (sym c.eq.ensures ∙ c.if-eq.true) refl refl (assumption)

pub returns-in_err-move_cursor : goal.returns-in_err-move_cursor
returns-in_err-move_cursor g c =
    let s = c.args.self.now in
    cursor_refused (λ a v. Moved v.line.text v.line.place) c.position_at-cursor.result s _ _ _ c.from_residual.ensures.1 c.in_err-move_cursor.ensures.fault
    (ap (move_calls s.layout) (c.position_at-cursor.ensures ∙ ap (λ place. (g.Out.Renderer.canvas.ruler s.out).measure (take place s.recorded.line.text) s.layout.prompt_size) c.pos-pos.ensures.value))
    (sym c.eq.ensures ∙ c.if-eq.false) refl c.in_err-move_cursor.ensures.refused c.in_err-move_cursor.ensures.failed refl (assumption)

pub returns : goal.returns
returns g c =
    let s = c.args.self.now in
    cursor_goes (λ a v. Moved v.line.text v.line.place) c.position_at-cursor.result s _ _
    (ap (move_calls s.layout) (c.position_at-cursor.ensures ∙ ap (λ place. (g.Out.Renderer.canvas.ruler s.out).measure (take place s.recorded.line.text) s.layout.prompt_size) c.pos-pos.ensures.value))
    (sym c.eq.ensures ∙ c.if-eq.false) refl c.in_ok-move_cursor.ensures.made refl (assumption)
