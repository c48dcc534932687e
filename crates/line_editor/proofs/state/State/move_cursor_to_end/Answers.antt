use Rattle.std.proofs.Common.{refl, sym, ◌∙◌}
use Rattle.line_editor.specs.Redraws.Redraw.{ToEnd}
use Rattle.line_editor.proofs.DrawnLemmas.{cursor_rests, cursor_goes, cursor_refused}
use Rattle.line_editor.proofs.state.State.move_cursor_to_end.Goals as goal

pub returns-then-eq : goal.returns-then-eq
returns-then-eq g c =
    let s = c.args.self.now in
    cursor_rests (λ a v. ToEnd) s.layout.end s _ _ refl (sym c.eq.ensures ∙ c.if-eq.true) refl refl (assumption)

pub returns-in_err-move_cursor : goal.returns-in_err-move_cursor
returns-in_err-move_cursor g c =
    let s = c.args.self.now in
    cursor_refused (λ a v. ToEnd) s.layout.end s _ _ _ c.from_residual.ensures.1 c.in_err-move_cursor.ensures.fault refl (sym c.eq.ensures ∙ c.if-eq.false) refl
    c.in_err-move_cursor.ensures.refused c.in_err-move_cursor.ensures.failed refl (assumption)

pub returns : goal.returns
returns g c =
    let s = c.args.self.now in
    cursor_goes (λ a v. ToEnd) s.layout.end s _ _ refl (sym c.eq.ensures ∙ c.if-eq.false) refl c.in_ok-move_cursor.ensures.made refl (assumption)
