use Rattle.std.proofs.Common.{◌≡◌, false, refl}
use Rattle.line_editor.specs.Redraws.{may_erase}
use Rattle.line_editor.proofs.DrawnLemmas.{no_columns, too_few_columns, told_after, erased_rest}
use Rattle.line_editor.proofs.DoesLemmas.{does_from, stays_by}
use Rattle.line_editor.proofs.state.State.show_erased.Goals as goal
use Rattle.line_editor.proofs.state.State.show_erased.Goals.{in_default-via-in-Some+then-not-self+else-width-end, in_default-via-in-Some+else-not-self, in_default-via-in_default}

pub returns-in_default : goal.returns-in_default
returns-in_default g c =
    let s = c.args.self.now in
    let r = g.Out.Renderer.canvas.ruler s.out in
    let is : may_erase r s.layout c.args.ch ≡ false =
    elim c.in_default.branch [
      | in_default-via-in-Some+then-not-self+else-width-end w ↦ too_few_columns r s.layout c.args.ch w.in-Some.width c.columns_of.result c.columns_of.ensures w.in-Some.is w.if-width-end.false
      | in_default-via-in-Some+else-not-self w ↦ told_after r s.layout c.args.ch w.if-not-self.false
      | in_default-via-in_default w ↦ no_columns r s.layout c.args.ch c.columns_of.result c.columns_of.ensures w.in_default.is
    ] in
    record {
      does = erased_rest c.args.ch c.pos-place.result _ _ _ is c.requires.bare c.pos-place.ensures.value
          (does_from _ _ _ _ _ _ refl refl (stays_by refl refl refl refl refl refl) c.draw_from.ensures.does);
      fault = c.draw_from.ensures.fault;
    }
