use Rattle.std.proofs.Common.{refl}
use Rattle.line_editor.proofs.DrawnLemmas.{appended_drawn}
use Rattle.line_editor.proofs.DoesLemmas.{does_from, stays_by}
use Rattle.line_editor.proofs.state.State.show_appended.Goals as goal

pub returns-then-self : goal.returns-then-self
returns-then-self g c = record {
  does = appended_drawn c.args.ch _ _ _ c.if-self.true (does_from _ _ _ _ _ _ refl refl (stays_by refl refl refl refl refl refl) c.draw_with.ensures.does);
  fault = c.draw_with.ensures.fault;
}
