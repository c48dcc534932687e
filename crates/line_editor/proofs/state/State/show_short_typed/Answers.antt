use Rattle.std.proofs.Common.{refl, sym, ◌∙◌}
use Rattle.line_editor.proofs.DrawnLemmas.{typed_drawn}
use Rattle.line_editor.proofs.DoesLemmas.{does_from, stays_by}
use Rattle.line_editor.proofs.state.State.show_short_typed.Goals as goal

pub returns : goal.returns
returns g c = record {
  does = typed_drawn c.args.ch _ _ _ (sym c.may_type.ensures.value ∙ c.if-may_type.false)
      (does_from _ _ _ _ _ _ refl refl (stays_by refl refl refl refl refl refl) c.draw_with.ensures.does);
  fault = c.draw_with.ensures.fault;
}
