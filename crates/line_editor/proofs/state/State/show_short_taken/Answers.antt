use Rattle.std.proofs.Common.{sym, ◌∙◌}
use Rattle.line_editor.proofs.DrawnLemmas.{taken_drawn, taken_rest}
use Rattle.line_editor.proofs.state.State.show_short_taken.Goals as goal

pub returns-then-partial_redraw : goal.returns-then-partial_redraw
returns-then-partial_redraw g c = record {
  does = taken_rest c.args.count c.pos-left.result _ _ _ (sym c.may_take.ensures.value ∙ c.if-may_take.false) (sym c.partial_redraw.ensures ∙ c.if-partial_redraw.true) c.requires.bare c.pos-left.ensures.value c.draw_from.ensures.does;
  fault = c.draw_from.ensures.fault;
}

pub returns : goal.returns
returns g c = record {
  does = taken_drawn c.args.count _ _ _ (sym c.may_take.ensures.value ∙ c.if-may_take.false) (sym c.partial_redraw.ensures ∙ c.if-partial_redraw.false) c.draw_with.ensures.does;
  fault = c.draw_with.ensures.fault;
}
