use Rattle.std.proofs.Common.{refl, sym, ap, ◌∙◌}
use Rattle.std.specs.Prelude.{slice_range}
use Rattle.line_editor.proofs.DrawnLemmas.{rewritten_rest}
use Rattle.line_editor.proofs.DoesLemmas.{does_from, stays_by}
use Rattle.line_editor.proofs.state.State.show_rewritten.Goals as goal

pub returns : goal.returns
returns g c =
    let s = c.args.self.now in
    record {
      does = rewritten_rest c.args.from c.args.upto c.position_at-at.result c.range-letters.result.now s _ _ c.position_at-at.ensures
          (c.range-letters.ensures.value ∙ ap (λ t. slice_range t c.args.from c.args.upto) c.as_str.ensures.value)
          (sym c.may_write_over.ensures.value ∙ c.if-may_write_over.false) c.requires.bare
          (does_from _ _ _ _ _ _ refl refl (stays_by refl refl refl refl refl refl) c.draw_from.ensures.does);
      fault = c.draw_from.ensures.fault;
    }
