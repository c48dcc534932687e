use Rattle.std.proofs.Common.{refl, sym, ap, ◌∙◌}
use Rattle.std.specs.Prelude.{drop}
use Rattle.line_editor.proofs.DrawnLemmas.{put_in_drawn}
use Rattle.line_editor.proofs.DoesLemmas.{does_from, stays_by}
use Rattle.line_editor.proofs.state.State.show_put_in.Goals as goal

pub returns : goal.returns
returns g c =
    let s = c.args.self.now in
    record {
      does = put_in_drawn c.args.ch c.range_from-rest.result.now s _ _
          (c.range_from-rest.ensures.value ∙ ap (drop c.pos-pos.result) c.as_str.ensures.value ∙ ap (λ place. drop place s.recorded.line.text) c.pos-pos.ensures.value)
          (sym c.may_put_in.ensures.value ∙ c.if-may_put_in.false) (does_from _ _ _ _ _ _ refl refl (stays_by refl refl refl refl refl refl) c.draw_with.ensures.does);
      fault = c.draw_with.ensures.fault;
    }
