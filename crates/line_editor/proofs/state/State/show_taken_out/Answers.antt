use Rattle.std.proofs.Common.{refl, sym, ap, ◌∙◌}
use Rattle.std.specs.Prelude.{take, drop}
use Rattle.line_editor.proofs.DrawnLemmas.{taken_out_rest}
use Rattle.line_editor.proofs.DoesLemmas.{does_from, stays_by}
use Rattle.line_editor.proofs.state.State.show_taken_out.Goals as goal

pub returns : goal.returns
returns g c =
    let s = c.args.self.now in
    record {
      does = taken_out_rest c.args.count c.pos-pos.result c.position_at-at.result c.range_from-rest.result.now s _ _
          (c.position_at-at.ensures ∙ ap (λ place. (g.Out.Renderer.canvas.ruler s.out).measure (take place s.recorded.line.text) s.layout.prompt_size) c.pos-pos.ensures.value)
          (c.range_from-rest.ensures.value ∙ ap (drop c.pos-pos.result) c.as_str.ensures.value ∙ ap (λ place. drop place s.recorded.line.text) c.pos-pos.ensures.value)
          (sym c.may_take_out.ensures.value ∙ c.if-may_take_out.false) c.requires.bare c.pos-pos.ensures.value
          (does_from _ _ _ _ _ _ refl refl (stays_by refl refl refl refl refl refl) c.draw_from.ensures.does);
      fault = c.draw_from.ensures.fault;
    }
