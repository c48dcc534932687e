-- The hint dropped, the highlighter called, and the line drawn or left.
use Rattle.std.proofs.Common.{rules, refl}
use Rattle.line_editor.proofs.MarkLemmas.{bare_drawn, bare_kept}
use Rattle.line_editor.proofs.state.State.bare_line.Goals as goal

pub returns-then-self : goal.returns-then-self
returns-then-self g c = record {
  does = bare_drawn c.args.self.now _ _ _ _ refl refl refl (record { ruler = refl; prompt = refl; history_is = refl; hooks_are = refl; marks_are = refl; config_is = refl })
      c.mark.ensures.value c.mark.ensures.out c.mark.ensures.layout c.mark.ensures.stays (search rules) c.draw_with.ensures.does;
}

pub returns-else-self : goal.returns-else-self
returns-else-self g c = record {
  does = bare_kept c.args.self.now _ _ _ _ refl refl refl (record { ruler = refl; prompt = refl; history_is = refl; hooks_are = refl; marks_are = refl; config_is = refl })
      c.mark.ensures.value c.mark.ensures.out c.mark.ensures.layout c.mark.ensures.stays (search rules) c.show_bare.ensures.does;
}
