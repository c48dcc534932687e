-- The hint dropped, the highlighter called, and the line drawn.
use Rattle.std.proofs.Common.{refl}
use Rattle.std.specs.Prelude.{option_copied}
use Rattle.line_editor.specs.Drawing.{draw_effect_with, message_effect}
use Rattle.line_editor.proofs.MarkLemmas.{marked_from}
use Rattle.line_editor.proofs.state.State.tell.Goals as goal

pub returns : goal.returns
returns g c = record {
  does = marked_from (draw_effect_with (option_copied c.args.message)) (message_effect (option_copied c.args.message) c.args.kind) c.args.kind c.args.self.now _ _ _ _ refl refl refl (record { ruler = refl; prompt = refl; history_is = refl; hooks_are = refl; marks_are = refl; config_is = refl })
      c.mark.ensures.value c.mark.ensures.out c.mark.ensures.layout c.mark.ensures.stays refl c.draw_with.ensures.does;
  fault = c.draw_with.ensures.fault;
}
