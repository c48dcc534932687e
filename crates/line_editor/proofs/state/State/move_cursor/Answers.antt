-- The highlighter called, and the line drawn.
use Rattle.std.proofs.Common.{rules}
use Rattle.line_editor.proofs.MarkLemmas.{moved_marked}
use Rattle.line_editor.proofs.state.State.move_cursor.Goals as goal

pub returns-then-self : goal.returns-then-self
returns-then-self g c = record {
  does = moved_marked c.args.kind c.args.self.now _ _ _ c.mark.ensures.value c.mark.ensures.out c.mark.ensures.layout c.mark.ensures.stays (search rules) c.draw_with.ensures.does;
  fault = c.draw_with.ensures.fault;
}
