use Rattle.std.proofs.Common.{sym, ◌∙◌}
use Rattle.line_editor.proofs.SimpleLemmas.{plain_at_end}
use Rattle.line_editor.proofs.state.State.is_at_simple_end.Goals as goal

pub returns-then-self : goal.returns-then-self
returns-then-self g c =
    c.if-self.true ∙ sym (plain_at_end _ _ _ (sym c.is_cursor_at_end.ensures ∙ c.if-is_cursor_at_end.true) (sym c.args.self.now.recorded.is_plain ∙ c.if-self.true))
