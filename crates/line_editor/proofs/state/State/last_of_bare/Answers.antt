use Rattle.std.proofs.Common.{None, sym, ap, ◌∙◌}
use Rattle.std.specs.Prelude.{chars}
use Rattle.std.specs.List.{last_or}
use Rattle.line_editor.proofs.CharacterRanges.{last_of_text}
use Rattle.line_editor.proofs.state.State.last_of_bare.Goals as goal

pub returns-then-is_bare : goal.returns-then-is_bare
returns-then-is_bare g c =
    c.last_char.ensures
    ∙ ap (λ t. last_or None (chars t)) c.as_str.ensures.value
    ∙ last_of_text _ _ c.args.self.now.recorded.line.text (sym c.partial_redraw.ensures ∙ c.if-partial_redraw.true) (sym c.is_bare.ensures ∙ c.if-is_bare.true) c.as_str.ensures.utf8
