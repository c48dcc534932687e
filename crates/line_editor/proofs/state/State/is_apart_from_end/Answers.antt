use Rattle.std.proofs.Common.{sym, ◌∙◌}
use Rattle.line_editor.proofs.CharacterRanges.{plain_apart}
use Rattle.line_editor.proofs.state.State.is_apart_from_end.Goals as goal
use Rattle.line_editor.proofs.state.State.is_apart_from_end.Goals.{then-self, else-self}

pub returns-then-is_printable : goal.returns-then-is_printable
returns-then-is_printable g c =
    let s = c.args.self.now in
    elim c.if-self.branch [
      | then-self w ↦
          c.if-is_printable.true
          ∙ sym (plain_apart s.recorded.line.text c.args.ch (sym s.recorded.is_plain ∙ w.if-self.true) (sym w.is_printable.ensures.value ∙ sym w.value-is ∙ c.if-is_printable.true))
      | else-self w ↦ let none = sym w.value-is ∙ c.if-is_printable.true in cc
    ]
