use Rattle.std.proofs.Common.{◌≡◌, true, sym, ◌∙◌}
use Rattle.line_buffer.specs.Printable.{is_plain}
use Rattle.line_edits.proofs.PlainLemmas.{indented_plain, answered_plain}
use Rattle.line_edits.proofs.recorded_line.RecordedLine.indent.Goals as goal

pub invariant_of-self-clause-is_plain : goal.invariant_of-self-clause-is_plain
invariant_of-self-clause-is_plain c =
    let l = c.args.self.now.line in
    let plain : is_plain l.text ≡ true = sym c.args.self.now.is_plain ∙ c.if-self.true in
    c.if-self.true ∙ sym (answered_plain c.rows_told-done.result _ c.rows_told-done.new.line c.rows_told-done.ensures.writes.line (sym c.is_ok.ensures.value ∙ c.if-is_ok.true) (indented_plain c.args.movement.now c.args.amount c.args.dedent l plain))
