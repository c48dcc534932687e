use Rattle.std.proofs.Common.{◌∙◌, sym, arith}
use Rattle.std.proofs.Math.Seq.{take-length}
use Rattle.line_help.proofs.RowLemmas.{last_other, no_return}
use Rattle.line_help.proofs.history.rows.row_end.Goals as goal
use Rattle.line_help.proofs.history.rows.row_end.Goals.{else-len-gt0-via-then-len-gt0+else-row-len-eq13, else-len-gt0-via-else-len-gt0}

pub returns-clause-value : goal.returns-clause-value
returns-clause-value c =
    elim c.else-len-gt0.branch [
      | else-len-gt0-via-then-len-gt0+else-row-len-eq13 w ↦
          take-length c.args.row.now ∙ sym (last_other c.args.row.now _ (omega arith) w.if-row-len-eq13.false)
      | else-len-gt0-via-else-len-gt0 w ↦ take-length c.args.row.now ∙ sym (no_return c.args.row.now (omega arith))
    ]
