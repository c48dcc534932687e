use Rattle.line_buffer.proofs.RowStartLemmas.{finds_row_end, is_newline}
use Rattle.line_buffer.proofs.rows.first_row_end.Goals as goal

pub returns : goal.returns
returns c =
    finds_row_end c.args.text.now c.as_bytes.result.now c.run_upto.result c.as_bytes.ensures.value c.run_upto.ensures.bound
    (λ l. is_newline _ (c.run_upto.ensures.behind l)) c.run_upto.ensures.run
