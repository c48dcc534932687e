use Rattle.line_buffer.proofs.RowStartLemmas.{finds_row_start, is_newline}
use Rattle.line_buffer.proofs.rows.last_row_start.Goals as goal

pub returns : goal.returns
returns c =
    finds_row_start c.args.text.now c.as_bytes.result.now c.run_from.result c.as_bytes.ensures.value c.utf8.text c.run_from.ensures.bound
    (λ l. is_newline _ (c.run_from.ensures.before l)) c.run_from.ensures.run
