use Rattle.std.proofs.Common.{sym, lit<, Some, None, rules}
use Rattle.std.proofs.lemmas.Str.Pattern.{find_char}
use Rattle.line_buffer.proofs.RowStartLemmas.{row_close_some, row_close_none}
use Rattle.line_buffer.proofs.rows.first_row_close.Goals as goal

pub returns-in-Some : goal.returns-in-Some
returns-in-Some c = record { value = sym (row_close_some c.args.text.now _ (find_char 10 _ (Some _) c.in-Some.ensures.cases (lit< tt))); boundary = search rules }

pub returns-in-None : goal.returns-in-None
returns-in-None c = record { value = sym (row_close_none c.args.text.now (find_char 10 _ None c.in-None.ensures.cases (lit< tt))); boundary = search rules }
