use Rattle.line_buffer.proofs.IndentLaws as IndentLaws
use Rattle.line_buffer.proofs.laws.rows_get_their_margin.Goals as goal

pub returns : goal.returns
returns c = IndentLaws.rows_get_their_margin
