use Rattle.line_help.proofs.OpenQuotes.{unclosed_quote_is_open}
use Rattle.line_help.proofs.laws.unclosed_quote_is_open.Goals as goal

pub returns : goal.returns
returns c = unclosed_quote_is_open
