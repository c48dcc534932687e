use Rattle.std.proofs.Common.{◌≡◌, drop}
use Rattle.line_help.specs.Quotes.{unclosed_quote}
use Rattle.line_help.proofs.QuoteLemmas.{scanning}
use Rattle.line_help.proofs.completion.quotes.find_unclosed_quote.Given as goal

abbrev pub invariant-loop-place : goal.invariant-loop-place
invariant-loop-place l = unclosed_quote l.bytes ≡ scanning l.escapes l.within l.place (drop l.place l.bytes)
