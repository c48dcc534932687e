use Rattle.std.proofs.Common.{◌∙◌, ap, arith}
use Rattle.std.proofs.lemmas.List.{take_rest}
use Rattle.sql_console.specs.Tokens.{first_token}
use Rattle.sql_console.proofs.TokenLemmas.{tokens_next}
use Rattle.sql_console.proofs.tokens.next_token.Goals as goal

pub returns : goal.returns
returns c =
    let span = c.first_token-span in
    let value = span.ensures.value ∙ ap first_token (take_rest c.args.text.now c.args.from.at) in
    tokens_next c.args.from.at c.args.text.now span.result value (omega (arith, c.if-from-text.false)) span.ensures.within.0
