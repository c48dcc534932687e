use Rattle.std.proofs.Common.{◌∙◌, rules}
use Rattle.std.proofs.lemmas.Fn.{always_returns_same}
use Rattle.sql_console.specs.Tokens.{alphabet}
use Rattle.sql_console.proofs.KeywordLemmas.{found}
use Rattle.sql_console.proofs.tokens.has_word.Goals as goal

pub returns : goal.returns
returns c =
    let answer = c.binary_search_by.ensures in
    let word = c.args.word.now in
    let position = answer.position (λ k. alphabet k.0.now word) (always_returns_same _ _ _ (λ a r f k. search rules)) in
    c.is_ok.ensures.value ∙ found c.args.table.now (λ k. k.0.now) word c.binary_search_by.result c.requires answer.bound position
