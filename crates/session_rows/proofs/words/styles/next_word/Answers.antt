use Rattle.std.proofs.Common.{◌∙◌, ap, arith}
use Rattle.std.proofs.lemmas.List.{take_rest}
use Rattle.session_rows.specs.Styles.{first_word}
use Rattle.session_rows.proofs.WordLemmas.{words_next}
use Rattle.session_rows.proofs.words.styles.next_word.Goals as goal

pub returns : goal.returns
returns c =
    let span = c.first_word-span in
    let value = span.ensures.value ∙ ap (first_word c.args.keyword.now c.args.style) (take_rest c.args.text.now c.args.from.at) in
    words_next c.args.keyword.now c.args.style c.args.from.at c.args.text.now span.result value
    (omega (arith, c.if-from-text.false)) span.ensures.within.0
