use Rattle.std.proofs.Common.{◌≡◌, ◌∙◌, sym, [], Some, string_bytes, rules}
use Rattle.std.proofs.lemmas.List.{nil_from_length}
use Rattle.std.specs.Str.Iter.{chars_rest}
use Rattle.line_help.specs.Quotes.{escape_in}
use Rattle.line_help.proofs.QuoteLemmas.{all_escaped}
use Rattle.line_help.proofs.completion.quotes.escape.Goals as goal

pub returns-clause-text : goal.returns-clause-text
returns-clause-text g c breaks tells =
    let is : escape_in c.args.quote c.args.esc_char ≡ Some c.in-Some.esc = search rules in
    let ended : chars_rest c.loop-c.c-iterator ≡ [] = nil_from_length (chars_rest c.loop-c.c-iterator) c.in-None.ensures.steps.0.0 in
    rw is (sym (c.loop-c.invariant.read breaks tells ∙ all_escaped c.in-Some.esc breaks (string_bytes c.loop-c.text) (chars_rest c.loop-c.c-iterator) ended))
