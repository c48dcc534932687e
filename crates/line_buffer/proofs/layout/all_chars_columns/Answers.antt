use Rattle.std.proofs.Common.{◌+◌, min, chars, rules, ◌∙◌, tests}
use Rattle.std.proofs.lemmas.Iterator.{YieldsList-from_chars}
use Rattle.std.proofs.lemmas.Iterator.Consumers.{fold_from_yields_List}
use Rattle.line_buffer.specs.Width.{char_columns_of}
use Rattle.line_buffer.proofs.WidthLemmas.{stopped_sum}
use Rattle.line_buffer.proofs.layout.all_chars_columns.Goals as goal

pub returns : goal.returns
returns c =
    fold_from_yields_List _ (λ t x. min (t + char_columns_of x) 18446744073709551615) 0 c.fold.result c.fold.ensures.ran
    (YieldsList-from_chars c.args.text.now c.utf8.text c.chars.ensures.rest) (λ t x b q k. search (rules, tests))
    ∙ stopped_sum char_columns_of 18446744073709551615 (chars c.args.text.now)
