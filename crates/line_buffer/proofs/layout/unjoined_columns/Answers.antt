use Rattle.std.proofs.Common.{◌+◌, min, false, chars, rules, ◌∙◌, tests}
use Rattle.std.proofs.lemmas.Iterator.Consumers.{fold_from_yields_List}
use Rattle.unicode_width.specs.Width.{str_width}
use Rattle.line_buffer.proofs.PartingLemmas.{parts_between_joiners}
use Rattle.line_buffer.proofs.WidthLemmas.{stopped_sum, YieldsList-from_split_char}
use Rattle.line_buffer.proofs.layout.unjoined_columns.Goals as goal

pub returns : goal.returns
returns c =
    fold_from_yields_List _ (λ t x. min (t + str_width false x) 18446744073709551615) 0 c.fold.result c.fold.ensures.ran
    (YieldsList-from_split_char 0x200D c.args.text.now c.utf8.text c.split.ensures.text c.split.ensures.has_more c.split.ensures.pattern) (λ t x b q k. search (rules, tests))
    ∙ stopped_sum (str_width false) 18446744073709551615 (parts_between_joiners (chars c.args.text.now))
