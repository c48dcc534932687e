use Rattle.std.proofs.Common.{Some, rules, ap, ◌∙◌, take, None}
use Rattle.std.specs.List.{last_or}
use Rattle.std.proofs.lemmas.Iterator.{YieldsList-from_take}
use Rattle.std.proofs.lemmas.Iterator.Consumers.{YieldsList-at}
use Rattle.unicode_segmentation.proofs.SegmentsLemmas.{YieldsList-from_gives}
use Rattle.unicode_segmentation.specs.Iter.{grapheme_indices_left}
use Rattle.line_buffer.proofs.ChainLemmas.{last_from_yields_List}
use Rattle.line_buffer.proofs.PartLemmas.{part_of_nth}
use Rattle.line_buffer.proofs.motion.nth_cluster.Goals as goal

pub returns-clause-value : goal.returns-clause-value
returns-clause-value c =
    last_from_yields_List c.last.result c.last.ensures.ran
    (YieldsList-from_take c.args.n (YieldsList-at c.take.ensures.source
    (YieldsList-from_gives (λ p. (p.0, p.1.now)) grapheme_indices_left c.grapheme_indices.result)) (c.take.ensures.count ∙ c.from.ensures))
    ∙ ap (λ xs. last_or None (take c.args.n xs)) c.grapheme_indices.ensures.left

pub returns-clause-part : goal.returns-clause-part
returns-clause-part c = part_of_nth c.args.text.now c.args.n c.last.result c.utf8.text (returns-clause-value c)

pub returns-then-begins_with_letters-clause-part : goal.returns-then-begins_with_letters-clause-part
returns-then-begins_with_letters-clause-part c =
    part_of_nth c.args.text.now c.args.n (Some (0, c.range.result)) c.utf8.text (search rules)
