use Rattle.std.proofs.Common.{ap, ◌∙◌, take, reverse, None}
use Rattle.std.specs.List.{last_or}
use Rattle.std.proofs.lemmas.Iterator.{YieldsList-from_take}
use Rattle.std.proofs.lemmas.Iterator.Consumers.{YieldsList-at}
use Rattle.unicode_segmentation.specs.Iter.{grapheme_indices_left}
use Rattle.line_buffer.proofs.ChainLemmas.{last_from_yields_List, YieldsList-from_back}
use Rattle.line_buffer.proofs.PartLemmas.{part_of_nth_back}
use Rattle.line_buffer.proofs.motion.nth_cluster_back.Goals as goal

pub returns-clause-value : goal.returns-clause-value
returns-clause-value c =
    last_from_yields_List c.last.result c.last.ensures.ran
    (YieldsList-from_take c.args.n (YieldsList-at c.take.ensures.source
    (YieldsList-from_back (λ p. (p.0, p.1.now)) grapheme_indices_left c.rev.result)) (c.take.ensures.count ∙ c.from.ensures))
    ∙ ap (λ s. last_or None (take c.args.n (reverse (grapheme_indices_left s)))) c.rev.ensures.source
    ∙ ap (λ xs. last_or None (take c.args.n (reverse xs))) c.grapheme_indices.ensures.left

pub returns-clause-part : goal.returns-clause-part
returns-clause-part c = part_of_nth_back c.args.text.now c.args.n c.last.result c.utf8.text (returns-clause-value c)
