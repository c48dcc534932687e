use Rattle.std.proofs.Common.{ap, length, take, true, ◌∙◌}
use Rattle.std.proofs.lemmas.Iterator.{YieldsList-from_take}
use Rattle.std.proofs.lemmas.Iterator.Consumers.{YieldsList-at, count_from_yields_List}
use Rattle.std.proofs.lemmas.List.{length-take}
use Rattle.unicode_segmentation.proofs.SegmentsLemmas.{YieldsList-from_gives}
use Rattle.unicode_segmentation.specs.Grapheme.{graphemes}
use Rattle.unicode_segmentation.specs.Iter.{graphemes_left}
use Rattle.line_buffer.proofs.clusters.clusters_up_to.Goals as goal

pub returns : goal.returns
returns c =
    count_from_yields_List {v = λ x. x.now} _ _ c.count.ensures.ran
    (YieldsList-from_take c.args.most (YieldsList-at c.take.ensures.source (YieldsList-from_gives (λ x. x.now) graphemes_left c.graphemes.result)) c.take.ensures.count)
    ∙ ap (λ xs. length (take c.args.most xs)) c.graphemes.ensures.left
    ∙ length-take c.args.most (graphemes true c.args.text.now)
