use Rattle.std.proofs.Common.{◌≡◌, find, All}
use Rattle.unicode_segmentation.specs.Iter.{grapheme_indices_left}
use Rattle.line_buffer.specs.Clusters.{clusters}
use Rattle.line_buffer.specs.Words as Words
use Rattle.line_buffer.proofs.PartLemmas.{IsPartAt}
use Rattle.line_buffer.proofs.letter_case.first_alphanumeric.Given as goal

abbrev pub invariant-loop-i : goal.invariant-loop-i
invariant-loop-i l = record {
  found : find (λ x. Words.is_alphanumeric_cluster x.1) (clusters l.text) ≡ find (λ x. Words.is_alphanumeric_cluster x.1) (grapheme_indices_left l.i-iterator);
  parts : All (IsPartAt l.text) (grapheme_indices_left l.i-iterator);
}
