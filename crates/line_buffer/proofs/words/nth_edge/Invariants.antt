use Rattle.std.proofs.Common.{◌≡◌, ◌<◌, ◌-◌, ◌∷◌, drop, length, slice_get, IsCharBoundary}
use Rattle.line_buffer.specs.Words.{clusters_at, edges_of, kinds}
use Rattle.line_buffer.proofs.words.nth_edge.Given as goal

abbrev pub invariant-loop-last : goal.invariant-loop-last
invariant-loop-last l = record {
  some : 0 < l.missing;
  boundary : IsCharBoundary l.text l.place;
  found : slice_get (edges_of l.at (kinds l.word (clusters_at l.from (drop l.from l.text)))) (l.fn.n - 1) ≡ slice_get (edges_of l.at (l.left ∷ kinds l.word (clusters_at l.place (drop l.place l.text)))) (l.missing - 1);
}

abbrev pub decreases-loop-last : goal.decreases-loop-last
decreases-loop-last l = length l.text - l.place
