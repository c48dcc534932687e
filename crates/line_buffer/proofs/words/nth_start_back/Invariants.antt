use Rattle.std.proofs.Common.{◌≡◌, ◌<◌, ◌-◌, ◌∷◌, ◌++◌, [], take, reverse, slice_get, IsCharBoundary}
use Rattle.line_buffer.specs.Clusters.{clusters}
use Rattle.line_buffer.specs.Words.{edges_of, kinds}
use Rattle.line_buffer.specs.declared.types.At.TheVariants.{Start}
use Rattle.line_buffer.proofs.words.nth_start_back.Given as goal

abbrev pub invariant-loop-start : goal.invariant-loop-start
invariant-loop-start l = record {
  some : 0 < l.missing;
  boundary : IsCharBoundary l.text l.end;
  found : slice_get (reverse (edges_of Start (kinds l.word (clusters l.text)))) (l.fn.n - 1) ≡ slice_get (reverse (edges_of Start (kinds l.word (clusters (take l.end l.text)) ++ (l.end, l.right) ∷ []))) (l.missing - 1);
}

abbrev pub decreases-loop-start : goal.decreases-loop-start
decreases-loop-start l = l.end
