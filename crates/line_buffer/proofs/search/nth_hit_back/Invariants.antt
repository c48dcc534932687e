use Rattle.std.proofs.Common.{◌≡◌, take, reverse, IsUtf8}
use Rattle.std.specs.List.{last_or}
use Rattle.std.specs.Iterator.Adapters.{rev_source}
use Rattle.std.specs.Str.Iter.{char_indices_rest, char_indices_offset}
use Rattle.line_buffer.specs.Clusters.{nth_or_last}
use Rattle.line_buffer.specs.Hits.{hits}
use Rattle.line_buffer.proofs.HitLemmas.{hits_from}
use Rattle.line_buffer.proofs.search.nth_hit_back.Given as goal

abbrev pub invariant-loop-i : goal.invariant-loop-i
invariant-loop-i l = record {
  utf8 : IsUtf8 (char_indices_rest (rev_source l.i-iterator));
  found : nth_or_last l.fn.n (reverse (hits l.c l.text)) ≡ last_or l.found (take l.missing (reverse (hits_from (char_indices_offset (rev_source l.i-iterator)) l.c (char_indices_rest (rev_source l.i-iterator)))));
}
