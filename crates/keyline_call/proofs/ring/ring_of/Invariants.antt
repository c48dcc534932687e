use Rattle.std.proofs.Common.{◌≡◌, ◌≤◌, ◌∷◌, length, map, take, slice_index_or}
use Rattle.std.specs.List.{All}
use Rattle.std.specs.Prelude.{string_bytes}
use Rattle.std.specs.Str.{IsUtf8}
use Rattle.keyline_call.specs.Slots.{AreLaidOut}
use Rattle.keyline_call.proofs.ring.ring_of.Given as goal

abbrev pub invariant-loop-end : goal.invariant-loop-end
invariant-loop-end l = record {
  laid_out : AreLaidOut (map string_bytes l.slots.items) (take l.start l.texts) (take l.end-index l.ends);
  count : length l.slots.items ≡ l.end-index;
  utf8 : All IsUtf8 (map string_bytes l.slots.items);
  start_is : l.start ≡ slice_index_or (0 ∷ l.ends) l.end-index 0;
  inside : l.start ≤ length l.texts;
}
