use Rattle.std.proofs.Common.{map, take}
use Rattle.std.specs.Prelude.{string_bytes}
use Rattle.keyline_call.specs.Slots.{AreLaidOut}
use Rattle.keyline_call.proofs.ring.slots_of.Given as goal

abbrev pub invariant-loop-text : goal.invariant-loop-text
invariant-loop-text l = AreLaidOut (map string_bytes (take l.text-index l.slots)) l.texts.items l.ends.items
