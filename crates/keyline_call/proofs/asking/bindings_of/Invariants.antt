use Rattle.std.proofs.Common.{◌≡◌, ◌||◌, [], length}
use Rattle.std.specs.Prelude.{is_some}
use Rattle.std.specs.List.{list_any}
use Rattle.line_keys.specs.Events.{find}
use Rattle.line_keys.specs.declared.events.Event.{Event}
use Rattle.keyline_call.specs.Asks.{names, rows_of}
use Rattle.keyline_call.proofs.asking.bindings_of.Given as goal

abbrev pub invariant-loop-rest : goal.invariant-loop-rest
invariant-loop-rest l = ((e : Event) → list_any (names l.fn.mode e) (rows_of l.fn.text) ≡ (is_some (find e l.bindings) || list_any (names l.fn.mode e) (rows_of l.rest)))
    × (l.fn.text ≡ [] → l.rest ≡ [])

abbrev pub decreases-loop-rest : goal.decreases-loop-rest
decreases-loop-rest l = length l.rest
